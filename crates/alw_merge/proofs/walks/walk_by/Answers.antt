-- Each span goes on where the one before it ends, and the last goes on to the end.
use Rattle.std.proofs.Common.{sym, ◌∙◌, arith}
use Rattle.alw_mesh.proofs.OneNode.{few_nodes}
use Rattle.alw_merge.proofs.Joining.{courses_counted}
use Rattle.alw_merge.proofs.Spanned.{begins, next_within, goes_on, ends}
use Rattle.alw_merge.proofs.walks.walk_by.Goals as goal

pub nothing-requires : goal.nothing-requires
nothing-requires g c =
    omega (arith, c.len.ensures, few_nodes c.args.image.now c.parts-allowed.ensures.allowed, c.requires.read.counted, courses_counted c.args.logs.now c.args.dids.now c.requires.counted)

pub loop-span-init : goal.loop-span-init
loop-span-init g c =
    let nodes = c.len.ensures ∙ (sym (courses_counted c.args.logs.now c.args.dids.now c.requires.counted) ∙ c.requires.read.counted) in
    begins (omega (arith, c.max-count.ensures)) c.in_ok-spans.ensures c.into_iter-span-iterator.ensures.into_iter_gives.0 nodes c.in_ok-walked.ensures

pub append-requires : goal.append-requires
append-requires g c = next_within c.loop-span.invariant c.requires.read.legal c.in-Some.ensures.steps.0 c.in_ok-span.was

pub loop-span-preserved : goal.loop-span-preserved
loop-span-preserved g c = goes_on c.loop-span.invariant c.requires.read.legal c.in-Some.ensures.steps.0 c.in_ok-span.was c.in_ok-walked-2.ensures

pub returns-clause-journal : goal.returns-clause-journal
returns-clause-journal g c = (ends c.loop-span.invariant (omega (arith, c.in-None.ensures.steps.0, c.loop-span.span-iterator.rest.ok.0))).0

pub returns-clause-walked : goal.returns-clause-walked
returns-clause-walked g c = (ends c.loop-span.invariant (omega (arith, c.in-None.ensures.steps.0, c.loop-span.span-iterator.rest.ok.0))).1

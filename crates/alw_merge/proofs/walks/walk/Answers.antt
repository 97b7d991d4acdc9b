-- One span is all.
use Rattle.std.proofs.Common.{sym, ◌∙◌, arith}
use Rattle.std.proofs.lemmas.Result.{IfOk-weaker}
use Rattle.alw_mesh.proofs.OneNode.{few_nodes}
use Rattle.alw_merge.proofs.Joining.{courses_counted}
use Rattle.alw_merge.proofs.Spanned.{whole_within, whole_walked, all_walked}
use Rattle.alw_merge.proofs.walks.walk.Goals as goal

pub nothing-requires : goal.nothing-requires
nothing-requires c =
    omega (arith, c.len.ensures, few_nodes c.args.image.now c.parts-allowed.ensures.allowed, c.requires.read.counted, courses_counted c.args.logs.now c.args.dids.now c.requires.counted)

pub append-requires : goal.append-requires
append-requires c =
    let nodes = c.len.ensures ∙ (sym (courses_counted c.args.logs.now c.args.dids.now c.requires.counted) ∙ c.requires.read.counted) in
    whole_within c.requires.read.legal nodes c.in_ok-nothing.ensures c.in_ok-span.ensures

pub returns-clause-journal : goal.returns-clause-journal
returns-clause-journal c =
    let nodes = c.len.ensures ∙ (sym (courses_counted c.args.logs.now c.args.dids.now c.requires.counted) ∙ c.requires.read.counted) in
    IfOk-weaker c.append.result _ _ (λ more on. (all_walked (whole_walked c.requires.read.legal nodes c.in_ok-nothing.ensures c.in_ok-span.ensures on)).0) c.append.ensures

pub returns-clause-walked : goal.returns-clause-walked
returns-clause-walked c =
    let nodes = c.len.ensures ∙ (sym (courses_counted c.args.logs.now c.args.dids.now c.requires.counted) ∙ c.requires.read.counted) in
    IfOk-weaker c.append.result _ _ (λ more on. (all_walked (whole_walked c.requires.read.legal nodes c.in_ok-nothing.ensures c.in_ok-span.ensures on)).1) c.append.ensures

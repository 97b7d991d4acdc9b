-- One event more is read.
use Rattle.std.proofs.Common.{ℕ, ◌≤◌, ◌<◌, List, length, sym, ap, subst, ◌∙◌, arith}
use Rattle.std.proofs.lemmas.List.{length-map}
use Rattle.alw_msg.specs.declared.messages.Msg.{Msg}
use Rattle.alw_msg.specs.Events.{node_of}
use Rattle.alw_model.specs.Threads.{Logs, log_at, merged}
use Rattle.alw_cells.specs.Logs.{logged}
use Rattle.alw_merge.specs.Joins.{dids_at}
use Rattle.alw_merge.specs.Spans.{place_of, log_from, MayFollow, Follows}
use Rattle.alw_merge.proofs.Joining.{lists_same}
use Rattle.alw_merge.proofs.Spanning.{merged_rises, place_before}
use Rattle.alw_merge.proofs.Behind.{lefts_fit}
use Rattle.alw_merge.proofs.Walking.{read_off, told_follows, merging_begins, merging_ends, follows_here, follows_may, merges_on, reaches_on}
use Rattle.alw_merge.proofs.spans.walk_span.Goals as goal

pub rests_of-requires-clause-as_many : goal.rests_of-requires-clause-as_many
rests_of-requires-clause-as_many c =
    lists_same c.args.logs.now c.args.dids.now c.requires.counted ∙ (sym (length-map (logged c.args.logs.now) (log_from c.args.low)) ∙ ap (λ (logs : Logs). length logs) (sym c.in_ok-events.ensures))

pub rests_of-requires-clause-fit : goal.rests_of-requires-clause-fit
rests_of-requires-clause-fit c =
    let fits = lefts_fit c.args.image.now c.args.params.now c.args.low (logged c.args.logs.now) c.args.dids.now (lists_same c.args.logs.now c.args.dids.now c.requires.counted) c.requires.read (merged_rises (logged c.args.logs.now)) in
    subst (λ (logs : Logs). (n : ℕ) → n < length c.args.dids.now → length (log_at logs n) ≤ length (dids_at c.args.dids.now n)) (sym c.in_ok-events.ensures) fits

pub loop-high-init : goal.loop-high-init
loop-high-init c =
    let journal = merged (logged c.args.logs.now) in
    let start = place_of c.args.low journal in
    let all = logged c.args.logs.now in
    let begins = merging_begins c.args.image.now c.args.params.now c.args.low all c.args.dids.now c.start.result.told (lists_same c.args.logs.now c.args.dids.now c.requires.counted) c.requires.read c.start.ensures in
    (rw (c.empty.ensures, c.in_ok-rests.ensures, c.in_ok-events.ensures, c.new.ensures.items) begins, omega (arith, place_before c.args.low c.args.high journal c.requires.bounds, ap length c.empty.ensures))

pub tell-requires-clause-here : goal.tell-requires-clause-here
tell-requires-clause-here c = follows_here c.parts-allowed.ensures.allowed c.requires.read.legal c.loop-high.invariant.0 c.in-Some.ensures.read

pub tell-requires-clause-follows : goal.tell-requires-clause-follows
tell-requires-clause-follows c = follows_may c.parts-allowed.ensures.allowed c.requires.read.legal c.loop-high.invariant.0 c.in-Some.ensures.read

pub loop-high-smaller-in-Some : goal.loop-high-smaller-in-Some
loop-high-smaller-in-Some c =
    omega (arith, ap length c.in-Some.ensures.read.first)

pub loop-high-preserved-in-Some : goal.loop-high-preserved-in-Some
loop-high-preserved-in-Some c =
    let more = c.in_ok-tell.ensures.journal in
    let next = c.in-Some.ensures.read in
    let allowed = c.parts-allowed.ensures.allowed in (
      merges_on allowed c.requires.read.legal c.loop-high.invariant.0 next more (told_follows c.in-Some.ensures.plain c.in_ok-tell.ensures.told),
      reaches_on allowed c.requires.read.legal c.loop-high.invariant.0 next c.args.high (merged_rises (logged c.args.logs.now)) (sym c.is_past.ensures ∙ c.loop-high-test.true) more,
    )

pub follow-requires-clause-here : goal.follow-requires-clause-here
follow-requires-clause-here c =
    let read = read_off c.in_default.ensures.none c.in-Some-2.is c.in_ok-read.ensures in
    follows_here c.parts-allowed.ensures.allowed c.requires.read.legal c.loop-high.invariant.0 read

pub follow-requires-clause-follows : goal.follow-requires-clause-follows
follow-requires-clause-follows c =
    let read = read_off c.in_default.ensures.none c.in-Some-2.is c.in_ok-read.ensures in
    subst (λ (sends : List (ℕ × Msg)). MayFollow sends (dids_at c.loop-high.rests.items (node_of c.in-Some-2.read.entry.event))) (sym c.deref.ensures.value)
    (follows_may c.parts-allowed.ensures.allowed c.requires.read.legal c.loop-high.invariant.0 read)

pub loop-high-smaller : goal.loop-high-smaller
loop-high-smaller c =
    let read = read_off c.in_default.ensures.none c.in-Some-2.is c.in_ok-read.ensures in
    omega (arith, ap length read.first)

pub loop-high-preserved : goal.loop-high-preserved
loop-high-preserved c =
    let read = read_off c.in_default.ensures.none c.in-Some-2.is c.in_ok-read.ensures in
    let allowed = c.parts-allowed.ensures.allowed in
    let follows = subst (λ (sends : List (ℕ × Msg)). Follows c.args.image.now c.in-Some-2.read sends c.loop-high.rests.items c.follow.new.rests.items c.loop-high.span.moves.items c.follow.new.span.moves.items
    c.loop-high.span.tally.told c.follow.new.span.tally.told) c.deref.ensures.value c.in_ok-follow.ensures.follows in (
      merges_on allowed c.requires.read.legal c.loop-high.invariant.0 read c.in_ok-follow.ensures.journal follows,
      reaches_on allowed c.requires.read.legal c.loop-high.invariant.0 read c.args.high (merged_rises (logged c.args.logs.now)) (sym c.is_past.ensures ∙ c.loop-high-test.true) c.in_ok-follow.ensures.journal,
    )

pub returns : goal.returns
returns c =
    merging_ends c.args.image.now c.args.params.now (merged (logged c.args.logs.now)) c.args.low c.args.high c.loop-high.span c.loop-high.events c.loop-high.rests.items (merged_rises (logged c.args.logs.now))
    (sym c.is_past.ensures ∙ c.loop-high-test.false) c.loop-high.invariant.0 c.loop-high.invariant.1

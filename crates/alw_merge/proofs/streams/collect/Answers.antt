-- One message more.
use Rattle.std.proofs.Common.{◌≡◌, ℕ, ◌++◌, ◌∷◌, [], List, Some, take, slice_get, sym, ap, ◌∙◌}
use Rattle.std.proofs.lemmas.List.{take_more}
use Rattle.std.proofs.lemmas.Option.{get_or_from_slice_get, slice_get_within}
use Rattle.alw_msg.specs.declared.messages.Msg.{Msg}
use Rattle.alw_cells.specs.Logs.{sent_of}
use Rattle.alw_merge.proofs.streams.collect.Goals as goal

pub loop-to-preserved : goal.loop-to-preserved
loop-to-preserved c =
    let all = sent_of c.args.log.now.given in
    let send : ℕ × Msg = (c.in-Some.to.0, c.in-Some.msg) in
    let read : slice_get all c.loop-to.i ≡ Some send = sym c.in-Some.ensures.sent in
    c.in_ok-push.ensures.items ∙ (ap (λ (sends : List (ℕ × Msg)). sends ++ send ∷ []) c.loop-to.invariant
    ∙ sym (take_more all c.loop-to.i send (slice_get_within all c.loop-to.i send read) ∙ ap (λ (s : ℕ × Msg). take c.loop-to.i all ++ s ∷ []) (get_or_from_slice_get all c.loop-to.i send send read)))

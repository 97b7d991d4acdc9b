-- The first message that brings something.
use Rattle.std.proofs.Common.{◌≡◌, List, [], option_to_list, refl, sym, ap, subst, ◌∙◌}
use Rattle.std.proofs.lemmas.Iterator.Consumers.{YieldsList-from_first, YieldsList-so_far, YieldsList-turn}
use Rattle.alw_msg.specs.declared.messages.Msg.{Msg}
use Rattle.alw_mesh.specs.Values.{brought_out, all_brought_out}
use Rattle.alw_mesh.proofs.Finding.{out_more, first_is}
use Rattle.alw_mesh.proofs.values.brought_out_on.Goals as goal

pub returns-in-Some-brought_out : goal.returns-in-Some-brought_out
returns-in-Some-brought_out c =
    let line = c.args.line.0 in
    let road = YieldsList-from_first (λ msg. msg.now) (λ rest. rest) c.args.link c.into_iter-msg-iterator.ensures.into_iter_gives in
    let turn = YieldsList-turn road c.loop-msg.yielded _ c.loop-msg.yielded_by _ _ c.in-Some.msg c.in-Some.is c.next.ensures.steps in
    let so_far = YieldsList-so_far road c.loop-msg.yielded _ c.loop-msg.yielded_by in
    let (_, _, none) = c.loop-msg.invariant in
    first_is (brought_out line) (all_brought_out line) refl (out_more line) c.args.link _ c.in-Some.msg.now c.in-Some-brought_out.body turn.0
    (subst (λ (msgs : List Msg). all_brought_out line msgs ≡ []) so_far none) turn.1 (sym c.brought_out.ensures ∙ ap option_to_list c.in-Some-brought_out.is)

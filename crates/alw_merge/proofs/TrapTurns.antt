-- A context has trapped where a turn was a trapping one, and nowhere else.
use Rattle.std.proofs.Common.{◌≡◌, Bool, true, false, Option, Some, None, is_some, List, refl, ◌∙◌}
use Rattle.alw_msg.specs.declared.events.Entry.{Entry}
use Rattle.alw_image.specs.declared.parts.Parts.{Parts}
use Rattle.alw_image.specs.Images.{IsImage}
use Rattle.alw_image.specs.Parameters.{Parameters}
use Rattle.alw_model.specs.declared.ends.TrapAt.{TrapAt}
use Rattle.alw_model.specs.Machine.{state, any_trapped, IsLegal}
use Rattle.alw_model.specs.Runs.{moments}
use Rattle.alw_model.specs.Ends.{first_trap}
use Rattle.alw_mesh.proofs.Remaining.{untrapped}
use Rattle.alw_mesh.proofs.Trapped.{none_trapped}

pub trapped_turns : (parts : Parts) → IsImage parts → (parameters : Parameters) → (journal : List Entry) → IsLegal parts parameters journal
    → any_trapped (state parts parameters journal) ≡ is_some (first_trap 0 (moments parts parameters journal))
trapped_turns parts image parameters journal legal =
    by (any_trapped (state parts parameters journal)) refl (first_trap 0 (moments parts parameters journal)) refl
  where
    by : (trapped : Bool) → any_trapped (state parts parameters journal) ≡ trapped → (at : Option TrapAt)
        → first_trap 0 (moments parts parameters journal) ≡ at → trapped ≡ is_some at
    by true is (Some at) told = refl
    by true is None untold = absurd (untrapped parts parameters image journal legal untold is)
    by false is (Some at) told = absurd (let none = none_trapped parts parameters journal legal is ∙ told in cc)
    by false is None untold = refl

-- The message of an enabled delivery has a stamp below the greatest.
use Rattle.std.proofs.Common.{◌≡◌, ℕ, ◌-◌, ◌^◌, Bool, true, false, ◌&&◌, ◌==◌, nat_lt, Option, Some, None, refl}
use Rattle.std.proofs.lemmas.Bool.{ltb-true}
use Rattle.alw_msg.specs.declared.messages.Msg.{Msg}
use Rattle.alw_msg.specs.declared.events.Event.{Event}
use Rattle.alw_msg.specs.declared.events.Event.TheVariants.{Instr, Handle, Deliver, Evict}
use Rattle.alw_image.specs.declared.parts.Parts.{Parts}
use Rattle.alw_image.specs.Parameters.{Parameters}
use Rattle.alw_msg.specs.Contents.{content}
use Rattle.alw_image.specs.Images.{node_count, line_count}
use Rattle.alw_model.specs.Messages.{home_node, is_at_home, is_fit}
use Rattle.alw_model.specs.NodeStates.{NodeState, may, may_deliver, may_reach, is_enabled_at}
use Rattle.alw_node.specs.Nodes.{FitsStamp, MessageIsGiven}

-- both sides of a test that passes
first : (a b : Bool) → (a && b) ≡ true → a ≡ true
first true b e = refl
first false b e = e

pub second : (a b : Bool) → (a && b) ≡ true → b ≡ true
second true b e = e
second false b e = cc

pub given_fits : (parts : Parts) (parameters : Parameters) (number : ℕ) (node : NodeState) (event : Event) (taken : Option Msg) → is_enabled_at parts parameters number node event taken ≡ true → MessageIsGiven event taken → FitsStamp taken
given_fits parts parameters number node (Instr at) taken enabled given = given
given_fits parts parameters number node (Handle at) taken enabled given = given
given_fits parts parameters number node (Evict at set) taken enabled given = given
given_fits parts parameters number node (Deliver from to) None enabled given = tt
given_fits parts parameters number node (Deliver from to) (Some msg) enabled given =
    let top = 2 ^ 32 - 1 in
    let wants = may parts parameters node (Deliver from to) (Some msg) in
    let at_home = is_at_home (content msg) (home_node parts msg.line.0) from.0 to.0 in
    let exists = second (to.0 == number) (nat_lt number (node_count parts) && (nat_lt node.clock top && wants)) enabled in
    let ticks = second (nat_lt number (node_count parts)) (nat_lt node.clock top && wants) exists in
    let wanted = second (nat_lt node.clock top) wants ticks in
    let delivers = second (nat_lt from.0 (node_count parts)) (may_deliver parts parameters from.0 to.0 node msg) wanted in
    let fits = first (is_fit parts from.0 to.0 msg) (may_reach parts parameters node msg.line.0 (content msg)) delivers in
    let of_line = second (msg.src.0 == from.0) (nat_lt msg.line.0 (line_count parts) && (nat_lt msg.stamp top && at_home)) fits in
    let low = second (nat_lt msg.line.0 (line_count parts)) (nat_lt msg.stamp top && at_home) of_line in
    ltb-true msg.stamp top (first (nat_lt msg.stamp top) at_home low)

-- What a tally is told of an event is what the event tells.
use Rattle.std.proofs.Common.{◌≡◌, ℕ, Bool, Option, Some, None, List, [], ◌∷◌, ◌++◌, option_to_list, refl, ap, ◌∙◌}
use Rattle.std.specs.Option.{option_or}
use Rattle.std.proofs.Math.Nat.{add-zero}
use Rattle.sparc_table.specs.declared.outcomes.Outcome.{Outcome}
use Rattle.sparc_table.specs.declared.outcomes.Outcome.TheVariants.{Done, Miss, Out, Halt, Trap}
use Rattle.alw_msg.specs.declared.messages.Msg.{Msg}
use Rattle.alw_msg.specs.Events.{node_of}
use Rattle.alw_image.specs.declared.parts.Parts.{Parts}
use Rattle.alw_model.specs.declared.steps.Did.{Did}
use Rattle.alw_model.specs.declared.steps.Did.TheVariants.{Turn, Missed, Took, Packet, Handled, Evicted}
use Rattle.alw_model.specs.Runs.{number_of, turn_in}
use Rattle.alw_model.specs.Runs as runs
use Rattle.alw_model.specs.Counts.{counts_of}
use Rattle.alw_model.specs.declared.ends.TrapAt.{TrapAt}
use Rattle.alw_tally.specs.declared.moments.Moment.{Moment}
use Rattle.alw_model.specs.Ends.{trap_in, or_else}
use Rattle.alw_tally.specs.Told.{Told, turn_at, contexts_of, words_printed, told_with, sum_of}
use Rattle.alw_tally.specs.Moments.{MomentIsTold, HasPc}
use Rattle.alw_tally.specs.Counted.{trap_by, counts_of_event}

or_is : (a b : Option TrapAt) → option_or a b ≡ or_else a b
or_is None b = refl
or_is (Some at) b = refl

-- the counts of an event
counts_are : (parts : Parts) (told : Moment) (used : Bool) (pc : ℕ) (sends : List (ℕ × Msg)) (moment : runs.Moment) → MomentIsTold told used pc sends moment
    → counts_of_event parts told used sends ≡ counts_of parts (moment ∷ [])
counts_are parts told used pc sends moment of = rw (of.node, of.did, of.taken, of.used_is, of.sends_are) (simp add-zero)

-- where it trapped
trap_is : (entry number pc : ℕ) (moment : runs.Moment) (did : Did) → number ≡ number_of moment → HasPc moment.before pc did
    → trap_by entry number pc did ≡ trap_in entry moment did
trap_is entry number pc moment (Turn slot (Trap tt)) number_is pc_is = rw (number_is, pc_is) refl
trap_is entry number pc moment (Turn slot Done) number_is pc_is = refl
trap_is entry number pc moment (Turn slot (Miss line mode)) number_is pc_is = refl
trap_is entry number pc moment (Turn slot (Out word)) number_is pc_is = refl
trap_is entry number pc moment (Turn slot Halt) number_is pc_is = refl
trap_is entry number pc moment (Missed slot) number_is pc_is = refl
trap_is entry number pc moment Took number_is pc_is = refl
trap_is entry number pc moment Packet number_is pc_is = refl
trap_is entry number pc moment (Handled kind state) number_is pc_is = refl
trap_is entry number pc moment Evicted number_is pc_is = refl

-- one event more is told
pub told_by_event : (parts : Parts) (told : Told) (it : Moment) (used : Bool) (pc : ℕ) (sends : List (ℕ × Msg)) (moment : runs.Moment) → MomentIsTold it used pc sends moment →
    (next : Told) (turn : Option (ℕ × Outcome)) → option_to_list turn ≡ turn_in parts (node_of it.entry.event) it.did
    → next.turns ≡ told.turns ++ contexts_of (option_to_list turn)
    → next.prints ≡ told.prints ++ words_printed (option_to_list turn)
    → next.counts ≡ sum_of told.counts (counts_of_event parts it used sends)
    → next.trap ≡ option_or told.trap (trap_by told.counts.entries (node_of it.entry.event) pc it.did)
    → next ≡ told_with parts told moment
told_by_event parts told it used pc sends moment of next turn is turns prints counts trap =
    let turn_is : option_to_list turn ≡ turn_at parts moment = rw (is, of.node, of.did) refl in
    let at : trap_by told.counts.entries (node_of it.entry.event) pc it.did ≡ trap_in told.counts.entries moment moment.stepped.did
    = rw of.did (trap_is told.counts.entries (node_of it.entry.event) pc moment moment.stepped.did of.node of.pc_is) in
    λ x. record {
      turns = (turns ∙ ap (λ t. told.turns ++ contexts_of t) turn_is) x;
      prints = (prints ∙ ap (λ t. told.prints ++ words_printed t) turn_is) x;
      counts = (counts ∙ ap (sum_of told.counts) (counts_are parts it used pc sends moment of)) x;
      trap = (trap ∙ (or_is told.trap (trap_by told.counts.entries (node_of it.entry.event) pc it.did) ∙ ap (or_else told.trap) at)) x;
    }

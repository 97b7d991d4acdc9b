-- What an event leaves of the packets of other nodes.
use Rattle.std.proofs.Common.{◌≡◌, ◌≢◌, ℕ, List, [], ◌∷◌, ◌++◌, refl, ◌∙◌}
use Rattle.std.proofs.lemmas.List.{get_or-set_other}
use Rattle.alw_msg.specs.declared.messages.Msg.{Msg}
use Rattle.alw_msg.specs.declared.events.Event.{Event}
use Rattle.alw_msg.specs.declared.events.Event.TheVariants.{Instr, Handle, Deliver, Evict}
use Rattle.alw_msg.specs.Events.{node_of}
use Rattle.alw_msg.specs.Lists.{behind}
use Rattle.alw_image.specs.declared.parts.Parts.{Parts}
use Rattle.alw_model.specs.declared.steps.Did.{Did}
use Rattle.alw_model.specs.declared.steps.Did.TheVariants.{Turn, Missed, Took, Packet, Handled, Evicted}
use Rattle.alw_times.specs.declared.costs.Costs.{Costs}
use Rattle.alw_times.specs.declared.happenings.TimedMoment.{TimedMoment}
use Rattle.alw_times.specs.Times.{Times, queue_at, packets_taken, packets_given, passed, finish_of}

taken_stay : (event : Event) (packets : List (List ℕ)) (m : ℕ) → m ≢ node_of event → queue_at (packets_taken event packets) m ≡ queue_at packets m
taken_stay (Instr at) packets m apart = refl
taken_stay (Handle at) packets m apart = get_or-set_other packets at.0 m (behind (queue_at packets at.0)) [] apart
taken_stay (Deliver from to) packets m apart = refl
taken_stay (Evict at set) packets m apart = refl

given_stay : (did : Did) (n finish : ℕ) (packets : List (List ℕ)) (m : ℕ) → m ≢ n → queue_at (packets_given did n finish packets) m ≡ queue_at packets m
given_stay (Turn slot outcome) n finish packets m apart = refl
given_stay (Missed slot) n finish packets m apart = refl
given_stay Took n finish packets m apart = refl
given_stay Packet n finish packets m apart = get_or-set_other packets n m (queue_at packets n ++ finish ∷ []) [] apart
given_stay (Handled kind state) n finish packets m apart = refl
given_stay Evicted n finish packets m apart = refl

pub packets_stay : (parts : Parts) (costs : Costs) (times : Times) (happened : TimedMoment) (sends : List (ℕ × Msg)) (m : ℕ) → m ≢ node_of happened.event →
    queue_at (passed parts costs times happened sends).packets m ≡ queue_at times.packets m
packets_stay parts costs times happened sends m apart =
    given_stay happened.did (node_of happened.event) (finish_of parts costs times happened sends) (packets_taken happened.event times.packets) m apart ∙ taken_stay happened.event times.packets m apart

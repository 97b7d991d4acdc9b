-- The lines that the events of a legal journal name exist.
use Rattle.std.proofs.Common.{◌≡◌, ℕ, ◌<◌, ◌≤◌, Option, Some, None, List, [], ◌∷◌, flat_map, refl, ap, ◌∙◌}
use Rattle.std.specs.Option.{option_map}
use Rattle.std.specs.List.{AllByRecursion}
use Rattle.alw_num.specs.NodeSets.{has_node}
use Rattle.alw_num.specs.declared.addresses.Line.{Line}
use Rattle.sparc_table.specs.Turns.{need_of}
use Rattle.sparc_table.specs.declared.outcomes.Need.{Need}
use Rattle.sparc_table.specs.declared.outcomes.Need.TheVariants as needs
use Rattle.sparc_table.proofs.Effects.{turn_exists}
use Rattle.alw_msg.specs.declared.messages.Msg.{Msg}
use Rattle.alw_msg.specs.declared.events.Entry.{Entry}
use Rattle.alw_msg.specs.Events.{node_of}
use Rattle.alw_msg.specs.Lists.{front}
use Rattle.alw_image.specs.declared.parts.Parts.{Parts}
use Rattle.alw_image.specs.Images.{line_count, body_of}
use Rattle.alw_image.specs.Parameters.{Parameters}
use Rattle.alw_model.specs.declared.steps.Did.{Did}
use Rattle.alw_model.specs.Contexts.{slot_at, running}
use Rattle.alw_model.specs.LimitLess.{full_map_of}
use Rattle.alw_model.specs.NodeStates.{NodeState, home_at, stamp_of}
use Rattle.alw_model.specs.Machine.{MachineState, machine_start, node_at, taken_by, stepped_by, step, IsNext, AreLegal, IsLegal}
use Rattle.alw_model.specs.Runs.{Moment, moment_of, moments_from, moments}
use Rattle.alw_profile.specs.declared.tables.Mark.{Mark}
use Rattle.alw_profile.specs.Events.{ran_of, seen_of, access_marks, ran_marks, handled_marks, sent_marks, lines_marked}
use Rattle.law_line.specs.Protocol.{last_stored}
use Rattle.law_lines.specs.LineEvents.{line_events}
use Rattle.law_lines.specs.Standing.{IsPacket}
use Rattle.law_lines.proofs.Steps.{enabled_is}
use Rattle.law_machine.specs.Values.{MachineIsSoundWith}
use Rattle.law_machine.proofs.Runs.{step_sound, start_sound_with}
use Rattle.law_machine.proofs.Sends.{AllSent, event_sent}
use Rattle.alw_num.proofs.Alls.{all_append}

-- each mark is of a line that exists
abbrev pub OfLines : Parts → List Mark → Type 0
OfLines image marks = AllByRecursion (λ (mark : Mark). mark.row < line_count image) marks

module _ (image : Parts) where
  -- the line that a slot needs
  needed_exist : (did : Did) (node : NodeState) (slot : ℕ) (need : Need) → need_of image.code (slot_at node.slots slot).regs (line_count image) ≡ need → OfLines image (access_marks did need)
  needed_exist did node slot (needs.Copy line mode) is =
      let here = turn_exists image.code (slot_at node.slots slot).regs (line_count image) line mode is in
      (here, (here, tt))
  needed_exist did node slot needs.Nothing is = tt
  needed_exist did node slot (needs.Trap type) is = tt

  ran_exist : (did : Did) (node : NodeState) (o : Option ℕ) → OfLines image (ran_marks did (option_map (λ slot. ran_of image (slot_at node.slots slot)) o))
  ran_exist did node None = tt
  ran_exist did node (Some slot) = needed_exist did node slot (need_of image.code (slot_at node.slots slot).regs (line_count image)) refl

  -- the front packet's
  handled_exist : (n : ℕ) (did : Did) (packets : List Msg) → AllByRecursion (IsPacket image n) packets → OfLines image (handled_marks did (front packets))
  handled_exist n did [] all = tt
  handled_exist n did (packet ∷ rest) all = (all.0.line, (all.0.line, tt))

  -- those of the messages
  sent_exist : (n stamp : ℕ) (sends : List (ℕ × Msg)) → AllSent image n stamp sends → OfLines image (flat_map sent_marks sends)
  sent_exist n stamp [] all = tt
  sent_exist n stamp (send ∷ rest) all = let here = all.0.1.exists in (here, (here, (here, sent_exist n stamp rest all.1)))

module _ (image : Parts) (parameters : Parameters) (some : 1 ≤ parameters.pointers) where
  moment_exists : (s : MachineState) (values : ℕ → Line) (entry : Entry) → IsNext image parameters s entry → MachineIsSoundWith image parameters values s
      → OfLines image (lines_marked image (moment_of image parameters s entry))
  moment_exists s values entry next sound =
      let n = node_of entry.event in
      let node = node_at s n in
      let enabled = enabled_is image parameters s entry.event next.enabled in
      let stands = sound.standing.each n enabled.here in
      let taken = taken_by image s entry.event in
      let stamp = stamp_of node.clock taken in
      let stepped = stepped_by image parameters s entry.event in
      let sent = event_sent image parameters n stamp node stands
      (λ l lines home j has. (sound.lines l lines).members j (ap (λ a. has_node (full_map_of (home_at image (node_at s a) l)).pointers j) home ∙ has))
      entry.event taken refl enabled.may_be in
      all_append _ (ran_marks stepped.did (seen_of image node).ran) _ (ran_exist image stepped.did node (running node.slots node.current))
      (all_append _ (handled_marks stepped.did (seen_of image node).front) _ (handled_exist image n stepped.did node.packets stands.packets)
      (sent_exist image n stamp stepped.sends sent))

  exist_from : (s : MachineState) (values : ℕ → Line) (journal : List Entry) → AreLegal image parameters s journal → MachineIsSoundWith image parameters values s
      → AllByRecursion (λ (moment : Moment). OfLines image (lines_marked image moment)) (moments_from image parameters s journal)
  exist_from s values [] legal sound = tt
  exist_from s values (entry ∷ rest) (next, legal) sound = (
    moment_exists s values entry next sound,
    exist_from (step image parameters s entry.event) (λ l. last_stored (values l) (line_events image parameters s entry.event l)) rest legal
        (step_sound image parameters some s entry.event next.enabled values sound),
  )

  pub lines_exist : (journal : List Entry) → IsLegal image parameters journal
      → AllByRecursion (λ (moment : Moment). OfLines image (lines_marked image moment)) (moments image parameters journal)
  unfolding moments
  lines_exist journal legal = exist_from (machine_start image) (body_of image) journal legal (start_sound_with image parameters some)

-- Every legal journal is turns on one memory.
use Rattle.std.proofs.Common.{◌≡◌, ℕ, ◌≤◌, true, List, sym, ap, ◌∙◌, subst}
use Rattle.alw_image.specs.declared.parts.Parts.{Parts}
use Rattle.alw_image.specs.Parameters.{Parameters}
use Rattle.alw_msg.specs.declared.events.Entry.{Entry}
use Rattle.alw_msg.specs.Statuses.{has_trapped}
use Rattle.alw_model.specs.Machine.{IsLegal, state}
use Rattle.alw_model.specs.Flat.{Flat, context_at, flat_after}
use Rattle.alw_model.specs.Runs.{turns_of, prints_of, flat_view}
use Rattle.law_machine.proofs.FlatStarts.{flat_view_is, turns_are_ready, prints_are}
use Rattle.alw_places.specs.Outcomes.{Ending, HaltsWith, HasEvery, HasTold, flat_halted}
use Rattle.alw_places.proofs.Runs.{halts_with}
use Rattle.alw_places.proofs.EveryTrap.{every_trap}
use Rattle.law_schedules.specs.Schedules.{ListsAll}

module _ (parts : Parts) (parameters : Parameters) (some : 1 ≤ parameters.pointers) (journal : List Entry) (legal : IsLegal parts parameters journal) where
  pub journal_halts : flat_halted (flat_view parts parameters (state parts parameters journal)) ≡ true → HaltsWith parts (flat_view parts parameters (state parts parameters journal)).memory (prints_of parts parameters journal)
  journal_halts halted =
      let flat = flat_view_is parts parameters some journal legal in
      let prints = prints_are parts parameters some journal legal in
      let with = halts_with parts (turns_of parts parameters journal) (turns_are_ready parts parameters some journal legal) (sym (ap flat_halted flat) ∙ halted) in
      subst (λ (f : Flat). HaltsWith parts f.memory (prints_of parts parameters journal)) (sym flat) (subst (λ (p : List (ℕ × ℕ)). HaltsWith parts (flat_after parts (turns_of parts parameters journal)).memory p) (sym prints) with)

  pub journal_traps : (context : ℕ) → has_trapped (context_at (flat_view parts parameters (state parts parameters journal)) context).status ≡ true → HasTold parts (flat_view parts parameters (state parts parameters journal)) context
  journal_traps context trapped =
      let flat = flat_view_is parts parameters some journal legal in
      subst (λ (f : Flat). HasTold parts f context) (sym flat)
      (every_trap parts (turns_of parts parameters journal) (turns_are_ready parts parameters some journal legal) context (sym (ap (λ (f : Flat). has_trapped (context_at f context).status) flat) ∙ trapped))

-- a list that has all that runs come to has what the machine comes to
pub lists_all : (parts : Parts) (endings : List Ending) → HasEvery parts endings → ListsAll parts endings
lists_all parts endings every = record {
  halted = λ parameters some journal legal halted. let h = journal_halts parts parameters some journal legal halted in record { printed = h.printed; listed = every _ h.comes; words = h.words };
  trapped = λ parameters some journal legal context trapped. let t = journal_traps parts parameters some journal legal context trapped in record { pc = t.pc; type = t.type; left = t.left_so; listed = every _ t.comes };
}

-- What a run and one more event tell.
use Rattle.std.proofs.Common.{◌≡◌, ℕ, ◌+◌, Option, Some, None, List, [], ◌∷◌, ◌++◌, length, refl, sym, ap, ◌∙◌, arith}
use Rattle.std.proofs.lemmas.List.{length-append, map-append, flat_map_more}
use Rattle.std.proofs.lemmas.List.Concat.{flat_map-append}
use Rattle.std.specs.List.{flat_map}
use Rattle.sparc_table.specs.declared.outcomes.Outcome.{Outcome}
use Rattle.alw_model.specs.Flat.{print_of}
use Rattle.alw_msg.specs.declared.events.Entry.{Entry}
use Rattle.alw_image.specs.declared.parts.Parts.{Parts}
use Rattle.alw_image.specs.Parameters.{Parameters}
use Rattle.alw_num.proofs.Weigh.{weigh-append}
use Rattle.alw_model.specs.Machine.{state}
use Rattle.alw_model.specs.Runs.{Moment, moment_of, moments}
use Rattle.alw_model.specs.Counts.{counts_of}
use Rattle.alw_model.proofs.Journals.{moments_push}
use Rattle.alw_model.specs.declared.ends.TrapAt.{TrapAt}
use Rattle.alw_model.specs.Ends.{trap_in, first_trap, or_else}
use Rattle.alw_tally.specs.Told.{turn_at, contexts_of, words_printed, told_of, told_with, sum_of}

or_else-assoc : (a b c : Option TrapAt) → or_else (or_else a b) c ≡ or_else a (or_else b c)
or_else-assoc None b c = refl
or_else-assoc (Some at) b c = refl

or_none : (a : Option TrapAt) → or_else a None ≡ a
or_none None = refl
or_none (Some at) = refl

-- the first trapping turn of two runs, one behind the other
pub first_trap-append : (n : ℕ) (run more : List Moment) → first_trap n (run ++ more) ≡ or_else (first_trap n run) (first_trap (n + length run) more)
first_trap-append n [] more = ap (λ (k : ℕ). first_trap k more) (let e : n ≡ n + 0 = omega arith in e)
first_trap-append n (moment ∷ rest) more =
    let here = trap_in n moment moment.stepped.did in
    let place : n + 1 + length rest ≡ n + length (moment ∷ rest) = omega arith in
    let later = first_trap-append (n + 1) rest more ∙ ap (λ (k : ℕ). or_else (first_trap (n + 1) rest) (first_trap k more)) place in
    ap (or_else here) later ∙ sym (or_else-assoc here (first_trap (n + 1) rest) (first_trap (n + length (moment ∷ rest)) more))

-- the counts of two runs, one behind the other
counts-append : (parts : Parts) (run more : List Moment) → counts_of parts (run ++ more) ≡ sum_of (counts_of parts run) (counts_of parts more)
counts-append parts run more = simp (length-append, weigh-append)

module _ (parts : Parts) where
  -- the turns of a run
  abbrev turns_among : List Moment → List (ℕ × Outcome)
  turns_among run = flat_map (turn_at parts) run

  -- the turns of a run and of one more event
  turns_push : (run : List Moment) (moment : Moment) → turns_among (run ++ moment ∷ []) ≡ turns_among run ++ turn_at parts moment
  turns_push run moment = sym (flat_map_more (turn_at parts) [] run moment)

  trap_push : (run : List Moment) (moment : Moment) →
      first_trap 0 (run ++ moment ∷ []) ≡ or_else (first_trap 0 run) (trap_in (length run) moment moment.stepped.did)
  trap_push run moment =
      let place : 0 + length run ≡ length run = omega arith in
      let last = or_none _ ∙ ap (λ (k : ℕ). trap_in k moment moment.stepped.did) place in
      first_trap-append 0 run (moment ∷ []) ∙ ap (or_else (first_trap 0 run)) last

  pub told_push : (run : List Moment) (moment : Moment) → told_of parts (run ++ moment ∷ []) ≡ told_with parts (told_of parts run) moment
  told_push run moment =
      let turns = turns_push run moment in
      let contexts : contexts_of (turns_among (run ++ moment ∷ [])) ≡ contexts_of (turns_among run) ++ contexts_of (turn_at parts moment)
      = ap contexts_of turns ∙ map-append (λ (turn : ℕ × Outcome). turn.0) (turns_among run) (turn_at parts moment) in
      let words : words_printed (turns_among (run ++ moment ∷ [])) ≡ words_printed (turns_among run) ++ words_printed (turn_at parts moment)
      = ap words_printed turns ∙ flat_map-append (λ (turn : ℕ × Outcome). print_of turn.0 turn.1) (turns_among run) (turn_at parts moment) in
      let counts = counts-append parts run (moment ∷ []) in
      let trap = trap_push run moment in
      λ x. record { turns = contexts x; prints = words x; counts = counts x; trap = trap x }

  -- what a journal and one more entry tell
  pub told_entry : (parameters : Parameters) (journal : List Entry) (entry : Entry) → told_of parts (moments parts parameters (journal ++ entry ∷ []))
      ≡ told_with parts (told_of parts (moments parts parameters journal)) (moment_of parts parameters (state parts parameters journal) entry)
  told_entry parameters journal entry =
      let moment = moment_of parts parameters (state parts parameters journal) entry in
      ap (told_of parts) (moments_push parts parameters journal entry) ∙ told_push (moments parts parameters journal) moment

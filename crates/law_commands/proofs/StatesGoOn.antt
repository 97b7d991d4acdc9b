-- Two machines in one state go on by one seed with the same entries.
use Rattle.std.proofs.Common.{◌≡◌, ◌↔◌, ℕ, ◌/◌, ◌%◌, ◌^◌, cond, not, ◌&&◌, nat_lt, Option, None, Some, List, [], ◌∷◌, ◌++◌, filter, length, slice_get, sym, ap, subst, ◌∙◌, append_assoc}
use Rattle.std.proofs.lemmas.List.{append-nil, append_cancel_left}
use Rattle.alw_num.specs.Draws.{drawn, drawn_number}
use Rattle.alw_msg.specs.declared.events.Event.{Event}
use Rattle.alw_msg.specs.declared.events.Event.TheVariants.{Evict}
use Rattle.alw_msg.specs.declared.events.Entry.{Entry}
use Rattle.alw_image.specs.declared.parts.Parts.{Parts}
use Rattle.alw_image.specs.Images.{IsImage, node_count}
use Rattle.alw_image.specs.Numbers.{HasWords}
use Rattle.alw_image.specs.Parameters.{Parameters, AreParameters}
use Rattle.alw_model.specs.Contexts.{all_halted}
use Rattle.alw_model.specs.Machine.{MachineState, IsLegal, state, step, stamp_at, main_events, node_at, end_of}
use Rattle.alw_model.proofs.Journals.{state_push}
use Rattle.alw_ready.specs.Fits.{may_happen}
use Rattle.alw_mesh.specs.Histories.{History, grown, state_of}
use Rattle.alw_sched.specs.Schedules.{end_in, EventsAreDrawn}
use Rattle.alw_save.specs.States.{state_text}
use Rattle.alw_config.specs.declared.commands.Form.{Form}
use Rattle.alw_answers.specs.declared.outputs.Output.{Output}
use Rattle.alw_runs.proofs.NoEvict.{some_end}
use Rattle.alw_cuts.specs.Resuming.{Resumes}
use Rattle.std.proofs.lemmas.Option.{same_Some}

module _ (image : Parts) (p : Parameters) where
  abbrev after : List Entry → ℕ → History
  after journal joined = record { image = image; parameters = p; journal = journal; joined = joined }

  abbrev after_state : List Entry → MachineState
  after_state journal = state image p journal

  -- what a number picks in a state
  abbrev asked : ℕ → Event
  asked number = Evict (record { 0 = number / 2 ^ 8 % node_count image }) (number / 2 ^ 16 % p.sets)

  abbrev next_in : MachineState → List Event
  next_in s = filter (may_happen image p s) (main_events image)

  abbrev picked_in : MachineState → ℕ → Option Event
  picked_in s number =
      cond (nat_lt (number % 256) p.evict && (not (all_halted (node_at s (number / 2 ^ 8 % node_count image)).slots) && may_happen image p s (asked number)))
      (Some (asked number)) (slice_get (next_in s) (number % length (next_in s)))

  abbrev entry_in : MachineState → Event → Entry
  entry_in s event = record { stamp = stamp_at image s event; event = event }

  state_more : (i j : List Entry) (event : Event) → after_state i ≡ after_state j →
      after_state (i ++ entry_in (after_state i) event ∷ []) ≡ after_state (j ++ entry_in (after_state j) event ∷ [])
  state_more i j event same =
      state_push image p i (entry_in (after_state i) event) ∙ ap (λ (s : MachineState). step image p s event) same
      ∙ sym (state_push image p j (entry_in (after_state j) event))

  -- the same entries behind two journals
  abbrev IsLater : List Entry → List Entry → History → History → Type 0
  IsLater i j a b = (later : List Entry) × (a.journal ≡ i ++ later) × (b.journal ≡ j ++ later)

  go_on : (i j : List Entry) (u v x : ℕ) (events others : List Event) (a b : History) (y z : ℕ) → after_state i ≡ after_state j →
      EventsAreDrawn (after i u) x events a y → EventsAreDrawn (after j v) x others b z → (end_in a ≡ None → ⊥) → (end_in b ≡ None → ⊥) → IsLater i j a b
  go_on i j u v x [] [] a b y z same here there ended also =
      ([], ap (λ (h : History). h.journal) (sym here.0) ∙ sym (append-nil i), ap (λ (h : History). h.journal) (sym there.0) ∙ sym (append-nil j))
  go_on i j u v x [] (other ∷ more) a b y z same here there ended also =
      absurd (ended (ap end_in (sym here.0) ∙ ap (end_of image p) same ∙ there.0.going))
  go_on i j u v x (event ∷ rest) [] a b y z same here there ended also =
      absurd (also (ap end_in (sym there.0) ∙ ap (end_of image p) (sym same) ∙ here.0.going))
  go_on i j u v x (event ∷ rest) (other ∷ more) a b y z same here there ended also =
      let one = same_Some other event (sym there.0.pick ∙ ap (λ (s : MachineState). picked_in s (drawn_number (drawn x))) (sym same) ∙ here.0.pick) in
      let next = subst (λ (e : Event). EventsAreDrawn (grown (after j v) e) (drawn x) more b z) one there.1 in
      let rest_is = go_on (i ++ entry_in (after_state i) event ∷ []) (j ++ entry_in (after_state j) event ∷ []) u v (drawn x) rest more a b y z
      (state_more i j event same) here.1 next ended also in
      let entry : entry_in (after_state j) event ≡ entry_in (after_state i) event = ap (λ (s : MachineState). entry_in s event) (sym same) in (
        entry_in (after_state i) event ∷ rest_is.0,
        rest_is.1 ∙ append_assoc i (entry_in (after_state i) event ∷ []) rest_is.0,
        rest_is.2 ∙ append_assoc j (entry_in (after_state j) event ∷ []) rest_is.0 ∙ ap (λ (e : Entry). j ++ e ∷ rest_is.0) entry,
      )

-- the law of `law_texts`: of one image, two machines with one text are one
abbrev TextsTellStates : Type 0
TextsTellStates =
    (parts : Parts) → IsImage parts → HasWords parts → (one other : Parameters) → AreParameters one → AreParameters other → (first second : List Entry) →
    IsLegal parts one first → IsLegal parts other second →
    (state_text parts (state parts one first) ≡ state_text parts (state parts other second)) ↔ (state parts one first ≡ state parts other second)

module _ (tell : TextsTellStates) (seed evict : ℕ) (form other_form : Form) (text other_text : List ℕ) (one other : Output)
    (is : Resumes seed evict form text one) (are : Resumes seed evict other_form other_text other) where
  abbrev here : History
  here = is.machine

  abbrev there : History
  there = are.machine

  abbrev second : History
  second = record { image = here.image; parameters = here.parameters; journal = there.journal; joined = there.joined }

  pub same_later : here.image ≡ there.image → here.parameters ≡ there.parameters → state_text here.image (state_of here) ≡ state_text there.image (state_of there) →
      is.goes_on.later ≡ are.goes_on.later
  same_later image params lines =
      let whole : there ≡ second = λ i. record { image = sym image i; parameters = sym params i; journal = there.journal; joined = there.joined } in
      let legal : IsLegal here.image here.parameters there.journal =
      subst (λ (h : History). IsLegal h.image h.parameters there.journal) whole are.checkpoint.run.legal in
      let told : state_text here.image (state here.image here.parameters here.journal) ≡ state_text here.image (state here.image here.parameters there.journal) =
      lines ∙ ap (λ (h : History). state_text h.image (state h.image h.parameters there.journal)) whole in
      let same = (tell here.image is.checkpoint.run.image is.checkpoint.words here.parameters here.parameters is.checkpoint.run.parameters is.checkpoint.run.parameters
      here.journal there.journal is.checkpoint.run.legal legal).0 told in
      let drawn_there = subst (λ (h : History). EventsAreDrawn h seed are.goes_on.seeded.events (record h { journal = other.journal }) are.goes_on.seeded.last) whole
      are.goes_on.seeded.drawn_are in
      let none = subst (λ (h : History). end_in (record h { journal = other.journal }) ≡ None → ⊥) whole
      (some_end there.image there.parameters other.journal are.told.ended are.told.run.end) in
      let rest = go_on here.image here.parameters here.journal there.journal here.joined there.joined seed is.goes_on.seeded.events are.goes_on.seeded.events
      (record here { journal = one.journal }) (record second { journal = other.journal }) is.goes_on.seeded.last are.goes_on.seeded.last same
      is.goes_on.seeded.drawn_are drawn_there (some_end here.image here.parameters one.journal is.told.ended is.told.run.end) none in
      append_cancel_left here.journal is.goes_on.later rest.0 (sym is.goes_on.begins ∙ rest.1)
      ∙ sym (append_cancel_left there.journal are.goes_on.later rest.0 (sym are.goes_on.begins ∙ rest.2))

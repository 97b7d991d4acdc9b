-- Of each node a journal has a course: its log, and what the events of its log did.
use Rattle.std.proofs.Common.{◌≡◌, ◌≢◌, ℕ, zero, suc, ◌<◌, ◌==◌, Bool, cond, IsTrue, Some, List, [], ◌∷◌, map, drop, take, slice_get, refl, sym, ap, subst, ◌∙◌}
use Rattle.std.specs.Prelude.{filter}
use Rattle.std.proofs.lemmas.Bool.{eq-eqb, ne_eqb}
use Rattle.std.proofs.lemmas.Option.{same_Some}
use Rattle.alw_num.proofs.Weigh.{is_node}
use Rattle.alw_msg.specs.declared.events.Entry.{Entry}
use Rattle.alw_msg.specs.Events.{node_of}
use Rattle.alw_image.specs.declared.parts.Parts.{Parts}
use Rattle.alw_image.specs.Images.{node_count}
use Rattle.alw_image.specs.Parameters.{Parameters}
use Rattle.alw_model.specs.declared.steps.Did.{Did}
use Rattle.alw_model.specs.NodeStates.{NodeState}
use Rattle.alw_model.specs.Machine.{MachineState, machine_start, node_at, is_enabled, stepped_by, step, after, state, AreLegal, IsLegal}
use Rattle.alw_model.specs.Runs.{Moment, number_of, moment_of, moments_from, moments}
use Rattle.alw_model.specs.Rows.{log_in}
use Rattle.law_order.specs.Aims.{IsAimed}
use Rattle.law_order.proofs.Aimed.{start_aimed, step_aimed, node_at_start}
use Rattle.law_order.proofs.Clocks.{node_stepped}
use Rattle.law_order.proofs.Local.{node_kept}
use Rattle.law_order.proofs.JournalLogs.{logged_of}
use Rattle.alw_cells.specs.Cells.{dids_from, dids_of}
use Rattle.alw_merge.specs.Joins.{Course, course_of}

-- the moments of a node
abbrev pub mine : ℕ → List Moment → List Moment
mine n run = filter (λ (moment : Moment). number_of moment == n) run

abbrev pub dids_in : List Moment → List Did
dids_in run = map (λ (moment : Moment). moment.stepped.did) run

abbrev pub with_first : Moment → Course → Course
with_first moment course = record { left = logged_of moment ∷ course.left; dids = moment.stepped.did ∷ course.dids }

module _ (n : ℕ) (moment : Moment) (rest : List Moment) where
  -- a course that is so where the first event is the node's, or isn't
  abbrev where_first : Bool → Course
  where_first own = record {
    left = map logged_of (cond own (moment ∷ mine n rest) (mine n rest));
    dids = dids_in (cond own (moment ∷ mine n rest) (mine n rest));
  }

  pub course_first : number_of moment ≡ n → course_of n (moment ∷ rest) ≡ with_first moment (course_of n rest)
  course_first same = ap where_first (eq-eqb (number_of moment) n same)

  pub course_other : number_of moment ≢ n → course_of n (moment ∷ rest) ≡ course_of n rest
  course_other other = ap where_first (ne_eqb (number_of moment) n other)

module _ (parts : Parts) (parameters : Parameters) where
  -- what the events of a node's log do is what they did in the journal
  module _ (s : MachineState) (entry : Entry) (rest : List Moment) (aimed : IsAimed parts s) (enabled : IsTrue (is_enabled parts parameters s entry.event)) where
    abbrev moment : Moment
    moment = moment_of parts parameters s entry

    abbrev m : ℕ
    m = node_of entry.event

    abbrev t : MachineState
    t = step parts parameters s entry.event

    -- a node's log from here on does what it did, where the first event is the node's, or isn't
    abbrev Alike : ℕ → Bool → Type 0
    Alike k own = dids_from parts parameters k (node_at s k) (map logged_of (cond own (moment ∷ mine k rest) (mine k rest))) ≡ dids_in (cond own (moment ∷ mine k rest) (mine k rest))

    module _ (deeper : (k : ℕ) → dids_from parts parameters k (node_at t k) (map logged_of (mine k rest)) ≡ dids_in (mine k rest)) where
      own : Alike m (m == m)
      own = subst (Alike m) (sym (eq-eqb m m refl))
          (ap (λ (dids : List Did). moment.stepped.did ∷ dids)
          (ap (λ (node : NodeState). dids_from parts parameters m node (map logged_of (mine m rest))) (sym (node_stepped parts parameters s entry.event aimed enabled)) ∙ deeper m))

      others : (n : ℕ) → n ≢ m → Alike n (m == n)
      others n other = subst (Alike n) (sym (ne_eqb m n (λ same. other (sym same))))
          (ap (λ (node : NodeState). dids_from parts parameters n node (map logged_of (mine n rest))) (sym (node_kept parts parameters s entry.event (stepped_by parts parameters s entry.event) n other)) ∙ deeper n)

      alike : (n : ℕ) → Alike n (m == n)
      alike n = is_node _ n m (λ same. subst (λ (k : ℕ). Alike k (m == k)) (sym same) own) (others n)

  dids_alike : (s : MachineState) (journal : List Entry) → IsAimed parts s → AreLegal parts parameters s journal → (n : ℕ)
      → dids_from parts parameters n (node_at s n) (log_in n (moments_from parts parameters s journal)) ≡ dids_in (mine n (moments_from parts parameters s journal))
  dids_alike s [] aimed legal n = refl
  dids_alike s (entry ∷ rest) aimed (next, legal) n =
      let t = step parts parameters s entry.event in
      alike s entry (moments_from parts parameters t rest) aimed next.enabled (dids_alike t rest (step_aimed parts parameters s entry.event next.enabled aimed) legal) n

  -- from the start
  pub dids_are : (journal : List Entry) → IsLegal parts parameters journal → (n : ℕ) → n < node_count parts
      → dids_of parts parameters n (log_in n (moments parts parameters journal)) ≡ dids_in (mine n (moments parts parameters journal))
  unfolding moments
  dids_are journal legal n here =
      ap (λ (node : NodeState). dids_from parts parameters n node (log_in n (moments_from parts parameters (machine_start parts) journal))) (sym (node_at_start parts parameters n here))
      ∙ dids_alike (machine_start parts) journal (start_aimed parts parameters) legal n

  -- an entry of a journal is the first of what is left of its events
  moments_at : (s : MachineState) (journal : List Entry) (i : ℕ) (entry : Entry) → slice_get journal i ≡ Some entry
      → drop i (moments_from parts parameters s journal) ≡ moment_of parts parameters (after parts parameters s (take i journal)) entry ∷ drop (suc i) (moments_from parts parameters s journal)
  moments_at s [] i entry is = absurd (cc)
  moments_at s (first ∷ rest) zero entry is = ap (λ (e : Entry). moment_of parts parameters s e ∷ moments_from parts parameters (step parts parameters s first.event) rest) (same_Some first entry is)
  moments_at s (first ∷ rest) (suc i) entry is = moments_at (step parts parameters s first.event) rest i entry is

  pub moment_at : (journal : List Entry) (i : ℕ) (entry : Entry) → slice_get journal i ≡ Some entry
      → drop i (moments parts parameters journal) ≡ moment_of parts parameters (state parts parameters (take i journal)) entry ∷ drop (suc i) (moments parts parameters journal)
  unfolding moments state
  moment_at journal i entry is = moments_at (machine_start parts) journal i entry is

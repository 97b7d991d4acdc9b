-- What stands against a context's instruction: what the machine says of it, and what the flat memory does.
use Rattle.std.proofs.Common.{◌≡◌, ◌≢◌, ℕ, ◌*◌, ◌/◌, ◌%◌, ◌<◌, ◌≤◌, ◌==◌, not, Bool, true, false, Option, Some, None, is_some, inl, inr, List, length, refl, sym, subst, ap, ◌∙◌, arith}
use Rattle.std.specs.Option.{option_eq}
use Rattle.std.proofs.lemmas.Bool.{false≢true, eq-eqb, eqb-true}
use Rattle.std.proofs.lemmas.List.{get_or_past}
use Rattle.std.proofs.lemmas.Nat.{row_below_turned}
use Rattle.sparc_table.specs.Registers.{start_of}
use Rattle.alw_image.specs.Images.{node_count, context_count}
use Rattle.alw_msg.specs.declared.contexts.Status.{Status}
use Rattle.alw_msg.specs.declared.contexts.Status.TheVariants as statuses
use Rattle.alw_msg.specs.Statuses.{is_ready, has_trapped, waits_on}
use Rattle.alw_model.specs.Contexts.{running}
use Rattle.alw_model.specs.Machine.{any_trapped, is_settled}
use Rattle.alw_model.specs.Flat.{Flat, Context, context_at}
use Rattle.alw_model.specs.Runs.{flat_status, flat_view}
use Rattle.law_machine.specs.FlatRuns.{contexts_of}
use Rattle.law_machine.proofs.FlatSlots.{runs_ready, ready_is}
use Rattle.law_machine.proofs.FlatStarts.{flat_view_is, contexts_length}
use Rattle.law_machine.proofs.FlatViews.{HaveSlots}
use Rattle.law_machine.proofs.MachineRuns.{IsKept, always_kept}
use Rattle.law_machine.proofs.MainEvents.{ready_runs}
use Rattle.law_turns.proofs.Ends.{nodes_trapped, trapped_among, trapped_one}
use Rattle.law_turns.proofs.Resting.{settled_light, none_waits}
use Rattle.alw_mesh.specs.Histories.{History, IsRun, state_of}
use Rattle.alw_mesh.specs.Readings.{turns_in, flat_in, node_in, slot_of}
use Rattle.alw_serve.specs.Serving.{IsNotReady}

-- ---- numbers

-- a context's node exists
pub node_here : (nodes count context : ℕ) → context < nodes * count → context / count < nodes
node_here nodes count context here = (row_below_turned context count nodes count here (omega arith)).1

-- ---- options

not_false : (b : Bool) → b ≡ true → b ≡ false → ⊥
not_false b is fails = false≢true (sym fails ∙ is)

same_option : (o : Option ℕ) (x : ℕ) → option_eq (λ (a b : ℕ). a == b) o (Some x) ≡ true → o ≡ Some x
same_option None x is = absurd (false≢true is)
same_option (Some y) x is = ap Some (eqb-true y x is)

-- a comparison of options, and what it says
pub option_is : (o : Option ℕ) (x : ℕ) (b : Bool) → b ≡ not (option_eq (λ (a b : ℕ). a == b) o (Some x)) → b ≡ false → o ≡ Some x
option_is o x b e fails = go (option_eq (λ (a b : ℕ). a == b) o (Some x)) refl (sym e ∙ fails)
  where
    go : (same : Bool) → option_eq (λ (a b : ℕ). a == b) o (Some x) ≡ same → not same ≡ false → o ≡ Some x
    go true is fails = same_option o x is
    go false is fails = absurd (false≢true (sym fails))

pub option_not : (o : Option ℕ) (x : ℕ) (b : Bool) → b ≡ not (option_eq (λ (a b : ℕ). a == b) o (Some x)) → b ≡ true → o ≡ Some x → ⊥
option_not o x b e holds is = not_false b holds (e ∙ (ap (λ (u : Option ℕ). not (option_eq (λ (a b : ℕ). a == b) u (Some x))) is ∙ ap not (eq-eqb x x refl)))

-- ---- on the flat memory

-- a status that isn't Ready isn't on the flat memory either, but for one that waits
not_ready : (status : Status) → is_ready status ≡ false → ((line : ℕ) → waits_on line status ≡ true → ⊥) → is_ready (flat_status status) ≡ false
not_ready statuses.Ready unlike awake = unlike
not_ready (statuses.Waiting line) unlike awake = absurd (awake line.0 (eq-eqb line.0 line.0 refl))
not_ready statuses.Halted unlike awake = refl
not_ready (statuses.Trapped pc tt) unlike awake = refl

-- one that is Ready is
pub flat_ready : (status : Status) → is_ready status ≡ true → is_ready (flat_status status) ≡ true
flat_ready status is = ap (λ (st : Status). is_ready (flat_status st)) (ready_is status is)

module _ (h : History) (run : IsRun h) where
  abbrev nobody : Context
  nobody = record { regs = start_of 0 0 0; status = statuses.Halted }

  abbrev contexts : List Context
  contexts = contexts_of (state_of h).nodes

  flat : flat_view h.image h.parameters (state_of h) ≡ flat_in h
  flat = flat_view_is h.image h.parameters run.parameters.some_pointer h.journal run.legal

  kept : IsKept h.image h.parameters (state_of h)
  kept = always_kept h.image run.image h.parameters run.parameters h.journal run.legal

  -- where no context of the machine has trapped, none has on the flat memory; and where one has, one has there
  pub calm_so : any_trapped (state_of h) ≡ false → (other : ℕ) → has_trapped (context_at (flat_in h) other).status ≡ false
  calm_so calm other = go (has_trapped (context_at (flat_in h) other).status) refl
    where
      go : (b : Bool) → has_trapped (context_at (flat_in h) other).status ≡ b → has_trapped (context_at (flat_in h) other).status ≡ false
      go false e = e
      go true e = absurd (false≢true (sym calm ∙ (sym (nodes_trapped (state_of h).nodes) ∙ trapped_among contexts nobody other refl (ap (λ (f : Flat). has_trapped (context_at f other).status) flat ∙ e))))

  pub trapped_so : any_trapped (state_of h) ≡ true → (context : ℕ) → IsNotReady h.image (turns_in h) context
  trapped_so is context =
      let at = trapped_one contexts nobody (nodes_trapped (state_of h).nodes ∙ is) in
      inr (at.0, ap (λ (f : Flat). has_trapped (context_at f at.0).status) (sym flat) ∙ at.1)

  -- a number that no context has is of none that is Ready
  pub past_so : (context : ℕ) → context_count h.image ≤ context → IsNotReady h.image (turns_in h) context
  past_so context past = inl (ap (λ (f : Flat). is_ready (context_at f context).status) (sym flat) ∙ ap (λ (x : Context). is_ready x.status) (get_or_past contexts context nobody (subst (λ k. k ≤ context) (sym size) past)))
    where
      have : HaveSlots h.image.contexts (state_of h).nodes
      have n l = (kept.has.contexts n (subst (λ k. n < k) kept.has.sound.standing.nodes l)).size

      size : length contexts ≡ context_count h.image
      size = contexts_length h.image.contexts (state_of h).nodes have ∙ ap (λ k. k * h.image.contexts) kept.has.sound.standing.nodes

  -- where nothing is on its way nobody waits, so that a context that isn't Ready isn't on the flat memory
  pub idle_so : (context : ℕ) → context < context_count h.image → is_settled (state_of h) ≡ true → (status : Status) → status ≡ (slot_of h context).status → flat_status status ≡ (context_at (flat_in h) context).status
      → is_ready status ≡ false → IsNotReady h.image (turns_in h) context
  idle_so context here settled status is seen unlike = inl (ap is_ready (sym seen) ∙ not_ready status unlike
      (λ line waits. none_waits h.image (state_of h) h.parameters kept.has (settled_light h.image (state_of h) settled) (context / h.image.contexts) (context % h.image.contexts) line
      (node_here (node_count h.image) h.image.contexts context here) (ap (waits_on line) (sym is) ∙ waits)))

  -- with one context a node, one that is Ready runs next
  pub runs_next : (context : ℕ) → h.image.contexts ≡ 1 → context < context_count h.image → is_ready (slot_of h context).status ≡ true
      → running (node_in h (context / h.image.contexts)).slots (node_in h (context / h.image.contexts)).current ≡ Some (context % h.image.contexts)
  runs_next context one here ready =
      let own = kept.has.contexts n (node_here (node_count h.image) h.image.contexts context here) in
      go (running (node_in h n).slots (node_in h n).current) refl (omega (arith, own.size, one))
      (ready_runs (node_in h n).slots (node_in h n).current (context % h.image.contexts) (omega (arith, own.chosen, own.size)) ready)
    where
      n : ℕ
      n = context / h.image.contexts

      first : context % h.image.contexts ≡ 0
      first = ap (λ k. context % k) one ∙ omega arith

      go : (o : Option ℕ) → running (node_in h n).slots (node_in h n).current ≡ o → length (node_in h n).slots ≡ 1 → is_some o ≡ true → running (node_in h n).slots (node_in h n).current ≡ Some (context % h.image.contexts)
      go None e size some = absurd (false≢true some)
      go (Some slot) e size some =
          let r = runs_ready (node_in h n).slots (node_in h n).current slot e in
          let same : slot ≡ context % h.image.contexts = omega (arith, r.below, size, first) in
          e ∙ ap Some same

  -- so that another one runs only where a node has several
  pub other_runs : (context : ℕ) → context < context_count h.image → is_ready (slot_of h context).status ≡ true
      → (running (node_in h (context / h.image.contexts)).slots (node_in h (context / h.image.contexts)).current ≡ Some (context % h.image.contexts) → ⊥) → h.image.contexts ≢ 1
  other_runs context here ready unlike one = unlike (runs_next context one here ready)

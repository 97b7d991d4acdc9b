-- Of each node the first of its due events: renewed node by node, or compared with a delivery of what was sent.
use Rattle.std.proofs.Common.{◌≡◌, ◌≢◌, ℕ, zero, suc, ◌+◌, ◌<◌, ◌≤◌, ◌==◌, ◌&&◌, Bool, true, false, cond, Option, Some, None, List, [], ◌∷◌, drop, length, replicate, slice_get, ◌⊎◌, inl, inr, refl, sym, ap, subst, ◌∙◌, arith}
use Rattle.std.proofs.lemmas.Bool.{eqb-true, ne_eqb}
use Rattle.alw_num.proofs.Weigh.{is_node}
use Rattle.alw_msg.specs.declared.messages.Msg.{Msg}
use Rattle.alw_msg.specs.declared.events.Event.{Event}
use Rattle.alw_msg.specs.declared.events.Event.TheVariants.{Instr, Handle, Deliver, Evict}
use Rattle.alw_msg.specs.Events.{node_of, is_evict}
use Rattle.alw_msg.specs.Lists.{is_nonempty}
use Rattle.alw_image.specs.Images.{node_count}
use Rattle.alw_model.proofs.Journals.{and_parts}
use Rattle.law_lines.specs.Links.{GoBelow, msgs_to}
use Rattle.alw_ready.specs.Rows.{delivery}
use Rattle.alw_ready.specs.Changes.{is_fed_for}
use Rattle.alw_mesh.specs.Histories.{History}
use Rattle.alw_times.specs.declared.costs.Costs.{Costs}
use Rattle.alw_times.specs.Times.{Times}
use Rattle.alw_times.proofs.Walks.{drop_get}
use Rattle.alw_due.specs.declared.keys.Due.{Due}
use Rattle.alw_due.specs.Due.{is_due_for}
use Rattle.alw_due.specs.Picks.{earlier, IsOneOf, IsFirstOf, IsBestOf}
use Rattle.alw_due.specs.Bests.{IsOf, IsEvent, best_at, IsPut, NoneIsPast, AreBests, IsBestBut, AreBestsBut, NodeIsRenewed, DeliveryIsCompared}
use Rattle.alw_due.proofs.Best.{of_both}

-- ---- what was sent

-- each of some sends goes to a node below a number
pub below_at : (count : ℕ) (sends : List (ℕ × Msg)) (i : ℕ) (send : ℕ × Msg) → GoBelow count sends → slice_get sends i ≡ Some send → send.0 < count
below_at count [] i send below got = absurd (cc)
below_at count (first ∷ rest) zero send below got = subst (λ (s : ℕ × Msg). s.0 < count) (some_is first send got) below.0
  where
    some_is : (a b : ℕ × Msg) → Some a ≡ Some b → a ≡ b
    some_is a b same = cc
below_at count (first ∷ rest) (suc i) send below got = below_at count rest i send below.1 got

never_fed : (b : Bool) → (b && false) ≡ false
never_fed true = refl
never_fed false = refl

none_fed : (own : ℕ) (event : Event) → is_fed_for own [] event ≡ false
none_fed own (Instr at) = refl
none_fed own (Handle at) = refl
none_fed own (Deliver from to) = never_fed (from.0 == own)
none_fed own (Evict at set) = refl

-- what is sent to another node doesn't matter
fed_elsewhere : (own : ℕ) (send : ℕ × Msg) (rest : List (ℕ × Msg)) (event : Event) → node_of event ≢ send.0 → is_fed_for own (send ∷ rest) event ≡ is_fed_for own rest event
fed_elsewhere own send rest (Instr at) apart = refl
fed_elsewhere own send rest (Handle at) apart = refl
fed_elsewhere own send rest (Deliver from to) apart = ap (λ b. from.0 == own && is_nonempty (cond b (send.1 ∷ msgs_to to.0 rest) (msgs_to to.0 rest))) (ne_eqb to.0 send.0 apart)
fed_elsewhere own send rest (Evict at set) apart = refl

-- what was sent to is a delivery from its sender
pub fed_is : (own to : ℕ) (sends : List (ℕ × Msg)) (event : Event) → is_fed_for own sends event ≡ true → node_of event ≡ to → event ≡ delivery own to
fed_is own to sends (Instr at) fed node = absurd (cc)
fed_is own to sends (Handle at) fed node = absurd (cc)
fed_is own to sends (Deliver from at) fed node = let same = eqb-true from.0 own (and_parts (from.0 == own) (is_nonempty (msgs_to at.0 sends)) fed).0 in λ i. delivery (same i) (node i)
fed_is own to sends (Evict at set) fed node = absurd (cc)

pub none_stands : (count n : ℕ) → best_at (replicate count None) n ≡ None
none_stands zero n = refl
none_stands (suc count) zero = refl
none_stands (suc count) (suc n) = none_stands count n

module _ (h : History) (costs : Costs) (times : Times) where
  -- what stands for a node once one was put
  at_put : (P : Option Due → Type 0) (n m : ℕ) (best : Option Due) (before after : List (Option Due)) → IsPut n best before after → (m ≡ n → P best) → (m ≢ n → P (best_at before m)) → P (best_at after m)
  at_put P n m best before after put here others = is_node (P (best_at after m)) m n
      (λ same. subst P (sym (ap (best_at after) same ∙ put.here)) (here same))
      (λ other. subst P (sym (put.others m other)) (others other))

  past_put : (n : ℕ) (best : Option Due) (before after : List (Option Due)) → n < node_count h.image → IsPut n best before after → NoneIsPast (node_count h.image) before → NoneIsPast (node_count h.image) after
  past_put n best before after exists put past m from = put.others m (λ same. omega (arith, same, exists, from)) ∙ past m from

  -- a node that was looked at again, among others
  node_renewed : (n m : ℕ) (before after : List (Option Due)) → NodeIsRenewed h costs times n before after → (m ≢ n → IsBestOf h costs times (IsOf h m) (best_at before m)) → IsBestOf h costs times (IsOf h m) (best_at after m)
  node_renewed n m before after again others =
      at_put (IsBestOf h costs times (IsOf h m)) n m again.best before after again.put (λ same. subst (λ (k : ℕ). IsBestOf h costs times (IsOf h k) again.best) (sym same) again.best_is) others

  -- ---- node by node

  -- the nodes below a number were looked at again
  pub record AreBestsBelow (count : ℕ) (bests : List (Option Due)) : Type 0 where
    pub past : NoneIsPast (node_count h.image) bests
    pub each : (n : ℕ) → n < count → IsBestOf h costs times (IsOf h n) (best_at bests n)

  pub none_renewed : (bests : List (Option Due)) → NoneIsPast (node_count h.image) bests → AreBestsBelow 0 bests
  none_renewed bests past = record { past = past; each = λ n lt. absurd (omega (arith, lt)) }

  pub one_renewed : (count : ℕ) (before after : List (Option Due)) → count < node_count h.image → AreBestsBelow count before → NodeIsRenewed h costs times count before after → AreBestsBelow (count + 1) after
  one_renewed count before after exists are again = record {
    past = past_put count again.best before after exists again.put are.past;
    each = λ n lt. node_renewed count n before after again (λ other. are.each n (omega (arith, lt, other)));
  }

  pub all_renewed : (count : ℕ) (bests : List (Option Due)) → node_count h.image ≤ count → AreBestsBelow count bests → AreBests h costs times bests
  all_renewed count bests all are = record { past = are.past; each = λ n exists. are.each n (omega (arith, exists, all)) }

  -- ---- an event's own node, and what it sent

  module _ (own : ℕ) where
    best_but : (n : ℕ) (sends : List (ℕ × Msg)) (best : Option Due) → IsBestOf h costs times (IsOf h n) best → IsBestBut h costs times own sends n best
    best_but n sends best is = record { one = is.one; first = λ other of fed due. is.first other of due }

    -- each node is right but for deliveries of some sends
    pub record AreBestsAside (sends : List (ℕ × Msg)) (bests : List (Option Due)) : Type 0 where
      pub past : NoneIsPast (node_count h.image) bests
      pub each : (n : ℕ) → n < node_count h.image → IsBestBut h costs times own sends n (best_at bests n)

    pub own_renewed : (sends : List (ℕ × Msg)) (before after : List (Option Due)) → own < node_count h.image → AreBestsBut h costs times own sends before → NodeIsRenewed h costs times own before after →
        AreBestsAside sends after
    own_renewed sends before after exists are again = record {
      past = past_put own again.best before after exists again.put are.past;
      each = λ n here. at_put (IsBestBut h costs times own sends n) own n again.best before after again.put
          (λ same. best_but n sends again.best (subst (λ (k : ℕ). IsBestOf h costs times (IsOf h k) again.best) (sym same) again.best_is)) (are.each n here);
    }

    -- what stood for a node, and a delivery from there
    module _ (to : ℕ) (sends : List (ℕ × Msg)) (best due : Option Due) (but : IsBestBut h costs times own sends to best) (is : IsBestOf h costs times (IsEvent h (delivery own to)) due) where
      -- an event of the node that isn't before what stands there
      abbrev IsBehind : Event → Type 0
      IsBehind event = IsOf h to event × (is_due_for h costs times event ≡ true → IsFirstOf h costs times best event)

      one_behind : (b : Option Due) → b ≡ best → IsOneOf h costs times (IsOf h to) b → IsOneOf h costs times IsBehind b
      one_behind None same one = tt
      one_behind (Some due) same one = (one.0, (one.1, λ due_is. subst (λ (o : Option Due). IsFirstOf h costs times o due.event) same (inl refl)))

      behind_or_fed : (event : Event) → IsOf h to event → (b : Bool) → is_fed_for own sends event ≡ b → IsBehind event ⊎ IsEvent h (delivery own to) event
      behind_or_fed event of true fed = inr (fed_is own to sends event fed of.2, of.0)
      behind_or_fed event of false fed = inl (of, λ due_is. but.first event of fed due_is)

      compared : IsBestOf h costs times (IsOf h to) (earlier best due)
      compared = of_both h costs times IsBehind (IsEvent h (delivery own to)) (IsOf h to) best due (λ event of. of.1) (λ event of. of.0)
          (λ event of. (of.1, ap is_evict of.0, ap node_of of.0)) (λ event of. behind_or_fed event of (is_fed_for own sends event) refl)
          (record { one = one_behind best refl but.one; first = λ other of due_is. of.1 due_is }) is

    pub send_compared : (sends : List (ℕ × Msg)) (i : ℕ) (send : ℕ × Msg) (before after : List (Option Due)) → send.0 < node_count h.image → AreBestsAside (drop i sends) before →
        slice_get sends i ≡ Some send → DeliveryIsCompared h costs times own send.0 before after → AreBestsAside (drop (i + 1) sends) after
    send_compared sends i send before after exists are got is = record {
      past = past_put send.0 (earlier (best_at before send.0) is.due) before after exists is.put are.past;
      each = λ n here. at_put (IsBestBut h costs times own (drop (i + 1) sends) n) send.0 n (earlier (best_at before send.0) is.due) before after is.put
          (λ same. best_but n (drop (i + 1) sends) (earlier (best_at before send.0) is.due) (subst (λ (k : ℕ). IsBestOf h costs times (IsOf h k) (earlier (best_at before send.0) is.due)) (sym same)
          (compared send.0 (drop i sends) (best_at before send.0) is.due (are.each send.0 exists) is.due_is)))
          (λ other. elsewhere n other (subst (λ (all : List (ℕ × Msg)). IsBestBut h costs times own all n (best_at before n)) (drop_get sends i send got) (are.each n here)));
    }
      where
        elsewhere : (n : ℕ) → n ≢ send.0 → IsBestBut h costs times own (send ∷ drop (i + 1) sends) n (best_at before n) → IsBestBut h costs times own (drop (i + 1) sends) n (best_at before n)
        elsewhere n other but = record {
          one = but.one;
          first = λ event of fed due. but.first event of (fed_elsewhere own send (drop (i + 1) sends) event (λ same. other (sym of.2 ∙ same)) ∙ fed) due;
        }

    pub sends_compared : (sends : List (ℕ × Msg)) (i : ℕ) (bests : List (Option Due)) → length sends ≤ i → AreBestsAside (drop i sends) bests → AreBests h costs times bests
    sends_compared sends i bests all are = record {
      past = are.past;
      each = λ n here. let but = subst (λ (rest : List (ℕ × Msg)). IsBestBut h costs times own rest n (best_at bests n)) (none_left sends i all) (are.each n here) in
          record { one = but.one; first = λ other of due. but.first other of (none_fed own other) due };
    }
      where
        none_left : (xs : List (ℕ × Msg)) (i : ℕ) → length xs ≤ i → drop i xs ≡ []
        none_left [] zero le = refl
        none_left [] (suc i) le = refl
        none_left (x ∷ xs) zero le = absurd (omega (arith, le))
        none_left (x ∷ xs) (suc i) le = none_left xs i (omega (arith, le))

-- a comparison with nothing
pub earlier_none : (best : Option Due) → earlier best None ≡ best
earlier_none None = refl
earlier_none (Some due) = refl

pub nothing_put : (to : ℕ) (bests : List (Option Due)) → IsPut to (earlier (best_at bests to) None) bests bests
nothing_put to bests = record { here = sym (earlier_none (best_at bests to)); others = λ m other. refl }

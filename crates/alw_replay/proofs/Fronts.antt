-- The entries that a machine takes are the longest legal front.
use Rattle.std.proofs.Common.{◌≡◌, ℕ, zero, suc, ◌≤◌, Bool, true, false, List, [], ◌∷◌, ◌++◌, length, take, refl, sym, ap, subst, ◌∙◌, append_assoc, arith}
use Rattle.std.proofs.lemmas.Bool.{true≢false, eqb-true}
use Rattle.std.proofs.lemmas.Bool.Decides.{nat_tests}
use Rattle.std.proofs.lemmas.List.{append-nil, length-take-le}
use Rattle.alw_msg.specs.declared.events.Entry.{Entry}
use Rattle.alw_image.specs.declared.parts.Parts.{Parts}
use Rattle.alw_image.specs.Parameters.{Parameters}
use Rattle.alw_model.specs.Machine.{MachineState, state, stamp_at, is_next, IsNext, AreLegal}
use Rattle.alw_model.proofs.Journals.{and_parts, state_push}
use Rattle.alw_mesh.specs.Histories.{History, IsRun, begun, state_of, entry_of, grown}
use Rattle.alw_replay.specs.Replays.{IsReplayed, may_follow, taken_on}

-- the test says what is next
pub passes : (image : Parts) (parameters : Parameters) (s : MachineState) (entry : Entry) → IsNext image parameters s entry → is_next image parameters s entry ≡ true
passes image parameters s entry next = rw (next.enabled, next.within) (grind (arith, nat_tests, next.stamp))

-- the next entry is that of its event
pub same_entry : (h : History) (entry : Entry) → may_follow h entry ≡ true → entry_of h entry.event ≡ entry
same_entry h entry follows =
    let parts = and_parts _ _ follows in
    let stamp : entry.stamp ≡ stamp_at h.image (state_of h) entry.event = eqb-true _ _ (and_parts _ _ parts.1).1 in
    ap (λ (n : ℕ). record { stamp = n; event = entry.event }) (sym stamp)

-- so many entries of a list were taken, and no longer front of it is legal
pub record IsLongestFront (h : History) (entries : List Entry) (n : ℕ) : Type 0 where
  pub few : n ≤ length entries
  pub is : taken_on h entries ≡ record h { journal = h.journal ++ take n entries }
  pub longest : (k : ℕ) → k ≤ length entries → AreLegal h.image h.parameters (state_of h) (take k entries) → k ≤ n

pub record HasFront (h : History) (entries : List Entry) : Type 0 where
  pub n : ℕ
  pub front : IsLongestFront h entries n

module _ (h : History) (entry : Entry) (rest : List Entry) where
  stops : may_follow h entry ≡ false → (k : ℕ) → k ≤ length (entry ∷ rest) → AreLegal h.image h.parameters (state_of h) (take k (entry ∷ rest)) → k ≤ 0
  stops not_next zero l legal = omega arith
  stops not_next (suc k) l legal = absurd (true≢false (sym (passes h.image h.parameters (state_of h) entry legal.0) ∙ not_next))

  none_more : may_follow h entry ≡ false → HasFront h (entry ∷ rest)
  none_more not_next = record {
    n = 0;
    front = record {
      few = omega arith;
      is = rw not_next (ap (λ (j : List Entry). record h { journal = j }) (sym (append-nil h.journal)));
      longest = stops not_next;
    };
  }

  goes_on : may_follow h entry ≡ true → (n : ℕ) → IsLongestFront (grown h entry.event) rest n → (k : ℕ) → k ≤ length (entry ∷ rest) →
      AreLegal h.image h.parameters (state_of h) (take k (entry ∷ rest)) → k ≤ suc n
  goes_on follows n front zero l legal = omega arith
  goes_on follows n front (suc k) l legal =
      let after = sym (state_push h.image h.parameters h.journal (entry_of h entry.event)) in
      let more = front.longest k (omega (arith, l)) (subst (λ (s : MachineState). AreLegal h.image h.parameters s (take k rest)) after legal.1) in
      omega (arith, more)

  one_more : may_follow h entry ≡ true → HasFront (grown h entry.event) rest → HasFront h (entry ∷ rest)
  one_more follows more =
      let journal : (h.journal ++ entry_of h entry.event ∷ []) ++ take more.n rest ≡ h.journal ++ entry ∷ take more.n rest =
      append_assoc h.journal (entry_of h entry.event ∷ []) (take more.n rest) ∙ ap (λ (e : Entry). h.journal ++ e ∷ take more.n rest) (same_entry h entry follows) in
      record {
        n = suc more.n;
        front = record {
          few = omega (arith, more.front.few);
          is = rw follows (more.front.is ∙ ap (λ (j : List Entry). record h { journal = j }) journal);
          longest = goes_on follows more.n more.front;
        };
      }

pub front_of : (h : History) (entries : List Entry) → HasFront h entries
front_of h [] = record {
  n = 0;
  front = record { few = omega arith; is = ap (λ (j : List Entry). record h { journal = j }) (sym (append-nil h.journal)); longest = λ k l legal. l };
}
front_of h (entry ∷ rest) = go (may_follow h entry) refl (front_of (grown h entry.event) rest)
  where
    go : (b : Bool) → may_follow h entry ≡ b → HasFront (grown h entry.event) rest → HasFront h (entry ∷ rest)
    go true follows more = one_more h entry rest follows more
    go false stops more = none_more h entry rest stops

-- the machine that has taken entries from its start on, and how many they are
pub replayed : (image : Parts) (parameters : Parameters) (entries : List Entry) (machine : History) (kept : ℕ) →
    machine ≡ taken_on (begun image parameters) entries → IsRun machine → kept ≡ length machine.journal → IsReplayed image parameters entries machine kept
unfolding state
replayed image parameters entries machine kept taken run count =
    let front = front_of (begun image parameters) entries in
    let is : machine ≡ record { image = image; parameters = parameters; journal = take front.n entries; joined = 0 } = taken ∙ front.front.is in
    let same : kept ≡ front.n = count ∙ ap (λ (h : History). length h.journal) is ∙ length-take-le front.n entries front.front.few in
    record {
      few = rw same front.front.few;
      is = rw same is;
      run = run;
      longest = λ k l legal. rw same (front.front.longest k l legal);
    }

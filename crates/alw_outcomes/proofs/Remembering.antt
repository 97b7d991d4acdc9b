-- A lead stays one as pools grow.
use Rattle.std.proofs.Common.{◌≡◌, ℕ, zero, suc, ◌⊎◌, inl, inr, Option, Some, None, List, [], ◌∷◌, replicate, slice_set, sym, ap, ◌∙◌, subst}
use Rattle.std.specs.List.{slice_get}
use Rattle.alw_image.specs.declared.parts.Parts.{Parts}
use Rattle.alw_places.specs.declared.classes.Class.{Class}
use Rattle.alw_outcomes.specs.declared.leads.Lead.{Lead}
use Rattle.alw_outcomes.specs.declared.leads.Lead.TheVariants as leads
use Rattle.alw_outcomes.specs.declared.pools.Pools.{Pools}
use Rattle.alw_outcomes.specs.declared.remembered.Known.{Known}
use Rattle.alw_places.specs.Threads.{Thread, thread_turn}
use Rattle.alw_outcomes.specs.Pools.{ArePools, PoolsGrow, thread_in}
use Rattle.alw_outcomes.specs.Leads.{IsLead}
use Rattle.alw_outcomes.specs.Remembered.{IsKnown, KeepsSome, NotesOne, NotesSome, IsLeadOf, AreLeads}
use Rattle.alw_outcomes.proofs.Pooling.{some_is}
use Rattle.alw_outcomes.proofs.Leading.{inside_grows, thread_grows, chain_grows}

module _ (parts : Parts) (classes : List Class) (before after : Pools) (are : ArePools parts before) (grow : PoolsGrow before after) where
  lead_grows : (context : ℕ) (thread : Thread) (lead : Lead) → IsLead parts classes context thread before lead → IsLead parts classes context thread after lead
  lead_grows context thread leads.Idle is = is
  lead_grows context thread (leads.Breaks turn) is = is
  lead_grows context thread (leads.Traps pc type) is = is
  lead_grows context thread (leads.Goes to more first) is =
      record { goes = is.goes; first_is = is.first_is; chain = chain_grows parts classes context (thread_turn parts thread) before after to more are grow is.chain }

  known_grows : (known : Known) → IsLeadOf parts classes before known → IsLeadOf parts classes after known
  known_grows known is = record {
    inside = inside_grows before after known.at grow is.inside;
    lead =
        subst (λ (t : Thread). IsLead parts classes known.context t after known.lead) (sym (thread_grows parts before after known.at are grow is.inside))
        (lead_grows known.context (thread_in before known.at) known.lead is.lead);
  }

  pub leads_grow : (slots : List (Option Known)) → AreLeads parts classes before slots → AreLeads parts classes after slots
  leads_grow slots each known there = known_grows known (each known there)

pub lead_noted : (parts : Parts) (classes : List Class) (pools : Pools) (before after : List (Option Known)) (one : Known) → AreLeads parts classes pools before → IsLeadOf parts classes pools one
    → NotesOne before after one → AreLeads parts classes pools after
lead_noted parts classes pools before after one each is noted known there = go (noted known there)
  where
    go : IsKnown before known ⊎ (one ≡ known) → IsLeadOf parts classes pools known
    go (inl old) = each known old
    go (inr same) = subst (IsLeadOf parts classes pools) same is

-- ---- slots

set_cases : {A : Type 0} (xs : List A) (k j : ℕ) (x y : A) → slice_get (slice_set xs k x) j ≡ Some y → (slice_get xs j ≡ Some y) ⊎ (x ≡ y)
set_cases [] k j x y e = inl e
set_cases (z ∷ xs) zero zero x y e = inr (some_is x y e)
set_cases (z ∷ xs) zero (suc j) x y e = inl e
set_cases (z ∷ xs) (suc k) zero x y e = inl e
set_cases (z ∷ xs) (suc k) (suc j) x y e = set_cases xs k j x y e

pub set_notes : (before after : List (Option Known)) (slot : ℕ) (one : Known) → after ≡ slice_set before slot (Some one) → NotesOne before after one
set_notes before after slot one set known there = go (set_cases before slot there.slot (Some one) (Some known) (ap (λ (l : List (Option Known)). slice_get l there.slot) (sym set) ∙ there.there))
  where
    go : (slice_get before there.slot ≡ Some (Some known)) ⊎ (Some one ≡ Some known) → IsKnown before known ⊎ (one ≡ known)
    go (inl old) = inl (record { slot = there.slot; there = old })
    go (inr new) = inr (some_is one known new)

pub same_notes : (before : List (Option Known)) (one : Known) → NotesOne before before one
same_notes before one known there = inl there

no_known : (n k : ℕ) (known : Known) → slice_get (replicate n None) k ≡ Some (Some known) → ⊥
no_known zero k known e = cc
no_known (suc n) zero known e = cc
no_known (suc n) (suc k) known e = no_known n k known e

pub free_keeps : (before free : List (Option Known)) (n : ℕ) → free ≡ replicate n None → KeepsSome before free
free_keeps before free n is known there = absurd (no_known n there.slot known (ap (λ (l : List (Option Known)). slice_get l there.slot) (sym is) ∙ there.there))

pub same_keeps : (before after : List (Option Known)) → after ≡ before → KeepsSome before after
same_keeps before after same known there = subst (λ (l : List (Option Known)). IsKnown l known) same there

-- what an old slot has is put into the new ones
pub keeps_more : (before one two : List (Option Known)) (k : ℕ) (old : Option Known) → slice_get before k ≡ Some old → KeepsSome before one → NotesSome one two old → KeepsSome before two
keeps_more before one two k old there keeps notes known has = go (notes known has)
  where
    go : IsKnown one known ⊎ (old ≡ Some known) → IsKnown before known
    go (inl earlier) = keeps known earlier
    go (inr same) = record { slot = k; there = there ∙ ap (λ (o : Option Known). Some o) same }

-- the slots became more, or not, and one was put in
pub notes_kept : (before one two : List (Option Known)) (known : Known) → KeepsSome before one → NotesOne one two known → NotesOne before two known
notes_kept before one two known keeps notes other there = go (notes other there)
  where
    go : IsKnown one other ⊎ (known ≡ other) → IsKnown before other ⊎ (known ≡ other)
    go (inl earlier) = inl (keeps other earlier)
    go (inr same) = inr same

-- The combinations that the home table lists: a state of the entry, a message and its sender (Chaiken, Kubiatowicz and Agarwal, ASPLOS 1991, the transitions of a memory-side entry).
use Rattle.std.specs.Prelude.{◌≡◌, ◌≢◌, ℕ, ◌<◌, ◌⊎◌, Some, IsSomeAnd, IsSome, ⊤, List, [], ◌∷◌}
use Rattle.alw_num.specs.declared.states.State.{State}
use Rattle.alw_num.specs.declared.states.State.TheVariants.{RO, RW}
use Rattle.alw_msg.specs.Contents.{ToMemory, RREQ, WREQ, REPM, UPDATE, ACKC}
use Rattle.alw_model.specs.FullMap.{Home, sole, act}

-- what is listed in a state: requests anywhere but from the owner; in Read-Write a REPM of the owner; in a transaction a REPM, the UPDATE that ends it, and an ACKC that is counted
abbrev pub ListedIn : State → Home → ℕ → ToMemory → Type 0
ListedIn RO h i RREQ = ⊤
ListedIn RO h i WREQ = ⊤
ListedIn RO h i _ = ⊥
ListedIn RW h i RREQ = IsSomeAnd (sole h.pointers) (λ owner. i ≢ owner)
ListedIn RW h i WREQ = IsSomeAnd (sole h.pointers) (λ owner. i ≢ owner)
ListedIn RW h i (REPM body) = sole h.pointers ≡ Some i
ListedIn RW h i _ = ⊥
ListedIn _ h i RREQ = ⊤
ListedIn _ h i WREQ = ⊤
ListedIn _ h i (REPM body) = ⊤
ListedIn _ h i (UPDATE body) = IsSome (sole h.pointers)
ListedIn _ h i ACKC = (1 < h.acks) ⊎ ((h.acks ≡ 1) × IsSome (sole h.pointers))

-- a message of a node is listed at an entry
abbrev pub IsListed : Home → ℕ → ToMemory → Type 0
IsListed h i message = ListedIn h.state h i message

-- messages, each with its sender, are listed one after the other, each at the entry that the ones before it leave
abbrev pub AreListed : Home → List (ℕ × ToMemory) → Type 0
AreListed h [] = Unit {0}
AreListed h (message ∷ rest) = IsListed h message.0 message.1 × AreListed (act h message.0 message.1).0 rest

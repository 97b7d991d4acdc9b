-- Messages with their receivers: those that go to a node, and the first of them taken out.
use Rattle.std.proofs.Common.{◌≡◌, ◌≢◌, ℕ, zero, suc, ◌<◌, ◌==◌, Bool, true, false, cond, Some, List, [], ◌∷◌, ◌++◌, length, map, filter, get_or, refl, sym, ap, ◌∙◌, arith}
use Rattle.std.specs.List.{remove}
use Rattle.std.proofs.lemmas.Bool.{eqb-true, eq-eqb, ne_eqb}
use Rattle.std.proofs.lemmas.List.{map-append, get_or_read}
use Rattle.std.proofs.lemmas.List.Elements.{filter-append}
use Rattle.alw_msg.specs.declared.messages.Msg.{Msg}
use Rattle.alw_msg.specs.Lists.{front, behind}
use Rattle.alw_cells.specs.Cells.{picked, without_first}

pub picked-append : (to : ℕ) (xs ys : List (ℕ × Msg)) → picked to (xs ++ ys) ≡ picked to xs ++ picked to ys
picked-append to xs ys =
    ap (map (λ (send : ℕ × Msg). send.1)) (filter-append (λ (send : ℕ × Msg). send.0 == to) xs ys) ∙ map-append (λ (send : ℕ × Msg). send.1) (filter (λ (send : ℕ × Msg). send.0 == to) xs) (filter (λ (send : ℕ × Msg). send.0 == to) ys)

-- the first to a node is taken out: the others to it stay
pub picked_behind : (to : ℕ) (sends : List (ℕ × Msg)) → picked to (without_first to sends) ≡ behind (picked to sends)
picked_behind to [] = refl
picked_behind to (send ∷ rest) = go (picked_behind to rest) (send.0 == to) refl
  where
    go : picked to (without_first to rest) ≡ behind (picked to rest) → (b : Bool) → (send.0 == to) ≡ b → picked to (cond b rest (send ∷ without_first to rest)) ≡ behind (map (λ (s : ℕ × Msg). s.1) (cond b (send ∷ filter (λ (s : ℕ × Msg). s.0 == to) rest) (filter (λ (s : ℕ × Msg). s.0 == to) rest)))
    go deeper true is = refl
    go deeper false is = ap (λ b. map (λ (s : ℕ × Msg). s.1) (cond b (send ∷ filter (λ (s : ℕ × Msg). s.0 == to) (without_first to rest)) (filter (λ (s : ℕ × Msg). s.0 == to) (without_first to rest)))) is ∙ deeper

-- and so do those to other nodes
pub picked_other : (to other : ℕ) (sends : List (ℕ × Msg)) → other ≢ to → picked other (without_first to sends) ≡ picked other sends
picked_other to other [] differ = refl
picked_other to other (send ∷ rest) differ = go (picked_other to other rest differ) (send.0 == to) refl
  where
    go : picked other (without_first to rest) ≡ picked other rest → (b : Bool) → (send.0 == to) ≡ b → picked other (cond b rest (send ∷ without_first to rest)) ≡ picked other (send ∷ rest)
    go deeper true is =
        let away : (send.0 == other) ≡ false = ne_eqb send.0 other (λ same. differ (sym same ∙ eqb-true send.0 to is)) in
        sym (ap (λ b. map (λ (s : ℕ × Msg). s.1) (cond b (send ∷ filter (λ (s : ℕ × Msg). s.0 == other) rest) (filter (λ (s : ℕ × Msg). s.0 == other) rest))) away)
    go deeper false is = each (send.0 == other)
      where
        each : (b : Bool) → map (λ (s : ℕ × Msg). s.1) (cond b (send ∷ filter (λ (s : ℕ × Msg). s.0 == other) (without_first to rest)) (filter (λ (s : ℕ × Msg). s.0 == other) (without_first to rest)))
            ≡ map (λ (s : ℕ × Msg). s.1) (cond b (send ∷ filter (λ (s : ℕ × Msg). s.0 == other) rest) (filter (λ (s : ℕ × Msg). s.0 == other) rest))
        each true = ap (λ (xs : List Msg). send.1 ∷ xs) deeper
        each false = deeper

-- ---- found by its place

-- none of the first so many goes to a node
abbrev pub NoneBefore : ℕ → List (ℕ × Msg) → ℕ → Type 0
NoneBefore to sends count = (k : ℕ) (d : ℕ × Msg) → k < count → (get_or sends k d).0 ≢ to

pub first_found : (to : ℕ) (sends : List (ℕ × Msg)) (at : ℕ) (send : ℕ × Msg) → NoneBefore to sends at → at < length sends → send ≡ get_or sends at send → send.0 ≡ to
    → (front (picked to sends) ≡ Some send.1) × (remove sends at ≡ without_first to sends)
first_found to [] at send none within is goes = absurd (omega arith)
first_found to (first ∷ rest) zero send none within is goes =
    let here : (first.0 == to) ≡ true = eq-eqb first.0 to (sym (ap (λ (s : ℕ × Msg). s.0) is) ∙ goes) in (
      ap (λ b. front (map (λ (s : ℕ × Msg). s.1) (cond b (first ∷ filter (λ (s : ℕ × Msg). s.0 == to) rest) (filter (λ (s : ℕ × Msg). s.0 == to) rest)))) here ∙ ap (λ (s : ℕ × Msg). Some s.1) (sym is),
      sym (ap (λ b. cond b rest (first ∷ without_first to rest)) here),
    )
first_found to (first ∷ rest) (suc at) send none within is goes =
    let away : (first.0 == to) ≡ false = ne_eqb first.0 to (none 0 send (omega arith)) in
    let deeper = first_found to rest at send (λ k d l. none (suc k) d (omega arith)) (omega arith) is goes in (
      ap (λ b. front (map (λ (s : ℕ × Msg). s.1) (cond b (first ∷ filter (λ (s : ℕ × Msg). s.0 == to) rest) (filter (λ (s : ℕ × Msg). s.0 == to) rest)))) away ∙ deeper.0,
      ap (λ (xs : List (ℕ × Msg)). first ∷ xs) deeper.1 ∙ sym (ap (λ b. cond b rest (first ∷ without_first to rest)) away),
    )

pub none_found : (to : ℕ) (sends : List (ℕ × Msg)) → NoneBefore to sends (length sends) → (picked to sends ≡ []) × (without_first to sends ≡ sends)
none_found to [] none = (refl, refl)
none_found to (first ∷ rest) none =
    let away : (first.0 == to) ≡ false = ne_eqb first.0 to (none 0 first (omega arith)) in
    let deeper = none_found to rest (λ k d l. none (suc k) d (omega arith)) in (
      ap (λ b. map (λ (s : ℕ × Msg). s.1) (cond b (first ∷ filter (λ (s : ℕ × Msg). s.0 == to) rest) (filter (λ (s : ℕ × Msg). s.0 == to) rest))) away ∙ deeper.0,
      ap (λ b. cond b rest (first ∷ without_first to rest)) away ∙ ap (λ (xs : List (ℕ × Msg)). first ∷ xs) deeper.1,
    )

-- the first message to a node, as the calls that find it say
pub taken_out : (to : ℕ) (sends now left : List (ℕ × Msg)) (at : ℕ) (found send : ℕ × Msg) → now ≡ sends → NoneBefore to sends at → at < length sends → found ≡ get_or now at found → found.0 ≡ to
    → send ≡ get_or now at send → left ≡ remove now at → (Some send.1 ≡ front (picked to sends)) × (left ≡ without_first to sends)
taken_out to sends now left at found send same none within found_is goes send_is left_is =
    let here : send ≡ get_or sends at send = send_is ∙ ap (λ (xs : List (ℕ × Msg)). get_or xs at send) same in
    let there : found ≡ get_or sends at found = found_is ∙ ap (λ (xs : List (ℕ × Msg)). get_or xs at found) same in
    let one : send ≡ found = get_or_read sends at send within here found ∙ sym there in
    let both = first_found to sends at send none within here (ap (λ (s : ℕ × Msg). s.0) one ∙ goes) in
    (sym both.0, left_is ∙ (ap (λ (xs : List (ℕ × Msg)). remove xs at) same ∙ both.1))

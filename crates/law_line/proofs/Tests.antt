-- Tests of messages, by numbers: whether there is one of a kind, what stands behind what, how many carriers there are and what they carry.
use Rattle.std.proofs.Common.{◌≡◌, ℕ, zero, suc, ◌+◌, ◌≤◌, Bool, true, false, not, ◌||◌, Option, Some, None, List, [], ◌∷◌, ◌++◌, length, refl, ap, ◌∙◌, length-append, arith}
use Rattle.std.proofs.lemmas.Bool.{and_from}
use Rattle.std.specs.Prelude.{flat_map}
use Rattle.std.specs.List.{list_any, list_all, range_with_len, AllByRecursion}
use Rattle.alw_num.specs.declared.addresses.Line.{Line}
use Rattle.alw_num.specs.declared.states.Mode.{Mode}
use Rattle.alw_num.specs.declared.states.Mode.TheVariants.{Read, Write}
use Rattle.alw_num.specs.Weights.{digit, weigh, sum_below}
use Rattle.alw_num.proofs.Weigh.{sum_same}
use Rattle.alw_msg.specs.Contents.{ToMemory, RREQ, WREQ, REPM, UPDATE, ACKC, ToCache, RDATA, WDATA, INV, BUSY, is_repm, is_update, is_ackc, is_rdata, is_wdata, is_inv, brings_line, is_request_or_ackc}
use Rattle.alw_msg.specs.Lists.{count_of, is_followed, is_clear_behind}
use Rattle.alw_model.specs.Lines.{LineState, LineNode, copy_carried, up_carried, down_carried, carried, carriers, value_by, line_value}
use Rattle.alw_model.specs.LineInvariant.{reads, writes, data_holds}
use Rattle.law_line.specs.Census.{is_read, is_write, copies_of, off_copy, off_up, off_down, wrong_up, wrong_down, census, carries}
use Rattle.law_line.proofs.Bodies.{line_equals, same_of_off}

-- ---- choices

pub or_left : (p q : Bool) → p ≡ true → (p || q) ≡ true
or_left true q e = refl
or_left false q e = absurd (cc)

pub or_right : (p q : Bool) → q ≡ true → (p || q) ≡ true
or_right true q e = refl
or_right false q e = e

pub not_true : (p : Bool) → p ≡ false → not p ≡ true
not_true true e = absurd (cc)
not_true false e = refl

-- a fact where a test holds, and where it doesn't
pub by_test : {P : Type 0} (b : Bool) → (b ≡ true → P) → (b ≡ false → P) → P
by_test true held missed = held refl
by_test false held missed = missed refl

-- ---- messages of a kind

module _ {M : Type 0} where
  pub any_some : (test : M → Bool) (messages : List M) → 1 ≤ count_of test messages → list_any test messages ≡ true
  any_some test [] some = absurd (omega arith)
  any_some test (m ∷ rest) some = go (test m) (any_some test rest) some
    where
      go : (b : Bool) → (1 ≤ count_of test rest → list_any test rest ≡ true) → 1 ≤ digit b + count_of test rest → (b || list_any test rest) ≡ true
      go true later l = refl
      go false later l = later (omega arith)

  pub any_none : (test : M → Bool) (messages : List M) → count_of test messages ≡ 0 → list_any test messages ≡ false
  any_none test [] none = refl
  any_none test (m ∷ rest) none = go (test m) (any_none test rest) none
    where
      go : (b : Bool) → (count_of test rest ≡ 0 → list_any test rest ≡ false) → digit b + count_of test rest ≡ 0 → (b || list_any test rest) ≡ false
      go true later e = absurd (omega arith)
      go false later e = later (omega arith)

-- ---- what stands behind what

-- behind each RDATA an INV, where none stands before it and there are enough
pub rdata_followed : (down : List ToCache) → wrong_down down ≡ 0 → count_of is_rdata down ≤ count_of is_inv down → is_followed is_rdata is_inv down ≡ true
rdata_followed [] right some = refl
rdata_followed (RDATA body ∷ rest) right some = and_from _ _ (any_some is_inv rest (omega arith)) (rdata_followed rest (omega arith) (omega arith))
rdata_followed (WDATA body ∷ rest) right some = rdata_followed rest (omega arith) (omega arith)
rdata_followed (INV ∷ rest) right some = rdata_followed rest (omega arith) (omega arith)
rdata_followed (BUSY ∷ rest) right some = rdata_followed rest (omega arith) (omega arith)

pub wdata_followed : (down : List ToCache) → wrong_down down ≡ 0 → count_of is_wdata down ≤ count_of is_inv down → is_followed is_wdata is_inv down ≡ true
wdata_followed [] right some = refl
wdata_followed (RDATA body ∷ rest) right some = wdata_followed rest (omega arith) (omega arith)
wdata_followed (WDATA body ∷ rest) right some = and_from _ _ (any_some is_inv rest (omega arith)) (wdata_followed rest (omega arith) (omega arith))
wdata_followed (INV ∷ rest) right some = wdata_followed rest (omega arith) (omega arith)
wdata_followed (BUSY ∷ rest) right some = wdata_followed rest (omega arith) (omega arith)

-- behind each REPM an ACKC, likewise
pub repm_followed : (up : List ToMemory) → wrong_up up ≡ 0 → count_of is_repm up ≤ count_of is_ackc up → is_followed is_repm is_ackc up ≡ true
repm_followed [] right some = refl
repm_followed (RREQ ∷ rest) right some = repm_followed rest (omega arith) (omega arith)
repm_followed (WREQ ∷ rest) right some = repm_followed rest (omega arith) (omega arith)
repm_followed (REPM body ∷ rest) right some = and_from _ _ (any_some is_ackc rest (omega arith)) (repm_followed rest (omega arith) (omega arith))
repm_followed (UPDATE body ∷ rest) right some = repm_followed rest (omega arith) (omega arith)
repm_followed (ACKC ∷ rest) right some = repm_followed rest (omega arith) (omega arith)

no_line : (down : List ToCache) → count_of is_rdata down ≡ 0 → count_of is_wdata down ≡ 0 → list_any brings_line down ≡ false
no_line [] r w = refl
no_line (RDATA body ∷ rest) r w = absurd (omega arith)
no_line (WDATA body ∷ rest) r w = absurd (omega arith)
no_line (INV ∷ rest) r w = no_line rest (omega arith) (omega arith)
no_line (BUSY ∷ rest) r w = no_line rest (omega arith) (omega arith)

pub down_clear : (down : List ToCache) → wrong_down down ≡ 0 → is_clear_behind is_inv brings_line down ≡ true
down_clear [] right = refl
down_clear (RDATA body ∷ rest) right = down_clear rest right
down_clear (WDATA body ∷ rest) right = down_clear rest right
down_clear (INV ∷ rest) right = and_from _ _ (not_true _ (no_line rest (omega arith) (omega arith))) (down_clear rest (omega arith))
down_clear (BUSY ∷ rest) right = down_clear rest right

pub up_clear : (up : List ToMemory) → wrong_up up ≡ 0 → is_clear_behind is_request_or_ackc is_repm up ≡ true
up_clear [] right = refl
up_clear (RREQ ∷ rest) right = and_from _ _ (not_true _ (any_none is_repm rest (omega arith))) (up_clear rest (omega arith))
up_clear (WREQ ∷ rest) right = and_from _ _ (not_true _ (any_none is_repm rest (omega arith))) (up_clear rest (omega arith))
up_clear (REPM body ∷ rest) right = up_clear rest right
up_clear (UPDATE body ∷ rest) right = up_clear rest right
up_clear (ACKC ∷ rest) right = and_from _ _ (not_true _ (any_none is_repm rest (omega arith))) (up_clear rest (omega arith))

-- ---- copies

pub reads_count : (v : LineNode) → digit (reads v) ≡ copies_of is_read v.copy
reads_count v = go v.copy
  where
    go : (copy : Option (Mode × Line)) → digit (reads (record { copy = copy; transaction = v.transaction; up = v.up; down = v.down })) ≡ copies_of is_read copy
    go None = refl
    go (Some (Read, body)) = refl
    go (Some (Write, body)) = refl

pub writes_count : (v : LineNode) → digit (writes v) ≡ copies_of is_write v.copy
writes_count v = go v.copy
  where
    go : (copy : Option (Mode × Line)) → digit (writes (record { copy = copy; transaction = v.transaction; up = v.up; down = v.down })) ≡ copies_of is_write copy
    go None = refl
    go (Some (Read, body)) = refl
    go (Some (Write, body)) = refl

-- ---- carriers

copy_carries : (copy : Option (Mode × Line)) → length (copy_carried copy) ≡ copies_of is_write copy
copy_carries None = refl
copy_carries (Some (Read, body)) = refl
copy_carries (Some (Write, body)) = refl

down_carries : (down : List ToCache) → length (flat_map down_carried down) ≡ count_of is_wdata down
down_carries [] = refl
down_carries (RDATA body ∷ rest) = omega (arith, down_carries rest)
down_carries (WDATA body ∷ rest) = omega (arith, down_carries rest)
down_carries (INV ∷ rest) = omega (arith, down_carries rest)
down_carries (BUSY ∷ rest) = omega (arith, down_carries rest)

up_carries : (up : List ToMemory) → length (flat_map up_carried up) ≡ count_of is_repm up + count_of is_update up
up_carries [] = refl
up_carries (RREQ ∷ rest) = omega (arith, up_carries rest)
up_carries (WREQ ∷ rest) = omega (arith, up_carries rest)
up_carries (REPM body ∷ rest) = omega (arith, up_carries rest)
up_carries (UPDATE body ∷ rest) = omega (arith, up_carries rest)
up_carries (ACKC ∷ rest) = omega (arith, up_carries rest)

pub carried_length : (x : Line) (v : LineNode) → length (carried v) ≡ carries (census x v)
carried_length x v = omega (arith, length-append (copy_carried v.copy) (flat_map down_carried v.down ++ flat_map up_carried v.up), length-append (flat_map down_carried v.down) (flat_map up_carried v.up), copy_carries v.copy, down_carries v.down, up_carries v.up)

sum_front : (n : ℕ) (f : ℕ → ℕ) → sum_below (suc n) f ≡ f 0 + sum_below n (λ i. f (i + 1))
sum_front zero f = omega arith
sum_front (suc n) f = omega (arith, sum_front n f, ap f (plus_one n))
  where
    plus_one : (m : ℕ) → suc m ≡ m + 1
    plus_one m = omega arith

-- ---- what is carried

-- each is the value
abbrev pub BodiesAre : Line → List Line → Type 0
BodiesAre x bodies = AllByRecursion (λ b. b ≡ x) bodies

holds-append : (x : Line) (one other : List Line) → BodiesAre x one → BodiesAre x other → BodiesAre x (one ++ other)
holds-append x [] other p q = q
holds-append x (b ∷ one) other p q = (p.0, holds-append x one other p.1 q)

copy_holds : (x : Line) (copy : Option (Mode × Line)) → off_copy x copy ≡ 0 → BodiesAre x (copy_carried copy)
copy_holds x None none = tt
copy_holds x (Some (Read, body)) none = tt
copy_holds x (Some (Write, body)) none = (same_of_off x body none, tt)

down_holds : (x : Line) (down : List ToCache) → weigh (off_down x) down ≡ 0 → BodiesAre x (flat_map down_carried down)
down_holds x [] none = tt
down_holds x (RDATA body ∷ rest) none = down_holds x rest (omega arith)
down_holds x (WDATA body ∷ rest) none = (same_of_off x body (omega arith), down_holds x rest (omega arith))
down_holds x (INV ∷ rest) none = down_holds x rest (omega arith)
down_holds x (BUSY ∷ rest) none = down_holds x rest (omega arith)

up_holds : (x : Line) (up : List ToMemory) → weigh (off_up x) up ≡ 0 → BodiesAre x (flat_map up_carried up)
up_holds x [] none = tt
up_holds x (RREQ ∷ rest) none = up_holds x rest (omega arith)
up_holds x (WREQ ∷ rest) none = up_holds x rest (omega arith)
up_holds x (REPM body ∷ rest) none = (same_of_off x body (omega arith), up_holds x rest (omega arith))
up_holds x (UPDATE body ∷ rest) none = (same_of_off x body (omega arith), up_holds x rest (omega arith))
up_holds x (ACKC ∷ rest) none = up_holds x rest (omega arith)

carried_holds : (x : Line) (v : LineNode) → (census x v).off ≡ 0 → BodiesAre x (carried v)
carried_holds x v none = holds-append x (copy_carried v.copy) (flat_map down_carried v.down ++ flat_map up_carried v.up) (copy_holds x v.copy (omega arith))
    (holds-append x (flat_map down_carried v.down) (flat_map up_carried v.up) (down_holds x v.down (omega arith)) (up_holds x v.up (omega arith)))

pub data_all_hold : (x : Line) (down : List ToCache) → weigh (off_down x) down ≡ 0 → list_all (data_holds x) down ≡ true
data_all_hold x [] none = refl
data_all_hold x (RDATA body ∷ rest) none = and_from _ _ (rw (same_of_off x body (omega arith)) (line_equals x)) (data_all_hold x rest (omega arith))
data_all_hold x (WDATA body ∷ rest) none = data_all_hold x rest (omega arith)
data_all_hold x (INV ∷ rest) none = data_all_hold x rest (omega arith)
data_all_hold x (BUSY ∷ rest) none = data_all_hold x rest (omega arith)

-- ---- the current value

range_holds : (x : Line) (s : LineState) (a n : ℕ) → ((i : ℕ) → (census x (s.node i)).off ≡ 0) → BodiesAre x (flat_map (λ i. carried (s.node i)) (range_with_len a n))
range_holds x s a zero fresh = tt
range_holds x s a (suc n) fresh = holds-append x (carried (s.node a)) _ (carried_holds x (s.node a) (fresh a)) (range_holds x s (a + 1) n fresh)

range_length : (s : LineState) (a n : ℕ) → length (flat_map (λ i. carried (s.node i)) (range_with_len a n)) ≡ sum_below n (λ i. length (carried (s.node (a + i))))
range_length s a zero = refl
range_length s a (suc n) =
    let front = sum_front n (λ i. length (carried (s.node (a + i)))) in
    let first : length (carried (s.node (a + 0))) ≡ length (carried (s.node a)) = ap (λ i. length (carried (s.node i))) (plus_zero a) in
    let later : sum_below n (λ i. length (carried (s.node (a + (i + 1))))) ≡ sum_below n (λ i. length (carried (s.node (a + 1 + i)))) =
    sum_same n _ _ (λ i l. ap (λ j. length (carried (s.node j))) (regroup a i)) in
    omega (arith, range_length s (a + 1) n, length-append (carried (s.node a)) (flat_map (λ i. carried (s.node i)) (range_with_len (a + 1) n)))
  where
    plus_zero : (m : ℕ) → m + 0 ≡ m
    plus_zero m = omega arith

    regroup : (m k : ℕ) → m + (k + 1) ≡ m + 1 + k
    regroup m k = omega arith

pub carriers_length : (n : ℕ) (s : LineState) → length (carriers n s) ≡ sum_below n (λ i. length (carried (s.node i)))
carriers_length n s = range_length s 0 n ∙ sum_same n _ _ (λ i l. ap (λ j. length (carried (s.node j))) (zero_plus i))
  where
    zero_plus : (m : ℕ) → 0 + m ≡ m
    zero_plus m = omega arith

by_one : (x : Line) (bodies : List Line) (home : Line) → length bodies ≤ 1 → BodiesAre x bodies → (length bodies ≡ 0 → home ≡ x) → value_by bodies home ≡ x
by_one x [] home few each none = none refl
by_one x (b ∷ []) home few each none = each.0
by_one x (b ∷ c ∷ rest) home few each none = absurd (omega arith)

-- the current value is this one, where there is at most one carrier, each body is it, and without a carrier the home has it
pub current_is : (n : ℕ) (x : Line) (s : LineState) → ((i : ℕ) → (census x (s.node i)).off ≡ 0) → length (carriers n s) ≤ 1 → (length (carriers n s) ≡ 0 → s.home.body ≡ x) → line_value n s ≡ x
current_is n x s fresh few none = by_one x (carriers n s) s.home.body few (range_holds x s 0 n fresh) none

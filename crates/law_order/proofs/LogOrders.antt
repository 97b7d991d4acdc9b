-- Logged entries in the order of their entries: each node's are its log.
use Rattle.std.proofs.Common.{◌≡◌, ◌≢◌, ℕ, zero, suc, ◌+◌, ◌<◌, ◌≤◌, ◌==◌, Bool, true, false, cond, List, [], ◌∷◌, ◌++◌, get_or, map, refl, sym, subst, ap, ◌∙◌, append-nil, arith}
use Rattle.std.specs.Prelude.{filter, flat_map}
use Rattle.std.specs.List.{AllByRecursion}
use Rattle.std.proofs.lemmas.Bool.{eq-eqb, ne_eqb}
use Rattle.std.proofs.lemmas.List.{map-append}
use Rattle.std.proofs.lemmas.List.Elements.{filter-append}
use Rattle.alw_msg.specs.declared.events.Entry.{Entry}
use Rattle.alw_msg.specs.Events.{node_of}
use Rattle.alw_model.specs.Threads.{Logged, Logs, StampsRise, is_before, placed, in_order}
use Rattle.law_order.proofs.Keys.{stamps_le, stamps_ge}

-- a logged entry in its place, and logged entries in this order
abbrev pub placed_log : Logged → List Logged → List Logged
placed_log logged [] = logged ∷ []
placed_log logged (first ∷ rest) = cond (is_before first.entry logged.entry) (first ∷ placed_log logged rest) (logged ∷ first ∷ rest)

abbrev pub in_log_order : List Logged → List Logged
in_log_order [] = []
in_log_order (logged ∷ rest) = placed_log logged (in_log_order rest)

-- the entries
abbrev pub entries : List Logged → List Entry
entries log = map (λ (logged : Logged). logged.entry) log

-- those of a node
abbrev pub mine : ℕ → List Logged → List Logged
mine n log = filter (λ (logged : Logged). node_of logged.entry.event == n) log

-- all logs, one after the other
abbrev pub all_logs : Logs → List Logged
all_logs logs = flat_map (λ (log : List Logged). log) logs

-- ---- entries

entries_placed : (logged : Logged) (rest : List Logged) → entries (placed_log logged rest) ≡ placed logged.entry (entries rest)
entries_placed logged [] = refl
entries_placed logged (first ∷ rest) = go (is_before first.entry logged.entry) (entries_placed logged rest)
  where
    go : (b : Bool) → entries (placed_log logged rest) ≡ placed logged.entry (entries rest)
        → entries (cond b (first ∷ placed_log logged rest) (logged ∷ first ∷ rest)) ≡ cond b (first.entry ∷ placed logged.entry (entries rest)) (logged.entry ∷ first.entry ∷ entries rest)
    go true same = ap (λ (xs : List Entry). first.entry ∷ xs) same
    go false same = refl

pub entries_in_order : (log : List Logged) → entries (in_log_order log) ≡ in_order (entries log)
entries_in_order [] = refl
entries_in_order (logged ∷ rest) = entries_placed logged (in_log_order rest) ∙ ap (placed logged.entry) (entries_in_order rest)

pub entries_all : (logs : Logs) → flat_map (map (λ (logged : Logged). logged.entry)) logs ≡ entries (all_logs logs)
entries_all [] = refl
entries_all (log ∷ rest) = ap (λ (xs : List Entry). entries log ++ xs) (entries_all rest) ∙ sym (map-append (λ (logged : Logged). logged.entry) log (all_logs rest))

-- ---- stamps ascend

abbrev pub StampsAscend : List Logged → Type 0
StampsAscend [] = Unit {0}
StampsAscend (logged ∷ rest) = AllByRecursion (λ (later : Logged). logged.entry.stamp ≤ later.entry.stamp) rest × StampsAscend rest

all_placed : (P : Logged → Type 0) (logged : Logged) (rest : List Logged) → P logged → AllByRecursion P rest → AllByRecursion P (placed_log logged rest)
all_placed P logged [] is all = (is, tt)
all_placed P logged (first ∷ rest) is all = go (is_before first.entry logged.entry) (all_placed P logged rest is all.1)
  where
    go : (b : Bool) → AllByRecursion P (placed_log logged rest) → AllByRecursion P (cond b (first ∷ placed_log logged rest) (logged ∷ first ∷ rest))
    go false deep = (is, all)
    go true deep = (all.0, deep)

all_above : (low high : ℕ) (log : List Logged) → low ≤ high → AllByRecursion (λ (later : Logged). high ≤ later.entry.stamp) log → AllByRecursion (λ (later : Logged). low ≤ later.entry.stamp) log
all_above low high [] le all = tt
all_above low high (later ∷ rest) le all = (omega (arith, all.0), all_above low high rest le all.1)

placed_ascend : (logged : Logged) (rest : List Logged) → StampsAscend rest → StampsAscend (placed_log logged rest)
placed_ascend logged [] ascend = (tt, tt)
placed_ascend logged (first ∷ rest) ascend = go (is_before first.entry logged.entry) refl (placed_ascend logged rest ascend.1)
  where
    go : (b : Bool) → is_before first.entry logged.entry ≡ b → StampsAscend (placed_log logged rest) → StampsAscend (cond b (first ∷ placed_log logged rest) (logged ∷ first ∷ rest))
    go true is deep = (all_placed (λ (later : Logged). first.entry.stamp ≤ later.entry.stamp) logged rest (stamps_le first.entry logged.entry is) ascend.0, deep)
    go false is deep =
        let le : logged.entry.stamp ≤ first.entry.stamp = stamps_ge first.entry logged.entry is in
        ((le, all_above logged.entry.stamp first.entry.stamp rest le ascend.0), ascend)

pub order_ascends : (log : List Logged) → StampsAscend (in_log_order log)
order_ascends [] = tt
order_ascends (logged ∷ rest) = placed_ascend logged (in_log_order rest) (order_ascends rest)

-- ---- each node's

module _ (n : ℕ) where
  others_placed : (logged : Logged) (rest : List Logged) → (node_of logged.entry.event == n) ≡ false → mine n (placed_log logged rest) ≡ mine n rest
  others_placed logged [] other = ap (λ b. cond b (logged ∷ []) []) other
  others_placed logged (first ∷ rest) other = go (is_before first.entry logged.entry) (others_placed logged rest other)
    where
      go : (b : Bool) → mine n (placed_log logged rest) ≡ mine n rest → mine n (cond b (first ∷ placed_log logged rest) (logged ∷ first ∷ rest)) ≡ mine n (first ∷ rest)
      go true deep = ap (λ (xs : List Logged). cond (node_of first.entry.event == n) (first ∷ xs) xs) deep
      go false deep = ap (λ b. cond b (logged ∷ mine n (first ∷ rest)) (mine n (first ∷ rest))) other

  own_placed : (logged : Logged) (rest : List Logged) → (node_of logged.entry.event == n) ≡ true → AllByRecursion (λ (later : Logged). logged.entry.stamp < later.entry.stamp) (mine n rest) → mine n (placed_log logged rest) ≡ logged ∷ mine n rest
  own_placed logged [] own above = ap (λ b. cond b (logged ∷ []) []) own
  own_placed logged (first ∷ rest) own above = go (is_before first.entry logged.entry) (node_of first.entry.event == n) refl refl above (own_placed logged rest own)
    where
      go : (b c : Bool) → is_before first.entry logged.entry ≡ b → (node_of first.entry.event == n) ≡ c → AllByRecursion (λ (later : Logged). logged.entry.stamp < later.entry.stamp) (cond c (first ∷ mine n rest) (mine n rest))
          → (AllByRecursion (λ (later : Logged). logged.entry.stamp < later.entry.stamp) (mine n rest) → mine n (placed_log logged rest) ≡ logged ∷ mine n rest)
          → mine n (cond b (first ∷ placed_log logged rest) (logged ∷ first ∷ rest)) ≡ logged ∷ cond c (first ∷ mine n rest) (mine n rest)
      go true true is also above deep = absurd (let le = stamps_le first.entry logged.entry is in omega (arith, above.0))
      go true false is also above deep = ap (λ b. cond b (first ∷ mine n (placed_log logged rest)) (mine n (placed_log logged rest))) also ∙ deep above
      go false c is also above deep = ap (λ b. cond b (logged ∷ mine n (first ∷ rest)) (mine n (first ∷ rest))) own ∙ ap (λ b. logged ∷ cond b (first ∷ mine n rest) (mine n rest)) also

  -- stamps that rise from a clock are all above it
  rising_above : (clock least : ℕ) (log : List Logged) → least ≤ clock → StampsRise clock log → AllByRecursion (λ (later : Logged). least < later.entry.stamp) log
  rising_above clock least [] le rise = tt
  rising_above clock least (logged ∷ rest) le rise = (omega (arith, rise.0), rising_above logged.entry.stamp least rest (omega (arith, rise.0)) rise.2)

  -- a node whose stamps rise has its entries in the order in which it had them
  pub mine_in_order : (clock : ℕ) (log : List Logged) → StampsRise clock (mine n log) → mine n (in_log_order log) ≡ mine n log
  mine_in_order clock [] rise = refl
  mine_in_order clock (logged ∷ rest) rise = go (node_of logged.entry.event == n) refl rise (λ low. mine_in_order low rest)
    where
      go : (b : Bool) → (node_of logged.entry.event == n) ≡ b → StampsRise clock (cond b (logged ∷ mine n rest) (mine n rest)) → ((low : ℕ) → StampsRise low (mine n rest) → mine n (in_log_order rest) ≡ mine n rest)
          → mine n (placed_log logged (in_log_order rest)) ≡ cond b (logged ∷ mine n rest) (mine n rest)
      go false other rise deep = others_placed logged (in_log_order rest) other ∙ deep clock rise
      go true own rise deep =
          let same = deep logged.entry.stamp rise.2 in
          let above = rising_above logged.entry.stamp logged.entry.stamp (mine n rest) (omega arith) rise.2 in
          own_placed logged (in_log_order rest) own (subst (AllByRecursion (λ (later : Logged). logged.entry.stamp < later.entry.stamp)) (sym same) above) ∙ ap (λ (xs : List Logged). logged ∷ xs) same

  -- ---- all logs

  mine_whole : (log : List Logged) → AllByRecursion (λ (logged : Logged). node_of logged.entry.event ≡ n) log → mine n log ≡ log
  mine_whole [] all = refl
  mine_whole (logged ∷ rest) all = ap (λ b. cond b (logged ∷ mine n rest) (mine n rest)) (eq-eqb (node_of logged.entry.event) n all.0) ∙ ap (λ (xs : List Logged). logged ∷ xs) (mine_whole rest all.1)

  mine_none : (m : ℕ) (log : List Logged) → m ≢ n → AllByRecursion (λ (logged : Logged). node_of logged.entry.event ≡ m) log → mine n log ≡ []
  mine_none m [] other all = refl
  mine_none m (logged ∷ rest) other all = ap (λ b. cond b (logged ∷ mine n rest) (mine n rest)) (ne_eqb (node_of logged.entry.event) n (λ same. other (sym all.0 ∙ same))) ∙ mine_none m rest other all.1

  -- each log has the entries of one node, numbered from a number on
  abbrev AreFrom : ℕ → Logs → Type 0
  AreFrom low logs = (i : ℕ) → AllByRecursion (λ (logged : Logged). node_of logged.entry.event ≡ low + i) (get_or logs i [])

  next_from : (low : ℕ) (log : List Logged) (rest : Logs) → AreFrom low (log ∷ rest) → AreFrom (suc low) rest
  next_from low log rest each i = subst (λ (m : ℕ). AllByRecursion (λ (logged : Logged). node_of logged.entry.event ≡ m) (get_or rest i [])) (let e : low + suc i ≡ suc low + i = omega arith in e) (each (suc i))

  first_from : (low : ℕ) (log : List Logged) (rest : Logs) → AreFrom low (log ∷ rest) → AllByRecursion (λ (logged : Logged). node_of logged.entry.event ≡ low) log
  first_from low log rest each = subst (λ (m : ℕ). AllByRecursion (λ (logged : Logged). node_of logged.entry.event ≡ m) log) (let e : low + zero ≡ low = omega arith in e) (each zero)

  none_from : (low : ℕ) (logs : Logs) → n < low → AreFrom low logs → mine n (all_logs logs) ≡ []
  none_from low [] l each = refl
  none_from low (log ∷ rest) l each =
      filter-append (λ (logged : Logged). node_of logged.entry.event == n) log (all_logs rest)
      ∙ ((λ x. mine_none low log (λ e. absurd (omega arith)) (first_from low log rest each) x ++ none_from (suc low) rest (omega arith) (next_from low log rest each) x))

  pub mine_among : (low i : ℕ) (logs : Logs) → n ≡ low + i → AreFrom low logs → mine n (all_logs logs) ≡ get_or logs i []
  mine_among low i [] is each = refl
  mine_among low zero (log ∷ rest) is each =
      let own : AllByRecursion (λ (logged : Logged). node_of logged.entry.event ≡ n) log = subst (λ (m : ℕ). AllByRecursion (λ (logged : Logged). node_of logged.entry.event ≡ m) log) (sym is) (each zero) in
      filter-append (λ (logged : Logged). node_of logged.entry.event == n) log (all_logs rest)
      ∙ ((λ x. mine_whole log own x ++ none_from (suc low) rest (omega arith) (next_from low log rest each) x) ∙ append-nil log)
  mine_among low (suc i) (log ∷ rest) is each =
      filter-append (λ (logged : Logged). node_of logged.entry.event == n) log (all_logs rest)
      ∙ (λ x. mine_none low log (λ e. absurd (omega arith)) (first_from low log rest each) x ++ mine_among (suc low) i rest (omega arith) (next_from low log rest each) x)

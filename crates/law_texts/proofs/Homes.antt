-- The home lines of a node: those that are told name themselves, and the others are as they began.
use Rattle.std.proofs.Common.{◌≡◌, ℕ, zero, suc, ◌+◌, ◌*◌, ◌<◌, ◌≤◌, ◌==◌, Bool, true, false, cond, List, [], ◌∷◌, ◌++◌, refl, sym, ap, subst, ◌∙◌, arith}
use Rattle.std.specs.List.{flat_map, range_with_len, AllByRecursion}
use Rattle.std.proofs.lemmas.Bool.{false≢true, eqb-true}
use Rattle.std.proofs.lemmas.List.{append-nil}
use Rattle.alw_num.specs.declared.addresses.Line.{Line}
use Rattle.alw_num.specs.declared.states.State.{State}
use Rattle.alw_num.specs.declared.states.State.TheVariants.{RO, RW, RT, WT}
use Rattle.alw_num.specs.declared.states.Meta.{Meta}
use Rattle.alw_num.specs.declared.states.Meta.TheVariants.{Normal, Progress, TrapWrite, TrapAlways}
use Rattle.alw_num.specs.NodeSets.{count_nodes}
use Rattle.alw_num.proofs.Sets.{none_of_count}
use Rattle.alw_image.specs.declared.parts.Parts.{Parts}
use Rattle.alw_image.specs.Images.{body_of, is_always}
use Rattle.alw_model.specs.LimitLess.{Directory, directory_start, or_always}
use Rattle.alw_model.specs.LineInvariant.{same_line}
use Rattle.alw_model.specs.Lines.{entry_of}
use Rattle.alw_model.specs.Machine.{MachineState}
use Rattle.alw_model.proofs.Journals.{and_parts}
use Rattle.alw_save.specs.Lines.{home_line}
use Rattle.alw_save.specs.States.{is_read_only, begins_so, is_as_begun, home_text, homes_text}
use Rattle.law_texts.proofs.Runs.{rank, run_rank, one_run, rows, said_of, said-rows, rows_text, each_row, same_texts}
use Rattle.law_texts.proofs.Words.{same_words}
use Rattle.law_texts.proofs.HomeLines.{IsHomeRow, same_entry, one_home, home-ranks}

-- ---- as at the start

read_only : (s : State) → is_read_only s ≡ true → s ≡ RO
read_only RO e = refl
read_only RW e = absurd (false≢true e)
read_only RT e = absurd (false≢true e)
read_only WT e = absurd (false≢true e)

begun_meta : (always : Bool) (m : Meta) → begins_so always m ≡ true → m ≡ or_always always Normal
begun_meta true TrapAlways e = refl
begun_meta true Normal e = absurd (false≢true e)
begun_meta true Progress e = absurd (false≢true e)
begun_meta true TrapWrite e = absurd (false≢true e)
begun_meta false Normal e = refl
begun_meta false TrapAlways e = absurd (false≢true e)
begun_meta false Progress e = absurd (false≢true e)
begun_meta false TrapWrite e = absurd (false≢true e)

begun_body : (one other : Line) → same_line one other ≡ true → one ≡ other
begun_body one other e =
    let p = and_parts (one.a == other.a) _ e in
    let q = and_parts (one.b == other.b) _ p.1 in
    let r = and_parts (one.c == other.c) _ q.1 in
    same_words one.a one.b one.c one.d other.a other.b other.c other.d (eqb-true one.a other.a p.0) (eqb-true one.b other.b q.0)
    (eqb-true one.c other.c r.0) (eqb-true one.d other.d r.1)

begun-is : (body : Line) (always : Bool) (entry : Directory) → is_as_begun body always entry ≡ true → entry.always ≡ always
    → entry ≡ directory_start body always
begun-is body always entry e listed =
    let p = and_parts (is_read_only entry.state) _ e in
    let q = and_parts (begins_so always entry.meta) _ p.1 in
    let r = and_parts (count_nodes entry.hardware == 0) _ q.1 in
    let s = and_parts (count_nodes entry.software == 0) _ r.1 in
    let t = and_parts (entry.acks == 0) _ s.1 in
    same_entry entry (directory_start body always) (read_only entry.state p.0) (begun_meta always entry.meta q.0)
    (none_of_count entry.hardware (eqb-true _ 0 r.0)) (none_of_count entry.software (eqb-true _ 0 s.0)) (eqb-true entry.acks 0 t.0)
    (begun_body entry.body body t.1) listed

-- places that begin further on
further : (f : ℕ → List ℕ) (base low count : ℕ)
    → flat_map (λ place. f (base + place)) (range_with_len low count) ≡ flat_map f (range_with_len (base + low) count)
further f base low zero = refl
further f base low (suc count) =
    let next : base + (low + 1) ≡ base + low + 1 = omega arith in
    ap (λ (t : List ℕ). f (base + low) ++ t) (further f base (low + 1) count ∙ ap (λ (k : ℕ). flat_map f (range_with_len k count)) next)

abbrev told_if : Bool → Directory → List Directory
told_if true entry = []
told_if false entry = entry ∷ []

abbrev row_line : ℕ × Directory → List ℕ
row_line row = home_line row.0 row.1

-- ---- the home lines of a node

-- whether an entry is as its line began
abbrev is_begun : Parts → ℕ → Directory → Bool
is_begun parts line entry = is_as_begun (body_of parts line) (is_always parts line) entry

-- of each line of a node
abbrev pub EachLine : Parts → ℕ → (ℕ → Type 0) → Type 0
EachLine parts n P = (line : ℕ) → n * parts.per_node ≤ line → line < n * parts.per_node + parts.per_node → P line

-- what a line in range has
abbrev pub IsHomeLine : Parts → MachineState → ℕ → Type 0
IsHomeLine parts machine line = IsHomeRow (is_always parts) (line, entry_of parts machine line)

module _ (parts : Parts) where
  -- the entry of a line, where it is told
  abbrev told : MachineState → ℕ → List Directory
  told machine line = told_if (is_begun parts line (entry_of parts machine line)) (entry_of parts machine line)

  home-told : (machine : MachineState) (line : ℕ) → home_text parts machine line ≡ flat_map (home_line line) (told machine line)
  home-told machine line = go (is_begun parts line (entry_of parts machine line)) (entry_of parts machine line)
    where
      go : (b : Bool) (entry : Directory) → cond b [] (home_line line entry) ≡ flat_map (home_line line) (told_if b entry)
      go true entry = refl
      go false entry = sym (append-nil (home_line line entry))

  same_told : (line : ℕ) (b c : Bool) (one other : Directory) → is_begun parts line one ≡ b → is_begun parts line other ≡ c
      → one.always ≡ is_always parts line → other.always ≡ is_always parts line → told_if b one ≡ told_if c other → one ≡ other
  same_told line true true one other e f p q same =
      begun-is (body_of parts line) (is_always parts line) one e p ∙ sym (begun-is (body_of parts line) (is_always parts line) other f q)
  same_told line true false one other e f p q same = absurd (cc)
  same_told line false true one other e f p q same = absurd (cc)
  same_told line false false one other e f p q same = cc

  module _ (n : ℕ) where
    abbrev start : ℕ
    start = n * parts.per_node

    abbrev home_rows : MachineState → List (ℕ × Directory)
    home_rows machine = rows (told machine) start parts.per_node

    homes-are : (machine : MachineState) → homes_text parts machine n ≡ flat_map row_line (home_rows machine)
    homes-are machine =
        let first : start + 0 ≡ start = omega arith in
        further (home_text parts machine) start 0 parts.per_node
        ∙ ap (λ (k : ℕ). flat_map (home_text parts machine) (range_with_len k parts.per_node)) first
        ∙ same_texts (home_text parts machine) (λ line. flat_map (home_line line) (told machine line)) (home-told machine)
        (range_with_len start parts.per_node)
        ∙ rows_text (told machine) home_line start parts.per_node

    rows_fit : (machine : MachineState) → EachLine parts n (IsHomeLine parts machine) → AllByRecursion (IsHomeRow (is_always parts)) (home_rows machine)
    rows_fit machine each = each_row (told machine) (IsHomeRow (is_always parts)) start parts.per_node
        (λ line l m. go (is_begun parts line (entry_of parts machine line)) line (entry_of parts machine line) (each line l m))
      where
        go : (b : Bool) (line : ℕ) (entry : Directory) → IsHomeRow (is_always parts) (line, entry)
            → AllByRecursion (λ e. IsHomeRow (is_always parts) (line, e)) (told_if b entry)
        go true line entry is = tt
        go false line entry is = (is, tt)

    -- the rank of the home lines and what follows them
    pub homes_rank : (machine : MachineState) (u : List ℕ) → 3 ≤ rank u → 3 ≤ rank (homes_text parts machine n ++ u)
    homes_rank machine u l =
        subst (λ (t : List ℕ). 3 ≤ rank (t ++ u)) (sym (homes-are machine))
        (run_rank (IsHomeRow (is_always parts)) row_line 3 home-ranks (home_rows machine) u l)

    -- home lines of one text are the same
    pub one_homes : (one other : MachineState) → EachLine parts n (IsHomeLine parts one) → EachLine parts n (IsHomeLine parts other)
        → (u v : List ℕ) → 3 < rank u → 3 < rank v → homes_text parts one n ++ u ≡ homes_text parts other n ++ v
        → EachLine parts n (λ line. entry_of parts one line ≡ entry_of parts other line) × (u ≡ v)
    one_homes one other are all u v l k e =
        let run = one_run (IsHomeRow (is_always parts)) row_line 3 home-ranks (one_home (is_always parts)) (home_rows one) (home_rows other) u v
        (rows_fit one are) (rows_fit other all) l k
        (sym (ap (λ (t : List ℕ). t ++ u) (homes-are one)) ∙ e ∙ ap (λ (t : List ℕ). t ++ v) (homes-are other)) in (
          λ line low high. same_told line _ _ (entry_of parts one line) (entry_of parts other line) refl refl
              (are line low high).1.always (all line low high).1.always
              (sym (said-rows (told one) start parts.per_node line low high) ∙ ap (said_of line) run.0
              ∙ said-rows (told other) start parts.per_node line low high),
          run.1,
        )

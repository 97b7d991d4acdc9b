-- The lines that the handler has of each node, by membership: a line that comes to a node's, and lines that leave them.
use Rattle.std.proofs.Common.{◌≡◌, ℕ, ◌<◌, ◌≤◌, ◌==◌, nat_lt, not, cond, ◌&&◌, ◌||◌, Bool, true, false, Option, Some, None, List, [], ◌∷◌, ◌++◌, filter, length, slice_set, refl, sym, subst, ap, ◌∙◌, arith}
use Rattle.std.specs.List.{list_any}
use Rattle.std.proofs.lemmas.Bool.{eqb-true, eq-eqb, ne_eqb, lt-ltb, le-ltb, false≢true}
use Rattle.std.proofs.lemmas.Bool.Decides.{nat_tests}
use Rattle.std.proofs.lemmas.List.{length-set, get_or-set_same, get_or-set_other, get_or_past, set_past}
use Rattle.alw_num.proofs.Weigh.{is_node, cases_lt_then}
use Rattle.alw_num.specs.declared.addresses.LineNo.{LineNo}
use Rattle.alw_waits.specs.Waits.{requests_at, is_line}

-- a node's lines have this one
abbrev pub has : List (List LineNo) → ℕ → LineNo → Bool
has trapped node line = list_any (is_line line) (requests_at trapped node)

-- a line comes to a node's, and leaves them
abbrev pub came : Option (ℕ × LineNo) → List (List LineNo) → List (List LineNo)
came None trapped = trapped
came (Some new) trapped = slice_set trapped new.0 (requests_at trapped new.0 ++ new.1 ∷ [])

abbrev pub left : Option (ℕ × LineNo) → List (List LineNo) → List (List LineNo)
left None trapped = trapped
left (Some old) trapped = slice_set trapped old.0 (filter (λ line. not (is_line old.1 line)) (requests_at trapped old.0))

-- it is this line of this node
abbrev pub is_of : Option (ℕ × LineNo) → ℕ → LineNo → Bool
is_of None node line = false
is_of (Some one) node line = node == one.0 && is_line line one.1

-- it comes to a node that exists
abbrev pub is_there : Option (ℕ × LineNo) → ℕ → Bool
is_there None count = false
is_there (Some one) count = nat_lt one.0 count

-- there are as many nodes as before
pub came_long : (o : Option (ℕ × LineNo)) (trapped : List (List LineNo)) → length (came o trapped) ≡ length trapped
came_long None trapped = refl
came_long (Some new) trapped = length-set trapped new.0 _

-- and where lines leave
pub left_long : (o : Option (ℕ × LineNo)) (trapped : List (List LineNo)) → length (left o trapped) ≡ length trapped
left_long None trapped = refl
left_long (Some old) trapped = length-set trapped old.0 _

any_push : (line new : LineNo) (lines : List LineNo) → list_any (is_line line) (lines ++ new ∷ []) ≡ list_any (is_line line) lines || is_line line new
any_push line new [] = last (is_line line new)
  where
    last : (b : Bool) → b || false ≡ false || b
    last true = refl
    last false = refl
any_push line new (first ∷ rest) = or_assoc (is_line line first) (list_any (is_line line) (rest ++ new ∷ [])) (list_any (is_line line) rest) (is_line line new) (any_push line new rest)
  where
    or_assoc : (a b c d : Bool) → b ≡ c || d → a || b ≡ (a || c) || d
    or_assoc true b c d is = refl
    or_assoc false b c d is = is

-- ---- what is had once a line has come

nothing_more : (h t b : Bool) → h ≡ h || (t && (false && b))
nothing_more true t b = refl
nothing_more false true b = refl
nothing_more false false b = refl

nowhere : (h b : Bool) → h ≡ h || (false && b)
nowhere true b = refl
nowhere false b = refl

set_push : (trapped : List (List LineNo)) (at : ℕ) (new : LineNo) (node : ℕ) (line : LineNo) →
    has (slice_set trapped at (requests_at trapped at ++ new ∷ [])) node line ≡ has trapped node line || (nat_lt at (length trapped) && (node == at && is_line line new))
set_push trapped at new node line = is_node _ node at
    (λ same. subst (λ (n : ℕ). has after n line ≡ has trapped n line || (nat_lt at (length trapped) && (n == at && is_line line new))) (sym same)
    (cases_lt_then (length trapped) at here past))
    (λ other. rw (ne_eqb node at other) (ap (list_any (is_line line)) (get_or-set_other trapped at node (requests_at trapped at ++ new ∷ []) [] other)
    ∙ nothing_more (has trapped node line) (nat_lt at (length trapped)) (is_line line new)))
  where
    after : List (List LineNo)
    after = slice_set trapped at (requests_at trapped at ++ new ∷ [])

    here : at < length trapped → has after at line ≡ has trapped at line || (nat_lt at (length trapped) && (at == at && is_line line new))
    here less = rw (lt-ltb at (length trapped) less, eq-eqb at at refl)
        (ap (list_any (is_line line)) (get_or-set_same trapped at (requests_at trapped at ++ new ∷ []) [] less) ∙ any_push line new (requests_at trapped at))

    past : length trapped ≤ at → has after at line ≡ has trapped at line || (nat_lt at (length trapped) && (at == at && is_line line new))
    past le = rw (le-ltb at (length trapped) le)
        (ap (λ (t : List (List LineNo)). has t at line) (set_past trapped at (requests_at trapped at ++ new ∷ []) le) ∙ nowhere (has trapped at line) (at == at && is_line line new))

-- ---- and once lines have left

one_left : (r q : Bool) → r && not q ≡ (q || r) && not q
one_left true true = refl
one_left true false = refl
one_left false true = refl
one_left false false = refl

other_left : (c r q : Bool) → (c && q) ≡ false → c || (r && not q) ≡ (c || r) && not q
other_left true r false free = refl
other_left true r true free = absurd (false≢true (sym free))
other_left false r q free = refl

any_drop : (line old : LineNo) (lines : List LineNo) → list_any (is_line line) (filter (λ l. not (is_line old l)) lines) ≡ list_any (is_line line) lines && not (is_line line old)
any_drop line old [] = refl
any_drop line old (first ∷ rest) = go (is_line old first) refl (any_drop line old rest)
  where
    kept : List LineNo
    kept = filter (λ l. not (is_line old l)) rest

    apart : (old.0 == first.0) ≡ false → (b c : Bool) → (line.0 == first.0) ≡ b → (line.0 == old.0) ≡ c → (b && c) ≡ false
    apart free true true one other = absurd (false≢true (sym free ∙ eq-eqb old.0 first.0 (sym (eqb-true line.0 old.0 other) ∙ eqb-true line.0 first.0 one)))
    apart free true false one other = refl
    apart free false c one other = refl

    go : (b : Bool) → is_line old first ≡ b → list_any (is_line line) kept ≡ list_any (is_line line) rest && not (is_line line old) →
        list_any (is_line line) (cond (not b) (first ∷ kept) kept) ≡ (is_line line first || list_any (is_line line) rest) && not (is_line line old)
    go true is deep =
        let same : is_line line first ≡ is_line line old = ap (λ (k : ℕ). line.0 == k) (sym (eqb-true old.0 first.0 is)) in
        deep ∙ (one_left (list_any (is_line line) rest) (is_line line old) ∙ ap (λ (b : Bool). (b || list_any (is_line line) rest) && not (is_line line old)) (sym same))
    go false is deep =
        ap (λ (b : Bool). is_line line first || b) deep
        ∙ other_left (is_line line first) (list_any (is_line line) rest) (is_line line old) (apart is (is_line line first) (is_line line old) refl refl)

stays : (h b : Bool) → h ≡ h && not (false && b)
stays true b = refl
stays false b = refl

set_drop : (trapped : List (List LineNo)) (at : ℕ) (old : LineNo) (node : ℕ) (line : LineNo) →
    has (slice_set trapped at (filter (λ l. not (is_line old l)) (requests_at trapped at))) node line ≡ has trapped node line && not (node == at && is_line line old)
set_drop trapped at old node line = is_node _ node at
    (λ same. subst (λ (n : ℕ). has after n line ≡ has trapped n line && not (n == at && is_line line old)) (sym same)
    (rw (eq-eqb at at refl) (cases_lt_then (length trapped) at here past)))
    (λ other. rw (ne_eqb node at other) (ap (list_any (is_line line)) (get_or-set_other trapped at node kept [] other) ∙ stays (has trapped node line) (is_line line old)))
  where
    kept : List LineNo
    kept = filter (λ l. not (is_line old l)) (requests_at trapped at)

    after : List (List LineNo)
    after = slice_set trapped at kept

    here : at < length trapped → has after at line ≡ has trapped at line && not (is_line line old)
    here less = ap (list_any (is_line line)) (get_or-set_same trapped at kept [] less) ∙ any_drop line old (requests_at trapped at)

    past : length trapped ≤ at → has after at line ≡ has trapped at line && not (is_line line old)
    past le =
        let none : requests_at trapped at ≡ [] = get_or_past trapped at [] le in
        ap (λ (t : List (List LineNo)). has t at line) (set_past trapped at kept le)
        ∙ (ap (list_any (is_line line)) none ∙ sym (ap (λ (lines : List LineNo). list_any (is_line line) lines && not (is_line line old)) none))

-- ---- both

or_false : (h : Bool) (b : Bool) → h ≡ h || (b && false)
or_false true b = refl
or_false false true = refl
or_false false false = refl

and_true : (h : Bool) → h ≡ h && true
and_true true = refl
and_true false = refl

-- whether a node's lines have one depends on whether they had it
pub had_came : (o : Option (ℕ × LineNo)) (trapped : List (List LineNo)) (node : ℕ) (line : LineNo) →
    has (came o trapped) node line ≡ has trapped node line || (is_there o (length trapped) && is_of o node line)
had_came None trapped node line = or_false (has trapped node line) false
had_came (Some new) trapped node line = set_push trapped new.0 new.1 node line

-- and where lines leave
pub had_left : (o : Option (ℕ × LineNo)) (trapped : List (List LineNo)) (node : ℕ) (line : LineNo) → has (left o trapped) node line ≡ has trapped node line && not (is_of o node line)
had_left None trapped node line = and_true (has trapped node line)
had_left (Some old) trapped node line = set_drop trapped old.0 old.1 node line

-- one line doesn't come to a node where another leaves
abbrev pub Apart : Option (ℕ × LineNo) → Option (ℕ × LineNo) → Type 0
Apart new old = (node : ℕ) (line : LineNo) → (is_of new node line && is_of old node line) ≡ false

mixed : (h pe de pf df : Bool) → (pe && df) ≡ false → (pf && de) ≡ false → (((h || pe) && not de) || pf) && not df ≡ (((h || pf) && not df) || pe) && not de
mixed h pe de pf df one other = grind (arith, nat_tests, one, other)

within : (t b c : Bool) → (b && c) ≡ false → ((t && b) && c) ≡ false
within true b c free = free
within false b c free = refl

-- a line comes, and then one leaves
abbrev pub moved : Option (ℕ × LineNo) → Option (ℕ × LineNo) → List (List LineNo) → List (List LineNo)
moved new old trapped = left old (came new trapped)

-- there are as many nodes as before
pub moved_long : (new old : Option (ℕ × LineNo)) (trapped : List (List LineNo)) → length (moved new old trapped) ≡ length trapped
moved_long new old trapped = left_long old (came new trapped) ∙ came_long new trapped

had_moved : (new old : Option (ℕ × LineNo)) (trapped : List (List LineNo)) (node : ℕ) (line : LineNo) →
    has (moved new old trapped) node line ≡ (has trapped node line || (is_there new (length trapped) && is_of new node line)) && not (is_of old node line)
had_moved new old trapped node line =
    had_left old (came new trapped) node line ∙ ap (λ (b : Bool). b && not (is_of old node line)) (had_came new trapped node line)

-- lists of lines that have the same
pub record HaveSame (one other : List (List LineNo)) : Type 0 where
  pub long : length one ≡ length other
  pub lines : (node : ℕ) (line : LineNo) → has one node line ≡ has other node line

-- the same come and leave
pub moved_same : (new old : Option (ℕ × LineNo)) (one other : List (List LineNo)) → HaveSame one other → HaveSame (moved new old one) (moved new old other)
moved_same new old one other same = record {
  long = moved_long new old one ∙ (same.long ∙ sym (moved_long new old other));
  lines = λ node line. had_moved new old one node line
      ∙ ((λ x. (same.lines node line x || (is_there new (same.long x) && is_of new node line)) && not (is_of old node line)) ∙ sym (had_moved new old other node line));
}

-- what two events do in either order
pub moved_apart : (e d f g : Option (ℕ × LineNo)) (trapped : List (List LineNo)) → Apart e g → Apart f d → HaveSame (moved f g (moved e d trapped)) (moved e d (moved f g trapped))
moved_apart e d f g trapped one other = record {
  long = moved_long f g (moved e d trapped) ∙ (moved_long e d trapped ∙ sym (moved_long e d (moved f g trapped) ∙ moved_long f g trapped));
  lines = λ node line.
      let count = length trapped in
      let coming = is_there e count && is_of e node line in
      let later = is_there f count && is_of f node line in
      had_moved f g (moved e d trapped) node line
      ∙ ((λ x. (had_moved e d trapped node line x || (is_there f (moved_long e d trapped x) && is_of f node line)) && not (is_of g node line))
      ∙ (mixed (has trapped node line) coming (is_of d node line) later (is_of g node line)
      (within (is_there e count) (is_of e node line) (is_of g node line) (one node line)) (within (is_there f count) (is_of f node line) (is_of d node line) (other node line))
      ∙ sym (had_moved e d (moved f g trapped) node line
      ∙ (λ x. (had_moved f g trapped node line x || (is_there e (moved_long f g trapped x) && is_of e node line)) && not (is_of d node line)))));
}

unmoved : (h t b c : Bool) → b ≡ false → c ≡ false → (h || (t && b)) && not c ≡ h
unmoved true t b c free never = rw (never) refl
unmoved false true b c free never = rw (free) refl
unmoved false false b c free never = refl

-- what neither comes nor leaves
pub had_apart : (e d : Option (ℕ × LineNo)) (trapped : List (List LineNo)) (node : ℕ) (line : LineNo) → is_of e node line ≡ false → is_of d node line ≡ false →
    has (moved e d trapped) node line ≡ has trapped node line
had_apart e d trapped node line free never =
    had_moved e d trapped node line ∙ unmoved (has trapped node line) (is_there e (length trapped)) (is_of e node line) (is_of d node line) free never

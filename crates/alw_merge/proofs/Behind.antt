-- Logs from a stamp on, with what their events did: the courses of nodes behind a place of a journal whose stamps rise.
use Rattle.std.proofs.Common.{◌≡◌, ℕ, zero, suc, ◌+◌, ◌-◌, ◌<◌, ◌≤◌, ◌==◌}
use Rattle.std.proofs.Common.{Bool, true, false, cond, Some, List, [], ◌∷◌, ◌++◌, map, length, take, drop, slice_get, refl, sym, ap, subst, ◌∙◌, arith}
use Rattle.std.specs.Prelude.{filter, nat_le}
use Rattle.std.proofs.lemmas.List.{length-map, length-append, map-append, take-append-drop, take_more, take_all, drop_at}
use Rattle.std.proofs.lemmas.List.Elements.{filter-append}
use Rattle.std.proofs.lemmas.Option.{get_or_from_slice_get}
use Rattle.alw_msg.specs.declared.events.Entry.{Entry}
use Rattle.alw_image.specs.declared.parts.Parts.{Parts}
use Rattle.alw_image.specs.Images.{node_count}
use Rattle.alw_image.specs.Parameters.{Parameters}
use Rattle.alw_model.specs.declared.steps.Did.{Did}
use Rattle.alw_model.specs.Machine.{MachineState, machine_start, step}
use Rattle.alw_model.specs.Runs.{Moment, number_of, moments_from, moments}
use Rattle.alw_model.specs.Rows.{log_in}
use Rattle.alw_model.specs.Threads.{Logged, Logs, log_at, merged}
use Rattle.alw_node.proofs.KeptMembers.{few_kept}
use Rattle.law_order.proofs.JournalLogs.{logged_of}
use Rattle.alw_merge.specs.Joins.{Course, course_at, courses_of, course_of, dids_at, LogsAreOfJournal}
use Rattle.alw_merge.specs.Spans.{place_of, log_from, logs_from, dids_behind}
use Rattle.alw_merge.proofs.Courses.{mine, dids_in}
use Rattle.alw_merge.proofs.Joining.{courses_long, courses_read}
use Rattle.alw_merge.proofs.Spanning.{Rises, from_rising}

-- ---- moments from a stamp on

-- the entries of moments
abbrev entries : List Moment → List Entry
entries run = map (λ (moment : Moment). moment.entry) run

entries_from : (image : Parts) (parameters : Parameters) (s : MachineState) (journal : List Entry) → entries (moments_from image parameters s journal) ≡ journal
entries_from image parameters s [] = refl
entries_from image parameters s (entry ∷ rest) = ap (λ (es : List Entry). entry ∷ es) (entries_from image parameters (step image parameters s entry.event) rest)

-- the entries of a journal's moments are the journal
pub entries_of : (image : Parts) (parameters : Parameters) (journal : List Entry) → map (λ (moment : Moment). moment.entry) (moments image parameters journal) ≡ journal
unfolding moments
entries_of image parameters journal = entries_from image parameters (machine_start image) journal

-- the moments whose stamps aren't below one
abbrev late : ℕ → List Moment → List Moment
late stamp run = filter (λ (moment : Moment). nat_le stamp moment.entry.stamp) run

-- ---- the log of a node, and what its events did

-- a node's log from a stamp on is that of the moments from it on
log_late : (n stamp : ℕ) (run : List Moment) → log_from stamp (log_in n run) ≡ log_in n (late stamp run)
log_late n stamp [] = refl
log_late n stamp (moment ∷ rest) = go (number_of moment == n) (nat_le stamp moment.entry.stamp) refl refl (log_late n stamp rest)
  where
    go : (own from : Bool) → (number_of moment == n) ≡ own → nat_le stamp moment.entry.stamp ≡ from → log_from stamp (log_in n rest) ≡ log_in n (late stamp rest)
        → log_from stamp (map logged_of (cond own (moment ∷ mine n rest) (mine n rest))) ≡ map logged_of (mine n (cond from (moment ∷ late stamp rest) (late stamp rest)))
    go true true own from deeper =
        ap (λ b. cond b (logged_of moment ∷ log_from stamp (log_in n rest)) (log_from stamp (log_in n rest))) from
        ∙ (ap (λ (log : List Logged). logged_of moment ∷ log) deeper ∙ sym (ap (λ b. map logged_of (cond b (moment ∷ mine n (late stamp rest)) (mine n (late stamp rest)))) own))
    go true false own from deeper = ap (λ b. cond b (logged_of moment ∷ log_from stamp (log_in n rest)) (log_from stamp (log_in n rest))) from ∙ deeper
    go false true other from deeper = deeper ∙ sym (ap (λ b. map logged_of (cond b (moment ∷ mine n (late stamp rest)) (mine n (late stamp rest)))) other)
    go false false other from deeper = deeper

-- what the events of a node did behind a place is the last of what they did
dids_left : (n i : ℕ) (run : List Moment) → drop (length (dids_in (mine n run)) - length (log_in n (drop i run))) (dids_in (mine n run)) ≡ dids_in (mine n (drop i run))
dids_left n i run =
    let front = dids_in (mine n (take i run)) in
    let back = dids_in (mine n (drop i run)) in
    let split : mine n run ≡ mine n (take i run) ++ mine n (drop i run) = ap (mine n) (sym (take-append-drop i run)) ∙ filter-append (λ (moment : Moment). number_of moment == n) (take i run) (drop i run) in
    let whole : dids_in (mine n run) ≡ front ++ back = ap dids_in split ∙ map-append (λ (moment : Moment). moment.stepped.did) (mine n (take i run)) (mine n (drop i run)) in
    let long : length front ≡ length (dids_in (mine n run)) - length (log_in n (drop i run)) =
    omega (arith, ap length whole, length-append front back, length-map (mine n (drop i run)) (λ (moment : Moment). moment.stepped.did), length-map (mine n (drop i run)) logged_of) in
    ap (drop (length (dids_in (mine n run)) - length (log_in n (drop i run)))) whole ∙ drop_at front back _ long

-- ---- logs and what their events did, by place

logs_long : (stamp : ℕ) (logs : Logs) → length (logs_from stamp logs) ≡ length logs
logs_long stamp logs = length-map logs (log_from stamp)

log_there : (stamp : ℕ) (logs : Logs) (n : ℕ) → log_at (logs_from stamp logs) n ≡ log_from stamp (log_at logs n)
log_there stamp [] zero = refl
log_there stamp [] (suc n) = refl
log_there stamp (log ∷ logs) zero = refl
log_there stamp (log ∷ logs) (suc n) = log_there stamp logs n

dids_long : (logs : Logs) (dids : List (List Did)) → length dids ≡ length logs → length (dids_behind logs dids) ≡ length logs
dids_long [] dids same = refl
dids_long (log ∷ logs) [] same = absurd (omega arith)
dids_long (log ∷ logs) (one ∷ dids) same = ap suc (dids_long logs dids (omega arith))

dids_there : (logs : Logs) (dids : List (List Did)) (n : ℕ) → length dids ≡ length logs → dids_at (dids_behind logs dids) n ≡ drop (length (dids_at dids n) - length (log_at logs n)) (dids_at dids n)
dids_there [] [] zero same = refl
dids_there [] [] (suc n) same = refl
dids_there [] (one ∷ dids) n same = absurd (omega arith)
dids_there (log ∷ logs) [] n same = absurd (omega arith)
dids_there (log ∷ logs) (one ∷ dids) zero same = refl
dids_there (log ∷ logs) (one ∷ dids) (suc n) same = dids_there logs dids n (omega arith)

same_long : (stamp : ℕ) (logs : Logs) (dids : List (List Did)) → length dids ≡ length logs → length dids ≡ length (logs_from stamp logs)
same_long stamp logs dids same = same ∙ sym (logs_long stamp logs)

-- of each log there is what is left of what its events did
pub dids_as_many : (stamp : ℕ) (logs : Logs) (dids : List (List Did)) → length dids ≡ length logs → length (dids_behind (logs_from stamp logs) dids) ≡ length (logs_from stamp logs)
dids_as_many stamp logs dids same = dids_long (logs_from stamp logs) dids (same_long stamp logs dids same)

-- what is left of what one node's events did comes behind that of the nodes before it
pub rests_more : (logs : Logs) (dids rests : List (List Did)) (n : ℕ) (all rest : List Did) → length dids ≡ length logs → n < length dids → slice_get dids n ≡ Some all
    → rests ≡ take n (dids_behind logs dids) → rest ≡ drop (length all - length (log_at logs n)) all → rests ++ rest ∷ [] ≡ take (n + 1) (dids_behind logs dids)
rests_more logs dids rests n all rest same here there so_far is =
    let long = dids_long logs dids same in
    let own : dids_at dids n ≡ all = get_or_from_slice_get dids n all [] there in
    let left : dids_at (dids_behind logs dids) n ≡ rest = dids_there logs dids n same ∙ (ap (λ (one : List Did). drop (length one - length (log_at logs n)) one) own ∙ sym is) in
    ap (λ (xs : List (List Did)). xs ++ rest ∷ []) so_far
    ∙ (ap (λ (one : List Did). take n (dids_behind logs dids) ++ one ∷ []) (sym left) ∙ sym (take_more (dids_behind logs dids) n [] (omega (arith, here, same, long))))

-- and in the end it is that of all nodes
pub rests_end : (logs : Logs) (dids rests : List (List Did)) (n : ℕ) → length dids ≡ length logs → length dids ≤ n → rests ≡ take n (dids_behind logs dids) → rests ≡ dids_behind logs dids
rests_end logs dids rests n same past so_far = so_far ∙ take_all n (dids_behind logs dids) (omega (arith, dids_long logs dids same, same, past))

-- ---- courses

module _ (image : Parts) (parameters : Parameters) (stamp : ℕ) (logs : Logs) (dids : List (List Did)) (same : length dids ≡ length logs)
    (are : LogsAreOfJournal image parameters (merged logs) (courses_of logs dids)) (rises : Rises (merged logs)) where
  abbrev run : List Moment
  run = moments image parameters (merged logs)

  abbrev place : ℕ
  place = place_of stamp (merged logs)

  module _ (n : ℕ) (here : n < node_count image) where
    course : record { left = log_at logs n; dids = dids_at dids n } ≡ course_of n run
    course = sym (courses_read logs dids n same) ∙ are.each n here

    log_is : log_at logs n ≡ log_in n run
    log_is = ap (λ (c : Course). c.left) course

    dids_are : dids_at dids n ≡ dids_in (mine n run)
    dids_are = ap (λ (c : Course). c.dids) course

  -- the moments behind the place of a stamp
  behind_are : drop place run ≡ late stamp run
  behind_are =
      let entries_are = entries_of image parameters (merged logs) in
      ap (λ (journal : List Entry). drop (place_of stamp journal) run) (sym entries_are) ∙ from_rising (λ (moment : Moment). moment.entry) stamp run (subst Rises (sym entries_are) rises)

  -- what is left of each log from a stamp on, and of what its events did, is the course of the moments behind the stamp's place
  pub courses_from : (n : ℕ) → n < node_count image
      → course_at (courses_of (logs_from stamp logs) (dids_behind (logs_from stamp logs) dids)) n ≡ course_of n (drop (place_of stamp (merged logs)) (moments image parameters (merged logs)))
  courses_from n here =
      let left : log_at (logs_from stamp logs) n ≡ log_in n (drop place run) = log_there stamp logs n ∙ (ap (log_from stamp) (log_is n here) ∙ (log_late n stamp run ∙ ap (log_in n) (sym behind_are))) in
      let rest : dids_at (dids_behind (logs_from stamp logs) dids) n ≡ dids_in (mine n (drop place run)) =
      dids_there (logs_from stamp logs) dids n (same_long stamp logs dids same) ∙ ((λ x. drop (length (dids_are n here x) - length (left x)) (dids_are n here x)) ∙ dids_left n place run) in
      courses_read (logs_from stamp logs) (dids_behind (logs_from stamp logs) dids) n (dids_as_many stamp logs dids same) ∙ (λ x. record { left = left x; dids = rest x })

  -- no more is left of a log than there is of what its events did
  pub lefts_fit : (n : ℕ) → n < length dids → length (log_at (logs_from stamp logs) n) ≤ length (dids_at dids n)
  lefts_fit n within =
      let here : n < node_count image = omega (arith, within, same, courses_long logs dids same, are.counted) in
      omega (
        arith,
        ap length (log_there stamp logs n),
        few_kept (λ (logged : Logged). nat_le stamp logged.entry.stamp) (log_at logs n),
        ap length (log_is n here),
        ap length (dids_are n here),
        length-map (mine n run) (λ (moment : Moment). moment.stepped.did),
        length-map (mine n run) logged_of,
      )

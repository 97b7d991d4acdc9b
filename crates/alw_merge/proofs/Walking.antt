-- A journal whose logs are read event by event, from a place on: what is read so far is what a span of the journal's entries moves and tells.
use Rattle.std.proofs.Common.{◌≡◌, ℕ, suc, zero, ◌+◌, ◌-◌, ◌<◌, ◌≤◌, ◌==◌, Bool, true, false, cond, Option, Some, None, List, [], ◌∷◌, ◌++◌, map, flat_map, length, take, drop, set, get_or, slice_get, refl, sym, ap, subst, ◌∙◌, arith}
use Rattle.std.specs.List.{AllByRecursion}
use Rattle.std.proofs.Math.Nat.{add-zero}
use Rattle.std.specs.Option.{option_map}
use Rattle.std.proofs.lemmas.Bool.{true≢false, leb-false, eqb-true}
use Rattle.std.proofs.lemmas.List.{length-map, length-set, length-drop, length_push, append-nil, flat_map_more, drop-drop}
use Rattle.std.proofs.lemmas.Option.{same_Some}
use Rattle.alw_num.proofs.Weigh.{at_nodes}
use Rattle.alw_msg.specs.declared.messages.Msg.{Msg}
use Rattle.alw_msg.specs.declared.events.Event.{Event}
use Rattle.alw_msg.specs.declared.events.Event.TheVariants.{Instr, Handle, Deliver, Evict}
use Rattle.alw_msg.specs.declared.events.Entry.{Entry}
use Rattle.alw_msg.specs.Events.{node_of}
use Rattle.alw_msg.specs.Lists.{front, behind}
use Rattle.alw_image.specs.declared.parts.Parts.{Parts}
use Rattle.alw_image.specs.Images.{IsImage, node_count}
use Rattle.alw_image.specs.Parameters.{Parameters}
use Rattle.alw_model.specs.Machine.{MachineState, state, IsNext, IsLegal}
use Rattle.alw_model.specs.declared.steps.Did.{Did}
use Rattle.alw_model.specs.Runs.{Moment, number_of, moment_of, moments}
use Rattle.alw_model.specs.Rows.{log_in}
use Rattle.alw_model.specs.Threads.{Logged, Logs, log_at, merged}
use Rattle.alw_model.proofs.Journals.{legal_take}
use Rattle.law_lines.proofs.Links.{read_set}
use Rattle.law_lines.proofs.Steps.{enabled_is}
use Rattle.law_order.specs.Aims.{IsAimed}
use Rattle.law_order.proofs.Reached.{state_aimed}
use Rattle.law_order.proofs.JournalLogs.{logged_of}
use Rattle.alw_tally.specs.declared.moments.Moment as tally
use Rattle.alw_tally.specs.Told.{Told, told_of, told_with}
use Rattle.alw_tally.specs.Tallies.{told_logged}
use Rattle.alw_tally.proofs.Telling.{told_push}
use Rattle.alw_tally.proofs.Within.{SendsFew}
use Rattle.alw_mesh.proofs.FewSent.{few_sent}
use Rattle.alw_mesh.proofs.Joined.{next_is}
use Rattle.alw_cells.specs.Logs.{taken_of, sent_of, entry_of}
use Rattle.alw_cells.specs.Plain.{is_instr}
use Rattle.alw_merge.specs.declared.streams.Read.{Read}
use Rattle.alw_merge.specs.Streams.{EventIsReadOff, IsPlain, Reads}
use Rattle.alw_merge.specs.declared.spans.Move.{Move}
use Rattle.alw_merge.specs.declared.spans.Span.{Span}
use Rattle.alw_merge.specs.Joins.{Course, no_course, course_at, courses_of, course_of, dids_at, told_at, LogsAreOfJournal, unheld}
use Rattle.alw_merge.specs.Spans.{place_of, end_of, is_behind, between, log_from, logs_from, dids_behind, taking_of, sending_of, moves_of, MayFollow, Follows, EventIsTold, IsSpan}
use Rattle.alw_merge.proofs.Spanning.{Rises, merged_rises, from_merged, place_past, place_reached}
use Rattle.alw_merge.proofs.Behind.{courses_from, dids_as_many}
use Rattle.alw_merge.proofs.Courses.{mine, with_first, course_first, course_other, moment_at}
use Rattle.alw_merge.proofs.Joining.{courses_long, courses_read}

-- what the next event of a course sent, and what is told of it
abbrev next_sent : Course → List (ℕ × Msg)
next_sent course = sent_of (front course.left)

abbrev next_of : Entry → Course → tally.Moment
next_of entry course = told_at entry course.dids (taken_of (front course.left))

-- the next event has been read
abbrev read_on : Course → Course
read_on course = record { left = behind course.left; dids = behind course.dids }

-- what is left of the courses behind a journal's first entries
pub record CoursesAreLeft (image : Parts) (parameters : Parameters) (journal : List Entry) (i : ℕ) (courses : List Course) : Type 0 where
  pub counted : length courses ≡ node_count image
  pub each : (n : ℕ) → n < node_count image → course_at courses n ≡ course_of n (drop i (moments image parameters journal))

-- what the events of a run from a place on, before another, move and tell
pub record IsSpanned (image : Parts) (run : List Moment) (start i : ℕ) (moves : List Move) (told : Told) : Type 0 where
  pub moves_are : moves ≡ flat_map moves_of (between start i run)
  pub told_is : told ≡ unheld (told_of image (between start i run))

-- one member more
take_push : {A : Type 0} (k : ℕ) (ys rest : List A) (x : A) → drop k ys ≡ x ∷ rest → take (suc k) ys ≡ take k ys ++ x ∷ []
take_push zero [] rest x is = absurd (cc)
take_push zero (first ∷ more) rest x is = ap (λ (ys : List _). get_or ys 0 first ∷ []) is
take_push (suc k) [] rest x is = absurd (cc)
take_push (suc k) (first ∷ more) rest x is = ap (λ (ys : List _). first ∷ ys) (take_push k more rest x is)

between_push : {A : Type 0} (start i : ℕ) (xs rest : List A) (x : A) → start ≤ i → drop i xs ≡ x ∷ rest → between start (i + 1) xs ≡ between start i xs ++ x ∷ []
between_push start i xs rest x few is =
    let one : i + 1 - start ≡ suc (i - start) = omega (arith, few) in
    let place : start + (i - start) ≡ i = omega (arith, few) in
    ap (λ (k : ℕ). take k (drop start xs)) one ∙ take_push (i - start) (drop start xs) rest x (drop-drop (i - start) start xs ∙ (ap (λ (k : ℕ). drop k xs) place ∙ is))

-- nothing is between a place and itself
between_none : {A : Type 0} (start : ℕ) (xs : List A) → between start (start + 0) xs ≡ []
between_none start xs = let none : start + 0 - start ≡ 0 = omega arith in ap (λ (k : ℕ). take k (drop start xs)) none

-- an event that was read of logs as they were
pub read_off : {logs same after : Logs} {o : Option Read} {read : Read} {sends : List (ℕ × Msg)} → same ≡ logs → o ≡ Some read → Reads same o sends after → EventIsReadOff logs read sends after
read_off {logs} {same} {after} {o} {read} {sends} kept is reads = subst (λ (all : Logs). EventIsReadOff all read sends after) kept (subst (λ (p : Option Read). Reads same p sends after) is reads)

-- an instruction that sent nothing moves nothing
pub told_follows : {image : Parts} {read : Read} {rest rest' : List (List Did)} {moves moves' : List Move} {told told' : Told} → IsPlain read → EventIsTold image read [] rest rest' moves moves' told told'
    → Follows image read [] rest rest' moves moves' told told'
told_follows {image} {read} {rest} {rest'} {moves} {moves'} plain is = record {
  rest_is = is.rest_is;
  moves_are = is.moves_are ∙ sym (ap (λ (taking : List Move). moves ++ (taking ++ [])) (none read.entry.event plain.instr) ∙ append-nil moves);
  told_is = is.told_is;
}
  where
    none : (event : Event) → is_instr event ≡ true → taking_of event ≡ []
    none (Instr node) is = refl
    none (Deliver from to) is = absurd (true≢false (sym is))
    none (Handle node) is = refl
    none (Evict node set) is = refl

-- an event more is told
told_more : (image : Parts) (told : Told) (moment : Moment) (rest : Course)
    → told_logged image (unheld told) (next_of moment.entry (with_first moment rest)) moment.stepped.sends ≡ unheld (told_with image told moment)
told_more image told moment rest = simp add-zero

-- a fact of each of some events is one of the first that is left
first_left : (P : Moment → Type 0) (run : List Moment) (i : ℕ) (moment : Moment) (rest : List Moment) → AllByRecursion P run → drop i run ≡ moment ∷ rest → P moment
first_left P [] zero moment rest all is = absurd (cc)
first_left P [] (suc i) moment rest all is = absurd (cc)
first_left P (first ∷ more) zero moment rest all is = subst P (ap (λ (xs : List Moment). get_or xs 0 first) is) all.0
first_left P (first ∷ more) (suc i) moment rest all is = first_left P more i moment rest all.1 is

-- the events of a node's log are its own
own_event : (n : ℕ) (run : List Moment) (entry : Entry) → Some entry ≡ option_map entry_of (front (log_in n run)) → node_of entry.event ≡ n
own_event n [] entry is = absurd (cc)
own_event n (moment ∷ rest) entry is = by_test (number_of moment == n) refl (own_event n rest entry) is
  where
    by_test : (b : Bool) → (number_of moment == n) ≡ b → (Some entry ≡ option_map entry_of (front (log_in n rest)) → node_of entry.event ≡ n)
        → Some entry ≡ option_map entry_of (front (map logged_of (cond b (moment ∷ mine n rest) (mine n rest)))) → node_of entry.event ≡ n
    by_test true same later is = ap (λ (e : Entry). node_of e.event) (same_Some entry moment.entry is) ∙ eqb-true (number_of moment) n same
    by_test false other later is = later is

-- what is left of a list, from its first member on
left_from : (journal rest : List Entry) (entry : Entry) (i : ℕ) → entry ∷ rest ≡ drop i journal → (slice_get journal i ≡ Some entry) × ((i < length journal) × (rest ≡ drop (suc i) journal))
left_from [] rest entry zero is = absurd (cc)
left_from [] rest entry (suc i) is = absurd (cc)
left_from (first ∷ more) rest entry zero is = (ap front (sym is), (omega arith, ap behind is))
left_from (first ∷ more) rest entry (suc i) is =
    let deeper = left_from more rest entry i is in
    (deeper.0, (omega (arith, deeper.1.0), deeper.1.1))

-- courses of which one has gone on
courses_set : (logs : List (List Logged)) (dids : List (List Did)) (n : ℕ) (log : List Logged) (rest : List Did) → courses_of (set logs n log) (set dids n rest) ≡ set (courses_of logs dids) n (record { left = log; dids = rest })
courses_set [] dids n log rest = refl
courses_set (first ∷ logs) [] zero log rest = refl
courses_set (first ∷ logs) [] (suc n) log rest = refl
courses_set (first ∷ logs) (one ∷ dids) zero log rest = refl
courses_set (first ∷ logs) (one ∷ dids) (suc n) log rest = ap (λ (courses : List Course). record { left = first; dids = one } ∷ courses) (courses_set logs dids n log rest)

module _ (image : Parts) (parameters : Parameters) (allowed : IsImage image) (journal : List Entry) (legal : IsLegal image parameters journal)
    (i : ℕ) (entry : Entry) (here : i < length journal) (read : slice_get journal i ≡ Some entry) where
  abbrev s : MachineState
  s = state image parameters (take i journal)

  abbrev event : Event
  event = entry.event

  abbrev n : ℕ
  n = node_of event

  abbrev moment : Moment
  moment = moment_of image parameters s entry

  abbrev rest : List Moment
  rest = drop (suc i) (moments image parameters journal)

  split : drop i (moments image parameters journal) ≡ moment ∷ rest
  split = moment_at image parameters journal i entry read

  next : IsNext image parameters s entry
  next = next_is image parameters journal legal i entry here read

  aimed : IsAimed image s
  aimed = state_aimed image parameters (take i journal) (legal_take image parameters i journal legal)

  exists : n < node_count image
  exists = (enabled_is image parameters s event next.enabled).here

  module _ {courses : List Course} (so_far : CoursesAreLeft image parameters journal i courses) where
    own : course_at courses n ≡ with_first moment (course_of n rest)
    own = so_far.each n exists ∙ (ap (course_of n) split ∙ course_first n moment rest refl)

    pub node_exists : n < length courses
    node_exists = rw so_far.counted exists

    module _ {taken : Option Msg} {sends : List (ℕ × Msg)} {dids : List Did} (taken_is : taken ≡ taken_of (front (course_at courses n).left)) (sends_are : sends ≡ next_sent (course_at courses n))
        (dids_are : dids ≡ (course_at courses n).dids) where
      -- the event as its log says it
      sent : sends ≡ moment.stepped.sends
      sent = sends_are ∙ ap next_sent own

      did_is : dids ≡ moment.stepped.did ∷ (course_of n rest).dids
      did_is = dids_are ∙ ap (λ (course : Course). course.dids) own

      taken_own : taken ≡ taken_of (front (with_first moment (course_of n rest)).left)
      taken_own = taken_is ∙ ap (λ (course : Course). taken_of (front course.left)) own

      pub may_follow : MayFollow sends dids
      may_follow = rw (sent, did_is) (record {
        did = omega arith;
        few = (first_left (SendsFew image) (moments image parameters journal) i moment rest (few_sent image parameters allowed journal legal) split).count;
      })

      -- it is one event more of what is moved and told
      pub spans_on : {start : ℕ} {moves moves' : List Move} {told told' : Told} → start ≤ i → IsSpanned image (moments image parameters journal) start i moves told
          → moves' ≡ moves ++ (taking_of event ++ sending_of n sends) → told' ≡ told_logged image told (told_at entry dids taken) sends
          → IsSpanned image (moments image parameters journal) start (i + 1) moves' told'
      spans_on {start} {moves} {moves'} {told} {told'} behind_start spanned moves_are told_is =
          let run = moments image parameters journal in
          let before = between start i run in
          let more = between_push start i run rest moment behind_start split in
          record {
            moves_are = moves_are ∙ ((λ x. spanned.moves_are x ++ (taking_of event ++ sending_of n (sent x)))
                ∙ (flat_map_more moves_of [] before moment ∙ ap (flat_map moves_of) (sym more)));
            told_is = told_is ∙ ((λ x. told_logged image (spanned.told_is x) (told_at entry (did_is x) (taken_own x)) (sent x)) ∙ (told_more image (told_of image before) moment (course_of n rest)
                ∙ ap unheld (sym (told_push image before moment) ∙ ap (told_of image) (sym more))));
          }

      pub goes_on : {courses' : List Course} → courses' ≡ set courses n (read_on (course_at courses n)) → CoursesAreLeft image parameters journal (i + 1) courses'
      goes_on {courses'} courses_are =
          let place : suc i ≡ i + 1 = omega arith in
          record {
            counted = ap length courses_are ∙ (length-set courses n (read_on (course_at courses n)) ∙ so_far.counted);
            each = λ k l. subst (λ (left : Course). left ≡ course_of k (drop (i + 1) (moments image parameters journal))) (sym (ap (λ (all : List Course). course_at all k) courses_are))
                (subst (λ (p : ℕ). course_at (set courses n (read_on (course_at courses n))) k ≡ course_of k (drop p (moments image parameters journal))) place (left_at k l));
          }
        where
          left_at : (k : ℕ) → k < node_count image → course_at (set courses n (read_on (course_at courses n))) k ≡ course_of k rest
          left_at k l = read_set courses n (read_on (course_at courses n)) no_course k node_exists
              ∙ at_nodes (λ j left. j < node_count image → left ≡ course_of j rest) (course_at courses) n (read_on (course_at courses n)) (λ _. ap read_on own)
              (λ j other m. so_far.each j m ∙ (ap (course_of j) split ∙ course_other j moment rest (λ same. other (sym same)))) k l

-- what has been read is a span of a journal's entries, from a place on, and what is left of its merge those behind it
pub record IsMerging (image : Parts) (parameters : Parameters) (journal : List Entry) (start : ℕ) (so_far : List Entry) (logs : Logs) (dids : List (List Did)) (moves : List Move) (told : Told) : Type 0 where
  pub span_is : so_far ≡ between start (start + length so_far) journal
  pub left_is : merged logs ≡ drop (start + length so_far) journal
  pub as_many : length dids ≡ length logs
  pub read : CoursesAreLeft image parameters journal (start + length so_far) (courses_of logs dids)
  pub spanned : IsSpanned image (moments image parameters journal) start (start + length so_far) moves told

module _ {image : Parts} {parameters : Parameters} {journal : List Entry} (allowed : IsImage image) (legal : IsLegal image parameters journal) {start : ℕ} {so_far : List Entry} {logs logs' : Logs} {dids : List (List Did)}
    {moves : List Move} {told : Told} (merging : IsMerging image parameters journal start so_far logs dids moves told) {read : Read} {sends : List (ℕ × Msg)} (next : EventIsReadOff logs read sends logs') where
  abbrev i : ℕ
  i = start + length so_far

  places : (slice_get journal i ≡ Some read.entry) × ((i < length journal) × (merged logs' ≡ drop (suc i) journal))
  places = left_from journal (merged logs') read.entry i (sym next.first ∙ merging.left_is)

  abbrev left_over : List Course
  left_over = courses_of logs dids

  counted : length logs ≡ node_count image
  counted = sym (courses_long logs dids merging.as_many) ∙ merging.read.counted

  course_there : (n : ℕ) → course_at left_over n ≡ record { left = log_at logs n; dids = dids_at dids n }
  course_there n = courses_read logs dids n merging.as_many

  log_is : log_at logs read.log ≡ (course_of read.log (drop i (moments image parameters journal))).left
  log_is = ap (λ (course : Course). course.left) (sym (course_there read.log) ∙ merging.read.each read.log (omega (arith, next.here, counted)))

  -- the log is that of the event's node
  is_own : node_of read.entry.event ≡ read.log
  is_own = own_event read.log (drop i (moments image parameters journal)) read.entry (next.entry ∙ ap (λ (log : List Logged). option_map entry_of (front log)) log_is)

  taken_is : read.taken ≡ taken_of (front (course_at left_over (node_of read.entry.event)).left)
  taken_is = next.taken ∙ (ap (λ (n : ℕ). taken_of (front (log_at logs n))) (sym is_own) ∙ ap (λ (course : Course). taken_of (front course.left)) (sym (course_there (node_of read.entry.event))))

  sends_are : sends ≡ next_sent (course_at left_over (node_of read.entry.event))
  sends_are = next.sent ∙ (ap (λ (n : ℕ). sent_of (front (log_at logs n))) (sym is_own) ∙ ap next_sent (sym (course_there (node_of read.entry.event))))

  dids_are : dids_at dids (node_of read.entry.event) ≡ (course_at left_over (node_of read.entry.event)).dids
  dids_are = ap (λ (course : Course). course.dids) (sym (course_there (node_of read.entry.event)))

  pub follows_here : node_of read.entry.event < length dids
  follows_here = omega (arith, is_own, next.here, merging.as_many)

  pub follows_may : MayFollow sends (dids_at dids (node_of read.entry.event))
  follows_may = may_follow image parameters allowed journal legal i read.entry places.1.0 places.0 merging.read taken_is sends_are dids_are

  -- one event more has been read
  pub merges_on : {so_far' : List Entry} {dids' : List (List Did)} {moves' : List Move} {told' : Told} → so_far' ≡ so_far ++ read.entry ∷ [] → Follows image read sends dids dids' moves moves' told told'
      → IsMerging image parameters journal start so_far' logs' dids' moves' told'
  merges_on {so_far'} {dids'} {moves'} {told'} more follows =
      let n = node_of read.entry.event in
      let long : start + length so_far' ≡ i + 1 = omega (arith, ap length more, length_push so_far read.entry) in
      let place : suc i ≡ i + 1 = omega arith in
      let left : logs' ≡ set logs n (behind (log_at logs n)) = next.left ∙ ap (λ (k : ℕ). set logs k (behind (log_at logs k))) (sym is_own) in
      let courses_are : courses_of logs' dids' ≡ set left_over n (read_on (course_at left_over n)) =
      (λ x. courses_of (left x) (follows.rest_is x)) ∙ (courses_set logs dids n (behind (log_at logs n)) (behind (dids_at dids n)) ∙ ap (λ (course : Course). set left_over n (read_on course)) (sym (course_there n))) in
      let has = between_push start i journal (merged logs') read.entry (omega arith) (sym merging.left_is ∙ next.first) in
      record {
        span_is = more ∙ (ap (λ (es : List Entry). es ++ read.entry ∷ []) merging.span_is ∙ (sym has ∙ ap (λ (k : ℕ). between start k journal) (sym long)));
        left_is = places.1.1 ∙ ap (λ (k : ℕ). drop k journal) (place ∙ sym long);
        as_many = ap length follows.rest_is ∙ (length-set dids n (behind (dids_at dids n)) ∙ (merging.as_many ∙ sym (ap length left ∙ length-set logs n (behind (log_at logs n)))));
        read = subst (λ (k : ℕ). CoursesAreLeft image parameters journal k (courses_of logs' dids')) (sym long)
            (goes_on image parameters allowed journal legal i read.entry places.1.0 places.0 merging.read taken_is sends_are dids_are courses_are);
        spanned = subst (λ (k : ℕ). IsSpanned image (moments image parameters journal) start k moves' told') (sym long)
            (spans_on image parameters allowed journal legal i read.entry places.1.0 places.0 merging.read taken_is sends_are dids_are (omega arith) merging.spanned follows.moves_are follows.told_is);
      }

  -- no more has been read than the span has
  pub reaches_on : {so_far' : List Entry} (high : Option ℕ) → Rises journal → is_behind high (front (merged logs)) ≡ false → so_far' ≡ so_far ++ read.entry ∷ [] → start + length so_far' ≤ end_of high journal
  reaches_on {so_far'} high rises within more =
      let long : start + length so_far' ≡ suc i = omega (arith, ap length more, length_push so_far read.entry) in
      subst (λ (k : ℕ). k ≤ end_of high journal) (sym long) (by_end high (sym within ∙ ap (λ (es : List Entry). is_behind high (front es)) next.first))
    where
      by_end : (high : Option ℕ) → false ≡ is_behind high (Some read.entry) → suc i ≤ end_of high journal
      by_end None is = places.1.0
      by_end (Some stamp) is = place_past journal i stamp read.entry rises places.0 (leb-false stamp read.entry.stamp (sym is))

-- the logs are read from a stamp on, and nothing has been read yet
pub merging_begins : (image : Parts) (parameters : Parameters) (stamp : ℕ) (logs : Logs) (dids : List (List Did)) (told : Told) → length dids ≡ length logs
    → LogsAreOfJournal image parameters (merged logs) (courses_of logs dids) → ((parts : Parts) → told ≡ told_of parts [])
    → IsMerging image parameters (merged logs) (place_of stamp (merged logs)) [] (logs_from stamp logs) (dids_behind (logs_from stamp logs) dids) [] told
merging_begins image parameters stamp logs dids told as_many are told_is =
    let journal = merged logs in
    let start = place_of stamp journal in
    let here : start ≡ start + 0 = omega arith in
    let many = dids_as_many stamp logs dids as_many in
    let run = moments image parameters journal in
    record {
      span_is = sym (between_none start journal);
      left_is = from_merged stamp logs ∙ ap (λ (k : ℕ). drop k journal) here;
      as_many = many;
      read = subst (λ (k : ℕ). CoursesAreLeft image parameters journal k (courses_of (logs_from stamp logs) (dids_behind (logs_from stamp logs) dids))) here (record {
        counted = courses_long (logs_from stamp logs) (dids_behind (logs_from stamp logs) dids) many ∙ (length-map logs (log_from stamp) ∙ (sym (courses_long logs dids as_many) ∙ are.counted));
        each = courses_from image parameters stamp logs dids as_many are (merged_rises logs);
      });
      spanned = record {
        moves_are = ap (flat_map moves_of) (sym (between_none start run));
        told_is = told_is image ∙ ap (λ (run : List Moment). unheld (told_of image run)) (sym (between_none start run));
      };
    }

-- all of a span has been read
pub merging_ends : (image : Parts) (parameters : Parameters) (journal : List Entry) (low : ℕ) (high : Option ℕ) (span : Span) (logs : Logs) (dids : List (List Did)) → Rises journal
    → is_behind high (front (merged logs)) ≡ true → IsMerging image parameters journal (place_of low journal) span.journal logs dids span.moves.items span.tally.told
    → place_of low journal + length span.journal ≤ end_of high journal → IsSpan image parameters journal low high span
merging_ends image parameters journal low high span logs dids rises past merging reached =
    let i = place_of low journal + length span.journal in
    let end : i ≡ end_of high journal = at_end high (sym (ap (λ (es : List Entry). is_behind high (front es)) merging.left_is) ∙ past) reached in
    record {
      entries_are = merging.span_is ∙ ap (λ (k : ℕ). between (place_of low journal) k journal) end;
      moves_are = merging.spanned.moves_are ∙ ap (λ (k : ℕ). flat_map moves_of (between (place_of low journal) k (moments image parameters journal))) end;
      told_is = merging.spanned.told_is ∙ ap (λ (k : ℕ). unheld (told_of image (between (place_of low journal) k (moments image parameters journal)))) end;
    }
  where
    no_more : (es : List Entry) → is_behind None (front es) ≡ true → length es ≡ 0
    no_more [] is = refl
    no_more (entry ∷ rest) is = absurd (true≢false (sym is))

    at_end : {i : ℕ} (high : Option ℕ) → is_behind high (front (drop i journal)) ≡ true → i ≤ end_of high journal → i ≡ end_of high journal
    at_end {i} None is most = omega (arith, no_more (drop i journal) is, length-drop i journal, most)
    at_end {i} (Some stamp) is most = omega (arith, place_reached journal i stamp rises is, most)

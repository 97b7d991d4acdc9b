-- Records are read back, one behind the other.
use Rattle.std.proofs.Common.{◌≡◌, ℕ, zero, suc, ◌+◌, ◌≤◌, ◌<◌, ◌^◌, Option, Some, None, IsTrue, IfSome, List, [], ◌∷◌, ◌++◌, length, drop}
use Rattle.std.proofs.Common.{false, is_some, flat_map, refl, sym, subst, ap, ◌∙◌, append_assoc, append-nil, arith}
use Rattle.std.specs.List.{AllByRecursion}
use Rattle.std.proofs.lemmas.Bool.{true≢false}
use Rattle.std.proofs.lemmas.List.{length-append, drop-drop, drop_at}
use Rattle.std.proofs.lemmas.List.Concat.{flat_map-append}
use Rattle.alw_msg.specs.declared.messages.Msg.{Msg}
use Rattle.alw_msg.specs.declared.events.Event.{Event}
use Rattle.alw_msg.specs.declared.events.Event.TheVariants.{Instr, Deliver, Handle, Evict}
use Rattle.alw_msg.specs.declared.events.Entry.{Entry}
use Rattle.alw_msg.specs.Events.{node_of}
use Rattle.alw_model.specs.Threads.{Logged, takes_rightly}
use Rattle.alw_cells.specs.Layout.{word, half, tag_of, argument_of, taken_bytes, sent_bytes, front_bytes, back_bytes, record_bytes, log_bytes}
use Rattle.alw_cells.specs.Records.{BodyIsPlain, IsRecord, FitsMsg, FitsEvent, FitsRecord, AreRecords, word_in, half_in, event_by, event_in}
use Rattle.alw_cells.specs.Records.{sends_in, behind_sends, HasSends, taken_in, taken_size, entry_in, count_in, sends_at, behind_record, logged_in, records_in}
use Rattle.alw_cells.specs.Records.{HasRecords, StampsAreBelow, Ascends, ArePacked}
use Rattle.alw_cells.proofs.Packing.{word_back, half_back, half_length, taken_back, msg_size_is, taken_length, sends_back}

-- ---- the front of a record

-- a record's bytes, with others behind them
abbrev whole : Entry → List ℕ → List ℕ
whole entry behind = front_bytes entry ++ behind

whole_tail : (entry : Entry) (behind : List ℕ) → drop 9 (whole entry behind) ≡ behind
unfolding front_bytes word
whole_tail entry behind = refl

front_length : (entry : Entry) → length (front_bytes entry) ≡ 9
unfolding front_bytes word
front_length entry = refl

stamp_back : (entry : Entry) (behind : List ℕ) → entry.stamp < 2 ^ 32 → word_in (whole entry behind) ≡ entry.stamp
unfolding front_bytes word
stamp_back entry behind fits = word_back entry.stamp ((tag_of entry.event ∷ word (argument_of entry.event)) ++ behind) fits

event_back : (number stamp : ℕ) (event : Event) (behind : List ℕ) → node_of event ≡ number → FitsEvent event
    → event_in number (whole (record { stamp = stamp; event = event }) behind) ≡ event
unfolding event_in event_by front_bytes word half
event_back number stamp (Instr node) behind is fits = λ x. Instr (record { 0 = sym is x })
event_back number stamp (Deliver from to) behind is fits = λ x. Deliver (record { 0 = half_back from.0 behind fits.0 x }) (record { 0 = sym is x })
event_back number stamp (Handle node) behind is fits = λ x. Handle (record { 0 = sym is x })
event_back number stamp (Evict node set) behind is fits = λ x. Evict (record { 0 = sym is x }) (word_back set behind fits.1 x)

-- the message taken, and in how many bytes it stands
record IsTaken (taken : Option Msg) (bytes : List ℕ) : Type 0 where
  pub read : taken_in bytes ≡ taken
  pub size : taken_size bytes ≡ length (taken_bytes taken)

none_length : 0 ≡ length (taken_bytes None)
unfolding taken_bytes
none_length = refl

took : (stamp : ℕ) (event : Event) (taken : Option Msg) (behind : List ℕ) → IsTrue (takes_rightly event taken) → IfSome taken BodyIsPlain → IfSome taken FitsMsg
    → IsTaken taken (whole (record { stamp = stamp; event = event }) (taken_bytes taken ++ behind))
unfolding taken_in taken_size front_bytes word
took stamp (Instr node) None behind right plain fits = record { read = refl; size = none_length }
took stamp (Instr node) (Some msg) behind right plain fits = absurd (true≢false (sym right))
took stamp (Handle node) None behind right plain fits = record { read = refl; size = none_length }
took stamp (Handle node) (Some msg) behind right plain fits = absurd (true≢false (sym right))
took stamp (Evict node set) None behind right plain fits = record { read = refl; size = none_length }
took stamp (Evict node set) (Some msg) behind right plain fits = absurd (true≢false (sym right))
took stamp (Deliver from to) None behind right plain fits = absurd (true≢false (sym right))
took stamp (Deliver from to) (Some msg) behind right plain fits = record {
  read = ap Some (taken_back msg behind plain fits);
  size = msg_size_is msg behind ∙ sym (taken_length msg);
}

-- ---- a record

record IsBack (number : ℕ) (logged : Logged) (bytes rest : List ℕ) : Type 0 where
  pub entry : entry_in number bytes ≡ logged.entry
  pub taken : taken_in bytes ≡ logged.taken
  pub count : count_in bytes ≡ length logged.sent
  pub sends : sends_at bytes ≡ flat_map sent_bytes logged.sent ++ rest
  pub front : 11 + taken_size bytes ≤ length bytes

back_is : (sent : List (ℕ × Msg)) (rest : List ℕ) → back_bytes sent ++ rest ≡ half (length sent) ++ (flat_map sent_bytes sent ++ rest)
unfolding back_bytes
back_is sent rest = append_assoc (half (length sent)) (flat_map sent_bytes sent) rest

record_back : (number : ℕ) (logged : Logged) (rest : List ℕ) → IsRecord number logged → FitsRecord logged
    → IsBack number logged (record_bytes logged ++ rest) rest
unfolding entry_in count_in sends_at record_bytes
record_back number logged rest is fits =
    let sends = flat_map sent_bytes logged.sent in
    let behind = taken_bytes logged.taken ++ (back_bytes logged.sent ++ rest) in
    let bytes = whole logged.entry behind in
    let taken = took logged.entry.stamp logged.entry.event logged.taken (back_bytes logged.sent ++ rest) is.taken is.plain fits.taken in
    let tail : drop (9 + taken_size bytes) bytes ≡ half (length logged.sent) ++ (sends ++ rest) =
    sym (drop-drop (taken_size bytes) 9 bytes) ∙ (ap (drop (taken_size bytes)) (whole_tail logged.entry behind)
    ∙ (drop_at (taken_bytes logged.taken) (back_bytes logged.sent ++ rest) (taken_size bytes) (sym taken.size) ∙ back_is logged.sent rest)) in
    let last : drop (11 + taken_size bytes) bytes ≡ sends ++ rest =
    ap (λ n. drop n bytes) (omega arith) ∙ (sym (drop-drop 2 (9 + taken_size bytes) bytes)
    ∙ (ap (drop 2) tail ∙ drop_at (half (length logged.sent)) (sends ++ rest) 2 (half_length (length logged.sent)))) in
    let place : record_bytes logged ++ rest ≡ bytes =
    append_assoc (front_bytes logged.entry) (taken_bytes logged.taken ++ back_bytes logged.sent) rest
    ∙ ap (λ (xs : List ℕ). front_bytes logged.entry ++ xs) (append_assoc (taken_bytes logged.taken) (back_bytes logged.sent) rest) in
    subst (λ (xs : List ℕ). IsBack number logged xs rest) (sym place) (record {
      entry = λ x. record {
        stamp = stamp_back logged.entry behind fits.stamp x;
        event = event_back number logged.entry.stamp logged.entry.event behind is.node fits.event x;
      };
      taken = taken.read;
      count = ap half_in tail ∙ half_back (length logged.sent) (sends ++ rest) is.few;
      sends = last;
      front = omega (
        arith,
        taken.size,
        front_length logged.entry,
        length-append (front_bytes logged.entry) behind,
        length-append (taken_bytes logged.taken) (back_bytes logged.sent ++ rest),
        ap length (back_is logged.sent rest),
        length-append (half (length logged.sent)) (sends ++ rest),
        half_length (length logged.sent),
      );
    })

-- ---- records

pub record AreBackAll (number : ℕ) (log : List Logged) (bytes : List ℕ) : Type 0 where
  pub read : records_in number (length log) bytes ≡ log
  pub has : HasRecords (length log) bytes

records_back : (number : ℕ) (log : List Logged) (rest : List ℕ) → AreRecords number log → AreBackAll number log (log_bytes log ++ rest)
unfolding log_bytes
records_back number [] rest are = record { read = refl; has = tt }
records_back number (logged ∷ log) rest are =
    let more = log_bytes log ++ rest in
    let bytes = record_bytes logged ++ more in
    let deeper = records_back number log rest are.1 in
    let one = record_back number logged more are.0.0 are.0.1 in
    let sends = sends_back number logged.entry.stamp logged.sent more are.0.0.sent are.0.1.sent in
    let given : logged_in number bytes ≡ logged =
    (λ x. record { entry = one.entry x; taken = one.taken x; sent = sends_in number (one.entry x).stamp (one.count x) (one.sends x) })
    ∙ ap (λ (sent : List (ℕ × Msg)). record { entry = logged.entry; taken = logged.taken; sent = sent }) sends.read in
    let gone : behind_record bytes ≡ more = (λ x. behind_sends (one.count x) (one.sends x)) ∙ sends.behind in
    let has : HasSends (count_in bytes) (sends_at bytes) = subst (λ (P : Type 0). P) (λ x. HasSends (sym one.count x) (sym one.sends x)) sends.has in
    subst (λ (xs : List ℕ). AreBackAll number (logged ∷ log) xs) (sym (append_assoc (record_bytes logged) (log_bytes log) rest)) (record {
      read = (λ x. given x ∷ records_in number (length log) (gone x)) ∙ ap (λ (logs : List Logged). logged ∷ logs) deeper.read;
      has = (record { front = one.front; sends = has }, subst (HasRecords (length log)) (sym gone) deeper.has);
    })

pub length_read : (number events : ℕ) (bytes : List ℕ) → length (records_in number events bytes) ≡ events
length_read number zero bytes = refl
length_read number (suc events) bytes = ap suc (length_read number events (behind_record bytes))

-- ---- a log

pub log_push : (log : List Logged) (logged : Logged) → log_bytes (log ++ logged ∷ []) ≡ log_bytes log ++ record_bytes logged
unfolding log_bytes
log_push log logged = flat_map-append record_bytes log (logged ∷ []) ∙ ap (λ (xs : List ℕ). log_bytes log ++ xs) (append-nil (record_bytes logged))

pub all_push : (number : ℕ) (log : List Logged) (logged : Logged) → AreRecords number log → IsRecord number logged × FitsRecord logged
    → AreRecords number (log ++ logged ∷ [])
all_push number [] logged are is = (is, tt)
all_push number (first ∷ log) logged are is = (are.0, all_push number log logged are.1 is)

module _ (number events : ℕ) (bytes : List ℕ) (packed : bytes ≡ log_bytes (records_in number events bytes))
    (are : AreRecords number (records_in number events bytes)) where
  -- all of it can be read
  pub readable : HasRecords events bytes
  readable =
      let log = records_in number events bytes in
      let back = records_back number log [] are in
      subst (λ (P : Type 0). P) (λ x. HasRecords (length_read number events bytes x) ((append-nil (log_bytes log) ∙ sym packed) x)) back.has

  -- one record more
  pub read_more : (logged : Logged) (after : List ℕ) → IsRecord number logged → FitsRecord logged → after ≡ bytes ++ record_bytes logged
      → records_in number (events + 1) after ≡ records_in number events bytes ++ logged ∷ []
  read_more logged after is fits grown =
      let log = records_in number events bytes in
      let longer = log ++ logged ∷ [] in
      let back = records_back number longer [] (all_push number log logged are (is, fits)) in
      let size : length longer ≡ events + 1 = length-append log (logged ∷ []) ∙ ap (λ n. n + 1) (length_read number events bytes) in
      let place : log_bytes longer ++ [] ≡ after =
      append-nil (log_bytes longer) ∙ (log_push log logged ∙ (ap (λ (xs : List ℕ). xs ++ record_bytes logged) (sym packed) ∙ sym grown)) in
      (λ x. records_in number (sym size x) (sym place x)) ∙ back.read

-- ---- what each call of a log leaves

ascends_push : (log : List Logged) (logged : Logged) → Ascends log → StampsAreBelow logged.entry.stamp log → Ascends (log ++ logged ∷ [])
ascends_push [] logged ascends below = (tt, tt)
ascends_push (first ∷ log) logged ascends below = (push log ascends.0, ascends_push log logged ascends.1 below.1)
  where
    push : (rest : List Logged) → AllByRecursion (λ (later : Logged). first.entry.stamp < later.entry.stamp) rest
        → AllByRecursion (λ (later : Logged). first.entry.stamp < later.entry.stamp) (rest ++ logged ∷ [])
    push [] all = (below.0, tt)
    push (later ∷ rest) all = (all.0, push rest all.1)

pub packed_start : (number : ℕ) (bytes : List ℕ) (capacity : ℕ) → bytes ≡ [] → ArePacked number 0 bytes 0 capacity
unfolding log_bytes
packed_start number bytes capacity none = record { packed = none; records = tt; ascends = tt; few = omega arith; place = omega (arith, ap length none) }

pub put_all : (logged : Logged) (before front taken back : List ℕ) → front ≡ before ++ front_bytes logged.entry → taken ≡ front ++ taken_bytes logged.taken
    → back ≡ taken ++ back_bytes logged.sent
    → back ≡ before ++ record_bytes logged
unfolding record_bytes
put_all logged before front taken back front_is taken_is back_is =
    back_is ∙ (ap (λ (xs : List ℕ). xs ++ back_bytes logged.sent) (taken_is ∙ ap (λ (xs : List ℕ). xs ++ taken_bytes logged.taken) front_is)
    ∙ (append_assoc (before ++ front_bytes logged.entry) (taken_bytes logged.taken) (back_bytes logged.sent)
    ∙ append_assoc before (front_bytes logged.entry) (taken_bytes logged.taken ++ back_bytes logged.sent)))

none_is : (taken : Option Msg) → is_some taken ≡ false → taken ≡ None
none_is None is = refl
none_is (Some msg) is = absurd (true≢false is)

-- the record of an event that took and sent nothing
pub put_none : (logged : Logged) (before after : List ℕ) → is_some logged.taken ≡ false → logged.sent ≡ [] → after ≡ before ++ (front_bytes logged.entry ++ back_bytes [])
    → after ≡ before ++ record_bytes logged
unfolding record_bytes taken_bytes
put_none logged before after none empty is =
    is ∙ (λ i. before ++ (front_bytes logged.entry ++ (taken_bytes (sym (none_is logged.taken none) i) ++ back_bytes (sym empty i))))

pub packed_more : (number events : ℕ) (bytes after : List ℕ) (room capacity grown : ℕ) (logged : Logged) → ArePacked number events bytes room capacity
    → IsRecord number logged → FitsRecord logged → after ≡ bytes ++ record_bytes logged
    → StampsAreBelow logged.entry.stamp (records_in number events bytes) → 1 ≤ room → length after ≤ grown → ArePacked number (events + 1) after 0 grown
packed_more number events bytes after room capacity grown logged are is fits put below some place =
    let read = read_more number events bytes are.packed are.records logged after is fits put in
    let log = records_in number events bytes in
    record {
      packed = put ∙ (ap (λ (xs : List ℕ). xs ++ record_bytes logged) are.packed ∙ (sym (log_push log logged) ∙ ap log_bytes (sym read)));
      records = subst (AreRecords number) (sym read) (all_push number log logged are.records (is, fits));
      ascends = subst Ascends (sym read) (ascends_push log logged are.ascends below);
      few = omega (arith, are.few, some);
      place = omega (arith, place);
    }

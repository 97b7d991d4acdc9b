-- A step of logs that are read side by side: the log of the least head goes on.
use Rattle.std.proofs.Common.{◌≡◌, ℕ, ◌+◌, ◌*◌, ◌<◌, nat_le, Option, true, false, not, ◌&&◌, ◌==◌, Some, None, is_some, IfSome, option_to_list, List, [], ◌∷◌, ◌++◌, map, length, slice_get, get_or, set, refl, sym, subst, ap, ◌∙◌, arith}
use Rattle.std.specs.Option.{option_map}
use Rattle.std.proofs.lemmas.Bool.{true≢false, eqb-true}
use Rattle.std.proofs.lemmas.List.{map-set, length-map, get_or-map}
use Rattle.std.proofs.lemmas.Option.{get_or_from_slice_get, same_Some}
use Rattle.alw_msg.specs.declared.messages.Msg.{Msg}
use Rattle.alw_msg.specs.declared.events.Event.{Event}
use Rattle.alw_msg.specs.declared.events.Event.TheVariants.{Instr, Deliver, Handle, Evict}
use Rattle.alw_msg.specs.declared.events.Entry.{Entry}
use Rattle.alw_msg.specs.Events.{node_of}
use Rattle.alw_msg.specs.Lists.{front, behind}
use Rattle.alw_model.specs.Threads.{Logged, Logs, log_at, merged}
use Rattle.alw_cells.specs.Logs.{Reading, after_next, taken_of, sent_of, entry_of}
use Rattle.alw_cells.specs.Plain.{is_instr, is_plain}
use Rattle.alw_merge.specs.Heads.{Waiting, IsLeast, HaveJoined}
use Rattle.alw_merge.specs.Spans.{is_behind}
use Rattle.alw_merge.specs.Streams.{left_of, all_left, StreamIsUnderWay, ReadingGoesOn, EventIsReadOff, IsPlain}
use Rattle.alw_merge.proofs.Leasts.{joined_length}
use Rattle.alw_merge.proofs.Skipping.{next_left}
use Rattle.alw_merge.proofs.Merging.{HeadStands, stands, below, read_at, goes_to_next, heads_few, left_merged, nothing_left}

-- an instruction that took and sent nothing
record IsPlainEvent (one : Logged) : Type 0 where
  pub event : one.entry.event ≡ Instr (record { 0 = node_of one.entry.event })
  pub taken : one.taken ≡ None
  pub sent : one.sent ≡ []

plain_event : (one : Logged) → is_plain (Some one) ≡ true → IsPlainEvent one
plain_event one plain =
    let is = parts one.entry.event one.taken one.sent plain in
    record { event = is.0; taken = is.1.0; sent = is.1.1 }
  where
    parts : (event : Event) (taken : Option Msg) (sent : List (ℕ × Msg)) → is_instr event && (not (is_some taken) && (length sent == 0)) ≡ true
        → (event ≡ Instr (record { 0 = node_of event })) × ((taken ≡ None) × (sent ≡ []))
    parts (Instr node) None [] is = (refl, (refl, refl))
    parts (Instr node) None (send ∷ rest) is = absurd (omega (arith, eqb-true (length (send ∷ rest)) 0 is))
    parts (Instr node) (Some msg) sent is = absurd (true≢false (sym is))
    parts (Deliver from to) taken sent is = absurd (true≢false (sym is))
    parts (Handle node) taken sent is = absurd (true≢false (sym is))
    parts (Evict node set) taken sent is = absurd (true≢false (sym is))

-- the node of the least head has 16 bits
head_node : (readings : List Reading) (waiting : Waiting) (head : ℕ) → StreamIsUnderWay readings waiting → (at : HeadStands readings head) → node_of at.one.entry.event < 65536
head_node readings waiting head under at =
    subst (λ (o : Option Logged). IfSome o (λ logged. node_of (entry_of logged).event < 65536)) at.given (read_at readings at.k at.reading at.there under.read).node

-- whether an end is behind the entry that comes next
module _ {readings : List Reading} {waiting : Waiting} {head : ℕ} (under : StreamIsUnderWay readings waiting) (least : IsLeast head waiting.heads) where
  next : HeadStands readings head
  next = stands readings waiting head under least

  comes : front (merged (map left_of readings)) ≡ Some next.one.entry
  comes = ap front (sym (left_merged readings) ∙ next.first)

  -- as the least head's stamp says
  pub stamp_is_behind : {least_stamp : ℕ} → ((stamp node log : ℕ) → node < 65536 → log < 65536 → head ≡ (stamp * 65536 + node) * 65536 + log → least_stamp ≡ stamp) → (end : ℕ)
      → nat_le end least_stamp ≡ is_behind (Some end) (front (merged (map left_of readings)))
  stamp_is_behind stamp_is end =
      ap (nat_le end) (stamp_is next.one.entry.stamp (node_of next.one.entry.event) next.k (head_node readings waiting head under next) next.few next.key)
      ∙ sym (ap (is_behind (Some end)) comes)

  -- there is one, which no end is behind
  pub none_is_behind : false ≡ is_behind None (front (merged (map left_of readings)))
  none_is_behind = sym (ap (is_behind None) comes)

module _ {readings : List Reading} {waiting : Waiting} {head place : ℕ} (under : StreamIsUnderWay readings waiting) (least : IsLeast head waiting.heads)
    (place_is : (others log : ℕ) → log < 65536 → head ≡ others * 65536 + log → place ≡ log) where
  at : HeadStands readings head
  at = stands readings waiting head under least

  same : place ≡ at.k
  same = place_is (at.one.entry.stamp * 65536 + node_of at.one.entry.event) at.k at.few at.key

  pub few : place < 65536
  few = omega (arith, same, at.few)

  pub here : place < length readings
  here = omega (arith, same, below readings at.k at.reading at.there)

  there : slice_get readings place ≡ Some at.reading
  there = subst (λ (k : ℕ). slice_get readings k ≡ Some at.reading) (sym same) at.there

  pub same_reading : {one other : Reading} → one ≡ get_or readings place one → other ≡ get_or readings place other → one ≡ other
  same_reading {one} {other} read also = read ∙ (get_or_from_slice_get readings place at.reading one there
      ∙ sym (also ∙ get_or_from_slice_get readings place at.reading other there))

  module _ {reading : Reading} (read : reading ≡ get_or readings place reading) where
    is : reading ≡ at.reading
    is = read ∙ get_or_from_slice_get readings place at.reading reading there

    given : reading.given ≡ Some at.one
    given = ap (λ (r : Reading). r.given) is ∙ at.given

    -- its event is there
    pub has_event : option_map entry_of reading.given ≡ None → ⊥
    has_event none = nothing (sym (ap (option_map entry_of) given) ∙ none)
      where
        nothing : Some at.one.entry ≡ None → ⊥
        nothing is = absurd (cc)

    -- and is the next of all
    first : merged (map left_of readings) ≡ at.one.entry ∷ merged (map left_of (set readings place (after_next reading)))
    first =
        let moved : all_left (set readings at.k (after_next at.reading)) ≡ all_left (set readings place (after_next reading)) =
        λ x. all_left (set readings (sym same x) (after_next (sym is x))) in
        sym (left_merged readings) ∙ (at.first ∙ ap (λ (entries : List Entry). at.one.entry ∷ entries) (moved ∙ left_merged (set readings place (after_next reading))))

    pub entry_is : option_map entry_of reading.given ≡ front (merged (map left_of readings))
    entry_is = ap (option_map entry_of) given ∙ sym (ap front first)

    module _ {rest again : Waiting} {after : Reading} (popped : HaveJoined rest.heads (head ∷ []) waiting.heads) (most : rest.most ≡ waiting.most)
        (goes : ReadingGoesOn place reading after rest again) where
      pub goes_on : StreamIsUnderWay (set readings place after) again
      goes_on =
          let moved : ReadingGoesOn at.k at.reading after rest again =
          subst (λ (k : ℕ). ReadingGoesOn k at.reading after rest again) same (subst (λ (r : Reading). ReadingGoesOn place r after rest again) is goes) in
          subst (λ (k : ℕ). StreamIsUnderWay (set readings k after) again) (sym same) (goes_to_next readings waiting rest again head after at under popped most moved)

      pub left_is : merged (map left_of (set readings place after)) ≡ behind (merged (map left_of readings))
      left_is = ap (λ (r : Reading). merged (map left_of (set readings place r))) goes.reading_is ∙ sym (ap behind first)

      -- what is left of its log
      left_there : log_at (map left_of readings) place ≡ left_of reading
      left_there = get_or-map left_of readings place reading [] here ∙ ap left_of (sym read)

      front_there : front (log_at (map left_of readings) place) ≡ reading.given
      front_there = ap front left_there ∙ first_of reading.given given
        where
          first_of : (o : Option Logged) → o ≡ Some at.one → front (option_to_list o ++ reading.left) ≡ o
          first_of None none = absurd (cc)
          first_of (Some one) some = refl

      behind_there : left_of (after_next reading) ≡ behind (log_at (map left_of readings) place)
      behind_there = next_left reading.left ∙ (sym (behind_of reading.given given) ∙ sym (ap behind left_there))
        where
          behind_of : (o : Option Logged) → o ≡ Some at.one → behind (option_to_list o ++ reading.left) ≡ reading.left
          behind_of None none = absurd (cc)
          behind_of (Some one) some = refl

      -- the event that was read
      pub next_is : {logs : Logs} {entry : Entry} {taken : Option Msg} {sends : List (ℕ × Msg)} → map left_of readings ≡ logs → Some entry ≡ option_map entry_of reading.given → taken ≡ taken_of reading.given → sends ≡ sent_of reading.given
          → EventIsReadOff logs (record { log = place; entry = entry; taken = taken }) sends (map left_of (set readings place after))
      next_is {logs} {entry} {taken} {sends} view entry_is_its taken_is sent_is =
          let own : entry ≡ at.one.entry = same_Some entry at.one.entry (entry_is_its ∙ ap (option_map entry_of) given) in
          subst (λ (all : Logs). EventIsReadOff all (record { log = place; entry = entry; taken = taken }) sends (map left_of (set readings place after))) view (record {
            here = omega (arith, here, length-map readings left_of);
            entry = entry_is_its ∙ ap (option_map entry_of) (sym front_there);
            taken = taken_is ∙ ap taken_of (sym front_there);
            sent = sent_is ∙ ap sent_of (sym front_there);
            left = ap (λ (r : Reading). map left_of (set readings place r)) goes.reading_is
                ∙ (map-set left_of readings place (after_next reading) ∙ ap (λ (left : List Logged). set (map left_of readings) place left) behind_there);
            first = first ∙ ((λ x. sym own x ∷ merged (map left_of (set readings place (sym goes.reading_is x)))));
          })

    -- its entry is read off its head
    module _ (plain : is_plain reading.given ≡ true) {entry : Entry} (stamp : (stamp node log : ℕ) → node < 65536 → log < 65536 → head ≡ (stamp * 65536 + node) * 65536 + log → entry.stamp ≡ stamp)
        (event : (stamp node log : ℕ) → node < 65536 → log < 65536 → head ≡ (stamp * 65536 + node) * 65536 + log → entry.event ≡ Instr (record { 0 = node })) where
      its : IsPlainEvent at.one
      its = plain_event at.one (ap is_plain (sym given) ∙ plain)

      node_few : node_of at.one.entry.event < 65536
      node_few = head_node readings waiting head under at

      event_is : entry.event ≡ Instr (record { 0 = node_of at.one.entry.event })
      event_is = event at.one.entry.stamp (node_of at.one.entry.event) at.k node_few at.few at.key

      own : entry ≡ at.one.entry
      own = λ x. record { stamp = stamp at.one.entry.stamp (node_of at.one.entry.event) at.k node_few at.few at.key x; event = (event_is ∙ sym its.event) x }

      pub is_plain_read : IsPlain (record { log = place; entry = entry; taken = None })
      is_plain_read = record { instr = ap is_instr event_is; taken = refl }

      pub plain_is_next : {rest again : Waiting} {after : Reading} → HaveJoined rest.heads (head ∷ []) waiting.heads → rest.most ≡ waiting.most → ReadingGoesOn place reading after rest again
          → {logs : Logs} → map left_of readings ≡ logs → EventIsReadOff logs (record { log = place; entry = entry; taken = None }) [] (map left_of (set readings place after))
      plain_is_next popped most goes view =
          next_is popped most goes view (ap Some own ∙ sym (ap (option_map entry_of) given)) (sym (ap taken_of given ∙ its.taken)) (sym (ap sent_of given ∙ its.sent))

-- without a head there is room for one
pub has_room : (readings : List Reading) (waiting rest : Waiting) (head : ℕ) → StreamIsUnderWay readings waiting → HaveJoined rest.heads (head ∷ []) waiting.heads → rest.most ≡ waiting.most
    → length rest.heads < rest.most
has_room readings waiting rest head under popped most =
    omega (arith, heads_few readings waiting.heads under.heads, joined_length rest.heads (head ∷ []) waiting.heads popped, under.room, most)

-- nothing is left without a head
pub at_end : (readings : List Reading) (waiting : Waiting) → StreamIsUnderWay readings waiting → waiting.heads ≡ [] → merged (map left_of readings) ≡ []
at_end readings waiting under none = sym (left_merged readings) ∙ nothing_left readings waiting.heads under.read under.heads none

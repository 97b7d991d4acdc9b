-- That an event is plain stands in its record: in its tag, and in the number of messages that it sent.
use Rattle.std.proofs.Common.{◌≡◌, ℕ, zero, suc, ◌==◌, Bool, true, false, cond, not, ◌&&◌, Some, None, is_some, List, length, drop, slice_index, refl, ap, ◌∙◌}
use Rattle.std.proofs.lemmas.Bool.{eqb-true}
use Rattle.alw_msg.specs.declared.messages.Msg.{Msg}
use Rattle.alw_msg.specs.declared.events.Event.TheVariants.{Deliver, Handle, Evict}
use Rattle.alw_cells.specs.Plain.{is_instr, is_plain}
use Rattle.alw_cells.specs.Records.{half_in, word_in, event_by, event_in, taken_msg, taken_in, sent_size, sends_in, entry_in, count_in, sends_at, logged_in}

-- as many messages are read as there are
as_many : (number stamp n : ℕ) (bytes : List ℕ) → length (sends_in number stamp n bytes) ≡ n
as_many number stamp zero bytes = refl
as_many number stamp (suc n) bytes = ap suc (as_many number stamp n (drop (sent_size bytes) bytes))

-- an instruction has the tag 0, and took nothing
module _ (number tag from set : ℕ) (msg : Msg) (none : Bool) where
  abbrev Tests : Bool → Type 0
  Tests own = is_instr (event_by number tag from set) && (not (is_some (cond (tag == 1) (Some msg) None)) && none) ≡ own && none

  others : (one two : Bool) → (is_instr (cond one (Deliver (record { 0 = from }) (record { 0 = number })) (cond two (Handle (record { 0 = number })) (Evict (record { 0 = number }) set)))) ≡ false
  others true two = refl
  others false true = refl
  others false false = refl

  by_test : (own : Bool) → (tag == 0) ≡ own → Tests own
  unfolding event_by
  by_test true is = rw (eqb-true tag 0 is) refl
  by_test false is = rw (is, others (tag == 1) (tag == 2)) refl

  by_tag : Tests (tag == 0)
  by_tag = by_test (tag == 0) refl

pub plain_read : (number : ℕ) (bytes : List ℕ) → is_plain (Some (logged_in number bytes)) ≡ (slice_index bytes 4 == 0) && (count_in bytes == 0)
unfolding event_in taken_in entry_in
plain_read number bytes =
    ap (λ (n : ℕ). is_instr (event_in number bytes) && (not (is_some (taken_in bytes)) && (n == 0))) (as_many number (entry_in number bytes).stamp (count_in bytes) (sends_at bytes))
    ∙ by_tag number (slice_index bytes 4) (half_in (drop 7 bytes)) (word_in (drop 5 bytes)) (taken_msg (drop 9 bytes)) (count_in bytes == 0)

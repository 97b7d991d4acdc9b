-- What steps of a node leave of what has come to it, and of what it has sent.
use Rattle.std.proofs.Common.{◌≡◌, ℕ, zero, suc, ◌==◌, cond, Option, List, [], ◌∷◌, ◌++◌, slice_set, refl, sym, ap, ◌∙◌, append_assoc, append-nil}
use Rattle.std.specs.Prelude.{option_to_list}
use Rattle.std.proofs.lemmas.Bool.{eq-eqb, ne_eqb}
use Rattle.std.proofs.lemmas.List.{get_or-set_other}
use Rattle.std.proofs.lemmas.List.Concat.{flat_map-append}
use Rattle.alw_num.proofs.Weigh.{is_node}
use Rattle.alw_msg.specs.declared.messages.Msg.{Msg}
use Rattle.alw_msg.specs.declared.events.Event.{Event}
use Rattle.alw_msg.specs.declared.events.Event.TheVariants.{Instr, Handle, Deliver, Evict}
use Rattle.alw_msg.specs.Lists.{front, behind}
use Rattle.alw_model.specs.Threads.{Logged, is_from, took_from, sent_to}
use Rattle.alw_cells.specs.Cells.{Cell, in_from, picked}
use Rattle.alw_cells.specs.Choice.{taken_by, come_taken, stepped_by, logged_by, after_event}
use Rattle.alw_cells.proofs.Receivers.{picked-append}
use Rattle.alw_work.specs.Seats.{came_of, Works}

-- ---- a message leaves its in list and goes into the log

front_behind : (xs : List Msg) → option_to_list (front xs) ++ behind xs ≡ xs
front_behind [] = refl
front_behind (first ∷ rest) = refl

behind_set : (come : List (List Msg)) (from : ℕ) → in_from (slice_set come from (behind (in_from come from))) from ≡ behind (in_from come from)
behind_set [] from = refl
behind_set (first ∷ rest) zero = refl
behind_set (first ∷ rest) (suc from) = behind_set rest from

-- what an event takes of a node
abbrev taken_of : ℕ → Event → Option Msg → List Msg
taken_of k event taken = cond (is_from k event) (option_to_list taken) []

took_push : (k : ℕ) (log : List Logged) (one : Logged) → took_from k (log ++ one ∷ []) ≡ took_from k log ++ taken_of k one.entry.event one.taken
took_push k log one =
    flat_map-append (λ logged. taken_of k logged.entry.event logged.taken) log (one ∷ [])
    ∙ ap (λ (xs : List Msg). took_from k log ++ xs) (append-nil (taken_of k one.entry.event one.taken))

in_order : (come : List (List Msg)) (event : Event) (k : ℕ) → taken_of k event (taken_by come event) ++ in_from (come_taken come event) k ≡ in_from come k
in_order come (Instr at) k = refl
in_order come (Handle at) k = refl
in_order come (Evict at set) k = refl
in_order come (Deliver from to) k = is_node _ k from.0
    (λ same. ap (λ j. cond (from.0 == j) (option_to_list (front (in_from come from.0))) [] ++ in_from (slice_set come from.0 (behind (in_from come from.0)))
    j) same
    ∙ (ap (λ b. cond b (option_to_list (front (in_from come from.0))) [] ++ in_from (slice_set come from.0 (behind (in_from come from.0))) from.0)
    (eq-eqb from.0 from.0 refl)
    ∙ (ap (λ (xs : List Msg). option_to_list (front (in_from come from.0)) ++ xs) (behind_set come from.0)
    ∙ (front_behind (in_from come from.0) ∙ sym (ap (λ j. in_from come j) same)))))
    (λ other. ap (λ b. cond b (option_to_list (front (in_from come from.0))) [] ++ in_from (slice_set come from.0 (behind (in_from come from.0))) k)
    (ne_eqb from.0 k (λ same. other (sym same)))
    ∙ get_or-set_other come from.0 k (behind (in_from come from.0)) [] other)

came_step : (cell : Cell) (event : Event) (k : ℕ) → came_of (after_event cell event) k ≡ came_of cell k
came_step cell event k =
    let rest = in_from (come_taken cell.come event) k in
    ap (λ (xs : List Msg). xs ++ rest) (took_push k cell.log (logged_by cell event))
    ∙ (append_assoc (took_from k cell.log) (taken_of k event (taken_by cell.come event)) rest
    ∙ ap (λ (xs : List Msg). took_from k cell.log ++ xs) (in_order cell.come event k))

-- ---- what is sent

sent_push : (k : ℕ) (log : List Logged) (one : Logged) → sent_to k (log ++ one ∷ []) ≡ sent_to k log ++ picked k one.sent
sent_push k log one =
    flat_map-append (λ logged. picked k logged.sent) log (one ∷ []) ∙ ap (λ (xs : List Msg). sent_to k log ++ xs) (append-nil (picked k one.sent))

-- ---- steps

pub works_none : (cell : Cell) → Works cell cell
works_none cell = record { came = λ k. refl; sent = λ k. ([], sym (append-nil (sent_to k cell.log)), sym (append-nil (picked k cell.pending))) }

pub works_step : (cell : Cell) (event : Event) → Works cell (after_event cell event)
works_step cell event = record {
  came = came_step cell event;
  sent = λ k. (
    picked k (stepped_by cell event).sends,
    sent_push k cell.log (logged_by cell event),
    picked-append k cell.pending
        (stepped_by cell event).sends,
  );
}

pub works_trans : (one two three : Cell) → Works one two → Works two three → Works one three
works_trans one two three first then = record {
  came = λ k. then.came k ∙ first.came k;
  sent = λ k. let a = first.sent k in let b = then.sent k in (
    a.0 ++ b.0,
    b.1 ∙ (ap (λ (xs : List Msg). xs ++ b.0) a.1 ∙ append_assoc (sent_to k one.log) a.0 b.0),
    b.2 ∙ (ap (λ (xs : List Msg). xs ++ b.0) a.2 ∙ append_assoc (picked k one.pending) a.0 b.0),
  );
}

-- What a run tells fits a tally, where no event sends more than a message to each of 256 nodes.
use Rattle.std.proofs.Common.{ℕ, ◌*◌, ◌<◌, ◌≤◌, Bool, List, [], ◌∷◌, length, arith}
use Rattle.std.specs.List.{flat_map, AllByRecursion}
use Rattle.std.proofs.lemmas.List.{length-append, length-map}
use Rattle.sparc_table.specs.declared.outcomes.Outcome.{Outcome}
use Rattle.sparc_table.specs.declared.outcomes.Outcome.TheVariants.{Done, Miss, Out, Halt, Trap}
use Rattle.alw_num.specs.Weights.{digit, weigh}
use Rattle.alw_num.proofs.Weigh.{digit_le}
use Rattle.alw_msg.specs.declared.messages.Kind.{Kind}
use Rattle.alw_msg.specs.declared.messages.Kind.TheVariants as kinds
use Rattle.alw_msg.specs.declared.messages.Msg.{Msg}
use Rattle.alw_image.specs.declared.parts.Parts.{Parts}
use Rattle.alw_image.specs.Images.{hops_between}
use Rattle.alw_model.specs.declared.steps.Did.{Did}
use Rattle.alw_model.specs.declared.steps.Did.TheVariants.{Turn, Missed, Took, Packet, Handled, Evicted}
use Rattle.alw_model.specs.Flat.{print_of}
use Rattle.alw_model.specs.Runs.{Moment, number_of, turn_in}
use Rattle.alw_model.specs.Counts.{is_turn, is_miss, is_eviction, is_handling, is_spill, uses_hold, counts_of}
use Rattle.alw_tally.specs.Counted.{brings_line, is_of_kind, CountsAreAtMost}
use Rattle.alw_tally.specs.Told.{turn_at, words_printed, told_of}
use Rattle.alw_tally.specs.Tallies.{EventIsWithin}

-- an event sends few messages, each over a short way
pub record SendsFew (parts : Parts) (moment : Moment) : Type 0 where
  pub count : length moment.stepped.sends ≤ 256
  pub hops : AllByRecursion (λ (send : ℕ × Msg). hops_between parts (number_of moment) send.0 ≤ 131072) moment.stepped.sends

digits_few : {X : Type 0} (test : X → Bool) (xs : List X) → weigh (λ x. digit (test x)) xs ≤ length xs
digits_few test [] = omega arith
digits_few test (x ∷ rest) = omega (arith, digit_le (test x), digits_few test rest)

hops_few : (hops : ℕ × Msg → ℕ) (sends : List (ℕ × Msg)) → AllByRecursion (λ (send : ℕ × Msg). hops send ≤ 131072) sends → weigh hops sends ≤ 131072 * length sends
hops_few hops [] all = omega arith
hops_few hops (send ∷ rest) all = omega (arith, all.0, hops_few hops rest all.1)

module _ (parts : Parts) where
  turn_few : (number : ℕ) (did : Did) → length (turn_in parts number did) ≤ 1
  turn_few number (Turn slot outcome) = omega arith
  turn_few number (Missed slot) = omega arith
  turn_few number Took = omega arith
  turn_few number Packet = omega arith
  turn_few number (Handled kind state) = omega arith
  turn_few number Evicted = omega arith

  turns_few : (run : List Moment) → length (flat_map (turn_at parts) run) ≤ length run
  turns_few [] = omega arith
  turns_few (moment ∷ rest) =
      omega (arith, turn_few (number_of moment) moment.stepped.did, turns_few rest, length-append (turn_at parts moment) (flat_map (turn_at parts) rest))

  print_few : (context : ℕ) (outcome : Outcome) → length (print_of context outcome) ≤ 1
  print_few context Done = omega arith
  print_few context (Miss line mode) = omega arith
  print_few context (Out word) = omega arith
  print_few context Halt = omega arith
  print_few context (Trap type) = omega arith

  words_few : (turns : List (ℕ × Outcome)) → length (words_printed turns) ≤ length turns
  words_few [] = omega arith
  words_few (turn ∷ rest) = omega (arith, print_few turn.0 turn.1, words_few rest, length-append (print_of turn.0 turn.1) (words_printed rest))

  counts_few : (run : List Moment) → AllByRecursion (SendsFew parts) run → CountsAreAtMost (33554432 * length run) (counts_of parts run)
  counts_few [] all = search arith
  counts_few (moment ∷ rest) all =
      let sends = moment.stepped.sends in
      let did = moment.stepped.did in
      let deeper = counts_few rest all.1 in
      let few = all.0.count in
      let kind = λ (k : Kind). digits_few (is_of_kind k) sends in
      let hops = hops_few (λ (send : ℕ × Msg). hops_between parts (number_of moment) send.0) sends all.0.hops in
      search (
        arith,
        few,
        hops,
        kind kinds.RREQ,
        kind kinds.WREQ,
        kind kinds.REPM,
        kind kinds.UPDATE,
        kind kinds.ACKC,
        kind kinds.RDATA,
        kind kinds.WDATA,
        kind kinds.INV,
        kind kinds.BUSY,
        digit_le (is_turn did),
        digit_le (is_miss did),
        digit_le (is_eviction did),
        digit_le (is_handling did),
        digit_le (is_spill did),
        digit_le (brings_line moment.taken),
        digit_le (uses_hold moment.before did),
      )

  pub within : (run : List Moment) → length run < 4294967296 → AllByRecursion (SendsFew parts) run → EventIsWithin (told_of parts run)
  within run fits all = record {
    entries = fits;
    turns = omega (arith, turns_few run, length-map (flat_map (turn_at parts) run) (λ (turn : ℕ × Outcome). turn.0));
    prints = omega (arith, words_few (flat_map (turn_at parts) run), turns_few run);
    counts = counts_few run all;
  }

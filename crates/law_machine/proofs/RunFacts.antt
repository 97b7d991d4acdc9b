-- What the machine invariant's induction gives of runs: no machine is stuck, contexts that have ended stay so, replies are used, and runs are bounded.
use Rattle.std.proofs.Common.{◌≡◌, ℕ, ◌+◌, ◌*◌, ◌<◌, ◌≤◌, false, Some, length, IsTrue}
use Rattle.std.specs.List.{AllByRecursion}
use Rattle.law_machine.proofs.Vocabulary.{Entry, node_count, slot_at, state, node_at, step, has_halted, is_settled, end_of, IsNext, moments, counts_of, count_holds}
use Rattle.alw_model.specs.Machine as machine
use Rattle.law_machine.specs.Endings.{has_ended, may_go_on, EvictsInTime}
use Rattle.law_machine.specs.Holds.{UsesHold}
use Rattle.law_machine.specs.Machines.{OnEveryMachine}
use Rattle.law_machine.proofs.Ended.{ended_stays, halted_stays}
use Rattle.law_machine.proofs.MachineRuns.{always_kept}
use Rattle.law_machine.proofs.Progress.{live_goes, unsettled_goes}
use Rattle.law_machine.proofs.Ends.{limit_goes}
use Rattle.law_machine.proofs.HoldCounts.{replies_used, turns_use}
use Rattle.law_machine.proofs.Lengths.{in_time_bounded, all_bounded}

pub always_live : OnEveryMachine (λ parts parameters journal machine. (n slot : ℕ) → n < node_count parts → has_ended (slot_at (node_at machine n).slots slot).status ≡ false → IsTrue (may_go_on parts parameters machine))
always_live parts image parameters are journal legal = live_goes parts image parameters are (state parts parameters journal) (always_kept parts image parameters are journal legal)

pub always_unsettled : OnEveryMachine (λ parts parameters journal machine. IsTrue (has_halted machine) → is_settled machine ≡ false → IsTrue (may_go_on parts parameters machine))
always_unsettled parts image parameters are journal legal halted isnt = unsettled_goes parts image parameters are (state parts parameters journal) (always_kept parts image parameters are journal legal) isnt

pub always_limit : OnEveryMachine (λ parts parameters journal reached. end_of parts parameters reached ≡ Some machine.Limit → IsTrue (may_go_on parts parameters reached))
always_limit parts image parameters are journal legal = limit_goes parts image parameters are (state parts parameters journal) (always_kept parts image parameters are journal legal)

pub always_ended : OnEveryMachine (λ parts parameters journal machine. (entry : Entry) → IsNext parts parameters machine entry → (n slot : ℕ) → IsTrue (has_ended (slot_at (node_at machine n).slots slot).status) →
    (slot_at (node_at (step parts parameters machine entry.event) n).slots slot).status ≡ (slot_at (node_at machine n).slots slot).status)
always_ended parts image parameters are journal legal entry next = ended_stays parts parameters (state parts parameters journal) (always_kept parts image parameters are journal legal).has.sound.standing entry.event next.enabled

pub always_halted : OnEveryMachine (λ parts parameters journal machine. (entry : Entry) → IsNext parts parameters machine entry → IsTrue (has_halted machine) → IsTrue (has_halted (step parts parameters machine entry.event)))
always_halted parts image parameters are journal legal entry next = halted_stays parts parameters (state parts parameters journal) (always_kept parts image parameters are journal legal).has.sound.standing entry.event next.enabled

pub always_used : OnEveryMachine (λ parts parameters journal machine. (counts_of parts (moments parts parameters journal)).replies ≡ (counts_of parts (moments parts parameters journal)).used + count_holds machine)
always_used parts image parameters are journal legal = replies_used parts parameters are.some_pointer image.contexts.0 journal legal

pub always_accessed : OnEveryMachine (λ parts parameters journal machine. AllByRecursion (UsesHold parts) (moments parts parameters journal))
always_accessed parts image parameters are journal legal = turns_use parts parameters are.some_pointer image.contexts.0 journal legal

pub always_in_time : OnEveryMachine (λ parts parameters journal machine. EvictsInTime parts parameters journal → length journal ≤ node_count parts * parameters.limit + 2 * (node_count parts * parts.per_node))
always_in_time parts image parameters are journal legal = in_time_bounded parts image parameters are journal legal

pub always_bounded : OnEveryMachine (λ parts parameters journal machine. length journal ≤ node_count parts * parameters.limit + (3 * (node_count parts * parameters.sets) + 2 * (node_count parts * parts.per_node)))
always_bounded = all_bounded

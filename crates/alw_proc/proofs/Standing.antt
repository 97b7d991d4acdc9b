-- What holds of a processor side is kept by what its events change.
use Rattle.std.proofs.Common.{◌≡◌, ℕ, ◌*◌, Option, Some, None, List, length, refl, arith}
use Rattle.std.proofs.lemmas.Bool.{eq-eqb}
use Rattle.alw_num.specs.declared.states.Mode.{Mode}
use Rattle.alw_num.specs.Maps.{value_at}
use Rattle.sparc_table.specs.declared.registers.Regs.{Regs}
use Rattle.alw_msg.specs.declared.contexts.Status.{Status}
use Rattle.alw_msg.specs.declared.contexts.Status.TheVariants.{Waiting}
use Rattle.alw_cache.specs.Places.{Copies}
use Rattle.alw_ctx.specs.Residents.{NodeContexts}
use Rattle.alw_model.specs.Caches.{Copy, Cache, Transactions, set_of, invalidate}
use Rattle.alw_model.specs.Contexts.{Slot, running, ran}
use Rattle.alw_model.specs.ProcessorSteps.{opened}
use Rattle.alw_proc.specs.Processors.{IsProcessor, HoldsLine, processor_from}
use Rattle.alw_proc.proofs.Keeping.{Awaits, runs_ready, runs_within, awaits_ran, awaits_opened, holds_without}

abbrev pub Held : ℕ → Cache → Type 0
Held lines cache = (set : ℕ) → HoldsLine lines (value_at cache set)

abbrev Await : List Slot → Transactions → Type 0
Await slots transactions = (line : ℕ) → Awaits slots line (value_at transactions line)

-- with other slots, cache and transactions that stand
pub stands : (number width height per_node : ℕ) (contexts contexts' : NodeContexts) (cache cache' : Copies) (transactions transactions' : Transactions)
    → IsProcessor (processor_from number width height per_node contexts cache transactions) → length contexts'.slots ≡ length contexts.slots
    → Held (width * height * per_node) cache'.copies → Await contexts'.slots transactions'
    → IsProcessor (processor_from number width height per_node contexts' cache' transactions')
stands number width height per_node contexts contexts' cache cache' transactions transactions' is size held await = record {
  width = is.width;
  height = is.height;
  per_node = is.per_node;
  number = is.number;
  slots = omega (arith, size, is.slots);
  cached = held;
  opened = await;
}

-- ---- each change

pub ran_stands : (slots : List Slot) (current slot : ℕ) (regs : Regs) (status : Status) (transactions : Transactions) → running slots current ≡ Some slot → Await slots transactions → Await (ran slots slot regs status) transactions
ran_stands slots current slot regs status transactions runs before line = awaits_ran slots slot line regs status (value_at transactions line) (runs_ready slots current slot runs) (before line)

pub missed_stands : (slots : List Slot) (current slot line : ℕ) (mode : Mode) (regs : Regs) (transactions : Transactions) → running slots current ≡ Some slot → Await slots transactions
    → Await (ran slots slot regs (Waiting (record { 0 = line }))) (opened transactions line mode slot (value_at transactions line)).0
missed_stands slots current slot line mode regs transactions runs before =
    awaits_opened slots transactions slot line mode regs (Waiting (record { 0 = line })) (runs_within slots current slot runs) (runs_ready slots current slot runs) (eq-eqb line line refl) before (value_at transactions line)

pub invalidated : (lines sets : ℕ) (cache : Cache) (line : ℕ) (o : Option Copy) → Held lines cache → Held lines (invalidate sets cache line o).0
invalidated lines sets cache line None before = before
invalidated lines sets cache line (Some copy) before = holds_without lines cache (set_of sets line) before

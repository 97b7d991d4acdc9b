-- A turn of a slot over the cache of its node.
use Rattle.std.specs.Prelude.{◌≡◌, ◌↔◌, ℕ, List, None}
use Rattle.alw_num.specs.declared.addresses.LineNo.{LineNo}
use Rattle.alw_num.specs.declared.states.Mode.{Mode}
use Rattle.sparc_table.specs.Turns.{need_of, turn_of}
use Rattle.sparc_table.specs.declared.outcomes.Outcome.{Outcome}
use Rattle.sparc_table.specs.declared.outcomes.Outcome.TheVariants.{Miss}
use Rattle.sparc_table.specs.declared.registers.Regs.{Regs}
use Rattle.sparc_exec.specs.Runs.{Seen, seen, IsRunWith, CopyIsMissing}
use Rattle.alw_cache.specs.Places.{Copies, seen_in, ArePlaced}
use Rattle.alw_model.specs.Contexts.{slot_at, ran}
use Rattle.alw_ctx.specs.Residents.{NodeContexts, left_by}
use Rattle.alw_proc.specs.declared.shared.Shared.{Shared}

-- the registers of a slot
abbrev pub regs_at : ℕ → NodeContexts → Regs
regs_at slot contexts = (slot_at contexts.slots slot).regs

-- registers and copies, as a cache that keeps no account of calls shows them
abbrev pub seen_over : Copies → Regs → Seen
seen_over cache regs = seen regs (seen_in cache) None

-- the turn has run on the slot's registers and the cache's copies, and misses exactly where its copy is missing; the slot is the current one, has no hold, and has the status that the turn left;
-- sizes stay, and before and after each copy belongs in its set
pub record SlotRuns (code : List ℕ) (slot : ℕ) (before : NodeContexts) (shared : Shared) (after : NodeContexts) (shared' : Shared) (outcome : Outcome) : Type 0 where
  pub run : IsRunWith (need_of code (regs_at slot before) shared.lines) (turn_of code (regs_at slot before) shared.lines) (seen_over shared.cache (regs_at slot before)) (seen_over shared'.cache (regs_at slot after)) outcome
  pub missed : (line : LineNo) → (mode : Mode) → (outcome ≡ Miss line mode) ↔ CopyIsMissing (need_of code (regs_at slot before) shared.lines) (seen_in shared.cache) line mode
  pub contexts : after ≡ record { slots = ran before.slots slot (regs_at slot after) (left_by (regs_at slot after) outcome); current = slot }
  pub sizes : (shared'.lines ≡ shared.lines) × (shared'.cache.sets ≡ shared.cache.sets)
  pub placed : ArePlaced shared.cache
  pub stay : ArePlaced shared'.cache

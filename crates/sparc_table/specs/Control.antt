-- Where a turn goes on: conditions, delayed transfers and annulling (SPARC V8 manual, chapter 5, control transfers, and appendix B.21, B.24, B.25 and B.27).
use Rattle.std.specs.Prelude.{ℕ, ◌+◌, ◌*◌, ◌%◌, ◌^◌, Bool, true, false, cond, not, ◌&&◌, ◌||◌, ◌==◌, List, [], ◌∷◌, get_or}
use Rattle.sparc_table.specs.Registers.{differ}
use Rattle.sparc_table.specs.Operands.{sign_extended}
use Rattle.sparc_table.specs.declared.registers.Regs.{Regs}

-- after a comparison: signed less or equal
abbrev pub is_le : Regs → Bool
is_le regs = regs.z || differ regs.n regs.v

-- signed less
abbrev pub is_less : Regs → Bool
is_less regs = differ regs.n regs.v

-- unsigned less or equal
abbrev pub is_leu : Regs → Bool
is_leu regs = regs.c || regs.z

-- conditions 0 to 15: never, e, le, l, leu, cs, neg, vs; always, ne, g, ge, gu, cc, pos, vc
abbrev pub conditions : Regs → List Bool
conditions regs =
    false ∷ regs.z ∷ is_le regs ∷ is_less regs ∷ is_leu regs ∷ regs.c ∷ regs.n ∷ regs.v ∷
    true ∷ not regs.z ∷ not (is_le regs) ∷ not (is_less regs) ∷ not (is_leu regs) ∷ not regs.c ∷ not regs.n ∷ not regs.v ∷ []

-- a condition holds
unfoldable pub holds : ℕ → Regs → Bool
holds condition regs = get_or (conditions regs) condition false

-- the normal way on: PC becomes nPC, and nPC becomes nPC + 4
abbrev pub next : Regs → Regs
next regs = record regs { pc = regs.npc; npc = (regs.npc + 4) % 2 ^ 32 }

-- a delayed transfer: the instruction at nPC comes first, and then the target
abbrev pub transfer : ℕ → Regs → Regs
transfer target regs = record regs { pc = regs.npc; npc = target }

-- `ba,a`: the target comes first, since the delay slot is annulled
abbrev pub transfer_at_once : ℕ → Regs → Regs
transfer_at_once target regs = record regs { pc = target; npc = (target + 4) % 2 ^ 32 }

-- an untaken branch that annuls: the delay slot is left out
abbrev pub skip : Regs → Regs
skip regs = record regs { pc = (regs.npc + 4) % 2 ^ 32; npc = (regs.npc + 8) % 2 ^ 32 }

-- the target of a CALL, whose 30 bits count words from the instruction on
abbrev pub call_target : ℕ → ℕ → ℕ
call_target pc disp = (pc + 4 * disp) % 2 ^ 32

-- the target of a branch, whose 22 bits are signed
abbrev pub branch_target : ℕ → ℕ → ℕ
branch_target pc disp = (pc + 4 * sign_extended 22 disp) % 2 ^ 32

-- Bicc: always with annulling goes to the target at once, a taken one goes there after its delay slot, and an untaken one leaves its delay slot out where it annuls
abbrev pub branched : Bool → ℕ → Bool → ℕ → Regs → Regs
branched annul condition taken target regs =
    cond taken
    (cond (annul && (condition == 8)) (transfer_at_once target regs) (transfer target regs))
    (cond annul (skip regs) (next regs))

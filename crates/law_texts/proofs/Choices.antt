-- Texts of one of some values are read in one way.
use Rattle.std.proofs.Common.{◌≡◌, ℕ, ◌==◌, Bool, true, false, cond, List, [], ◌∷◌, ◌++◌, refl}
use Rattle.alw_num.specs.declared.states.Mode.{Mode}
use Rattle.alw_num.specs.declared.states.Mode.TheVariants.{Read, Write}
use Rattle.alw_num.specs.declared.states.State.{State}
use Rattle.alw_num.specs.declared.states.State.TheVariants.{RO, RW, RT, WT}
use Rattle.alw_num.specs.declared.states.Meta.{Meta}
use Rattle.alw_num.specs.declared.states.Meta.TheVariants.{Normal, Progress, TrapWrite, TrapAlways}
use Rattle.alw_msg.specs.declared.messages.Kind.{Kind}
use Rattle.alw_msg.specs.declared.messages.Kind.TheVariants as kinds
use Rattle.alw_report.specs.Reports.{state_text, meta_text}
use Rattle.alw_report.specs.Names.{mode_text, kind_text}
use Rattle.alw_save.specs.Lines.{flag_digit}
use Rattle.law_texts.proofs.Readings.{Tells, chosen, byte_at}

-- a condition code
pub one_flag : (one other : Bool) → Tells (one ≡ other) (flag_digit one ∷ []) (flag_digit other ∷ [])
one_flag = chosen (λ set. flag_digit set ∷ []) (λ t. byte_at 0 t == 49) reads
  where
    reads : (set : Bool) (u : List ℕ) → (byte_at 0 ((flag_digit set ∷ []) ++ u) == 49) ≡ set
    reads true u = refl
    reads false u = refl

abbrev mode_of : List ℕ → Mode
mode_of text = cond (byte_at 0 text == 114) Read Write

pub one_mode : (one other : Mode) → Tells (one ≡ other) (mode_text one) (mode_text other)
one_mode = chosen mode_text mode_of reads
  where
    reads : (m : Mode) (u : List ℕ) → mode_of (mode_text m ++ u) ≡ m
    reads Read u = refl
    reads Write u = refl

abbrev kind_of : List ℕ → Kind
kind_of text =
    cond (byte_at 0 text == 82) (cond (byte_at 1 text == 82) kinds.RREQ (cond (byte_at 1 text == 69) kinds.REPM kinds.RDATA))
    (cond (byte_at 0 text == 87) (cond (byte_at 1 text == 82) kinds.WREQ kinds.WDATA)
    (cond (byte_at 0 text == 85) kinds.UPDATE (cond (byte_at 0 text == 65) kinds.ACKC (cond (byte_at 0 text == 73) kinds.INV kinds.BUSY))))

pub one_kind : (one other : Kind) → Tells (one ≡ other) (kind_text one) (kind_text other)
one_kind = chosen kind_text kind_of reads
  where
    reads : (k : Kind) (u : List ℕ) → kind_of (kind_text k ++ u) ≡ k
    reads kinds.RREQ u = refl
    reads kinds.WREQ u = refl
    reads kinds.REPM u = refl
    reads kinds.UPDATE u = refl
    reads kinds.ACKC u = refl
    reads kinds.RDATA u = refl
    reads kinds.WDATA u = refl
    reads kinds.INV u = refl
    reads kinds.BUSY u = refl

abbrev state_of : List ℕ → State
state_of text = cond (byte_at 0 text == 82) (cond (byte_at 1 text == 79) RO (cond (byte_at 1 text == 87) RW RT)) WT

pub one_state : (one other : State) → Tells (one ≡ other) (state_text one) (state_text other)
one_state = chosen state_text state_of reads
  where
    reads : (s : State) (u : List ℕ) → state_of (state_text s ++ u) ≡ s
    reads RO u = refl
    reads RW u = refl
    reads RT u = refl
    reads WT u = refl

abbrev meta_of : List ℕ → Meta
meta_of text = cond (byte_at 0 text == 110) Normal (cond (byte_at 0 text == 112) Progress (cond (byte_at 5 text == 119) TrapWrite TrapAlways))

pub one_meta : (one other : Meta) → Tells (one ≡ other) (meta_text one) (meta_text other)
one_meta = chosen meta_text meta_of reads
  where
    reads : (m : Meta) (u : List ℕ) → meta_of (meta_text m ++ u) ≡ m
    reads Normal u = refl
    reads Progress u = refl
    reads TrapWrite u = refl
    reads TrapAlways u = refl

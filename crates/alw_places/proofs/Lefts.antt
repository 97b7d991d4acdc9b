-- What code says of a turn on one line is its effect on the memory.
use Rattle.std.proofs.Common.{◌≡◌, ℕ, ◌<◌, false, Some, None, IfSome, List, length, slice_index_or, sym, ap, ◌∙◌, subst}
use Rattle.std.specs.Prelude.{Option}
use Rattle.alw_num.specs.declared.addresses.Line.{Line}
use Rattle.alw_num.specs.declared.addresses.LineNo.{LineNo}
use Rattle.alw_num.specs.declared.states.Mode.{Mode}
use Rattle.alw_num.specs.declared.states.Mode.TheVariants.{Read, Write}
use Rattle.sparc_table.specs.Turns.{need_of, turn_of}
use Rattle.sparc_table.specs.declared.registers.Regs.{Regs}
use Rattle.sparc_table.specs.declared.outcomes.Outcome.{Outcome}
use Rattle.sparc_table.specs.declared.outcomes.Need.{Need}
use Rattle.sparc_table.specs.declared.outcomes.Need.TheVariants as needs
use Rattle.alw_image.specs.declared.parts.Parts.{Parts}
use Rattle.alw_image.specs.Images.{line_count, zero_line}
use Rattle.alw_places.specs.declared.turns.Left.{Left}
use Rattle.alw_places.specs.Places.{needs_copy}
use Rattle.alw_places.specs.Effects.{Effect, effect_by, effect_of, written, LeftOn, LeftAlone}

-- what code says is left, as an effect
abbrev effect_left : List Line → Left → Effect
effect_left memory left = record { memory = written memory left.wrote; regs = left.regs; outcome = left.outcome }

pub effect_on : (parts : Parts) (memory : List Line) (regs : Regs) (line : LineNo) (mode : Mode) (left : Left) → need_of parts.code regs (line_count parts) ≡ needs.Copy line mode
    → LeftOn (turn_of parts.code regs (line_count parts) (slice_index_or memory line.0 zero_line)) line mode left → effect_of parts memory regs ≡ effect_left memory left
unfolding effect_of effect_by
effect_on parts memory regs line Read left e is = ap (effect_by parts memory regs) e ∙ (λ i. record { memory = written memory (sym is.1 i); regs = sym is.0 i; outcome = sym is.2 i })
effect_on parts memory regs line Write left e is = ap (effect_by parts memory regs) e ∙ (λ i. record { memory = written memory (sym is.1 i); regs = sym is.0 i; outcome = sym is.2 i })

pub effect_alone : (parts : Parts) (memory : List Line) (regs : Regs) (left : Left) (need : Need) → needs_copy need ≡ false → need_of parts.code regs (line_count parts) ≡ need
    → LeftAlone (turn_of parts.code regs (line_count parts) zero_line) left → effect_of parts memory regs ≡ effect_left memory left
unfolding effect_of effect_by
effect_alone parts memory regs left needs.Nothing none e is = ap (effect_by parts memory regs) e ∙ (λ i. record { memory = written memory (sym is.1 i); regs = sym is.0 i; outcome = sym is.2 i })
effect_alone parts memory regs left (needs.Trap tt) none e is = ap (effect_by parts memory regs) e ∙ (λ i. record { memory = written memory (sym is.1 i); regs = sym is.0 i; outcome = sym is.2 i })
effect_alone parts memory regs left (needs.Copy line mode) none e is = absurd (cc)

within_some : (wrote : Option (LineNo × Line)) (line : LineNo) (value : Line) (n : ℕ) → line.0 < n → wrote ≡ Some (line, value) → IfSome wrote (λ w. w.0.0 < n)
within_some wrote line value n here e = subst (λ (w : Option (LineNo × Line)). IfSome w (λ x. x.0.0 < n)) (sym e) here

within_none : (wrote : Option (LineNo × Line)) (n : ℕ) → wrote ≡ None → IfSome wrote (λ w. w.0.0 < n)
within_none wrote n e = subst (λ (w : Option (LineNo × Line)). IfSome w (λ x. x.0.0 < n)) (sym e) tt

pub wrote_within : (done : Regs × Line × Outcome) (line : LineNo) (mode : Mode) (left : Left) (memory : List Line) → line.0 < length memory → LeftOn done line mode left → IfSome left.wrote (λ w. w.0.0 < length memory)
wrote_within done line Read left memory here is = within_none left.wrote (length memory) is.1
wrote_within done line Write left memory here is = within_some left.wrote line done.1 (length memory) here is.1

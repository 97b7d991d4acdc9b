-- The line that the turn needed exists after it too, and what was read is of the turn.
use Rattle.std.proofs.Common.{◌≡◌, ℕ, sym, ap, subst, ◌∙◌}
use Rattle.sparc_table.specs.declared.outcomes.Need.{Need}
use Rattle.alw_image.specs.Images.{line_count}
use Rattle.alw_flat.specs.Machines.{FlatMachine}
use Rattle.alw_model.specs.Flat.{context_at}
use Rattle.alw_effects.specs.declared.before.SlotBefore.{SlotBefore}
use Rattle.alw_effects.specs.Before.{IsLineOf}
use Rattle.alw_effects.proofs.Needs.{line_exists}
use Rattle.alw_claims.proofs.logs.put_turn.Goals as goal

pub bytes_in-body-requires : goal.bytes_in-body-requires
bytes_in-body-requires c =
    let image = c.args.image.now in
    let regs = (context_at c.args.flat.now.flat c.args.context).regs in
    let need : c.look-before.result.need ≡ _ = ap (λ (b : SlotBefore). b.need) c.look-before.ensures in
    let lines : line_count c.turn-outcome.new.self.parts ≡ line_count image = ap (λ (f : FlatMachine). line_count f.parts) c.turn-outcome.ensures.state ∙ ap line_count c.requires.parts in
    subst (λ (k : ℕ). IsLineOf k c.look-before.result.need) (sym lines)
    (subst (λ (n : Need). IsLineOf (line_count image) n) (sym need) (line_exists image.code regs (line_count image)))

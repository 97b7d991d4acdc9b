-- Nothing has come, no eviction is tried and no packet waits: the instruction is picked.
use Rattle.std.proofs.Common.{◌≡◌, Bool, true, false, not, refl, sym, ap, subst, ◌∙◌}
use Rattle.std.proofs.lemmas.Bool.{true≢false, eqb-true}
use Rattle.alw_msg.specs.Lists.{is_nonempty}
use Rattle.alw_image.specs.Parameters.{Parameters}
use Rattle.alw_ready.specs.Rows.{instr_at}
use Rattle.alw_cells.specs.Cells.{Cell}
use Rattle.alw_cells.specs.Choice.{may_happen}
use Rattle.alw_cells.specs.Keeping.{AreSenders}
use Rattle.alw_cells.proofs.Choosing.{picks_instr}
use Rattle.alw_cells.proofs.cells.NodeCell.is_alone.Goals.{then-is_empty, else-is_empty, then-evict-eq0, else-evict-eq0}
use Rattle.alw_cells.proofs.cells.NodeCell.is_alone.Goals as goal

pub returns-then-not-has_packet : goal.returns-then-not-has_packet
returns-then-not-has_packet c = λ holds number.
    let own = c.number-node.ensures.number ∙ ap (λ (v : Cell). v.node.number) c.self.view_is in
    elim c.if-evict-eq0.branch [
      | then-evict-eq0 w ↦ elim c.if-is_empty.branch [
        | then-is_empty v ↦
            let are = subst (λ (v : Cell). AreSenders v.come c.self.inside.senders) c.self.view_is c.self.invariant.kept.sent_by in
            let quiet = ap (λ (v : Cell). is_nonempty v.node.state.packets) (sym c.self.view_is) ∙ (sym w.has_packet.ensures ∙ is_not w.has_packet.result (sym w.value-is ∙ c.if-not-has_packet.true)) in
            let untried = ap (λ (v : Cell). v.node.parameters.evict) (sym c.self.view_is) ∙ (ap (λ (p : Parameters). p.evict) (sym v.params.ensures) ∙ (sym v.evict.ensures.value ∙ eqb-true v.evict.result 0 (sym v.value-is ∙ w.if-evict-eq0.true))) in
            picks_instr c.args.self.now c.self.inside.senders number are (c.is_empty.ensures.0 v.if-is_empty.true) quiet untried
            (ap (λ n. may_happen c.args.self.now (instr_at n)) (sym own) ∙ (sym c.may.ensures ∙ holds))
        | else-is_empty v ↦ absurd (true≢false (sym w.if-evict-eq0.true ∙ (v.value-is ∙ v.if-is_empty.false)))
      ]
      | else-evict-eq0 w ↦ absurd (true≢false (sym c.if-not-has_packet.true ∙ (w.value-is ∙ w.if-evict-eq0.false)))
    ]
  where
    is_not : (b : Bool) → not b ≡ true → b ≡ false
    is_not true is = absurd (cc)
    is_not false is = refl

-- The machine that hasn't begun takes the journal.
use Rattle.std.proofs.Common.{◌≡◌, None, sym, ap, subst, ◌∙◌}
use Rattle.alw_model.specs.Machine.{IsLegal}
use Rattle.alw_model.specs.Runs.{moments}
use Rattle.alw_model.specs.Ends as ends
use Rattle.alw_mesh.specs.Histories.{History, begun}
use Rattle.alw_mesh.proofs.Trapped.{nothing_told}
use Rattle.alw_mesh.proofs.joins.first_trap.Goals as goal

pub tell_all-requires-clause-begun : goal.tell_all-requires-clause-begun
tell_all-requires-clause-begun c = c.in_ok-machine.ensures ∙ sym (ap (λ (h : History). begun h.image h.parameters) c.in_ok-machine.ensures)

pub tell_all-requires-clause-legal : goal.tell_all-requires-clause-legal
tell_all-requires-clause-legal c = subst (λ (h : History). IsLegal h.image h.parameters c.args.journal.now) (sym c.in_ok-machine.ensures) c.requires

pub tell_all-requires-clause-told : goal.tell_all-requires-clause-told
tell_all-requires-clause-told c =
    subst (λ (h : History). None ≡ ends.first_trap 0 (moments h.image h.parameters h.journal)) (sym c.in_ok-machine.ensures) (sym (nothing_told c.args.image.now c.args.params.now))

pub returns : goal.returns
returns c = c.in_ok-tell_all.ensures ∙ ap (λ (h : History). ends.first_trap 0 (moments h.image h.parameters c.args.journal.now)) c.in_ok-machine.ensures

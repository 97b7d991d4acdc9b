-- A node has one transaction, or none.
use Rattle.std.proofs.Common.{◌∷◌, [], sym, ap, ◌∙◌, length, arith}
use Rattle.alw_num.specs.Maps.{value_at}
use Rattle.alw_model.specs.Machine.{node_at}
use Rattle.alw_mesh.specs.Histories.{state_of}
use Rattle.alw_laws.specs.Views.{Opened}
use Rattle.alw_laws.specs.Shown.{transactions_of}
use Rattle.alw_laws.proofs.Collected.{gathers, passes_by, few_more, transaction_there, transaction_absent}
use Rattle.alw_laws.proofs.showing.transactions.Goals as goal
use Rattle.alw_laws.proofs.showing.transactions.Goals.{in-Some+in_ok-push, in_default}

pub loop-n-preserved : goal.loop-n-preserved
loop-n-preserved c =
    let h = c.args.machine.now in
    let n = c.loop-n.n in
    let own = transactions_of (state_of h) c.args.line.0 in
    let open_there = value_at (node_at (state_of h) n).transactions c.args.line.0 in
    elim c.match-pending.branch [
      | in-Some+in_ok-push w ↦
          let opened : Opened = (record { 0 = n }, w.in-Some.mode) in
          record {
            gathered = w.transactions-is ∙ (w.in_ok-push.ensures.ok ∙ gathers own n c.loop-n.transactions (opened ∷ []) c.loop-n.invariant.gathered
                (transaction_there n open_there w.in-Some.mode (sym c.pending.ensures ∙ w.in-Some.is)));
            few = few_more own n c.loop-n.transactions _ opened (w.transactions-is ∙ w.in_ok-push.ensures.ok) c.loop-n.invariant.few;
          }
      | in_default w ↦ record {
        gathered = w.transactions-is ∙ passes_by own n c.loop-n.transactions c.loop-n.invariant.gathered (transaction_absent n open_there (sym c.pending.ensures ∙ w.in_default.is));
        few = omega (arith, ap length w.transactions-is, c.loop-n.invariant.few);
      }
    ]

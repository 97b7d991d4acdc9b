-- The lines up to the next one that is waited on have no transaction.
use Rattle.std.proofs.Common.{ℕ, List, ◌++◌, sym, ap, ◌∙◌, arith}
use Rattle.alw_mesh.specs.Readings.{node_in}
use Rattle.alw_save.specs.Lines.{pending_line}
use Rattle.alw_save.specs.Waiting.{transaction_of}
use Rattle.alw_save.proofs.Keys.{from_start, skip_to, key_done, all_done}
use Rattle.alw_save.proofs.Held.{none_before, none_at_all, next_exists, told_transaction, few_lines}
use Rattle.alw_save.proofs.maps.put_transactions.Goals as goal

pub loop-line-init : goal.loop-line-init
loop-line-init c = record {
  few = omega arith;
  text = ap (λ (t : List ℕ). c.args.text.now ++ t) (from_start pending_line (node_in c.args.machine.now c.args.n.0).transactions);
}

pub loop-line-preserved : goal.loop-line-preserved
loop-line-preserved c =
    let h = c.args.machine.now in
    let run = c.journal-run.ensures.run in
    let map = (node_in h c.args.n.0).transactions in
    let from = c.loop-line.from in
    let line = c.in-Some.line.0 in
    let is = sym c.in-Some.ensures.lowest in
    let exists = next_exists h run c.args.n.0 c.requires from line is in
    record {
      few = omega (arith, exists.1);
      text = key_done pending_line map _ _ line _ _
          (skip_to pending_line map _ _ from line exists.0 (none_before h run c.args.n.0 c.requires from line is) c.loop-line.invariant.text)
          c.in_ok-put_transaction.ensures ((λ i. transaction_of (c.pending.ensures i) (c.opener.ensures i)) ∙ told_transaction _);
    }

pub loop-line-smaller : goal.loop-line-smaller
loop-line-smaller c =
    let exists = next_exists c.args.machine.now c.journal-run.ensures.run c.args.n.0 c.requires c.loop-line.from c.in-Some.line.0 (sym c.in-Some.ensures.lowest) in
    omega (arith, exists.0, exists.1)

pub overflow_add-from : goal.overflow_add-from
overflow_add-from c =
    let exists = c.in-Some.ensures.exists in
    omega (arith, exists, few_lines c.args.machine.now c.journal-run.ensures.run)

pub returns : goal.returns
returns c =
    let h = c.args.machine.now in
    all_done pending_line (node_in h c.args.n.0).transactions _ _ c.loop-line.from
    (none_at_all h c.journal-run.ensures.run c.args.n.0 c.requires c.loop-line.from (sym c.in_default.ensures.lowest)) c.loop-line.invariant.text

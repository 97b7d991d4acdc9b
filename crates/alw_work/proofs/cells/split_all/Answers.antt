-- One cell more gives its parts.
use Rattle.std.proofs.Common.{◌≡◌, ◌<◌, ◌^◌, length, refl, arith}
use Rattle.std.proofs.lemmas.List.{length-map}
use Rattle.alw_cells.specs.Cells.{Cell}
use Rattle.alw_cells.specs.Logs.{Written, logged}
use Rattle.alw_work.proofs.Leaving.{logs_next, made_next, made_few, made_all}
use Rattle.alw_work.proofs.cells.split_all.Goals as goal

pub loop-cell-init : goal.loop-cell-init
loop-cell-init c =
    rw (c.empty-logs.ensures, c.empty-nodes.ensures, c.empty-did_lists.ensures, c.into_iter-cell-iterator.ensures.into_iter_gives.0)
    (record { logs = refl; nodes = refl; dids = refl })

pub push-requires : goal.push-requires
push-requires c =
    let are = rw c.in-Some.ensures.steps.0 at c.loop-cell.invariant in
    let few : length c.args.cells.items < 2 ^ 32 = omega (arith, c.requires, c.args.cells.ok.0) in
    let less = made_few (λ (cell : Cell). cell.log) (logged c.loop-cell.logs) c.in-Some.cell c.next.new.self.rest.items c.args.cells.items are.logs few in
    omega (arith, less, length-map c.loop-cell.logs (λ (log : Written). log.entries))

pub push-requires-in-loop-cell : goal.push-requires-in-loop-cell
push-requires-in-loop-cell c =
    let are = rw c.in-Some.ensures.steps.0 at c.loop-cell.invariant in
    made_few (λ (cell : Cell). cell.node) c.loop-cell.nodes c.in-Some.cell c.next.new.self.rest.items c.args.cells.items are.nodes
    (omega (arith, c.requires, c.args.cells.ok.0))

pub push-requires-in-loop-cell-2 : goal.push-requires-in-loop-cell-2
push-requires-in-loop-cell-2 c =
    let are = rw c.in-Some.ensures.steps.0 at c.loop-cell.invariant in
    made_few (λ (cell : Cell). cell.dids) c.loop-cell.did_lists c.in-Some.cell c.next.new.self.rest.items c.args.cells.items are.dids
    (omega (arith, c.requires, c.args.cells.ok.0))

pub loop-cell-preserved : goal.loop-cell-preserved
loop-cell-preserved c =
    let are = rw c.in-Some.ensures.steps.0 at c.loop-cell.invariant in
    let parts = c.split-node.ensures.parts in
    let cell = c.in-Some.cell in
    let rest = c.next.new.self.rest.items in
    let all = c.args.cells.items in
    rw (c.in_ok-push.ensures.ok, c.in_ok-push-2.ensures.ok, c.in_ok-push-3.ensures.ok) (record {
      logs = logs_next c.loop-cell.logs c.split-node.result.log cell rest all are.logs parts.log;
      nodes = made_next (λ (k : Cell). k.node) c.loop-cell.nodes c.split-node.result.node cell rest all are.nodes parts.node;
      dids = made_next (λ (k : Cell). k.dids) c.loop-cell.did_lists c.split-node.result.dids cell rest all are.dids parts.dids;
    })

pub returns : goal.returns
returns c =
    let rest = c.loop-cell.cell-iterator.rest.items in
    let all = c.args.cells.items in
    let none : length rest ≡ 0 = omega (arith, c.in-None.ensures.steps.0, c.loop-cell.cell-iterator.rest.ok.0) in
    record {
      logs = made_all (λ (k : Cell). k.log) (logged c.loop-cell.logs) rest all none c.loop-cell.invariant.logs;
      nodes = made_all (λ (k : Cell). k.node) c.loop-cell.nodes rest all none c.loop-cell.invariant.nodes;
      dids = made_all (λ (k : Cell). k.dids) c.loop-cell.did_lists rest all none c.loop-cell.invariant.dids;
    }

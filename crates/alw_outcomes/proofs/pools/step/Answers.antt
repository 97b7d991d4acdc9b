-- A turn by numbers is a turn.
use Rattle.alw_outcomes.specs.declared.pools.Pools.{Pools}
use Rattle.alw_outcomes.proofs.Pooling.{stepped_read}
use Rattle.alw_outcomes.proofs.pools.step.Goals as goal

pub returns-clause-grow : goal.returns-clause-grow
returns-clause-grow c =
    let after : Pools = record {
      seats = c.number_in.new.pool;
      links = c.list_after.new.links;
      memories = c.memory_after.new.memories;
      by_seat = c.number_in.new.table;
      by_link = c.list_after.new.table;
      by_memory = c.memory_after.new.table;
    } in
    (stepped_read c.args.image.now c.args.pools.now after c.args.at c.index.result.now c.index-2.result.now c.run-left.result c.left_by-status.result c.in_ok-list.list c.in_ok-number.number
    c.in_ok-memory.memory
    c.requires.at c.requires.pools c.index.ensures c.index-2.ensures c.run-left.ensures.effect c.in_ok-list.ensures.links c.in_ok-list.ensures.words c.left_by-status.ensures
    c.in_ok-number.ensures.number c.in_ok-memory.ensures.memory c.in_ok-number.ensures.indexed c.in_ok-list.ensures.indexed c.in_ok-memory.ensures.indexed).grow

pub returns-clause-inside : goal.returns-clause-inside
returns-clause-inside c =
    let after : Pools = record {
      seats = c.number_in.new.pool;
      links = c.list_after.new.links;
      memories = c.memory_after.new.memories;
      by_seat = c.number_in.new.table;
      by_link = c.list_after.new.table;
      by_memory = c.memory_after.new.table;
    } in
    (stepped_read c.args.image.now c.args.pools.now after c.args.at c.index.result.now c.index-2.result.now c.run-left.result c.left_by-status.result c.in_ok-list.list c.in_ok-number.number
    c.in_ok-memory.memory
    c.requires.at c.requires.pools c.index.ensures c.index-2.ensures c.run-left.ensures.effect c.in_ok-list.ensures.links c.in_ok-list.ensures.words c.left_by-status.ensures
    c.in_ok-number.ensures.number c.in_ok-memory.ensures.memory c.in_ok-number.ensures.indexed c.in_ok-list.ensures.indexed c.in_ok-memory.ensures.indexed).inside

pub returns-clause-turn : goal.returns-clause-turn
returns-clause-turn c =
    let after : Pools = record {
      seats = c.number_in.new.pool;
      links = c.list_after.new.links;
      memories = c.memory_after.new.memories;
      by_seat = c.number_in.new.table;
      by_link = c.list_after.new.table;
      by_memory = c.memory_after.new.table;
    } in
    (stepped_read c.args.image.now c.args.pools.now after c.args.at c.index.result.now c.index-2.result.now c.run-left.result c.left_by-status.result c.in_ok-list.list c.in_ok-number.number
    c.in_ok-memory.memory
    c.requires.at c.requires.pools c.index.ensures c.index-2.ensures c.run-left.ensures.effect c.in_ok-list.ensures.links c.in_ok-list.ensures.words c.left_by-status.ensures
    c.in_ok-number.ensures.number c.in_ok-memory.ensures.memory c.in_ok-number.ensures.indexed c.in_ok-list.ensures.indexed c.in_ok-memory.ensures.indexed).turn

pub returns-clause-outcome : goal.returns-clause-outcome
returns-clause-outcome c =
    let after : Pools = record {
      seats = c.number_in.new.pool;
      links = c.list_after.new.links;
      memories = c.memory_after.new.memories;
      by_seat = c.number_in.new.table;
      by_link = c.list_after.new.table;
      by_memory = c.memory_after.new.table;
    } in
    (stepped_read c.args.image.now c.args.pools.now after c.args.at c.index.result.now c.index-2.result.now c.run-left.result c.left_by-status.result c.in_ok-list.list c.in_ok-number.number
    c.in_ok-memory.memory
    c.requires.at c.requires.pools c.index.ensures c.index-2.ensures c.run-left.ensures.effect c.in_ok-list.ensures.links c.in_ok-list.ensures.words c.left_by-status.ensures
    c.in_ok-number.ensures.number c.in_ok-memory.ensures.memory c.in_ok-number.ensures.indexed c.in_ok-list.ensures.indexed c.in_ok-memory.ensures.indexed).outcome_is

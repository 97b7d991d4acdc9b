-- The start alone.
use Rattle.std.proofs.Common.{false}
use Rattle.alw_outcomes.specs.declared.pools.Pools.{Pools}
use Rattle.alw_outcomes.specs.declared.explored.Explored.{Explored}
use Rattle.alw_outcomes.specs.Digests.{link_digest}
use Rattle.alw_outcomes.proofs.Indexing.{index_none}
use Rattle.alw_outcomes.proofs.Rows.{row_put_first}
use Rattle.alw_outcomes.proofs.Storing.{SearchIsBegun, AreTables, start_stored, start_real}
use Rattle.alw_outcomes.proofs.explored.start.Goals as goal

pub returns-clause-stored : goal.returns-clause-stored
returns-clause-stored c =
    let pools : Pools = record {
      seats = c.seats_at_start.new.seats;
      links = c.empty-pools.result.links;
      memories = c.number_in.new.pool;
      by_seat = c.seats_at_start.new.table;
      by_link = c.empty-pools.result.by_link;
      by_memory = c.number_in.new.table;
    } in
    let found : Explored = record {
      width = c.contexts_of.result;
      classes = c.in_ok-to_vec.field-0;
      pools = pools;
      leads = c.empty.result;
      memories = c.push.new.self;
      rows = c.in_ok-rows.rows;
      by_row = c.add.new.self;
      origins = c.push-2.new.self;
      halted = c.new.result;
      trapped = c.new-2.result;
      broken = c.new-3.result;
      is_complete = false;
    } in
    let begun : SearchIsBegun c.args.image.now found c.in_ok-memory.memory c.in_ok-number.number = record {
      width = c.contexts_of.ensures;
      numbered = rw c.empty-pools.ensures.lists.2 at c.in_ok-number.ensures.number;
      memory_is = rw c.lines_of.ensures at c.in_ok-memory.ensures;
      start = c.in_ok-rows.ensures.seats;
      links = c.empty-pools.ensures.lists.1;
      memories = rw c.new-memories.ensures.items at c.in_ok-push.ensures.items;
    } in
    let tables : AreTables found c.in_ok-number.number = record {
      by_seat = c.in_ok-rows.ensures.indexed;
      by_link = index_none link_digest c.empty-pools.result.links.items c.empty-pools.result.by_link c.empty-pools.ensures.lists.1 c.empty-pools.ensures.tables.1;
      by_memory = c.in_ok-number.ensures.indexed;
      by_row =
          row_put_first c.empty-by_row.result c.add.new.self c.digest_of.result c.in_ok-number.number c.deref.result.now c.in_ok-rows.rows.items c.empty-by_row.ensures c.in_ok-add.ensures
          c.digest_of.ensures c.deref.ensures.value;
    } in
    start_stored c.args.image.now found c.in_ok-memory.memory c.in_ok-number.number begun tables c.new-3.ensures.items c.empty.ensures

pub returns-clause-real : goal.returns-clause-real
returns-clause-real c =
    let pools : Pools = record {
      seats = c.seats_at_start.new.seats;
      links = c.empty-pools.result.links;
      memories = c.number_in.new.pool;
      by_seat = c.seats_at_start.new.table;
      by_link = c.empty-pools.result.by_link;
      by_memory = c.number_in.new.table;
    } in
    let found : Explored = record {
      width = c.contexts_of.result;
      classes = c.in_ok-to_vec.field-0;
      pools = pools;
      leads = c.empty.result;
      memories = c.push.new.self;
      rows = c.in_ok-rows.rows;
      by_row = c.add.new.self;
      origins = c.push-2.new.self;
      halted = c.new.result;
      trapped = c.new-2.result;
      broken = c.new-3.result;
      is_complete = false;
    } in
    let begun : SearchIsBegun c.args.image.now found c.in_ok-memory.memory c.in_ok-number.number = record {
      width = c.contexts_of.ensures;
      numbered = rw c.empty-pools.ensures.lists.2 at c.in_ok-number.ensures.number;
      memory_is = rw c.lines_of.ensures at c.in_ok-memory.ensures;
      start = c.in_ok-rows.ensures.seats;
      links = c.empty-pools.ensures.lists.1;
      memories = rw c.new-memories.ensures.items at c.in_ok-push.ensures.items;
    } in
    start_real c.args.image.now found c.in_ok-memory.memory c.in_ok-number.number begun _ (rw c.new-origins.ensures.items at c.in_ok-push-2.ensures.items) c.new.ensures.items c.new-2.ensures.items

-- The invariants as tests that compute: of a line, of a machine, and after each entry of a journal.
use Rattle.std.specs.Prelude.{ℕ, ◌*◌, Bool, not, ◌&&◌, ◌||◌, ◌==◌, nat_le, List, [], ◌∷◌, length}
use Rattle.std.specs.List.{list_all, range_with_len}
use Rattle.alw_msg.specs.declared.events.Entry.{Entry}
use Rattle.alw_image.specs.declared.parts.Parts.{Parts}
use Rattle.alw_image.specs.Images.{node_count, line_count}
use Rattle.alw_image.specs.Parameters.{Parameters}
use Rattle.alw_model.specs.LimitLess.{Directory}
use Rattle.alw_model.specs.Machine.{MachineState, machine_start, node_at, link_at, has_halted, step}
use Rattle.alw_model.specs.Lines.{LineState, line_of, entry_of, packets_at, ups}
use Rattle.alw_model.specs.LineInvariant as line
use Rattle.alw_model.specs.MachineInvariant.{points_rightly, slot_fits, transaction_stands, links_rightly, packed_rightly, caches_rightly, sizes_fit, left_to_do, most_to_do}

-- the clauses of the line invariant at a node
abbrev pub is_sound_at : ℕ → LineState → ℕ → Bool
is_sound_at count s i =
    line.transaction_fits s i && (line.debt_fits s i && (line.carrier_fits count s i && (line.current_fits count s i && (line.sharer_fits s i
    && (line.order_fits (s.node i) && line.single_by (s.node i).transaction (s.node i))))))

-- the line invariant
abbrev pub is_sound_line : ℕ → LineState → Directory → ℕ → Bool
is_sound_line count s entry pending = line.counter_fits count s && (line.software_fits entry pending && list_all (is_sound_at count s) (range_with_len 0 count))

-- the clauses of the machine invariant at a line
abbrev pub is_sound_in : Parts → Parameters → MachineState → ℕ → Bool
is_sound_in parts parameters machine l =
    is_sound_line (node_count parts) (line_of parts parameters machine l) (entry_of parts machine l) (length (ups l (packets_at parts machine l))) && points_rightly parts parameters (entry_of parts machine l)

-- at a node
abbrev pub is_sound_node : Parts → Parameters → MachineState → ℕ → Bool
is_sound_node parts parameters machine n =
    let node = node_at machine n in
    list_all (slot_fits parts parameters node) node.slots && (list_all (transaction_stands parts node) node.transactions.entries && (list_all (packed_rightly parts n node) node.packets
    && (list_all (caches_rightly parts parameters) node.cache.entries && ((nat_le node.clock parameters.limit || has_halted machine) && (sizes_fit parts node
    && list_all (λ to. list_all (links_rightly parts machine n to) (link_at parts machine n to)) (range_with_len 0 (node_count parts)))))))

-- the machine invariant
abbrev pub is_sound : Parts → Parameters → MachineState → Bool
is_sound parts parameters machine =
    list_all (is_sound_in parts parameters machine) (range_with_len 0 (line_count parts)) && (list_all (is_sound_node parts parameters machine) (range_with_len 0 (node_count parts))
    && ((not (has_halted machine) || nat_le (left_to_do machine) (most_to_do parts parameters))
    && (length machine.nodes == node_count parts && (length machine.links == node_count parts * node_count parts))))

-- the machine invariant now, and after each of these entries
abbrev pub is_sound_along : Parts → Parameters → MachineState → List Entry → Bool
is_sound_along parts parameters machine [] = is_sound parts parameters machine
is_sound_along parts parameters machine (entry ∷ rest) = is_sound parts parameters machine && is_sound_along parts parameters (step parts parameters machine entry.event) rest

-- the machine invariant after each entry of a journal
abbrev pub stays_sound : Parts → Parameters → List Entry → Bool
stays_sound parts parameters journal = is_sound_along parts parameters (machine_start parts) journal

-- A memory side stands at the start.
use Rattle.std.proofs.Common.{◌≡◌, ℕ, zero, suc, ◌+◌, ◌*◌, ◌<◌, ◌≤◌, Bool, true, false, Some, None, List, [], map, refl, sym, ap, ◌∙◌, subst, ◌⊎◌, inl, inr}
use Rattle.std.proofs.Common.{arith}
use Rattle.std.proofs.lemmas.Bool.{cases_lt}
use Rattle.std.proofs.lemmas.List.FromFn.{length-map-range_with_len, get_or-map-range_with_len}
use Rattle.std.proofs.Math.ListN.{get_or-eq_default}
use Rattle.std.proofs.Math.Nat.{mul-le-mul}
use Rattle.std.specs.List.{range_with_len}
use Rattle.alw_num.specs.NodeSets.{no_nodes}
use Rattle.alw_num.specs.Weights.{weigh}
use Rattle.alw_num.specs.Maps.{empty_map}
use Rattle.alw_num.proofs.MapLaws.{value-empty}
use Rattle.alw_num.specs.declared.addresses.Line.{Line}
use Rattle.alw_image.specs.declared.parts.Parts.{Parts}
use Rattle.alw_image.specs.Images.{IsImage, node_count, body_of, is_always, zero_line}
use Rattle.alw_image.specs.Parameters.{Parameters, AreParameters}
use Rattle.alw_model.specs.LimitLess.{Directory, directory_start}
use Rattle.alw_model.specs.Sides.{Memory, entry_at}
use Rattle.alw_model.specs.NodeStates.{homes_start, node_start, memory_of}
use Rattle.law_entry.proofs.Soundness.{start_sound}
use Rattle.law_entry.proofs.Pointers.{no_points}
use Rattle.dir_soft.specs.Tables.{Table, set_or_none, set_of_line, table_of}
use Rattle.alw_memory.specs.Memories.{IsMemory, Stands, progress_of}
use Rattle.alw_memory.specs.Lines.{IsSoftTable, entries_from, line_start, lines_start}

abbrev started : Parts → ℕ → Directory
started parts line = directory_start (body_of parts line) (is_always parts line)

-- home lines at the start, with an empty table, are the entries at the start
entries_start : (parts : Parts) (line n : ℕ) (table : Table) → ((l : ℕ) → set_of_line table l ≡ no_nodes)
    → entries_from line (map (line_start parts) (range_with_len line n)) table ≡ map (λ l. directory_start (body_of parts l) (is_always parts l))
    (range_with_len line n)
entries_start parts line zero table none = refl
entries_start parts line (suc n) table none = rw (none line, entries_start parts (line + 1) n table none) refl

dir_stands : (most nodes : ℕ) (body : Line) (always : Bool) → Stands most nodes (directory_start body always)
dir_stands most nodes body always = record { sound = start_sound most body always; points = no_points nodes (directory_start body always) refl refl }

quiet : (body : Line) (always : Bool) → progress_of (directory_start body always) ≡ 0
quiet body true = refl
quiet body false = refl

-- what holds of each entry at the start holds at each place
at_each : (P : Directory → Type 0) → ((body : Line) (always : Bool) → P (directory_start body always)) → (parts : Parts) (number place : ℕ)
    → P (entry_at (homes_start parts number) place)
at_each P each parts number place = go (cases_lt place parts.per_node)
  where
    first : ℕ
    first = number * parts.per_node

    go : (place < parts.per_node) ⊎ (parts.per_node ≤ place) → P (entry_at (homes_start parts number) place)
    go (inl l) = subst P (sym
        (get_or-map-range_with_len (started parts) (number * parts.per_node) parts.per_node place (number * parts.per_node + place)
        (directory_start zero_line false) l refl)) (each _ _)
    go (inr m) = subst P (sym
        (get_or-eq_default (homes_start parts number) (directory_start zero_line false)
        (omega (arith, m, length-map-range_with_len (started parts) (number * parts.per_node) parts.per_node)))) (each _ _)

all_quiet : (parts : Parts) (line n : ℕ) → 0 ≡ weigh progress_of (map (started parts) (range_with_len line n))
all_quiet parts line zero = refl
all_quiet parts line (suc n) = omega (arith, quiet (body_of parts line) (is_always parts line), all_quiet parts (line + 1) n)

pub starts_as_one : (parts : Parts) (parameters : Parameters) (number : ℕ) → IsImage parts → AreParameters parameters → number < node_count parts
    → IsMemory (memory_of parts parameters number (node_start parts number))
starts_as_one parts parameters number image allowed l = record {
  number = l;
  nodes = omega (arith, mul-le-mul image.width.1 image.height.1);
  per_node = image.per_node;
  pointers = allowed.some_pointer;
  homes = length-map-range_with_len (started parts) (number * parts.per_node) parts.per_node;
  entries = at_each (Stands parameters.pointers (node_count parts)) (dir_stands parameters.pointers (node_count parts)) parts number;
  packets = tt;
  pending = λ place m. sym (at_each (λ d. progress_of d ≡ 0) quiet parts number place);
  counted = all_quiet parts (number * parts.per_node) parts.per_node;
}

-- an empty table
pub table_starts : (number per_node : ℕ) → IsSoftTable number per_node (table_of per_node per_node empty_map)
table_starts number per_node = record { lines = refl; keys = λ line set e. absurd (none (sym (value-empty line) ∙ e)) }
  where
    none : {X : Type 0} {x : X} → None ≡ Some x → ⊥
    none e = cc

pub set_none : (lines buckets line : ℕ) → set_of_line (table_of lines buckets empty_map) line ≡ no_nodes
set_none lines buckets line = ap set_or_none (value-empty line)

-- the memory side that a start makes up
pub starts_from : (parts : Parts) (parameters : Parameters) (number : ℕ)
    → record {
      number = number;
      nodes = node_count parts;
      per_node = parts.per_node;
      pointers = parameters.pointers;
      homes = entries_from (number * parts.per_node) (lines_start parts number) (table_of parts.per_node parts.per_node empty_map);
      packets = [];
    } ≡ memory_of parts parameters number (node_start parts number)
starts_from parts parameters number = ap (with_entries parts parameters number) (entries_start parts (number * parts.per_node) parts.per_node
    (table_of parts.per_node parts.per_node empty_map) (set_none parts.per_node parts.per_node))
  where
    with_entries : Parts → Parameters → ℕ → List Directory → Memory
    with_entries parts parameters number homes =
        record { number = number; nodes = node_count parts; per_node = parts.per_node; pointers = parameters.pointers; homes = homes; packets = [] }

-- The software table of a memory side: what the handler changes of it, and room for a line more.
use Rattle.std.proofs.Common.{◌≡◌, ◌≢◌, ℕ, ◌+◌, ◌*◌, ◌/◌, ◌<◌, ◌≤◌, Bool, true, false, cond, ◌==◌, Some, None, refl, sym, ap, ◌∙◌, arith}
use Rattle.std.proofs.lemmas.Bool.{eqb-true, ne_eqb}
use Rattle.alw_num.specs.Maps.{Map, value_at, with_value, without_value}
use Rattle.alw_num.proofs.MapLaws.{value-with, value-without}
use Rattle.alw_num.specs.NodeSets.{Nodes}
use Rattle.alw_model.specs.declared.steps.Keeping.{Keeping}
use Rattle.alw_model.specs.declared.steps.Keeping.TheVariants.{Joined, Alone, Emptied, Kept}
use Rattle.dir_soft.specs.Tables.{Table, set_or_none, set_of_line, used_lines}
use Rattle.alw_trap.specs.Handling.{table_after}
use Rattle.alw_memory.specs.Lines.{IsSoftTable}
use Rattle.alw_memory.proofs.Entries.{line_is}
use Rattle.alw_memory.proofs.TableSizes.{free_place}

pub others_stay : (table : Table) (line : ℕ) (software : Nodes) (keeping : Keeping) (l : ℕ) → l ≢ line
    → set_of_line (table_after table line software keeping) l ≡ set_of_line table l
others_stay table line software Joined l other =
    ap set_or_none (value-with table.sets line software l ∙ ap (λ b. cond b (Some software) (value_at table.sets l)) (ne_eqb l line other))
others_stay table line software Alone l other =
    ap set_or_none (value-without table.sets line l ∙ ap (λ b. cond b None (value_at table.sets l)) (ne_eqb l line other))
others_stay table line software Emptied l other =
    ap set_or_none (value-without table.sets line l ∙ ap (λ b. cond b None (value_at table.sets l)) (ne_eqb l line other))
others_stay table line software Kept l other = refl

keys_with : (number per_node line : ℕ) (sets : Map Nodes) (software : Nodes) → line / per_node ≡ number
    → ((l : ℕ) (set : Nodes) → value_at sets l ≡ Some set → l / per_node ≡ number) → (l : ℕ) (set : Nodes)
    → value_at (with_value sets line software) l ≡ Some set → l / per_node ≡ number
keys_with number per_node line sets software home keys l set e = go (l == line) refl (sym (value-with sets line software l) ∙ e)
  where
    go : (b : Bool) → (l == line) ≡ b → cond b (Some software) (value_at sets l) ≡ Some set → l / per_node ≡ number
    go true same f = ap (λ n. n / per_node) (eqb-true l line same) ∙ home
    go false other f = keys l set f

keys_without : (number per_node line : ℕ) (sets : Map Nodes) → ((l : ℕ) (set : Nodes) → value_at sets l ≡ Some set → l / per_node ≡ number)
    → (l : ℕ) (set : Nodes) → value_at (without_value sets line) l ≡ Some set → l / per_node ≡ number
keys_without number per_node line sets keys l set e = go (l == line) (sym (value-without sets line l) ∙ e)
  where
    go : (b : Bool) → cond b None (value_at sets l) ≡ Some set → l / per_node ≡ number
    go true f = absurd (cc)
    go false f = keys l set f

pub table_stands : (number per_node line : ℕ) (table : Table) (software : Nodes) (keeping : Keeping) → line / per_node ≡ number
    → IsSoftTable number per_node table → IsSoftTable number per_node (table_after table line software keeping)
table_stands number per_node line table software Joined home is =
    record { lines = is.lines; keys = keys_with number per_node line table.sets software home is.keys }
table_stands number per_node line table software Alone home is = record { lines = is.lines; keys = keys_without number per_node line table.sets is.keys }
table_stands number per_node line table software Emptied home is = record { lines = is.lines; keys = keys_without number per_node line table.sets is.keys }
table_stands number per_node line table software Kept home is = is

-- a home line without a set finds a free place
pub table_room : (number per_node line : ℕ) (table : Table) → 1 ≤ per_node → line / per_node ≡ number → IsSoftTable number per_node table
    → value_at table.sets line ≡ None → used_lines table < table.lines
table_room number per_node line table some home is none =
    let range : (k : ℕ) → k / per_node ≡ number → (number * per_node ≤ k) × (k < number * per_node + per_node) = λ k e.
    let at = line_is k per_node number e in (omega (arith, at), omega (arith, at, some)) in
    let here = range line home in
    omega (arith, is.lines, free_place table.sets (number * per_node) per_node line here.0 here.1 (λ k x e. range k (is.keys k x e)) none)

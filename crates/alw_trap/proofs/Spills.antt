-- Pointers that join a line's set in the table, one after the other.
use Rattle.std.proofs.Common.{◌≡◌, ℕ, ◌<◌, Bool, true, false, cond, ◌==◌, Option, Some, None, ◌∷◌, refl, sym, ap, ◌∙◌, arith}
use Rattle.std.proofs.lemmas.Bool.{eq-eqb}
use Rattle.std.proofs.lemmas.Bool.Decides.{nat_tests}
use Rattle.alw_num.specs.NodeSets.{Nodes, no_nodes, has_node, add_node, drop_node, join_nodes, members}
use Rattle.alw_num.proofs.Sets.{same_nodes, has-add, has-drop, has-join, has_front, none-join, join-add}
use Rattle.alw_num.specs.Maps.{Map, value_at, with_value}
use Rattle.alw_num.proofs.MapLaws.{value-with, same_maps}
use Rattle.dir_soft.specs.Tables.{Table, set_or_none, set_of_line, used_lines}

-- the line's set and the pointers that are left make up the whole, and nothing else of the table changed
pub record SpillIsUnderWay (before now : Table) (line : ℕ) (whole rest : Nodes) : Type 0 where
  pub nodes : Nodes
  pub table : now ≡ record before { sets = with_value before.sets line nodes }
  pub left : join_nodes rest nodes ≡ whole

value_there : (m : Map Nodes) (line : ℕ) (nodes : Nodes) → value_at (with_value m line nodes) line ≡ Some nodes
value_there m line nodes = value-with m line nodes line ∙ rw (eq-eqb line line refl) refl

with_again : (m : Map Nodes) (line : ℕ) (one other : Nodes) → with_value (with_value m line one) line other ≡ with_value m line other
with_again m line one other = same_maps _ _ (λ l. value-with (with_value m line one) line other l ∙ ap (λ (o : Option Nodes). cond (l == line) (Some other) o) (value-with m line one l) ∙ twice (l == line) (value_at m l) ∙ sym (value-with m line other l))
  where
    twice : (b : Bool) (o : Option Nodes) → cond b (Some other) (cond b (Some one) o) ≡ cond b (Some other) o
    twice true o = refl
    twice false o = refl

pub begins : (before now : Table) (line sender : ℕ) (hardware : Nodes) → now ≡ record before { sets = with_value before.sets line (add_node (set_of_line before line) sender) }
    → SpillIsUnderWay before now line (add_node (join_nodes hardware (set_of_line before line)) sender) hardware
begins before now line sender hardware e = record { nodes = add_node (set_of_line before line) sender; table = e; left = join-add hardware (set_of_line before line) sender }

-- while pointers are left, the line has a set
pub has_set : (before now : Table) (line : ℕ) (whole rest : Nodes) → SpillIsUnderWay before now line whole rest → value_at now.sets line ≡ None → used_lines now < now.lines
has_set before now line whole rest way none =
    let some : value_at now.sets line ≡ Some way.nodes = ap (λ (t : Table). value_at t.sets line) way.table ∙ value_there before.sets line way.nodes in
    absurd (cc)

moved : (rest nodes : Nodes) (m : ℕ) → has_node rest m ≡ true → join_nodes (drop_node rest m) (add_node nodes m) ≡ join_nodes rest nodes
moved rest nodes m here = same_nodes _ _ (λ k. grind (arith, nat_tests, has-join (drop_node rest m) (add_node nodes m) k, has-drop rest m k, has-add nodes m k, has-join rest nodes k))

pub goes_on : (before now next : Table) (line : ℕ) (whole rest after : Nodes) (m : ℕ) → SpillIsUnderWay before now line whole rest → members rest ≡ m ∷ members (drop_node rest m)
    → next ≡ record now { sets = with_value now.sets line (add_node (set_of_line now line) m) } → after ≡ drop_node rest m → SpillIsUnderWay before next line whole after
goes_on before now next line whole rest after m way least added dropped =
    let here = has_front rest m (members (drop_node rest m)) least in
    let set : set_of_line now line ≡ way.nodes = ap (λ (t : Table). set_of_line t line) way.table ∙ ap set_or_none (value_there before.sets line way.nodes) in
    let sets : with_value now.sets line (add_node (set_of_line now line) m) ≡ with_value before.sets line (add_node way.nodes m) =
    ap (λ (n : Nodes). with_value now.sets line (add_node n m)) set ∙ ap (λ (t : Table). with_value t.sets line (add_node way.nodes m)) way.table ∙ with_again before.sets line way.nodes (add_node way.nodes m) in
    let lines : now.lines ≡ before.lines = ap (λ (t : Table). t.lines) way.table in
    let buckets : now.buckets ≡ before.buckets = ap (λ (t : Table). t.buckets) way.table in
    record {
      nodes = add_node way.nodes m;
      table = added ∙ (λ k. record { lines = lines k; buckets = buckets k; sets = sets k });
      left = ap (λ (r : Nodes). join_nodes r (add_node way.nodes m)) dropped ∙ moved rest way.nodes m here ∙ way.left;
    }

pub ends : (before now : Table) (line : ℕ) (whole rest : Nodes) → SpillIsUnderWay before now line whole rest → rest ≡ no_nodes → now ≡ record before { sets = with_value before.sets line whole }
ends before now line whole rest way none =
    let all : way.nodes ≡ whole = sym (none-join way.nodes) ∙ ap (λ (r : Nodes). join_nodes r way.nodes) (sym none) ∙ way.left in
    way.table ∙ (λ k. record { lines = before.lines; buckets = before.buckets; sets = with_value before.sets line (all k) })

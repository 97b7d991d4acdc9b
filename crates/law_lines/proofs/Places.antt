-- A home's entries by line: each line has a place of its own.
use Rattle.std.proofs.Common.{◌≡◌, ℕ, zero, suc, ◌*◌, ◌%◌, ◌+◌, ◌<◌, ◌==◌, false, cond, length, sym, ap, ◌∙◌, arith}
use Rattle.std.proofs.lemmas.Bool.{eq-eqb, ne_eqb}
use Rattle.std.proofs.Math.Nat.{mod-add-div'}
use Rattle.alw_num.proofs.Weigh.{is_node}
use Rattle.alw_image.specs.declared.parts.Parts.{Parts}
use Rattle.alw_image.specs.Images.{node_count, line_count, zero_line}
use Rattle.alw_model.specs.LimitLess.{Directory, directory_start}
use Rattle.alw_model.specs.Messages.{home_node}
use Rattle.alw_model.specs.NodeStates.{NodeState, home_at, with_home, place_of}
use Rattle.law_lines.proofs.Links.{read_set}

-- lines of one home have places of their own
module _ (parts : Parts) where
  pub place_fits : (l : ℕ) → l < line_count parts → place_of parts l < parts.per_node
  place_fits l lines = go parts.per_node lines
    where
      go : (p : ℕ) → l < node_count parts * p → l % p < p
      go zero m = absurd (omega arith)
      go (suc p) m = omega arith

  pub lines_differ : (k l : ℕ) → home_node parts k ≡ home_node parts l → place_of parts k ≡ place_of parts l → k ≡ l
  lines_differ k l home place = sym (mod-add-div' k parts.per_node) ∙ ((λ x. place x + home x * parts.per_node) ∙ mod-add-div' l parts.per_node)

  -- an entry that an event leaves, read at a line of the same home
  pub entry_set : (node : NodeState) (l k : ℕ) (d : Directory) → length node.homes ≡ parts.per_node → l < line_count parts → home_node parts k ≡ home_node parts l → home_at parts (with_home parts node l d) k ≡ cond (k == l) d (home_at parts node k)
  entry_set node l k d size lines home =
      let fits : place_of parts l < length node.homes = rw size (place_fits l lines) in
      read_set node.homes (place_of parts l) d (directory_start zero_line false) (place_of parts k) fits ∙ is_node _ k l
      (λ same. ap (λ b. cond b d (home_at parts node k)) (eq-eqb (place_of parts k) (place_of parts l) (ap (place_of parts) same) ∙ sym (eq-eqb k l same)))
      (λ other. ap (λ b. cond b d (home_at parts node k)) (ne_eqb (place_of parts k) (place_of parts l) (λ e. other (lines_differ k l home e)) ∙ sym (ne_eqb k l other)))

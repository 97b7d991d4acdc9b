-- After every legal journal each line meets the line invariant, and its current value is the one stored last.
use Rattle.std.proofs.Common.{◌≡◌, ℕ, ◌<◌, length, IsTrue, refl, sym, subst}
use Rattle.law_machine.proofs.Vocabulary.{Line, Parts, node_count, line_count, Parameters, home_node, MachineState, ups, packets_at, entry_of, line_of, current_value, LineInvariant}
use Rattle.law_machine.proofs.Vocabulary.{software_fits, IsStanding}
use Rattle.law_line.proofs.Clauses.{invariant_holds, value_is}
use Rattle.law_lines.proofs.Following.{home_below}
use Rattle.law_machine.specs.Values.{MachineIsSoundWith}

module _ (parts : Parts) (parameters : Parameters) where
  -- the software set, with the line's pending packets
  pub software_is : (s : MachineState) (line : ℕ) → IsStanding parts parameters s → line < line_count parts → IsTrue (software_fits (entry_of parts s line) (length (ups line (packets_at parts s line))))
  software_is s line standing lines =
      let node = standing.each (home_node parts line) (home_below parts line lines) in
      subst (λ n. IsTrue (software_fits (entry_of parts s line) n)) (sym (node.pending line lines refl)) (node.entries line lines refl).software

  pub invariant_of : (s : MachineState) (values : ℕ → Line) → MachineIsSoundWith parts parameters values s → (line : ℕ) → line < line_count parts → LineInvariant (node_count parts) (line_of parts parameters s line) (entry_of parts s line) (length (ups line (packets_at parts s line)))
  invariant_of s values sound line lines = invariant_holds (node_count parts) (values line) (line_of parts parameters s line) (sound.lines line lines) (entry_of parts s line) (length (ups line (packets_at parts s line))) (software_is s line sound.standing lines)

  pub value_of : (s : MachineState) (values : ℕ → Line) → MachineIsSoundWith parts parameters values s → (line : ℕ) → line < line_count parts → current_value parts parameters s line ≡ values line
  value_of s values sound line lines = value_is (node_count parts) (values line) (line_of parts parameters s line) (sound.lines line lines)

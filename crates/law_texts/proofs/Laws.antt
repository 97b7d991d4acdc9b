-- The machines after legal journals have one text exactly where they are the same.
use Rattle.std.proofs.Common.{◌≡◌, ◌↔◌, List, arith}
use Rattle.alw_msg.specs.declared.events.Entry.{Entry}
use Rattle.alw_image.specs.declared.parts.Parts.{Parts}
use Rattle.alw_image.specs.Images.{node_count, IsImage}
use Rattle.alw_image.specs.Numbers.{HasWords}
use Rattle.alw_image.specs.Parameters.{Parameters, AreParameters}
use Rattle.alw_model.specs.Machine.{IsLegal, state}
use Rattle.law_machine.proofs.MachineFacts.{always_invariant, always_small}
use Rattle.alw_trace.specs.Lines.{IsNumber}
use Rattle.law_texts.proofs.Journals.{always_words}
use Rattle.alw_save.specs.States.{state_text}
use Rattle.law_texts.proofs.States.{IsMachineTold, states_told}
use Rattle.law_texts.proofs.Told.{few_nodes, machine_told}

module _ (parts : Parts) (image : IsImage parts) (words : HasWords parts) where
  -- what every machine has is told without loss
  always_told : (parameters : Parameters) → AreParameters parameters → (journal : List Entry) → IsLegal parts parameters journal
      → IsMachineTold parts (state parts parameters journal)
  always_told parameters are journal legal =
      machine_told parts image parameters (state parts parameters journal) (always_invariant parts image parameters are journal legal)
      (always_words parts image parameters are journal legal words) (always_small parts image parameters are journal legal)

  pub one_text : (one other : Parameters) → AreParameters one → AreParameters other → (first second : List Entry)
      → IsLegal parts one first → IsLegal parts other second
      → (state_text parts (state parts one first) ≡ state_text parts (state parts other second)) ↔ (state parts one first ≡ state parts other second)
  one_text one other are all first second legal lawful =
      let few : IsNumber (node_count parts) = omega (arith, few_nodes parts image) in
      states_told parts few (state parts one first) (state parts other second) (always_told one are first legal) (always_told other all second lawful)

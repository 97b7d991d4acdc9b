-- What was walked of a run that workers leave is what its machine has.
use Rattle.std.proofs.Common.{◌≡◌, ℕ, ◌-◌, ◌≤◌, List, sym, ap, subst, ◌∙◌}
use Rattle.alw_msg.specs.declared.events.Entry.{Entry}
use Rattle.alw_image.specs.declared.parts.Parts.{Parts}
use Rattle.alw_image.specs.Images.{IsImage, node_count}
use Rattle.alw_image.specs.Parameters.{Parameters, AreParameters}
use Rattle.alw_model.specs.Machine.{state, IsLegal}
use Rattle.alw_model.specs.Runs.{moments, turns_of, prints_of}
use Rattle.alw_model.specs.Counts.{counts_of}
use Rattle.alw_tally.specs.Told.{Told}
use Rattle.alw_node.specs.Nodes.{Whole}
use Rattle.alw_mesh.specs.Keeping.{AreNodes, machine_of}
use Rattle.alw_merge.specs.declared.walks.Walked.{Walked}
use Rattle.alw_merge.specs.Joins.{holds_at}
use Rattle.alw_merge.specs.Spans.{IsOfWorked, told_in}
use Rattle.alw_merge.proofs.Joining.{legal, nodes_are, state_is, holds_few, counts_are}

module _ {image : Parts} {parameters : Parameters} {walked : Walked} {nodes : List Whole} where
  pub legal_of : IsOfWorked image parameters walked nodes → IsLegal image parameters walked.journal
  legal_of (worked, is, same, journal, left) = subst (λ (es : List Entry). IsLegal image parameters es) (sym journal) (legal image parameters worked is)

  pub nodes_of : IsOfWorked image parameters walked nodes → AreNodes image parameters nodes
  nodes_of (worked, is, same, journal, left) = subst (AreNodes image parameters) same (nodes_are image parameters worked is)

  pub state_of : IsOfWorked image parameters walked nodes → machine_of nodes walked.links.links ≡ state image parameters walked.journal
  state_of (worked, is, same, journal, left) =
      ap (λ (all : List Whole). machine_of all walked.links.links) (sym same) ∙ (state_is image parameters worked is walked.links.links left.links_are ∙ ap (state image parameters) (sym journal))

  pub counted_of : IsOfWorked image parameters walked nodes → walked.links.nodes ≡ node_count image
  counted_of (worked, is, same, journal, left) = left.nodes_are

  pub turns_of_walked : IsOfWorked image parameters walked nodes → walked.turns ≡ turns_of image parameters walked.journal
  turns_of_walked (worked, is, same, journal, left) = ap (λ (told : Told). told.turns) left.told_is ∙ ap (turns_of image parameters) (sym journal)

  pub prints_of_walked : IsOfWorked image parameters walked nodes → walked.prints ≡ prints_of image parameters walked.journal
  prints_of_walked (worked, is, same, journal, left) = ap (λ (told : Told). told.prints) left.told_is ∙ ap (prints_of image parameters) (sym journal)

  pub holds_of_walked : IsOfWorked image parameters walked nodes → IsImage image → AreParameters parameters → (holds : ℕ) → holds ≡ holds_at nodes → holds ≤ walked.counts.replies
  holds_of_walked (worked, is, same, journal, left) allowed are holds holds_are =
      holds_few image parameters worked is allowed are (told_in walked) left.told_is holds (holds_are ∙ ap holds_at (sym same))

  pub counts_of_walked : IsOfWorked image parameters walked nodes → IsImage image → AreParameters parameters → (holds : ℕ) → holds ≡ holds_at nodes
      → record walked.counts { used = walked.counts.replies - holds } ≡ counts_of image (moments image parameters walked.journal)
  counts_of_walked (worked, is, same, journal, left) allowed are holds holds_are =
      counts_are image parameters worked is allowed are (told_in walked) left.told_is holds (holds_are ∙ ap holds_at (sym same))
      ∙ ap (λ (es : List Entry). counts_of image (moments image parameters es)) (sym journal)

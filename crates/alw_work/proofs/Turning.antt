-- What a lock keeps holds on through a turn: messages come, the node steps, and messages are given out.
use Rattle.std.proofs.Common.{◌≡◌, ◌∙◌, ℕ, Bool, true, List, sym, ap, subst}
use Rattle.alw_image.specs.declared.parts.Parts.{Parts}
use Rattle.alw_image.specs.Images.{node_count}
use Rattle.alw_image.specs.Parameters.{Parameters}
use Rattle.alw_model.specs.Threads.{Logged}
use Rattle.alw_node.specs.Nodes.{Whole}
use Rattle.alw_cells.specs.Cells.{Cell}
use Rattle.alw_ruled.specs.Ends.{LinkName}
use Rattle.alw_work.specs.declared.ends.Out.{Out}
use Rattle.alw_work.specs.declared.ends.In.{In}
use Rattle.alw_work.specs.Works.{holds_trap}
use Rattle.alw_work.specs.Seats.{TrapIsMarked, IsSeat, CellIsOfNode, Works}
use Rattle.alw_work.specs.Ties.{AreTiedOuts, AreTiedIns, IsSameButCome, IsSameButGiven}
use Rattle.alw_work.proofs.Tying.{outs_same, ins_same, outs_work, ins_work}

module _ (image : Parts) (parameters : Parameters) (number : ℕ) (before after : Cell) where
  -- node and log are the same
  seat_same : (trapped : Bool) → after.node ≡ before.node → after.log ≡ before.log → IsSeat image parameters number before trapped
      → IsSeat image parameters number after trapped
  seat_same trapped node log is = record {
    cell_is = record {
      number_is = ap (λ (w : Whole). w.number) node ∙ is.cell_is.number_is;
      share = ap (λ (w : Whole). w.parts) node ∙ is.cell_is.share;
      parameters_are = ap (λ (w : Whole). w.parameters) node ∙ is.cell_is.parameters_are;
    };
    marked = subst (λ (y : Whole × List Logged). trapped ≡ true → holds_trap y.0.parts y.0.parameters y.0.number y.1 ≡ true) (λ i. (sym node i, sym log i))
        is.marked;
  }

  seat_work : (was now : Bool) → CellIsOfNode before after → (TrapIsMarked was before → TrapIsMarked now after) → IsSeat image parameters number before was
      → IsSeat image parameters number after now
  seat_work was now same marks is = record {
    cell_is = record {
      number_is = same.number ∙ is.cell_is.number_is;
      share = same.parts ∙ is.cell_is.share;
      parameters_are = same.parameters ∙ is.cell_is.parameters_are;
    };
    marked = marks is.marked;
  }

-- a cell with its mark and its ends
abbrev pub IsHeld : Parts → Parameters → List LinkName → ℕ → ℕ → Cell → Bool → List Out → List In → Type 0
IsHeld image parameters links nodes number cell trapped outs ins =
    (nodes ≡ node_count image) × IsSeat image parameters number cell trapped × AreTiedOuts links nodes number cell outs × AreTiedIns links nodes number
    cell ins

module _ (image : Parts) (parameters : Parameters) (links : List LinkName) (nodes number : ℕ) (before after : Cell) (outs : List Out) (ins : List In) where
  pub held_fetch : (trapped : Bool) (now : List In) → IsHeld image parameters links nodes number before trapped outs ins → IsSameButCome before after
      → AreTiedIns links nodes number after now → IsHeld image parameters links nodes number after trapped outs now
  held_fetch trapped now is same tied =
      (is.0, seat_same image parameters number before after trapped same.node same.log is.1, outs_same links nodes number before after outs same is.2, tied)

  pub held_step : (was now : Bool) → IsHeld image parameters links nodes number before was outs ins → CellIsOfNode before after
      → (TrapIsMarked was before → TrapIsMarked now after)
      → Works before after → IsHeld image parameters links nodes number after now outs ins
  held_step was now is same marks works = (
    is.0,
    seat_work image parameters number before after was now same marks is.1,
    outs_work links nodes number before after outs works is.2,
    ins_work links nodes number before after ins works is.3,
  )

  pub held_offer : (trapped : Bool) (now : List Out) → IsHeld image parameters links nodes number before trapped outs ins → IsSameButGiven before after
      → AreTiedOuts links nodes number after now → IsHeld image parameters links nodes number after trapped now ins
  held_offer trapped now is same tied =
      (is.0, seat_same image parameters number before after trapped same.node same.log is.1, tied, ins_same links nodes number before after ins same is.3)

-- A node has one copy, or none.
use Rattle.std.proofs.Common.{◌∷◌, [], option_to_list, sym, ap, ◌∙◌, length, arith}
use Rattle.alw_mesh.specs.Histories.{state_of}
use Rattle.alw_laws.specs.Shown.{copies_of}
use Rattle.alw_laws.proofs.Collected.{gathers, passes_by, few_more}
use Rattle.alw_laws.proofs.showing.copies.Goals as goal
use Rattle.alw_laws.proofs.showing.copies.Goals.{in-Some+in_ok-push, in_default}

pub loop-n-preserved : goal.loop-n-preserved
loop-n-preserved c =
    let h = c.args.machine.now in
    let own = copies_of h.parameters (state_of h) c.args.line.0 in
    elim c.match-copy.branch [
      | in-Some+in_ok-push w ↦ record {
        gathered = w.copies-is ∙ (w.in_ok-push.ensures.ok ∙ gathers own c.loop-n.n c.loop-n.copies (w.in-Some.copy ∷ []) c.loop-n.invariant.gathered (ap option_to_list (sym w.in-Some.is) ∙ c.copy.ensures));
        few = few_more own c.loop-n.n c.loop-n.copies _ w.in-Some.copy (w.copies-is ∙ w.in_ok-push.ensures.ok) c.loop-n.invariant.few;
      }
      | in_default w ↦ record {
        gathered = w.copies-is ∙ passes_by own c.loop-n.n c.loop-n.copies c.loop-n.invariant.gathered (ap option_to_list (sym w.in_default.is) ∙ c.copy.ensures);
        few = omega (arith, ap length w.copies-is, c.loop-n.invariant.few);
      }
    ]

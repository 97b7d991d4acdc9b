-- What bytes are restored to, or why they aren't.
use Rattle.std.proofs.Common.{◌≡◌, ℕ, ◌+◌, ◌≤◌, true, Ok, Err, Some, List, ◌++◌, codes, refl, sym, ap, subst, ◌∙◌}
use Rattle.alw_image.specs.Images.{node_count}
use Rattle.alw_image.specs.Numbers.{HasWords}
use Rattle.alw_image.specs.Parameters.{may_point}
use Rattle.alw_model.specs.Machine.{state}
use Rattle.alw_mesh.specs.Histories.{History, state_of, stamps_of}
use Rattle.alw_mesh.specs.Limits.{most_steps}
use Rattle.alw_report.specs.Reports.{params_line}
use Rattle.alw_trace.specs.declared.values.Trace.{Trace}
use Rattle.alw_trace.specs.declared.fronts.Front.{Front}
use Rattle.alw_trace.specs.declared.faults.TextErr.{TextErr}
use Rattle.alw_trace.specs.declared.faults.TextErr.TheVariants as text
use Rattle.alw_trace.specs.Fronts.{front_text, IsFrontOf, IsFrontRead, IsNoFront}
use Rattle.alw_save.specs.declared.faults.CutErr.{CutErr}
use Rattle.alw_save.specs.declared.faults.CutErr.TheVariants as cuts
use Rattle.alw_save.specs.declared.faults.RestoreErr.TheVariants.{StateDiffers}
use Rattle.alw_save.specs.Cuts.{LeavesAll}
use Rattle.alw_save.specs.Checkpoints.{save_title, state_part, checkpoint_text}
use Rattle.alw_save.specs.Differences.{Differs, DiffersAt, ended_lines}
use Rattle.alw_save.specs.Restoring.{with_evict, Restores, fault_of_text, fault_of_cut}

-- ---- the lines up to the last entry

pub text_refused : (bytes : List ℕ) (evict : ℕ) (fault : TextErr) → IsNoFront (codes "ALEWIFE SAVE 1\n") bytes fault
    → Restores bytes evict (Err (fault_of_text fault))
unfolding save_title
text_refused bytes evict (text.Syntax line) is = ((λ e. cc), is)
text_refused bytes evict (text.Image fault) is = ((λ e. cc), is)
text_refused bytes evict (text.Range line) is = ((λ e. cc), is)
text_refused bytes evict text.NoMemory is = tt

-- a text doesn't say how often evictions are tried
same_front : (trace : Trace) (evict : ℕ) → front_text trace.image trace.params trace.journal
    ≡ front_text trace.image (with_evict trace evict).params trace.journal
unfolding front_text params_line
same_front trace evict = refl

module _ (bytes rest : List ℕ) (front : Front) (read : IsFrontRead (codes "ALEWIFE SAVE 1\n") bytes front rest) (evict : ℕ) where
  abbrev trace : Trace
  trace = with_evict front.trace evict

  title_is : IsFrontOf save_title bytes front.trace rest
  unfolding save_title
  title_is = read.front_is

  pub refused : (fault : CutErr) → LeavesAll trace (Err fault) → Restores bytes evict (Err (fault_of_cut fault))
  refused (cuts.DoesNotFit number most) is = record { trace = front.trace; rest = rest; front = title_is; holds = is }
  refused (cuts.NotLegal k) is = record { trace = front.trace; rest = rest; front = title_is; holds = is }
  refused cuts.NoMemory is = tt

  module _ (machine : History) (is : LeavesAll trace (Ok machine)) (wanted : List ℕ) (written : wanted ≡ state_part machine.image (state_of machine)) where
    -- the state that the entries leave
    wanted_is : wanted ≡ state_part trace.image (state trace.image trace.params trace.journal)
    wanted_is = written ∙ ap (λ (h : History). state_part h.image (state_of h)) is.2

    pub differs : (agreed line : ℕ) → Differs wanted rest (Some agreed) → line ≡ front.behind + agreed → Restores bytes evict (Err (StateDiffers line))
    differs agreed line apart place = record {
      trace = front.trace;
      rest = rest;
      front = title_is;
      holds = record {
        sound = is.0;
        agreed = agreed;
        differs = subst (λ (t : List ℕ). DiffersAt (ended_lines t) (ended_lines rest) agreed) wanted_is apart;
        place = place ∙ ap (λ (n : ℕ). n + agreed) read.behind_is;
      };
    }

    -- the bytes are the checkpoint of a machine
    text_is : rest ≡ wanted → bytes ≡ checkpoint_text trace.image trace.params trace.journal
    unfolding checkpoint_text
    text_is same = title_is.text_is ∙ (λ i. save_title ++ (same_front front.trace evict i ++ (same ∙ wanted_is) i))

    pub restored : rest ≡ wanted → Restores bytes evict (Ok machine)
    restored same = record {
      evict_is = ap (λ (h : History). h.parameters.evict) is.2;
      run = is.1;
      fits = subst (λ (h : History). stamps_of h.image h.parameters ≤ most_steps) (sym is.2) is.0.fits;
      points = subst (λ (h : History). may_point (node_count h.image) h.parameters.pointers ≡ true) (sym is.2) title_is.is.points;
      words = subst (λ (h : History). HasWords h.image) (sym is.2) title_is.types.0;
      text = text_is same ∙ ap (λ (h : History). checkpoint_text h.image h.parameters h.journal) (sym is.2);
    }

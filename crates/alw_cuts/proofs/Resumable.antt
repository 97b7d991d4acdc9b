-- A checkpoint is refused for want of memory alone, and what `save` writes is one.
use Rattle.std.proofs.Common.{◌≡◌, ℕ, suc, ◌≤◌, Err, List, ◌++◌, slice_get, refl, sym, ap, subst, ◌∙◌, arith}
use Rattle.alw_msg.specs.declared.events.Entry.{Entry}
use Rattle.alw_image.specs.Parameters.{Parameters}
use Rattle.alw_model.specs.Machine.{MachineState, IsLegal, state}
use Rattle.alw_model.proofs.Journals.{legal_take}
use Rattle.law_order.specs.Orders.{kept_by}
use Rattle.law_order.proofs.Reached.{cut_front}
use Rattle.alw_mesh.specs.Histories.{History, state_of}
use Rattle.alw_mesh.proofs.Journals.{journal_fits}
use Rattle.alw_report.specs.Reports.{params_line}
use Rattle.alw_trace.specs.declared.values.Trace.{Trace}
use Rattle.alw_trace.specs.Readings.{IsTrace, HasTraceTypes}
use Rattle.alw_trace.specs.Fronts.{front_text, IsFrontOf}
use Rattle.alw_save.proofs.FrontBack.{one_front, front_back}
use Rattle.alw_save.specs.declared.faults.RestoreErr.{RestoreErr}
use Rattle.alw_save.specs.declared.faults.RestoreErr.TheVariants.{Text, DoesNotFit, NotLegal, StateDiffers, NoMemory}
use Rattle.alw_save.specs.Cuts.{TraceIsSound}
use Rattle.alw_save.specs.Checkpoints.{save_title, state_part, checkpoint_text}
use Rattle.alw_save.specs.Differences.{ended_lines}
use Rattle.alw_save.specs.Restoring.{with_evict, IsCheckpoint, TextIsReadAs, Restores}
use Rattle.alw_cuts.specs.Resuming.{IsSomeCheckpoint}
use Rattle.alw_runs.proofs.NoEvict.{calm, state_same, legal_back, stamped}

-- parameters by their members
same_params : (p : Parameters) (evict : ℕ) → p.evict ≡ evict → p ≡ record { pointers = p.pointers; sets = p.sets; limit = p.limit; evict = evict }
same_params p evict same = λ i. record { pointers = p.pointers; sets = p.sets; limit = p.limit; evict = same i }

module _ (bytes : List ℕ) (evict : ℕ) (machine : History) (is : IsCheckpoint bytes evict machine) where
  -- what its lines up to the last entry say
  abbrev trace : Trace
  trace = record { image = machine.image; params = calm machine.parameters; journal = machine.journal }

  abbrev rest : List ℕ
  rest = state_part machine.image (state_of machine)

  text_is : bytes ≡ save_title ++ (front_text trace.image trace.params trace.journal ++ rest)
  unfolding checkpoint_text front_text params_line
  text_is = is.text

  front : IsFrontOf save_title bytes trace rest
  front = record {
    text_is = text_is;
    is = record {
      image = is.run.image;
      params = record {
        some_pointer = is.run.parameters.some_pointer;
        pointers = is.run.parameters.pointers;
        sets = is.run.parameters.sets;
        some_limit = is.run.parameters.some_limit;
        limit = is.run.parameters.limit;
        evict = omega arith;
      };
      points = is.points;
      evict = refl;
      journal = stamped machine.image machine.parameters machine.journal is.run.legal;
    };
    types = (is.words, omega (arith, journal_fits machine is.run));
  }

  -- its machine's parameters
  params_are : machine.parameters ≡ (with_evict trace evict).params
  params_are = same_params machine.parameters evict is.evict_is

  legal_so : IsLegal machine.image (with_evict trace evict).params machine.journal
  legal_so = subst (λ (p : Parameters). IsLegal machine.image p machine.journal) params_are is.run.legal

  -- what is read of it as another is of this trace
  read_so : {Holds : Trace → List ℕ → Type 0} (read : TextIsReadAs bytes evict Holds) → Holds (with_evict trace evict) rest
  read_so {Holds} read =
      let same = one_front save_title bytes read.trace trace read.rest rest read.front front in
      subst (λ (t : List ℕ). Holds (with_evict trace evict) t) same.1 (subst (λ (t : Trace). Holds (with_evict t evict) read.rest) same.0 read.holds)

  pub restored_so : (fault : RestoreErr) → Restores bytes evict (Err fault) → fault ≡ NoMemory
  restored_so (Text fault) wrong = absurd (wrong.0 (front_back save_title bytes trace rest fault front wrong.1))
  restored_so (DoesNotFit number most) wrong = absurd (let many = read_so wrong in omega (arith, many.0, many.1, is.fits))
  restored_so (NotLegal k) wrong =
      let first = (read_so wrong).1 in
      absurd (first.here (legal_take machine.image (with_evict trace evict).params (suc k) machine.journal legal_so))
  restored_so (StateDiffers line) wrong =
      let other = read_so wrong in
      let same : state machine.image (with_evict trace evict).params machine.journal ≡ state_of machine =
      ap (λ (p : Parameters). state machine.image p machine.journal) (sym params_are) in
      absurd (other.differs.here (ap (λ (s : MachineState). slice_get (ended_lines (state_part machine.image s)) other.agreed) same))
  restored_so NoMemory wrong = refl

-- ---- what is saved

module _ (trace : Trace) (at evict : ℕ) (of : IsTrace trace) (types : HasTraceTypes trace) (sound : TraceIsSound trace) (few : evict ≤ 255) where
  abbrev kept : List Entry
  kept = kept_by at trace.journal

  abbrev params : Parameters
  params = (with_evict trace evict).params

  calm_is : trace.params ≡ calm params
  calm_is = same_params trace.params 0 of.evict

  legal : IsLegal trace.image trace.params kept
  legal = cut_front trace.image trace.params trace.journal sound.legal at

  legal_again : IsLegal trace.image params kept
  legal_again = legal_back trace.image params kept (subst (λ (p : Parameters). IsLegal trace.image p kept) calm_is legal)

  same_text : checkpoint_text trace.image trace.params kept ≡ checkpoint_text trace.image params kept
  unfolding checkpoint_text front_text params_line
  same_text =
      ap (λ (s : MachineState). save_title ++ (front_text trace.image trace.params kept ++ state_part trace.image s))
      (ap (λ (p : Parameters). state trace.image p kept) calm_is ∙ state_same trace.image params kept)

  pub saved_resumes : IsSomeCheckpoint evict (checkpoint_text trace.image trace.params kept)
  saved_resumes = record {
    machine = record { image = trace.image; parameters = params; journal = kept; joined = 0 };
    is = record {
      evict_is = refl;
      run = record {
        image = of.image;
        parameters = record {
          some_pointer = of.params.some_pointer;
          pointers = of.params.pointers;
          sets = of.params.sets;
          some_limit = of.params.some_limit;
          limit = of.params.limit;
          evict = few;
        };
        legal = legal_again;
        joined = omega arith;
      };
      fits = sound.fits;
      points = of.points;
      words = types.0;
      text = same_text;
    };
  }

-- A turn is a step between messages that come and messages that are given out. A run is steps in a row.
use Rattle.std.proofs.Common.{◌≡◌, ◌||◌, ℕ, suc, ◌+◌, ◌%◌, Bool, true, false, cond, Some, None, Result, Ok, Err, List, [], length, slice_get, refl, sym, ap, subst, ◌∙◌, arith}
use Rattle.alw_num.specs.declared.memory.NoMemory.{NoMemory}
use Rattle.alw_msg.specs.declared.events.Event.{Event}
use Rattle.alw_msg.specs.Lists.{is_nonempty}
use Rattle.alw_cells.specs.declared.cells.Stepped.{Stepped}
use Rattle.alw_cells.specs.declared.cells.Stepped.TheVariants.{Did, Idle}
use Rattle.alw_cells.specs.Cells.{Cell}
use Rattle.alw_cells.specs.Choice.{next_events, is_evicted, asked_eviction, picked_event, StepsCell}
use Rattle.alw_work.specs.Seats.{Seat}
use Rattle.alw_work.specs.Ties.{IsSameButCome, IsSameButGiven}
use Rattle.alw_work.specs.Turns.{has_acted, has_trapped, StepsOnce, IsSameButCell, CellActs, Turns, PicksNoOther, ActsAlone, EndsRun}

or_false : (a : Bool) → a ≡ (a || false)
or_false true = refl
or_false false = refl

given_none : (cell : Cell) → IsSameButGiven cell cell
given_none cell = record { node = refl; log = refl; come = refl; dids = refl }

module _ (pick : ℕ) (before : Seat) where
  -- memory was refused while messages came
  pub turns_none : (after : Seat) (refused : NoMemory) → IsSameButCome before.cell after.cell → IsSameButCell before after → Turns pick before after (Err refused)
  turns_none after refused comes same = record {
    come = after.cell;
    stepped = after.cell;
    number = same.0;
    comes = comes;
    steps = record { answer = Err refused; steps = refl; told = refl; marked = same.1 ∙ or_false before.trapped };
    gives = given_none after.cell;
  }

  -- a step of another mark
  step_of : (come : Cell) (was was_too : Bool) (after : Cell) (now now_too : Bool) (result : Result Bool NoMemory) → was_too ≡ was → now_too ≡ now
      → StepsOnce pick come was after now result → StepsOnce pick come was_too after now_too result
  step_of come was was_too after now now_too result same same_too steps = record {
    answer = steps.answer;
    steps = steps.steps;
    told = steps.told;
    marked = same_too ∙ (steps.marked ∙ ap (λ (b : Bool). b || has_trapped steps.answer) (sym same));
  }

  -- nothing was given out
  pub turns_refused : (come after : Seat) (result : Result Bool NoMemory) → IsSameButCome before.cell come.cell → IsSameButCell before come
      → CellActs pick come after result → Turns pick before after result
  turns_refused come after result comes same acts = record {
    come = come.cell;
    stepped = after.cell;
    number = acts.0 ∙ same.0;
    comes = comes;
    steps = step_of come.cell come.trapped before.trapped after.cell after.trapped after.trapped result (sym same.1) refl acts.1;
    gives = given_none after.cell;
  }

  pub turns : (come stepped after : Seat) (result : Result Bool NoMemory) → IsSameButCome before.cell come.cell → IsSameButCell before come
      → CellActs pick come stepped result → IsSameButGiven stepped.cell after.cell → IsSameButCell stepped after → Turns pick before after result
  turns come stepped after result comes same acts gives same_too = record {
    come = come.cell;
    stepped = stepped.cell;
    number = same_too.0 ∙ (acts.0 ∙ same.0);
    comes = comes;
    steps = step_of come.cell come.trapped before.trapped stepped.cell stepped.trapped after.trapped result (sym same.1) same_too.1 acts.1;
    gives = gives;
  }

-- where no main event may happen no number picks one
picks_none : (cell : Cell) (pick : ℕ) → next_events cell ≡ [] → picked_event cell pick ≡ None
picks_none cell pick none =
    ap (λ (es : List Event). cond (is_nonempty es) (cond (is_evicted cell pick) (Some (asked_eviction cell pick)) (slice_get es (pick % length es))) None) none

-- a step of a cell that each number picks an instruction of was taken, where memory wasn't refused
pub was_taken : (before after : Seat) (acted : Bool) → PicksNoOther before.cell → CellActs 0 before after (Ok acted) → CellActs 0 before after (Ok true)
was_taken before after acted alone acts =
    (acts.0, record { answer = acts.1.answer; steps = acts.1.steps; told = told_by acts.1.answer acts.1.steps acts.1.told; marked = acts.1.marked })
  where
    told_by : (answer : Result Stepped NoMemory) → StepsCell before.cell 0 after.cell answer → Ok acted ≡ has_acted answer → Ok true ≡ has_acted answer
    told_by (Ok (Did entry did)) steps told = refl
    told_by (Ok Idle) steps told = absurd (let none : picked_event before.cell 0 ≡ None = picks_none before.cell 0 steps.0 in let some = alone 0 in cc)
    told_by (Err refused) steps told = absurd (cc)

-- a step to which memory was refused changed nothing
pub was_refused : (before after : Seat) (refused : NoMemory) → CellActs 0 before after (Err refused) → EndsRun 0 before after (Err refused)
was_refused before after refused acts = let same = told_by acts.1.answer acts.1.steps acts.1.told acts.1.marked in (acts.0, same.0, same.1)
  where
    told_by : (answer : Result Stepped NoMemory) → StepsCell before.cell 0 after.cell answer → Err refused ≡ has_acted answer
        → after.trapped ≡ (before.trapped || has_trapped answer) → (after.cell ≡ before.cell) × (after.trapped ≡ before.trapped)
    told_by (Ok (Did entry did)) steps told marked = absurd (cc)
    told_by (Ok Idle) steps told marked = absurd (cc)
    told_by (Err why) steps told marked = (steps, marked ∙ sym (or_false before.trapped))

-- a step behind those before it
pub acts_on : (steps : ℕ) (before between after : Seat) → ActsAlone steps before between → PicksNoOther between.cell → CellActs 0 between after (Ok true)
    → ActsAlone (steps + 1) before after
acts_on steps before between after acts alone last = subst (λ (n : ℕ). ActsAlone n before after) (more steps) (between, (acts, alone, last))
  where
    more : (n : ℕ) → suc n ≡ n + 1
    more n = omega arith

-- What a run tells: the contexts that took turns, the words that they printed, all counts, and the first trapping turn.
use Rattle.std.specs.Prelude.{ℕ, ◌+◌, Option, List, [], ◌∷◌, ◌++◌, map, flat_map}
use Rattle.sparc_table.specs.declared.outcomes.Outcome.{Outcome}
use Rattle.alw_image.specs.declared.parts.Parts.{Parts}
use Rattle.alw_model.specs.declared.ends.TrapAt.{TrapAt}
use Rattle.alw_model.specs.declared.steps.Counts.{Counts}
use Rattle.alw_model.specs.Flat.{print_of}
use Rattle.alw_model.specs.Runs.{Moment, number_of, turn_in}
use Rattle.alw_model.specs.Counts.{counts_of}
use Rattle.alw_model.specs.Ends.{trap_in, first_trap, or_else}

pub record Told : Type 0 where
  pub turns : List ℕ
  pub prints : List (ℕ × ℕ)
  pub counts : Counts
  pub trap : Option TrapAt

-- the turn that an event was, if it was one, as its context and its outcome
abbrev pub turn_at : Parts → Moment → List (ℕ × Outcome)
turn_at parts moment = turn_in parts (number_of moment) moment.stepped.did

-- the contexts of turns, and the words that they printed, each with its context
abbrev pub contexts_of : List (ℕ × Outcome) → List ℕ
contexts_of turns = map (λ turn. turn.0) turns

abbrev pub words_printed : List (ℕ × Outcome) → List (ℕ × ℕ)
words_printed turns = flat_map (λ turn. print_of turn.0 turn.1) turns

-- what a run tells
abbrev pub told_of : Parts → List Moment → Told
told_of parts run = record {
  turns = contexts_of (flat_map (turn_at parts) run);
  prints = words_printed (flat_map (turn_at parts) run);
  counts = counts_of parts run;
  trap = first_trap 0 run;
}

-- the counts of two runs, one behind the other
abbrev pub sum_of : Counts → Counts → Counts
sum_of a b = record {
  entries = a.entries + b.entries;
  turns = a.turns + b.turns;
  misses = a.misses + b.misses;
  evicts = a.evicts + b.evicts;
  rreq = a.rreq + b.rreq;
  wreq = a.wreq + b.wreq;
  repm = a.repm + b.repm;
  update = a.update + b.update;
  ackc = a.ackc + b.ackc;
  rdata = a.rdata + b.rdata;
  wdata = a.wdata + b.wdata;
  inv = a.inv + b.inv;
  busy = a.busy + b.busy;
  hops = a.hops + b.hops;
  handlers = a.handlers + b.handlers;
  spills = a.spills + b.spills;
  replies = a.replies + b.replies;
  used = a.used + b.used;
}

-- what a run and one more event tell, by what the run told
abbrev pub told_with : Parts → Told → Moment → Told
told_with parts told moment = record {
  turns = told.turns ++ contexts_of (turn_at parts moment);
  prints = told.prints ++ words_printed (turn_at parts moment);
  counts = sum_of told.counts (counts_of parts (moment ∷ []));
  trap = or_else told.trap (trap_in told.counts.entries moment moment.stepped.did);
}

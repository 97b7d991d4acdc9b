-- What is found may be next, and is a delivery or an action of the handler.
use Rattle.std.proofs.Common.{◌≡◌, true, List, [], ◌∷◌, ◌++◌, length, sym, ap, ◌∙◌, arith, append_assoc, length-append}
use Rattle.alw_msg.specs.declared.events.Entry.{Entry}
use Rattle.alw_model.specs.Machine.{main_events}
use Rattle.law_turns.specs.Orders.{is_quiet}
use Rattle.alw_mesh.specs.Histories.{History, may_be_next, entry_of}
use Rattle.alw_mesh.proofs.Journals.{journal_fits}
use Rattle.alw_serve.proofs.Finding.{found_passes}
use Rattle.alw_serve.proofs.serving.settle.Goals as goal
use Rattle.alw_num.proofs.Alls.{all_append}

pub take-requires : goal.take-requires
take-requires c =
    let h = c.loop-machine.machine in
    (found_passes (may_be_next h) is_quiet (main_events h.image) c.in-Some.event (sym c.first_quiet.ensures ∙ c.in-Some.is)).0

pub loop-machine-smaller : goal.loop-machine-smaller
loop-machine-smaller c =
    let h = c.loop-machine.machine in
    let passed = c.in_ok-take.ensures.0 in
    let fits = journal_fits c.take.new.self passed.run in
    let longer = ap (λ (x : History). length x.journal) passed.after_is ∙ length-append h.journal (entry_of h c.in-Some.event ∷ []) in
    omega (arith, fits, longer)

pub loop-machine-preserved : goal.loop-machine-preserved
loop-machine-preserved c =
    let h = c.loop-machine.machine in
    let so_far = c.loop-machine.invariant in
    let passed = c.in_ok-take.ensures.0 in
    let entry = entry_of h c.in-Some.event in
    let first : History = c.args.machine.now in
    let quiet = (found_passes (may_be_next h) is_quiet (main_events h.image) c.in-Some.event (sym c.first_quiet.ensures ∙ c.in-Some.is)).1 in
    record {
      more = so_far.more ++ entry ∷ [];
      after_is = passed.after_is ∙ (ap (λ (x : History). record x { journal = x.journal ++ entry ∷ [] }) so_far.after_is ∙ ap (λ (j : List Entry). record first { journal = j }) (append_assoc first.journal so_far.more (entry ∷ [])));
      run = passed.run;
      quiet = all_append (λ (e : Entry). is_quiet e.event ≡ true) so_far.more (entry ∷ []) so_far.quiet (quiet, tt);
    }

-- What is remembered is the lead; pools that have grown leave what was found.
use Rattle.std.proofs.Common.{refl, subst}
use Rattle.alw_places.specs.Threads.{Thread}
use Rattle.alw_outcomes.specs.Leads.{IsLead}
use Rattle.alw_outcomes.specs.declared.explored.Explored.{Explored}
use Rattle.alw_outcomes.proofs.Storing.{IsGrown}
use Rattle.alw_outcomes.proofs.Going.{found_grows, thread_stays, known_stored}
use Rattle.alw_outcomes.proofs.explored.lead_at.Goals as goal

pub returns-in-Some-clause-lead : goal.returns-in-Some-clause-lead
returns-in-Some-clause-lead c =
    let before = c.args.found.now in
    subst (λ (t : Thread). IsLead c.args.image.now before.classes.items c.args.context t before.pools c.in-Some.lead) c.numbers_at-here.ensures.thread
    (c.requires.stored.leads _ c.in-Some.ensures).lead

pub returns-clause-stored : goal.returns-clause-stored
returns-clause-stored c =
    let before = c.args.found.now in
    let after : Explored = record before { pools = c.lead_of.new.pools; leads = c.note.new.self } in
    let grown : IsGrown c.args.image.now before after = record { rest = refl; stored = c.requires.stored; go = c.in_ok-lead.ensures.grow } in
    known_stored c.args.image.now before after (record { at = c.numbers_at-here.result; context = c.args.context; lead = c.in_ok-lead.lead }) grown
    c.numbers_at-here.ensures.inside (rw c.deref.ensures.value at c.in_ok-lead.ensures.lead) c.in_ok-note.ensures

pub returns-clause-same : goal.returns-clause-same
returns-clause-same c =
    let before = c.args.found.now in
    let after : Explored = record before { pools = c.lead_of.new.pools; leads = c.note.new.self } in
    let grown : IsGrown c.args.image.now before after = record { rest = refl; stored = c.requires.stored; go = c.in_ok-lead.ensures.grow } in
    found_grows c.args.image.now before after grown

pub returns-clause-lead : goal.returns-clause-lead
returns-clause-lead c =
    let before = c.args.found.now in
    let after : Explored = record before { pools = c.lead_of.new.pools; leads = c.note.new.self } in
    let grown : IsGrown c.args.image.now before after = record { rest = refl; stored = c.requires.stored; go = c.in_ok-lead.ensures.grow } in
    let same = thread_stays c.args.image.now before after c.args.at c.args.context _ grown c.requires.at c.numbers_at-here.ensures.thread in
    subst (λ (t : Thread). IsLead c.args.image.now before.classes.items c.args.context t c.lead_of.new.pools c.in_ok-lead.lead) same (rw c.deref.ensures.value at c.in_ok-lead.ensures.lead)

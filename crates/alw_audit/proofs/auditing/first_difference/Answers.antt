-- The first of the three tests that finds a difference gives the verdict.
use Rattle.alw_audit.proofs.Exits.{turn_found, print_found, prints_are, words_left}
use Rattle.alw_audit.proofs.Walks.{are_from}
use Rattle.alw_audit.proofs.auditing.first_difference.Goals as goal

pub returns-in-Differs-clause-verdict : goal.returns-in-Differs-clause-verdict
returns-in-Differs-clause-verdict c = turn_found c.args.claim.now c.in_ok-flat.flat c.members.result.now _ _ _ _ c.in_ok-flat.ensures c.members.ensures c.in_ok-turns.ensures.verdict c.in-Differs.is

pub returns-in-Differs-printed-clause-verdict : goal.returns-in-Differs-printed-clause-verdict
returns-in-Differs-printed-clause-verdict c = print_found c.args.claim.now c.in_ok-flat.flat c.members.result.now c.in_ok-turns.turns _ c.members-2.result.now c.members-3.result.now _ _ _ c.in_ok-flat.ensures c.members.ensures c.in_ok-turns.ensures.verdict c.in-Sound.is
    c.members-2.ensures (rw c.members-3.ensures (prints_are c.args.claim.now c.in_ok-flat.flat c.members.result.now _ c.in_ok-flat.ensures c.members.ensures (c.in_ok-turns.ensures.prints c.in-Sound.is))) c.prints_verdict-printed.ensures.verdict c.in-Differs-printed.is

pub words_verdict-requires-clause-words : goal.words_verdict-requires-clause-words
words_verdict-requires-clause-words c = rw c.members-4.ensures (are_from c.args.claim.now.image _ c.requires.memory c.requires.ascends)

pub returns-clause-verdict : goal.returns-clause-verdict
returns-clause-verdict c = words_left c.args.claim.now c.in_ok-flat.flat c.run_turns.new.flat c.members.result.now c.in_ok-turns.turns c.prints_verdict-printed.result _ c.members-2.result.now c.members-3.result.now c.members-4.result.now _ c.in_ok-flat.ensures c.members.ensures c.in_ok-turns.ensures.verdict c.in-Sound.is
    c.members-2.ensures (rw c.members-3.ensures (prints_are c.args.claim.now c.in_ok-flat.flat c.members.result.now _ c.in_ok-flat.ensures c.members.ensures (c.in_ok-turns.ensures.prints c.in-Sound.is))) c.prints_verdict-printed.ensures.verdict c.in-Sound-printed.is
    (c.in_ok-turns.ensures.state c.in-Sound.is) c.members-4.ensures c.lines-lines.ensures.count c.words_verdict.ensures.verdict

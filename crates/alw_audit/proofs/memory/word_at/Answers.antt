use Rattle.alw_audit.proofs.Walks.{not_first}
use Rattle.alw_audit.proofs.memory.word_at.Goals as goal

pub returns-else-word-addr-clause-word : goal.returns-else-word-addr-clause-word
returns-else-word-addr-clause-word c = (not_first c.args.addr c.args.words.now c.in-Some.word.now c.in-Some.behind.now c.in-Some.ensures.cases.0 c.requires.aligned c.if-word-addr.false c.requires.words).0

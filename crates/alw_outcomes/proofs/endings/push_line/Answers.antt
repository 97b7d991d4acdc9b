-- The four words.
use Rattle.std.proofs.Common.{◌+◌, ◌*◌}
use Rattle.alw_num.specs.declared.addresses.TheConstants.{SHARED_BASE}
use Rattle.alw_outcomes.proofs.MemoryWords.{key_line}
use Rattle.alw_outcomes.proofs.endings.push_line.Goals as goal

pub returns : goal.returns
returns c =
    key_line (c.from.result + c.from-2.result * c.from-3.result) (SHARED_BASE + 16 * c.args.line) c.args.body c.args.key.now.items c.push_word.new.key.items c.push_word-2.new.key.items
    c.push_word-3.new.key.items c.push_word-4.new.key.items
    (λ i. c.from.ensures i + c.from-2.ensures i * c.from-3.ensures i) c.in_ok-push_word.ensures c.in_ok-push_word-2.ensures c.in_ok-push_word-3.ensures c.in_ok-push_word-4.ensures

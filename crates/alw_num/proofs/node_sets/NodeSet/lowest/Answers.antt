-- The least member is the lowest one of the first word that isn't 0.
use Rattle.std.proofs.Common.{refl, arith}
use Rattle.std.proofs.lemmas.Bool.{true≢false}
use Rattle.alw_num.proofs.Words.{no_node, no_members, first_member, some_node}
use Rattle.alw_num.proofs.node_sets.NodeSet.lowest.Goals as goal

pub returns-then-word-eq0-clause-none : goal.returns-then-word-eq0-clause-none
returns-then-word-eq0-clause-none c = (λ e. no_node c.args.self.now c.first-first.result c.first-first.ensures.before c.first-first.ensures.last c.if-word-eq0.true, λ e. refl)

pub returns-then-word-eq0-clause-no_members : goal.returns-then-word-eq0-clause-no_members
returns-then-word-eq0-clause-no_members c = no_members c.args.self.now c.first-first.result c.first-first.ensures.before c.first-first.ensures.last c.if-word-eq0.true

pub returns-clause-none : goal.returns-clause-none
returns-clause-none c =
    let some = some_node c.args.self.now c.first-first.result c.first-first.ensures.before c.first-first.ensures.within (omega arith) (omega arith) in
    (λ e. absurd (true≢false e), λ none. absurd (some none))

pub returns-clause-lowest : goal.returns-clause-lowest
returns-clause-lowest c = first_member c.args.self.now c.first-first.result c.first-first.ensures.before c.first-first.ensures.within (omega arith) (omega arith)

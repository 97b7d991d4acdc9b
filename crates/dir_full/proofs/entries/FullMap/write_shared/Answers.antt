-- By whether there are other sharers.
use Rattle.std.proofs.Common.{refl, ap, ◌∙◌}
use Rattle.std.proofs.lemmas.Bool.{false≢true}
use Rattle.alw_num.specs.NodeSets.{nodes_of, drop_node}
use Rattle.alw_model.specs.FullMap.{Home}
use Rattle.dir_full.proofs.SharedWrites.{others_fit, alone, more}
use Rattle.dir_full.proofs.entries.FullMap.write_shared.Goals as goal

pub invalidate-requires : goal.invalidate-requires
invalidate-requires c = others_fit _ _ _ _ (rw (← c.self.view_is) at c.requires.room) c.without-others.ensures

pub returns-then-is_empty-clause-entry : goal.returns-then-is_empty-clause-entry
returns-then-is_empty-clause-entry c =
    let dropped = c.without-others.ensures ∙ ap (λ (h : Home). drop_node h.pointers c.args.msg.now.src.0) c.self.view_is in
    let none = alone c.args.self.now c.args.msg.now.src.0 (nodes_of c.without-others.result) dropped (c.if-is_empty.ensures.0 refl) in
    rw (none, ← c.self.view_is, c.with-self-inside.ensures, c.empty.ensures) refl

pub returns-then-is_empty-clause-sends : goal.returns-then-is_empty-clause-sends
returns-then-is_empty-clause-sends c =
    let dropped = c.without-others.ensures ∙ ap (λ (h : Home). drop_node h.pointers c.args.msg.now.src.0) c.self.view_is in
    let none = alone c.args.self.now c.args.msg.now.src.0 (nodes_of c.without-others.result) dropped (c.if-is_empty.ensures.0 refl) in
    rw (none, ← c.self.view_is) c.push.ensures

pub returns-else-is_empty-clause-entry : goal.returns-else-is_empty-clause-entry
returns-else-is_empty-clause-entry c =
    let dropped = c.without-others.ensures ∙ ap (λ (h : Home). drop_node h.pointers c.args.msg.now.src.0) c.self.view_is in
    let some = more c.args.self.now c.args.msg.now.src.0 (nodes_of c.without-others.result) dropped (λ e. false≢true (c.if-is_empty.ensures.1 e)) in
    rw (some, ← c.self.view_is, c.with-self-inside.ensures, c.empty.ensures, c.count-self-inside.ensures) refl

pub returns-else-is_empty-clause-sends : goal.returns-else-is_empty-clause-sends
returns-else-is_empty-clause-sends c =
    let dropped = c.without-others.ensures ∙ ap (λ (h : Home). drop_node h.pointers c.args.msg.now.src.0) c.self.view_is in
    let some = more c.args.self.now c.args.msg.now.src.0 (nodes_of c.without-others.result) dropped (λ e. false≢true (c.if-is_empty.ensures.1 e)) in
    rw some c.invalidate.ensures

use Rattle.std.proofs.Common.{sym, rules}
use Rattle.std.proofs.lemmas.List.Sorted.{answers_always}
use Rattle.alw_image.proofs.Searches.{body_answers}
use Rattle.alw_image.proofs.images.Image.body.Goals as goal

-- the closure gives a data line's number
pub returns-in-Ok : goal.returns-in-Ok
returns-in-Ok c =
    let facts = c.binary_search_by_key.ensures in
    let by_key = facts.position (λ entry. entry.0.0) (answers_always _ _ _ (λ f a r g called. search rules)) in
    let answers = body_answers c.members-bodies.result.now (rw c.members-bodies.ensures c.self.invariant.bodies_ascend) c.args.line.0 _ facts.bound by_key in
    rw (← c.self.view_is, ← c.members-bodies.ensures) (sym ((rw c.in-Ok.is at answers.found) _))

pub returns-in-Err : goal.returns-in-Err
returns-in-Err c =
    let facts = c.binary_search_by_key.ensures in
    let by_key = facts.position (λ entry. entry.0.0) (answers_always _ _ _ (λ f a r g called. search rules)) in
    let answers = body_answers c.members-bodies.result.now (rw c.members-bodies.ensures c.self.invariant.bodies_ascend) c.args.line.0 _ facts.bound by_key in
    rw (← c.self.view_is, ← c.members-bodies.ensures) (sym (rw c.in-Err.is at answers.missing))

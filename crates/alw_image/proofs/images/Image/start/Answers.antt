use Rattle.std.proofs.Common.{sym, rules}
use Rattle.std.proofs.lemmas.Fn.{always_returns_same}
use Rattle.alw_image.specs.Images.{context_started}
use Rattle.alw_image.proofs.Searches.{image_starts}
use Rattle.alw_image.proofs.images.Image.start.Goals as goal

-- the closure gives the number of a start's context
pub returns-in-Ok : goal.returns-in-Ok
returns-in-Ok c =
    let search_is = c.binary_search_by_key.ensures in
    let by_key = search_is.position (context_started c.self.inside.parts) (always_returns_same _ _ _ (λ a r f called. search rules)) in
    let answers = image_starts c.self.inside.parts c.self.invariant _ c.members-starts.ensures c.args.context _ search_is.bound by_key in
    rw (← c.self.view_is) (sym ((rw c.in-Ok.is at answers.found) _))

pub returns-in-Err : goal.returns-in-Err
returns-in-Err c =
    let search_is = c.binary_search_by_key.ensures in
    let by_key = search_is.position (context_started c.self.inside.parts) (always_returns_same _ _ _ (λ a r f called. search rules)) in
    let answers = image_starts c.self.inside.parts c.self.invariant _ c.members-starts.ensures c.args.context _ search_is.bound by_key in
    rw (← c.self.view_is) (sym (rw c.in-Err.is at answers.missing))

-- The least head's stamp is that of the next entry.
use Rattle.std.proofs.Common.{◌≡◌, ℕ, Option, IfNone, [], sym, subst, ap, ◌∙◌}
use Rattle.alw_msg.specs.Lists.{front}
use Rattle.alw_model.specs.Threads.{merged}
use Rattle.alw_merge.specs.Spans.{is_behind}
use Rattle.alw_merge.proofs.Stepping.{at_end, stamp_is_behind, none_is_behind}
use Rattle.alw_merge.proofs.streams.Stream.is_past.Goals as goal

pub returns-in-Some-Some : goal.returns-in-Some-Some
returns-in-Some-Some c =
    stamp_is_behind c.self.invariant c.in-Some-Some.ensures.least c.stamp_in.ensures c.in-Some-Some.end
    ∙ (λ x. is_behind (sym c.in-Some-Some.is-1 x) (front (merged (c.self.view_is x))))

pub returns-in-Some-None : goal.returns-in-Some-None
returns-in-Some-None c =
    none_is_behind c.self.invariant c.in-Some-None.ensures.least
    ∙ (λ x. is_behind (sym c.in-Some-None.is-1 x) (front (merged (c.self.view_is x))))

pub returns-in-None-default : goal.returns-in-None-default
returns-in-None-default c =
    let heads = c.self.inside.heads.heads in
    let no_head = subst (λ (o : Option ℕ). IfNone o (heads ≡ [])) c.in-None-default.is-0 c.least.ensures.none in
    let none = at_end c.self.inside.readings.items c.self.inside.heads c.self.invariant no_head in
    sym (ap (λ entries. is_behind c.args.end (front entries)) none) ∙ ap (λ logs. is_behind c.args.end (front (merged logs))) c.self.view_is

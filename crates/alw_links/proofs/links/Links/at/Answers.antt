use Rattle.std.proofs.Common.{List, slice_get, refl, ap, ◌∙◌}
use Rattle.std.proofs.lemmas.Iterator.Consumers.{nth_from_yields_List, YieldsList-from_first}
use Rattle.alw_msg.specs.declared.messages.Msg.{Msg}
use Rattle.alw_links.proofs.links.Links.at.Goals as goal

pub returns : goal.returns
returns c =
    c.copied.ensures ∙ (nth_from_yields_List c.nth.result c.nth.new.self c.args.i c.nth.ensures.ran (YieldsList-from_first (λ y. y.now) (λ rest. rest) _ refl)
    ∙ ap (λ (msgs : List Msg). slice_get msgs c.args.i) c.link.ensures)

-- The messages of the link are tested by what they say.
use Rattle.std.proofs.Common.{sym, ◌∙◌}
use Rattle.alw_msg.specs.Contents.{reply_in}
use Rattle.alw_model.specs.LineInvariant.{data_holds}
use Rattle.alw_laws.specs.Views.{node_in}
use Rattle.alw_laws.proofs.Links.{all_said}
use Rattle.alw_laws.proofs.parts.Part.data_holds.Goals as goal

pub returns : goal.returns
unfolding node_in
returns c =
    let view = c.self.inside.view.now in
    rw (← c.self.view_is) (c.data_holds.ensures ∙ sym (all_said reply_in view.line.0 view.at.0 c.self.inside.number.0 (data_holds c.args.value) view.links))

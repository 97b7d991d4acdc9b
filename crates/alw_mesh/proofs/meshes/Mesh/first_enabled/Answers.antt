-- The first event of the first node that has one.
use Rattle.std.proofs.Common.{◌<◌, sym, ◌∙◌, arith}
use Rattle.alw_image.specs.Images.{node_count}
use Rattle.alw_model.specs.Machine.{is_enabled}
use Rattle.alw_mesh.specs.Ends.{node_events}
use Rattle.alw_mesh.proofs.Endings.{at_first, at_others}
use Rattle.alw_mesh.proofs.meshes.Mesh.first_enabled.Goals as goal

pub returns-in-Some : goal.returns-in-Some
returns-in-Some c =
    let grid = c.args.self.now in
    let within : c.loop-n.n < node_count grid.image = omega (arith, c.loop-n-test.true, c.count-n-end.ensures) in
    let found = sym c.first_of.ensures ∙ c.in-Some.is in
    sym (c.loop-n.invariant ∙ at_first (is_enabled grid.image grid.parameters grid.machine) (node_events grid.image) c.loop-n.n (node_count grid.image) c.in-Some.event within found)

pub loop-n-preserved : goal.loop-n-preserved
loop-n-preserved c =
    let grid = c.args.self.now in
    let within : c.loop-n.n < node_count grid.image = omega (arith, c.loop-n-test.true, c.count-n-end.ensures) in
    let none = sym c.first_of.ensures ∙ c.in_default.is in
    c.loop-n.invariant ∙ at_others (is_enabled grid.image grid.parameters grid.machine) (node_events grid.image) c.loop-n.n (node_count grid.image) within none

-- The first delivery that is enabled, where neither an instruction nor the handler is.
use Rattle.std.proofs.Common.{ℕ, ◌<◌, sym, ◌∙◌, arith}
use Rattle.alw_msg.specs.declared.events.Event.TheVariants.{Deliver}
use Rattle.alw_image.specs.Images.{node_count}
use Rattle.alw_model.specs.Machine.{is_enabled}
use Rattle.alw_mesh.proofs.Endings.{one_first, one_others}
use Rattle.alw_mesh.proofs.meshes.Mesh.first_of.Goals as goal

pub returns-then-is_enabled-3 : goal.returns-then-is_enabled-3
returns-then-is_enabled-3 c =
    let grid = c.args.self.now in
    let within : c.loop-from.from < node_count grid.image = omega (arith, c.loop-from-test.true, c.count-from-end.ensures) in
    let passes = sym c.is_enabled-in-loop-from.ensures ∙ c.if-is_enabled-3.true in
    sym (c.loop-from.invariant ∙ one_first (is_enabled grid.image grid.parameters grid.machine) (λ (from : ℕ). Deliver (record { 0 = from }) c.args.node) c.loop-from.from (node_count grid.image) within passes)

pub loop-from-preserved : goal.loop-from-preserved
loop-from-preserved c =
    let grid = c.args.self.now in
    let within : c.loop-from.from < node_count grid.image = omega (arith, c.loop-from-test.true, c.count-from-end.ensures) in
    let fails = sym c.is_enabled-in-loop-from.ensures ∙ c.if-is_enabled-3.false in
    c.loop-from.invariant ∙ one_others (is_enabled grid.image grid.parameters grid.machine) (λ (from : ℕ). Deliver (record { 0 = from }) c.args.node) c.loop-from.from (node_count grid.image) within fails

-- A set more.
use Rattle.std.proofs.Common.{ℕ, List, ◌++◌, ap, ◌∙◌, arith}
use Rattle.std.specs.Option.{option_map}
use Rattle.alw_image.specs.Parameters.{Parameters}
use Rattle.alw_mesh.specs.Readings.{node_in}
use Rattle.alw_save.specs.Lines.{cache_line}
use Rattle.alw_save.specs.Waiting.{copy_of}
use Rattle.alw_save.proofs.Keys.{from_start, key_done, all_done}
use Rattle.alw_save.proofs.Held.{no_more_sets, told_copy}
use Rattle.alw_save.proofs.maps.put_copies.Goals as goal

pub loop-set-init : goal.loop-set-init
loop-set-init c = ap (λ (t : List ℕ). c.args.text.now ++ t) (from_start cache_line (node_in c.args.machine.now c.args.n.0).cache)

pub loop-set-preserved : goal.loop-set-preserved
loop-set-preserved c =
    key_done cache_line (node_in c.args.machine.now c.args.n.0).cache _ _ c.loop-set.set _ _ c.loop-set.invariant c.in_ok-put_set.ensures
    (ap (option_map copy_of) c.cached.ensures ∙ told_copy _)

pub returns : goal.returns
returns c =
    all_done cache_line (node_in c.args.machine.now c.args.n.0).cache _ _ c.loop-set.set
    (λ k l. no_more_sets c.args.machine.now c.journal-run.ensures.run c.args.n.0 c.requires k
    (omega (arith, l, c.loop-set-test.false, c.sets-set-end.ensures.value, ap (λ (p : Parameters). p.sets) c.params.ensures))) c.loop-set.invariant

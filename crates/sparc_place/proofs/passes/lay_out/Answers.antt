use Rattle.std.proofs.Common.{◌∙◌, arith}
use Rattle.sparc_asm.proofs.Reading.{pushed_length}
use Rattle.sparc_place.specs.Places.{nothing_laid, places_of}
use Rattle.sparc_place.specs.Plans.{layout_of}
use Rattle.sparc_place.proofs.Walks.{more_places, more_listed, stops}
use Rattle.sparc_place.proofs.passes.lay_out.Goals as goal

pub returns-in-Err : goal.returns-in-Err
returns-in-Err c = stops c.args.lines.now c.loop-i.i c.at_ref.result.now (layout_of c.loop-i.plan) (layout_of c.lay.new.self) c.in-Err.e _ (places_of nothing_laid c.args.lines.now) c.at_ref.ensures c.loop-i.invariant.wanted c.in-Err.ensures

pub loop-i-preserved : goal.loop-i-preserved
loop-i-preserved c = record {
  wanted = c.loop-i.invariant.wanted ∙ more_places c.args.lines.now c.loop-i.i c.at_ref.result.now (layout_of c.loop-i.plan) (layout_of c.lay.new.self) c.in-Ok.place c.at_ref.ensures c.in-Ok.ensures;
  listed = c.loop-i.invariant.listed ∙ more_listed c.args.lines.now c.loop-i.i c.at_ref.result.now (layout_of c.loop-i.plan) (layout_of c.lay.new.self) c.in-Ok.place c.loop-i.all _ c.at_ref.ensures c.in-Ok.ensures c.in_ok-push-in-Ok.ensures.ok;
  count = omega (arith, pushed_length _ _ _ c.in_ok-push-in-Ok.ensures.ok);
}

use Rattle.std.proofs.Common.{◌+◌, ◌∙◌, ap, arith, length}
use Rattle.sparc_asm.specs.Names.{value_in}
use Rattle.sparc_asm.proofs.LineRanges.{line_fits_at}
use Rattle.sparc_place.specs.Places.{nothing_laid, behind}
use Rattle.sparc_place.specs.Plans.{layout_of}
use Rattle.sparc_assemble.specs.Assembly.{nothing_filled, all_filled}
use Rattle.sparc_assemble.specs.Fillings.{filled_of}
use Rattle.sparc_assemble.proofs.Walks.{as_many, place_here, sound_here, room_here, count_here, more_values, refused, more_filled}
use Rattle.sparc_assemble.proofs.fillings.fill_in.Goals as goal

pub at-place-requires : goal.at-place-requires
at-place-requires c = omega (arith, ap length c.requires.placed, as_many nothing_laid c.args.lines.now)

pub fill_line-requires-clause-room : goal.fill_line-requires-clause-room
fill_line-requires-clause-room c =
    let i = c.loop-i.invariant in
    let at = place_here i.before c.args.laid.now.places c.args.lines.now c.loop-i.i c.at_ref.result.now c.at-place.result c.at_ref.ensures c.at-place.ensures i.placed in
    let sound = sound_here i.before c.args.lines.now c.loop-i.i c.at_ref.result.now (layout_of c.args.laid.now.plan) c.at_ref.ensures i.laid in
    room_here (value_in c.names-names.result.now) 0 (c.loop-i.i + 1) i.before c.at_ref.result.now c.at-place.result (filled_of c.loop-i.filling) sound.0 at.0 i.count i.few

pub fill_line-requires-clause-fits : goal.fill_line-requires-clause-fits
fill_line-requires-clause-fits c = line_fits_at c.args.lines.now c.loop-i.i c.at_ref.result.now c.requires.fits c.at_ref.ensures

pub loop-i-preserved : goal.loop-i-preserved
loop-i-preserved c =
    let i = c.loop-i.invariant in
    let names = ap value_in c.names-names.ensures in
    let done = rw (c.names-names.ensures, c.code.ensures.count) at c.in-Ok.ensures in
    let at = place_here i.before c.args.laid.now.places c.args.lines.now c.loop-i.i c.at_ref.result.now c.at-place.result c.at_ref.ensures c.at-place.ensures i.placed in
    let sound = sound_here i.before c.args.lines.now c.loop-i.i c.at_ref.result.now (layout_of c.args.laid.now.plan) c.at_ref.ensures i.laid in
    let size = count_here (value_in c.args.laid.now.plan.names) c.args.laid.now.plan.cursor.code (c.loop-i.i + 1) i.before c.at_ref.result.now c.at-place.result (filled_of c.loop-i.filling) (filled_of c.fill_line.new.self) sound.0 at.0 i.count i.few done.0 done.1 in
    record {
      before = behind i.before c.at_ref.result.now;
      laid = sound.1;
      placed = at.1;
      count = size.0;
      few = size.1;
      fault = i.fault ∙ more_values (value_in c.args.laid.now.plan.names) c.args.laid.now.plan.cursor.code c.args.laid.now.places c.args.lines.now c.loop-i.i c.at_ref.result.now c.at-place.result c.at_ref.ensures c.at-place.ensures done.0;
      filled = i.filled ∙ more_filled (value_in c.args.laid.now.plan.names) c.args.laid.now.places c.args.lines.now c.loop-i.i c.at_ref.result.now c.at-place.result (filled_of c.loop-i.filling) (filled_of c.fill_line.new.self) c.at_ref.ensures c.at-place.ensures done.1;
    }

pub returns-in-Err-clause-filled : goal.returns-in-Err-clause-filled
returns-in-Err-clause-filled c =
    let i = c.loop-i.invariant in
    rw c.refused_at.ensures (refused (value_in c.args.laid.now.plan.names) (value_in c.names-names.result.now) c.args.laid.now.plan.cursor.code c.code.result c.args.laid.now.places c.args.lines.now c.loop-i.i c.at_ref.result.now c.at-place.result (filled_of c.loop-i.filling) (filled_of c.fill_line.new.self) c.in-Err.refusal _ (all_filled (value_in c.args.laid.now.plan.names) 1 c.args.laid.now.places c.args.lines.now nothing_filled) c.at_ref.ensures c.at-place.ensures (ap value_in c.names-names.ensures) c.code.ensures.count i.fault c.in-Err.ensures)

-- What code says of a turn is its effect.
use Rattle.std.proofs.Common.{arith, refl}
use Rattle.sparc_table.proofs.Effects.{turn_exists}
use Rattle.alw_image.specs.Images.{line_count}
use Rattle.alw_places.proofs.Lefts.{effect_on, effect_alone, wrote_within}
use Rattle.alw_places.proofs.turns.run.Goals as goal

pub value-requires : goal.value-requires
value-requires c = omega (arith, c.requires, turn_exists c.args.image.now.code c.args.regs.now (line_count c.args.image.now) c.in-Some.line c.in-Some.mode c.in-Some.ensures.some)

pub returns-in-Some-clause-effect : goal.returns-in-Some-clause-effect
returns-in-Some-clause-effect c =
    effect_on c.args.image.now c.args.memory.now c.args.regs.now c.in-Some.line c.in-Some.mode c.run_on.result c.in-Some.ensures.some (rw c.value.ensures at c.run_on.ensures)

pub returns-in-Some-clause-line : goal.returns-in-Some-clause-line
returns-in-Some-clause-line c =
    wrote_within _ c.in-Some.line c.in-Some.mode c.run_on.result c.args.memory.now
    (omega (arith, c.requires, turn_exists c.args.image.now.code c.args.regs.now (line_count c.args.image.now) c.in-Some.line c.in-Some.mode c.in-Some.ensures.some)) c.run_on.ensures

pub returns-in-None-clause-effect : goal.returns-in-None-clause-effect
returns-in-None-clause-effect c = effect_alone c.args.image.now c.args.memory.now c.args.regs.now c.run_alone.result _ c.in-None.ensures.none refl c.run_alone.ensures

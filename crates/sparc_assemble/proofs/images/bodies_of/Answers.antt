use Rattle.std.proofs.Common.{◌≡◌, [], ◌∷◌, ◌++◌, ◌∙◌, ap, sym, arith, slice_index}
use Rattle.sparc_asm.proofs.Reading.{pushed_length}
use Rattle.sparc_assemble.specs.Assembly.{gathered, data_line}
use Rattle.sparc_assemble.proofs.Gathering.{with_more, listed, all_lines}
use Rattle.sparc_assemble.proofs.images.bodies_of.Goals as goal

pub loop-number-preserved : goal.loop-number-preserved
loop-number-preserved c =
    let found : data_line (slice_index c.args.memory.now) c.loop-number.number ≡ (record { 0 = c.loop-number.number }, c.body_at-body.result) ∷ [] = listed (slice_index c.args.memory.now) c.loop-number.number c.body_at-body.result c.body_at-body.ensures (sym c.if-is_zero.ensures) in
    record {
      found = with_more (data_line (slice_index c.args.memory.now)) c.loop-number.number c.loop-number.bodies c.push.new.self c.loop-number.invariant.found (c.in_ok-push.ensures.ok ∙ ap (λ xs. c.loop-number.bodies ++ xs) (sym found));
      count = omega (arith, pushed_length _ _ _ c.in_ok-push.ensures.ok);
    }

pub returns : goal.returns
returns c =
    let end : c.loop-number.number ≡ c.lines-number-end.result = omega arith in
    c.loop-number.invariant.found ∙ ap (gathered (data_line (slice_index c.args.memory.now))) end ∙ all_lines c.args.memory.now c.lines-number-end.result c.args.count c.lines-number-end.ensures.few c.lines-number-end.ensures.rest

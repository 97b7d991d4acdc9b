use Rattle.std.proofs.Common.{◌≡◌, ◌∙◌, sym, ap, arith, is_none, true, false}
use Rattle.std.proofs.lemmas.Bool.{true≢false}
use Rattle.sparc_asm.specs.Names.{value_in}
use Rattle.sparc_asm.specs.Values.{value_of}
use Rattle.sparc_asm.proofs.Reading.{pushed_length}
use Rattle.sparc_assemble.specs.Assembly.{is_outside, datum, modulus_of}
use Rattle.sparc_assemble.specs.Data.{is_unknown_in}
use Rattle.sparc_assemble.proofs.Spellings.{any_here, any_behind, map_from, range_fault}
use Rattle.sparc_assemble.proofs.data.data_values.Goals as goal

pub returns-in-Some-2 : goal.returns-in-Some-2
returns-in-Some-2 c = range_fault (value_in c.args.names.now) c.args.here c.args.width c.args.values.now c.loop-i.i c.at_ref.result.now c.in-Some.value c.at_ref.ensures c.in-Some.ensures (sym c.if-is_datum.ensures) (sym c.if-is_unknown_in.ensures) c.loop-i.invariant.outside

pub returns-in-None : goal.returns-in-None
returns-in-None c =
    let none : is_none (value_of (value_in c.args.names.now) c.args.here c.at_ref.result.now) ≡ true = ap is_none (sym c.in-None.ensures) in
    let found : is_unknown_in (value_in c.args.names.now) c.args.here c.args.values.now ≡ true = c.loop-i.invariant.unknown ∙ any_here (λ e. is_none (value_of (value_in c.args.names.now) c.args.here e)) c.args.values.now c.loop-i.i c.at_ref.result.now c.at_ref.ensures none in
    absurd (true≢false (sym found ∙ sym c.if-is_unknown_in.ensures))

pub loop-i-preserved : goal.loop-i-preserved
loop-i-preserved c =
    let known : is_none (value_of (value_in c.args.names.now) c.args.here c.at_ref.result.now) ≡ false = ap is_none (sym c.in-Some.ensures) in
    let within : is_outside c.args.width (value_of (value_in c.args.names.now) c.args.here c.at_ref.result.now) ≡ false = rw (sym c.in-Some.ensures, sym c.if-is_datum.ensures) in
    let value : c.within.result ≡ datum (value_in c.args.names.now) c.args.here (modulus_of c.args.width) c.at_ref.result.now = rw (sym c.in-Some.ensures) c.within.ensures in
    record {
      unknown = c.loop-i.invariant.unknown ∙ any_behind (λ e. is_none (value_of (value_in c.args.names.now) c.args.here e)) c.args.values.now c.loop-i.i c.at_ref.result.now c.at_ref.ensures known;
      outside = c.loop-i.invariant.outside ∙ any_behind (λ e. is_outside c.args.width (value_of (value_in c.args.names.now) c.args.here e)) c.args.values.now c.loop-i.i c.at_ref.result.now c.at_ref.ensures within;
      found = c.loop-i.invariant.found ∙ map_from (datum (value_in c.args.names.now) c.args.here (modulus_of c.args.width)) c.args.values.now c.loop-i.i c.at_ref.result.now c.within.result c.loop-i.all _ c.at_ref.ensures value c.in_ok-push-in-Some.ensures.ok;
      count = omega (arith, pushed_length _ _ _ c.in_ok-push-in-Some.ensures.ok);
    }

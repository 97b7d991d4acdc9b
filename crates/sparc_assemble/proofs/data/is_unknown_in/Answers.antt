use Rattle.std.proofs.Common.{◌∙◌, sym, ap, is_none}
use Rattle.sparc_asm.specs.Names.{value_in}
use Rattle.sparc_asm.specs.Values.{value_of}
use Rattle.sparc_assemble.proofs.Spellings.{any_here, any_behind}
use Rattle.sparc_assemble.proofs.data.is_unknown_in.Goals as goal

pub returns-in-None : goal.returns-in-None
returns-in-None c = sym (c.loop-i.invariant ∙ any_here (λ e. is_none (value_of (value_in c.args.names.now) c.args.here e)) c.args.values.now c.loop-i.i c.at_ref.result.now c.at_ref.ensures (ap is_none (sym c.in-None.ensures)))

pub loop-i-preserved : goal.loop-i-preserved
loop-i-preserved c = c.loop-i.invariant ∙ any_behind (λ e. is_none (value_of (value_in c.args.names.now) c.args.here e)) c.args.values.now c.loop-i.i c.at_ref.result.now c.at_ref.ensures (ap is_none (sym c.in-Some.ensures))

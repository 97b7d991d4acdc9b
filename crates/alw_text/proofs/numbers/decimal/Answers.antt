use Rattle.std.proofs.Common.{refl}
use Rattle.std.proofs.lemmas.Bool.{false≢true}
use Rattle.alw_text.proofs.Numerals.{found, leading_zero, no_number}
use Rattle.alw_text.proofs.numbers.decimal.Goals as goal

pub returns-in-Some-clause-found : goal.returns-in-Some-clause-found
returns-in-Some-clause-found c = found c.args.bytes.now c.in-Some.number c.in-Some.ensures (λ zeros. absurd (false≢true (c.if-not-has_leading_zero.ensures.1 zeros)))

pub returns-in_default-clause-none : goal.returns-in_default-clause-none
returns-in_default-clause-none c = leading_zero c.args.bytes.now (c.if-not-has_leading_zero.ensures.0 refl)

pub returns-in_default-2-clause-none : goal.returns-in_default-2-clause-none
returns-in_default-2-clause-none c = no_number c.args.bytes.now c.in_default.ensures

use Rattle.std.proofs.Common.{◌<◌, ◌⊎◌, ◌&&◌, nat_le, inl, inr, sym, arith}
use Rattle.alw_config.proofs.Spelled.{passes_if, fails_if, is_between, is_outside}
use Rattle.alw_config.proofs.lookups.number_between.Goals.{else-least-number-via-then-least-number+else-number-most, else-least-number-via-else-least-number}
use Rattle.alw_config.proofs.lookups.number_between.Goals as goal

pub returns-then-number-most : goal.returns-then-number-most
returns-then-number-most c =
    let n = c.in_ok-number.number in
    let found = c.in_ok-number.ensures in
    sym (passes_if (λ n. nat_le c.args.least n && nat_le n c.args.most) c.args.word.now n found.found found.range
    (is_between c.args.least c.args.most n c.if-least-number.true c.if-number-most.true))

pub returns-else-least-number : goal.returns-else-least-number
returns-else-least-number c =
    let n = c.in_ok-number.number in
    let found = c.in_ok-number.ensures in
    sym (fails_if (λ n. nat_le c.args.least n && nat_le n c.args.most) c.args.word.now n found.found found.range (is_outside c.args.least c.args.most n far))
  where
    far : (c.in_ok-number.number < c.args.least) ⊎ (c.args.most < c.in_ok-number.number)
    far = elim c.else-least-number.branch [
      | else-least-number-via-then-least-number+else-number-most w ↦ inr (omega arith)
      | else-least-number-via-else-least-number w ↦ inl (omega arith)
    ]

-- The place at hand is the line's, or it isn't, or the chain has ended.
use Rattle.std.proofs.Common.{sym, ◌∙◌}
use Rattle.dir_soft.proofs.Walks.{starts, stands, shorter, goes_on, ends_at, ends, next-read, line-read}
use Rattle.dir_soft.proofs.places.find.Goals as goal

pub loop-at-init : goal.loop-at-init
loop-at-init c = starts c.args.places.now c.args.line c.args.first

pub bounds-places-at : goal.bounds-places-at
bounds-places-at c = stands _ c.args.line _ c.loop-at.before _ c.requires c.loop-at.invariant c.loop-at-test.true

pub returns-then-place-line-clause-found : goal.returns-then-place-line-clause-found
returns-then-place-line-clause-found c = λ chain path. ends_at _ c.args.line _ _ chain (c.loop-at.invariant chain path) c.loop-at-test.true

pub returns-then-place-line-clause-line : goal.returns-then-place-line-clause-line
returns-then-place-line-clause-line c =
    let within = stands _ c.args.line _ c.loop-at.before _ c.requires c.loop-at.invariant c.loop-at-test.true in
    sym (line-read c.args.places.now c.loop-at.at _ within) ∙ c.if-place-line.true

pub returns-then-place-line-clause-within : goal.returns-then-place-line-clause-within
returns-then-place-line-clause-within c = stands _ c.args.line _ c.loop-at.before _ c.requires c.loop-at.invariant c.loop-at-test.true

pub loop-at-smaller : goal.loop-at-smaller
loop-at-smaller c =
    let within = stands _ c.args.line _ c.loop-at.before _ c.requires c.loop-at.invariant c.loop-at-test.true in
    shorter _ c.args.line _ c.loop-at.before _ _ c.requires c.loop-at.invariant c.loop-at-test.true (next-read c.args.places.now c.loop-at.at _ within)

pub loop-at-preserved : goal.loop-at-preserved
loop-at-preserved c =
    let within = stands _ c.args.line _ c.loop-at.before _ c.requires c.loop-at.invariant c.loop-at-test.true in
    λ chain path. goes_on _ c.args.line _ _ _ chain (c.loop-at.invariant chain path) c.loop-at-test.true (next-read c.args.places.now c.loop-at.at _ within)
    (λ same. c.if-place-line.false (line-read c.args.places.now c.loop-at.at _ within ∙ same))

pub returns-clause-none : goal.returns-clause-none
returns-clause-none c = λ chain path. ends _ c.args.line _ _ _ chain c.requires (c.loop-at.invariant chain path) c.loop-at-test.false

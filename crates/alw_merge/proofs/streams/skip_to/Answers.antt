-- One event more is given, until one is at the stamp or behind it.
use Rattle.std.proofs.Common.{sym, ◌∙◌, arith}
use Rattle.alw_merge.proofs.Skipping.{skipping_begins, skips_on, skips_less, skipped_to, skipped_all}
use Rattle.alw_merge.proofs.streams.skip_to.Goals as goal

pub loop-entry-init : goal.loop-entry-init
loop-entry-init c = skipping_begins c.args.reading.now c.requires.ascends c.next-entry.ensures.reading c.next-entry.ensures.entry

pub returns-then-stamp-from-clause-entry : goal.returns-then-stamp-from-clause-entry
returns-then-stamp-from-clause-entry c = sym c.in-Some.is ∙ c.loop-entry.invariant.entry_is

pub returns-then-stamp-from-clause-left : goal.returns-then-stamp-from-clause-left
returns-then-stamp-from-clause-left c = skipped_to c.loop-entry.invariant c.in-Some.is (omega (arith, c.if-stamp-from.true, c.from.ensures))

pub returns-then-stamp-from-clause-ends : goal.returns-then-stamp-from-clause-ends
returns-then-stamp-from-clause-ends c = c.loop-entry.invariant.ends

pub returns-then-stamp-from-clause-ascends : goal.returns-then-stamp-from-clause-ascends
returns-then-stamp-from-clause-ascends c = c.loop-entry.invariant.ascends

pub loop-entry-smaller : goal.loop-entry-smaller
loop-entry-smaller c = skips_less c.loop-entry.invariant c.in-Some.is c.next-entry-in-Some.ensures.reading

pub loop-entry-preserved : goal.loop-entry-preserved
loop-entry-preserved c =
    skips_on c.loop-entry.invariant c.in-Some.is (omega (arith, c.if-stamp-from.false, c.from.ensures)) c.next-entry-in-Some.ensures.reading
    c.next-entry-in-Some.ensures.entry

pub returns-clause-entry : goal.returns-clause-entry
returns-clause-entry c = sym c.in_default.is ∙ c.loop-entry.invariant.entry_is

pub returns-clause-left : goal.returns-clause-left
returns-clause-left c = skipped_all c.loop-entry.invariant c.in_default.is

pub returns-clause-ends : goal.returns-clause-ends
returns-clause-ends c = c.loop-entry.invariant.ends

pub returns-clause-ascends : goal.returns-clause-ascends
returns-clause-ascends c = c.loop-entry.invariant.ascends

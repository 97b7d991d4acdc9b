-- What the slot that was found has opened, or none.
use Rattle.std.proofs.Common.{sym, ap}
use Rattle.std.specs.Option.{option_map}
use Rattle.alw_proc.specs.Openings.{told_of}
use Rattle.alw_proc.proofs.OpeningMaps.{found_at, none_told}
use Rattle.alw_proc.proofs.openings.Openings.of.Goals as goal

pub returns-in_ok-opening-in-Some : goal.returns-in_ok-opening-in-Some
returns-in_ok-opening-in-Some c =
    rw (← c.self.view_is) (sym (ap (option_map told_of) (found_at c.self.inside.slots c.in-Some.slot c.args.line.0 _ c.self.invariant.1 c.in_ok-opening-in-Some.was c.in-Some.ensures.found.1)))

pub returns-in-None : goal.returns-in-None
returns-in-None c = rw (← c.self.view_is) (none_told _ c.self.inside.slots c.args.line.0 c.in-None.ensures.none)

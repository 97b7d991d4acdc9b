-- What is written so far, and what is left to write, is the whole.
use Rattle.std.proofs.Common.{◌≡◌, ◌*◌, ◌++◌, drop}
use Rattle.alw_builds.specs.Listing.{listing_from}
use Rattle.alw_builds.proofs.listings.listing.Given as goal

abbrev pub invariant-loop-i : goal.invariant-loop-i
invariant-loop-i l = l.text ++ listing_from (4 * l.i) (drop l.i l.words) (drop l.i l.lines) ≡ listing_from 0 l.words l.lines

-- The chain's first place is taken off it, or the pool has one more.
use Rattle.std.proofs.Common.{◌∙◌, sym, refl, arith}
use Rattle.dir_soft.proofs.Walks.{head-read}
use Rattle.dir_soft.proofs.places.free_place.Goals as goal

pub unlink-requires-clause-at : goal.unlink-requires-clause-at
unlink-requires-clause-at c =
    let is = c.index-first.ensures ∙ head-read c.args.heads.now.items c.args.free _ c.requires.chain in
    rw is (c.requires.first (λ e. c.if-first.true (is ∙ e)))

pub returns-then-first-clause-place : goal.returns-then-first-clause-place
returns-then-first-clause-place c =
    let is = c.index-first.ensures ∙ head-read c.args.heads.now.items c.args.free _ c.requires.chain in
    record { first = λ open_end. (is, c.unlink.ensures.chains); new = λ ended. absurd (c.if-first.true (is ∙ ended)) }

pub push_reserved-requires : goal.push_reserved-requires
push_reserved-requires c =
    let is = c.index-first.ensures ∙ head-read c.args.heads.now.items c.args.free _ c.requires.chain in
    omega (arith, c.requires.room (sym is ∙ c.if-first.false), c.args.places.now.ok.0)

pub returns-clause-place : goal.returns-clause-place
returns-clause-place c =
    let is = c.index-first.ensures ∙ head-read c.args.heads.now.items c.args.free _ c.requires.chain in
    record {
      first = λ open_end. absurd (open_end (sym is ∙ c.if-first.false));
      new = λ ended. (c.len-at.ensures ∙ c.args.places.now.ok.0, refl, record { place = _; empty = c.empty.ensures; ends = refl; whole = c.push_reserved.ensures.items });
    }

-- The Trap-Always lines ascend, and those of a node are numbered from its first home line up to the next node's.
use Rattle.std.proofs.Common.{ℕ, ◌∙◌, sym, subst}
use Rattle.std.specs.List.Sorted.{IsStrictlyIncreasing}
use Rattle.std.proofs.lemmas.List.{map-id}
use Rattle.alw_image.proofs.Cuts.{home_members}
use Rattle.alw_image.proofs.Searches.{keys_rise}
use Rattle.alw_image.proofs.images.Image.always_of.Goals as goal

pub between-requires : goal.between-requires
between-requires c = rw c.members.ensures (keys_rise (λ (line : ℕ). line) _ (subst IsStrictlyIncreasing (sym (map-id _)) c.self.invariant.always_ascend))

pub returns : goal.returns
returns c = rw (← c.self.view_is) (c.between.ensures ∙ rw c.members.ensures
    (home_members (λ (line : ℕ). line) _ _ _ _ c.self.invariant.per_node.0 (rw (← c.self.view_is) at c.lines_of-first.ensures)))

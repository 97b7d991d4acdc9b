-- The two places that the searches find cut out the members.
use Rattle.std.proofs.Common.{nat_lt, ◌∙◌, ap, take, rules}
use Rattle.std.proofs.lemmas.List.Sorted.{IsNonDecreasingBy-drop, IsPartitionPoint-from_clause, IsPartitionedBy-ltb}
use Rattle.alw_image.proofs.Cuts.{cut_out}
use Rattle.alw_image.proofs.ranges.between.Goals as goal

pub returns : goal.returns
returns g c =
    let number = g.T.Numbered.number_of in
    let members = c.args.members.now in
    let low = c.args.first in
    let high = c.args.past in
    let first = IsPartitionPoint-from_clause (λ member. nat_lt (number member) low) members _ c.partition_point.ensures.partitioned
    (IsPartitionedBy-ltb number members low c.requires) (λ a r f called. search rules) in
    let second = IsPartitionPoint-from_clause (λ member. nat_lt (number member) high) c.split_at.result.1.now _ c.partition_point-2.ensures.partitioned
    (IsPartitionedBy-ltb number c.split_at.result.1.now high (rw c.split_at.ensures.back (IsNonDecreasingBy-drop number _ members c.requires)))
    (λ a r f called. search rules) in
    c.split_at-2.ensures.front ∙ ap (take c.partition_point-2.result) c.split_at.ensures.back
    ∙ cut_out number low high members _ _ first c.partition_point.ensures.bound
    (rw c.split_at.ensures.back at second) (rw c.split_at.ensures.back at c.partition_point-2.ensures.bound)

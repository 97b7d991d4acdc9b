-- The members that are left, behind what is written so far, are the whole list.
use Rattle.std.proofs.Common.{◌≡◌, map, drop}
use Rattle.serde_json.specs.View.{items_of}
use Rattle.alw_json.specs.Onto.{items_onto}
use Rattle.alw_json.proofs.values.RefSliceToJson.write.Given as goal

abbrev pub invariant-loop-member : goal.invariant-loop-member
invariant-loop-member g l =
    items_onto (items_of (map g.T.ToJson.value_of (drop l.member-index l.member-items))) l.out ≡ items_onto (items_of (map g.T.ToJson.value_of l.member-items)) l.initial.out

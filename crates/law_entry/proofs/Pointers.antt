-- A home acts on a message of a node that exists: its pointers stay nodes that exist.
use Rattle.std.proofs.Common.{◌≡◌, ℕ, ◌<◌, sym, subst}
use Rattle.alw_num.specs.NodeSets.{AreBelow, no_nodes, join_nodes}
use Rattle.alw_num.proofs.Sets.{none_below, add_below, one_below, join_below}
use Rattle.alw_msg.specs.Contents.{ToMemory}
use Rattle.alw_model.specs.declared.steps.Keeping.{Keeping}
use Rattle.alw_model.specs.declared.steps.Keeping.TheVariants.{Joined, Alone, Emptied, Kept}
use Rattle.alw_model.specs.FullMap.{Home, act}
use Rattle.alw_model.specs.LimitLess.{Directory, full_map_of, hardware_of, hardware_act, trapped, keeping, kept, handled, handle}
use Rattle.law_entry.specs.Entries.{PointsBelow}
use Rattle.law_entry.proofs.Actions.{pointers_by, row-pointers}

module _ (n i : ℕ) (here : i < n) where
  by_keeping : (h : Home) (keeps : Keeping) → AreBelow n h.pointers → AreBelow n (pointers_by h i keeps)
  by_keeping h Joined below = add_below n i h.pointers here below
  by_keeping h Alone below = one_below n i here
  by_keeping h Emptied below = none_below n
  by_keeping h Kept below = below

  pub acted_below : (h : Home) (m : ToMemory) → AreBelow n h.pointers → AreBelow n (act h i m).0.pointers
  acted_below h m below = subst (AreBelow n) (sym (row-pointers h i h.state m)) (by_keeping h (keeping h i h.state m) below)

  pub hardware_points : (d : Directory) (m : ToMemory) → PointsBelow n d → PointsBelow n (hardware_act d i m).0
  hardware_points d m points = record { hardware = acted_below (hardware_of d) m points.hardware; software = points.software }

  handled_points : (d : Directory) (home : Home) (keeps : Keeping) → PointsBelow n d → PointsBelow n (handled d home (kept d.hardware d.software i keeps))
  handled_points d home Joined points =
      record {
        hardware = none_below n;
        software = add_below n i (join_nodes d.hardware d.software) here
            (join_below n d.hardware d.software points.hardware points.software);
      }
  handled_points d home Alone points = record { hardware = one_below n i here; software = none_below n }
  handled_points d home Emptied points = record { hardware = none_below n; software = none_below n }
  handled_points d home Kept points = record { hardware = points.hardware; software = points.software }

  pub handler_points : (d : Directory) (m : ToMemory) → PointsBelow n d → PointsBelow n (handle d i m).0
  handler_points d m points = handled_points d (act (full_map_of d) i m).0 (keeping (full_map_of d) i d.state m) points

pub trap_points : (n : ℕ) (d : Directory) → PointsBelow n d → PointsBelow n (trapped d)
trap_points n d points = record { hardware = points.hardware; software = points.software }

pub no_points : (n : ℕ) (d : Directory) → d.hardware ≡ no_nodes → d.software ≡ no_nodes → PointsBelow n d
no_points n d first second = record { hardware = subst (AreBelow n) (sym first) (none_below n); software = subst (AreBelow n) (sym second) (none_below n) }

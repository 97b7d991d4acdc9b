-- What holds of a LimitLESS entry at every moment, whoever sent the messages that its home acted on.
use Rattle.std.specs.Prelude.{◌≡◌, ℕ, ◌≤◌, IsTrue}
use Rattle.alw_num.specs.NodeSets.{AreBelow, count_nodes}
use Rattle.alw_num.specs.Weights.{digit}
use Rattle.alw_msg.specs.Contents.{ToMemory}
use Rattle.alw_model.specs.FullMap.{Sends, act}
use Rattle.alw_model.specs.LimitLess.{Directory, full_map_of, is_in_progress}
use Rattle.alw_model.specs.LineInvariant.{software_fits}

-- an entry with `most` hardware pointers is sound: S is as the line invariant has it, where the line has a pending packet exactly in Trans-In-Progress, and H has at most `most` members
pub record EntryIsSound (most : ℕ) (d : Directory) : Type 0 where
  pub software : IsTrue (software_fits d (digit (is_in_progress d.meta)))
  pub few : count_nodes d.hardware ≤ most

-- an entry points at nodes below a number
pub record PointsBelow (n : ℕ) (d : Directory) : Type 0 where
  pub hardware : AreBelow n d.hardware
  pub software : AreBelow n d.software

-- this is what acting on a message of node i comes to: the full map's entry afterwards, and what that one sends
pub record ActsAlike (d : Directory) (i : ℕ) (message : ToMemory) (after : Directory × Sends) : Type 0 where
  pub entry : full_map_of after.0 ≡ (act (full_map_of d) i message).0
  pub sent : after.1 ≡ (act (full_map_of d) i message).1

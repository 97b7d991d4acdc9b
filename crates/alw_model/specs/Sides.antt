-- The two sides of a node, each with the sizes that its events read: the processor with its cache, and the memory with its directory
-- (Chaiken, Kubiatowicz and Agarwal, ASPLOS 1991, sections 2 and 4).
use Rattle.std.specs.Prelude.{ℕ, ◌*◌, false, List, slice_index_or}
use Rattle.alw_msg.specs.declared.messages.Msg.{Msg}
use Rattle.alw_image.specs.Images.{zero_line}
use Rattle.alw_model.specs.LimitLess.{Directory, directory_start}
use Rattle.alw_model.specs.Caches.{Cache, Transactions}
use Rattle.alw_model.specs.Contexts.{Slot}

-- a processor side: the node's number, columns and rows of the mesh, lines of each node, sets of the cache;
-- its slots, the current one, its cache and its open transactions
pub record Processor : Type 0 where
  pub number : ℕ
  pub width : ℕ
  pub height : ℕ
  pub per_node : ℕ
  pub sets : ℕ
  pub slots : List Slot
  pub current : ℕ
  pub cache : Cache
  pub transactions : Transactions

-- a memory side: the node's number, the number of nodes, lines of each node, hardware pointers of an entry;
-- the entries of its home lines, and the packets that wait for its handler
pub record Memory : Type 0 where
  pub number : ℕ
  pub nodes : ℕ
  pub per_node : ℕ
  pub pointers : ℕ
  pub homes : List Directory
  pub packets : List Msg

-- the number of lines of shared data
abbrev pub lines_of : Processor → ℕ
lines_of p = p.width * p.height * p.per_node

-- the entry at a place among home lines
abbrev pub entry_at : List Directory → ℕ → Directory
entry_at homes place = slice_index_or homes place (directory_start zero_line false)

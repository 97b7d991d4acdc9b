-- What a home does with a message as it stands on a link, and the messages that it sends.
use Rattle.std.specs.Prelude.{◌≡◌, ℕ, ◌<◌, true, [], ◌++◌}
use Rattle.alw_num.specs.declared.addresses.Line.{Line}
use Rattle.alw_num.specs.declared.states.State.{State}
use Rattle.alw_num.specs.declared.states.State.TheVariants.{RT, WT}
use Rattle.alw_num.specs.NodeSets.{Nodes, has_node}
use Rattle.alw_msg.specs.Sending.{Sending}
use Rattle.alw_model.specs.declared.steps.Keeping.{Keeping}
use Rattle.alw_model.specs.declared.steps.Keeping.TheVariants.{Kept}
use Rattle.alw_model.specs.FullMap.{Home, Sends, act, unlisted, sole, end_read, end_write}
use Rattle.alw_model.specs.LimitLess.{keeping}
use Rattle.alw_msg.specs.declared.messages.Msg.{Msg}
use Rattle.alw_msg.specs.Contents.{Content, ForMemory, ForCache, content}
use Rattle.alw_model.specs.Messages.{to_caches}

-- the home table, on what a message of node i says: one to a cache isn't listed
abbrev pub reaction : Home → ℕ → Content → Home × Sends
reaction home i (ForMemory said) = act home i said
reaction home i (ForCache said) = unlisted home

-- what becomes of P with what a message of node i says: one to a cache leaves it
abbrev pub keeping_of : Home → ℕ → Content → Keeping
keeping_of home i (ForMemory said) = keeping home i home.state said
keeping_of home i (ForCache said) = Kept

-- these sends about a line, in this order, behind those that stand there
abbrev pub with_sends : Sending → ℕ → Sends → Sending
with_sends sending line sends = record sending { messages = sending.messages ++ to_caches sending.src sending.stamp line sends }

-- what acting on a message has left of an entry and of the list of its sends, and what became of P, are those of the home table
pub record Acts (before after : Home) (sent sent' : Sending) (keeping : Keeping) (msg : Msg) : Type 0 where
  pub entry : after ≡ (reaction before msg.src.0 (content msg)).0
  pub sends : sent' ≡ with_sends sent msg.line.0 (reaction before msg.src.0 (content msg)).1
  pub outcome : keeping ≡ keeping_of before msg.src.0 (content msg)

-- a transaction ends, by its state, with the body as it then is
abbrev pub ended : Home → Line → State → Home × Sends
ended home body RT = end_read home body (sole home.pointers)
ended home body WT = end_write home body (sole home.pointers)
ended home body _ = unlisted home

-- the list is begun and empty, and has room for a message to node i and to each member of P
pub record HasRoom (P : Nodes) (i : ℕ) (sending : Sending) : Type 0 where
  pub empty : sending.messages ≡ []
  pub sender : i < sending.room
  pub members : (k : ℕ) → has_node P k ≡ true → k < sending.room

-- What becomes of a message to memory at its home: hardware acts on it, or it traps, or it waits.
use Rattle.std.specs.Prelude.{◌≡◌, Bool, true, false, ℕ, []}
use Rattle.alw_num.specs.declared.states.State.{State}
use Rattle.alw_num.specs.NodeSets.{Nodes}
use Rattle.alw_model.specs.FullMap.{Sends}
use Rattle.alw_model.specs.LimitLess.{Directory, is_trapped, is_in_progress, overflows, hardware_act, trapped}
use Rattle.alw_msg.specs.declared.messages.Msg.{Msg}
use Rattle.alw_msg.specs.Contents.{Content, ForMemory, ForCache, content}
use Rattle.alw_msg.specs.Sending.{Sending}
use Rattle.dir_full.specs.Reactions.{with_sends}
use Rattle.alw_home.specs.declared.deliveries.Acted.{Acted}
use Rattle.alw_home.specs.declared.deliveries.Acted.TheVariants as acted

-- a read that finds no pointer left
abbrev pub is_overflow : ℕ → Nodes → ℕ → State → Content → Bool
is_overflow most hardware i state (ForMemory said) = overflows most hardware i state said
is_overflow most hardware i state (ForCache said) = false

-- a message that traps
abbrev pub is_trap : ℕ → Directory → ℕ → Content → Bool
is_trap most d i (ForMemory said) = is_trapped most d i said
is_trap most d i (ForCache said) = false

-- the answer, by whether the line is Trans-In-Progress and whether the message traps
abbrev pub answer_by : Bool → Bool → Acted
answer_by true traps = acted.Blocked
answer_by false true = acted.Trapped
answer_by false false = acted.Acted

-- what becomes of a message of node i
abbrev pub answer_of : ℕ → Directory → ℕ → Content → Acted
answer_of most d i said = answer_by (is_in_progress d.meta) (is_trap most d i said)

-- hardware acts on what a message says: one to a cache isn't listed
abbrev pub hardware_acts_on : Directory → ℕ → Content → Directory × Sends
hardware_acts_on d i (ForMemory said) = hardware_act d i said
hardware_acts_on d i (ForCache said) = (d, [])

-- the entry afterwards, and what is sent
abbrev pub after_delivery : Acted → Directory → ℕ → Content → Directory × Sends
after_delivery acted.Blocked d i said = (d, [])
after_delivery acted.Trapped d i said = (trapped d, [])
after_delivery acted.Acted d i said = hardware_acts_on d i said

-- what a delivery has left of an entry and of the list of its sends, and what became of its message, are those of the definition
pub record Delivers (most : ℕ) (before after : Directory) (sent sent' : Sending) (acted : Acted) (msg : Msg) : Type 0 where
  pub entry : after ≡ (after_delivery acted before msg.src.0 (content msg)).0
  pub sends : sent' ≡ with_sends sent msg.line.0 (after_delivery acted before msg.src.0 (content msg)).1
  pub outcome : acted ≡ answer_of most before msg.src.0 (content msg)

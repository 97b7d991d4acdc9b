-- What it is for a reply that is delivered to meet a transaction.
use Rattle.std.specs.Prelude.{◌≡◌, Some, IsSome, IsTrue}
use Rattle.alw_msg.specs.declared.messages.Msg.{Msg}
use Rattle.alw_msg.specs.Contents.{ToCache, ForCache, content, is_reply}
use Rattle.alw_num.specs.Maps.{value_at}
use Rattle.alw_model.specs.Runs.{Moment}

-- where a moment takes RDATA, WDATA or BUSY, its node has a transaction on the line that the message is about
abbrev pub MeetsTransaction : Moment → Type 0
MeetsTransaction moment = (msg : Msg) → moment.taken ≡ Some msg → (said : ToCache) →
    content msg ≡ ForCache said → IsTrue (is_reply said) → IsSome (value_at moment.before.transactions msg.line.0)

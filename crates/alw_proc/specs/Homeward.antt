-- What a processor side sends: requests to the homes of their lines.
use Rattle.std.specs.Prelude.{ℕ}
use Rattle.alw_msg.specs.Sending.{Sending, with_messages}
use Rattle.alw_cache.specs.declared.places.Evicted.{Evicted}
use Rattle.alw_cache.specs.Places.{copy_of}
use Rattle.alw_model.specs.Caches.{Copy, Requests}
use Rattle.alw_model.specs.Messages.{homeward}

-- the sends of an event, which are these requests
abbrev pub with_requests : ℕ → Sending → Requests → Sending
with_requests per_node sending requests = with_messages sending (homeward per_node sending.src sending.stamp requests)

-- a copy that has left
abbrev pub copy_left : Evicted → Copy
copy_left copy = copy_of copy.line.0 copy.mode copy.body

-- Events of a node in a picture: which comes next there below a bound, what it leaves, and what it sends.
use Rattle.std.specs.Prelude.{◌≡◌, ℕ, ◌+◌, ◌*◌, ◌<◌, ◌==◌, ◌&&◌, ◌||◌, ◌⊎◌, nat_le, max, not, cond, Bool, true, false, List, [], ◌∷◌, ◌++◌}
use Rattle.alw_msg.specs.declared.messages.Msg.{Msg}
use Rattle.alw_msg.specs.declared.events.Event.{Event}
use Rattle.alw_msg.specs.declared.events.Event.TheVariants.{Instr, Handle}
use Rattle.alw_msg.specs.Events.{node_of, is_evict}
use Rattle.alw_image.specs.declared.parts.Parts.{Parts}
use Rattle.alw_image.specs.Images.{node_count, hops_between}
use Rattle.alw_image.specs.Parameters.{Parameters}
use Rattle.alw_model.specs.Contexts.{running}
use Rattle.alw_model.specs.Machine.{node_at, is_enabled, stamp_at, has_halted, stepped_by, step}
use Rattle.alw_model.specs.Runs.{moment_of}
use Rattle.alw_mesh.specs.Histories.{History, IsRun, state_of}
use Rattle.alw_times.specs.declared.costs.Costs.{Costs}
use Rattle.alw_times.specs.declared.happenings.TimedMoment.{TimedMoment}
use Rattle.alw_times.specs.Happening.{happened_of}
use Rattle.alw_times.specs.Times.{time_at, queue_at, is_later, start_by, length_of, leaves_at, cost_of, passed}
use Rattle.alw_due.specs.Due.{rank_of, arrived_at, sender_of, is_before}
use Rattle.law_windows.specs.Windows.{NoneIsAtLimit}
use Rattle.law_apart.specs.Pictures.{Picture, picture_of, IsPicture, ShowsBelow, ShowsBut}

-- the limit holds in a machine since a context hasn't halted, or no node is at it
abbrev pub LimitHolds : History → Type 0
LimitHolds h = (has_halted (state_of h) ≡ false) ⊎ NoneIsAtLimit h

module _ (image : Parts) (parameters : Parameters) where
  -- an event of a picture, as one that happens
  abbrev pub happening_in : Picture → Event → TimedMoment
  happening_in picture event = happened_of (moment_of image parameters picture.state (record { stamp = 0; event = event }))

  -- what it sends
  abbrev pub sends_in : Picture → Event → List (ℕ × Msg)
  sends_in picture event = (stepped_by image parameters picture.state event).sends

  -- an event may be next in a picture: it is enabled, and its stamp is within the limit, whoever has halted
  abbrev pub may_in : Picture → Event → Bool
  may_in picture event = is_enabled image parameters picture.state event && nat_le (stamp_at image picture.state event) parameters.limit

  module _ (costs : Costs) where
    -- ---- what an event leaves

    -- a picture once an event has happened
    abbrev pub after_in : Picture → Event → Picture
    after_in picture event = record {
      state = step image parameters picture.state event;
      times = passed image costs picture.times (happening_in picture event) (sends_in picture event);
    }

    -- and once events have, one after another
    abbrev pub after_all : Picture → List Event → Picture
    after_all picture [] = picture
    after_all picture (event ∷ rest) = after_all (after_in picture event) rest

    -- ---- which comes next

    -- when an event would start
    abbrev pub start_in : Picture → Event → ℕ
    start_in picture event = let node = node_at picture.state (node_of event) in start_by image costs picture.times (running node.slots node.current) event

    -- and finish
    abbrev pub finish_in : Picture → Event → ℕ
    finish_in picture event = start_in picture event + cost_of costs (happening_in picture event) (sends_in picture event)

    -- an event is due, but for an instruction that a packet interrupts
    abbrev pub is_due_in : Picture → Event → Bool
    is_due_in picture (Instr at) = not (may_in picture (Handle at)) || is_later (queue_at picture.times.packets at.0) (start_in picture (Instr at))
    is_due_in picture _ = true

    -- what it is compared by
    abbrev pub key_in : Picture → Event → List ℕ
    key_in picture event = start_in picture event ∷ node_of event ∷ rank_of event ∷ arrived_at image picture.times event ∷ sender_of event ∷ []

-- a main event of a node that may be next and is due
pub record IsDueIn (image : Parts) (parameters : Parameters) (costs : Costs) (picture : Picture) (n : ℕ) (event : Event) : Type 0 where
  pub node : node_of event ≡ n
  pub main : is_evict event ≡ false
  pub may : may_in image parameters picture event ≡ true
  pub due : is_due_in image parameters costs picture event ≡ true

-- the first of these comes, where it starts below a bound
pub record ComesIn (image : Parts) (parameters : Parameters) (costs : Costs) (picture : Picture) (n bound : ℕ) (event : Event) : Type 0 where
  pub due : IsDueIn image parameters costs picture n event
  pub first : (other : Event) → IsDueIn image parameters costs picture n other →
      (other ≡ event) ⊎ (is_before (key_in image parameters costs picture event) (key_in image parameters costs picture other) ≡ true)
  pub below : start_in image parameters costs picture event < bound

-- ---- a node's run

-- one after another its first events come, below a bound
abbrev pub RunsIn : Parts → Parameters → Costs → Picture → ℕ → ℕ → List Event → Type 0
RunsIn image parameters costs picture n bound [] = Unit {0}
RunsIn image parameters costs picture n bound (event ∷ rest) =
    ComesIn image parameters costs picture n bound event × RunsIn image parameters costs (after_in image parameters costs picture event) n bound rest

-- the whole of it: none is left below the bound
pub record IsWholeIn (image : Parts) (parameters : Parameters) (costs : Costs) (picture : Picture) (n bound : ℕ) (events : List Event) : Type 0 where
  pub runs : RunsIn image parameters costs picture n bound events
  pub none_left : (event : Event) → ComesIn image parameters costs (after_all image parameters costs picture events) n bound event → ⊥

-- its events, each with its start
abbrev pub told_in : Parts → Parameters → Costs → Picture → List Event → List (ℕ × Event)
told_in image parameters costs picture [] = []
told_in image parameters costs picture (event ∷ rest) =
    (start_in image parameters costs picture event, event) ∷ told_in image parameters costs (after_in image parameters costs picture event) rest

-- ---- what a node sends

module _ (image : Parts) (costs : Costs) (from leave to : ℕ) where
  -- when the port is free after one message
  abbrev pub free_after : ℕ → ℕ × Msg → ℕ
  free_after port send = cond (send.0 == from) port (max port leave + length_of costs send.1.kind)

  -- when it arrives
  abbrev pub arrives_at : ℕ → ℕ × Msg → ℕ
  arrives_at port send = cond (send.0 == from) leave (max port leave + length_of costs send.1.kind + costs.hop * hops_between image from send.0)

  -- the messages to one node, each with its arrival, of those that leave at a time when the port is free at another
  abbrev pub out_to : ℕ → List (ℕ × Msg) → List (Msg × ℕ)
  out_to port [] = []
  out_to port (send ∷ rest) = let more = out_to (free_after port send) rest in cond (to == send.0) ((send.1, arrives_at port send) ∷ more) more

module _ (image : Parts) (parameters : Parameters) (costs : Costs) where
  -- what an event sends to a node, each message with its arrival
  abbrev pub sent_by : Picture → ℕ → Event → List (Msg × ℕ)
  sent_by picture to event =
      let leave = leaves_at event (start_in image parameters costs picture event) (finish_in image parameters costs picture event) in
      out_to image costs (node_of event) leave to (time_at picture.times.ports (node_of event)) (sends_in image parameters picture event)

  -- what the events of a run send to it
  abbrev pub sent_in : Picture → ℕ → List Event → List (Msg × ℕ)
  sent_in picture to [] = []
  sent_in picture to (event ∷ rest) = sent_by picture to event ++ sent_in (after_in image parameters costs picture event) to rest

-- ---- where a node runs in a picture

-- a fact of an image, parameters, costs, a node, a bound, a picture and events holds wherever these are of the node's run in the picture below the bound
abbrev pub WhereRunIn : (Parts → Parameters → Costs → ℕ → ℕ → Picture → List Event → Type 0) → Type 0
WhereRunIn Fact = (image : Parts) → (parameters : Parameters) → (costs : Costs) → (n bound : ℕ) → (picture : Picture) → (events : List Event) → IsPicture image picture →
    RunsIn image parameters costs picture n bound events → Fact image parameters costs n bound picture events

-- ---- where a picture shows a node

-- a fact of a machine, costs, a node, a bound and a picture holds wherever the picture shows that node of the machine below that bound, and the limit holds there
abbrev pub WhereShownBelow : (History → Costs → ℕ → ℕ → Picture → Type 0) → Type 0
WhereShownBelow Fact = (h : History) → (costs : Costs) → (n bound : ℕ) → (part : Picture) → IsRun h → LimitHolds h → n < node_count h.image → IsPicture h.image part →
    ShowsBelow h.image n bound (picture_of h costs) part → Fact h costs n bound part

-- and one of a machine, costs, a node, what has come to it, and a picture, wherever the picture shows the node but for what has come
abbrev pub WhereShownBut : (History → Costs → ℕ → (ℕ → List (Msg × ℕ)) → Picture → Type 0) → Type 0
WhereShownBut Fact = (h : History) → (costs : Costs) → (n : ℕ) → (come : ℕ → List (Msg × ℕ)) → (part : Picture) → IsRun h → n < node_count h.image → IsPicture h.image part →
    ShowsBut h.image n come (picture_of h costs) part → Fact h costs n come part

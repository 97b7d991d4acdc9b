-- What one event leaves of what a picture shows: an event of the node in both, or one of another node in the whole.
use Rattle.std.proofs.Common.{◌≡◌, ◌≢◌, ℕ, ◌+◌, ◌<◌, ◌≤◌, IsTrue, sym, ap}
use Rattle.alw_msg.specs.declared.events.Event.{Event}
use Rattle.alw_msg.specs.Events.{node_of}
use Rattle.alw_image.specs.declared.parts.Parts.{Parts}
use Rattle.alw_image.specs.Images.{node_count}
use Rattle.alw_image.specs.Parameters.{Parameters}
use Rattle.alw_model.specs.Machine.{taken_by, is_enabled}
use Rattle.law_order.specs.Orders.{SeesAlike}
use Rattle.law_order.proofs.Local.{stepped_alike}
use Rattle.alw_times.specs.declared.costs.Costs.{Costs}
use Rattle.alw_times.specs.Happening.{happened_of}
use Rattle.alw_times.specs.Times.{leaves_at, cost_of, timed}
use Rattle.law_times.proofs.Orders.{AreTimesOf, step_are, moment_alike}
use Rattle.law_windows.specs.Windows.{lookahead}
use Rattle.law_windows.proofs.Others.{other_sees}
use Rattle.law_windows.proofs.Sees.{alike_so}
use Rattle.law_windows.proofs.Together.{together_sees}
use Rattle.law_apart.specs.Pictures.{Picture, IsPicture}
use Rattle.law_apart.specs.Alone.{happening_in, sends_in, start_in, finish_in, after_in, out_to, sent_by}
use Rattle.law_apart.proofs.Shown.{SeesPart, are_of, picture_is}

module _ (image : Parts) (parameters : Parameters) (costs : Costs) where
  -- a picture stays one
  after_are : (picture : Picture) (event : Event) → IsTrue (is_enabled image parameters picture.state event) → AreTimesOf image parameters costs picture.times picture.state →
      AreTimesOf image parameters costs (after_in image parameters costs picture event).times (after_in image parameters costs picture event).state
  unfolding timed
  after_are picture event enabled are = step_are image parameters costs picture.times picture.state (record { stamp = 0; event = event }) enabled are

  pub picture_after : (picture : Picture) (event : Event) → IsTrue (is_enabled image parameters picture.state event) → IsPicture image picture →
      IsPicture image (after_in image parameters costs picture event)
  picture_after picture event enabled is =
      picture_is image parameters costs (after_in image parameters costs picture event) (after_are picture event enabled (are_of image parameters costs picture is))

  module _ (whole part : Picture) (event : Event) where
    -- an event of the node in both
    pub own_sees : (bound : ℕ) → IsPicture image whole → IsPicture image part → IsTrue (is_enabled image parameters part.state event) → SeesPart image (node_of event) whole part bound →
        SeesPart image (node_of event) (after_in image parameters costs whole event) (after_in image parameters costs part event) bound
    own_sees bound is also enabled sees =
        together_sees image parameters costs bound whole.state whole.times part.state part.times event sees enabled
        (are_of image parameters costs whole is) (are_of image parameters costs part also)

    -- one of another node in the whole
    pub other_shows : (n bound : ℕ) → IsPicture image whole → n < node_count image → n ≢ node_of event → IsTrue (is_enabled image parameters whole.state event) →
        bound ≤ start_in image parameters costs whole event + lookahead costs →
        SeesPart image n whole part bound → SeesPart image n (after_in image parameters costs whole event) part bound
    other_shows n bound is exists apart enabled low sees =
        other_sees image parameters costs n bound whole.state whole.times part.state part.times event exists apart enabled (are_of image parameters costs whole is) low sees

    -- ---- where it sees the same

    module _ (bound : ℕ) (sees : SeesPart image (node_of event) whole part bound) (taken : taken_by image whole.state event ≡ taken_by image part.state event)
        (starts : start_in image parameters costs whole event ≡ start_in image parameters costs part event) where
      alike : SeesAlike image event whole.state part.state
      alike = alike_so image parameters bound whole.state whole.times part.state part.times event sees taken

      happens : happening_in image parameters whole event ≡ happening_in image parameters part event
      happens = ap happened_of (moment_alike image parameters costs whole.state part.state (record { stamp = 0; event = event }) alike)

      sends : sends_in image parameters whole event ≡ sends_in image parameters part event
      sends x = (stepped_alike image parameters whole.state part.state event alike x).sends

      -- it finishes at the same time
      pub finish_same : finish_in image parameters costs whole event ≡ finish_in image parameters costs part event
      finish_same x = starts x + cost_of costs (happens x) (sends x)

      -- and sends the same
      pub sent_same : (to : ℕ) → sent_by image parameters costs part to event ≡ sent_by image parameters costs whole to event
      sent_same to = sym (λ x. out_to image costs (node_of event) (leaves_at event (starts x) (finish_same x)) to (sees.ports.here x) (sends x))

-- What a node's run leaves of a picture: a picture again, in which what was sent stands on links.
use Rattle.std.proofs.Common.{◌≢◌, ℕ, ◌<◌, IsTrue, List, [], ◌∷◌, append-nil, sym, subst, ◌∙◌}
use Rattle.alw_msg.specs.declared.events.Event.{Event}
use Rattle.alw_msg.specs.Events.{node_of}
use Rattle.alw_image.specs.declared.parts.Parts.{Parts}
use Rattle.alw_image.specs.Images.{node_count}
use Rattle.alw_image.specs.Parameters.{Parameters}
use Rattle.alw_model.specs.Machine.{link_at, link_place, is_enabled}
use Rattle.alw_model.proofs.Journals.{and_parts}
use Rattle.alw_times.specs.declared.costs.Costs.{Costs}
use Rattle.alw_times.specs.Times.{queue_at}
use Rattle.law_apart.specs.Pictures.{Picture, IsPicture, HasCome}
use Rattle.law_apart.specs.Alone.{after_in, after_all, ComesIn, RunsIn, sent_by, sent_in}
use Rattle.law_apart.proofs.Exact.{come_then}
use Rattle.law_apart.proofs.Sent.{link_more, arrivals_more}
use Rattle.law_apart.proofs.Steps.{picture_after}

module _ (image : Parts) (parameters : Parameters) (costs : Costs) (n bound : ℕ) where
  pub enabled_in : (picture : Picture) (event : Event) → ComesIn image parameters costs picture n bound event → IsTrue (is_enabled image parameters picture.state event)
  enabled_in picture event comes = (and_parts (is_enabled image parameters picture.state event) _ comes.due.may).0

  pub stays_picture : (picture : Picture) (event : Event) → IsPicture image picture → ComesIn image parameters costs picture n bound event →
      IsPicture image (after_in image parameters costs picture event)
  stays_picture picture event is comes = picture_after image parameters costs picture event (enabled_in picture event comes) is

  pub run_is : (picture : Picture) (events : List Event) → IsPicture image picture → RunsIn image parameters costs picture n bound events →
      IsPicture image (after_all image parameters costs picture events)
  run_is picture [] is runs = is
  run_is picture (event ∷ rest) is runs = run_is (after_in image parameters costs picture event) rest (stays_picture picture event is runs.0) runs.1

  -- one event
  out_one : (picture : Picture) (event : Event) → IsPicture image picture → ComesIn image parameters costs picture n bound event → (to : ℕ) → to < node_count image → to ≢ n →
      HasCome image to n (sent_by image parameters costs picture to event) (after_in image parameters costs picture event) picture
  out_one picture event is comes to exists apart =
      let enabled = enabled_in picture event comes in
      let differ : to ≢ node_of event = λ same. apart (same ∙ comes.due.node) in
      subst (λ (k : ℕ). HasCome image to k (sent_by image parameters costs picture to event) (after_in image parameters costs picture event) picture) comes.due.node
      (record { link = link_more image parameters costs picture event is enabled to exists differ; arrivals = arrivals_more image parameters costs picture event is enabled to exists differ })

  pub run_sent : (picture : Picture) (events : List Event) → IsPicture image picture → RunsIn image parameters costs picture n bound events → (to : ℕ) → to < node_count image → to ≢ n →
      HasCome image to n (sent_in image parameters costs picture to events) (after_all image parameters costs picture events) picture
  run_sent picture [] is runs to exists apart =
      record { link = sym (append-nil (link_at image picture.state n to)); arrivals = sym (append-nil (queue_at picture.times.arrivals (link_place image n to))) }
  run_sent picture (event ∷ rest) is runs to exists apart =
      let next = after_in image parameters costs picture event in
      come_then image to n (sent_by image parameters costs picture to event) (sent_in image parameters costs next to rest) (after_all image parameters costs next rest) next picture
      (out_one picture event is runs.0 to exists apart) (run_sent next rest (stays_picture picture event is runs.0) runs.1 to exists apart)

-- What an event sends arrives within a number of cycles for each stamp.
use Rattle.std.proofs.Common.{◌≡◌, ℕ, ◌+◌, ◌*◌, ◌≤◌, ◌==◌, max, Bool, true, false, cond, List, [], ◌∷◌, ◌++◌, slice_index_or, slice_set, subst, sym, arith}
use Rattle.alw_msg.specs.declared.messages.Msg.{Msg}
use Rattle.alw_image.specs.declared.parts.Parts.{Parts}
use Rattle.alw_image.specs.Images.{hops_between}
use Rattle.alw_model.specs.Machine.{link_place, links_sent}
use Rattle.law_order.proofs.Sends.{BearStamp}
use Rattle.alw_times.specs.declared.costs.Costs.{Costs}
use Rattle.alw_times.specs.Times.{Outgoing, queue_at, joined, length_of, sent_one, sent}
use Rattle.law_times.specs.Prices.{lengths_of, WaysAre}
use Rattle.law_times.proofs.Lists.{AllPaired, all_at, all_set, paired_push}

module _ (d : ℕ) (parts : Parts) (costs : Costs) (from leave way stamp : ℕ) where
  -- what is sent from an outgoing on leaves this much
  pub record IsOut (out : Outgoing) (links : List (List Msg)) (before most : ℕ) : Type 0 where
    pub port : max out.port leave ≤ max before leave + most
    pub paired : AllPaired d out.arrivals links

  pushed : (arrivals : List (List ℕ)) (links : List (List Msg)) (send : ℕ × Msg) (time : ℕ) → AllPaired d arrivals links → send.1.stamp ≡ stamp → time ≤ d * stamp →
      AllPaired d (joined parts from send.0 time arrivals) (slice_set links (link_place parts from send.0) (slice_index_or links (link_place parts from send.0) [] ++ send.1 ∷ []))
  pushed arrivals links send time all bears le =
      let place = link_place parts from send.0 in
      all_set d arrivals links place (queue_at arrivals place ++ time ∷ []) (slice_index_or links place [] ++ send.1 ∷ []) all
      (paired_push d (queue_at arrivals place) (slice_index_or links place []) time send.1 (all_at d arrivals links place all) (subst (λ (s : ℕ). time ≤ d * s) (sym bears) le))

  one_out : (out : Outgoing) (links : List (List Msg)) (send : ℕ × Msg) (itself : Bool) → AllPaired d out.arrivals links → send.1.stamp ≡ stamp →
      costs.hop * hops_between parts from send.0 ≤ way → max out.port leave + length_of costs send.1.kind + way ≤ d * stamp →
      IsOut (cond itself (record { port = out.port; arrivals = joined parts from send.0 leave out.arrivals })
      (record {
        port = max out.port leave + length_of costs send.1.kind;
        arrivals = joined parts from send.0 (max out.port leave + length_of costs send.1.kind + costs.hop * hops_between parts from send.0) out.arrivals;
      }))
      (slice_set links (link_place parts from send.0) (slice_index_or links (link_place parts from send.0) [] ++ send.1 ∷ [])) out.port (length_of costs send.1.kind)
  one_out out links send true all bears near le = record { port = omega arith; paired = pushed out.arrivals links send leave all bears (omega (arith, le)) }
  one_out out links send false all bears near le = record {
    port = omega arith;
    paired = pushed out.arrivals links send (max out.port leave + length_of costs send.1.kind + costs.hop * hops_between parts from send.0) all bears (omega (arith, le, near));
  }

  pub all_out : (out : Outgoing) (links : List (List Msg)) (sends : List (ℕ × Msg)) → AllPaired d out.arrivals links → BearStamp stamp sends → WaysAre parts costs from way sends →
      max out.port leave + lengths_of costs sends + way ≤ d * stamp → IsOut (sent parts costs from leave out sends) (links_sent parts links from sends) out.port (lengths_of costs sends)
  all_out out links [] all bears near le = record { port = omega arith; paired = all }
  all_out out links (send ∷ rest) all bears near le =
      let one = one_out out links send (send.0 == from) all bears.0 near.0 (omega (arith, le)) in
      let then = all_out (sent_one parts costs from leave out send) _ rest one.paired bears.1 near.1 (omega (arith, le, one.port)) in
      record { port = omega (arith, one.port, then.port); paired = then.paired }

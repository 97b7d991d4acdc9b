-- A picture that shows all of a node but for what has come from others.
use Rattle.std.proofs.Common.{◌≡◌, ◌≢◌, ℕ, suc, ◌+◌, ◌<◌, ◌≤◌, Bool, cond, IsTrue, List, [], ◌∷◌, ◌++◌, length, nat_lt, append-nil, append_assoc, length-append, refl, sym, ap, subst, ◌∙◌, arith}
use Rattle.std.specs.List.{AllByRecursion}
use Rattle.std.proofs.lemmas.Bool.{eq-eqb, ne_eqb, ltb-true}
use Rattle.std.proofs.lemmas.List.{nil_from_length}
use Rattle.alw_num.proofs.Weigh.{is_node}
use Rattle.alw_msg.specs.declared.messages.Msg.{Msg}
use Rattle.alw_msg.specs.declared.events.Event.{Event}
use Rattle.alw_msg.specs.declared.events.Event.TheVariants.{Instr, Handle, Deliver, Evict}
use Rattle.alw_msg.specs.Events.{node_of}
use Rattle.alw_msg.specs.Lists.{front}
use Rattle.alw_image.specs.declared.parts.Parts.{Parts}
use Rattle.alw_image.specs.Images.{node_count}
use Rattle.alw_image.specs.Parameters.{Parameters}
use Rattle.alw_model.specs.Machine.{link_at, link_place, taken_by, is_enabled}
use Rattle.alw_model.proofs.Journals.{and_parts}
use Rattle.law_lines.proofs.Steps.{enabled_is}
use Rattle.law_order.proofs.Local.{enabled_alike}
use Rattle.alw_times.specs.declared.costs.Costs.{Costs}
use Rattle.alw_times.specs.Times.{queue_at}
use Rattle.law_apart.specs.Pictures.{Picture, IsPicture, MayGoOn, ShowsBelow, HasCome, ShowsBut, Shows, and_come}
use Rattle.law_apart.specs.Alone.{after_in, sent_by}
use Rattle.law_apart.proofs.Shown.{sees_of, itself_of, shows_of}
use Rattle.law_apart.proofs.Sent.{messages, arrivals, link_more, arrivals_more, link_left, arrivals_left}
use Rattle.law_apart.proofs.Steps.{own_sees, other_shows, picture_after}

-- ---- no arrival is late at a bound beyond all of them

abbrev total : List ℕ → ℕ
total [] = 0
total (time ∷ rest) = time + total rest

in_total : (xs more : List ℕ) (time : ℕ) → time ≤ total (xs ++ time ∷ more)
in_total [] more time = omega arith
in_total (x ∷ xs) more time = let le = in_total xs more time in omega (arith, le)

none_late : (queue xs more : List ℕ) → queue ≡ xs ++ more → AllByRecursion (λ arrival. suc (total queue) ≤ arrival) more → more ≡ []
none_late queue xs [] is late = refl
none_late queue xs (time ∷ more) is late = absurd (
    let same : total queue ≡ total (xs ++ time ∷ more) = ap total is in let le = in_total xs more time in let high = late.0 in omega (arith, same, le, high))

from_zero : (times : List ℕ) → AllByRecursion (λ arrival. 0 ≤ arrival) times
from_zero [] = tt
from_zero (time ∷ rest) = (omega arith, from_zero rest)

module _ (image : Parts) (n : ℕ) (whole part : Picture) where
  -- what is shown at every bound is shown as it is
  pub exact_of : IsPicture image whole → IsPicture image part → ((bound : ℕ) → ShowsBelow image n bound whole part) → Shows image n whole part
  exact_of is also shows = record { itself = (shows 0).itself; links = λ from sender other. on from ((shows (beyond from)).links from sender other) }
    where
      beyond : ℕ → ℕ
      beyond from = suc (total (queue_at whole.times.arrivals (link_place image from n)))

      on : (from : ℕ) → MayGoOn image n (suc (total (queue_at whole.times.arrivals (link_place image from n)))) from whole part → HasCome image n from [] whole part
      on from goes = record {
        link = goes.link ∙ ap (λ (msgs : List Msg). link_at image part.state from n ++ msgs) (nil_from_length goes.more (
            let first = is.arrivals p in
            let second = also.arrivals p in
            let both : length (queue_at whole.times.arrivals p) ≡ length (queue_at part.times.arrivals p) = ap length (queues ∙ append-nil (queue_at part.times.arrivals p)) in
            let links : length (link_at image whole.state from n) ≡ length (link_at image part.state from n) + length goes.more =
            ap length goes.link ∙ length-append (link_at image part.state from n) goes.more in
            omega (arith, first, second, both, links)));
        arrivals = queues;
      }
        where
          p : ℕ
          p = link_place image from n

          queues : queue_at whole.times.arrivals (link_place image from n) ≡ queue_at part.times.arrivals (link_place image from n) ++ []
          queues = goes.arrivals.after_is
              ∙ ap (λ (queue : List ℕ). queue_at part.times.arrivals (link_place image from n) ++ queue)
              (none_late (queue_at whole.times.arrivals (link_place image from n)) (queue_at part.times.arrivals (link_place image from n)) goes.arrivals.more
              goes.arrivals.after_is goes.arrivals.late)

  -- and the other way round
  pub below_of : (bound : ℕ) → Shows image n whole part → ShowsBelow image n bound whole part
  below_of bound shows = record {
    itself = shows.itself;
    links = λ from sender other. let on = shows.links from sender other in record { more = []; link = on.link; arrivals = record { more = []; after_is = on.arrivals; late = tt } };
  }

  any_below : (come : ℕ → List (Msg × ℕ)) → ShowsBut image n come whole part → ShowsBelow image n 0 whole part
  any_below come shows = record {
    itself = shows.itself;
    links = λ from sender other. let on = shows.links from sender other in
        record { more = messages (come from); link = on.link; arrivals = record { more = arrivals (come from); after_is = on.arrivals; late = from_zero (arrivals (come from)) } };
  }

  -- what has come may be told otherwise
  pub but_alike : (one come : ℕ → List (Msg × ℕ)) → ((from : ℕ) → from < node_count image → from ≢ n → one from ≡ come from) → ShowsBut image n one whole part → ShowsBut image n come whole part
  but_alike one come same shows = record {
    itself = shows.itself;
    links = λ from sender other. subst (λ (msgs : List (Msg × ℕ)). HasCome image n from msgs whole part) (same from sender other) (shows.links from sender other);
  }

-- messages come, and then more
messages_both : (xs ys : List (Msg × ℕ)) → messages xs ++ messages ys ≡ messages (xs ++ ys)
messages_both [] ys = refl
messages_both (x ∷ xs) ys = ap (λ (msgs : List Msg). x.0 ∷ msgs) (messages_both xs ys)

arrivals_both : (xs ys : List (Msg × ℕ)) → arrivals xs ++ arrivals ys ≡ arrivals (xs ++ ys)
arrivals_both [] ys = refl
arrivals_both (x ∷ xs) ys = ap (λ (times : List ℕ). x.1 ∷ times) (arrivals_both xs ys)

pub come_then : (image : Parts) (n from : ℕ) (first then : List (Msg × ℕ)) (last next part : Picture) → HasCome image n from first next part → HasCome image n from then last next →
    HasCome image n from (first ++ then) last part
come_then image n from first then last next part one other =
    let link = link_at image part.state from n in
    let queue = queue_at part.times.arrivals (link_place image from n) in
    record {
      link = other.link ∙ (ap (λ (msgs : List Msg). msgs ++ messages then) one.link
          ∙ (append_assoc link (messages first) (messages then) ∙ ap (λ (msgs : List Msg). link ++ msgs) (messages_both first then)));
      arrivals = other.arrivals ∙ (ap (λ (times : List ℕ). times ++ arrivals then) one.arrivals
          ∙ (append_assoc queue (arrivals first) (arrivals then) ∙ ap (λ (times : List ℕ). queue ++ times) (arrivals_both first then)));
    }

module _ (image : Parts) (parameters : Parameters) (costs : Costs) (whole part : Picture) (event : Event) (is : IsPicture image whole)
    (enabled : IsTrue (is_enabled image parameters whole.state event)) where
  -- ---- an event of the node

  taken_alike : (f : Event) → IsTrue (is_enabled image parameters whole.state f) → Shows image (node_of f) whole part → taken_by image whole.state f ≡ taken_by image part.state f
  taken_alike (Instr at) able shows = refl
  taken_alike (Handle at) able shows = refl
  taken_alike (Evict at set) able shows = refl
  taken_alike (Deliver from to) able shows = ap front (is_node (link_at image whole.state from.0 to.0 ≡ link_at image part.state from.0 to.0) from.0 to.0
      (λ same. subst (λ (k : ℕ). link_at image whole.state k to.0 ≡ link_at image part.state k to.0) (sym same) shows.itself.link)
      (λ other. (shows.links from.0 sender other).link ∙ append-nil (link_at image part.state from.0 to.0)))
    where
      sender : from.0 < node_count image
      sender = ltb-true from.0 (node_count image) (and_parts (nat_lt from.0 (node_count image)) _ (enabled_is image parameters whole.state (Deliver from to) able).may_be).0

  pub own_exact : IsPicture image part → Shows image (node_of event) whole part →
      Shows image (node_of event) (after_in image parameters costs whole event) (after_in image parameters costs part event)
  own_exact also shows =
      let able : IsTrue (is_enabled image parameters part.state event) =
      sym (enabled_alike image parameters whole.state part.state event (record { node = shows.itself.nodes.here; taken = taken_alike event enabled shows })) ∙ enabled in
      let n = node_of event in
      let next = after_in image parameters costs whole event in
      let then = after_in image parameters costs part event in
      exact_of image n next then (picture_after image parameters costs whole event enabled is) (picture_after image parameters costs part event able also)
      (λ bound. shows_of image n next then bound (own_sees image parameters costs whole part event bound is also able (sees_of image n whole part bound (below_of image n whole part bound shows))))

  -- ---- one of another node

  module _ (n : ℕ) (exists : n < node_count image) (apart : n ≢ node_of event) where
    abbrev next : Picture
    next = after_in image parameters costs whole event

    abbrev sent : List (Msg × ℕ)
    sent = sent_by image parameters costs whole n event

    pub other_more : (come : ℕ → List (Msg × ℕ)) → ShowsBut image n come whole part → ShowsBut image n (and_come (node_of event) sent come) next part
    other_more come shows = record {
      itself = itself_of image n next part 0
          (other_shows image parameters costs whole part event n 0 is exists apart enabled (omega arith) (sees_of image n whole part 0 (any_below image n whole part come shows)));
      links = λ from sender other. is_node (HasCome image n from (and_come k sent come from) next part) from k
          (λ same. subst (λ (j : ℕ). HasCome image n j (and_come k sent come j) next part) (sym same)
          (here (subst (λ (j : ℕ). HasCome image n j (come j) whole part) same (shows.links from sender other))))
          (λ away. there from away (shows.links from sender other));
    }
      where
        k : ℕ
        k = node_of event

        here : HasCome image n (node_of event) (come (node_of event)) whole part → HasCome image n (node_of event) (and_come (node_of event) sent come (node_of event)) next part
        here on = subst (λ (b : Bool). HasCome image n (node_of event) (cond b (come (node_of event) ++ sent) (come (node_of event))) next part) (sym (eq-eqb (node_of event) (node_of event) refl))
            (come_then image n (node_of event) (come (node_of event)) sent next whole part on
            (record { link = link_more image parameters costs whole event is enabled n exists apart; arrivals = arrivals_more image parameters costs whole event is enabled n exists apart }))

        there : (from : ℕ) → from ≢ node_of event → HasCome image n from (come from) whole part → HasCome image n from (and_come (node_of event) sent come from) next part
        there from away on = subst (λ (b : Bool). HasCome image n from (cond b (come from ++ sent) (come from)) next part) (sym (ne_eqb from (node_of event) away)) (record {
          link = link_left image parameters costs whole event is enabled n exists apart from away ∙ on.link;
          arrivals = arrivals_left image parameters costs whole event is enabled n exists apart from away ∙ on.arrivals;
        })

-- What an event sends to another node comes on the link to it, each message with its arrival.
use Rattle.std.proofs.Common.{◌≡◌, ◌≢◌, ℕ, ◌<◌, ◌==◌, Bool, true, false, cond, IsTrue, List, [], ◌∷◌, ◌++◌, length, map, append-nil, append_assoc, refl, sym, ap, subst, ◌∙◌}
use Rattle.std.proofs.lemmas.Bool.{eqb-true, eqb-false, eq-eqb, ne_eqb}
use Rattle.std.proofs.lemmas.List.{length-set}
use Rattle.std.proofs.lemmas.Nat.{same_from_place, mul-add-lt}
use Rattle.alw_msg.specs.declared.messages.Msg.{Msg}
use Rattle.alw_msg.specs.declared.events.Event.{Event}
use Rattle.alw_msg.specs.declared.events.Event.TheVariants.{Instr, Handle, Deliver, Evict}
use Rattle.alw_msg.specs.Events.{node_of}
use Rattle.alw_image.specs.declared.parts.Parts.{Parts}
use Rattle.alw_image.specs.Images.{node_count}
use Rattle.alw_image.specs.Parameters.{Parameters}
use Rattle.alw_model.specs.Machine.{link_at, link_place, is_enabled, links_taken}
use Rattle.law_lines.specs.Links.{GoBelow, msgs_to}
use Rattle.law_lines.proofs.Links.{link_sent}
use Rattle.law_lines.proofs.Steps.{enabled_is}
use Rattle.law_order.proofs.Aimed.{sends_below, links_fit}
use Rattle.law_order.proofs.Local.{link_kept}
use Rattle.law_order.proofs.Places.{changed, changed_here, changed_there}
use Rattle.alw_times.specs.declared.costs.Costs.{Costs}
use Rattle.alw_times.specs.Times.{Times, time_at, queue_at, arrivals_taken, leaves_at, start_of, finish_of}
use Rattle.law_times.proofs.Changes.{changed_all, pushes, with_last}
use Rattle.law_times.proofs.Effects.{goes, left_is}
use Rattle.law_windows.proofs.Messages.{queue_kept, others_stay}
use Rattle.law_apart.specs.Pictures.{Picture, IsPicture}
use Rattle.law_apart.specs.Alone.{happening_in, sends_in, after_in, free_after, arrives_at, out_to, sent_by}

-- the messages of what comes, and their arrivals
abbrev pub messages : List (Msg × ℕ) → List Msg
messages come = map (λ (one : Msg × ℕ). one.0) come

abbrev pub arrivals : List (Msg × ℕ) → List ℕ
arrivals come = map (λ (one : Msg × ℕ). one.1) come

module _ (image : Parts) (costs : Costs) (from leave to : ℕ) where
  abbrev out : ℕ → List (ℕ × Msg) → List (Msg × ℕ)
  out = out_to image costs from leave to

  messages_out : (port : ℕ) (sends : List (ℕ × Msg)) → messages (out port sends) ≡ msgs_to to sends
  messages_out port [] = refl
  messages_out port (send ∷ rest) = go (to == send.0) (messages_out (free_after image costs from leave to port send) rest)
    where
      next : ℕ
      next = free_after image costs from leave to port send

      go : (b : Bool) → messages (out next rest) ≡ msgs_to to rest →
          messages (cond b ((send.1, arrives_at image costs from leave to port send) ∷ out next rest) (out next rest)) ≡ cond b (send.1 ∷ msgs_to to rest) (msgs_to to rest)
      go true more = ap (λ (msgs : List Msg). send.1 ∷ msgs) more
      go false more = more

  module _ (here : to < node_count image) where
    abbrev p : ℕ
    p = link_place image from to

    arrivals_out : (port : ℕ) (sends : List (ℕ × Msg)) (queues : List (List ℕ)) → p < length queues → GoBelow (node_count image) sends →
        queue_at (changed_all [] (pushes (goes image costs from leave port sends)) queues) p ≡ queue_at queues p ++ arrivals (out port sends)
    arrivals_out port [] queues fits below = sym (append-nil (queue_at queues p))
    arrivals_out port (send ∷ rest) queues fits below =
        arrivals_out next rest later (subst (λ (size : ℕ). p < size) (sym (length-set queues (link_place image from send.0) _)) fits) below.1 ∙ go (to == send.0) refl
      where
        next : ℕ
        next = free_after image costs from leave to port send

        time : ℕ
        time = arrives_at image costs from leave to port send

        later : List (List ℕ)
        later = changed [] queues (link_place image from send.0) (with_last time)

        here_too : to ≡ send.0 → queue_at later p ≡ queue_at queues p ++ time ∷ []
        here_too same =
            subst (λ (k : ℕ). queue_at (changed [] queues (link_place image from k) (with_last time)) p ≡ queue_at queues p ++ time ∷ []) same (changed_here [] queues p (with_last time) fits)

        go : (b : Bool) → (to == send.0) ≡ b → queue_at later p ++ arrivals (out next rest) ≡ queue_at queues p ++ arrivals (cond b ((send.1, time) ∷ out next rest) (out next rest))
        go true is = ap (λ (queue : List ℕ). queue ++ arrivals (out next rest)) (here_too (eqb-true to send.0 is)) ∙ append_assoc (queue_at queues p) (time ∷ []) (arrivals (out next rest))
        go false is = ap (λ (queue : List ℕ). queue ++ arrivals (out next rest)) (changed_there [] queues (link_place image from send.0) p (with_last time)
            (λ same. eqb-false to send.0 is (same_from_place from to from send.0 (node_count image) here below.0 same).1))

module _ (image : Parts) (parameters : Parameters) (costs : Costs) (whole : Picture) (event : Event) (picture : IsPicture image whole)
    (enabled : IsTrue (is_enabled image parameters whole.state event))
    (n : ℕ) (exists : n < node_count image) (apart : n ≢ node_of event) where
  abbrev sends : List (ℕ × Msg)
  sends = sends_in image parameters whole event

  abbrev next : Picture
  next = after_in image parameters costs whole event

  abbrev sent : List (Msg × ℕ)
  sent = sent_by image parameters costs whole n event

  here : node_of event < node_count image
  here = (enabled_is image parameters whole.state event enabled).here

  below : GoBelow (node_count image) (sends_in image parameters whole event)
  below = sends_below image parameters whole.state event enabled picture.aimed

  abbrev start : ℕ
  start = start_of image costs whole.times (happening_in image parameters whole event)

  abbrev finish : ℕ
  finish = finish_of image costs whole.times (happening_in image parameters whole event) sends

  link_then : (from : ℕ) → link_at image next.state from n ≡ link_at image whole.state from n ++ cond (from == node_of event) (msgs_to n sends) []
  link_then from =
      link_sent image (node_of event) from n sends (links_taken image whole.state.links event) here exists (links_fit image parameters whole.state.links event ∙ picture.aimed.links) below
      ∙ ap (λ (link : List Msg). link ++ cond (from == node_of event) (msgs_to n sends) []) (link_kept image parameters whole.state.links event from n here exists apart)

  -- from its own node
  pub link_more : link_at image next.state (node_of event) n ≡ link_at image whole.state (node_of event) n ++ messages sent
  link_more =
      link_then (node_of event)
      ∙ ((λ x. link_at image whole.state (node_of event) n ++ cond (eq-eqb (node_of event) (node_of event) refl x) (msgs_to n sends) [])
      ∙ ap (λ (msgs : List Msg). link_at image whole.state (node_of event) n ++ msgs)
      (sym (messages_out image costs (node_of event) (leaves_at event start finish) n (time_at whole.times.ports (node_of event)) sends)))

  taken_long : (e : Event) (queues : List (List ℕ)) → length (arrivals_taken image e queues) ≡ length queues
  taken_long (Instr at) queues = refl
  taken_long (Handle at) queues = refl
  taken_long (Evict at set) queues = refl
  taken_long (Deliver from to) queues = length-set queues (link_place image from.0 to.0) _

  fits : link_place image (node_of event) n < length (arrivals_taken image event whole.times.arrivals)
  fits = subst (λ (size : ℕ). link_place image (node_of event) n < size) (sym (taken_long event whole.times.arrivals ∙ (picture.queues ∙ picture.aimed.links)))
      (mul-add-lt (node_of event) (node_count image) n (node_count image) here exists)

  pub arrivals_more : queue_at next.times.arrivals (link_place image (node_of event) n) ≡ queue_at whole.times.arrivals (link_place image (node_of event) n) ++ arrivals sent
  arrivals_more =
      ap (λ (t : Times). queue_at t.arrivals (link_place image (node_of event) n)) (left_is image costs (happening_in image parameters whole event) sends whole.times start finish)
      ∙ (arrivals_out image costs (node_of event) (leaves_at event start finish) n exists (time_at whole.times.ports (node_of event)) sends (arrivals_taken image event whole.times.arrivals) fits below
      ∙ ap (λ (queue : List ℕ). queue ++ arrivals sent) (queue_kept image whole.times.arrivals event (node_of event) n here exists apart))

  -- from another
  pub link_left : (from : ℕ) → from ≢ node_of event → link_at image next.state from n ≡ link_at image whole.state from n
  link_left from other = link_then from ∙ ((λ x. link_at image whole.state from n ++ cond (ne_eqb from (node_of event) other x) (msgs_to n sends) []) ∙ append-nil (link_at image whole.state from n))

  pub arrivals_left : (from : ℕ) → from ≢ node_of event → queue_at next.times.arrivals (link_place image from n) ≡ queue_at whole.times.arrivals (link_place image from n)
  arrivals_left from other = others_stay image costs whole.times (happening_in image parameters whole event) sends here below from n other exists apart

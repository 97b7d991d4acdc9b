-- Messages that have come are put on links: a picture of which they are all that it lacks then shows the node as it is.
use Rattle.std.proofs.Common.{◌≡◌, ◌≢◌, ℕ, zero, suc, ◌+◌, ◌*◌, ◌<◌, ◌≤◌, ◌==◌, Bool, true, false, cond, List, [], ◌∷◌, ◌++◌, length, append-nil, length-append, refl, sym, ap, subst, ◌∙◌, arith}
use Rattle.std.specs.List.{range_with_len}
use Rattle.std.proofs.lemmas.Bool.{eqb-true, eqb-false, eq-eqb, ne_eqb}
use Rattle.std.proofs.lemmas.List.{length-set, length-map, get_or-set_same, get_or-set_other}
use Rattle.std.proofs.lemmas.Nat.{same_from_place, mul-add-lt}
use Rattle.alw_num.proofs.Weigh.{is_node}
use Rattle.alw_msg.specs.declared.messages.Msg.{Msg}
use Rattle.alw_image.specs.declared.parts.Parts.{Parts}
use Rattle.alw_image.specs.Images.{node_count}
use Rattle.alw_model.specs.Machine.{link_at, link_place}
use Rattle.alw_times.specs.Times.{queue_at}
use Rattle.law_times.proofs.Beside.{beside_set}
use Rattle.law_times.proofs.Counted.{AreAsMany}
use Rattle.law_apart.specs.Pictures.{Picture, IsPicture, ShowsItself, HasCome, ShowsBut, Shows, with_come, all_come}
use Rattle.law_apart.proofs.Exact.{but_alike}
use Rattle.law_apart.proofs.Sent.{messages, arrivals}
use Rattle.law_apart.proofs.Shown.{beside_by, picture_by}

module _ (image : Parts) where
  -- it stays a picture
  with_come_is : (from to : ℕ) (come : List (Msg × ℕ)) (picture : Picture) → IsPicture image picture → IsPicture image (with_come image from to come picture)
  with_come_is from to come picture is = picture_by image (with_come image from to come picture)
      (record { nodes = is.aimed.nodes; links = length-set picture.state.links p (link ++ messages come) ∙ is.aimed.links; each = is.aimed.each })
      (beside_set AreAsMany picture.times.arrivals picture.state.links p (queue ++ arrivals come) (link ++ messages come) as_many (beside_by image picture is))
      is.slots
    where
      p : ℕ
      p = link_place image from to

      link : List Msg
      link = link_at image picture.state from to

      queue : List ℕ
      queue = queue_at picture.times.arrivals (link_place image from to)

      as_many : length (queue ++ arrivals come) ≡ length (link ++ messages come)
      as_many =
          let same = is.arrivals (link_place image from to) in
          let one : length (arrivals come) ≡ length come = length-map come (λ (x : Msg × ℕ). x.1) in
          let other : length (messages come) ≡ length come = length-map come (λ (x : Msg × ℕ). x.0) in
          let first = length-append queue (arrivals come) in
          let second = length-append link (messages come) in
          omega (arith, same, one, other, first, second)

  pub all_come_is : (n : ℕ) (come : ℕ → List (Msg × ℕ)) (nodes : List ℕ) (picture : Picture) → IsPicture image picture → IsPicture image (all_come image n come nodes picture)
  all_come_is n come [] picture is = is
  all_come_is n come (from ∷ nodes) picture is = go (from == n) (all_come_is n come nodes)
    where
      go : (b : Bool) → ((next : Picture) → IsPicture image next → IsPicture image (all_come image n come nodes next)) →
          IsPicture image (all_come image n come nodes (cond b picture (with_come image from n (come from) picture)))
      go true more = more picture is
      go false more = more (with_come image from n (come from) picture) (with_come_is from n (come from) picture is)

  module _ (n : ℕ) (exists : n < node_count image) (whole : Picture) where
    -- from this node nothing is to come any more
    abbrev but_from : ℕ → (ℕ → List (Msg × ℕ)) → ℕ → List (Msg × ℕ)
    but_from k come from = cond (from == k) [] (come from)

    module _ (part : Picture) (is : IsPicture image part) (k : ℕ) (sender : k < node_count image) (apart : k ≢ n) (come : ℕ → List (Msg × ℕ)) (shows : ShowsBut image n come whole part) where
      abbrev then : Picture
      then = with_come image k n (come k) part

      abbrev p : ℕ
      p = link_place image k n

      away : (from : ℕ) → from ≢ k → link_place image from n ≢ p
      away from other same = other (same_from_place from n k n (node_count image) exists exists same).0

      fits : p < node_count image * node_count image
      fits = mul-add-lt k (node_count image) n (node_count image) sender exists

      here : HasCome image n k (come k) whole part → HasCome image n k (but_from k come k) whole then
      here on = subst (λ (b : Bool). HasCome image n k (cond b [] (come k)) whole then) (sym (eq-eqb k k refl)) (record {
        link = on.link ∙ sym (append-nil _
            ∙ get_or-set_same part.state.links p (link_at image part.state k n ++ messages (come k)) [] (subst (λ (size : ℕ). p < size) (sym is.aimed.links) fits));
        arrivals = on.arrivals ∙ sym (append-nil _
            ∙ get_or-set_same part.times.arrivals p (queue_at part.times.arrivals p ++ arrivals (come k)) [] (subst (λ (size : ℕ). p < size) (sym (is.queues ∙ is.aimed.links)) fits));
      })

      there : (from : ℕ) → from ≢ k → HasCome image n from (come from) whole part → HasCome image n from (but_from k come from) whole then
      there from other on = subst (λ (b : Bool). HasCome image n from (cond b [] (come from)) whole then) (sym (ne_eqb from k other)) (record {
        link = on.link ∙ ap (λ (link : List Msg). link ++ messages (come from))
            (sym (get_or-set_other part.state.links p (link_place image from n) (link_at image part.state k n ++ messages (come k)) [] (away from other)));
        arrivals = on.arrivals ∙ ap (λ (queue : List ℕ). queue ++ arrivals (come from))
            (sym (get_or-set_other part.times.arrivals p (link_place image from n) (queue_at part.times.arrivals p ++ arrivals (come k)) [] (away from other)));
      })

      -- what has come from one node is put
      put_one : ShowsBut image n (but_from k come) whole then
      put_one = record {
        itself = record {
          nodes = own.nodes;
          starts = own.starts;
          processors = own.processors;
          controllers = own.controllers;
          ports = own.ports;
          draws = own.draws;
          wakes = own.wakes;
          packets = own.packets;
          arrivals = record {
            long = own.arrivals.long ∙ sym (length-set part.times.arrivals p (queue_at part.times.arrivals p ++ arrivals (come k)));
            here = own.arrivals.here ∙ sym (get_or-set_other part.times.arrivals p (link_place image n n) (queue_at part.times.arrivals p ++ arrivals (come k)) [] (away n (λ same. apart (sym same))));
          };
          link = own.link ∙ sym (get_or-set_other part.state.links p (link_place image n n) (link_at image part.state k n ++ messages (come k)) [] (away n (λ same. apart (sym same))));
        };
        links = λ from below other. is_node (HasCome image n from (but_from k come from) whole then) from k
            (λ same. subst (λ (j : ℕ). HasCome image n j (but_from k come j) whole then) (sym same) (here (shows.links k sender apart)))
            (λ differ. there from differ (shows.links from below other));
      }
        where
          own : ShowsItself image n whole part
          own = shows.itself

    -- from the nodes of a range, which are all that lack
    put_range : (sent : ℕ → List (Msg × ℕ)) (i count : ℕ) (part : Picture) (come : ℕ → List (Msg × ℕ)) → i + count ≡ node_count image → IsPicture image part →
        ((from : ℕ) → from < i → from ≢ n → come from ≡ []) → ((from : ℕ) → i ≤ from → come from ≡ sent from) → ShowsBut image n come whole part →
        Shows image n whole (all_come image n sent (range_with_len i count) part)
    put_range sent i zero part come all is low high shows = but_alike image n whole part come (λ from. []) (λ from below other. low from (omega (arith, all, below)) other) shows
    put_range sent i (suc count) part come all is low high shows = go (i == n) refl (put_range sent (i + 1) count)
      where
        go : (b : Bool) → (i == n) ≡ b →
            ((then : Picture) (next : ℕ → List (Msg × ℕ)) → i + 1 + count ≡ node_count image → IsPicture image then →
            ((from : ℕ) → from < i + 1 → from ≢ n → next from ≡ []) → ((from : ℕ) → i + 1 ≤ from → next from ≡ sent from) →
            ShowsBut image n next whole then → Shows image n whole (all_come image n sent (range_with_len (i + 1) count) then)) →
            Shows image n whole (all_come image n sent (range_with_len (i + 1) count) (cond b part (with_come image i n (sent i) part)))
        go true same more = more part come (omega (arith, all)) is
            (λ from below other. low from (let own = eqb-true i n same in let differ : from ≢ i = λ e. other (e ∙ own) in omega (arith, below, differ)) other)
            (λ from le. high from (omega (arith, le))) shows
        go false differ more =
            let apart = eqb-false i n differ in
            let own : come i ≡ sent i = high i (omega arith) in
            let one = put_one part is i (omega (arith, all)) apart come shows in
            more (with_come image i n (sent i) part) (but_from i come) (omega (arith, all)) (with_come_is i n (sent i) part is)
            (λ from below other. is_node (but_from i come from ≡ []) from i
            (λ same. ap (λ b. cond b [] (come from)) (eq-eqb from i same))
            (λ away. ap (λ b. cond b [] (come from)) (ne_eqb from i away) ∙ low from (omega (arith, below, away)) other))
            (λ from le. ap (λ b. cond b [] (come from)) (ne_eqb from i (λ same. absurd (omega (arith, le, same)))) ∙ high from (omega (arith, le)))
            (subst (λ (msgs : List (Msg × ℕ)). ShowsBut image n (but_from i come) whole (with_come image i n msgs part)) own one)

    pub put_all : (part : Picture) (come : ℕ → List (Msg × ℕ)) → IsPicture image part → ShowsBut image n come whole part →
        Shows image n whole (all_come image n come (range_with_len 0 (node_count image)) part)
    put_all part come is shows = put_range come 0 (node_count image) part come (omega arith) is (λ from below other. absurd (omega (arith, below))) (λ from le. refl) shows

-- What a message more, a message less and more places do to a pool.
use Rattle.std.proofs.Common.{◌≡◌, ◌≢◌, ◌≤◌, ◌<◌, ℕ, zero, suc, ◌+◌, ◌-◌, Bool, true, cond, not, ◌==◌, nat_lt, Some, List, [], ◌∷◌, ◌++◌, length, map, get_or, slice_get, slice_set, refl, sym, ap, subst, ◌∙◌, arith}
use Rattle.std.proofs.lemmas.Bool.{ne_eqb}
use Rattle.std.proofs.lemmas.Bool.Decides.{nat_tests}
use Rattle.std.proofs.lemmas.List.{length-set, length_push, map-set, map-append}
use Rattle.std.proofs.lemmas.Option.{get_or_from_slice_get, slice_get_read}
use Rattle.alw_num.specs.Weights.{digit, weigh}
use Rattle.alw_num.proofs.Weigh.{weigh_push, digit_le, digit_same}
use Rattle.alw_msg.specs.declared.messages.Msg.{Msg}
use Rattle.alw_msg.specs.Lists.{behind, front, is_nonempty}
use Rattle.alw_links.specs.declared.pools.Ends.{Ends}
use Rattle.alw_links.specs.declared.pools.PoolPlace.{PoolPlace}
use Rattle.alw_links.specs.Chains.{no_place, messages_from, links_of, Spot, start_of, end_of, messages_of, times_in, place_with, IsPath, IsChain, IsLink, AreLinks, IsPool, IsPoolOf}
use Rattle.alw_links.proofs.Chains.{get-set_same, get-push, weigh-set, weigh-at, kept_beside, kept_more, within, end_within, end_stands, links_are, as_many, link_read, links_beside, links_changed, links_more, end_push, extended}

get_or-messages : (chains : List (List Spot)) (i : ℕ) → get_or (map messages_of chains) i [] ≡ messages_of (get_or chains i [])
get_or-messages [] i = refl
get_or-messages (chain ∷ chains) zero = refl
get_or-messages (chain ∷ chains) (suc i) = get_or-messages chains i

-- a place that was read
read_is : (places : List PoolPlace) (k : ℕ) (seen place : PoolPlace) → seen ≡ get_or places k seen → slice_get places k ≡ Some place → seen ≡ place
read_is places k seen place e there = e ∙ get_or_from_slice_get places k place seen there

-- a chain whose last place is none
none_on : (places : List PoolPlace) (chain : List Spot) → length places ≤ no_place → IsPath places chain → end_of chain ≡ no_place → chain ≡ []
none_on places [] few path e = refl
none_on places (spot ∷ rest) few path e = absurd (omega (arith, end_within places spot rest path))

-- the first spare place
record HasSpare (places : List PoolPlace) (spare : ℕ) (loose : List Spot) : Type 0 where
  pub spot : Spot
  pub more : List Spot
  pub whole : loose ≡ spot ∷ more
  pub at : spot.at ≡ spare
  pub path : IsPath places (spot ∷ more)

has_spare : (places : List PoolPlace) (spare : ℕ) (loose : List Spot) → 1 ≤ length loose → spare ≡ start_of loose → IsPath places loose → HasSpare places spare loose
has_spare places spare [] some starts path = absurd (omega arith)
has_spare places spare (spot ∷ more) some starts path = record { spot = spot; more = more; whole = refl; at = sym starts; path = path }

module _ (places : List PoolPlace) (links : List Ends) (spare room : ℕ) (is : IsPool places links spare room) where
  pub lists : links_of places links ≡ map messages_of is.chains
  lists = links_are places links is.chains is.few (omega (arith, is.counted)) is.linked

  pub lists_at : (i : ℕ) → get_or (links_of places links) i [] ≡ messages_of (get_or is.chains i [])
  lists_at i = ap (λ (ls : List (List Msg)). get_or ls i []) lists ∙ get_or-messages is.chains i

  module _ (i : ℕ) (here : i < length links) where
    fits : i < length is.chains
    fits = omega (arith, as_many places links is.chains is.linked, here)

    -- one link has another chain, and the spare chain what is left
    moves : (after : List PoolPlace) (now : Ends) (path left : List Spot) (first size : ℕ) → length after ≡ length places → AreLinks after (slice_set links i now) (slice_set is.chains i path)
        → IsPath after left → first ≡ start_of left → length left ≡ size → ((k : ℕ) → times_in k path + times_in k left ≡ times_in k (get_or is.chains i []) + times_in k is.loose)
        → length path + length left ≡ length (get_or is.chains i []) + length is.loose
        → IsPoolOf after (slice_set links i now) first size (slice_set (links_of places links) i (messages_of path))
    moves after now path left first size long are way starts left_is counts sizes =
        let few : length after ≤ no_place = omega (arith, is.few) in
        let counted : weigh (λ chain. length chain) (slice_set is.chains i path) + length left ≡ length after = omega (arith, weigh-set (λ (chain : List Spot). length chain) is.chains i path [] fits, is.counted) in
        record {
          pool = record {
            chains = slice_set is.chains i path;
            loose = left;
            linked = are;
            starts = starts;
            path = way;
            left = left_is;
            once = λ k. omega (arith, weigh-set (λ (chain : List Spot). times_in k chain) is.chains i path [] fits, is.once k, counts k, ap (λ (n : ℕ). digit (nat_lt k n)) long);
            counted = counted;
            few = few;
          };
          lists_are = links_are after (slice_set links i now) (slice_set is.chains i path) few (omega arith) are ∙ (map-set messages_of is.chains i path
              ∙ ap (λ (ls : List (List Msg)). slice_set ls i (messages_of path)) (sym lists));
        }

    -- ---- a message more

    module _ (msg : Msg) (free : HasSpare places spare is.loose) where
      written : List PoolPlace
      written = slice_set places free.spot.at (place_with msg no_place)

      new_spot : Spot
      new_spot = record { at = free.spot.at; msg = msg }

      loose_times : (k : ℕ) → times_in k is.loose ≡ digit (k == free.spot.at) + times_in k free.more
      loose_times k = ap (times_in k) free.whole

      loose_length : length is.loose ≡ 1 + length free.more
      loose_length = omega (arith, ap length free.whole)

      off_links : weigh (λ chain. times_in free.spot.at chain) is.chains ≡ 0
      off_links = omega (arith, is.once free.spot.at, loose_times free.spot.at, digit_same free.spot.at free.spot.at refl, digit_le (nat_lt free.spot.at (length places)))

      off_more : times_in free.spot.at free.more ≡ 0
      off_more = omega (arith, is.once free.spot.at, loose_times free.spot.at, digit_same free.spot.at free.spot.at refl, digit_le (nat_lt free.spot.at (length places)))

      there : slice_get written free.spot.at ≡ Some (place_with msg no_place)
      unfolding written
      there = get-set_same places free.spot.at (place_with msg no_place) (within places free.spot free.more free.path)

      way : IsPath written free.more
      unfolding written
      way = kept_beside places free.spot.at (place_with msg no_place) free.more off_more free.path.1

      -- to an empty link
      sent_alone : get_or is.chains i [] ≡ []
          → IsPoolOf written (slice_set links i (record { first = free.spot.at; last = free.spot.at })) (start_of free.more) (room - 1) (slice_set (links_of places links) i (get_or (links_of places links) i [] ++ msg ∷ []))
      unfolding written new_spot
      sent_alone none =
          let now : Ends = record { first = free.spot.at; last = free.spot.at } in
          let link : IsLink written now (new_spot ∷ []) = record { first = refl; last = refl; path = (there, tt) } in
          let old : get_or (links_of places links) i [] ≡ [] = lists_at i ∙ ap messages_of none in
          subst (λ (msgs : List Msg). IsPoolOf written (slice_set links i now) (start_of free.more) (room - 1) (slice_set (links_of places links) i (msgs ++ msg ∷ []))) (sym old)
          (moves written now (new_spot ∷ []) free.more (start_of free.more) (room - 1) (length-set places free.spot.at (place_with msg no_place))
          (links_changed places free.spot.at (place_with msg no_place) now (new_spot ∷ []) links is.chains i here (omega (arith, off_links)) link is.linked)
          way refl (omega (arith, is.left, loose_length)) (λ k. omega (arith, loose_times k, ap (times_in k) none)) (omega (arith, loose_length, ap length none)))

      -- behind the last place of a link
      sent_behind : (first : Spot) (rest : List Spot) (ends : Ends) (seen : PoolPlace) → get_or is.chains i [] ≡ first ∷ rest → ends.first ≡ first.at → seen ≡ get_or written (end_of (first ∷ rest)) seen
          → IsPoolOf (slice_set written (end_of (first ∷ rest)) (place_with seen.msg free.spot.at)) (slice_set links i (record { first = ends.first; last = free.spot.at })) (start_of free.more) (room - 1)
          (slice_set (links_of places links) i (get_or (links_of places links) i [] ++ msg ∷ []))
      unfolding written new_spot
      sent_behind first rest ends seen some start read =
          let last = end_of (first ∷ rest) in
          let now : Ends = record { first = ends.first; last = free.spot.at } in
          let after : List PoolPlace = slice_set written last (place_with seen.msg free.spot.at) in
          let old : get_or (links_of places links) i [] ++ msg ∷ [] ≡ messages_of (first ∷ (rest ++ new_spot ∷ [])) =
          ap (λ (msgs : List Msg). msgs ++ msg ∷ []) (lists_at i ∙ ap messages_of some) ∙ sym (map-append (λ (spot : Spot). spot.msg) (first ∷ rest) (new_spot ∷ [])) in
          let at_i : (k : ℕ) → times_in k (get_or is.chains i []) ≡ times_in k (first ∷ rest) = λ k. ap (times_in k) some in
          let all : (k : ℕ) → times_in k (get_or is.chains i []) ≤ weigh (λ chain. times_in k chain) is.chains = λ k. weigh-at (λ (chain : List Spot). times_in k chain) is.chains i [] fits in
          let stands = end_stands first rest in
          let one : times_in last (first ∷ rest) ≤ 1 = omega (arith, all last, at_i last, is.once last, digit_le (nat_lt last (length places))) in
          let alone : weigh (λ chain. times_in last chain) is.chains ≤ times_in last (get_or is.chains i []) = omega (arith, all last, at_i last, is.once last, digit_le (nat_lt last (length places))) in
          let off : times_in last free.more ≡ 0 = omega (arith, all last, at_i last, is.once last, loose_times last, digit_le (nat_lt last (length places))) in
          let apart : free.spot.at ≢ last = λ e. absurd (omega (arith, off_links, ap (λ (k : ℕ). weigh (λ (chain : List Spot). times_in k chain) is.chains) e, all last, at_i last)) in
          let before : IsPath places (first ∷ rest) = subst (IsPath places) some (link_read places links is.chains i ends is.linked here).path in
          let none_of : times_in free.spot.at (first ∷ rest) ≡ 0 = omega (arith, off_links, all free.spot.at, at_i free.spot.at) in
          let kept = kept_beside places free.spot.at (place_with msg no_place) (first ∷ rest) none_of before in
          let inside : last < length written = omega (arith, end_within places first rest before, length-set places free.spot.at (place_with msg no_place)) in
          let link : IsLink after now (first ∷ (rest ++ new_spot ∷ [])) = record {
            first = start;
            last = sym (end_push (first ∷ rest) new_spot);
            path = extended written first rest new_spot seen one apart there (there_is written last seen inside read) kept;
          } in
          let long : length after ≡ length places = length-set written last (place_with seen.msg free.spot.at) ∙ length-set places free.spot.at (place_with msg no_place) in
          let base = links_beside places free.spot.at (place_with msg no_place) links is.chains off_links is.linked in
          subst (λ (msgs : List Msg). IsPoolOf after (slice_set links i now) (start_of free.more) (room - 1) (slice_set (links_of places links) i msgs)) (sym old)
          (moves after now (first ∷ (rest ++ new_spot ∷ [])) free.more (start_of free.more) (room - 1) long
          (links_changed written last (place_with seen.msg free.spot.at) now (first ∷ (rest ++ new_spot ∷ [])) links is.chains i here alone link base)
          (kept_beside written last (place_with seen.msg free.spot.at) free.more off way) refl (omega (arith, is.left, loose_length))
          (λ k. omega (arith, loose_times k, at_i k, weigh_push (λ (spot : Spot). digit (k == spot.at)) rest new_spot))
          (omega (arith, loose_length, ap length some, length_push rest new_spot)))
        where
          there_is : (ps : List PoolPlace) (k : ℕ) (place : PoolPlace) → k < length ps → place ≡ get_or ps k place → slice_get ps k ≡ Some place
          there_is ps k place l e = slice_get_read ps (length ps) k place refl l e

    -- ---- a message less

    taken_at : (first : Spot) (rest : List Spot) (seen : PoolPlace) (last : ℕ) → get_or is.chains i [] ≡ first ∷ rest → slice_get places first.at ≡ Some (place_with first.msg (start_of rest))
        → seen ≡ get_or places first.at seen → last ≡ end_of rest
        → IsPoolOf (slice_set places first.at (place_with seen.msg spare)) (slice_set links i (record { first = start_of rest; last = last })) first.at (room + 1)
        (slice_set (links_of places links) i (behind (get_or (links_of places links) i [])))
    taken_at first rest seen last some there read last_is =
        let now : Ends = record { first = start_of rest; last = last } in
        let after : List PoolPlace = slice_set places first.at (place_with seen.msg spare) in
        let at_i : (k : ℕ) → times_in k (get_or is.chains i []) ≡ digit (k == first.at) + times_in k rest = λ k. ap (times_in k) some in
        let all : (k : ℕ) → times_in k (get_or is.chains i []) ≤ weigh (λ chain. times_in k chain) is.chains = λ k. weigh-at (λ (chain : List Spot). times_in k chain) is.chains i [] fits in
        let path : IsPath places (first ∷ rest) = subst (IsPath places) some (link_read places links is.chains i now is.linked here).path in
        let one = digit_same first.at first.at refl in
        let whole : weigh (λ chain. times_in first.at chain) is.chains + times_in first.at is.loose ≤ 1 = omega (arith, is.once first.at, digit_le (nat_lt first.at (length places))) in
        let alone : weigh (λ chain. times_in first.at chain) is.chains ≤ times_in first.at (get_or is.chains i []) = omega (arith, all first.at, at_i first.at) in
        let off_rest : times_in first.at rest ≡ 0 = omega (arith, all first.at, at_i first.at) in
        let off_loose : times_in first.at is.loose ≡ 0 = omega (arith, all first.at, at_i first.at) in
        let msg_is : seen.msg ≡ first.msg = ap (λ (p : PoolPlace). p.msg) (read_is places first.at seen (place_with first.msg (start_of rest)) read there) in
        let link : IsLink after now rest = record { first = refl; last = last_is; path = kept_beside places first.at (place_with seen.msg spare) rest off_rest path.1 } in
        let way : IsPath after (first ∷ is.loose) = (
          get-set_same places first.at (place_with seen.msg spare) (within places first rest path) ∙ (λ k. Some (place_with (msg_is k) (is.starts k))),
          kept_beside places first.at (place_with seen.msg spare) is.loose off_loose is.path,
        ) in
        let old : behind (get_or (links_of places links) i []) ≡ messages_of rest = ap behind (lists_at i ∙ ap messages_of some) in
        subst (λ (msgs : List Msg). IsPoolOf after (slice_set links i now) first.at (room + 1) (slice_set (links_of places links) i msgs)) (sym old)
        (moves after now rest (first ∷ is.loose) first.at (room + 1) (length-set places first.at (place_with seen.msg spare))
        (links_changed places first.at (place_with seen.msg spare) now rest links is.chains i here alone link is.linked)
        way refl (omega (arith, is.left)) (λ k. omega (arith, at_i k)) (omega (arith, ap length some)))

    -- ---- a link as it was read

    link_is : (ends : Ends) → ends ≡ get_or links i ends → IsLink places ends (get_or is.chains i [])
    link_is ends read = subst (λ (e : Ends). IsLink places e (get_or is.chains i [])) (sym read) (link_read places links is.chains i ends is.linked here)

    pub was_empty : (ends : Ends) → ends ≡ get_or links i ends → ends.last ≡ no_place → get_or (links_of places links) i [] ≡ []
    was_empty ends read none =
        let link = link_is ends read in
        lists_at i ∙ ap messages_of (none_on places (get_or is.chains i []) is.few link.path (sym link.last ∙ none))

    -- the places of a link that has some
    record HasSome (ends : Ends) : Type 0 where
      pub first : Spot
      pub rest : List Spot
      pub some : get_or is.chains i [] ≡ first ∷ rest
      pub start : ends.first ≡ first.at
      pub end : ends.last ≡ end_of (first ∷ rest)
      pub path : IsPath places (first ∷ rest)

    has_some : (ends : Ends) → ends ≡ get_or links i ends → (get_or is.chains i [] ≡ [] → ⊥) → HasSome ends
    has_some ends read some = go (get_or is.chains i []) refl (link_is ends read)
      where
        go : (chain : List Spot) → get_or is.chains i [] ≡ chain → IsLink places ends chain → HasSome ends
        go [] e link = absurd (some e)
        go (first ∷ rest) e link = record { first = first; rest = rest; some = e; start = link.first; end = link.last; path = link.path }

    last_some : (ends : Ends) → ends ≡ get_or links i ends → ends.last ≢ no_place → HasSome ends
    last_some ends read some = has_some ends read (λ e. some ((link_is ends read).last ∙ ap end_of e))

    pub last_within : (ends : Ends) → ends ≡ get_or links i ends → ends.last ≢ no_place → ends.last < length places
    last_within ends read some = let h = last_some ends read some in omega (arith, h.end, end_within places h.first h.rest h.path)

    pub was_some : (ends : Ends) → ends ≡ get_or links i ends → ends.last ≢ no_place → is_nonempty (get_or (links_of places links) i []) ≡ true
    was_some ends read some = let h = last_some ends read some in ap is_nonempty (lists_at i ∙ ap messages_of h.some)

    -- ---- a message more, as it is sent

    pub sends_alone : (msg : Msg) (ends : Ends) (seen : PoolPlace) → 1 ≤ room → ends ≡ get_or links i ends → ends.last ≡ no_place → seen ≡ get_or places spare seen
        → IsPoolOf (slice_set places spare (place_with msg no_place)) (slice_set links i (record { first = spare; last = spare })) seen.next (room - 1)
        (slice_set (links_of places links) i (get_or (links_of places links) i [] ++ msg ∷ []))
    unfolding written
    sends_alone msg ends seen room_is read none seen_is =
        let link = link_is ends read in
        let free = has_spare places spare is.loose (omega (arith, is.left)) is.starts is.path in
        let sent_lists = slice_set (links_of places links) i (get_or (links_of places links) i [] ++ msg ∷ []) in
        let next : seen.next ≡ start_of free.more = ap (λ (p : PoolPlace). p.next) (read_is places spare seen (place_with free.spot.msg (start_of free.more)) seen_is
        (ap (slice_get places) (sym free.at) ∙ free.path.0)) in
        subst (λ (n : ℕ). IsPoolOf (slice_set places spare (place_with msg no_place)) (slice_set links i (record { first = spare; last = spare })) n (room - 1) sent_lists) (sym next)
        (subst (λ (k : ℕ). IsPoolOf (slice_set places k (place_with msg no_place)) (slice_set links i (record { first = k; last = k })) (start_of free.more) (room - 1) sent_lists) free.at
        (sent_alone msg free (none_on places (get_or is.chains i []) is.few link.path (sym link.last ∙ none))))

    pub sends_behind : (msg : Msg) (ends old : Ends) (seen last : PoolPlace) → 1 ≤ room → ends ≡ get_or links i ends → old ≡ get_or links i old → ends.last ≢ no_place → seen ≡ get_or places spare seen
        → last ≡ get_or (slice_set places spare (place_with msg no_place)) ends.last last
        → IsPoolOf (slice_set (slice_set places spare (place_with msg no_place)) ends.last (place_with last.msg spare)) (slice_set links i (record { first = old.first; last = spare })) seen.next (room - 1)
        (slice_set (links_of places links) i (get_or (links_of places links) i [] ++ msg ∷ []))
    unfolding written
    sends_behind msg ends old seen last room_is read old_read some seen_is last_is =
        let h = last_some ends read some in
        let free = has_spare places spare is.loose (omega (arith, is.left)) is.starts is.path in
        let sent_lists = slice_set (links_of places links) i (get_or (links_of places links) i [] ++ msg ∷ []) in
        let next : seen.next ≡ start_of free.more = ap (λ (p : PoolPlace). p.next) (read_is places spare seen (place_with free.spot.msg (start_of free.more)) seen_is
        (ap (slice_get places) (sym free.at) ∙ free.path.0)) in
        let start : old.first ≡ h.first.at = (link_is old old_read).first ∙ ap start_of h.some in
        let read_last : last ≡ get_or (slice_set places free.spot.at (place_with msg no_place)) (end_of (h.first ∷ h.rest)) last = last_is ∙ (λ k. get_or (slice_set places (sym free.at k) (place_with msg no_place)) (h.end k) last) in
        subst (λ (n : ℕ). IsPoolOf (slice_set (slice_set places spare (place_with msg no_place)) ends.last (place_with last.msg spare)) (slice_set links i (record { first = old.first; last = spare })) n (room - 1) sent_lists) (sym next)
        (subst (λ (e : ℕ). IsPoolOf (slice_set (slice_set places spare (place_with msg no_place)) e (place_with last.msg spare)) (slice_set links i (record { first = old.first; last = spare })) (start_of free.more) (room - 1) sent_lists) (sym h.end)
        (subst (λ (k : ℕ). IsPoolOf (slice_set (slice_set places k (place_with msg no_place)) (end_of (h.first ∷ h.rest)) (place_with last.msg k)) (slice_set links i (record { first = old.first; last = k })) (start_of free.more) (room - 1) sent_lists) free.at
        (sent_behind msg free h.first h.rest old last h.some start read_last)))

    -- ---- a message less, as it is taken

    first_some : (ends : Ends) → ends ≡ get_or links i ends → 1 ≤ length (get_or (links_of places links) i []) → HasSome ends
    first_some ends read some = has_some ends read (λ e. omega (arith, ap length (lists_at i ∙ ap messages_of e)))

    pub some_first : (ends : Ends) → ends ≡ get_or links i ends → ends.first ≢ no_place → 1 ≤ length (get_or (links_of places links) i [])
    some_first ends read some =
        let h = has_some ends read (λ e. some ((link_is ends read).first ∙ ap start_of e)) in
        omega (arith, ap length (lists_at i ∙ ap messages_of h.some))

    pub room_below : (ends : Ends) → ends ≡ get_or links i ends → 1 ≤ length (get_or (links_of places links) i []) → room + 1 ≤ length places
    room_below ends read some =
        let h = first_some ends read some in
        omega (arith, is.counted, is.left, weigh-at (λ (chain : List Spot). length chain) is.chains i [] fits, ap length h.some)

    -- what was read at the first place
    first_is : (ends : Ends) (seen : PoolPlace) (h : HasSome ends) → seen ≡ get_or places ends.first seen → seen ≡ place_with h.first.msg (start_of h.rest)
    first_is ends seen h seen_is = read_is places ends.first seen (place_with h.first.msg (start_of h.rest)) seen_is (ap (slice_get places) h.start ∙ h.path.0)

    pub takes_front : (ends : Ends) (seen : PoolPlace) → ends ≡ get_or links i ends → 1 ≤ length (get_or (links_of places links) i []) → seen ≡ get_or places ends.first seen
        → front (get_or (links_of places links) i []) ≡ Some seen.msg
    takes_front ends seen read some seen_is =
        let h = first_some ends read some in
        ap front (lists_at i ∙ ap messages_of h.some) ∙ ap (λ (p : PoolPlace). Some p.msg) (sym (first_is ends seen h seen_is))

    -- the index that ends a chain tells whether it goes on
    goes_on : (rest : List Spot) → IsPath places rest → not (start_of rest == no_place) ≡ is_nonempty (messages_of rest)
    goes_on [] path = refl
    goes_on (spot ∷ rest) path = ap not (ne_eqb spot.at no_place (λ e. omega (arith, within places spot rest path, is.few)))

    pub takes_more : (ends : Ends) (seen : PoolPlace) → ends ≡ get_or links i ends → 1 ≤ length (get_or (links_of places links) i []) → seen ≡ get_or places ends.first seen
        → not (seen.next == no_place) ≡ is_nonempty (behind (get_or (links_of places links) i []))
    takes_more ends seen read some seen_is =
        let h = first_some ends read some in
        ap (λ (p : PoolPlace). not (p.next == no_place)) (first_is ends seen h seen_is) ∙ (goes_on h.rest h.path.1 ∙ ap (λ (msgs : List Msg). is_nonempty (behind msgs)) (sym (lists_at i ∙ ap messages_of h.some)))

    -- the last place of what is left
    end_left : (first : Spot) (rest : List Spot) (last : ℕ) → IsPath places rest → last ≡ end_of (first ∷ rest) → cond (start_of rest == no_place) no_place last ≡ end_of rest
    end_left first [] last path e = refl
    end_left first (spot ∷ rest) last path e = ap (λ (b : Bool). cond b no_place last) (ne_eqb spot.at no_place (λ same. omega (arith, within places spot rest path, is.few))) ∙ e

    pub takes : (ends : Ends) (seen again : PoolPlace) (last : ℕ) → ends ≡ get_or links i ends → 1 ≤ length (get_or (links_of places links) i []) → seen ≡ get_or places ends.first seen
        → again ≡ get_or places ends.first again → last ≡ cond (seen.next == no_place) no_place ends.last
        → IsPoolOf (slice_set places ends.first (place_with again.msg spare)) (slice_set links i (record { first = seen.next; last = last })) ends.first (room + 1)
        (slice_set (links_of places links) i (behind (get_or (links_of places links) i [])))
    takes ends seen again last read some seen_is again_is last_is =
        let h = first_some ends read some in
        let left_lists = slice_set (links_of places links) i (behind (get_or (links_of places links) i [])) in
        let next : seen.next ≡ start_of h.rest = ap (λ (p : PoolPlace). p.next) (first_is ends seen h seen_is) in
        let end : last ≡ end_of h.rest = last_is ∙ (ap (λ (n : ℕ). cond (n == no_place) no_place ends.last) next ∙ end_left h.first h.rest ends.last h.path.1 h.end) in
        let read_again : again ≡ get_or places h.first.at again = again_is ∙ ap (λ (k : ℕ). get_or places k again) h.start in
        subst (λ (n : ℕ). IsPoolOf (slice_set places ends.first (place_with again.msg spare)) (slice_set links i (record { first = n; last = last })) ends.first (room + 1) left_lists) (sym next)
        (subst (λ (k : ℕ). IsPoolOf (slice_set places k (place_with again.msg spare)) (slice_set links i (record { first = start_of h.rest; last = last })) k (room + 1) left_lists) (sym h.start)
        (taken_at h.first h.rest again last h.some h.path.0 read_again end))

    -- ---- a link that is walked

    pub walked : (ends : Ends) → ends ≡ get_or links i ends → IsChain places ends.first
    walked ends read = let link = link_is ends read in record {
      chain = get_or is.chains i [];
      starts = link.first;
      path = link.path;
      short = omega (arith, is.counted, weigh-at (λ (chain : List Spot). length chain) is.chains i [] fits);
      few = is.few;
    }

    pub walked_is : (ends : Ends) → ends ≡ get_or links i ends → get_or (links_of places links) i [] ≡ messages_from places ends.first
    walked_is ends read = get_or-links links i here ∙ ap (λ (e : Ends). messages_from places e.first) (sym read)
      where
        get_or-links : (ls : List Ends) (k : ℕ) → k < length ls → get_or (links_of places ls) k [] ≡ messages_from places (get_or ls k ends).first
        get_or-links [] k l = absurd (omega arith)
        get_or-links (e ∷ es) zero l = refl
        get_or-links (e ∷ es) (suc k) l = go_on es k (omega arith)
          where
            go_on : (es : List Ends) (k : ℕ) → k < length es → get_or (links_of places es) k [] ≡ messages_from places (get_or es k ends).first
            go_on [] k l = absurd (omega arith)
            go_on (e ∷ es) zero l = refl
            go_on (e ∷ es) (suc k) l = go_on es k (omega arith)

  -- ---- places more

  pub widens : (msg : Msg) → length places + 1 ≤ no_place → IsPoolOf (places ++ place_with msg spare ∷ []) links (length places) (room + 1) (links_of places links)
  widens msg more =
      let after : List PoolPlace = places ++ place_with msg spare ∷ [] in
      let long : length after ≡ length places + 1 = length_push places (place_with msg spare) in
      let few : length after ≤ no_place = omega arith in
      let spot : Spot = record { at = length places; msg = msg } in
      let linked = links_more places (place_with msg spare ∷ []) links is.chains is.linked in
      record {
        pool = record {
          chains = is.chains;
          loose = spot ∷ is.loose;
          linked = linked;
          starts = refl;
          path = (get-push places (place_with msg spare) ∙ ap (λ (n : ℕ). Some (place_with msg n)) is.starts, kept_more places (place_with msg spare ∷ []) is.loose is.path);
          left = omega (arith, is.left);
          once = λ k. omega (arith, is.once k, one_more k (length places), ap (λ (n : ℕ). digit (nat_lt k n)) long);
          counted = omega (arith, is.counted, long);
          few = few;
        };
        lists_are = links_are after links is.chains few (omega (arith, is.counted, long)) linked ∙ sym lists;
      }
    where
      one_more : (k n : ℕ) → digit (nat_lt k n) + digit (k == n) ≡ digit (nat_lt k (n + 1))
      one_more k n = grind (arith, nat_tests)

-- a pool of the same messages with a place more
pub wider : (places : List PoolPlace) (links : List Ends) (spare room : ℕ) (said : List (List Msg)) (place : PoolPlace) (after : List PoolPlace) (size : ℕ) → IsPoolOf places links spare room said
    → length places + 1 ≤ no_place → place.next ≡ spare → after ≡ places ++ place ∷ [] → size ≡ length places → IsPoolOf after links size (room + 1) said
wider places links spare room said place after size is more next_is after_is size_is =
    let now = widens places links spare room is.pool place.msg more in
    let one : IsPoolOf (places ++ place ∷ []) links (length places) (room + 1) said =
    subst (λ (n : ℕ). IsPoolOf (places ++ place_with place.msg n ∷ []) links (length places) (room + 1) said) (sym next_is) (record { pool = now.pool; lists_are = now.lists_are ∙ is.lists_are }) in
    subst (λ (ps : List PoolPlace). IsPoolOf ps links size (room + 1) said) (sym after_is) (subst (λ (n : ℕ). IsPoolOf (places ++ place ∷ []) links n (room + 1) said) (sym size_is) one)

pub one_longer : (places after : List PoolPlace) (place : PoolPlace) → after ≡ places ++ place ∷ [] → length after ≡ length places + 1
one_longer places after place e = ap length e ∙ length_push places place

-- Pools grow at their ends, and what has a number keeps it.
use Rattle.std.proofs.Common.{◌≡◌, ℕ, zero, suc, ◌+◌, ◌<◌, ◌++◌, ◌⊎◌, inl, inr, Some, None, Option, List, [], ◌∷◌, length, slice_index_or, refl, sym, ap, ◌∙◌, subst, arith, append_assoc, append-nil, length-append, length-set}
use Rattle.std.specs.List.{slice_get}
use Rattle.std.proofs.lemmas.Option.{slice_get_within, get_or_from_slice_get, slice_get-get_or}
use Rattle.alw_num.specs.declared.addresses.Line.{Line}
use Rattle.alw_num.specs.declared.addresses.LineNo.{LineNo}
use Rattle.sparc_table.specs.declared.outcomes.Outcome.{Outcome}
use Rattle.alw_msg.specs.declared.contexts.Status.{Status}
use Rattle.alw_image.specs.declared.parts.Parts.{Parts}
use Rattle.alw_image.specs.Images.{line_count}
use Rattle.alw_model.specs.ProcessorSteps.{status_after}
use Rattle.alw_outcomes.specs.declared.pools.Seat.{Seat}
use Rattle.alw_outcomes.specs.declared.pools.Link.{Link}
use Rattle.alw_outcomes.specs.declared.pools.Numbers.{Numbers}
use Rattle.alw_outcomes.specs.declared.pools.Pools.{Pools}
use Rattle.alw_places.specs.declared.turns.Left.{Left}
use Rattle.alw_outcomes.specs.Digests.{seat_digest, link_digest, memory_digest}
use Rattle.alw_places.specs.Effects.{Effect, effect_of, written}
use Rattle.alw_places.specs.Threads.{effect_in, thread_turn, words_after}
use Rattle.alw_outcomes.specs.Pools.{HasGrown, Numbered, IsIndexed, LinksGoOn, ListHasWords, AreIn, ArePools, GoOn, with_links, lists_of, no_seat, seat_in, memory_in, thread_in}

-- ---- members of a list that grows at its end

pub get-append : {A : Type 0} (xs ys : List A) (k : ℕ) (x : A) → slice_get xs k ≡ Some x → slice_get (xs ++ ys) k ≡ Some x
get-append [] ys k x e = absurd (cc)
get-append (y ∷ xs) ys zero x e = e
get-append (y ∷ xs) ys (suc k) x e = get-append xs ys k x e

pub get-last : {A : Type 0} (xs : List A) (x : A) → slice_get (xs ++ x ∷ []) (length xs) ≡ Some x
get-last [] x = refl
get-last (y ∷ xs) x = get-last xs x

pub some_is : {A : Type 0} (x y : A) → Some x ≡ Some y → x ≡ y
some_is x y e = cc

-- a member is an earlier one, or the last
pub get-cases : {A : Type 0} (xs : List A) (x : A) (k : ℕ) (y : A) → slice_get (xs ++ x ∷ []) k ≡ Some y → (slice_get xs k ≡ Some y) ⊎ ((k ≡ length xs) × (x ≡ y))
get-cases [] x zero y e = inr (refl, some_is x y e)
get-cases [] x (suc k) y e = absurd (cc)
get-cases (z ∷ xs) x zero y e = inl e
get-cases (z ∷ xs) x (suc k) y e = go (get-cases xs x k y e)
  where
    go : (slice_get xs k ≡ Some y) ⊎ ((k ≡ length xs) × (x ≡ y)) → (slice_get xs k ≡ Some y) ⊎ ((suc k ≡ suc (length xs)) × (x ≡ y))
    go (inl here) = inl here
    go (inr last) = inr (ap suc last.0, last.1)

pub or-append : {A : Type 0} (xs ys : List A) (k : ℕ) (d : A) → k < length xs → slice_index_or (xs ++ ys) k d ≡ slice_index_or xs k d
or-append [] ys k d less = absurd (omega arith)
or-append (x ∷ xs) ys zero d less = refl
or-append (x ∷ xs) ys (suc k) d less = or-append xs ys k d (omega arith)

-- ---- fronts

pub front_refl : {A : Type 0} (xs : List A) → HasGrown xs xs
front_refl xs = record { more = []; is = sym (append-nil xs) }

pub front_trans : {A : Type 0} (xs ys zs : List A) → HasGrown xs ys → HasGrown ys zs → HasGrown xs zs
front_trans xs ys zs one two = record { more = one.more ++ two.more; is = two.is ∙ ap (λ l. l ++ two.more) one.is ∙ append_assoc xs one.more two.more }

pub front_get : {A : Type 0} (xs ys : List A) (k : ℕ) (x : A) → HasGrown xs ys → slice_get xs k ≡ Some x → slice_get ys k ≡ Some x
front_get xs ys k x front e = subst (λ l. slice_get l k ≡ Some x) (sym front.is) (get-append xs front.more k x e)

pub front_or : {A : Type 0} (xs ys : List A) (k : ℕ) (d : A) → HasGrown xs ys → k < length xs → slice_index_or ys k d ≡ slice_index_or xs k d
front_or xs ys k d front less = ap (λ l. slice_index_or l k d) front.is ∙ or-append xs front.more k d less

pub front_length : {A : Type 0} (xs ys : List A) (k : ℕ) → HasGrown xs ys → k < length xs → k < length ys
front_length xs ys k front less = let e = ap length front.is in omega (arith, e, length-append xs front.more)

-- ---- a member with its number

pub numbered_get : {A : Type 0} (before after : List A) (x : A) (at : ℕ) → Numbered before after x at → slice_get after at ≡ Some x
numbered_get before after x at (inl old) = subst (λ l. slice_get l at ≡ Some x) (sym old.1) old.0
numbered_get before after x at (inr new) = subst (λ l. slice_get l at ≡ Some x) (sym new.1) (ap (slice_get (before ++ x ∷ [])) new.0 ∙ get-last before x)

pub numbered_front : {A : Type 0} (before after : List A) (x : A) (at : ℕ) → Numbered before after x at → HasGrown before after
numbered_front before after x at (inl old) = record { more = []; is = old.1 ∙ sym (append-nil before) }
numbered_front before after x at (inr new) = record { more = x ∷ []; is = new.1 }

-- a member afterwards was there, or is the new one
pub numbered_cases : {A : Type 0} (before after : List A) (x : A) (at k : ℕ) (y : A) → Numbered before after x at → slice_get after k ≡ Some y
    → (slice_get before k ≡ Some y) ⊎ ((k ≡ length before) × (x ≡ y))
numbered_cases before after x at k y (inl old) e = inl (ap (λ l. slice_get l k) (sym old.1) ∙ e)
numbered_cases before after x at k y (inr new) e = get-cases before x k y (ap (λ l. slice_get l k) (sym new.1) ∙ e)

pub numbered_here : {A : Type 0} (xs : List A) (k : ℕ) (d : A) → k < length xs → Numbered xs xs (slice_index_or xs k d) k
numbered_here xs k d less = inl (slice_get-get_or xs k d less, refl)

-- ---- lists by links

with_links-append : (lists : List (List ℕ)) (xs ys : List Link) → with_links lists (xs ++ ys) ≡ with_links (with_links lists xs) ys
with_links-append lists [] ys = refl
with_links-append lists (x ∷ xs) ys = with_links-append (lists ++ (slice_index_or lists x.before [] ++ x.word ∷ []) ∷ []) xs ys

pub with_links-front : (lists : List (List ℕ)) (links : List Link) → HasGrown lists (with_links lists links)
with_links-front lists [] = front_refl lists
with_links-front lists (x ∷ xs) =
    front_trans lists (lists ++ (slice_index_or lists x.before [] ++ x.word ∷ []) ∷ []) (with_links lists (x ∷ xs))
    (record { more = (slice_index_or lists x.before [] ++ x.word ∷ []) ∷ []; is = refl }) (with_links-front (lists ++ (slice_index_or lists x.before [] ++ x.word ∷ []) ∷ []) xs)

length-with_links : (lists : List (List ℕ)) (links : List Link) → length (with_links lists links) ≡ length lists + length links
length-with_links lists [] = omega arith
length-with_links lists (x ∷ xs) =
    let new = (slice_index_or lists x.before [] ++ x.word ∷ []) ∷ [] in
    let rest = length-with_links (lists ++ (slice_index_or lists x.before [] ++ x.word ∷ []) ∷ []) xs in
    omega (arith, rest, length-append lists new)

-- the list of the first link
first_words : (lists : List (List ℕ)) (x : Link) (xs : List Link) → x.before < length lists
    → slice_index_or (with_links lists (x ∷ xs)) (length lists + 0) [] ≡ slice_index_or (with_links lists (x ∷ xs)) x.before [] ++ x.word ∷ []
first_words lists x xs less =
    let none : List ℕ = [] in
    let word = slice_index_or lists x.before none ++ x.word ∷ [] in
    let long = length-append lists (word ∷ []) in
    let here : slice_index_or (with_links (lists ++ word ∷ []) xs) (length lists + 0) none ≡ slice_index_or (lists ++ word ∷ []) (length lists + 0) none =
    front_or (lists ++ word ∷ []) (with_links (lists ++ word ∷ []) xs) (length lists + 0) none (with_links-front (lists ++ word ∷ []) xs) (omega (arith, long)) in
    let end : length lists + 0 ≡ length lists = omega arith in
    let last : slice_index_or (lists ++ word ∷ []) (length lists + 0) none ≡ word =
    get_or_from_slice_get (lists ++ word ∷ []) (length lists + 0) word none (ap (slice_get (lists ++ word ∷ [])) end ∙ get-last lists word) in
    let before : slice_index_or (with_links (lists ++ word ∷ []) xs) x.before none ≡ slice_index_or lists x.before none =
    front_or (lists ++ word ∷ []) (with_links (lists ++ word ∷ []) xs) x.before none (with_links-front (lists ++ word ∷ []) xs) (omega (arith, long, less))
    ∙ or-append lists (word ∷ []) x.before none less in
    here ∙ last ∙ ap (λ (l : List ℕ). l ++ x.word ∷ []) (sym before)

words_at : (lists : List (List ℕ)) (links : List Link) (at : ℕ) (link : Link) → ((k : ℕ) (l : Link) → slice_get links k ≡ Some l → l.before < length lists + k) → slice_get links at ≡ Some link
    → slice_index_or (with_links lists links) (length lists + at) [] ≡ slice_index_or (with_links lists links) link.before [] ++ link.word ∷ []
words_at lists [] at link back e = absurd (cc)
words_at lists (x ∷ xs) zero link back e =
    subst (λ (l : Link). slice_index_or (with_links lists (x ∷ xs)) (length lists + 0) [] ≡ slice_index_or (with_links lists (x ∷ xs)) l.before [] ++ l.word ∷ []) (some_is x link e)
    (first_words lists x xs (let b = back 0 x refl in omega (arith, b)))
words_at lists (x ∷ xs) (suc at) link back e =
    let none : List ℕ = [] in
    let word = slice_index_or lists x.before none ++ x.word ∷ [] in
    let long = length-append lists (word ∷ []) in
    let rest = words_at (lists ++ word ∷ []) xs at link (λ k l f. let b = back (suc k) l f in omega (arith, b, long)) e in
    let same : length lists + suc at ≡ length (lists ++ word ∷ []) + at = omega (arith, long) in
    ap (λ (n : ℕ). slice_index_or (with_links (lists ++ word ∷ []) xs) n none) same ∙ rest

-- the list of a link is the one before it with a word behind it
pub link_words : (links : List Link) (at : ℕ) (link : Link) → ((k : ℕ) (l : Link) → slice_get links k ≡ Some l → l.before < suc k) → slice_get links at ≡ Some link
    → slice_index_or (lists_of links) (at + 1) [] ≡ slice_index_or (lists_of links) link.before [] ++ link.word ∷ []
unfolding lists_of
link_words links at link back e =
    let none : List ℕ = [] in
    let is = words_at ([] ∷ []) links at link (λ k l f. let b = back k l f in omega (arith, b)) e in
    let same : at + 1 ≡ 1 + at = omega arith in
    ap (λ (n : ℕ). slice_index_or (with_links ([] ∷ []) links) n none) same ∙ is

pub lists_front : (before after : List Link) → HasGrown before after → HasGrown (lists_of before) (lists_of after)
unfolding lists_of
lists_front before after front =
    let all : with_links ([] ∷ []) after ≡ with_links (with_links ([] ∷ []) before) front.more = ap (with_links ([] ∷ [])) front.is ∙ with_links-append ([] ∷ []) before front.more in
    let rest = with_links-front (with_links ([] ∷ []) before) front.more in
    record { more = rest.more; is = all ∙ rest.is }

pub lists_length : (links : List Link) → length (lists_of links) ≡ suc (length links)
unfolding lists_of
lists_length links = let l = length-with_links ([] ∷ []) links in omega (arith, l)

-- what code leaves of the links
module _ (before after : List Link) (list word at : ℕ) (exists : list < suc (length before)) (back : (k : ℕ) (link : Link) → slice_get before k ≡ Some link → link.before < suc k)
    (is : Numbered before after (record { before = list; word = word }) at) where
  pub links_go_on : LinksGoOn before after
  links_go_on = record {
    back = λ k link e. go k link (numbered_cases before after (record { before = list; word = word }) at k link is e);
    front = numbered_front before after (record { before = list; word = word }) at is;
  }
    where
      go : (k : ℕ) (link : Link) → (slice_get before k ≡ Some link) ⊎ ((k ≡ length before) × (let l : Link = record { before = list; word = word } in l ≡ link)) → link.before < suc k
      go k link (inl old) = back k link old
      go k link (inr new) = let b : list ≡ link.before = ap (λ (l : Link). l.before) new.1 in omega (arith, b, new.0)

  pub words_longer : ListHasWords after (at + 1) (slice_index_or (lists_of before) list [] ++ word ∷ [])
  words_longer =
      let none : List ℕ = [] in
      let get = numbered_get before after (record { before = list; word = word }) at is in
      let here = link_words after at (record { before = list; word = word }) links_go_on.back get in
      let same : slice_index_or (lists_of after) list none ≡ slice_index_or (lists_of before) list none =
      front_or (lists_of before) (lists_of after) list none (lists_front before after links_go_on.front) (omega (arith, lists_length before)) in
      record {
        exists = let w = slice_get_within after at (record { before = list; word = word }) get in omega (arith, w);
        is = here ∙ ap (λ (l : List ℕ). l ++ word ∷ []) same;
      }

-- ---- a turn

pub record Stepped (parts : Parts) (before after : Pools) (at next : Numbers) (outcome : Outcome) : Type 0 where
  pub grow : GoOn parts before after
  pub inside : AreIn after next
  pub turn : thread_in after next ≡ thread_turn parts (thread_in before at)
  pub outcome_is : outcome ≡ (effect_in parts (thread_in before at)).outcome

length-written : (memory : List Line) (wrote : Option (LineNo × Line)) → length (written memory wrote) ≡ length memory
length-written memory None = refl
length-written memory (Some w) = length-set memory w.0.0 w.1

module _ (parts : Parts) (before after : Pools) (at : Numbers) (seat : Seat) (left : Left) (status : Status) (list number memory : ℕ)
    (inside : AreIn before at) (pools : ArePools parts before) (read : slice_get before.seats.items at.seat ≡ Some seat)
    (effect : effect_of parts (memory_in before at.memory) seat.regs ≡ record { memory = written (memory_in before at.memory) left.wrote; regs = left.regs; outcome = left.outcome })
    (links : LinksGoOn before.links.items after.links.items)
    (words : ListHasWords after.links.items list (words_after (slice_index_or (lists_of before.links.items) seat.list []) left.outcome))
    (status_is : status ≡ status_after left.regs left.outcome)
    (seats : Numbered before.seats.items after.seats.items (record { regs = left.regs; status = status; list = list }) number)
    (memories : Numbered before.memories.items after.memories.items (written (memory_in before at.memory) left.wrote) memory)
    (by_seat : IsIndexed seat_digest after.seats.items after.by_seat) (by_link : IsIndexed link_digest after.links.items after.by_link)
    (by_memory : IsIndexed memory_digest after.memories.items after.by_memory) where
  grows : GoOn parts before after
  grows = record {
    grow = record {
      seats = numbered_front before.seats.items after.seats.items (record { regs = left.regs; status = status; list = list }) number seats;
      links = links.front;
      memories = numbered_front before.memories.items after.memories.items _ memory memories;
    };
    pools = record {
      lists = λ k s e. listed k s (numbered_cases before.seats.items after.seats.items (record { regs = left.regs; status = status; list = list }) number k s seats e);
      back = links.back;
      sizes = λ k m e. sized k m (numbered_cases before.memories.items after.memories.items _ memory k m memories e);
      seats = by_seat;
      links = by_link;
      memories = by_memory;
    };
  }
    where
      listed : (k : ℕ) (s : Seat) → (slice_get before.seats.items k ≡ Some s) ⊎ ((k ≡ length before.seats.items) × (let n : Seat = record { regs = left.regs; status = status; list = list } in n ≡ s))
          → s.list < suc (length after.links.items)
      listed k s (inl old) = let l = pools.lists k s old in let f = ap length links.front.is in omega (arith, l, f, length-append before.links.items links.front.more)
      listed k s (inr new) = let same : list ≡ s.list = ap (λ (x : Seat). x.list) new.1 in let w = words.exists in omega (arith, same, w)

      sized : (k : ℕ) (m : List Line) → (slice_get before.memories.items k ≡ Some m) ⊎ ((k ≡ length before.memories.items) × (written (memory_in before at.memory) left.wrote ≡ m))
          → length m ≡ line_count parts
      sized k m (inl old) = pools.sizes k m old
      sized k m (inr new) =
          ap length (sym new.1) ∙ length-written (memory_in before at.memory) left.wrote
          ∙ pools.sizes at.memory (memory_in before at.memory) (slice_get-get_or before.memories.items at.memory [] inside.memory)

  pub stepped : Stepped parts before after at (record { memory = memory; seat = number }) left.outcome
  unfolding thread_in
  stepped =
      let seat_get = numbered_get before.seats.items after.seats.items (record { regs = left.regs; status = status; list = list }) number seats in
      let memory_get = numbered_get before.memories.items after.memories.items (written (memory_in before at.memory) left.wrote) memory memories in
      let seat_is : seat_in after number ≡ record { regs = left.regs; status = status; list = list } = get_or_from_slice_get after.seats.items number _ no_seat seat_get in
      let memory_is : memory_in after memory ≡ written (memory_in before at.memory) left.wrote = get_or_from_slice_get after.memories.items memory _ [] memory_get in
      let old_seat : seat_in before at.seat ≡ seat = get_or_from_slice_get before.seats.items at.seat seat no_seat read in
      let done : effect_of parts (memory_in before at.memory) (seat_in before at.seat).regs ≡ record {
        memory = written (memory_in before at.memory) left.wrote;
        regs = left.regs;
        outcome = left.outcome;
      } =
      ap (λ (s : Seat). effect_of parts (memory_in before at.memory) s.regs) old_seat ∙ effect in
      record {
        grow = grows;
        inside = record { memory = slice_get_within after.memories.items memory _ memory_get; seat = slice_get_within after.seats.items number _ seat_get };
        turn =
            (λ i. record { memory = memory_is i; context = record { regs = (seat_is i).regs; status = (seat_is i).status }; printed = slice_index_or (lists_of after.links.items) (seat_is i).list [] })
            ∙ (λ i. record { memory = written (memory_in before at.memory) left.wrote; context = record { regs = left.regs; status = status_is i }; printed = words.is i })
            ∙ (λ i. record {
              memory = (sym done i).memory;
              context = record { regs = (sym done i).regs; status = status_after (sym done i).regs (sym done i).outcome };
              printed = words_after (slice_index_or (lists_of before.links.items) (sym old_seat i).list []) (sym done i).outcome;
            });
        outcome_is = ap (λ (e : Effect). e.outcome) (sym done);
      }

-- the member at a place, whatever stands in for none
pub at_place : {A : Type 0} (xs : List A) (i : ℕ) (d here : A) → i < length xs → here ≡ slice_index_or xs i here → slice_index_or xs i d ≡ here
at_place [] i d here within e = absurd (omega arith)
at_place (x ∷ xs) zero d here within e = sym e
at_place (x ∷ xs) (suc i) d here within e = at_place xs i d here (omega arith) e

pub get_read : {A : Type 0} (xs : List A) (i : ℕ) (here : A) → i < length xs → here ≡ slice_index_or xs i here → slice_get xs i ≡ Some here
get_read xs i here within e = slice_get-get_or xs i here within ∙ ap (λ x. Some x) (sym e)

-- the same, as code reads the pools
pub stepped_read : (parts : Parts) (before after : Pools) (at : Numbers) (seat : Seat) (held : List Line) (left : Left) (status : Status) (list number memory : ℕ) → AreIn before at
    → ArePools parts before
    → seat ≡ slice_index_or before.seats.items at.seat seat → held ≡ slice_index_or before.memories.items at.memory held
    → effect_of parts held seat.regs ≡ record { memory = written held left.wrote; regs = left.regs; outcome = left.outcome }
    → LinksGoOn before.links.items after.links.items → ListHasWords after.links.items list (words_after (slice_index_or (lists_of before.links.items) seat.list []) left.outcome)
    → status ≡ status_after left.regs left.outcome
    → Numbered before.seats.items after.seats.items (record { regs = left.regs; status = status; list = list }) number
    → Numbered before.memories.items after.memories.items (written (memory_in before at.memory) left.wrote) memory
    → IsIndexed seat_digest after.seats.items after.by_seat → IsIndexed link_digest after.links.items after.by_link → IsIndexed memory_digest after.memories.items after.by_memory
    → Stepped parts before after at (record { memory = memory; seat = number }) left.outcome
stepped_read parts before after at seat held left status list number memory inside pools seat_is held_is effect links words status_is seats memories by_seat by_link by_memory =
    let same : memory_in before at.memory ≡ held = at_place before.memories.items at.memory [] held inside.memory held_is in
    stepped parts before after at seat left status list number memory inside pools (get_read before.seats.items at.seat seat inside.seat seat_is)
    (subst (λ (m : List Line). effect_of parts m seat.regs ≡ record { memory = written m left.wrote; regs = left.regs; outcome = left.outcome }) (sym same) effect)
    links words status_is seats memories by_seat by_link by_memory

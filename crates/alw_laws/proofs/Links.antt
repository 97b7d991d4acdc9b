-- What the messages on a link say about a line, one message after the other.
use Rattle.std.proofs.Common.{◌≡◌, ℕ, ◌+◌, ◌≤◌, ◌==◌, Bool, true, false, cond, ◌&&◌, Some, List, [], ◌∷◌, ◌++◌, length, take, map, slice_get}
use Rattle.std.proofs.Common.{refl, subst, ap, ◌∙◌, append_assoc}
use Rattle.std.specs.List.{filter, flat_map, list_all}
use Rattle.std.proofs.lemmas.List.{map-append, append-nil, take_all}
use Rattle.std.proofs.lemmas.List.Concat.{flat_map-append}
use Rattle.std.proofs.lemmas.List.Elements.{filter_more}
use Rattle.std.proofs.lemmas.List.Folds.{list_all-append}
use Rattle.std.proofs.lemmas.Option.{slice_get_within, get_or_from_slice_get}
use Rattle.alw_msg.specs.declared.messages.Msg.{Msg}
use Rattle.alw_msg.specs.Contents.{Content, content, request_in}
use Rattle.alw_model.specs.Lines.{ups, sent_by}
use Rattle.alw_laws.specs.Views.{Sent, is_between, link_in}
use Rattle.alw_laws.specs.Parts.{stands_on}

-- what messages say about a line, of one direction
abbrev pub about : {S : Type 0} → (Content → List S) → ℕ → List Msg → List S
about said line msgs = flat_map (λ (msg : Msg). cond (msg.line.0 == line) (said (content msg)) []) msgs

-- the message without its link
abbrev pub bare : Sent → Msg
bare sent = sent.2

module _ {S : Type 0} (said : Content → List S) (line from to : ℕ) where
  -- what a message of this link, or of another one, says
  abbrev one : Sent → List S
  one sent = cond (stands_on line from to sent) (said (content sent.2)) []

  one_said : (sent : Sent) → about said line (map bare (cond (is_between from to sent) (sent ∷ []) [])) ≡ one sent
  one_said sent = go (sent.0.0 == from) (sent.1.0 == to)
    where
      go : (a b : Bool) → about said line (map bare (cond (a && b) (sent ∷ []) [])) ≡ cond (a && (b && (sent.2.line.0 == line))) (said (content sent.2)) []
      go true true = append-nil _
      go true false = refl
      go false b = refl

  module _ (links : List Sent) (i : ℕ) (sent : Sent) (is : slice_get links i ≡ Some sent) where
    -- what the messages before it say
    abbrev before : List S
    before = about said line (link_in (take i links) from to)

    abbrev passed : List Sent
    passed = filter (is_between from to) (take i links)

    -- and with it
    abbrev next : List S
    next = about said line (link_in (take (i + 1) links) from to)

    next_said : next ≡ before ++ one sent
    next_said =
        let l = slice_get_within links i sent is in
        let more = filter_more (is_between from to) links i sent l
        ∙ ap (λ (s : Sent). passed ++ cond (is_between from to s) (s ∷ []) []) (get_or_from_slice_get links i sent sent is) in
        rw (more, map-append bare passed (cond (is_between from to sent) (sent ∷ []) []))
        (flat_map-append _ (map bare passed) _ ∙ ap (λ (more_said : List S). before ++ more_said) (one_said sent))

    -- a fact of what stands in front and what is said on the link: a message of the link adds what it says, and another one nothing
    pub goes_on : (P : List S → Type 0) (front : List S) → stands_on line from to sent ≡ true
        → P ((front ++ before) ++ said (content sent.2)) → P (front ++ next)
    goes_on P front on fact = rw (next_said, on, ← append_assoc front before (said (content sent.2))) fact

    pub stays : (P : List S → Type 0) (front : List S) → stands_on line from to sent ≡ false → P (front ++ before) → P (front ++ next)
    stays P front off fact = rw (next_said, off, append-nil before) fact

  -- behind the last message all is said
  pub ends : (links : List Sent) (i : ℕ) (P : List S → Type 0) (front : List S) → length links ≤ i
      → P (front ++ about said line (link_in (take i links) from to)) → P (front ++ about said line (link_in links from to))
  ends links i P front past fact = subst (λ (passed : List Sent). P (front ++ about said line (link_in passed from to))) (take_all i links past) fact

  -- a test of what each of these messages says
  abbrev tested : (S → Bool) → List Sent → Bool
  tested test sent = list_all (λ (s : Sent). list_all test (said (content s.2))) sent

  -- each message on the link is tested by what it says
  pub all_said : (test : S → Bool) (links : List Sent)
      → list_all test (about said line (link_in links from to)) ≡ tested test (filter (stands_on line from to) links)
  all_said test [] = refl
  all_said test (sent ∷ rest) =
      go (filter (is_between from to) rest) (filter (stands_on line from to) rest)
      (sent.0.0 == from) (sent.1.0 == to) (sent.2.line.0 == line) refl (all_said test rest)
    where
      go : (kept on_line : List Sent) (a b c : Bool) → (sent.2.line.0 == line) ≡ c → list_all test (about said line (map bare kept)) ≡ tested test on_line
          → list_all test (about said line (map bare (cond (a && b) (sent ∷ kept) kept))) ≡ tested test (cond (a && (b && c)) (sent ∷ on_line) on_line)
      go kept on_line true true true e is = rw (e, list_all-append test (said (content sent.2)) (about said line (map bare kept)), is) refl
      go kept on_line true true false e is = rw e is
      go kept on_line true false c e is = is
      go kept on_line false b c e is = is

-- a packet that a node sent about a line says what it says
pub packet_said : (line number : ℕ) (packet : Msg) → (packet.src.0 == number) ≡ true → (packet.line.0 == line) ≡ true
    → ups line (sent_by number (packet ∷ [])) ≡ request_in (content packet)
packet_said line number packet from on = rw (from, on) (append-nil _)

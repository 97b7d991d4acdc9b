-- What two events of different nodes do to the links may be done in either order: taking a message off a link that isn't empty, and sending.
use Rattle.std.proofs.Common.{◌≡◌, ◌≢◌, ℕ, ◌<◌, Some, List, [], ◌∷◌, ◌++◌, length, get_or, refl, sym, subst, ap, ◌∙◌}
use Rattle.std.specs.List.{AllByRecursion}
use Rattle.std.proofs.lemmas.Nat.{same_from_place}
use Rattle.std.proofs.lemmas.List.{set_past}
use Rattle.alw_num.proofs.Weigh.{is_node, cases_lt_then}
use Rattle.alw_msg.specs.declared.messages.Msg.{Msg}
use Rattle.alw_image.specs.declared.parts.Parts.{Parts}
use Rattle.alw_image.specs.Images.{node_count}
use Rattle.alw_msg.specs.Lists.{front, behind}
use Rattle.alw_model.specs.Machine.{link_place, links_sent}
use Rattle.law_lines.specs.Links.{GoBelow}
use Rattle.law_order.proofs.Places.{changed, changes_apart, changes_here, changed_here, changed_there, fits_where_front, front_push, behind_push}

-- a message at the end of a link
abbrev pub pushed : List (List Msg) → ℕ → Msg → List (List Msg)
pushed links place msg = changed [] links place (λ (old : List Msg). old ++ msg ∷ [])

-- a link without its front message
abbrev pub popped : List (List Msg) → ℕ → List (List Msg)
popped links place = changed [] links place behind

-- ---- taking from a link that isn't empty, and sending

front_pushed : (links : List (List Msg)) (p q : ℕ) (x msg : Msg) → front (get_or links p []) ≡ Some x → front (get_or (pushed links q msg) p []) ≡ Some x
front_pushed links p q x msg e = is_node _ p q
    (λ same. subst (λ (a : ℕ). front (get_or links a []) ≡ Some x → front (get_or (pushed links q msg) a []) ≡ Some x) (sym same)
    (λ here. ap front (changed_here [] links q (λ (old : List Msg). old ++ msg ∷ []) (fits_where_front links q x here)) ∙ front_push (get_or links q []) x msg here) e)
    (λ other. ap front (changed_there [] links q p (λ (old : List Msg). old ++ msg ∷ []) other) ∙ e)

pop_pushed : (links : List (List Msg)) (p q : ℕ) (x msg : Msg) → front (get_or links p []) ≡ Some x → popped (pushed links q msg) p ≡ pushed (popped links p) q msg
pop_pushed links p q x msg e = is_node _ p q
    (λ same. subst (λ (a : ℕ). front (get_or links a []) ≡ Some x → popped (pushed links q msg) a ≡ pushed (popped links a) q msg) (sym same)
    (λ here. changes_here [] links q (λ (old : List Msg). old ++ msg ∷ []) behind (fits_where_front links q x here) (behind_push (get_or links q []) x msg here)) e)
    (λ other. changes_apart [] links q p (λ (old : List Msg). old ++ msg ∷ []) behind (λ same. other (sym same)))

module _ (parts : Parts) where
  -- a front message stays where a node sends
  pub front_stays : (links : List (List Msg)) (from : ℕ) (sends : List (ℕ × Msg)) (p : ℕ) (x : Msg) → front (get_or links p []) ≡ Some x → front (get_or (links_sent parts links from sends) p []) ≡ Some x
  front_stays links from [] p x e = e
  front_stays links from (send ∷ rest) p x e = front_stays (pushed links (link_place parts from send.0) send.1) from rest p x (front_pushed links p (link_place parts from send.0) x send.1 e)

  -- it may be taken before or after
  pub take_and_send : (links : List (List Msg)) (from : ℕ) (sends : List (ℕ × Msg)) (p : ℕ) (x : Msg) → front (get_or links p []) ≡ Some x → popped (links_sent parts links from sends) p ≡ links_sent parts (popped links p) from sends
  take_and_send links from [] p x e = refl
  take_and_send links from (send ∷ rest) p x e =
      let q = link_place parts from send.0 in
      take_and_send (pushed links q send.1) from rest p x (front_pushed links p q x send.1 e)
      ∙ ap (λ (ls : List (List Msg)). links_sent parts ls from rest) (pop_pushed links p q x send.1 e)

  -- what stands on a link that nothing was on is what was sent
  each_pushed : (P : Msg → Type 0) (xs : List Msg) (x : Msg) → AllByRecursion P xs → P x → AllByRecursion P (xs ++ x ∷ [])
  each_pushed P [] x all is = (is, tt)
  each_pushed P (y ∷ rest) x all is = (all.0, each_pushed P rest x all.1 is)

  all_pushed : (P : Msg → Type 0) (links : List (List Msg)) (p q : ℕ) (msg : Msg) → P msg → AllByRecursion P (get_or links p []) → AllByRecursion P (get_or (pushed links q msg) p [])
  all_pushed P links p q msg is all = is_node _ p q
      (λ same. subst (λ (a : ℕ). AllByRecursion P (get_or links a []) → AllByRecursion P (get_or (pushed links q msg) a [])) (sym same) here all)
      (λ other. subst (AllByRecursion P) (sym (changed_there [] links q p (λ (old : List Msg). old ++ msg ∷ []) other)) all)
    where
      here : AllByRecursion P (get_or links q []) → AllByRecursion P (get_or (pushed links q msg) q [])
      here old = cases_lt_then (length links) q
          (λ l. subst (AllByRecursion P) (sym (changed_here [] links q (λ (old : List Msg). old ++ msg ∷ []) l)) (each_pushed P (get_or links q []) msg old is))
          (λ l. subst (λ (ls : List (List Msg)). AllByRecursion P (get_or ls q [])) (sym (set_past links q _ l)) old)

  pub each_sent : (P : Msg → Type 0) (links : List (List Msg)) (from : ℕ) (sends : List (ℕ × Msg)) (p : ℕ) → AllByRecursion (λ (send : ℕ × Msg). P send.1) sends → AllByRecursion P (get_or links p []) → AllByRecursion P (get_or (links_sent parts links from sends) p [])
  each_sent P links from [] p each all = all
  each_sent P links from (send ∷ rest) p each all =
      let q = link_place parts from send.0 in
      each_sent P (pushed links q send.1) from rest p each.1 (all_pushed P links p q send.1 each.0 all)

  -- ---- two nodes that send

  pub places_differ : (a b c d : ℕ) → b < node_count parts → d < node_count parts → a ≢ c → link_place parts a b ≢ link_place parts c d
  places_differ a b c d l m apart same = apart (same_from_place a b c d (node_count parts) l m same).0

  push_and_send : (links : List (List Msg)) (one other to : ℕ) (msg : Msg) (sends : List (ℕ × Msg)) → one ≢ other → to < node_count parts → GoBelow (node_count parts) sends
      → links_sent parts (pushed links (link_place parts other to) msg) one sends ≡ pushed (links_sent parts links one sends) (link_place parts other to) msg
  push_and_send links one other to msg [] apart l below = refl
  push_and_send links one other to msg (send ∷ rest) apart l (here, below) =
      let p = link_place parts one send.0 in
      let q = link_place parts other to in
      ap (λ (ls : List (List Msg)). links_sent parts ls one rest) (changes_apart [] links q p (λ (old : List Msg). old ++ msg ∷ []) (λ (old : List Msg). old ++ send.1 ∷ []) (places_differ other to one send.0 l here (λ e. apart (sym e))))
      ∙ push_and_send (pushed links p send.1) one other to msg rest apart l below

  pub send_and_send : (links : List (List Msg)) (one other : ℕ) (sends more : List (ℕ × Msg)) → one ≢ other → GoBelow (node_count parts) sends → GoBelow (node_count parts) more
      → links_sent parts (links_sent parts links one sends) other more ≡ links_sent parts (links_sent parts links other more) one sends
  send_and_send links one other sends [] apart below above = refl
  send_and_send links one other sends (send ∷ rest) apart below (here, above) =
      ap (λ (ls : List (List Msg)). links_sent parts ls other rest) (sym (push_and_send links one other send.0 send.1 sends apart here below))
      ∙ send_and_send (pushed links (link_place parts other send.0) send.1) one other sends rest apart below above

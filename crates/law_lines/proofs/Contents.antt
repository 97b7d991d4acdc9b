-- What messages say of a line: on a link that grows, in what a node asks of homes, and in what a home sends.
use Rattle.std.proofs.Common.{◌≡◌, ℕ, ◌==◌, Bool, true, false, cond, List, [], ◌∷◌, ◌++◌, refl, sym, ap, ◌∙◌}
use Rattle.std.proofs.lemmas.Bool.{eq-eqb, ne_eqb}
use Rattle.std.proofs.lemmas.List.Concat.{flat_map-append}
use Rattle.std.proofs.lemmas.List.Elements.{filter-append}
use Rattle.alw_msg.specs.declared.messages.Msg.{Msg}
use Rattle.alw_image.specs.declared.parts.Parts.{Parts}
use Rattle.alw_msg.specs.Contents.{ToMemory, RREQ, WREQ, REPM, UPDATE, ACKC, ToCache, RDATA, WDATA, INV, BUSY, Content, ForMemory, ForCache, content, request_in, reply_in}
use Rattle.alw_model.specs.FullMap.{Sends}
use Rattle.alw_model.specs.Caches.{Requests}
use Rattle.alw_model.specs.Messages.{message, home_node, to_homes, to_caches}
use Rattle.alw_model.specs.Lines.{ups, downs, sent_by}
use Rattle.law_line.specs.Protocol.{sent_to}
use Rattle.alw_num.proofs.Weigh.{is_node}
use Rattle.law_lines.specs.Links.{msgs_to, asked}

-- a message says what its sender wrote
pub content_is : (node stamp line : ℕ) (said : Content) → content (message node stamp line said) ≡ said
content_is node stamp line (ForMemory RREQ) = refl
content_is node stamp line (ForMemory WREQ) = refl
content_is node stamp line (ForMemory (REPM body)) = refl
content_is node stamp line (ForMemory (UPDATE body)) = refl
content_is node stamp line (ForMemory ACKC) = refl
content_is node stamp line (ForCache (RDATA body)) = refl
content_is node stamp line (ForCache (WDATA body)) = refl
content_is node stamp line (ForCache INV) = refl
content_is node stamp line (ForCache BUSY) = refl

pub ups-append : (k : ℕ) (one other : List Msg) → ups k (one ++ other) ≡ ups k one ++ ups k other
ups-append k one other = flat_map-append _ one other

pub downs-append : (k : ℕ) (one other : List Msg) → downs k (one ++ other) ≡ downs k one ++ downs k other
downs-append k one other = flat_map-append _ one other

pub sent_by-append : (j : ℕ) (one other : List Msg) → sent_by j (one ++ other) ≡ sent_by j one ++ sent_by j other
sent_by-append j one other = filter-append _ one other

-- ---- one message that may be in front

ups_front : (k : ℕ) (b : Bool) (m : Msg) (xs : List Msg) → ups k (cond b (m ∷ xs) xs) ≡ cond b (cond (m.line.0 == k) (request_in (content m)) []) [] ++ ups k xs
ups_front k true m xs = refl
ups_front k false m xs = refl

downs_front : (k : ℕ) (b : Bool) (m : Msg) (xs : List Msg) → downs k (cond b (m ∷ xs) xs) ≡ cond b (cond (m.line.0 == k) (reply_in (content m)) []) [] ++ downs k xs
downs_front k true m xs = refl
downs_front k false m xs = refl

nothing_in_front : {X : Type 0} (b c : Bool) (xs ys : List X) → xs ≡ ys → cond b (cond c [] []) [] ++ xs ≡ ys
nothing_in_front true true xs ys e = e
nothing_in_front true false xs ys e = e
nothing_in_front false c xs ys e = e

asked_in_front : (b : Bool) (r k : ℕ) (said : ToMemory) (c : Content) (xs ys : List ToMemory) → c ≡ ForMemory said → (k ≡ r → b ≡ true) → xs ≡ ys → cond b (cond (r == k) (request_in c) []) [] ++ xs ≡ cond (k == r) (said ∷ ys) ys
asked_in_front b r k said c xs ys is at e = is_node _ k r
    (λ same. rw (at same, eq-eqb r k (sym same), eq-eqb k r same, is) (ap (λ l. said ∷ l) e))
    (λ other. rw (ne_eqb r k (λ same. other (sym same)), ne_eqb k r other) (nothing_in_front b false xs ys e))

sent_in_front : (b : Bool) (l k : ℕ) (said : ToCache) (c : Content) (xs ys : List ToCache) → c ≡ ForCache said → xs ≡ cond (l == k) ys [] → cond b (cond (l == k) (reply_in c) []) [] ++ xs ≡ cond (l == k) (cond b (said ∷ ys) ys) []
sent_in_front b l k said c xs ys is e = rw (is, e) (go b (l == k))
  where
    go : (b d : Bool) → cond b (cond d (said ∷ []) []) [] ++ cond d ys [] ≡ cond d (cond b (said ∷ ys) ys) []
    go true true = refl
    go true false = refl
    go false true = refl
    go false false = refl

-- ---- what a node asks of homes

module _ (parts : Parts) (node stamp k : ℕ) where
  -- the home of a line gets what is asked of that line
  pub ups_asked : (requests : Requests) → ups k (msgs_to (home_node parts k) (to_homes parts node stamp requests)) ≡ asked k requests
  ups_asked [] = refl
  ups_asked (request ∷ rest) =
      let xs = msgs_to (home_node parts k) (to_homes parts node stamp rest) in
      ups_front k (home_node parts k == home_node parts request.0) (message node stamp request.0 (ForMemory request.1)) xs
      ∙ asked_in_front (home_node parts k == home_node parts request.0) request.0 k request.1 (content (message node stamp request.0 (ForMemory request.1))) (ups k xs) (asked k rest)
      (content_is node stamp request.0 (ForMemory request.1)) (λ same. eq-eqb _ _ (ap (home_node parts) same)) (ups_asked rest)

  -- and nothing for its cache
  pub downs_asked : (to : ℕ) (requests : Requests) → downs k (msgs_to to (to_homes parts node stamp requests)) ≡ []
  downs_asked to [] = refl
  downs_asked to (request ∷ rest) =
      let xs = msgs_to to (to_homes parts node stamp rest) in
      downs_front k (to == home_node parts request.0) (message node stamp request.0 (ForMemory request.1)) xs
      ∙ rw (content_is node stamp request.0 (ForMemory request.1)) (nothing_in_front (to == home_node parts request.0) (request.0 == k) (downs k xs) [] (downs_asked to rest))

-- ---- what a home sends about a line

module _ (node stamp l k to : ℕ) where
  -- it is nothing to memory
  pub ups_sent : (sends : Sends) → ups k (msgs_to to (to_caches node stamp l sends)) ≡ []
  ups_sent [] = refl
  ups_sent (send ∷ rest) =
      let xs = msgs_to to (to_caches node stamp l rest) in
      ups_front k (to == send.0) (message node stamp l (ForCache send.1)) xs
      ∙ rw (content_is node stamp l (ForCache send.1)) (nothing_in_front (to == send.0) (l == k) (ups k xs) [] (ups_sent rest))

  -- and of that line alone
  pub downs_sent : (sends : Sends) → downs k (msgs_to to (to_caches node stamp l sends)) ≡ cond (l == k) (sent_to to sends) []
  downs_sent [] = none (l == k)
    where
      none : (b : Bool) → [] ≡ cond {A = List ToCache} b [] []
      none true = refl
      none false = refl
  downs_sent (send ∷ rest) =
      let xs = msgs_to to (to_caches node stamp l rest) in
      downs_front k (to == send.0) (message node stamp l (ForCache send.1)) xs
      ∙ sent_in_front (to == send.0) l k send.1 (content (message node stamp l (ForCache send.1))) (downs k xs) (sent_to to rest) (content_is node stamp l (ForCache send.1)) (downs_sent rest)

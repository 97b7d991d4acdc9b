-- What a line has on the links once a delivery has taken the front message of one.
use Rattle.std.proofs.Common.{◌≡◌, ◌≢◌, ℕ, ◌*◌, ◌<◌, ◌==◌, ◌&&◌, Bool, true, false, cond, Some, List, [], ◌∷◌, ◌++◌, length, get_or, set, refl, sym, ap, ◌∙◌}
use Rattle.std.proofs.lemmas.Bool.{eq-eqb, ne_eqb}
use Rattle.std.proofs.lemmas.List.{length-set}
use Rattle.alw_num.proofs.Weigh.{is_node}
use Rattle.alw_msg.specs.declared.messages.Msg.{Msg}
use Rattle.alw_image.specs.declared.parts.Parts.{Parts}
use Rattle.alw_image.specs.Images.{node_count}
use Rattle.alw_msg.specs.Contents.{ToMemory, ToCache, ForMemory, ForCache, content, request_in, reply_in}
use Rattle.alw_msg.specs.Lists.{front, behind}
use Rattle.alw_model.specs.Machine.{MachineState, link_at, link_place}
use Rattle.alw_model.specs.Lines.{ups, downs}
use Rattle.law_lines.proofs.Links.{link_taken}

pub split_front : {X : Type 0} (xs : List X) (x : X) → front xs ≡ Some x → xs ≡ x ∷ behind xs
split_front [] x e = absurd (cc)
split_front (y ∷ rest) x e = let same : y ≡ x = cc in λ i. same i ∷ rest

-- a message that isn't of the line, or not of this direction, may be left out
pub ups_without : (k : ℕ) (msg : Msg) (rest : List Msg) → cond (msg.line.0 == k) (request_in (content msg)) [] ≡ [] → ups k rest ≡ ups k (msg ∷ rest)
ups_without k msg rest none = ap (λ (l : List ToMemory). l ++ ups k rest) (sym none)

pub downs_without : (k : ℕ) (msg : Msg) (rest : List Msg) → cond (msg.line.0 == k) (reply_in (content msg)) [] ≡ [] → downs k rest ≡ downs k (msg ∷ rest)
downs_without k msg rest none = ap (λ (l : List ToCache). l ++ downs k rest) (sym none)

-- what a message says to memory isn't for a cache, and what it says of another line isn't for this one
pub no_request : (k : ℕ) (msg : Msg) (said : ToCache) → content msg ≡ ForCache said → cond (msg.line.0 == k) (request_in (content msg)) [] ≡ []
no_request k msg said is = ap (λ c. cond (msg.line.0 == k) (request_in c) []) is ∙ none (msg.line.0 == k)
  where
    none : (b : Bool) → cond {A = List ToMemory} b [] [] ≡ []
    none true = refl
    none false = refl

pub no_reply : (k : ℕ) (msg : Msg) (said : ToMemory) → content msg ≡ ForMemory said → cond (msg.line.0 == k) (reply_in (content msg)) [] ≡ []
no_reply k msg said is = ap (λ c. cond (msg.line.0 == k) (reply_in c) []) is ∙ none (msg.line.0 == k)
  where
    none : (b : Bool) → cond {A = List ToCache} b [] [] ≡ []
    none true = refl
    none false = refl

pub other_request : (k : ℕ) (msg : Msg) → k ≢ msg.line.0 → cond (msg.line.0 == k) (request_in (content msg)) [] ≡ []
other_request k msg other = ap (λ b. cond b (request_in (content msg)) []) (ne_eqb msg.line.0 k (λ e. other (sym e)))

pub other_reply : (k : ℕ) (msg : Msg) → k ≢ msg.line.0 → cond (msg.line.0 == k) (reply_in (content msg)) [] ≡ []
other_reply k msg other = ap (λ b. cond b (reply_in (content msg)) []) (ne_eqb msg.line.0 k (λ e. other (sym e)))

module _ (parts : Parts) (s : MachineState) (from n : ℕ) (f : from < node_count parts) (t : n < node_count parts) (size : length s.links ≡ node_count parts * node_count parts) (msg : Msg) (e : front (link_at parts s from n) ≡ Some msg) where
  -- the links without the message
  abbrev pub links_left : List (List Msg)
  links_left = set s.links (link_place parts from n) (behind (get_or s.links (link_place parts from n) []))

  pub links_size : length links_left ≡ node_count parts * node_count parts
  links_size = length-set s.links (link_place parts from n) _ ∙ size

  abbrev pub left_at : ℕ → ℕ → List Msg
  left_at a b = get_or links_left (link_place parts a b) []

  left_is : (a b : ℕ) → b < node_count parts → left_at a b ≡ cond (a == from && (b == n)) (behind (link_at parts s from n)) (link_at parts s a b)
  left_is a b l = link_taken parts s.links from n a b f t l size

  pub left_here : left_at from n ≡ behind (link_at parts s from n)
  left_here = left_is from n t ∙ ap (λ c. cond c (behind (link_at parts s from n)) (link_at parts s from n)) here
    where
      here : (from == from && (n == n)) ≡ true
      here = rw (eq-eqb from from refl, eq-eqb n n refl) refl

  pub left_from_other : (a b : ℕ) → b < node_count parts → a ≢ from → left_at a b ≡ link_at parts s a b
  left_from_other a b l other = left_is a b l ∙ ap (λ c. cond (c && (b == n)) (behind (link_at parts s from n)) (link_at parts s a b)) (ne_eqb a from other)

  pub left_to_other : (a b : ℕ) → b < node_count parts → b ≢ n → left_at a b ≡ link_at parts s a b
  left_to_other a b l other = left_is a b l ∙ (ap (λ c. cond (a == from && c) (behind (link_at parts s from n)) (link_at parts s a b)) (ne_eqb b n other) ∙ none (a == from))
    where
      none : (c : Bool) → cond (c && false) (behind (link_at parts s from n)) (link_at parts s a b) ≡ link_at parts s a b
      none true = refl
      none false = refl

  -- a fact of what each link has left, from the link that changes
  pub as_before : {X : Type 0} (part : List Msg → X) → part (behind (link_at parts s from n)) ≡ part (msg ∷ behind (link_at parts s from n)) → (a b : ℕ) → b < node_count parts → part (left_at a b) ≡ part (link_at parts s a b)
  as_before part same a b l = is_node _ a from
      (λ is_a. is_node _ b n
      (λ is_b. (λ i. part (left_at (is_a i) (is_b i))) ∙ (ap part left_here ∙ (same ∙ (ap part (sym (split_front (link_at parts s from n) msg e)) ∙ (λ i. part (link_at parts s (sym is_a i) (sym is_b i)))))))
      (λ other. ap part (left_to_other a b l other)))
      (λ other. ap part (left_from_other a b l other))

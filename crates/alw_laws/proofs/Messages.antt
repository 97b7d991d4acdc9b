-- Messages and packets of a line among others.
use Rattle.std.proofs.Common.{◌≡◌, ℕ, ◌≤◌, ◌==◌, nat_lt, Bool, true, false, cond, not, ◌||◌, IsTrue, List, [], ◌∷◌, ◌++◌, length}
use Rattle.std.proofs.Common.{refl, ap, arith}
use Rattle.std.specs.List.{list_all}
use Rattle.std.specs.Option.{option_to_list}
use Rattle.std.proofs.lemmas.Bool.{false≢true, eqb-true, ne_eqb, ltb-true}
use Rattle.alw_num.specs.declared.states.Meta.{Meta}
use Rattle.alw_num.specs.declared.states.Meta.TheVariants.{Normal, Progress, TrapWrite, TrapAlways}
use Rattle.alw_msg.specs.declared.messages.Msg.{Msg}
use Rattle.alw_msg.specs.Lists.{front}
use Rattle.alw_msg.specs.Contents.{Content, ForMemory, ForCache, content, request_in, is_to_memory}
use Rattle.alw_image.specs.declared.parts.Parts.{Parts}
use Rattle.alw_image.specs.Images.{node_count}
use Rattle.alw_model.specs.NodeStates.{NodeState}
use Rattle.alw_model.specs.Lines.{ups, sent_by}
use Rattle.alw_model.specs.LineInvariant.{software_by}
use Rattle.alw_model.specs.MachineInvariant.{packed_rightly}
use Rattle.alw_model.proofs.Journals.{and_parts}
use Rattle.alw_laws.specs.Shown.{of_line}
use Rattle.alw_laws.proofs.Links.{about}

-- what is said about a line is said by the messages about it
pub about_line : {S : Type 0} (said : Content → List S) (line : ℕ) (msgs : List Msg) → about said line (of_line line msgs) ≡ about said line msgs
about_line said line [] = refl
about_line said line (msg ∷ rest) = go (msg.line.0 == line) refl (about_line said line rest)
  where
    go : (b : Bool) → (msg.line.0 == line) ≡ b → about said line (of_line line rest) ≡ about said line rest
        → about said line (cond b (msg ∷ of_line line rest) (of_line line rest)) ≡ cond b (said (content msg)) [] ++ about said line rest
    go true e later = rw e (ap (λ ys. said (content msg) ++ ys) later)
    go false e later = later

-- of a node's messages too
pub sent_of_line : (line i : ℕ) (msgs : List Msg) → ups line (sent_by i (of_line line msgs)) ≡ ups line (sent_by i msgs)
sent_of_line line i [] = refl
sent_of_line line i (msg ∷ rest) = go (msg.line.0 == line) (msg.src.0 == i) refl refl (sent_of_line line i rest)
  where
    go : (b d : Bool) → (msg.line.0 == line) ≡ b → (msg.src.0 == i) ≡ d → ups line (sent_by i (of_line line rest)) ≡ ups line (sent_by i rest)
        → ups line (sent_by i (cond b (msg ∷ of_line line rest) (of_line line rest))) ≡ ups line (cond d (msg ∷ sent_by i rest) (sent_by i rest))
    go true true e f later = rw f (ap (λ ys. cond (msg.line.0 == line) (request_in (content msg)) [] ++ ys) later)
    go true false e f later = rw f later
    go false true e f later = rw e later
    go false false e f later = later

-- at most one packet waits
pub few_pending : (meta : Meta) (shared empty : Bool) (pending : ℕ) → IsTrue (software_by meta shared empty pending) → pending ≤ 1
few_pending Normal shared empty pending fits = omega (arith, eqb-true pending 0 (and_parts empty _ fits).1)
few_pending TrapWrite shared empty pending fits = omega (arith, eqb-true pending 0 (and_parts (not empty) _ (and_parts shared _ fits).1).1)
few_pending TrapAlways shared empty pending fits = omega (arith, eqb-true pending 0 (and_parts (shared || empty) _ fits).1)
few_pending Progress shared empty pending fits = omega (arith, eqb-true pending 1 (and_parts (shared || empty) _ fits).1)

-- a list of one at most is its front
pub front_list : {X : Type 0} (xs : List X) → length xs ≤ 1 → option_to_list (front xs) ≡ xs
front_list [] few = refl
front_list (x ∷ []) few = refl
front_list (x ∷ y ∷ rest) few = absurd (omega arith)

module _ (parts : Parts) (number line : ℕ) (node : NodeState) where
  -- each packet is one that a home may have
  abbrev pub ArePacked : List Msg → Type 0
  ArePacked packets = IsTrue (list_all (packed_rightly parts number node) packets)

  front_packed : (msg : Msg) (rest : List Msg) → ArePacked (msg ∷ rest) → IsTrue (packed_rightly parts number node msg) × ArePacked rest
  front_packed msg rest packed = and_parts (packed_rightly parts number node msg) (list_all (packed_rightly parts number node) rest) packed

  -- each packet of the line says one thing
  pub packets_said : (packets : List Msg) → ArePacked packets → length (of_line line packets) ≡ length (ups line packets)
  packets_said [] packed = refl
  packets_said (msg ∷ rest) packed =
      let all = front_packed msg rest packed in
      go (msg.line.0 == line) (content msg) (and_parts (is_to_memory (content msg)) _ all.0).0 (packets_said rest all.1)
    where
      go : (b : Bool) (said : Content) → IsTrue (is_to_memory said) → length (of_line line rest) ≡ length (ups line rest)
          → length (cond b (msg ∷ of_line line rest) (of_line line rest)) ≡ length (cond b (request_in said) [] ++ ups line rest)
      go true (ForMemory asked) is later = omega (arith, later)
      go true (ForCache reply) is later = absurd (false≢true is)
      go false said is later = later

  -- a node that doesn't exist has sent none
  pub none_sent : (i : ℕ) → node_count parts ≤ i → (packets : List Msg) → ArePacked packets → sent_by i packets ≡ []
  none_sent i past [] packed = refl
  none_sent i past (msg ∷ rest) packed =
      let all = front_packed msg rest packed in
      let sender = and_parts (nat_lt msg.src.0 (node_count parts)) _ (and_parts (is_to_memory (content msg)) _ all.0).1 in
      let exists = ltb-true msg.src.0 (node_count parts) sender.0 in
      rw (ne_eqb msg.src.0 i (λ e. omega arith)) (none_sent i past rest all.1)

-- A node starts with words: those of its starts and data lines, and its entries as the image lists them.
use Rattle.std.proofs.Common.{◌≡◌, ℕ, zero, suc, ◌+◌, ◌*◌, ◌<◌, ◌≤◌, ◌==◌, ◌&&◌, Bool, true, false, cond, Option, None, Some, List, [], ◌∷◌, length, map, find, ap, arith}
use Rattle.std.specs.Prelude.{IfSome, is_some, unwrap_or, option_map}
use Rattle.std.specs.List.{AllByRecursion, range_with_len}
use Rattle.std.proofs.lemmas.List.FromFn.{get_or-map-range_with_len}
use Rattle.std.proofs.lemmas.Nat.{mul-le}
use Rattle.std.proofs.Math.Nat.{mod-add-div'}
use Rattle.alw_num.specs.declared.addresses.Line.{Line}
use Rattle.alw_num.specs.declared.addresses.LineNo.{LineNo}
use Rattle.alw_num.specs.declared.addresses.NodeNo.{NodeNo}
use Rattle.alw_num.specs.Maps.{empty_map}
use Rattle.alw_msg.specs.declared.contexts.Status.TheVariants.{Ready, Halted, Trapped}
use Rattle.alw_image.specs.declared.parts.Parts.{Parts}
use Rattle.alw_image.specs.Images.{IsImage, IsStart, node_count, line_count, context_count, body_in, body_of, is_always, started_at}
use Rattle.alw_image.specs.Numbers.{IsWord, HasFourWords}
use Rattle.alw_image.specs.Numbers as numbers
use Rattle.alw_model.specs.LimitLess.{Directory, directory_start}
use Rattle.alw_model.specs.Contexts.{slot_start}
use Rattle.alw_model.specs.Messages.{home_node}
use Rattle.alw_model.specs.NodeStates.{node_start, home_at, place_of}
use Rattle.law_lines.proofs.Places.{place_fits}
use Rattle.law_order.proofs.Aims.{every_of}
use Rattle.law_texts.specs.Words.{AreWords}
use Rattle.law_texts.proofs.Messages.{zero_words}
use Rattle.law_texts.proofs.CacheSide.{AllCopies}
use Rattle.law_texts.proofs.NodeEvents.{SlotWords, AllSlots, NodeWords, start_registers}

-- ---- what an image says

body_words : (bodies : List (LineNo × Line)) (line : ℕ) → AllByRecursion HasFourWords bodies → AreWords (body_in bodies line)
body_words [] line all = zero_words
body_words (entry ∷ rest) line all = go (entry.0.0 == line) (body_words rest line all.1)
  where
    go : (b : Bool) → AreWords (body_in rest line) → AreWords (cond b entry.1 (body_in rest line))
    go true more = all.0
    go false more = more

-- what is found in a list is as all of it
found_so : {X : Type 0} (P : X → Type 0) (test : X → Bool) (xs : List X) → AllByRecursion P xs → IfSome (find test xs) P
found_so P test [] all = tt
found_so P test (x ∷ rest) all = go (test x) (found_so P test rest all.1)
  where
    go : (b : Bool) → IfSome (find test rest) P → IfSome (cond b (Some x) (find test rest)) P
    go true more = all.0
    go false more = more

-- the address of a start, or 0 where there is none
address_low : (parts : Parts) (start : Option (NodeNo × ℕ × ℕ)) → length parts.code ≤ 65536 → IfSome start (IsStart parts)
    → IsWord (unwrap_or (option_map (λ (found : NodeNo × ℕ × ℕ). found.2) start) 0)
address_low parts None few is = omega arith
address_low parts (Some start) few is = omega (arith, is.3, few)

no_copies : AllCopies empty_map.entries
unfolding empty_map
no_copies = tt

module _ (parts : Parts) (image : IsImage parts) (words : numbers.HasWords parts) where
  few_nodes : node_count parts ≤ 256
  few_nodes = mul-le parts.width parts.height 16 16 image.width.1 image.height.1

  few_contexts : context_count parts ≤ 1024
  few_contexts = mul-le (node_count parts) parts.contexts 256 4 few_nodes image.contexts.1

  slot_start_words : (n slot : ℕ) → n < node_count parts → slot < parts.contexts → SlotWords (slot_start parts n slot)
  slot_start_words n slot here there =
      let address = address_low parts _ image.code.1 (found_so (IsStart parts) (λ start. start.0.0 == n && (start.1 == slot)) parts.starts image.starts) in
      let number = mul-le n parts.contexts 255 4 (omega (arith, here, few_nodes)) image.contexts.1 in
      record {
        regs = start_registers _ (n * parts.contexts + slot) (context_count parts) address
            (omega (arith, number, there, image.contexts.1)) (omega (arith, few_contexts));
        trap = λ pc type e. absurd (not_trapped (is_some (started_at parts n slot)) pc type e);
      }
    where
      not_trapped : (b : Bool) (pc type : ℕ) → cond b Ready Halted ≡ Trapped pc type → ⊥
      not_trapped true pc type e = cc
      not_trapped false pc type e = cc

  all_started : (n first count : ℕ) → n < node_count parts → first + count ≤ parts.contexts → AllSlots (map (slot_start parts n) (range_with_len first count))
  all_started n first zero here within = tt
  all_started n first (suc count) here within =
      (slot_start_words n first here (omega (arith, within)), all_started n (first + 1) count here (omega (arith, within)))

  -- a home line's entry
  abbrev begun : ℕ → Directory
  begun line = directory_start (body_of parts line) (is_always parts line)

  pub start_words : (n : ℕ) → n < node_count parts → NodeWords (node_start parts n)
  start_words n here = record {
    slots = all_started n 0 parts.contexts here (omega arith);
    copies = no_copies;
    homes = every_of (λ (entry : Directory). AreWords entry.body) begun (range_with_len (n * parts.per_node) parts.per_node)
        (λ line. body_words parts.bodies line words.bodies);
    packets = tt;
  }

  pub start_listed : (line : ℕ) → line < line_count parts → (home_at parts (node_start parts (home_node parts line)) line).always ≡ is_always parts line
  start_listed line lines =
      let first = home_node parts line * parts.per_node in
      let there : first + place_of parts line ≡ line = omega (arith, mod-add-div' line parts.per_node) in
      ap (λ (entry : Directory). entry.always)
      (get_or-map-range_with_len begun first parts.per_node (place_of parts line) line _ (place_fits parts line lines) there)

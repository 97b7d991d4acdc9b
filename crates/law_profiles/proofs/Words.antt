-- The rows of all code words, with the turns outside the code, count together what a report counts.
use Rattle.std.proofs.Common.{◌≡◌, ℕ, ◌+◌, ◌<◌, nat_lt, Bool, true, false, cond, Option, Some, None, List, [], ◌∷◌, length, map, slice_index, refl, ◌∙◌, arith}
use Rattle.std.specs.List.{AllByRecursion, range_with_len}
use Rattle.alw_num.specs.Weights.{digit, weigh}
use Rattle.alw_num.proofs.Weigh.{weigh-append, weigh-both}
use Rattle.alw_msg.specs.declared.messages.Msg.{Msg}
use Rattle.alw_image.specs.declared.parts.Parts.{Parts}
use Rattle.alw_image.specs.Parameters.{Parameters}
use Rattle.alw_model.specs.NodeStates.{NodeState}
use Rattle.alw_model.specs.Runs.{Moment, moments}
use Rattle.alw_model.specs.Counts.{is_turn, is_miss, counts_of}
use Rattle.alw_profile.specs.declared.tables.Mark.{Mark}
use Rattle.alw_profile.specs.Counted.{WordCounts}
use Rattle.alw_profile.specs.Events.{retry_at, retry_marks, slot_marks, code_marked, seen_in}
use Rattle.alw_profile.specs.Marks.{has_count}
use Rattle.alw_profile.specs.Rows.{word_row, told}
use Rattle.law_profiles.specs.Sums.{over_words, is_outside, turns_outside, WordsCount, WordSumsAreCounts}
use Rattle.law_profiles.proofs.Rows.{inside, off, weigh_each, row_weight, column_is}
use Rattle.law_profiles.proofs.Acts.{HasActs, all_act}

-- ---- a BUSY that is delivered has a column of its own

none_inside : (b : Bool) (weight : ℕ) → weight ≡ 0 → cond b weight 0 ≡ 0
none_inside true weight none = none
none_inside false weight none = refl

module _ (n column : ℕ) (low : column < 2) where
  each_off : (own : ℕ → Mark) → ((k : ℕ) → (own k).column ≡ 2) → (ks : List ℕ) → weigh (inside n column) (map own ks) ≡ 0
  each_off own is [] = refl
  each_off own is (k ∷ rest) =
      let here = none_inside (nat_lt (own k).row n) _ (off (own k).column column (own k).weight (λ e. let two = is k in omega (arith, e))) in
      omega (arith, here, each_off own is rest)

  retries_off : (image : Parts) (node : NodeState) (taken : Option Msg) → weigh (inside n column) (retry_marks image node taken) ≡ 0
  retries_off image node None = refl
  retries_off image node (Some msg) = each_off (retry_at msg node) (λ k. refl) (range_with_len 0 image.contexts)

-- ---- what an event adds to each column

module _ (image : Parts) where
  abbrev added : ℕ → Moment → ℕ
  added column moment = weigh (inside (length image.code) column) (code_marked image moment)

  slot_is : (moment : Moment) (column : ℕ) → column < 2 → added column moment ≡ weigh (inside (length image.code) column) (slot_marks moment.stepped.did (seen_in image moment).ran)
  slot_is moment column low =
      let both = weigh-append (inside (length image.code) column) (retry_marks image moment.before moment.taken) (slot_marks moment.stepped.did (seen_in image moment).ran) in
      omega (arith, both, retries_off (length image.code) column low image moment.before moment.taken)

  turn_is : (moment : Moment) → HasActs image moment → added 0 moment + digit (is_outside image moment.before moment.stepped.did) ≡ digit (is_turn moment.stepped.did)
  turn_is moment act = omega (arith, slot_is moment 0 (omega arith), act.word_turns)

  miss_is : (moment : Moment) → HasActs image moment → added 1 moment ≡ digit (is_miss moment.stepped.did)
  miss_is moment act = omega (arith, slot_is moment 1 (omega arith), act.word_misses)

-- ---- a run

module _ (image : Parts) (parameters : Parameters) (run : List Moment) (acts : AllByRecursion (HasActs image) run) where
  -- a column over all rows
  words_are : (pick : WordCounts → ℕ) (column : ℕ) → column < 3
      → ((place : ℕ) (counts : List ℕ) → weigh pick (word_row image.code place counts) ≡ slice_index counts column)
      → over_words pick (told image parameters run) ≡ weigh (added image column) run
  words_are pick column small is = column_is (code_marked image) (word_row image.code) (length image.code) 3 run pick column small is

  sums : WordsCount (counts_of image run) (turns_outside image run) (told image parameters run)
  sums = record {
    turns =
        let turns = words_are (λ row. row.turns) 0 (omega arith) (λ place counts. row_weight (λ row. row.turns) _ 0 counts refl (has_count counts) (λ e. e)) in
        let each = weigh_each (HasActs image) (λ moment. added image 0 moment + digit (is_outside image moment.before moment.stepped.did)) (λ moment. digit (is_turn moment.stepped.did))
        (turn_is image) run acts in
        omega (arith, turns, weigh-both (added image 0) (λ moment. digit (is_outside image moment.before moment.stepped.did)) run, each);
    misses = words_are (λ row. row.misses) 1 (omega arith) (λ place counts. row_weight (λ row. row.misses) _ 1 counts refl (has_count counts) (λ e. e))
        ∙ weigh_each (HasActs image) (added image 1) (λ moment. digit (is_miss moment.stepped.did)) (miss_is image) run acts;
  }

pub words_count : WordSumsAreCounts
words_count image parameters journal legal =
    sums image parameters (moments image parameters journal) (all_act image parameters journal)

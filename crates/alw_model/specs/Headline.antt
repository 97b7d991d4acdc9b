-- What is promised of a run: of every journal that is answered, and besides of one that was made event by event.
use Rattle.std.specs.Prelude.{◌≡◌, ℕ, ◌<◌, false, None, List, length, take}
use Rattle.std.specs.List.{AllByRecursion}
use Rattle.alw_msg.specs.declared.events.Entry.{Entry}
use Rattle.alw_msg.specs.Events.{is_evict}
use Rattle.alw_image.specs.declared.parts.Parts.{Parts}
use Rattle.alw_image.specs.Images.{line_count}
use Rattle.alw_image.specs.Parameters.{Parameters}
use Rattle.alw_model.specs.declared.ends.Ended.{Ended}
use Rattle.alw_model.specs.LimitLess.{full_map_of}
use Rattle.alw_model.specs.Machine.{IsLegal, state, end_of}
use Rattle.alw_model.specs.Lines.{entry_of}
use Rattle.alw_model.specs.Flat.{AreReady, line_at, flat_after, flat_prints}
use Rattle.alw_model.specs.Counts.{listed_words, memory_words}
use Rattle.alw_model.specs.Runs.{turns_of, prints_of, flat_view, full_map_after}
use Rattle.alw_model.specs.Ends.{IsEnd}

-- the headline: a legal journal at an end, whose loads, printed words and memory are those of contexts taking turns on one flat memory in
-- journal order, and after each of whose events every home is a full-map directory's
pub record IsCoherentRun (parts : Parts) (parameters : Parameters) (journal : List Entry) (ended : Ended) : Type 0 where
  pub legal : IsLegal parts parameters journal
  pub end : IsEnd parts parameters journal ended
  -- after every prefix, so also after the whole
  pub flat : (n : ℕ) → flat_view parts parameters (state parts parameters (take n journal)) ≡ flat_after parts (turns_of parts parameters (take n journal))
  pub ready : AreReady parts (turns_of parts parameters journal)
  pub prints : prints_of parts parameters journal ≡ flat_prints parts (turns_of parts parameters journal)
  pub homes : (n line : ℕ) → line < line_count parts →
      full_map_of (entry_of parts (state parts parameters (take n journal)) line) ≡ full_map_after parts parameters (take n journal) line
  -- at the end, where the report lists it
  pub memory : memory_words parts parameters (state parts parameters journal) ≡ listed_words (line_at (flat_after parts (turns_of parts parameters journal))) (line_count parts)

-- a journal that was made event by event: no end holds before its last entry, and no entry is an eviction where none is to be tried
pub record IsScheduled (parts : Parts) (parameters : Parameters) (journal : List Entry) : Type 0 where
  pub unended : (n : ℕ) → n < length journal → end_of parts parameters (state parts parameters (take n journal)) ≡ None
  pub evicts : parameters.evict ≡ 0 → AllByRecursion (λ (entry : Entry). is_evict entry.event ≡ false) journal

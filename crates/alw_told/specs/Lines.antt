-- What a report lists of the lines so far.
use Rattle.std.specs.Prelude.{ℕ, List}
use Rattle.std.specs.List.{flat_map, range_with_len}
use Rattle.alw_model.specs.Counts.{listed_words, DirectoryLine, directory_line}
use Rattle.alw_model.specs.Lines.{entry_of, current_value}
use Rattle.alw_mesh.specs.Histories.{History, state_of}

-- the words that aren't 0 of the lines below a number
abbrev pub words_below : History → ℕ → List (ℕ × ℕ)
words_below h lines = listed_words (current_value h.image h.parameters (state_of h)) lines

-- the listed entries of the lines below a number
abbrev pub entries_below : History → ℕ → List DirectoryLine
entries_below h lines = flat_map (λ line. directory_line line (entry_of h.image (state_of h) line)) (range_with_len 0 lines)

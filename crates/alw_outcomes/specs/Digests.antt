-- Digests: numbers that are the same for the same members of a pool, and for the same rows.
use Rattle.std.specs.Prelude.{ℕ, ◌+◌, ◌*◌, ◌/◌, ◌%◌, ◌^◌, List, [], ◌∷◌, map, bit_xor}
use Rattle.alw_num.specs.declared.addresses.Line.{Line}
use Rattle.alw_outcomes.specs.declared.pools.Seat.{Seat}
use Rattle.alw_outcomes.specs.declared.pools.Link.{Link}

-- a digest with one word more
unfoldable pub mixed : ℕ → ℕ → ℕ
mixed digest word = let turned = (digest + word) % 2 ^ 32 * 2246822507 % 2 ^ 32 in bit_xor turned (turned / 2 ^ 15)

-- a digest with all words of a list more
abbrev pub mixed_all : ℕ → List ℕ → ℕ
mixed_all digest [] = digest
mixed_all digest (word ∷ words) = mixed_all (mixed digest word) words

-- a digest with the sum of words more, each with a factor of its own
abbrev pub weighed : ℕ → ℕ → List ℕ → ℕ
weighed digest factor [] = digest
weighed digest factor (word ∷ words) = weighed ((digest + word * factor % 2 ^ 32) % 2 ^ 32) ((factor + 2246822506) % 2 ^ 32) words

abbrev pub line_digest : Line → ℕ
line_digest line = mixed (mixed (mixed line.a line.b) line.c) line.d

-- the digests of members of pools
unfoldable pub seat_digest : Seat → ℕ
seat_digest seat = mixed (weighed (mixed (mixed seat.regs.pc seat.regs.npc) seat.list) 2654435761 seat.regs.r) seat.regs.y

unfoldable pub link_digest : Link → ℕ
link_digest link = mixed (mixed 1 link.before) link.word

unfoldable pub memory_digest : List Line → ℕ
memory_digest lines = mixed (weighed 1 2654435761 (map line_digest lines)) 0

-- the digest of a row: of its memory and its contexts
unfoldable pub row_digest : ℕ → List ℕ → ℕ
row_digest memory contexts = mixed_all (mixed 7 memory) contexts

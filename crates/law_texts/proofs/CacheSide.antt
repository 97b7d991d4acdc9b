-- Copies of words stay so through fills, evictions and stores, and a cache sends words.
use Rattle.std.proofs.Common.{ℕ, ◌==◌, nat_lt, not, Bool, true, false, cond, Option, Some, None, List, [], ◌∷◌}
use Rattle.std.specs.Prelude.{⊤}
use Rattle.std.specs.List.{AllByRecursion}
use Rattle.alw_num.specs.declared.addresses.Line.{Line}
use Rattle.alw_num.specs.declared.states.Mode.{Mode}
use Rattle.alw_num.specs.declared.states.Mode.TheVariants.{Read, Write}
use Rattle.alw_num.specs.Maps.{kept_if, put, taken, found, value_at, with_value, without_value}
use Rattle.alw_msg.specs.Contents.{ToCache, RDATA, WDATA, INV, BUSY}
use Rattle.alw_model.specs.Caches.{Copy, Cache, Requests, set_of, grants, copy_at, granted_copy, give_up, evicted, replaced, evict, fill, inv_answer, invalidate, react}
use Rattle.alw_model.specs.ProcessorSteps.{written}
use Rattle.law_texts.specs.Words.{AreWords}
use Rattle.law_texts.proofs.Messages.{AsksWords, TellsWords, AllAsk}

-- the copies of a cache, each with its set
abbrev pub AllCopies : List (ℕ × Copy) → Type 0
AllCopies entries = AllByRecursion (λ (entry : ℕ × Copy). AreWords entry.1.body) entries

-- a copy, if there is one
abbrev pub OfWords : Option Copy → Type 0
OfWords None = ⊤
OfWords (Some copy) = AreWords copy.body

-- ---- maps

found_words : (key : ℕ) (entries : List (ℕ × Copy)) → AllCopies entries → OfWords (found key entries)
found_words key [] all = tt
found_words key (entry ∷ rest) all = go (key == entry.0) (found_words key rest all.1)
  where
    go : (b : Bool) → OfWords (found key rest) → OfWords (cond b (Some entry.1) (found key rest))
    go true more = all.0
    go false more = more

put_words : (key : ℕ) (copy : Copy) (entries : List (ℕ × Copy)) → AreWords copy.body → AllCopies entries → AllCopies (put key copy entries)
put_words key copy [] are all = (are, tt)
put_words key copy (entry ∷ rest) are all = go (nat_lt key entry.0) (key == entry.0) (put_words key copy rest are all.1)
  where
    go : (b c : Bool) → AllCopies (put key copy rest)
        → AllCopies (cond b ((key, copy) ∷ entry ∷ rest) (cond c ((key, copy) ∷ rest) (entry ∷ put key copy rest)))
    go true c more = (are, all)
    go false true more = (are, all.1)
    go false false more = (all.0, more)

taken_words : (key : ℕ) (entries : List (ℕ × Copy)) → AllCopies entries → AllCopies (taken key entries)
taken_words key [] all = tt
taken_words key (entry ∷ rest) all = go (key == entry.0) (taken_words key rest all.1)
  where
    go : (b : Bool) → AllCopies (taken key rest) → AllCopies (cond b rest (entry ∷ taken key rest))
    go true more = all.1
    go false more = (all.0, more)

module _ (cache : Cache) (all : AllCopies cache.entries) where
  value_words : (set : ℕ) → OfWords (value_at cache set)
  unfolding value_at
  value_words set = found_words set cache.entries all

  with_words : (set : ℕ) (copy : Copy) → AreWords copy.body → AllCopies (with_value cache set copy).entries
  unfolding with_value
  with_words set copy are = put_words set copy cache.entries are all

  without_words : (set : ℕ) → AllCopies (without_value cache set).entries
  unfolding without_value
  without_words set = taken_words set cache.entries all

-- ---- copies

kept_words : (test : Copy → Bool) (o : Option Copy) → OfWords o → OfWords (kept_if test o)
kept_words test None are = tt
kept_words test (Some copy) are = go (test copy)
  where
    go : (b : Bool) → OfWords (cond b (Some copy) None)
    go true = are
    go false = tt

evicted_words : (o : Option Copy) → OfWords o → AllAsk (evicted o)
evicted_words None are = tt
evicted_words (Some copy) are = go copy.mode
  where
    go : (mode : Mode) → AllAsk (give_up copy.line mode copy.body)
    go Read = tt
    go Write = (are, tt)

-- what a cache event leaves and asks
pub record CacheActs (after : Cache × Requests) : Type 0 where
  pub copies : AllCopies after.0.entries
  pub asks : AllAsk after.1

module _ (sets : ℕ) (cache : Cache) (all : AllCopies cache.entries) where
  copy_words : (line : ℕ) → OfWords (copy_at sets cache line)
  copy_words line = kept_words (λ (copy : Copy). copy.line == line) (value_at cache (set_of sets line)) (value_words cache all (set_of sets line))

  pub granted_words : (line : ℕ) (mode : Mode) → OfWords (granted_copy sets cache line mode)
  granted_words line mode = kept_words (λ (copy : Copy). grants copy.mode mode) (copy_at sets cache line) (copy_words line)

  pub store_words : (copy : Copy) (mode : Mode) (body : Line) → AreWords body → AllCopies (written sets cache copy mode body).entries
  store_words copy Read body are = all
  store_words copy Write body are = with_words cache all (set_of sets copy.line) (record copy { body = body }) are

  pub evict_words : (set : ℕ) → CacheActs (evict cache set)
  evict_words set = record { copies = without_words cache all set; asks = evicted_words (value_at cache set) (value_words cache all set) }

  fill_words : (copy : Copy) → AreWords copy.body → CacheActs (fill sets cache copy)
  fill_words copy are =
      let set = set_of sets copy.line in
      let out = kept_words (λ (other : Copy). not (other.line == copy.line)) (value_at cache set) (value_words cache all set) in
      record { copies = with_words cache all set copy are; asks = evicted_words (replaced sets cache copy.line) out }

  answer_words : (mode : Mode) (body : Line) → AreWords body → AsksWords (inv_answer mode body)
  answer_words Read body are = tt
  answer_words Write body are = are

  invalidate_words : (line : ℕ) (o : Option Copy) → OfWords o → CacheActs (invalidate sets cache line o)
  invalidate_words line None are = record { copies = all; asks = (tt, tt) }
  invalidate_words line (Some copy) are = record { copies = without_words cache all (set_of sets line); asks = (answer_words copy.mode copy.body are, tt) }

  pub react_words : (line : ℕ) (said : ToCache) → TellsWords said → CacheActs (react sets cache line said)
  react_words line (RDATA body) tells = fill_words (record { line = line; mode = Read; body = body }) tells
  react_words line (WDATA body) tells = fill_words (record { line = line; mode = Write; body = body }) tells
  react_words line INV tells = invalidate_words line (copy_at sets cache line) (copy_words line)
  react_words line BUSY tells = record { copies = all; asks = tt }

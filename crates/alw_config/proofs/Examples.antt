-- Words written out: where they are refused, and what they ask for.
use Rattle.std.proofs.Common.{◌≡◌, ℕ, zero, suc, ◌<◌, ◌&&◌, not, Bool, true, false, List, [], ◌∷◌, codes, refl, inl, arith}
use Rattle.std.specs.Prelude.{None, Some}
use Rattle.std.specs.Fmt.{digits}
use Rattle.alw_config.specs.declared.commands.Asked.TheVariants as words
use Rattle.alw_config.specs.declared.commands.Command.TheVariants.{Asm, Run, RunByTime, Replay, Audit, Gen, Route, Save, Resume, Outcomes, Dis, Schedule, Time}
use Rattle.alw_config.specs.declared.commands.AsmForm.TheVariants.{Image, Listing}
use Rattle.alw_config.specs.declared.commands.AuditForm.TheVariants as audits
use Rattle.alw_config.specs.declared.commands.TimeForm.TheVariants.{Cycles, Moments}
use Rattle.alw_config.specs.declared.commands.TimedForm.TheVariants as timed_forms
use Rattle.alw_config.specs.declared.commands.Form.TheVariants.{Report, Claim, Log, Profile}
use Rattle.alw_config.specs.Places.{IsFirstPlace, IsRefusedAt, is_bad, asked, misfit_in}

-- the first place that passes a test is 2
at_two : (test : ℕ → Bool) → test 0 ≡ false → test 1 ≡ false → test 2 ≡ true → IsFirstPlace test 2
at_two test a b here = record { here = here; none_before = before }
  where
    before : (j : ℕ) → j < 2 → test j ≡ false
    before zero l = a
    before (suc zero) l = b
    before (suc (suc j)) l = absurd (omega arith)

no_words : IsRefusedAt [] 0
no_words = inl (record { here = refl; none_before = λ j l. absurd (omega arith) })

no_seed : IsRefusedAt (codes "run" ∷ codes "--seed" ∷ []) 2
unfolding digits
no_seed = inl (at_two _ refl refl refl)

leading_zero : IsRefusedAt (codes "run" ∷ codes "--seed" ∷ codes "01" ∷ []) 2
unfolding digits
leading_zero = inl (at_two _ refl refl refl)

twice : is_bad (codes "asm" ∷ codes "--write" ∷ codes "listing" ∷ codes "--write" ∷ codes "image" ∷ []) 3 ≡ true
twice = refl

once : is_bad (codes "asm" ∷ codes "--write" ∷ codes "listing" ∷ codes "--write" ∷ codes "image" ∷ []) 2 ≡ false
once = refl

-- ---- what is asked for

image : asked (codes "asm" ∷ []) ≡ Some (words.Alone (Asm Image))
image = refl

listing : asked (codes "asm" ∷ codes "--write" ∷ codes "listing" ∷ []) ≡ Some (words.Alone (Asm Listing))
listing = refl

defaults : asked (codes "run" ∷ []) ≡ Some (words.Alone (Run 0 (record { pointers = 4; sets = 256; limit = 32768; evict = 0 }) Report))
defaults = refl

all_options : asked (codes "run" ∷ codes "--write" ∷ codes "report" ∷ codes "--evict" ∷ codes "255" ∷ codes "--limit" ∷ codes "1048576" ∷ codes "--sets"
    ∷ codes "4096"
    ∷ codes "--pointers" ∷ codes "8" ∷ codes "--seed" ∷ codes "18446744073709551615" ∷ [])
    ≡ Some (words.Alone (Run 18446744073709551615 (record { pointers = 8; sets = 4096; limit = 1048576; evict = 255 }) Report))
unfolding digits
all_options = refl

-- ---- values at the ends of their ranges, and past them

abbrev is_bad_of : List ℕ → List ℕ → Bool
is_bad_of option value = is_bad (codes "run" ∷ option ∷ value ∷ []) 2

seeds : (is_bad_of (codes "--seed") (codes "0") ≡ false) × (is_bad_of (codes "--seed") (codes "18446744073709551616") ≡ true)
unfolding digits
seeds = (refl, refl)

pointers : (is_bad_of (codes "--pointers") (codes "0") ≡ true) × (is_bad_of (codes "--pointers") (codes "1") ≡ false)
    × (is_bad_of (codes "--pointers") (codes "9") ≡ true) × (is_bad_of (codes "--pointers") (codes "256") ≡ true)
    × (is_bad_of (codes "--pointers") (codes "All") ≡ true)
unfolding digits
pointers = (refl, refl, refl, refl, refl)

as_many_as_nodes : asked (codes "run" ∷ codes "--pointers" ∷ codes "all" ∷ [])
    ≡ Some (words.Alone (Run 0 (record { pointers = 256; sets = 256; limit = 32768; evict = 0 }) Report))
as_many_as_nodes = refl

sets : (is_bad_of (codes "--sets") (codes "2") ≡ true) × (is_bad_of (codes "--sets") (codes "4") ≡ false)
    × (is_bad_of (codes "--sets") (codes "6") ≡ true) × (is_bad_of (codes "--sets") (codes "8192") ≡ true)
unfolding digits
sets = (refl, refl, refl, refl)

limits : (is_bad_of (codes "--limit") (codes "0") ≡ true) × (is_bad_of (codes "--limit") (codes "1") ≡ false)
    × (is_bad_of (codes "--limit") (codes "1048577") ≡ true)
unfolding digits
limits = (refl, refl, refl)

workers : (is_bad_of (codes "--workers") (codes "0") ≡ true) × (is_bad_of (codes "--workers") (codes "1") ≡ false)
    × (is_bad_of (codes "--workers") (codes "257") ≡ true)
unfolding digits
workers = (refl, refl, refl)

evictions : (is_bad_of (codes "--evict") (codes "0") ≡ false) × (is_bad_of (codes "--evict") (codes "256") ≡ true)
unfolding digits
evictions = (refl, refl)

replayed : asked (codes "replay" ∷ codes "--write" ∷ codes "claim" ∷ []) ≡ Some (words.Alone (Replay Claim))
replayed = refl

audited : asked (codes "audit" ∷ []) ≡ Some (words.Alone (Audit audits.Verdict))
audited = refl

read_aloud : asked (codes "audit" ∷ codes "--write" ∷ codes "log" ∷ []) ≡ Some (words.Alone (Audit audits.Log))
read_aloud = refl

no_report : is_bad (codes "audit" ∷ codes "--write" ∷ codes "report" ∷ []) 2 ≡ true
no_report = refl

read_back : asked (codes "dis" ∷ []) ≡ Some (words.Alone Dis)
read_back = refl

logged : asked (codes "replay" ∷ codes "--write" ∷ codes "log" ∷ []) ≡ Some (words.Alone (Replay Log))
logged = refl

profiled : asked (codes "replay" ∷ codes "--write" ∷ codes "profile" ∷ []) ≡ Some (words.Alone (Replay Profile))
profiled = refl

made : asked (codes "gen" ∷ []) ≡ Some (words.Alone (Gen 0 4 4 16))
made = refl

routed : asked (codes "route" ∷ []) ≡ Some (words.Alone (Route 0))
routed = refl

saved : asked (codes "save" ∷ []) ≡ Some (words.Alone (Save 4294967295))
saved = refl

resumed : asked (codes "resume" ∷ []) ≡ Some (words.Alone (Resume 0 0 Report))
resumed = refl

searched : asked (codes "outcomes" ∷ []) ≡ Some (words.Alone (Outcomes 1000000))
searched = refl

scheduled : asked (codes "schedule" ∷ []) ≡ Some (words.Alone (Schedule (record { pointers = 4; sets = 256; limit = 32768; evict = 0 })))
scheduled = refl

all_scheduled : asked (codes "schedule" ∷ codes "--pointers" ∷ codes "all" ∷ []) ≡ Some (words.Alone (Schedule (record { pointers = 256; sets = 256; limit = 32768; evict = 0 })))
all_scheduled = refl

timed : asked (codes "time" ∷ []) ≡ Some (words.Alone (Time
    (record { hit = 1; switch = 11; hop = 1; send = 6; «data» = 4; home = 7; fill = 3; trap = 50; inv = 2; retry = 16; seed = 0 }) Cycles))
timed = refl

all_costs : asked (codes "time" ∷ codes "--seed" ∷ codes "1" ∷ codes "--hit" ∷ codes "2" ∷ codes "--switch" ∷ codes "3" ∷ codes "--hop" ∷ codes "4" ∷
    codes "--send" ∷ codes "5" ∷ codes "--data" ∷ codes "6" ∷ codes "--home" ∷ codes "7" ∷ codes "--fill" ∷ codes "8" ∷ codes "--trap" ∷ codes "9" ∷
    codes "--inv" ∷ codes "10" ∷ codes "--retry" ∷ codes "65535" ∷ codes "--write" ∷ codes "moments" ∷ [])
    ≡ Some (words.Alone (Time (record { hit = 2; switch = 3; hop = 4; send = 5; «data» = 6; home = 7; fill = 8; trap = 9; inv = 10; retry = 65535; seed = 1 }) Moments))
unfolding digits
all_costs = refl

abbrev is_bad_cost : List ℕ → List ℕ → Bool
is_bad_cost option value = is_bad (codes "time" ∷ option ∷ value ∷ []) 2

costs : (is_bad_cost (codes "--hit") (codes "0") ≡ true) × (is_bad_cost (codes "--home") (codes "0") ≡ true)
    × (is_bad_cost (codes "--fill") (codes "0") ≡ true) × (is_bad_cost (codes "--trap") (codes "0") ≡ true)
    × (is_bad_cost (codes "--inv") (codes "0") ≡ false) × (is_bad_cost (codes "--trap") (codes "65536") ≡ true)
unfolding digits
costs = (refl, refl, refl, refl, refl, refl)

abbrev is_bad_most : List ℕ → Bool
is_bad_most value = is_bad (codes "outcomes" ∷ codes "--most" ∷ value ∷ []) 2

places : (is_bad_most (codes "0") ≡ true) × (is_bad_most (codes "1") ≡ false) × (is_bad_most (codes "16777216") ≡ false)
    × (is_bad_most (codes "16777217") ≡ true)
unfolding digits
places = (refl, refl, refl, refl)

by_workers : asked (codes "run" ∷ codes "--workers" ∷ codes "256" ∷ [])
    ≡ Some (words.Workers (record { workers = 256; params = record { pointers = 4; sets = 256; limit = 32768; evict = 0 }; write = Report }))
unfolding digits
by_workers = refl

workers_and_seed : is_bad (codes "run" ∷ codes "--workers" ∷ codes "2" ∷ codes "--seed" ∷ codes "1" ∷ []) 3 ≡ true
workers_and_seed = refl

-- ---- where a mesh has more than 8 columns or rows, its nodes do at most 63 operations

small_enough : (misfit_in (codes "gen" ∷ codes "--size" ∷ codes "64" ∷ codes "--width" ∷ codes "8" ∷ []) ≡ None)
    × (misfit_in (codes "gen" ∷ codes "--size" ∷ codes "63" ∷ codes "--height" ∷ codes "16" ∷ []) ≡ None)
    × (misfit_in (codes "gen" ∷ codes "--width" ∷ codes "9" ∷ []) ≡ None)
unfolding digits
small_enough = (refl, refl, refl)

too_great : (misfit_in (codes "gen" ∷ codes "--size" ∷ codes "64" ∷ codes "--width" ∷ codes "9" ∷ []) ≡ Some 2)
    × (misfit_in (codes "gen" ∷ codes "--height" ∷ codes "9" ∷ codes "--size" ∷ codes "255" ∷ []) ≡ Some 4)
unfolding digits
too_great = (refl, refl)

-- ---- a run that is timed

by_time : asked (codes "run" ∷ codes "--cycles" ∷ codes "7" ∷ codes "--trap" ∷ codes "25" ∷ codes "--write" ∷ codes "cycles" ∷ [])
    ≡ Some (words.Alone (RunByTime (record { hit = 1; switch = 11; hop = 1; send = 6; «data» = 4; home = 7; fill = 3; trap = 25; inv = 2; retry = 16; seed = 7 })
    (record { pointers = 4; sets = 256; limit = 262144; evict = 0 }) (timed_forms.Time Cycles)))
unfolding digits
by_time = refl

on_both_sides : asked (codes "run" ∷ codes "--write" ∷ codes "log" ∷ codes "--pointers" ∷ codes "all" ∷ codes "--cycles" ∷ codes "1" ∷ codes "--hit" ∷ codes "2" ∷ codes "--switch" ∷ codes "3" ∷ codes "--hop" ∷ codes "4" ∷ codes "--send" ∷ codes "5" ∷
    codes "--data" ∷ codes "6" ∷ codes "--home" ∷ codes "7" ∷ codes "--fill" ∷ codes "8" ∷ codes "--trap" ∷ codes "9" ∷ codes "--inv" ∷ codes "10" ∷ codes "--retry" ∷ codes "65535" ∷ codes "--sets" ∷ codes "4" ∷ codes "--limit" ∷ codes "1048576" ∷ [])
    ≡ Some (words.Alone (RunByTime (record { hit = 2; switch = 3; hop = 4; send = 5; «data» = 6; home = 7; fill = 8; trap = 9; inv = 10; retry = 65535; seed = 1 })
    (record { pointers = 256; sets = 4; limit = 1048576; evict = 0 }) (timed_forms.Run Log)))
unfolding digits
on_both_sides = refl

-- none of the places below one is bad, and that one is
abbrev none_bad : List (List ℕ) → ℕ → Bool
none_bad words zero = true
none_bad words (suc place) = not (is_bad words place) && none_bad words place

abbrev IsFirstBad : List (List ℕ) → ℕ → Type 0
IsFirstBad words place = (none_bad words place ≡ true) × (is_bad words place ≡ true)

-- costs stand behind `--cycles` alone, and so do forms of times
cost_before : IsFirstBad (codes "run" ∷ codes "--hit" ∷ codes "5" ∷ codes "--cycles" ∷ codes "0" ∷ []) 1
cost_before = (refl, refl)

times_before : IsFirstBad (codes "run" ∷ codes "--write" ∷ codes "cycles" ∷ codes "--cycles" ∷ codes "0" ∷ []) 2
times_before = (refl, refl)

written_twice : IsFirstBad (codes "run" ∷ codes "--write" ∷ codes "report" ∷ codes "--cycles" ∷ codes "0" ∷ codes "--write" ∷ codes "cycles" ∷ []) 5
unfolding digits
written_twice = (refl, refl)

-- what draws stands on neither side
evictions_before : IsFirstBad (codes "run" ∷ codes "--evict" ∷ codes "1" ∷ codes "--cycles" ∷ codes "0" ∷ []) 3
unfolding digits
evictions_before = (refl, refl)

workers_before : IsFirstBad (codes "run" ∷ codes "--workers" ∷ codes "2" ∷ codes "--cycles" ∷ codes "0" ∷ []) 3
unfolding digits
workers_before = (refl, refl)

drawn_behind : IsFirstBad (codes "run" ∷ codes "--cycles" ∷ codes "0" ∷ codes "--seed" ∷ codes "0" ∷ []) 3 × IsFirstBad (codes "run" ∷ codes "--cycles" ∷ codes "0" ∷ codes "--evict" ∷ codes "0" ∷ []) 3
unfolding digits
drawn_behind = ((refl, refl), (refl, refl))

abbrev is_bad_timed : List ℕ → List ℕ → Bool
is_bad_timed option value = is_bad (codes "run" ∷ codes "--cycles" ∷ codes "0" ∷ option ∷ value ∷ []) 4

timed_costs : (is_bad_timed (codes "--hit") (codes "0") ≡ true) × (is_bad_timed (codes "--home") (codes "0") ≡ true)
    × (is_bad_timed (codes "--fill") (codes "0") ≡ true) × (is_bad_timed (codes "--trap") (codes "0") ≡ true)
    × (is_bad_timed (codes "--inv") (codes "0") ≡ false) × (is_bad_timed (codes "--trap") (codes "65536") ≡ true)
unfolding digits
timed_costs = (refl, refl, refl, refl, refl, refl)

cost_seeds : (is_bad_of (codes "--cycles") (codes "18446744073709551615") ≡ false) × (is_bad_of (codes "--cycles") (codes "18446744073709551616") ≡ true)
unfolding digits
cost_seeds = (refl, refl)

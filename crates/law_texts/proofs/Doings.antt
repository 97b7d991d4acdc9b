-- What a context does is read in one way.
use Rattle.std.proofs.Common.{◌≡◌, ℕ, ◌<◌, ◌==◌, cond, Option, None, Some, List, [], ◌++◌, codes, refl, sym, ap, subst, ◌∙◌, append_assoc}
use Rattle.std.specs.Fmt.{decimal}
use Rattle.alw_text.specs.Numbers.{hex_byte}
use Rattle.alw_msg.specs.declared.contexts.Status.{Status}
use Rattle.alw_msg.specs.declared.contexts.Status.TheVariants.{Ready, Waiting, Halted, Trapped}
use Rattle.alw_trace.specs.Lines.{IsNumber}
use Rattle.alw_report.specs.Names.{status_text}
use Rattle.law_texts.proofs.Readings.{Tells, both, said_as, chosen, byte_at, number, Stops}
use Rattle.law_texts.proofs.Words.{one_byte}

-- how the text of what a context does begins
data Stem : Type 0 where
  Holds : Stem
  Runs : Stem
  Waits : Stem
  Rests : Stem
  Traps : Stem

abbrev stem_text : Stem → List ℕ
stem_text Holds = codes "hold "
stem_text Runs = codes "ready"
stem_text Waits = codes "wait "
stem_text Rests = codes "halted"
stem_text Traps = codes "trapped "

abbrev stem_of : List ℕ → Stem
stem_of text =
    cond (byte_at 0 text == 104) (cond (byte_at 1 text == 111) Holds Rests)
    (cond (byte_at 0 text == 114) Runs (cond (byte_at 0 text == 119) Waits Traps))

one_stem : (one other : Stem) → Tells (one ≡ other) (stem_text one) (stem_text other)
one_stem = chosen stem_text stem_of reads
  where
    reads : (s : Stem) (u : List ℕ) → stem_of (stem_text s ++ u) ≡ s
    reads Holds u = refl
    reads Runs u = refl
    reads Waits u = refl
    reads Rests u = refl
    reads Traps u = refl

-- the number that a stem has behind it
abbrev tail_text : Stem → ℕ → List ℕ
tail_text Holds n = decimal n
tail_text Runs n = []
tail_text Waits n = decimal n
tail_text Rests n = []
tail_text Traps n = hex_byte n

abbrev StemFits : Stem → ℕ → Type 0
StemFits Holds n = IsNumber n
StemFits Runs n = n ≡ 0
StemFits Waits n = IsNumber n
StemFits Rests n = n ≡ 0
StemFits Traps n = n < 256

tail : {B : Type 0} {b d : List ℕ} (stem : Stem) (n m : ℕ) → StemFits stem n → StemFits stem m → Stops b → Stops d → Tells B b d
    → Tells ((n ≡ m) × B) (tail_text stem n ++ b) (tail_text stem m ++ d)
tail Holds n m l k stops ends rest = number n m l k stops ends rest
tail Runs n m l k stops ends rest = said_as (λ b. (l ∙ sym k, b)) rest
tail Waits n m l k stops ends rest = number n m l k stops ends rest
tail Rests n m l k stops ends rest = said_as (λ b. (l ∙ sym k, b)) rest
tail Traps n m l k stops ends rest = both (one_byte n m l k) rest

-- what stands for a slot's hold and status
abbrev stem_in : Option ℕ → Status → Stem
stem_in (Some line) status = Holds
stem_in None Ready = Runs
stem_in None (Waiting line) = Waits
stem_in None Halted = Rests
stem_in None (Trapped pc tt) = Traps

abbrev number_in : Option ℕ → Status → ℕ
number_in (Some line) status = line
number_in None Ready = 0
number_in None (Waiting line) = line.0
number_in None Halted = 0
number_in None (Trapped pc tt) = tt

status-is : (hold : Option ℕ) (status : Status)
    → status_text hold status ≡ stem_text (stem_in hold status) ++ tail_text (stem_in hold status) (number_in hold status)
status-is (Some line) status = refl
status-is None Ready = refl
status-is None (Waiting line) = refl
status-is None Halted = refl
status-is None (Trapped pc tt) = refl

-- what a slot can be doing: with a hold it is Ready, and it is trapped where it stands
abbrev pub StatusStands : ℕ → Option ℕ → Status → Type 0
StatusStands pc (Some line) status = IsNumber line × (status ≡ Ready)
StatusStands pc None (Waiting line) = IsNumber line.0
StatusStands pc None (Trapped at tt) = (at ≡ pc) × (tt < 256)
StatusStands pc None _ = Unit {0}

fits : (pc : ℕ) (hold : Option ℕ) (status : Status) → StatusStands pc hold status → StemFits (stem_in hold status) (number_in hold status)
fits pc (Some line) status is = is.0
fits pc None Ready is = refl
fits pc None (Waiting line) is = is
fits pc None Halted is = refl
fits pc None (Trapped at tt) is = is.1

-- and back, where the slot's PC is known
abbrev pub held_doing : Option ℕ → Status → Option ℕ × Status
held_doing hold status = (hold, status)

abbrev doing : ℕ → Stem → ℕ → Option ℕ × Status
doing pc Holds n = (Some n, Ready)
doing pc Runs n = (None, Ready)
doing pc Waits n = (None, Waiting (record { 0 = n }))
doing pc Rests n = (None, Halted)
doing pc Traps n = (None, Trapped pc n)

doing-is : (pc : ℕ) (hold : Option ℕ) (status : Status) → StatusStands pc hold status
    → doing pc (stem_in hold status) (number_in hold status) ≡ held_doing hold status
doing-is pc (Some line) status is = ap (λ (s : Status). held_doing (Some line) s) (sym is.1)
doing-is pc None Ready is = refl
doing-is pc None (Waiting line) is = refl
doing-is pc None Halted is = refl
doing-is pc None (Trapped at tt) is = ap (λ (k : ℕ). held_doing None (Trapped k tt)) (sym is.0)

-- a status before a text that stops it
pub one_status : {B : Type 0} {b d : List ℕ} (pc pc' : ℕ) (hold hold' : Option ℕ) (status status' : Status) → StatusStands pc hold status → StatusStands pc' hold' status'
    → Stops b → Stops d → Tells B b d
    → Tells ((pc ≡ pc' → held_doing hold status ≡ held_doing hold' status') × B) (status_text hold status ++ b) (status_text hold' status' ++ d)
one_status {B} {b} {d} pc pc' hold hold' status status' is also stops ends rest = record {
  read = λ u v e.
      let stem = stem_in hold status in
      let stem' = stem_in hold' status' in
      let n = number_in hold status in
      let m = number_in hold' status' in
      let text = λ (s : Stem) (k : ℕ) (t w : List ℕ). append_assoc (stem_text s ++ tail_text s k) t w ∙ append_assoc (stem_text s) (tail_text s k) (t ++ w) in
      let first = (one_stem stem stem').read (tail_text stem n ++ (b ++ u)) (tail_text stem' m ++ (d ++ v))
      (sym (ap (λ (t : List ℕ). (t ++ b) ++ u) (status-is hold status) ∙ text stem n b u) ∙ e
      ∙ ap (λ (t : List ℕ). (t ++ d) ++ v) (status-is hold' status') ∙ text stem' m d v) in
      let fit : StemFits stem m = subst (λ (s : Stem). StemFits s m) (sym first.0) (fits pc' hold' status' also) in
      let same = (tail stem n m (fits pc hold status is) fit stops ends rest).read u v
      (append_assoc (tail_text stem n) b u ∙ first.1
      ∙ ap (λ (s : Stem). tail_text s m ++ (d ++ v)) (sym first.0) ∙ sym (append_assoc (tail_text stem m) d v)) in
      ((λ at. sym (doing-is pc hold status is) ∙ (λ i. doing (at i) (first.0 i) (same.0.0 i)) ∙ doing-is pc' hold' status' also, same.0.1), same.1);
}

-- What a home acts on in a legal run is listed, and leaves the home so; replies that come in it meet transactions.
use Rattle.std.proofs.Common.{◌≡◌, ℕ, IsTrue, List, [], ◌∷◌, ◌++◌, map, take, refl, sym, subst, ap, ◌∙◌, append_assoc}
use Rattle.std.specs.Prelude.{IsSome}
use Rattle.std.specs.List.{AllByRecursion}
use Rattle.alw_num.specs.declared.addresses.Line.{Line}
use Rattle.alw_msg.specs.Contents.{ToMemory, ToCache, is_reply}
use Rattle.alw_model.specs.FullMap.{Home, home_start, act}
use Rattle.alw_model.specs.Lines.{LineState}
use Rattle.alw_model.specs.Runs.{acted_on}
use Rattle.law_line.specs.Protocol.{LineEvent, Opens, Stores, Leaves, Comes, Acts, start, acts, step, run, IsLegalRun, value_after}
use Rattle.law_line.specs.Combinations.{AreListed}
use Rattle.law_line.specs.Exchanges.{acted_at, acted_in, MeetsAt, MeetIn}
use Rattle.law_line.specs.Sound.{Sound}
use Rattle.law_line.proofs.Unlisted.{listed}
use Rattle.law_line.proofs.Consequences.{reply_meets}
use Rattle.law_line.proofs.Steps.{event_keeps, start_sound}

-- ---- what a home acts on

-- a home acts on messages that are listed, and they leave it so
pub record ActsOn (before : Home) (messages : List (ℕ × ToMemory)) (after : Home) : Type 0 where
  pub listed : AreListed before messages
  pub home : after ≡ acted_on before messages

-- and then on more
pub acts_then : (before : Home) (one other : List (ℕ × ToMemory)) (between after : Home) → ActsOn before one between → ActsOn between other after →
    ActsOn before (one ++ other) after
acts_then before [] other between after these more = subst (λ (home : Home). ActsOn home other after) these.home more
acts_then before (message ∷ rest) other between after these more =
    let then = acts_then (act before message.0 message.1).0 rest other between after (record { listed = these.listed.1; home = these.home }) more in
    record { listed = (these.listed.0, then.listed); home = then.home }

event_acts : (n : ℕ) (x : Line) (s : LineState) (e : LineEvent) → Sound n x s → ActsOn s.home (acted_at s e) (step s e).home
event_acts n x s (Opens i mode) sound = record { listed = tt; home = refl }
event_acts n x s (Stores i body) sound = record { listed = tt; home = refl }
event_acts n x s (Leaves i) sound = record { listed = tt; home = refl }
event_acts n x s (Comes i) sound = record { listed = tt; home = refl }
event_acts n x s (Acts i) sound = go (s.node i).up refl
  where
    go : (up : List ToMemory) → (s.node i).up ≡ up → ActsOn s.home (map (λ (message : ToMemory). (i, message)) (take 1 up)) (acts s i up).home
    go [] e = record { listed = tt; home = refl }
    go (message ∷ rest) e = record { listed = (listed n x s sound i message rest e, tt); home = refl }

-- in a legal run it acts on messages that are listed
pub run_acts : (n : ℕ) (x : Line) (s : LineState) (es : List LineEvent) → Sound n x s → IsLegalRun n s es → ActsOn s.home (acted_in s es) (run s es).home
run_acts n x s [] sound legal = record { listed = tt; home = refl }
run_acts n x s (e ∷ es) sound legal =
    acts_then s.home (acted_at s e) (acted_in (step s e) es) (step s e).home (run (step s e) es).home (event_acts n x s e sound)
    (run_acts n (value_after x e) (step s e) es (event_keeps n x s e sound legal.0) legal.1)

pub acted_listed : (n : ℕ) → (first : Line) → (es : List LineEvent) → IsLegalRun n (start first) es → AreListed (home_start first) (acted_in (start first) es)
acted_listed n first es legal = (run_acts n first (start first) es (start_sound n first) legal).listed

pub acted_home : (n : ℕ) → (first : Line) → (es : List LineEvent) → IsLegalRun n (start first) es →
    (run (start first) es).home ≡ acted_on (home_start first) (acted_in (start first) es)
acted_home n first es legal = (run_acts n first (start first) es (start_sound n first) legal).home

-- one run, and then another
pub acted_in-append : (s : LineState) (one other : List LineEvent) → acted_in s (one ++ other) ≡ acted_in s one ++ acted_in (run s one) other
acted_in-append s [] other = refl
acted_in-append s (e ∷ es) other = ap (λ (more : List (ℕ × ToMemory)). acted_at s e ++ more) (acted_in-append (step s e) es other)
    ∙ sym (append_assoc (acted_at s e) (acted_in (step s e) es) (acted_in (run (step s e) es) other))

-- ---- replies that come

meets_at_event : (n : ℕ) (x : Line) (s : LineState) (e : LineEvent) → Sound n x s → MeetsAt s e
meets_at_event n x s (Opens i mode) sound = tt
meets_at_event n x s (Stores i body) sound = tt
meets_at_event n x s (Leaves i) sound = tt
meets_at_event n x s (Acts i) sound = tt
meets_at_event n x s (Comes i) sound = go (s.node i).down refl
  where
    go : (down : List ToCache) → (s.node i).down ≡ down →
        AllByRecursion (λ (message : ToCache). IsTrue (is_reply message) → IsSome (s.node i).transaction) (take 1 down)
    go [] e = tt
    go (message ∷ rest) e = (reply_meets n x s sound i message rest e, tt)

meet_in_run : (n : ℕ) (x : Line) (s : LineState) (es : List LineEvent) → Sound n x s → IsLegalRun n s es → MeetIn s es
meet_in_run n x s [] sound legal = tt
meet_in_run n x s (e ∷ es) sound legal =
    (meets_at_event n x s e sound, meet_in_run n (value_after x e) (step s e) es (event_keeps n x s e sound legal.0) legal.1)

-- each reply that comes in a legal run meets a transaction
pub always_meet : (n : ℕ) → (first : Line) → (es : List LineEvent) → IsLegalRun n (start first) es → MeetIn (start first) es
always_meet n first es legal = meet_in_run n first (start first) es (start_sound n first) legal

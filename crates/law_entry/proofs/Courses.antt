-- Over a course of events, an entry stays sound and acts as a full map.
use Rattle.std.proofs.Common.{◌≡◌, ℕ, ◌≤◌, Bool, true, false, cond, ◌==◌, Option, Some, None, List, [], ◌∷◌, ◌++◌, refl, sym, ap, ◌∙◌}
use Rattle.std.proofs.lemmas.List.{append-nil}
use Rattle.std.proofs.Common.{append_assoc}
use Rattle.alw_num.specs.declared.addresses.Line.{Line}
use Rattle.alw_num.specs.declared.states.Meta.{Meta}
use Rattle.alw_num.specs.declared.states.Meta.TheVariants.{Normal, TrapWrite}
use Rattle.alw_num.proofs.Sets.{join-none}
use Rattle.alw_num.specs.NodeSets.{no_nodes, count_nodes}
use Rattle.alw_msg.specs.Contents.{ToMemory}
use Rattle.alw_model.specs.FullMap.{Home, Sends, home_start, act}
use Rattle.alw_model.specs.declared.steps.Keeping.{Keeping}
use Rattle.alw_model.specs.declared.steps.Keeping.TheVariants.{Joined, Alone, Emptied, Kept}
use Rattle.alw_model.specs.LimitLess.{Directory, or_always, full_map_of, is_trapped, is_in_progress, hardware_act, trapped, handle, kept, keeping}
use Rattle.law_entry.specs.Entries.{EntryIsSound, ActsAlike}
use Rattle.law_entry.specs.Courses.{HomeEvent, Comes, Handles, Course, course_start, acted_with, take_in, come, run_handler, happen, happen_all, reactions, ActsAsFullMap, one_by_one}
use Rattle.law_entry.proofs.Actions.{hardware_acts, handler_acts}
use Rattle.law_entry.proofs.Soundness.{start_sound, trapped_sound, hardware_sound, handler_sound}

-- a full-map entry that acts on one message more
pub record OneMore (home : Home) (messages : List (ℕ × ToMemory)) (i : ℕ) (m : ToMemory) : Type 0 where
  pub entry : (reactions home (messages ++ (i, m) ∷ [])).0 ≡ (act (reactions home messages).0 i m).0
  pub sent : (reactions home (messages ++ (i, m) ∷ [])).1 ≡ (reactions home messages).1 ++ (act (reactions home messages).0 i m).1

pub reactions-push : (home : Home) (messages : List (ℕ × ToMemory)) (i : ℕ) (m : ToMemory) → OneMore home messages i m
reactions-push home [] i m = record { entry = refl; sent = append-nil (act home i m).1 }
reactions-push home (first ∷ rest) i m =
    let after = act home first.0 first.1 in
    let later = reactions-push after.0 rest i m in
    record { entry = later.entry; sent = ap (λ (s : Sends). after.1 ++ s) later.sent ∙ sym (append_assoc after.1 (reactions after.0 rest).1 _) }

-- what holds at every moment of a course
pub record CourseIsUnderWay (most : ℕ) (body : Line) (c : Course) : Type 0 where
  pub sound : EntryIsSound most c.entry
  pub acts : ActsAsFullMap body c

begins : (most : ℕ) (body : Line) (always : Bool) → CourseIsUnderWay most body (course_start body always)
begins most body always =
    let same = join-none no_nodes in
    record {
      sound = start_sound most body always;
      acts = record { entry = λ k. record { state = (home_start body).state; pointers = same k; acks = 0; body = body }; sent = refl };
    }

acts_on : (body : Line) (c : Course) (i : ℕ) (m : ToMemory) (after : Directory × Sends) → ActsAsFullMap body c → ActsAlike c.entry i m after → ActsAsFullMap body (acted_with c i m after)
acts_on body c i m after before alike =
    let more = reactions-push (home_start body) c.acted i m in
    record {
      entry = alike.entry ∙ ap (λ (h : Home). (act h i m).0) before.entry ∙ sym more.entry;
      sent = sent_same more.sent;
    }
  where
    sent_same : (reactions (home_start body) (c.acted ++ (i, m) ∷ [])).1 ≡ (reactions (home_start body) c.acted).1 ++ (act (reactions (home_start body) c.acted).0 i m).1 → c.sent ++ after.1 ≡ (reactions (home_start body) (c.acted ++ (i, m) ∷ [])).1
    sent_same more = ap (λ (s : Sends). s ++ after.1) before.sent ∙ ap (λ (s : Sends). (reactions (home_start body) c.acted).1 ++ s) (alike.sent ∙ ap (λ (h : Home). (act h i m).1) before.entry) ∙ sym more

takes : (most : ℕ) (body : Line) (c : Course) (i : ℕ) (m : ToMemory) (traps : Bool) → 1 ≤ most → CourseIsUnderWay most body c → is_in_progress c.entry.meta ≡ false → is_trapped most c.entry i m ≡ traps → CourseIsUnderWay most body (take_in c i m traps)
takes most body c i m true some before free e = record { sound = trapped_sound most c.entry before.sound; acts = record { entry = before.acts.entry; sent = before.acts.sent } }
takes most body c i m false some before free e = record {
  sound = hardware_sound most c.entry i m some before.sound e free;
  acts = acts_on body c i m (hardware_act c.entry i m) before.acts (hardware_acts most c.entry i m before.sound e free);
}

goes_on : (most : ℕ) (body : Line) (c : Course) (event : HomeEvent) → 1 ≤ most → CourseIsUnderWay most body c → CourseIsUnderWay most body (happen most c event)
goes_on most body c (Comes i m) some before = go (is_in_progress c.entry.meta) refl
  where
    go : (busy : Bool) → is_in_progress c.entry.meta ≡ busy → CourseIsUnderWay most body (come most c i m busy)
    go true e = before
    go false e = takes most body c i m (is_trapped most c.entry i m) some before e refl
goes_on most body c Handles some before = go c.packet
  where
    go : (packet : Option (ℕ × ToMemory)) → CourseIsUnderWay most body (run_handler c packet)
    go None = before
    go (Some packet) = record {
      sound = handler_sound most c.entry packet.0 packet.1 some before.sound;
      acts = acts_on body c packet.0 packet.1 (handle c.entry packet.0 packet.1) before.acts (handler_acts c.entry packet.0 packet.1);
    }

pub always_under_way : (most : ℕ) (body : Line) (c : Course) (events : List HomeEvent) → 1 ≤ most → CourseIsUnderWay most body c → CourseIsUnderWay most body (happen_all most c events)
always_under_way most body c [] some before = before
always_under_way most body c (event ∷ rest) some before = always_under_way most body (happen most c event) rest some (goes_on most body c event some before)

pub always_acts : (most : ℕ) (body : Line) (always : Bool) (events : List HomeEvent) → 1 ≤ most → ActsAsFullMap body (happen_all most (course_start body always) events)
always_acts most body always events some = (always_under_way most body (course_start body always) events some (begins most body always)).acts

pub always_sound : (most : ℕ) (body : Line) (always : Bool) (events : List HomeEvent) → 1 ≤ most → EntryIsSound most (happen_all most (course_start body always) events).entry
always_sound most body always events some = (always_under_way most body (course_start body always) events some (begins most body always)).sound

-- ---- every message is acted on, where each trap is handled at once

-- nothing is pending
pub record IsIdle (c : Course) : Type 0 where
  pub free : is_in_progress c.entry.meta ≡ false
  pub none : c.packet ≡ None

calm_meta : (always : Bool) (mt : Meta) → is_in_progress mt ≡ false → is_in_progress (or_always always mt) ≡ false
calm_meta true mt e = refl
calm_meta false mt e = e

kept_calm : (d : Directory) (i : ℕ) (k : Keeping) → is_in_progress (kept d.hardware d.software i k).2 ≡ false
kept_calm d i Joined = refl
kept_calm d i Alone = refl
kept_calm d i Emptied = refl
kept_calm d i Kept = go (count_nodes d.software == 0)
  where
    go : (empty : Bool) → is_in_progress (cond empty Normal TrapWrite) ≡ false
    go true = refl
    go false = refl

-- a line that was handled isn't Trans-In-Progress
pub handled_free : (d : Directory) (i : ℕ) (m : ToMemory) → is_in_progress (handle d i m).0.meta ≡ false
handled_free d i m = let h = full_map_of d in calm_meta d.always _ (kept_calm d i (keeping h i h.state m))

-- a message that comes while nothing is pending is acted on, and nothing is pending then
pub record IsActed (c after : Course) (i : ℕ) (m : ToMemory) : Type 0 where
  pub idle : IsIdle after
  pub acted : after.acted ≡ c.acted ++ (i, m) ∷ []

one_acted : (most : ℕ) (c : Course) (i : ℕ) (m : ToMemory) → IsIdle c → IsActed c (happen most (happen most c (Comes i m)) Handles) i m
one_acted most c i m idle = rw (idle.free) (go (is_trapped most c.entry i m))
  where
    go : (traps : Bool) → IsActed c (happen most (take_in c i m traps) Handles) i m
    go true = record { idle = record { free = handled_free (trapped c.entry) i m; none = refl }; acted = refl }
    go false = record { idle = record { free = idle.free; none = refl }; acted = refl }

all_acted : (most : ℕ) (c : Course) (messages : List (ℕ × ToMemory)) → IsIdle c → (happen_all most c (one_by_one messages)).acted ≡ c.acted ++ messages
all_acted most c [] idle = sym (append-nil c.acted)
all_acted most c (message ∷ rest) idle =
    let one = one_acted most c message.0 message.1 idle in
    all_acted most (happen most (happen most c (Comes message.0 message.1)) Handles) rest one.idle ∙ ap (λ (ms : List (ℕ × ToMemory)). ms ++ rest) one.acted ∙ append_assoc c.acted (message ∷ []) rest

pub each_acted : (most : ℕ) (body : Line) (always : Bool) (messages : List (ℕ × ToMemory)) → (happen_all most (course_start body always) (one_by_one messages)).acted ≡ messages
each_acted most body always messages = all_acted most (course_start body always) messages (record { free = calm_meta always Normal refl; none = refl })

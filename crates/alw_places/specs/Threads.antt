-- A turn as its own context sees it: the memory, the context, and what it has printed. The other contexts stay as they are.
use Rattle.std.specs.Prelude.{◌≡◌, ℕ, zero, suc, ◌<◌, ◌++◌, true, false, List, [], ◌∷◌, slice_index_or, slice_set}
use Rattle.alw_num.specs.declared.addresses.Line.{Line}
use Rattle.sparc_table.specs.Turns.{need_of}
use Rattle.sparc_table.specs.declared.outcomes.Need.{Need}
use Rattle.sparc_table.specs.declared.outcomes.Outcome.{Outcome}
use Rattle.sparc_table.specs.declared.outcomes.Outcome.TheVariants.{Out}
use Rattle.alw_msg.specs.Statuses.{is_ready}
use Rattle.alw_image.specs.declared.parts.Parts.{Parts}
use Rattle.alw_image.specs.Images.{line_count}
use Rattle.alw_model.specs.ProcessorSteps.{status_after}
use Rattle.alw_model.specs.Flat.{Context, context_at}
use Rattle.alw_places.specs.declared.classes.Class.{Class}
use Rattle.alw_places.specs.Effects.{Effect, effect_of}
use Rattle.alw_places.specs.Places.{Place, traps, to_go}
use Rattle.alw_places.specs.Sharing.{is_allowed, is_private}

pub record Thread : Type 0 where
  pub memory : List Line
  pub context : Context
  pub printed : List ℕ

abbrev pub thread_at : Place → ℕ → Thread
thread_at place context = record { memory = place.flat.memory; context = context_at place.flat context; printed = slice_index_or place.printed context [] }

-- the place with this in the place of a context's thread
abbrev pub with_thread : Place → ℕ → Thread → Place
with_thread place context thread =
    record { flat = record { memory = thread.memory; contexts = slice_set place.flat.contexts context thread.context }; printed = slice_set place.printed context thread.printed }

-- the words once a turn has ended so
abbrev pub words_after : List ℕ → Outcome → List ℕ
words_after words (Out word) = words ++ word ∷ []
words_after words _ = words

abbrev pub effect_in : Parts → Thread → Effect
effect_in parts thread = effect_of parts thread.memory thread.context.regs

-- what an effect leaves of a thread
abbrev pub thread_left : Thread → Effect → Thread
thread_left thread effect = record { memory = effect.memory; context = record { regs = effect.regs; status = status_after effect.regs effect.outcome }; printed = words_after thread.printed effect.outcome }

abbrev pub thread_turn : Parts → Thread → Thread
thread_turn parts thread = thread_left thread (effect_in parts thread)

abbrev pub thread_need : Parts → Thread → Need
thread_need parts thread = need_of parts.code thread.context.regs (line_count parts)

-- the thread after so many turns
abbrev pub thread_turns : Parts → Thread → ℕ → Thread
thread_turns parts thread zero = thread
thread_turns parts thread (suc n) = thread_turns parts (thread_turn parts thread) n

-- its context goes on, and keeps to the hint
pub record ThreadGoes (parts : Parts) (classes : List Class) (context : ℕ) (thread : Thread) : Type 0 where
  pub ready : is_ready thread.context.status ≡ true
  pub no_trap : traps (effect_in parts thread).outcome ≡ false
  pub allowed : is_allowed classes context (thread_need parts thread) ≡ true

-- it does so on no shared line, and forward
pub record ThreadPrivate (parts : Parts) (classes : List Class) (context : ℕ) (thread : Thread) : Type 0 where
  pub goes : ThreadGoes parts classes context thread
  pub alone : is_private classes (thread_need parts thread) ≡ true
  pub forward : to_go (thread_turn parts thread).context < to_go thread.context

-- so many turns, each private and forward
abbrev pub ArePrivate : Parts → List Class → ℕ → Thread → ℕ → Type 0
ArePrivate parts classes context thread zero = Unit {0}
ArePrivate parts classes context thread (suc n) = ThreadPrivate parts classes context thread × ArePrivate parts classes context (thread_turn parts thread) n

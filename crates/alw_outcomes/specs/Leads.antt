-- What a thread's turns lead to, as code tells it by numbers.
use Rattle.std.specs.Prelude.{◌≡◌, ℕ, Bool, true, false, List, IsTrue}
use Rattle.sparc_table.specs.declared.outcomes.Outcome.TheVariants.{Trap}
use Rattle.alw_image.specs.declared.parts.Parts.{Parts}
use Rattle.alw_msg.specs.Statuses.{is_ready}
use Rattle.alw_places.specs.declared.classes.Class.{Class}
use Rattle.alw_outcomes.specs.declared.leads.Lead.{Lead}
use Rattle.alw_outcomes.specs.declared.leads.Lead.TheVariants as leads
use Rattle.alw_outcomes.specs.declared.pools.Pools.{Pools}
use Rattle.alw_outcomes.specs.declared.pools.Numbers.{Numbers}
use Rattle.alw_places.specs.Sharing.{is_allowed}
use Rattle.alw_places.specs.Threads.{Thread, effect_in, thread_turn, thread_turns, thread_need, ThreadGoes, ThreadPrivate, ArePrivate}
use Rattle.alw_outcomes.specs.Pools.{thread_in, AreIn}

-- so many private turns of the thread lead there
pub record IsPrivateChain (parts : Parts) (classes : List Class) (context : ℕ) (thread : Thread) (pools : Pools) (to : Numbers) (more : ℕ) : Type 0 where
  pub inside : AreIn pools to
  pub private : ArePrivate parts classes context thread more
  pub end : thread_in pools to ≡ thread_turns parts thread more

-- the thread's turn leads there, with private ones behind it
pub record IsGoing (parts : Parts) (classes : List Class) (context : ℕ) (thread : Thread) (pools : Pools) (to : Numbers) (more : ℕ) (first : Bool) : Type 0 where
  pub goes : ThreadGoes parts classes context thread
  pub first_is : IsTrue first → ThreadPrivate parts classes context thread
  pub chain : IsPrivateChain parts classes context (thread_turn parts thread) pools to more

-- the thread's turn traps
pub record IsTrapOf (parts : Parts) (classes : List Class) (context : ℕ) (thread : Thread) (pc type : ℕ) : Type 0 where
  pub ready : is_ready thread.context.status ≡ true
  pub allowed : is_allowed classes context (thread_need parts thread) ≡ true
  pub trap : (effect_in parts thread).outcome ≡ Trap type
  pub pc_is : thread.context.regs.pc ≡ pc

abbrev pub IsLead : Parts → List Class → ℕ → Thread → Pools → Lead → Type 0
IsLead parts classes context thread pools leads.Idle = is_ready thread.context.status ≡ false
IsLead parts classes context thread pools (leads.Breaks turn) = (is_ready thread.context.status ≡ true) × (is_allowed classes context (thread_need parts thread) ≡ false)
IsLead parts classes context thread pools (leads.Traps pc type) = IsTrapOf parts classes context thread pc type
IsLead parts classes context thread pools (leads.Goes to more first) = IsGoing parts classes context thread pools to more first

-- The rule of a link: the list popped, followed by what the queue holds, is the list pushed.
use Rattle.std.specs.Prelude.{◌≡◌, ℕ, Option, Some, None, List, [], ◌∷◌, ◌++◌}
use mathlib.Core.Option.{some}
use lib.ListN.{get_elem?}
use Rattle.alw_msg.specs.declared.messages.Msg.{Msg}
use Rattle.alw_ruled.specs.declared.rule.View.{View}

-- what a pass has pushed, where it may push, and what it has popped, where it may pop
abbrev pub view_of : Option (List Msg) → Option (List Msg) → View
view_of pushed popped = record { pushed = pushed; popped = popped }

-- the list that a pass has, and none where it has no such right
abbrev pub known : Option (List Msg) → List Msg
known (Some list) = list
known None = []

-- the pass may push, and not pop
abbrev pub MaySend : View → Type 0
MaySend view = view ≡ view_of (Some (known view.pushed)) None

-- the pass may pop, and not push
abbrev pub MayReceive : View → Type 0
MayReceive view = view ≡ view_of None (Some (known view.popped))

-- what was pushed to a link: what went onto the queue, and behind it what waits at the sender's end
abbrev pub all_of : View → List Msg → List Msg
all_of view late = known view.pushed ++ late

-- the pass that may push has the list pushed, and the pass that may pop has the list popped
pub record ViewFits (sender receiver : ℕ) (pushed popped : List Msg) (pass : ℕ) (view : View) : Type 0 where
  pub pushes : (list : List Msg) → view.pushed ≡ Some list → (pass ≡ sender) × (list ≡ pushed)
  pub pops : (list : List Msg) → view.popped ≡ Some list → (pass ≡ receiver) × (list ≡ popped)

-- the rule, over what the queue holds and the view of each pass, by its number
pub record InOrder (held : List Msg) (views : List View) : Type 0 where
  pub sender : ℕ
  pub receiver : ℕ
  pub pushed : List Msg
  pub popped : List Msg
  pub in_order : pushed ≡ popped ++ held
  pub each : (pass : ℕ) → (view : View) → get_elem? views pass ≡ some view → ViewFits sender receiver pushed popped pass view

-- a push adds the message to the list pushed
abbrev pub Adds : View → Msg → View → Type 0
Adds before msg after = after ≡ view_of (Some (known before.pushed ++ msg ∷ [])) before.popped

-- a pop adds the message to the list popped
abbrev pub Takes : View → Msg → View → Type 0
Takes before msg after = after ≡ view_of before.pushed (Some (known before.popped ++ msg ∷ []))

-- the list pushed is the list popped and what is left
abbrev pub Left : View → List Msg → Type 0
Left view held = known view.pushed ≡ known view.popped ++ held

-- Words on lists, such as the messages of a link: the first, how many pass a test, and in which order they stand (a link is first in, first out, as in Lamport 1978).
use Rattle.std.specs.Prelude.{ℕ, Bool, true, false, not, ◌&&◌, ◌||◌, Option, Some, None, List, [], ◌∷◌}
use Rattle.std.specs.List.{list_any}
use Rattle.alw_num.specs.Weights.{digit, weigh}

-- the list has a member
abbrev pub is_nonempty : {X : Type 0} → List X → Bool
is_nonempty [] = false
is_nonempty (x ∷ rest) = true

-- the first member, where there is one
abbrev pub front : {X : Type 0} → List X → Option X
front [] = None
front (x ∷ rest) = Some x

-- the members behind the first
abbrev pub behind : {X : Type 0} → List X → List X
behind [] = []
behind (x ∷ rest) = rest

-- how many messages pass a test
abbrev pub count_of : {M : Type 0} → (M → Bool) → List M → ℕ
count_of test messages = weigh (λ message. digit (test message)) messages

-- each message that passes the first test has one behind it that passes the second
abbrev pub is_followed : {M : Type 0} → (M → Bool) → (M → Bool) → List M → Bool
is_followed first second [] = true
is_followed first second (message ∷ rest) = (not (first message) || list_any second rest) && is_followed first second rest

-- no message that passes the second test stands behind one that passes the first
abbrev pub is_clear_behind : {M : Type 0} → (M → Bool) → (M → Bool) → List M → Bool
is_clear_behind first second [] = true
is_clear_behind first second (message ∷ rest) = (not (first message) || not (list_any second rest)) && is_clear_behind first second rest

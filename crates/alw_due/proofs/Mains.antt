-- A main event that may be next is one of those that may be next.
use Rattle.std.proofs.Common.{◌≡◌, ℕ, zero, suc, ◌+◌, ◌<◌, ◌≤◌, true, false, Some, List, [], ◌∷◌, ◌++◌, map, flat_map, slice_get, refl, ap, subst, arith}
use Rattle.std.specs.List.{range_with_len}
use Rattle.alw_num.proofs.Weigh.{cases_lt_then}
use Rattle.alw_msg.specs.declared.events.Event.{Event}
use Rattle.alw_msg.specs.declared.events.Event.TheVariants.{Instr, Handle, Deliver, Evict}
use Rattle.alw_msg.specs.Events.{node_of, is_evict}
use Rattle.alw_image.specs.declared.parts.Parts.{Parts}
use Rattle.alw_image.specs.Images.{node_count}
use Rattle.alw_model.specs.Machine.{is_enabled, main_events}
use Rattle.alw_model.proofs.Journals.{and_parts}
use Rattle.law_lines.proofs.Steps.{enabled_is}
use Rattle.alw_ready.specs.Changes.{ComesFromBelow}
use Rattle.alw_ready.proofs.MainEvents.{comes_from}
use Rattle.alw_mesh.specs.Histories.{History, state_of, may_be_next}
use Rattle.alw_mesh.specs.Ends.{next_events, node_events}
use Rattle.alw_due.proofs.Members.{IsIn, in_head, in_behind, kept}

in_left : (xs ys : List Event) (x : Event) → IsIn xs x → IsIn (xs ++ ys) x
in_left xs ys x within = by_place xs within.place within.stands
  where
    by_place : (xs : List Event) (k : ℕ) → slice_get xs k ≡ Some x → IsIn (xs ++ ys) x
    by_place [] k got = absurd (cc)
    by_place (y ∷ rest) zero got = record { place = 0; stands = got }
    by_place (y ∷ rest) (suc k) got = in_behind y (rest ++ ys) x (by_place rest k got)

in_right : (xs ys : List Event) (x : Event) → IsIn ys x → IsIn (xs ++ ys) x
in_right [] ys x within = within
in_right (y ∷ rest) ys x within = in_behind y (rest ++ ys) x (in_right rest ys x within)

in_mapped : (f : ℕ → Event) (n first k : ℕ) → first ≤ k → k < first + n → IsIn (map f (range_with_len first n)) (f k)
in_mapped f zero first k from below = absurd (omega (arith, from, below))
in_mapped f (suc n) first k from below = cases_lt_then k first
    (λ after. in_behind (f first) (map f (range_with_len (first + 1) n)) (f k) (in_mapped f n (first + 1) k (omega (arith, after)) (omega (arith, below))))
    (λ le. let same : k ≡ first = omega (arith, from, le) in in_head (f first) (map f (range_with_len (first + 1) n)) (f k) (ap f same))

in_flat : (f : ℕ → List Event) (n first k : ℕ) (x : Event) → first ≤ k → k < first + n → IsIn (f k) x → IsIn (flat_map f (range_with_len first n)) x
in_flat f zero first k x from below within = absurd (omega (arith, from, below))
in_flat f (suc n) first k x from below within = cases_lt_then k first
    (λ after. in_right (f first) (flat_map f (range_with_len (first + 1) n)) x (in_flat f n (first + 1) k x (omega (arith, after)) (omega (arith, below)) within))
    (λ le. let same : k ≡ first = omega (arith, from, le) in in_left (f first) (flat_map f (range_with_len (first + 1) n)) x (subst (λ (j : ℕ). IsIn (f j) x) same within))

-- of a node that exists, and from one
in_node : (parts : Parts) (event : Event) → is_evict event ≡ false → ComesFromBelow (node_count parts) event → IsIn (node_events parts (node_of event)) event
in_node parts (Instr at) main from = record { place = 0; stands = refl }
in_node parts (Handle at) main from = record { place = 1; stands = refl }
in_node parts (Deliver from to) main below =
    let delivery = λ (n : ℕ). Deliver (record { 0 = n }) (record { 0 = to.0 }) in
    let within = in_mapped delivery (node_count parts) 0 from.0 (omega arith) (omega (arith, below)) in
    record { place = suc (suc within.place); stands = within.stands }
in_node parts (Evict at set) main from = absurd (cc)

in_main : (parts : Parts) (event : Event) → is_evict event ≡ false → node_of event < node_count parts → ComesFromBelow (node_count parts) event → IsIn (main_events parts) event
in_main parts event main here from = in_flat (node_events parts) (node_count parts) 0 (node_of event) event (omega arith) (omega (arith, here)) (in_node parts event main from)

-- the node of an event that may be next exists
pub here : (h : History) (event : Event) → may_be_next h event ≡ true → node_of event < node_count h.image
here h event may = (enabled_is h.image h.parameters (state_of h) event (and_parts (is_enabled h.image h.parameters (state_of h) event) _ may).0).here

pub in_next : (h : History) (event : Event) → is_evict event ≡ false → may_be_next h event ≡ true → IsIn (next_events h) event
in_next h event main may =
    kept (may_be_next h) (main_events h.image) event (in_main h.image event main (here h event may) (comes_from h.image h.parameters (state_of h) event may)) may

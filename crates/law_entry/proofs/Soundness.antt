-- An entry stays sound under every action.
use Rattle.std.proofs.Common.{◌≡◌, ℕ, ◌≤◌, Bool, true, false, cond, not, ◌&&◌, ◌||◌, ◌==◌, Option, Some, None, IsTrue, refl, sym, ap, ◌∙◌, arith}
use Rattle.std.proofs.lemmas.Bool.{true≢false, ne_eqb, eq-eqb}
use Rattle.std.proofs.lemmas.Bool.Decides.{nat_tests}
use Rattle.alw_num.specs.declared.addresses.Line.{Line}
use Rattle.alw_num.specs.declared.states.State.{State}
use Rattle.alw_num.specs.declared.states.State.TheVariants.{RO, RW, RT, WT}
use Rattle.alw_num.specs.declared.states.Meta.{Meta}
use Rattle.alw_num.specs.declared.states.Meta.TheVariants.{Normal, Progress, TrapWrite, TrapAlways}
use Rattle.alw_num.specs.NodeSets.{Nodes, no_nodes, has_node, add_node, join_nodes, count_nodes}
use Rattle.alw_num.specs.Weights.{digit}
use Rattle.alw_num.proofs.Sets.{count-none, count-one, count-add, has-add, has-none, none_of_count}
use Rattle.alw_msg.specs.Contents.{ToMemory, RREQ, WREQ, REPM, UPDATE, ACKC}
use Rattle.alw_model.specs.FullMap.{Home, row}
use Rattle.alw_model.specs.declared.steps.Keeping.{Keeping}
use Rattle.alw_model.specs.declared.steps.Keeping.TheVariants.{Joined, Alone, Emptied, Kept}
use Rattle.alw_model.specs.LimitLess.{Directory, directory_start, or_always, full_map_of, hardware_of, overflows, traps_in, is_trapped, is_in_progress, hardware_act, trapped, handle, kept, keeping, keeping_request, keeping_return}
use Rattle.alw_model.specs.LineInvariant.{software_by, is_shared}
use Rattle.law_entry.specs.Entries.{EntryIsSound}
use Rattle.law_entry.proofs.Actions.{pointers_by, row-pointers}

-- the clause on S, at the number of packets that the meta state tells
abbrev fits : Meta → Bool → Bool → Bool
fits mt shared empty = software_by mt shared empty (digit (is_in_progress mt))

-- S is empty, or the state is Read-Only
shared_or_empty : (mt : Meta) (shared empty : Bool) → IsTrue (fits mt shared empty) → IsTrue (shared || empty)
shared_or_empty Normal shared empty h = grind arith
shared_or_empty TrapWrite shared empty h = grind arith
shared_or_empty TrapAlways shared empty h = grind arith
shared_or_empty Progress shared empty h = grind arith

pub start_sound : (most : ℕ) (body : Line) (always : Bool) → EntryIsSound most (directory_start body always)
start_sound most body always = record { software = go always; few = omega (arith, count-none) }
  where
    go : (always : Bool) → IsTrue (fits (or_always always Normal) true (count_nodes no_nodes == 0))
    go true = grind (arith, nat_tests, count-none)
    go false = grind (arith, nat_tests, count-none)

pub trapped_sound : (most : ℕ) (d : Directory) → EntryIsSound most d → EntryIsSound most (trapped d)
trapped_sound most d sound =
    let s = shared_or_empty d.meta (is_shared d.state) (count_nodes d.software == 0) sound.software in
    record { software = grind arith; few = sound.few }

-- the number of members of P after an action
few_after : (most : ℕ) (h : Home) (i : ℕ) (k : Keeping) → 1 ≤ most → count_nodes h.pointers ≤ most → (k ≡ Joined → (not (has_node h.pointers i) && (count_nodes h.pointers == most)) ≡ false) → count_nodes (pointers_by h i k) ≤ most
few_after most h i Joined some few room = grind (arith, nat_tests, count-add h.pointers i, room refl)
few_after most h i Alone some few room = omega (arith, count-one i)
few_after most h i Emptied some few room = omega (arith, count-none)
few_after most h i Kept some few room = few

-- a request or a REPM in Read-Write joins no reader
request_joins : (i : ℕ) (o : Option ℕ) → keeping_request i o ≡ Joined → ⊥
request_joins i None e = cc
request_joins i (Some owner) e = go (i == owner) e
  where
    go : (b : Bool) → cond b Kept Alone ≡ Joined → ⊥
    go true e = cc
    go false e = cc

return_joins : (i : ℕ) (o : Option ℕ) → keeping_return i o ≡ Joined → ⊥
return_joins i None e = cc
return_joins i (Some owner) e = go (i == owner) e
  where
    go : (b : Bool) → cond b Emptied Kept ≡ Joined → ⊥
    go true e = cc
    go false e = cc

-- a reader joins P only by a read in Read-Only, which doesn't overflow where it doesn't trap
has_room : (most : ℕ) (d : Directory) (i : ℕ) (mt : Meta) (st : State) (m : ToMemory) → is_in_progress mt ≡ false
    → traps_in mt (overflows most d.hardware i st m) m ≡ false → keeping (hardware_of d) i st m ≡ Joined
    → (not (has_node d.hardware i) && (count_nodes d.hardware == most)) ≡ false
has_room most d i Normal RO RREQ free calm joins = calm
has_room most d i TrapWrite RO RREQ free calm joins = grind arith
has_room most d i TrapAlways RO RREQ free calm joins = absurd (true≢false calm)
has_room most d i Progress RO RREQ free calm joins = absurd (true≢false free)
has_room most d i mt RO WREQ free calm joins = absurd (cc)
has_room most d i mt RO (REPM body) free calm joins = absurd (cc)
has_room most d i mt RO (UPDATE body) free calm joins = absurd (cc)
has_room most d i mt RO ACKC free calm joins = absurd (cc)
has_room most d i mt RW RREQ free calm joins = absurd (request_joins i _ joins)
has_room most d i mt RW WREQ free calm joins = absurd (request_joins i _ joins)
has_room most d i mt RW (REPM body) free calm joins = absurd (return_joins i _ joins)
has_room most d i mt RW (UPDATE body) free calm joins = absurd (cc)
has_room most d i mt RW ACKC free calm joins = absurd (cc)
has_room most d i mt RT m free calm joins = absurd (cc)
has_room most d i mt WT m free calm joins = absurd (cc)

-- where S has a member, what doesn't trap leaves a shared entry shared
stays_shared : (h : Home) (i : ℕ) (mt : Meta) (st : State) (m : ToMemory) (overflow empty : Bool) → is_in_progress mt ≡ false → traps_in mt overflow m ≡ false → h.state ≡ st → IsTrue (fits mt (is_shared st) empty) → IsTrue (fits mt (is_shared (row h i st m).0.state) empty)
stays_shared h i Normal st m overflow empty free calm at before = before
stays_shared h i Progress st m overflow empty free calm at before = absurd (true≢false free)
stays_shared h i TrapAlways st m overflow empty free calm at before = absurd (true≢false calm)
stays_shared h i TrapWrite RO RREQ overflow empty free calm at before = rw at before
stays_shared h i TrapWrite RO ACKC overflow empty free calm at before = rw at before
stays_shared h i TrapWrite RO WREQ overflow empty free calm at before = absurd (grind arith)
stays_shared h i TrapWrite RO (REPM body) overflow empty free calm at before = absurd (grind arith)
stays_shared h i TrapWrite RO (UPDATE body) overflow empty free calm at before = absurd (grind arith)
stays_shared h i TrapWrite RW m overflow empty free calm at before = absurd (true≢false (sym before))
stays_shared h i TrapWrite RT m overflow empty free calm at before = absurd (true≢false (sym before))
stays_shared h i TrapWrite WT m overflow empty free calm at before = absurd (true≢false (sym before))

pub hardware_sound : (most : ℕ) (d : Directory) (i : ℕ) (m : ToMemory) → 1 ≤ most → EntryIsSound most d → is_trapped most d i m ≡ false → is_in_progress d.meta ≡ false → EntryIsSound most (hardware_act d i m).0
hardware_sound most d i m some sound calm free = record {
  software = stays_shared (hardware_of d) i d.meta d.state m (overflows most d.hardware i d.state m)
      (count_nodes d.software == 0) free calm refl sound.software;
  few = rw (row-pointers (hardware_of d) i d.state m) (few_after most (hardware_of d) i (keeping (hardware_of d) i d.state m) some sound.few (has_room most d i d.meta d.state m free calm));
}

-- ---- the handler

always_fits : (always : Bool) (mt : Meta) (shared empty : Bool) → is_in_progress mt ≡ false → IsTrue (fits mt shared empty) → IsTrue (shared || empty) → IsTrue (fits (or_always always mt) shared empty)
always_fits true mt shared empty free h either = grind arith
always_fits false mt shared empty free h either = h

-- a reader joins P in Read-Only alone
joined_shared : (h : Home) (i : ℕ) (st : State) (m : ToMemory) → h.state ≡ st → keeping h i st m ≡ Joined → is_shared (row h i st m).0.state ≡ true
joined_shared h i RO RREQ at joins = rw at refl
joined_shared h i RO WREQ at joins = absurd (cc)
joined_shared h i RO (REPM body) at joins = absurd (cc)
joined_shared h i RO (UPDATE body) at joins = absurd (cc)
joined_shared h i RO ACKC at joins = absurd (cc)
joined_shared h i RW RREQ at joins = absurd (request_joins i _ joins)
joined_shared h i RW WREQ at joins = absurd (request_joins i _ joins)
joined_shared h i RW (REPM body) at joins = absurd (return_joins i _ joins)
joined_shared h i RW (UPDATE body) at joins = absurd (cc)
joined_shared h i RW ACKC at joins = absurd (cc)
joined_shared h i RT m at joins = absurd (cc)
joined_shared h i WT m at joins = absurd (cc)

-- an entry whose P is kept stays Read-Only, where it was so
kept_shared : (h : Home) (i : ℕ) (st : State) (m : ToMemory) → h.state ≡ st → keeping h i st m ≡ Kept → is_shared st ≡ true → is_shared (row h i st m).0.state ≡ true
kept_shared h i RO RREQ at keeps was = absurd (cc)
kept_shared h i RO WREQ at keeps was = absurd (cc)
kept_shared h i RO (REPM body) at keeps was = rw at refl
kept_shared h i RO (UPDATE body) at keeps was = rw at refl
kept_shared h i RO ACKC at keeps was = rw at refl
kept_shared h i RW m at keeps was = absurd (true≢false (sym was))
kept_shared h i RT m at keeps was = absurd (true≢false (sym was))
kept_shared h i WT m at keeps was = absurd (true≢false (sym was))

some_added : (P : Nodes) (i : ℕ) → (count_nodes (add_node P i) == 0) ≡ false
some_added P i = ne_eqb (count_nodes (add_node P i)) 0 (λ e.
    let here : has_node (add_node P i) i ≡ true = has-add P i i ∙ rw (eq-eqb i i refl) in
    true≢false (sym here ∙ ap (λ (Q : Nodes). has_node Q i) (none_of_count (add_node P i) e) ∙ has-none i))

-- S after the handler, by how P is kept
handled_fits : (d : Directory) (i : ℕ) (shared : Bool) (k : Keeping) → (k ≡ Joined → shared ≡ true) → (k ≡ Kept → IsTrue (shared || (count_nodes d.software == 0)))
    → IsTrue (fits (or_always d.always (kept d.hardware d.software i k).2) shared (count_nodes (kept d.hardware d.software i k).1 == 0))
handled_fits d i shared Joined joined kept = always_fits d.always TrapWrite shared _ refl (grind (arith, joined refl, some_added (join_nodes d.hardware d.software) i)) (grind (arith, joined refl))
handled_fits d i shared Alone joined kept = always_fits d.always Normal shared _ refl (grind (arith, nat_tests, count-none)) (grind (arith, nat_tests, count-none))
handled_fits d i shared Emptied joined kept = always_fits d.always Normal shared _ refl (grind (arith, nat_tests, count-none)) (grind (arith, nat_tests, count-none))
handled_fits d i shared Kept joined kept = go (count_nodes d.software == 0) (kept refl)
  where
    go : (empty : Bool) → IsTrue (shared || empty) → IsTrue (fits (or_always d.always (cond empty Normal TrapWrite)) shared empty)
    go true either = always_fits d.always Normal shared true refl (grind arith) either
    go false either = always_fits d.always TrapWrite shared false refl (grind arith) either

handled_few : (most : ℕ) (d : Directory) (i : ℕ) (k : Keeping) → 1 ≤ most → count_nodes d.hardware ≤ most
    → count_nodes (kept d.hardware d.software i k).0 ≤ most
handled_few most d i Joined some few = omega (arith, count-none)
handled_few most d i Alone some few = omega (arith, count-one i)
handled_few most d i Emptied some few = omega (arith, count-none)
handled_few most d i Kept some few = few

still_either : (was now empty : Bool) → (was ≡ true → now ≡ true) → IsTrue (was || empty) → IsTrue (now || empty)
still_either true now empty keeps h = grind (arith, keeps refl)
still_either false now empty keeps h = grind arith

pub handler_sound : (most : ℕ) (d : Directory) (i : ℕ) (m : ToMemory) → 1 ≤ most → EntryIsSound most d → EntryIsSound most (handle d i m).0
handler_sound most d i m some sound =
    let h = full_map_of d in
    let k = keeping h i h.state m in
    let before = shared_or_empty d.meta (is_shared d.state) (count_nodes d.software == 0) sound.software in
    record {
      software = handled_fits d i (is_shared (row h i h.state m).0.state) k (joined_shared h i h.state m refl) (λ keeps. still_either (is_shared d.state) _ _ (kept_shared h i h.state m refl keeps) before);
      few = handled_few most d i k some sound.few;
    }

-- Hardware and the handler act as the full-map entry that the directory stands for.
use Rattle.std.proofs.Common.{◌≡◌, ℕ, zero, suc, Bool, true, false, cond, ◌==◌, Option, Some, None, List, [], ◌∷◌, IsTrue, refl, sym, ap, ◌∙◌, subst, arith}
use Rattle.std.proofs.lemmas.Bool.{true≢false}
use Rattle.std.proofs.lemmas.Bool.Decides.{nat_tests}
use Rattle.alw_num.specs.declared.addresses.Line.{Line}
use Rattle.alw_num.specs.declared.states.State.{State}
use Rattle.alw_num.specs.declared.states.State.TheVariants.{RO, RW, RT, WT}
use Rattle.alw_num.specs.declared.states.Meta.{Meta}
use Rattle.alw_num.specs.declared.states.Meta.TheVariants.{Normal, Progress, TrapWrite, TrapAlways}
use Rattle.alw_num.specs.NodeSets.{Nodes, no_nodes, add_node, one_node, join_nodes, count_nodes}
use Rattle.alw_num.proofs.Sets.{join-none, none-join, add-join, none_of_count}
use Rattle.alw_num.specs.Weights.{digit}
use Rattle.alw_msg.specs.Contents.{ToMemory, RREQ, WREQ, REPM, UPDATE, ACKC}
use Rattle.alw_model.specs.FullMap.{Home, Sends, row, act, sole, others, recall, recall_from, give_back, give_back_from, write_shared, acknowledge, end_read, end_write}
use Rattle.alw_model.specs.declared.steps.Keeping.{Keeping}
use Rattle.alw_model.specs.declared.steps.Keeping.TheVariants.{Joined, Alone, Emptied, Kept}
use Rattle.alw_model.specs.LimitLess.{Directory, full_map_of, hardware_of, overflows, traps_in, is_trapped, is_in_progress, hardware_act, handle, kept, keeping, keeping_request, keeping_return}
use Rattle.alw_model.specs.LineInvariant.{software_by, is_shared}
use Rattle.law_entry.specs.Entries.{EntryIsSound, ActsAlike}

-- an entry whose pointers are joined with S
abbrev pub widened : Home → Nodes → Home
widened h S = record h { pointers = join_nodes h.pointers S }

widened_by_none : (h : Home) (S : Nodes) → S ≡ no_nodes → widened h S ≡ h
widened_by_none h S e =
    let same : join_nodes h.pointers S ≡ h.pointers = ap (join_nodes h.pointers) e ∙ join-none h.pointers in
    λ k. record { state = h.state; pointers = same k; acks = h.acks; body = h.body }

-- acting with pointers H, and joining S afterwards, is acting with H joined with S
pub record Widens (h : Home) (S : Nodes) (after whole : Home × Sends) : Type 0 where
  pub entry : widened after.0 S ≡ whole.0
  pub sent : after.1 ≡ whole.1

widens_none : (h : Home) (S : Nodes) (i : ℕ) (m : ToMemory) → S ≡ no_nodes → Widens h S (act h i m) (act (widened h S) i m)
widens_none h S i m e =
    let same = widened_by_none h S e in
    record {
      entry = widened_by_none (act h i m).0 S e ∙ ap (λ (g : Home). (act g i m).0) (sym same);
      sent = ap (λ (g : Home). (act g i m).1) (sym same);
    }

widens_read : (h : Home) (S : Nodes) (i : ℕ) → Widens h S (row h i RO RREQ) (row (widened h S) i RO RREQ)
widens_read h S i =
    let same = add-join h.pointers S i in
    record { entry = λ k. record { state = h.state; pointers = same k; acks = h.acks; body = h.body }; sent = refl }

-- S is empty where the line invariant's clause says so
pub empty_of : (S : Nodes) → IsTrue (count_nodes S == 0) → S ≡ no_nodes
empty_of S e = none_of_count S (grind (arith, nat_tests))

-- by meta state, state and message, where it doesn't trap
untrapped : (h : Home) (S : Nodes) (i : ℕ) (mt : Meta) (st : State) (m : ToMemory) (overflow : Bool) → h.state ≡ st → traps_in mt overflow m ≡ false → is_in_progress mt ≡ false
    → IsTrue (software_by mt (is_shared st) (count_nodes S == 0) 0) → Widens h S (row h i st m) (row (widened h S) i st m)
untrapped h S i mt st m overflow at calm free fits = go mt st m at calm free fits
  where
    none : (st : State) (m : ToMemory) → h.state ≡ st → S ≡ no_nodes → Widens h S (row h i st m) (row (widened h S) i st m)
    none st m at e = let P : State → Type 0 = λ s. Widens h S (row h i s m) (row (widened h S) i s m) in subst P at (widens_none h S i m e)

    go : (mt : Meta) (st : State) (m : ToMemory) → h.state ≡ st → traps_in mt overflow m ≡ false → is_in_progress mt ≡ false
        → IsTrue (software_by mt (is_shared st) (count_nodes S == 0) 0) → Widens h S (row h i st m) (row (widened h S) i st m)
    go Normal st m at calm free fits = none st m at (empty_of S (grind (arith, nat_tests)))
    go Progress st m at calm free fits = absurd (true≢false free)
    go TrapAlways st m at calm free fits = absurd (true≢false calm)
    go TrapWrite RO RREQ at calm free fits = widens_read h S i
    go TrapWrite RO ACKC at calm free fits = record { entry = refl; sent = refl }
    go TrapWrite RO WREQ at calm free fits = absurd (grind arith)
    go TrapWrite RO (REPM body) at calm free fits = absurd (grind arith)
    go TrapWrite RO (UPDATE body) at calm free fits = absurd (grind arith)
    go TrapWrite RW m at calm free fits = absurd (true≢false (sym fits))
    go TrapWrite RT m at calm free fits = absurd (true≢false (sym fits))
    go TrapWrite WT m at calm free fits = absurd (true≢false (sym fits))

no_progress : (mt : Meta) → is_in_progress mt ≡ false → digit (is_in_progress mt) ≡ 0
no_progress mt e = ap digit e

-- a message that doesn't trap: hardware acts as the full map
pub hardware_acts : (most : ℕ) (d : Directory) (i : ℕ) (m : ToMemory) → EntryIsSound most d → is_trapped most d i m ≡ false → is_in_progress d.meta ≡ false → ActsAlike d i m (hardware_act d i m)
hardware_acts most d i m sound calm free =
    let fits : IsTrue (software_by d.meta (is_shared d.state) (count_nodes d.software == 0) (digit (is_in_progress d.meta))) = sound.software in
    let P : ℕ → Type 0 = λ n. IsTrue (software_by d.meta (is_shared d.state) (count_nodes d.software == 0) n) in
    let w = untrapped (hardware_of d) d.software i d.meta d.state m (overflows most d.hardware i d.state m) refl calm free
    (subst P (no_progress d.meta free) fits) in
    record { entry = w.entry; sent = w.sent }

-- P after an action, by how the handler keeps it
abbrev pub pointers_by : Home → ℕ → Keeping → Nodes
pointers_by h i Joined = add_node h.pointers i
pointers_by h i Alone = one_node i
pointers_by h i Emptied = no_nodes
pointers_by h i Kept = h.pointers

pub row-pointers : (h : Home) (i : ℕ) (st : State) (m : ToMemory) → (row h i st m).0.pointers ≡ pointers_by h i (keeping h i st m)
row-pointers h i st m = go st m
  where
    wrote : (js : List ℕ) → (write_shared h i js).0.pointers ≡ one_node i
    wrote [] = refl
    wrote (j ∷ js) = refl

    recalled_from : (st : State) (owner : ℕ) (b : Bool) → (recall_from h i st owner b).0.pointers ≡ pointers_by h i (cond b Kept Alone)
    recalled_from st owner true = refl
    recalled_from st owner false = refl

    recalled : (st : State) (o : Option ℕ) → (recall h i st o).0.pointers ≡ pointers_by h i (keeping_request i o)
    recalled st None = refl
    recalled st (Some owner) = recalled_from st owner (i == owner)

    given_from : (body : Line) (b : Bool) → (give_back_from h body b).0.pointers ≡ pointers_by h i (cond b Emptied Kept)
    given_from body true = refl
    given_from body false = refl

    given : (body : Line) (o : Option ℕ) → (give_back h i body o).0.pointers ≡ pointers_by h i (keeping_return i o)
    given body None = refl
    given body (Some owner) = given_from body (i == owner)

    read_ended : (body : Line) (o : Option ℕ) → (end_read h body o).0.pointers ≡ h.pointers
    read_ended body None = refl
    read_ended body (Some k) = refl

    write_ended : (body : Line) (o : Option ℕ) → (end_write h body o).0.pointers ≡ h.pointers
    write_ended body None = refl
    write_ended body (Some k) = refl

    counted : (ended : Home × Sends) (n : ℕ) → ended.0.pointers ≡ h.pointers → (acknowledge h ended n).0.pointers ≡ h.pointers
    counted ended zero e = refl
    counted ended (suc zero) e = e
    counted ended (suc (suc n)) e = refl

    go : (st : State) (m : ToMemory) → (row h i st m).0.pointers ≡ pointers_by h i (keeping h i st m)
    go RO RREQ = refl
    go RO WREQ = wrote (others h.pointers i)
    go RO (REPM body) = refl
    go RO (UPDATE body) = refl
    go RO ACKC = refl
    go RW RREQ = recalled RT (sole h.pointers)
    go RW WREQ = recalled WT (sole h.pointers)
    go RW (REPM body) = given body (sole h.pointers)
    go RW (UPDATE body) = refl
    go RW ACKC = refl
    go RT RREQ = refl
    go RT WREQ = refl
    go RT (REPM body) = refl
    go RT (UPDATE body) = read_ended body (sole h.pointers)
    go RT ACKC = counted _ h.acks (read_ended h.body (sole h.pointers))
    go WT RREQ = refl
    go WT WREQ = refl
    go WT (REPM body) = refl
    go WT (UPDATE body) = write_ended body (sole h.pointers)
    go WT ACKC = counted _ h.acks (write_ended h.body (sole h.pointers))

-- H joined with S, as the handler keeps them, is P after the action
kept_pointers : (d : Directory) (i : ℕ) (k : Keeping)
    → join_nodes (kept d.hardware d.software i k).0 (kept d.hardware d.software i k).1 ≡ pointers_by (full_map_of d) i k
kept_pointers d i Joined = none-join (add_node (join_nodes d.hardware d.software) i)
kept_pointers d i Alone = join-none (one_node i)
kept_pointers d i Emptied = join-none no_nodes
kept_pointers d i Kept = refl

-- the handler acts as the full map
pub handler_acts : (d : Directory) (i : ℕ) (m : ToMemory) → ActsAlike d i m (handle d i m)
handler_acts d i m =
    let h = full_map_of d in
    let after = act h i m in
    let same : join_nodes (kept d.hardware d.software i (keeping h i h.state m)).0 (kept d.hardware d.software i (keeping h i h.state m)).1
    ≡ after.0.pointers = kept_pointers d i (keeping h i h.state m) ∙ sym (row-pointers h i h.state m) in
    record { entry = λ k. record { state = after.0.state; pointers = same k; acks = after.0.acks; body = after.0.body }; sent = refl }

-- A machine joined from a journal, its nodes, its links and what it tells; and the next entry of a legal journal.
use Rattle.std.proofs.Common.{◌≡◌, ℕ, ◌+◌, ◌<◌, IsTrue, Option, Some, List, [], ◌∷◌, ◌++◌, take, get_or, slice_get, length, sym, ap, subst, ◌∙◌, arith}
use Rattle.std.proofs.lemmas.List.{take_more, drop_all}
use Rattle.std.proofs.lemmas.Option.{get_or_from_slice_get, slice_get-get_or}
use Rattle.alw_msg.specs.declared.events.Entry.{Entry}
use Rattle.alw_msg.specs.declared.events.Event.TheVariants.{Instr}
use Rattle.alw_msg.specs.Sending.{Sending}
use Rattle.alw_image.specs.declared.parts.Parts.{Parts}
use Rattle.alw_image.specs.Images.{IsImage, node_count}
use Rattle.alw_image.specs.Parameters.{Parameters, AreParameters}
use Rattle.alw_model.specs.declared.ends.TrapAt.{TrapAt}
use Rattle.alw_model.specs.declared.steps.Counts.{Counts}
use Rattle.alw_model.specs.Machine.{MachineState, machine_start, step, after, state, IsNext, AreLegal, IsLegal}
use Rattle.alw_model.specs.Runs.{moments, turns_of, prints_of}
use Rattle.alw_model.specs.Counts.{counts_of}
use Rattle.alw_model.specs.Ends.{first_trap}
use Rattle.alw_model.proofs.Journals.{and_is, legal_take}
use Rattle.law_order.specs.Aims.{IsAimed}
use Rattle.law_order.proofs.Reached.{state_aimed}
use Rattle.alw_links.specs.Traffic.{Traffic}
use Rattle.alw_tally.specs.declared.remains.Remains.{Remains}
use Rattle.alw_tally.specs.Remaining.{remains_of}
use Rattle.alw_tally.specs.Told.{Told, told_of}
use Rattle.alw_tally.specs.Tallies.{Tallied, EventIsWithin}
use Rattle.alw_ready.specs.declared.rows.Row.{Row}
use Rattle.alw_ready.specs.Fits.{RowsFit}
use Rattle.alw_node.specs.Nodes.{Whole}
use Rattle.alw_mesh.specs.Grids.{Grid}
use Rattle.alw_mesh.specs.Histories.{History, IsRun, state_of, entry_of, grown, may_be_next, sent_last, last_sends, joined_of}
use Rattle.alw_mesh.specs.Keeping.{machine_of, AreNodes, IsGrid, IsMachine}
use Rattle.alw_mesh.specs.Joins.{IsGridOf, PartsAreJoined, states_of}
use Rattle.alw_mesh.proofs.FewSent.{told_within}
use Rattle.alw_mesh.proofs.Journals.{journal_fits, moments_long}

-- ---- nodes and links

module _ (image : Parts) (parameters : Parameters) (nodes items : List Whole) (traffic : Traffic) (same : items ≡ nodes) where
  pub machine_joined : machine_of items traffic.links ≡ machine_of nodes traffic.links
  machine_joined = ap (λ (all : List Whole). machine_of all traffic.links) same

  pub grid_joined : (remains : Remains) → IsImage image → AreNodes image parameters nodes → traffic.nodes ≡ node_count image → IsAimed image (machine_of nodes traffic.links) → remains ≡ remains_of (states_of items)
      → IsGrid image parameters items traffic remains
  grid_joined remains is are counted aimed all = record {
    image_is = is;
    nodes_are = subst (AreNodes image parameters) (sym same) are;
    links_are = counted;
    aimed = subst (IsAimed image) (sym machine_joined) aimed;
    remains_are = all;
  }

-- ---- the machine

-- the nodes and links of its state are aimed
pub joined_aimed : (image : Parts) (parameters : Parameters) (journal : List Entry) → IsLegal image parameters journal → (machine : MachineState) → machine ≡ state image parameters journal → IsAimed image machine
joined_aimed image parameters journal legal machine is = subst (IsAimed image) (sym is) (state_aimed image parameters journal legal)

module _ (image : Parts) (parameters : Parameters) (journal : List Entry) (run : IsRun (joined_of image parameters journal)) where
  module _ (turns : List ℕ) (prints : List (ℕ × ℕ)) (counts : Counts) (trap : Option TrapAt) (turns_are : turns ≡ turns_of image parameters journal) (prints_are : prints ≡ prints_of image parameters journal)
      (counts_are : counts ≡ counts_of image (moments image parameters journal)) (trap_is : trap ≡ first_trap 0 (moments image parameters journal)) where
    pub told_joined : ◌≡◌ {A = Told} (record { turns = turns; prints = prints; counts = counts; trap = trap }) (told_of image (moments image parameters journal))
    told_joined = λ i. record { turns = turns_are i; prints = prints_are i; counts = counts_are i; trap = trap_is i }

    pub within_joined : EventIsWithin (record { turns = turns; prints = prints; counts = counts; trap = trap })
    within_joined =
        let long = moments_long image parameters journal in
        subst EventIsWithin (sym told_joined) (told_within image parameters run.image journal run.legal (omega (arith, long, journal_fits (joined_of image parameters journal) run)))

  -- it has sent nothing yet
  pub nothing_sent : [] ≡ last_sends (joined_of image parameters journal)
  nothing_sent = sym (ap sent_last (drop_all (length journal) (moments image parameters journal) (let long = moments_long image parameters journal in omega arith)))

pub run_joined : (image : Parts) (parameters : Parameters) (journal : List Entry) → IsImage image → AreParameters parameters → IsLegal image parameters journal → IsRun (joined_of image parameters journal)
run_joined image parameters journal is are legal = record { image = is; parameters = are; legal = legal; joined = omega arith }

-- the parts that a machine is made of, over the image and the parameters that they were made from
pub parts_joined : {grid : Grid} {told : Told} (image : Parts) (parameters : Parameters) (journal : List Entry) (machine : MachineState) → IsGridOf image parameters machine grid → IsRun (joined_of image parameters journal)
    → machine ≡ state image parameters journal → told ≡ told_of image (moments image parameters journal) → PartsAreJoined grid journal told
parts_joined {grid = grid} {told = told} image parameters journal machine of run state_is told_is =
    let plain : Grid = record { image = image; parameters = parameters; machine = machine; room = grid.room } in
    let grid_is : grid ≡ plain = λ i. record { image = of.image_is i; parameters = of.parameters_are i; machine = of.machine_is i; room = grid.room } in
    let joined : PartsAreJoined plain journal told = record { run = run; state_is = state_is; told_is = told_is } in
    subst (λ (g : Grid). PartsAreJoined g journal told) (sym grid_is) joined

pub machine_joins : {grid : Grid} {sent : Sending} {tally : Tallied} {ready : List Row} (journal : List Entry) (joined : ℕ) → PartsAreJoined grid journal tally.told
    → joined ≡ length journal → sent.room ≡ node_count grid.image → sent.messages ≡ [] → RowsFit grid.image grid.parameters grid.machine ready → IsMachine grid journal joined sent tally ready
machine_joins {grid = grid} {sent = sent} {tally = tally} {ready = ready} journal joined are all room empty rows =
    subst (λ n. IsMachine grid journal n sent tally ready) (sym all) (record {
      run = are.run;
      state_is = are.state_is;
      room = room;
      sends = empty ∙ nothing_sent grid.image grid.parameters journal are.run;
      rows = rows;
      told = are.told_is;
    })

-- ---- the next entry

-- an entry that is read by its place
abbrev pub entry_at : List Entry → ℕ → Entry
entry_at items k = get_or items k (record { stamp = 0; event = Instr (record { 0 = 0 }) })

pub entry_here : (items journal : List Entry) (k : ℕ) → items ≡ journal → k < length items → (k < length journal) × (slice_get journal k ≡ Some (entry_at items k))
entry_here items journal k same here = subst (λ (es : List Entry). (k < length es) × (slice_get es k ≡ Some (entry_at items k))) same (here, slice_get-get_or items k _ here)

module _ (image : Parts) (parameters : Parameters) where
  legal_last : (s : MachineState) (journal : List Entry) (entry : Entry) → AreLegal image parameters s (journal ++ entry ∷ []) → IsNext image parameters (after image parameters s journal) entry
  legal_last s [] entry legal = legal.0
  legal_last s (first ∷ rest) entry legal = legal_last (step image parameters s first.event) rest entry legal.1

  -- a machine that has taken so many entries of a journal from its start
  abbrev pub took : List Entry → ℕ → History
  took journal k = record { image = image; parameters = parameters; journal = take k journal; joined = 0 }

  module _ (journal : List Entry) (legal : IsLegal image parameters journal) (k : ℕ) (entry : Entry) (here : k < length journal) (read : slice_get journal k ≡ Some entry) where
    pub one_more : take (k + 1) journal ≡ take k journal ++ entry ∷ []
    one_more = take_more journal k entry here ∙ ap (λ (e : Entry). take k journal ++ e ∷ []) (get_or_from_slice_get journal k entry entry read)

    pub next_is : IsNext image parameters (state_of (took journal k)) entry
    unfolding state
    next_is = legal_last (machine_start image) (take k journal) entry (subst (IsLegal image parameters) one_more (legal_take image parameters (k + 1) journal legal))

    pub may_next : IsTrue (may_be_next (took journal k) entry.event)
    may_next = and_is _ _ next_is.enabled next_is.within

    took_next : grown (took journal k) entry.event ≡ took journal (k + 1)
    took_next =
        let stamped : entry_of (took journal k) entry.event ≡ entry = λ i. record { stamp = sym next_is.stamp i; event = entry.event } in
        (λ i. record { image = image; parameters = parameters; journal = take k journal ++ stamped i ∷ []; joined = 0 })
        ∙ (λ i. record { image = image; parameters = parameters; journal = sym one_more i; joined = 0 })

    -- a machine that has taken it
    pub takes_next : (machine after : History) → machine ≡ took journal k → after ≡ grown machine entry.event → after ≡ took journal (k + 1)
    takes_next machine after is grew = grew ∙ (ap (λ (h : History). grown h entry.event) is ∙ took_next)

-- What a span of a journal moves on links and tells, behind what the journal's first entries leave and tell.
use Rattle.std.proofs.Common.{◌≡◌, ℕ, zero, suc, ◌+◌, ◌-◌, ◌<◌, ◌≤◌, Some, None, List, [], ◌∷◌, ◌++◌, length, take, drop, get_or, refl, sym, ap, subst, ◌∙◌, arith}
use Rattle.std.proofs.lemmas.List.{length-append, map-append, at_drop_more}
use Rattle.std.specs.List.{flat_map}
use Rattle.std.proofs.lemmas.List.Concat.{flat_map-append}
use Rattle.std.proofs.Math.Seq.{take-add}
use Rattle.alw_num.proofs.Weigh.{weigh-append}
use Rattle.alw_msg.specs.declared.messages.Msg.{Msg}
use Rattle.alw_msg.specs.declared.events.Event.{Event}
use Rattle.alw_msg.specs.declared.events.Event.TheVariants.{Instr, Handle, Deliver, Evict}
use Rattle.alw_msg.specs.declared.events.Entry.{Entry}
use Rattle.alw_msg.specs.Events.{node_of}
use Rattle.alw_image.specs.declared.parts.Parts.{Parts}
use Rattle.alw_image.specs.Images.{node_count}
use Rattle.alw_image.specs.Parameters.{Parameters}
use Rattle.alw_model.specs.declared.steps.Counts.{Counts}
use Rattle.alw_model.specs.Counts.{counts_of}
use Rattle.alw_model.specs.Machine.{MachineState, machine_start, links_taken, links_sent, step, after, state, AreLegal, IsLegal}
use Rattle.alw_model.specs.Runs.{Moment, moment_of, moments_from, moments}
use Rattle.alw_model.proofs.Journals.{after-append, legal_take}
use Rattle.law_lines.specs.Links.{GoBelow}
use Rattle.law_lines.proofs.Steps.{enabled_is}
use Rattle.law_order.specs.Aims.{IsAimed}
use Rattle.law_order.proofs.Aimed.{step_aimed, sends_below}
use Rattle.law_order.proofs.Reached.{state_aimed}
use Rattle.alw_links.specs.Traffic.{Traffic, after_take, after_send}
use Rattle.alw_tally.specs.Told.{turn_at, contexts_of, words_printed, told_of, sum_of}
use Rattle.alw_mesh.specs.Keeping.{NodesAreWithin}
use Rattle.alw_mesh.proofs.Moves.{named}
use Rattle.alw_merge.specs.declared.spans.Move.{Move}
use Rattle.alw_merge.specs.declared.spans.Span.{Span}
use Rattle.alw_merge.specs.declared.walks.Walked.{Walked}
use Rattle.alw_merge.specs.Joins.{unheld}
use Rattle.alw_merge.specs.Spans.{between, taking_of, sending_of, moves_of, moved_by, links_moved, MovesAreWithin, told_in, WalkIsBegun, IsWalkedOn, IsWalkedTo}

-- the first members of a list up to a later place are those up to an earlier one, and those between
take_on : {A : Type 0} (xs : List A) (i j : ℕ) → i ≤ j → take j xs ≡ take i xs ++ between i j xs
take_on xs i j before =
    let place : j ≡ i + (j - i) = omega (arith, before) in
    ap (λ (n : ℕ). take n xs) place ∙ take-add i (j - i) xs

-- ---- moves

-- what two runs of moves leave on links, one behind the other
moved-append : (nodes : ℕ) (links : List (List Msg)) (moves more : List Move) → links_moved nodes links (moves ++ more) ≡ links_moved nodes (links_moved nodes links moves) more
moved-append nodes links [] more = refl
moved-append nodes links (move ∷ rest) more = moved-append nodes (moved_by nodes links move.from.0 move.to.0 move.sent) rest more

within-append : (nodes : ℕ) (moves more : List Move) → MovesAreWithin nodes moves → MovesAreWithin nodes more → MovesAreWithin nodes (moves ++ more)
within-append nodes [] more here there = there
within-append nodes (move ∷ rest) more here there = (here.0, within-append nodes rest more here.1 there)

-- a move of nothing, for a place that no move has
abbrev pub no_move : Move
no_move = record { from = record { 0 = 0 }; to = record { 0 = 0 }; sent = None }

-- what is left of some moves, once one of them has been made, leaves what it left with that one
moved_more : (nodes : ℕ) (links links' : List (List Msg)) (moves : List Move) (i : ℕ) (d : Move) → i < length moves
    → links' ≡ moved_by nodes links (get_or moves i d).from.0 (get_or moves i d).to.0 (get_or moves i d).sent → links_moved nodes links' (drop (i + 1) moves) ≡ links_moved nodes links (drop i moves)
moved_more nodes links links' moves i d here is =
    ap (λ (all : List (List Msg)). links_moved nodes all (drop (i + 1) moves)) is ∙ sym (at_drop_more (links_moved nodes links) moves i d here)

module _ (nodes : ℕ) (traffic traffic' : Traffic) (moves : List Move) (i : ℕ) (nodes_are : traffic.nodes ≡ nodes) (here : i < length moves) where
  abbrev this : Move
  this = get_or moves i no_move

  -- a message has been taken off
  pub takes_on : this.sent ≡ None → traffic' ≡ after_take traffic this.from.0 this.to.0 → links_moved nodes traffic'.links (drop (i + 1) moves) ≡ links_moved nodes traffic.links (drop i moves)
  takes_on none is =
      moved_more nodes traffic.links traffic'.links moves i no_move here
      (ap (λ (t : Traffic). t.links) is ∙ (λ x. moved_by (nodes_are x) traffic.links this.from.0 this.to.0 (sym none x)))

  -- a message has been sent
  pub sends_on : (msg : Msg) → this.sent ≡ Some msg → traffic' ≡ after_send traffic this.from.0 this.to.0 msg → links_moved nodes traffic'.links (drop (i + 1) moves) ≡ links_moved nodes traffic.links (drop i moves)
  sends_on msg some is =
      moved_more nodes traffic.links traffic'.links moves i no_move here
      (ap (λ (t : Traffic). t.links) is ∙ (λ x. moved_by (nodes_are x) traffic.links this.from.0 this.to.0 (sym some x)))

-- the nodes of one of some moves exist
pub move_within : (nodes : ℕ) (moves : List Move) (i : ℕ) (d : Move) → MovesAreWithin nodes moves → i < length moves → ((get_or moves i d).from.0 < nodes) × ((get_or moves i d).to.0 < nodes)
move_within nodes [] i d all here = absurd (omega arith)
move_within nodes (move ∷ rest) zero d all here = all.0
move_within nodes (move ∷ rest) (suc i) d all here = move_within nodes rest i d all.1 (omega (arith, here))

-- ---- an event

module _ (image : Parts) where
  moves_taken : (links : List (List Msg)) (event : Event) → links_moved (node_count image) links (taking_of event) ≡ links_taken image links event
  moves_taken links (Instr at) = refl
  moves_taken links (Handle at) = refl
  moves_taken links (Evict at emptied) = refl
  moves_taken links (Deliver from to) = refl

  moves_sent : (links : List (List Msg)) (from : ℕ) (sends : List (ℕ × Msg)) → links_moved (node_count image) links (sending_of from sends) ≡ links_sent image links from sends
  moves_sent links from [] = refl
  moves_sent links from (send ∷ rest) = moves_sent (moved_by (node_count image) links from send.0 (Some send.1)) from rest

taking_within : (nodes : ℕ) (event : Event) → NodesAreWithin nodes event → MovesAreWithin nodes (taking_of event)
taking_within nodes (Instr at) within = tt
taking_within nodes (Handle at) within = tt
taking_within nodes (Evict at emptied) within = tt
taking_within nodes (Deliver from to) within = (within, tt)

sending_within : (nodes from : ℕ) (sends : List (ℕ × Msg)) → from < nodes → GoBelow nodes sends → MovesAreWithin nodes (sending_of from sends)
sending_within nodes from [] here below = tt
sending_within nodes from (send ∷ rest) here below = ((here, below.0), sending_within nodes from rest here below.1)

-- ---- the events of a run

module _ (image : Parts) (parameters : Parameters) where
  -- the links once an event's moves have been made
  moves_once : (s : MachineState) (entry : Entry) → links_moved (node_count image) s.links (moves_of (moment_of image parameters s entry)) ≡ (step image parameters s entry.event).links
  moves_once s entry =
      let moment = moment_of image parameters s entry in
      let n = node_of entry.event in
      moved-append (node_count image) s.links (taking_of entry.event) (sending_of n moment.stepped.sends)
      ∙ (ap (λ (links : List (List Msg)). links_moved (node_count image) links (sending_of n moment.stepped.sends)) (moves_taken image s.links entry.event)
      ∙ moves_sent image (links_taken image s.links entry.event) n moment.stepped.sends)

  -- the links once the moves of a run have been made
  moves_all : (s : MachineState) (journal : List Entry) → links_moved (node_count image) s.links (flat_map moves_of (moments_from image parameters s journal)) ≡ (after image parameters s journal).links
  moves_all s [] = refl
  moves_all s (entry ∷ rest) =
      let later = flat_map moves_of (moments_from image parameters (step image parameters s entry.event) rest) in
      moved-append (node_count image) s.links (moves_of (moment_of image parameters s entry)) later
      ∙ (ap (λ (links : List (List Msg)). links_moved (node_count image) links later) (moves_once s entry) ∙ moves_all (step image parameters s entry.event) rest)

  -- a legal run moves on links between nodes that exist
  moves_below : (s : MachineState) (journal : List Entry) → IsAimed image s → AreLegal image parameters s journal → MovesAreWithin (node_count image) (flat_map moves_of (moments_from image parameters s journal))
  moves_below s [] aimed legal = tt
  moves_below s (entry ∷ rest) aimed legal =
      let event = entry.event in
      let enabled = legal.0.enabled in
      let moment = moment_of image parameters s entry in
      within-append (node_count image) (moves_of moment) (flat_map moves_of (moments_from image parameters (step image parameters s event) rest))
      (within-append (node_count image) (taking_of event) (sending_of (node_of event) moment.stepped.sends) (taking_within (node_count image) event (named image parameters s event enabled))
      (sending_within (node_count image) (node_of event) moment.stepped.sends (enabled_is image parameters s event enabled).here (sends_below image parameters s event enabled aimed)))
      (moves_below (step image parameters s event) rest (step_aimed image parameters s event enabled aimed) legal.1)

  -- ---- a span of a journal

  moments_from-take : (n : ℕ) (s : MachineState) (journal : List Entry) → take n (moments_from image parameters s journal) ≡ moments_from image parameters s (take n journal)
  moments_from-take zero s journal = refl
  moments_from-take (suc n) s [] = refl
  moments_from-take (suc n) s (entry ∷ rest) = ap (λ (run : List Moment). moment_of image parameters s entry ∷ run) (moments_from-take n (step image parameters s entry.event) rest)

  moments_from-drop : (n : ℕ) (s : MachineState) (journal : List Entry)
      → drop n (moments_from image parameters s journal) ≡ moments_from image parameters (after image parameters s (take n journal)) (drop n journal)
  moments_from-drop zero s journal = refl
  moments_from-drop (suc n) s [] = refl
  moments_from-drop (suc n) s (entry ∷ rest) = moments_from-drop n (step image parameters s entry.event) rest

  are_legal-drop : (n : ℕ) (s : MachineState) (journal : List Entry) → AreLegal image parameters s journal → AreLegal image parameters (after image parameters s (take n journal)) (drop n journal)
  are_legal-drop zero s journal legal = legal
  are_legal-drop (suc n) s [] legal = tt
  are_legal-drop (suc n) s (entry ∷ rest) legal = are_legal-drop n (step image parameters s entry.event) rest legal.1

  are_legal-take : (n : ℕ) (s : MachineState) (journal : List Entry) → AreLegal image parameters s journal → AreLegal image parameters s (take n journal)
  are_legal-take zero s journal legal = tt
  are_legal-take (suc n) s [] legal = tt
  are_legal-take (suc n) s (entry ∷ rest) legal = (legal.0, are_legal-take n (step image parameters s entry.event) rest legal.1)

  moments_take : (n : ℕ) (journal : List Entry) → take n (moments image parameters journal) ≡ moments image parameters (take n journal)
  unfolding moments
  moments_take n journal = moments_from-take n (machine_start image) journal

  -- the events of a span are a run from the state before it
  moments_between : (journal : List Entry) (i j : ℕ) → between i j (moments image parameters journal) ≡ moments_from image parameters (state image parameters (take i journal)) (between i j journal)
  unfolding moments state
  moments_between journal i j = ap (take (j - i)) (moments_from-drop i (machine_start image) journal) ∙ moments_from-take (j - i) (after image parameters (machine_start image) (take i journal)) (drop i journal)

  legal_between : (journal : List Entry) (i j : ℕ) → IsLegal image parameters journal → AreLegal image parameters (state image parameters (take i journal)) (between i j journal)
  unfolding state
  legal_between journal i j legal = are_legal-take (j - i) (after image parameters (machine_start image) (take i journal)) (drop i journal) (are_legal-drop i (machine_start image) journal legal)

  state_on : (journal : List Entry) (i j : ℕ) → i ≤ j → state image parameters (take j journal) ≡ after image parameters (state image parameters (take i journal)) (between i j journal)
  unfolding state
  state_on journal i j before = ap (after image parameters (machine_start image)) (take_on journal i j before) ∙ after-append image parameters (machine_start image) (take i journal) (between i j journal)

  moments_on : (journal : List Entry) (i j : ℕ) → i ≤ j → moments image parameters (take j journal) ≡ moments image parameters (take i journal) ++ between i j (moments image parameters journal)
  moments_on journal i j before =
      sym (moments_take j journal) ∙ (take_on (moments image parameters journal) i j before
      ∙ ap (λ (run : List Moment). run ++ between i j (moments image parameters journal)) (moments_take i journal))

-- what a span of a legal journal moves goes over links between nodes that exist
pub moves_within : (image : Parts) (parameters : Parameters) (journal : List Entry) → IsLegal image parameters journal → (i j : ℕ) → i ≤ j
    → MovesAreWithin (node_count image) (flat_map moves_of (between i j (moments image parameters journal)))
moves_within image parameters journal legal i j before =
    subst (λ (run : List Moment). MovesAreWithin (node_count image) (flat_map moves_of run)) (sym (moments_between image parameters journal i j))
    (moves_below image parameters (state image parameters (take i journal)) (between i j journal)
    (state_aimed image parameters (take i journal) (legal_take image parameters i journal legal)) (legal_between image parameters journal i j legal))

-- ---- what is told

module _ (image : Parts) (run more : List Moment) where
  -- the turns of two runs, one behind the other
  contexts-append : contexts_of (flat_map (turn_at image) (run ++ more)) ≡ contexts_of (flat_map (turn_at image) run) ++ contexts_of (flat_map (turn_at image) more)
  contexts-append = simp (flat_map-append, map-append)

  words-append : words_printed (flat_map (turn_at image) (run ++ more)) ≡ words_printed (flat_map (turn_at image) run) ++ words_printed (flat_map (turn_at image) more)
  words-append = simp flat_map-append

  -- the counts of two runs, one behind the other
  counts-append : counts_of image (run ++ more) ≡ sum_of (counts_of image run) (counts_of image more)
  counts-append = simp (length-append, weigh-append)

  abbrev unused : Counts → Counts
  unused counts = record counts { used = 0 }

  -- what has been told so far and what a span tells are what both runs tell
  told_on : (walked : Walked) (span : Span) (later : Walked) → told_in walked ≡ unheld (told_of image run) → span.tally.told ≡ unheld (told_of image more) → IsWalkedOn walked span later
      → told_in later ≡ unheld (told_of image (run ++ more))
  told_on walked span later so_far told is =
      let turns = is.turns_are ∙ ((λ x. (so_far x).turns ++ (told x).turns) ∙ sym contexts-append) in
      let prints = is.prints_are ∙ ((λ x. (so_far x).prints ++ (told x).prints) ∙ sym words-append) in
      let counts = is.counts_are ∙ ((λ x. sum_of (so_far x).counts (told x).counts) ∙ sym (ap unused counts-append)) in
      λ x. record { turns = turns x; prints = prints x; counts = counts x; trap = None }

-- ---- what has been walked

-- with a span more, what has been walked goes on to where the span ends
pub walked_on : (image : Parts) (parameters : Parameters) (journal : List Entry) (i j : ℕ) (walked : Walked) (span : Span) (more : Walked) → IsLegal image parameters journal → i ≤ j → j ≤ length journal
    → IsWalkedTo image parameters journal i walked
    → span.journal ≡ between i j journal
    → span.moves.items ≡ flat_map moves_of (between i j (moments image parameters journal))
    → span.tally.told ≡ unheld (told_of image (between i j (moments image parameters journal)))
    → IsWalkedOn walked span more → IsWalkedTo image parameters journal j more
walked_on image parameters journal i j walked span more legal before within so_far entries moves told is =
    let s = state image parameters (take i journal) in
    let spanned = moves ∙ ap (flat_map moves_of) (moments_between image parameters journal i j) in
    let done = so_far.walked_is in
    record {
      entries_are = is.entries_are ∙ ((λ x. so_far.entries_are x ++ entries x) ∙ sym (take_on journal i j before));
      walked_is = record {
        nodes_are = is.nodes_are ∙ done.nodes_are;
        links_are = is.links_are ∙ ((λ x. links_moved (done.nodes_are x) (done.links_are x) (spanned x))
            ∙ (moves_all image parameters s (between i j journal) ∙ ap (λ (m : MachineState). m.links) (sym (state_on image parameters journal i j before))));
        told_is = told_on image (moments image parameters (take i journal)) (between i j (moments image parameters journal)) walked span more done.told_is told is
            ∙ ap (λ (run : List Moment). unheld (told_of image run)) (sym (moments_on image parameters journal i j before));
      };
    }

-- nothing has been walked at a journal's start
pub walked_begins : (image : Parts) (parameters : Parameters) (journal : List Entry) (walked : Walked) → WalkIsBegun (node_count image) walked → IsWalkedTo image parameters journal 0 walked
unfolding state moments
walked_begins image parameters journal walked begun = record {
  entries_are = begun.entries_are;
  walked_is = record {
    nodes_are = begun.nodes_are;
    links_are = begun.links_are;
    told_is = begun.told_is image;
  };
}

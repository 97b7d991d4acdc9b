-- What is told of misses after an event: totals with times more, misses of its own contexts, and the lines that the handler has.
use Rattle.std.proofs.Common.{◌≡◌, ◌≢◌, ◌<◌, ℕ, zero, suc, ◌+◌, ◌-◌, ◌*◌, ◌==◌, Bool, true, false, cond, Option, Some, None, List, [], ◌∷◌, ◌++◌, slice_index_or, refl, sym, ap, ◌∙◌, arith}
use Rattle.alw_num.specs.declared.addresses.LineNo.{LineNo}
use Rattle.alw_msg.specs.declared.messages.Kind.{Kind}
use Rattle.alw_msg.specs.declared.messages.Kind.TheVariants.{RREQ, WREQ, REPM, UPDATE, ACKC, RDATA, WDATA, INV, BUSY}
use Rattle.alw_msg.specs.declared.messages.Msg.{Msg}
use Rattle.alw_msg.specs.declared.events.Event.{Event}
use Rattle.alw_msg.specs.declared.events.Event.TheVariants.{Instr, Handle, Deliver, Evict}
use Rattle.alw_msg.specs.Events.{node_of}
use Rattle.alw_image.specs.declared.parts.Parts.{Parts}
use Rattle.alw_model.specs.declared.steps.Did.{Did}
use Rattle.alw_model.specs.declared.steps.Did.TheVariants.{Turn, Missed, Took, Packet, Handled, Evicted}
use Rattle.alw_model.specs.Messages.{home_node}
use Rattle.alw_times.specs.declared.costs.Costs.{Costs}
use Rattle.alw_times.specs.declared.happenings.TimedMoment.{TimedMoment}
use Rattle.alw_waits.specs.declared.totals.Total.{Total}
use Rattle.alw_waits.specs.declared.misses.Access.{Access}
use Rattle.alw_waits.specs.declared.misses.Miss.{Miss}
use Rattle.alw_waits.specs.declared.misses.EndedBy.{EndedBy}
use Rattle.alw_waits.specs.declared.misses.EndedBy.TheVariants.{Hardware, Handler, Refusal}
use Rattle.alw_waits.specs.declared.waits.Waited.{Waited}
use Rattle.alw_waits.specs.Waits.{WaitsSoFar, no_total, with_time, access_ended, first_of, missed, instr_told, wait_place, miss_ended, ended_slot, ended_below, ended_of, is_request, is_answer, request_traps, request_ends, answered, received, told_with}
use Rattle.law_times.proofs.Changes.{changed_all, changed_more, AllAt, all_more, all_and_all, read_apart}
use Rattle.law_times.proofs.Effects.{IsContextOf}
use Rattle.law_times.proofs.Apart.{contexts_apart}
use Rattle.law_times.proofs.Lines.{has, came, left, Apart, HaveSame, moved_same, moved_apart}
use Rattle.law_times.proofs.Shown.{DidFits, time_and_time}

-- ---- totals with times more, by place

-- times by their places, as changes
abbrev pub timings : List (ℕ × ℕ) → List (ℕ × (Total → Total))
timings [] = []
timings (time ∷ rest) = (time.0, λ total. with_time total time.1) ∷ timings rest

-- a time more at the end
pub timed_more : (times : List (ℕ × ℕ)) (totals : List Total) (p time : ℕ) →
    changed_all no_total (timings (times ++ (p, time) ∷ [])) totals ≡ changed_all no_total ((p, λ total. with_time total time) ∷ []) (changed_all no_total (timings times) totals)
timed_more [] totals p time = refl
timed_more (first ∷ rest) totals p time = timed_more rest (changed_all no_total ((first.0, λ total. with_time total first.1) ∷ []) totals) p time

-- ---- how a miss ends

-- by whether the handler had the request, and by the answer
abbrev pub ended_with : Bool → Kind → EndedBy
ended_with handled BUSY = Refusal
ended_with handled _ = cond handled Handler Hardware

-- it is by the lines of the node
pub ended_is : (waits : WaitsSoFar) (node : ℕ) (msg : Msg) → ended_of waits node msg ≡ ended_with (has waits.trapped node msg.line) msg.kind
ended_is waits node msg = go msg.kind refl
  where
    go : (kind : Kind) → msg.kind ≡ kind → ended_of waits node msg ≡ ended_with (has waits.trapped node msg.line) msg.kind
    go RREQ is = rw is refl
    go WREQ is = rw is refl
    go REPM is = rw is refl
    go UPDATE is = rw is refl
    go ACKC is = rw is refl
    go RDATA is = rw is refl
    go WDATA is = rw is refl
    go INV is = rw is refl
    go BUSY is = rw is refl

-- ---- the lines that come and leave

-- the line of a request that traps
abbrev pub came_of : ℕ → Did → Msg → Option (ℕ × LineNo)
came_of from Packet msg = cond (is_request msg.kind) (Some (from, msg.line)) None
came_of from _ msg = None

-- the line of an answer
abbrev pub left_of : ℕ → Msg → Option (ℕ × LineNo)
left_of to msg = cond (is_answer msg.kind) (Some (to, msg.line)) None

traps_are : (waits : WaitsSoFar) (from : ℕ) (msg : Msg) (did : Did) → request_traps waits from msg did ≡ record waits { trapped = came (came_of from did msg) waits.trapped }
traps_are waits from msg (Turn slot outcome) = refl
traps_are waits from msg (Missed slot) = refl
traps_are waits from msg Took = refl
traps_are waits from msg Packet = go (is_request msg.kind)
  where
    after : Bool → WaitsSoFar
    after b = record waits { trapped = came (cond b (Some (from, msg.line)) None) waits.trapped }

    go : (b : Bool) → cond b (after true) waits ≡ after b
    go true = refl
    go false = refl
traps_are waits from msg (Handled kind state) = refl
traps_are waits from msg Evicted = refl

lines_end : (waits : WaitsSoFar) (to : ℕ) (msg : Msg) → request_ends waits to msg ≡ record waits { trapped = left (left_of to msg) waits.trapped }
lines_end waits to msg = go (is_answer msg.kind)
  where
    after : Bool → WaitsSoFar
    after b = record waits { trapped = left (cond b (Some (to, msg.line)) None) waits.trapped }

    go : (b : Bool) → cond b (after true) waits ≡ after b
    go true = refl
    go false = refl

-- ---- misses that end

module _ (parts : Parts) (woken : List Bool) (node : ℕ) (ended : EndedBy) (finish : ℕ) where
  abbrev miss_time : Miss → ℕ × ℕ
  miss_time miss = (wait_place (home_node parts miss.access.line.0 == node) miss.access.mode ended, finish - miss.since)

  -- a time and a change more, where there is a miss
  abbrev more_times : Option Miss → List (ℕ × ℕ) → List (ℕ × ℕ)
  more_times None times = times
  more_times (Some miss) times = times ++ miss_time miss ∷ []

  abbrev more_gone : ℕ → Option Miss → List (ℕ × (Option Miss → Option Miss)) → List (ℕ × (Option Miss → Option Miss))
  more_gone place None changes = changes
  more_gone place (Some miss) changes = changes ++ (place, λ old. None) ∷ []

  -- the misses of the slots below a number that end, by the misses of all contexts
  abbrev pub end_times : ℕ → List (Option Miss) → List (ℕ × ℕ)
  end_times zero misses = []
  end_times (suc slot) misses = cond (slice_index_or woken slot false) (more_times (slice_index_or misses (node * parts.contexts + slot) None) (end_times slot misses)) (end_times slot misses)

  -- the misses that are no more
  abbrev pub gone : ℕ → List (Option Miss) → List (ℕ × (Option Miss → Option Miss))
  gone zero misses = []
  gone (suc slot) misses =
      cond (slice_index_or woken slot false) (more_gone (node * parts.contexts + slot) (slice_index_or misses (node * parts.contexts + slot) None) (gone slot misses)) (gone slot misses)

  -- they are of contexts of the node
  pub gone_at : (P : ℕ → Type 0) (count : ℕ) (misses : List (Option Miss)) → ((slot : ℕ) → slot < count → P (node * parts.contexts + slot)) → AllAt None P (gone count misses)
  gone_at P zero misses each = tt
  gone_at P (suc slot) misses each =
      go (slice_index_or woken slot false) (slice_index_or misses (node * parts.contexts + slot) None) (gone_at P slot misses (λ k less. each k (omega (arith, less))))
    where
      go : (flag : Bool) (miss : Option Miss) → AllAt None P (gone slot misses) → AllAt None P (cond flag (more_gone (node * parts.contexts + slot) miss (gone slot misses)) (gone slot misses))
      go false miss all = all
      go true None all = all
      go true (Some miss) all = all_more None P (gone slot misses) (node * parts.contexts + slot) (λ old. None) all (each slot (omega arith))

  abbrev with_ends : WaitsSoFar → List (ℕ × ℕ) → List (ℕ × (Option Miss → Option Miss)) → WaitsSoFar
  with_ends waits times changes = record waits { ends = changed_all no_total (timings times) waits.ends; misses = changed_all None changes waits.misses }

  one_ended : (waits : WaitsSoFar) (place : ℕ) (miss : Option Miss) (times : List (ℕ × ℕ)) (changes : List (ℕ × (Option Miss → Option Miss))) →
      miss_ended parts (with_ends waits times changes) node place ended finish miss ≡ with_ends waits (more_times miss times) (more_gone place miss changes)
  one_ended waits place None times changes = refl
  one_ended waits place (Some miss) times changes = λ x. record waits {
    ends = sym (timed_more times waits.ends (miss_time miss).0 (miss_time miss).1) x;
    misses = sym (changed_more None changes waits.misses place (λ old. None)) x;
  }

  -- the slots below a number end these
  pub below_are : (count : ℕ) (waits : WaitsSoFar) → ended_below parts woken node ended finish count waits ≡ with_ends waits (end_times count waits.misses) (gone count waits.misses)
  below_are zero waits = refl
  below_are (suc slot) waits =
      ap (ended_slot parts woken node ended finish slot) (below_are slot waits) ∙ go (slice_index_or woken slot false)
    where
      place : ℕ
      place = node * parts.contexts + slot

      before : WaitsSoFar
      before = with_ends waits (end_times slot waits.misses) (gone slot waits.misses)

      there : Option Miss
      there = slice_index_or waits.misses place None

      same : slice_index_or before.misses place None ≡ there
      same = read_apart None (λ q. (j : ℕ) × ((j < slot) × (q ≡ node * parts.contexts + j))) (gone slot waits.misses) waits.misses place
          (λ q (j, (less, is)) equal. absurd (omega (arith, less, is, equal)))
          (gone_at (λ q. (j : ℕ) × ((j < slot) × (q ≡ node * parts.contexts + j))) slot waits.misses (λ j less. (j, (less, refl))))

      go : (flag : Bool) → cond flag (miss_ended parts before node place ended finish (slice_index_or before.misses place None)) before
          ≡ with_ends waits (cond flag (more_times there (end_times slot waits.misses)) (end_times slot waits.misses)) (cond flag (more_gone place there (gone slot waits.misses)) (gone slot waits.misses))
      go false = refl
      go true = ap (miss_ended parts before node place ended finish) same ∙ one_ended waits place there (end_times slot waits.misses) (gone slot waits.misses)

  -- what is read of the misses of the node's contexts is all that matters
  more_same : (flag : Bool) (one other : Option Miss) (times more : List (ℕ × ℕ)) → one ≡ other → times ≡ more → cond flag (more_times one times) times ≡ cond flag (more_times other more) more
  more_same flag one other times more is same = λ x. cond flag (more_times (is x) (same x)) (same x)

  -- so are the times
  pub times_same : (count : ℕ) (one other : List (Option Miss)) →
      ((slot : ℕ) → slot < count → slice_index_or one (node * parts.contexts + slot) None ≡ slice_index_or other (node * parts.contexts + slot) None) → end_times count one ≡ end_times count other
  times_same zero one other each = refl
  times_same (suc slot) one other each =
      more_same (slice_index_or woken slot false) (slice_index_or one (node * parts.contexts + slot) None) (slice_index_or other (node * parts.contexts + slot) None)
      (end_times slot one) (end_times slot other) (each slot (omega arith)) (times_same slot one other (λ k less. each k (omega (arith, less))))

  -- and the misses that are no more
  pub gone_same : (count : ℕ) (one other : List (Option Miss)) →
      ((slot : ℕ) → slot < count → slice_index_or one (node * parts.contexts + slot) None ≡ slice_index_or other (node * parts.contexts + slot) None) → gone count one ≡ gone count other
  gone_same zero one other each = refl
  gone_same (suc slot) one other each =
      let place = node * parts.contexts + slot in
      let same = gone_same slot one other (λ k less. each k (omega (arith, less))) in
      let is = each slot (omega arith) in
      λ x. cond (slice_index_or woken slot false) (more_gone place (is x) (same x)) (same x)

  -- where no slot is woken, no miss ends
  pub times_none : (count : ℕ) (misses : List (Option Miss)) → ((slot : ℕ) → slice_index_or woken slot false ≡ false) → end_times count misses ≡ []
  times_none zero misses quiet = refl
  times_none (suc slot) misses quiet =
      ap (λ (flag : Bool). cond flag (more_times (slice_index_or misses (node * parts.contexts + slot) None) (end_times slot misses)) (end_times slot misses)) (quiet slot)
      ∙ times_none slot misses quiet

  -- and none is gone
  pub gone_none : (count : ℕ) (misses : List (Option Miss)) → ((slot : ℕ) → slice_index_or woken slot false ≡ false) → gone count misses ≡ []
  gone_none zero misses quiet = refl
  gone_none (suc slot) misses quiet =
      let place = node * parts.contexts + slot in
      ap (λ (flag : Bool). cond flag (more_gone place (slice_index_or misses place None) (gone slot misses)) (gone slot misses)) (quiet slot) ∙ gone_none slot misses quiet

-- a time more in a total
put_time : List Total → ℕ → ℕ → List Total
put_time totals p time = changed_all no_total ((p, λ total. with_time total time) ∷ []) totals

put_and_put : (totals : List Total) (p time q other : ℕ) → put_time (put_time totals p time) q other ≡ put_time (put_time totals q other) p time
unfolding put_time
put_and_put [] p time q other = refl
put_and_put (t ∷ ts) zero time zero other = λ x. time_and_time t time other x ∷ ts
put_and_put (t ∷ ts) zero time (suc q) other = refl
put_and_put (t ∷ ts) (suc p) time zero other = refl
put_and_put (t ∷ ts) (suc p) time (suc q) other = λ x. t ∷ put_and_put ts p time q other x

put_and_all : (times : List (ℕ × ℕ)) (totals : List Total) (p time : ℕ) → changed_all no_total (timings times) (put_time totals p time) ≡ put_time (changed_all no_total (timings times) totals) p time
unfolding put_time
put_and_all [] totals p time = refl
put_and_all (first ∷ rest) totals p time =
    ap (changed_all no_total (timings rest)) (put_and_put totals p time first.0 first.1) ∙ put_and_all rest (put_time totals first.0 first.1) p time

-- times in either order
pub timings_both : (one other : List (ℕ × ℕ)) (totals : List Total) →
    changed_all no_total (timings other) (changed_all no_total (timings one) totals) ≡ changed_all no_total (timings one) (changed_all no_total (timings other) totals)
unfolding put_time
timings_both one [] totals = refl
timings_both one (first ∷ rest) totals =
    ap (changed_all no_total (timings rest)) (sym (put_and_all one totals first.0 first.1)) ∙ timings_both one rest (put_time totals first.0 first.1)

-- ---- an event

-- what is told of misses
pub record Missing : Type 0 where
  pub ends : List Total
  pub misses : List (Option Miss)
  pub trapped : List (List LineNo)

-- it, of all that is told
abbrev pub missing : WaitsSoFar → Missing
missing waits = record { ends = waits.ends; misses = waits.misses; trapped = waits.trapped }

-- the lines that come and leave by an event
abbrev pub coming : Event → Did → Option Msg → Option (ℕ × LineNo)
coming (Deliver from to) did (Some msg) = came_of from.0 did msg
coming (Deliver from to) did None = None
coming (Instr at) did taken = None
coming (Handle at) did taken = None
coming (Evict at set) did taken = None

-- the line that leaves
abbrev pub leaving : Event → Option Msg → Option (ℕ × LineNo)
leaving (Deliver from to) (Some msg) = left_of to.0 msg
leaving (Deliver from to) None = None
leaving (Instr at) taken = None
leaving (Handle at) taken = None
leaving (Evict at set) taken = None

-- how it ends misses, by the lines before it
abbrev pub ending : Event → Did → Option Msg → List (List LineNo) → EndedBy
ending (Deliver from to) did (Some msg) trapped = ended_with (has (came (came_of from.0 did msg) trapped) to.0 msg.line) msg.kind
ending (Deliver from to) did None trapped = Hardware
ending (Instr at) did taken trapped = Hardware
ending (Handle at) did taken trapped = Hardware
ending (Evict at set) did taken trapped = Hardware

module _ (parts : Parts) where
  abbrev taken_times : ℕ → List Bool → Option Msg → EndedBy → ℕ → List (Option Miss) → List (ℕ × ℕ)
  taken_times to woken None ended finish misses = []
  taken_times to woken (Some msg) ended finish misses = end_times parts woken to ended finish parts.contexts misses

  abbrev taken_gone : ℕ → List Bool → Option Msg → EndedBy → ℕ → List (Option Miss) → List (ℕ × (Option Miss → Option Miss))
  taken_gone to woken None ended finish misses = []
  taken_gone to woken (Some msg) ended finish misses = gone parts woken to ended finish parts.contexts misses

  abbrev begun_miss : ℕ → ℕ → Option Access → List (ℕ × (Option Miss → Option Miss))
  begun_miss context start None = []
  begun_miss context start (Some access) = (context, λ old. Some (record { since = start; access = access })) ∷ []

  abbrev instr_misses : ℕ → Did → Waited → List (ℕ × (Option Miss → Option Miss))
  instr_misses at (Missed slot) told = begun_miss (at * parts.contexts + slot) told.span.start told.asked
  instr_misses at _ told = []

  -- the times of misses that an event ends
  abbrev pub event_times : Event → List Bool → Waited → EndedBy → List (Option Miss) → List (ℕ × ℕ)
  event_times (Deliver from to) woken told ended misses = taken_times to.0 woken told.taken ended told.span.finish misses
  event_times (Instr at) woken told ended misses = []
  event_times (Handle at) woken told ended misses = []
  event_times (Evict at set) woken told ended misses = []

  -- what an event changes of misses
  abbrev pub event_misses : Event → Did → List Bool → Waited → EndedBy → List (Option Miss) → List (ℕ × (Option Miss → Option Miss))
  event_misses (Deliver from to) did woken told ended misses = taken_gone to.0 woken told.taken ended told.span.finish misses
  event_misses (Instr at) did woken told ended misses = instr_misses at.0 did told
  event_misses (Handle at) did woken told ended misses = []
  event_misses (Evict at set) did woken told ended misses = []

  -- what is told of misses once an event has happened
  abbrev pub missing_after : Event → Did → List Bool → Waited → EndedBy → List (Option Miss) → Missing → Missing
  missing_after event did woken told ended misses m = record {
    ends = changed_all no_total (timings (event_times event woken told ended misses)) m.ends;
    misses = changed_all None (event_misses event did woken told ended misses) m.misses;
    trapped = left (leaving event told.taken) (came (coming event did told.taken) m.trapped);
  }

  -- with what it reads of it
  abbrev pub missing_by : Event → Did → List Bool → Waited → Missing → Missing
  missing_by event did woken told m = missing_after event did woken told (ending event did told.taken m.trapped) m.misses m

  received_missing : (waits : WaitsSoFar) (from to : ℕ) (happened : TimedMoment) (finish : ℕ) (msg : Msg) →
      let ended = ended_with (has (came (came_of from happened.did msg) waits.trapped) to msg.line) msg.kind in
      missing (received parts waits from to happened finish (Some msg)) ≡ record {
        ends = changed_all no_total (timings (end_times parts happened.woken to ended finish parts.contexts waits.misses)) waits.ends;
        misses = changed_all None (gone parts happened.woken to ended finish parts.contexts waits.misses) waits.misses;
        trapped = left (left_of to msg) (came (came_of from happened.did msg) waits.trapped);
      }
  received_missing waits from to happened finish msg =
      let woken = happened.woken in
      let then : WaitsSoFar = record waits { trapped = came (came_of from happened.did msg) waits.trapped } in
      let ended = ended_with (has then.trapped to msg.line) msg.kind in
      ap (λ (w : WaitsSoFar). missing (answered parts w to woken finish msg)) (traps_are waits from msg happened.did)
      ∙ (ap (λ (e : EndedBy). missing (request_ends (ended_below parts woken to e finish parts.contexts then) to msg)) (ended_is then to msg)
      ∙ (ap (λ (w : WaitsSoFar). missing (request_ends w to msg)) (below_are parts woken to ended finish parts.contexts then)
      ∙ ap missing (lines_end _ to msg)))

  module _ (costs : Costs) where
    turn_missing : (waits : WaitsSoFar) (context start : ℕ) (first : Option ℕ) → missing (access_ended waits context start first) ≡ missing waits
    turn_missing waits context start None = refl
    turn_missing waits context start (Some first) = refl

    missed_missing : (waits : WaitsSoFar) (context start : ℕ) (asked : Option Access) →
        missing (missed waits context start asked) ≡ record { ends = waits.ends; misses = changed_all None (begun_miss context start asked) waits.misses; trapped = waits.trapped }
    missed_missing waits context start None = refl
    missed_missing waits context start (Some access) = refl

    instr_missing : (waits : WaitsSoFar) (at cost : ℕ) (did : Did) (told : Waited) →
        missing (instr_told parts costs waits at did told cost) ≡ record { ends = waits.ends; misses = changed_all None (instr_misses at did told) waits.misses; trapped = waits.trapped }
    instr_missing waits at cost (Turn slot outcome) told = turn_missing waits (at * parts.contexts + slot) told.span.start (first_of waits (at * parts.contexts + slot))
    instr_missing waits at cost (Missed slot) told = missed_missing waits (at * parts.contexts + slot) told.span.start told.asked
    instr_missing waits at cost Took told = refl
    instr_missing waits at cost Packet told = refl
    instr_missing waits at cost (Handled kind state) told = refl
    instr_missing waits at cost Evicted told = refl

    -- an event tells so
    pub told_missing : (waits : WaitsSoFar) (happened : TimedMoment) (told : Waited) (cost : ℕ) (event : Event) →
        missing (told_with parts costs waits happened told cost event) ≡ missing_by event happened.did happened.woken told (missing waits)
    told_missing waits happened told cost (Instr at) = instr_missing waits at.0 cost happened.did told
    told_missing waits happened told cost (Handle at) = refl
    told_missing waits happened told cost (Deliver from to) = go told.taken
      where
        queued : WaitsSoFar
        queued = record waits { queued = with_time waits.queued (told.span.start - told.arrival) }

        go : (taken : Option Msg) → missing (received parts queued from.0 to.0 happened told.span.finish taken)
            ≡ missing_by (Deliver from to) happened.did happened.woken (record told { taken = taken }) (missing waits)
        go None = refl
        go (Some msg) = received_missing queued from.0 to.0 happened told.span.finish msg
    told_missing waits happened told cost (Evict at set) = refl

-- ---- what is alike

-- the same totals and misses, and lists with the same lines
pub record AreAlike (one other : Missing) : Type 0 where
  pub ends : one.ends ≡ other.ends
  pub misses : one.misses ≡ other.misses
  pub trapped : HaveSame one.trapped other.trapped

-- the other way round
pub alike_back : (one other : Missing) → AreAlike one other → AreAlike other one
alike_back one other are = record {
  ends = sym are.ends;
  misses = sym are.misses;
  trapped = record { long = sym are.trapped.long; lines = λ node line. sym (are.trapped.lines node line) };
}

-- one after the other
pub alike_then : (one two three : Missing) → AreAlike one two → AreAlike two three → AreAlike one three
alike_then one two three are also = record {
  ends = are.ends ∙ also.ends;
  misses = are.misses ∙ also.misses;
  trapped = record { long = are.trapped.long ∙ also.trapped.long; lines = λ node line. are.trapped.lines node line ∙ also.trapped.lines node line };
}

ending_same : (event : Event) (did : Did) (taken : Option Msg) (one other : List (List LineNo)) → HaveSame one other → ending event did taken one ≡ ending event did taken other
ending_same (Deliver from to) did (Some msg) one other same =
    ap (λ (b : Bool). ended_with b msg.kind) ((moved_same (came_of from.0 did msg) None one other same).lines to.0 msg.line)
ending_same (Deliver from to) did None one other same = refl
ending_same (Instr at) did taken one other same = refl
ending_same (Handle at) did taken one other same = refl
ending_same (Evict at set) did taken one other same = refl

module _ (parts : Parts) where
  -- an event goes on alike
  pub missing_on : (event : Event) (did : Did) (woken : List Bool) (told : Waited) (one other : Missing) → AreAlike one other →
      AreAlike (missing_by parts event did woken told one) (missing_by parts event did woken told other)
  missing_on event did woken told one other are =
      let same = ending_same event did told.taken one.trapped other.trapped are.trapped in
      record {
        ends = λ x. changed_all no_total (timings (event_times parts event woken told (same x) (are.misses x))) (are.ends x);
        misses = λ x. changed_all None (event_misses parts event did woken told (same x) (are.misses x)) (are.misses x);
        trapped = moved_same (coming event did told.taken) (leaving event told.taken) one.trapped other.trapped are.trapped;
      }

  -- ---- two events

  misses_at : (event : Event) (did : Did) (woken : List Bool) (told : Waited) (ended : EndedBy) (misses : List (Option Miss)) → DidFits parts event did →
      AllAt None (IsContextOf parts (node_of event)) (event_misses parts event did woken told ended misses)
  misses_at (Instr at) (Missed slot) woken told ended misses fits = begun told.asked
    where
      begun : (asked : Option Access) → AllAt None (IsContextOf parts at.0) (begun_miss parts (at.0 * parts.contexts + slot) told.span.start asked)
      begun None = tt
      begun (Some access) = ((slot, (fits, refl)), tt)
  misses_at (Instr at) (Turn slot outcome) woken told ended misses fits = tt
  misses_at (Instr at) Took woken told ended misses fits = tt
  misses_at (Instr at) Packet woken told ended misses fits = tt
  misses_at (Instr at) (Handled kind state) woken told ended misses fits = tt
  misses_at (Instr at) Evicted woken told ended misses fits = tt
  misses_at (Handle at) did woken told ended misses fits = tt
  misses_at (Evict at set) did woken told ended misses fits = tt
  misses_at (Deliver from to) did woken told ended misses fits = taken told.taken
    where
      taken : (o : Option Msg) → AllAt None (IsContextOf parts to.0) (taken_gone parts to.0 woken o ended told.span.finish misses)
      taken None = tt
      taken (Some msg) = gone_at parts woken to.0 ended told.span.finish (IsContextOf parts to.0) parts.contexts misses (λ slot less. (slot, (less, refl)))

  -- an event ends misses alike: by the same, or none
  pub data EndAlike (woken : List Bool) (one other : EndedBy) : Type 0 where
    none : ((slot : ℕ) → slice_index_or woken slot false ≡ false) → EndAlike woken one other
    same : one ≡ other → EndAlike woken one other

  abbrev ReadAlike : ℕ → List (Option Miss) → List (Option Miss) → Type 0
  ReadAlike node one other = (slot : ℕ) → slot < parts.contexts → slice_index_or one (node * parts.contexts + slot) None ≡ slice_index_or other (node * parts.contexts + slot) None

  taken_alike : (to : ℕ) (woken : List Bool) (taken : Option Msg) (finish : ℕ) (ended other : EndedBy) (one two : List (Option Miss)) → ReadAlike to one two → EndAlike woken ended other →
      taken_times parts to woken taken ended finish one ≡ taken_times parts to woken taken other finish two
  taken_alike to woken None finish ended other one two read alike = refl
  taken_alike to woken (Some msg) finish ended other one two read (none quiet) =
      times_none parts woken to ended finish parts.contexts one quiet ∙ sym (times_none parts woken to other finish parts.contexts two quiet)
  taken_alike to woken (Some msg) finish ended other one two read (same is) =
      ap (λ (e : EndedBy). end_times parts woken to e finish parts.contexts one) is ∙ times_same parts woken to other finish parts.contexts one two read

  gone_alike : (to : ℕ) (woken : List Bool) (taken : Option Msg) (finish : ℕ) (ended other : EndedBy) (one two : List (Option Miss)) → ReadAlike to one two → EndAlike woken ended other →
      taken_gone parts to woken taken ended finish one ≡ taken_gone parts to woken taken other finish two
  gone_alike to woken None finish ended other one two read alike = refl
  gone_alike to woken (Some msg) finish ended other one two read (none quiet) =
      gone_none parts woken to ended finish parts.contexts one quiet ∙ sym (gone_none parts woken to other finish parts.contexts two quiet)
  gone_alike to woken (Some msg) finish ended other one two read (same is) =
      ap (λ (e : EndedBy). gone parts woken to e finish parts.contexts one) is ∙ gone_same parts woken to other finish parts.contexts one two read

  times_alike : (event : Event) (woken : List Bool) (told : Waited) (ended other : EndedBy) (one two : List (Option Miss)) → ReadAlike (node_of event) one two → EndAlike woken ended other →
      event_times parts event woken told ended one ≡ event_times parts event woken told other two
  times_alike (Instr at) woken told ended other one two read alike = refl
  times_alike (Handle at) woken told ended other one two read alike = refl
  times_alike (Evict at set) woken told ended other one two read alike = refl
  times_alike (Deliver from to) woken told ended other one two read alike = taken_alike to.0 woken told.taken told.span.finish ended other one two read alike

  misses_alike : (event : Event) (did : Did) (woken : List Bool) (told : Waited) (ended other : EndedBy) (one two : List (Option Miss)) → ReadAlike (node_of event) one two → EndAlike woken ended other →
      event_misses parts event did woken told ended one ≡ event_misses parts event did woken told other two
  misses_alike (Instr at) did woken told ended other one two read alike = refl
  misses_alike (Handle at) did woken told ended other one two read alike = refl
  misses_alike (Evict at set) did woken told ended other one two read alike = refl
  misses_alike (Deliver from to) did woken told ended other one two read alike = gone_alike to.0 woken told.taken told.span.finish ended other one two read alike

  -- what two events are, and what they tell
  pub record Telling : Type 0 where
    pub event : Event
    pub did : Did
    pub woken : List Bool
    pub told : Waited

  -- what is told then
  abbrev pub tell : Telling → Missing → Missing
  tell t m = missing_by parts t.event t.did t.woken t.told m

  -- how it ends misses
  abbrev pub ends_of : Telling → Missing → EndedBy
  ends_of t m = ending t.event t.did t.told.taken m.trapped

  -- two events of different nodes, of which one ends misses alike behind the other
  pub record AreApart (e f : Telling) (m : Missing) : Type 0 where
    pub nodes : node_of f.event ≢ node_of e.event
    pub first : DidFits parts e.event e.did
    pub second : DidFits parts f.event f.did
    pub leaves : Apart (coming e.event e.did e.told.taken) (leaving f.event f.told.taken)
    pub comes : Apart (coming f.event f.did f.told.taken) (leaving e.event e.told.taken)
    pub ends : EndAlike f.woken (ends_of f (tell e m)) (ends_of f m)
    pub back : EndAlike e.woken (ends_of e (tell f m)) (ends_of e m)

  module _ (e f : Telling) (m : Missing) (are : AreApart e f m) where
    read_behind : ReadAlike (node_of f.event) (tell e m).misses m.misses
    read_behind slot less =
        read_apart None (IsContextOf parts (node_of e.event)) (event_misses parts e.event e.did e.woken e.told (ends_of e m) m.misses) m.misses (node_of f.event * parts.contexts + slot)
        (λ q is. contexts_apart parts (node_of f.event) (node_of e.event) are.nodes (node_of f.event * parts.contexts + slot) q (slot, (less, refl)) is)
        (misses_at e.event e.did e.woken e.told (ends_of e m) m.misses are.first)

    -- the later one does what it would do first
    second_alone : tell f (tell e m) ≡ missing_after parts f.event f.did f.woken f.told (ends_of f m) m.misses (tell e m)
    second_alone =
        let times = times_alike f.event f.woken f.told (ends_of f (tell e m)) (ends_of f m) (tell e m).misses m.misses read_behind are.ends in
        let misses = misses_alike f.event f.did f.woken f.told (ends_of f (tell e m)) (ends_of f m) (tell e m).misses m.misses read_behind are.ends in
        λ x. record {
          ends = changed_all no_total (timings (times x)) (tell e m).ends;
          misses = changed_all None (misses x) (tell e m).misses;
          trapped = left (leaving f.event f.told.taken) (came (coming f.event f.did f.told.taken) (tell e m).trapped);
        }

  -- two events in either order
  pub tell_apart : (e f : Telling) (m : Missing) → AreApart e f m → AreAlike (tell f (tell e m)) (tell e (tell f m))
  tell_apart e f m are =
      let back : AreApart f e m = record { nodes = λ same. are.nodes (sym same); first = are.second; second = are.first; leaves = are.comes; comes = are.leaves; ends = are.back; back = are.ends } in
      let one = second_alone e f m are in
      let other = second_alone f e m back in
      record {
        ends = ap (λ (n : Missing). n.ends) one
            ∙ (timings_both (event_times parts e.event e.woken e.told (ends_of e m) m.misses) (event_times parts f.event f.woken f.told (ends_of f m) m.misses) m.ends
            ∙ sym (ap (λ (n : Missing). n.ends) other));
        misses = ap (λ (n : Missing). n.misses) one
            ∙ (all_and_all None (IsContextOf parts (node_of e.event)) (IsContextOf parts (node_of f.event))
            (event_misses parts e.event e.did e.woken e.told (ends_of e m) m.misses) (event_misses parts f.event f.did f.woken f.told (ends_of f m) m.misses) m.misses
            (contexts_apart parts (node_of e.event) (node_of f.event) back.nodes)
            (misses_at e.event e.did e.woken e.told (ends_of e m) m.misses are.first) (misses_at f.event f.did f.woken f.told (ends_of f m) m.misses are.second)
            ∙ sym (ap (λ (n : Missing). n.misses) other));
        trapped = moved_apart (coming e.event e.did e.told.taken) (leaving e.event e.told.taken) (coming f.event f.did f.told.taken) (leaving f.event f.told.taken) m.trapped are.leaves are.comes;
      }

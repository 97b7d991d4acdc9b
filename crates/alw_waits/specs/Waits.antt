-- What a run's times tell: how long accesses, misses and messages waited, and what the cycles of each node went to. A fold over its moments, beside its times.
use Rattle.std.specs.Prelude.{ℕ, zero, suc, ◌+◌, ◌*◌, ◌-◌, ◌==◌, not, Bool, true, false, cond, max, Option, Some, None, List, [], ◌∷◌, ◌++◌, filter, replicate, slice_index_or, slice_set, unwrap_or}
use Rattle.std.specs.List.{list_any}
use Rattle.alw_num.specs.declared.addresses.LineNo.{LineNo}
use Rattle.alw_num.specs.declared.states.Mode.{Mode}
use Rattle.alw_num.specs.declared.states.Mode.TheVariants.{Read, Write}
use Rattle.sparc_table.specs.declared.outcomes.Need.{Need}
use Rattle.sparc_table.specs.declared.outcomes.Need.TheVariants as needs
use Rattle.sparc_table.specs.Turns.{need_of}
use Rattle.alw_msg.specs.declared.messages.Kind.{Kind}
use Rattle.alw_msg.specs.declared.messages.Kind.TheVariants.{RREQ, WREQ, RDATA, WDATA, BUSY}
use Rattle.alw_msg.specs.declared.messages.Msg.{Msg}
use Rattle.alw_msg.specs.declared.events.Event.{Event}
use Rattle.alw_msg.specs.declared.events.Event.TheVariants.{Instr, Handle, Deliver, Evict}
use Rattle.alw_msg.specs.declared.events.Entry.{Entry}
use Rattle.alw_image.specs.declared.parts.Parts.{Parts}
use Rattle.alw_image.specs.Images.{node_count, context_count, line_count}
use Rattle.alw_image.specs.Parameters.{Parameters}
use Rattle.alw_model.specs.declared.steps.Did.{Did}
use Rattle.alw_model.specs.declared.steps.Did.TheVariants.{Turn, Missed, Packet}
use Rattle.alw_model.specs.Contexts.{slot_at, running}
use Rattle.alw_model.specs.Messages.{home_node}
use Rattle.alw_model.specs.Runs.{Moment, moments}
use Rattle.alw_times.specs.declared.costs.Costs.{Costs}
use Rattle.alw_times.specs.declared.happenings.Span.{Span}
use Rattle.alw_times.specs.declared.happenings.TimedMoment.{TimedMoment}
use Rattle.alw_times.specs.Happening.{happened_of}
use Rattle.alw_times.specs.Laws.{start_in, finish_in}
use Rattle.alw_times.specs.Times.{Times, arrival_of, times_start, timed}
use Rattle.alw_waits.specs.declared.totals.Total.{Total}
use Rattle.alw_waits.specs.declared.totals.Spent.{Spent}
use Rattle.alw_waits.specs.declared.misses.Access.{Access}
use Rattle.alw_waits.specs.declared.misses.Miss.{Miss}
use Rattle.alw_waits.specs.declared.misses.EndedBy.{EndedBy}
use Rattle.alw_waits.specs.declared.misses.EndedBy.TheVariants.{Hardware, Handler, Refusal}
use Rattle.alw_waits.specs.declared.waits.Waited.{Waited}

-- ---- totals

abbrev pub no_total : Total
no_total = record { count = 0; sum = 0; most = 0 }

-- a time more
abbrev pub with_time : Total → ℕ → Total
with_time total time = record { count = total.count + 1; sum = total.sum + time; most = max total.most time }

-- ---- what a node spends

abbrev pub nothing_spent : Spent
nothing_spent = record { turns = 0; misses = 0; switches = 0; handlers = 0; controller = 0 }

-- a turn or a miss, and what it cost to switch to it; an action of the handler, before it acts and behind; the controller
abbrev pub with_turn : Spent → ℕ → ℕ → Spent
with_turn spent turn switch = record spent { turns = spent.turns + turn; switches = spent.switches + switch }

abbrev pub with_miss : Spent → ℕ → ℕ → Spent
with_miss spent miss switch = record spent { misses = spent.misses + miss; switches = spent.switches + switch }

abbrev pub with_handler : Spent → ℕ → ℕ → Spent
with_handler spent before behind = record spent { handlers = spent.handlers + before + behind }

abbrev pub with_controller : Spent → ℕ → Spent
with_controller spent cost = record spent { controller = spent.controller + cost }

-- ---- what waited so far

-- Of misses that have ended a total for each way to end; of accesses that have ended and of deliveries one; what each node spent; of each context when its access
-- missed first, where one is under way, and the miss that it waits for; of each node the lines of its requests that the handler has got.
pub record WaitsSoFar : Type 0 where
  pub ends : List Total
  pub accesses : Total
  pub queued : Total
  pub spent : List Spent
  pub firsts : List (Option ℕ)
  pub misses : List (Option Miss)
  pub trapped : List (List LineNo)

abbrev pub waits_start : Parts → WaitsSoFar
waits_start parts = record {
  ends = replicate 12 no_total;
  accesses = no_total;
  queued = no_total;
  spent = replicate (node_count parts) nothing_spent;
  firsts = replicate (context_count parts) None;
  misses = replicate (context_count parts) None;
  trapped = replicate (node_count parts) [];
}

-- what a node spent
abbrev pub spent_at : WaitsSoFar → ℕ → Spent
spent_at waits node = slice_index_or waits.spent node nothing_spent

abbrev pub with_spent : WaitsSoFar → ℕ → Spent → WaitsSoFar
with_spent waits node spent = record waits { spent = slice_set waits.spent node spent }

-- ---- instructions

abbrev pub first_of : WaitsSoFar → ℕ → Option ℕ
first_of waits context = slice_index_or waits.firsts context None

-- a turn ends the access of its context, where one is under way
abbrev pub access_ended : WaitsSoFar → ℕ → ℕ → Option ℕ → WaitsSoFar
access_ended waits context start None = waits
access_ended waits context start (Some first) = record waits { accesses = with_time waits.accesses (start - first); firsts = slice_set waits.firsts context None }

abbrev pub turned : WaitsSoFar → ℕ → ℕ → WaitsSoFar
turned waits context start = access_ended waits context start (first_of waits context)

-- a miss begins, and with it an access, where none is under way
abbrev pub missed : WaitsSoFar → ℕ → ℕ → Option Access → WaitsSoFar
missed waits context start None = waits
missed waits context start (Some access) = record waits {
  firsts = slice_set waits.firsts context (Some (unwrap_or (first_of waits context) start));
  misses = slice_set waits.misses context (Some (record { since = start; access = access }));
}

-- an instruction of a node costs `hit`, and what it costs more is a switch
abbrev pub instr_told : Parts → Costs → WaitsSoFar → ℕ → Did → Waited → ℕ → WaitsSoFar
instr_told parts costs waits at (Turn slot outcome) told cost =
    with_spent (turned waits (at * parts.contexts + slot) told.span.start) at (with_turn (spent_at waits at) costs.hit (cost - costs.hit))
instr_told parts costs waits at (Missed slot) told cost =
    with_spent (missed waits (at * parts.contexts + slot) told.span.start told.asked) at (with_miss (spent_at waits at) costs.hit (cost - costs.hit))
instr_told parts costs waits at _ told cost = waits

-- ---- which way a miss ended: its place among twelve, by home, mode and end

abbrev pub mode_place : Mode → ℕ
mode_place Read = 0
mode_place Write = 3

abbrev pub end_place : EndedBy → ℕ
end_place Hardware = 0
end_place Handler = 1
end_place Refusal = 2

abbrev pub wait_place : Bool → Mode → EndedBy → ℕ
wait_place is_here mode ended = cond is_here 0 6 + (mode_place mode + end_place ended)

-- the total of misses that ended so
abbrev pub ends_at : WaitsSoFar → Bool → Mode → EndedBy → Total
ends_at waits is_here mode ended = slice_index_or waits.ends (wait_place is_here mode ended) no_total

-- the miss of a context ends
abbrev pub miss_ended : Parts → WaitsSoFar → ℕ → ℕ → EndedBy → ℕ → Option Miss → WaitsSoFar
miss_ended parts waits node context ended finish None = waits
miss_ended parts waits node context ended finish (Some miss) =
    let place = wait_place (home_node parts miss.access.line.0 == node) miss.access.mode ended in
    record waits {
      ends = slice_set waits.ends place (with_time (slice_index_or waits.ends place no_total) (finish - miss.since));
      misses = slice_set waits.misses context None;
    }

abbrev pub ended_at : Parts → WaitsSoFar → ℕ → ℕ → EndedBy → ℕ → WaitsSoFar
ended_at parts waits node context ended finish = miss_ended parts waits node context ended finish (slice_index_or waits.misses context None)

abbrev pub ended_slot : Parts → List Bool → ℕ → EndedBy → ℕ → ℕ → WaitsSoFar → WaitsSoFar
ended_slot parts woken node ended finish slot waits =
    cond (slice_index_or woken slot false) (ended_at parts waits node (node * parts.contexts + slot) ended finish) waits

-- the misses of the slots below a number end that are woken
abbrev pub ended_below : Parts → List Bool → ℕ → EndedBy → ℕ → ℕ → WaitsSoFar → WaitsSoFar
ended_below parts woken node ended finish zero waits = waits
ended_below parts woken node ended finish (suc slot) waits = ended_slot parts woken node ended finish slot (ended_below parts woken node ended finish slot waits)

-- ---- messages

abbrev pub requests_at : List (List LineNo) → ℕ → List LineNo
requests_at trapped node = slice_index_or trapped node []

abbrev pub is_line : LineNo → LineNo → Bool
is_line one other = one.0 == other.0

abbrev pub is_request : Kind → Bool
is_request RREQ = true
is_request WREQ = true
is_request _ = false

abbrev pub is_answer : Kind → Bool
is_answer RDATA = true
is_answer WDATA = true
is_answer BUSY = true
is_answer _ = false

-- by what an answer ends a miss: whether the handler had the request is of the node that asked and of the line
abbrev pub ended_of : WaitsSoFar → ℕ → Msg → EndedBy
ended_of waits node msg = by msg.kind
  where
    by : Kind → EndedBy
    by BUSY = Refusal
    by _ = cond (list_any (is_line msg.line) (requests_at waits.trapped node)) Handler Hardware

-- the handler gets a request; an answer ends those of its line
abbrev pub request_traps : WaitsSoFar → ℕ → Msg → Did → WaitsSoFar
request_traps waits from msg Packet = cond (is_request msg.kind) (record waits { trapped = slice_set waits.trapped from (requests_at waits.trapped from ++ msg.line ∷ []) }) waits
request_traps waits from msg _ = waits

abbrev pub request_ends : WaitsSoFar → ℕ → Msg → WaitsSoFar
request_ends waits node msg =
    cond (is_answer msg.kind) (record waits { trapped = slice_set waits.trapped node (filter (λ line. not (is_line msg.line line)) (requests_at waits.trapped node)) }) waits

-- a message that a delivery takes: a request that traps, or an answer, which ends the misses of the slots that it wakes
abbrev pub answered : Parts → WaitsSoFar → ℕ → List Bool → ℕ → Msg → WaitsSoFar
answered parts waits to woken finish msg = request_ends (ended_below parts woken to (ended_of waits to msg) finish parts.contexts waits) to msg

abbrev pub received : Parts → WaitsSoFar → ℕ → ℕ → TimedMoment → ℕ → Option Msg → WaitsSoFar
received parts waits from to happened finish None = waits
received parts waits from to happened finish (Some msg) = answered parts (request_traps waits from msg happened.did) to happened.woken finish msg

-- ---- all of it

abbrev pub controller_kept : WaitsSoFar → ℕ → ℕ → WaitsSoFar
controller_kept waits node cost = with_spent waits node (with_controller (spent_at waits node) cost)

-- what waits and is spent once an event has happened
abbrev pub told_with : Parts → Costs → WaitsSoFar → TimedMoment → Waited → ℕ → Event → WaitsSoFar
told_with parts costs waits happened told cost (Instr at) = instr_told parts costs waits at.0 happened.did told cost
told_with parts costs waits happened told cost (Handle at) = with_spent waits at.0 (with_handler (spent_at waits at.0) costs.trap cost)
told_with parts costs waits happened told cost (Deliver from to) =
    controller_kept (received parts (record waits { queued = with_time waits.queued (told.span.start - told.arrival) }) from.0 to.0 happened told.span.finish told.taken) to.0 cost
told_with parts costs waits happened told cost (Evict at set) = controller_kept waits at.0 cost

abbrev pub told_by : Parts → Costs → WaitsSoFar → TimedMoment → Waited → Event → WaitsSoFar
told_by parts costs waits happened told event = told_with parts costs waits happened told (told.span.finish - told.span.start) event

-- ---- over a run, beside its times

-- the access that an instruction asks for
abbrev pub access_in : Need → Option Access
access_in (needs.Copy line mode) = Some (record { line = line; mode = mode })
access_in _ = None

abbrev pub asked_by : Parts → Moment → Option ℕ → Option Access
asked_by parts moment None = None
asked_by parts moment (Some slot) = access_in (need_of parts.code (slot_at moment.before.slots slot).regs (line_count parts))

abbrev pub asked_in : Parts → Moment → Event → Option Access
asked_in parts moment (Instr at) = asked_by parts moment (running moment.before.slots moment.before.current)
asked_in parts moment _ = None

-- when a moment starts and finishes, and what is told of it
abbrev pub span_in : Parts → Costs → Times → Moment → Span
span_in parts costs times moment = record { start = start_in parts costs times moment; finish = finish_in parts costs times moment }

abbrev pub waited_in : Parts → Costs → Times → Moment → Waited
waited_in parts costs times moment = record {
  asked = asked_in parts moment moment.entry.event;
  taken = moment.taken;
  arrival = arrival_of parts times moment.entry.event;
  span = span_in parts costs times moment;
}

unfoldable pub waited : Parts → Costs → Times → WaitsSoFar → Moment → WaitsSoFar
waited parts costs times waits moment = told_by parts costs waits (happened_of moment) (waited_in parts costs times moment) moment.entry.event

-- what waited and was spent after the events of a run
abbrev pub waited_all : Parts → Costs → Times → WaitsSoFar → List Moment → WaitsSoFar
waited_all parts costs times waits [] = waits
waited_all parts costs times waits (moment ∷ rest) = waited_all parts costs (timed parts costs times moment) (waited parts costs times waits moment) rest

unfoldable pub waits_of : Parts → Parameters → Costs → List Entry → WaitsSoFar
waits_of parts parameters costs journal = waited_all parts costs (times_start parts costs) (waits_start parts) (moments parts parameters journal)

-- when each event of a run starts and finishes
abbrev pub spans_all : Parts → Costs → Times → List Moment → List Span
spans_all parts costs times [] = []
spans_all parts costs times (moment ∷ rest) = span_in parts costs times moment ∷ spans_all parts costs (timed parts costs times moment) rest

unfoldable pub spans_of : Parts → Parameters → Costs → List Entry → List Span
spans_of parts parameters costs journal = spans_all parts costs (times_start parts costs) (moments parts parameters journal)

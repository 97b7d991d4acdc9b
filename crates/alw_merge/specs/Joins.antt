-- What workers leave, as it is read in the order of the merge.
use Rattle.std.specs.Prelude.{◌≡◌, ℕ, ◌<◌, false, Option, None, List, [], ◌∷◌, map, filter, ◌==◌, is_some, length, slice_index_or}
use Rattle.alw_num.specs.Weights.{digit, weigh}
use Rattle.alw_msg.specs.declared.messages.Msg.{Msg}
use Rattle.alw_msg.specs.declared.events.Entry.{Entry}
use Rattle.alw_image.specs.declared.parts.Parts.{Parts}
use Rattle.alw_image.specs.Images.{node_count}
use Rattle.alw_image.specs.Parameters.{Parameters}
use Rattle.alw_model.specs.declared.steps.Did.{Did}
use Rattle.alw_model.specs.declared.steps.Did.TheVariants.{Took}
use Rattle.alw_model.specs.Machine.{state, IsLegal}
use Rattle.alw_model.specs.Runs.{Moment, number_of, moments}
use Rattle.alw_model.specs.Rows.{log_in}
use Rattle.alw_model.specs.Threads.{Logged}
use Rattle.alw_links.specs.Traffic.{Traffic}
use Rattle.alw_tally.specs.declared.moments.Moment as tally
use Rattle.alw_tally.specs.Told.{Told, told_of}
use Rattle.alw_node.specs.Nodes.{Whole}

-- the slots with a hold, at all of some nodes
abbrev pub holds_at : List Whole → ℕ
holds_at nodes = weigh (λ (whole : Whole). weigh (λ slot. digit (is_some slot.hold)) whole.state.slots) nodes

-- ---- reading

-- what is left of a node's log, and of what its events did
pub record Course : Type 0 where
  pub left : List Logged
  pub dids : List Did

-- a course at its end
abbrev pub no_course : Course
no_course = record { left = []; dids = [] }

abbrev pub course_at : List Course → ℕ → Course
course_at courses n = slice_index_or courses n no_course

-- the courses of all nodes, by number
abbrev pub courses_of : List (List Logged) → List (List Did) → List Course
courses_of [] dids = []
courses_of (log ∷ logs) [] = []
courses_of (log ∷ logs) (did_list ∷ dids) = record { left = log; dids = did_list } ∷ courses_of logs dids

-- what the next event did
abbrev pub next_did : List Did → Did
next_did [] = Took
next_did (did ∷ rest) = did

-- what is left of what a node's events did
abbrev pub dids_at : List (List Did) → ℕ → List Did
dids_at rest n = slice_index_or rest n []

-- what a tally is told of an entry, the next of its node, but for what it sent
abbrev pub told_at : Entry → List Did → Option Msg → tally.Moment
told_at entry dids taken = record { entry = entry; taken = taken; did = next_did dids; quiet = false }

-- ---- the events of a journal

-- the course of a node through events
abbrev pub course_of : ℕ → List Moment → Course
course_of n run = record { left = log_in n run; dids = map (λ (moment : Moment). moment.stepped.did) (filter (λ (moment : Moment). number_of moment == n) run) }

-- each node's log and what its events did are those of a legal journal
pub record LogsAreOfJournal (image : Parts) (parameters : Parameters) (journal : List Entry) (courses : List Course) : Type 0 where
  pub legal : IsLegal image parameters journal
  pub counted : length courses ≡ node_count image
  pub each : (n : ℕ) → n < node_count image → course_at courses n ≡ course_of n (moments image parameters journal)

-- what a run tells, where no turn counts as having ended a hold and none as having trapped
abbrev pub unheld : Told → Told
unheld told = record told { counts = record told.counts { used = 0 }; trap = None }

-- links and what is told are those of a journal
pub record JournalIsWalked (image : Parts) (parameters : Parameters) (journal : List Entry) (traffic : Traffic) (told : Told) : Type 0 where
  pub nodes_are : traffic.nodes ≡ node_count image
  pub links_are : traffic.links ≡ (state image parameters journal).links
  pub told_is : told ≡ unheld (told_of image (moments image parameters journal))

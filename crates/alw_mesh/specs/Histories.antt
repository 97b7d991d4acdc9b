-- What a machine is seen as: its image, its parameters and its journal, which say all else of it, and how many of the journal's first entries it was joined with.
use Rattle.std.specs.Prelude.{◌≡◌, ℕ, ◌*◌, ◌<◌, ◌≤◌, Bool, false, Result, Ok, Err, List, [], ◌∷◌, ◌++◌, length, drop, IsTrue}
use Rattle.alw_msg.specs.declared.messages.Msg.{Msg}
use Rattle.alw_msg.specs.declared.events.Event.{Event}
use Rattle.alw_msg.specs.declared.events.Entry.{Entry}
use Rattle.alw_image.specs.declared.parts.Parts.{Parts}
use Rattle.alw_image.specs.Images.{IsImage, node_count}
use Rattle.alw_image.specs.Parameters.{Parameters, AreParameters}
use Rattle.alw_model.specs.declared.steps.Did.{Did}
use Rattle.alw_model.specs.Machine.{MachineState, state, stamp_at, stepped_by, IsLegal}
use Rattle.alw_model.specs.Runs.{Moment, moments, turns_of, prints_of}
use Rattle.alw_ready.specs.Fits.{may_happen}
use Rattle.alw_mesh.specs.declared.errors.FitErr.{FitErr}
use Rattle.alw_mesh.specs.declared.errors.FitErr.TheVariants as fits
use Rattle.alw_mesh.specs.declared.errors.StepErr.{StepErr}
use Rattle.alw_mesh.specs.declared.errors.StepErr.TheVariants as steps
use Rattle.alw_mesh.specs.declared.parts.MachineParts.{MachineParts}
use Rattle.alw_mesh.specs.Limits.{most_steps}

pub record History : Type 0 where
  pub image : Parts
  pub parameters : Parameters
  pub journal : List Entry
  pub joined : ℕ

-- a machine that hasn't begun
abbrev pub begun : Parts → Parameters → History
begun image parameters = record { image = image; parameters = parameters; journal = []; joined = 0 }

-- a machine that took these entries from its start on
abbrev pub whole : Parts → Parameters → List Entry → History
whole image parameters journal = record { image = image; parameters = parameters; journal = journal; joined = 0 }

-- a machine that was joined from a journal, and has taken no step
abbrev pub joined_of : Parts → Parameters → List Entry → History
joined_of image parameters journal = record { image = image; parameters = parameters; journal = journal; joined = length journal }

-- the state after the journal
abbrev pub state_of : History → MachineState
state_of h = state h.image h.parameters h.journal

-- an event may be the next: it is enabled and within the limit
abbrev pub may_be_next : History → Event → Bool
may_be_next h event = may_happen h.image h.parameters (state_of h) event

-- an event with the stamp that it has next
abbrev pub entry_of : History → Event → Entry
entry_of h event = record { stamp = stamp_at h.image (state_of h) event; event = event }

-- the journal has this event more, with its stamp
abbrev pub grown : History → Event → History
grown h event = record h { journal = h.journal ++ entry_of h event ∷ [] }

-- the most stamps that the nodes of a machine may have together
abbrev pub stamps_of : Parts → Parameters → ℕ
stamps_of image parameters = node_count image * parameters.limit

-- what holds of every machine: its image and its parameters are such, its journal is legal, and it was joined with no more entries than it has
pub record IsRun (h : History) : Type 0 where
  pub image : IsImage h.image
  pub parameters : AreParameters h.parameters
  pub legal : IsLegal h.image h.parameters h.journal
  pub joined : h.joined ≤ length h.journal

-- a machine of an image under parameters fits; or its nodes may have more stamps together than the most
abbrev pub MachineFits : Parts → Parameters → Result (Unit {0}) FitErr → Type 0
MachineFits image parameters (Ok done) = stamps_of image parameters ≤ most_steps
MachineFits image parameters (Err (fits.DoesNotFit number most)) = (most_steps < number) × (number ≡ stamps_of image parameters) × (most ≡ most_steps)
MachineFits image parameters (Err fits.NoMemory) = ⊥

-- what the start of a machine answers: it hasn't begun, or its nodes may have more stamps together than the most, or memory was refused
abbrev pub Starts : Parts → Parameters → Result History FitErr → Type 0
Starts image parameters (Ok machine) = (machine ≡ begun image parameters) × (stamps_of image parameters ≤ most_steps)
Starts image parameters (Err (fits.DoesNotFit number most)) = (most_steps < number) × (number ≡ stamps_of image parameters) × (most ≡ most_steps)
Starts image parameters (Err fits.NoMemory) = stamps_of image parameters ≤ most_steps

-- what a step leaves and answers: the event has happened, and did what it does; or it may not be next, or memory was refused, and all is as it was
abbrev pub Steps : History → Event → History → Result Did StepErr → Type 0
Steps before event after (Ok did) =
    IsTrue (may_be_next before event) × (after ≡ grown before event) × (did ≡ (stepped_by before.image before.parameters (state_of before) event).did)
Steps before event after (Err steps.NotEnabled) = (may_be_next before event ≡ false) × (after ≡ before)
Steps before event after (Err steps.NoMemory) = IsTrue (may_be_next before event) × (after ≡ before)

-- what the last event of a run sent, and nothing where there is none
abbrev pub sent_last : List Moment → List (ℕ × Msg)
sent_last [] = []
sent_last (moment ∷ []) = moment.stepped.sends
sent_last (moment ∷ next ∷ rest) = sent_last (next ∷ rest)

-- what the last step of a machine sent: nothing where it has taken none since it was started or joined
abbrev pub last_sends : History → List (ℕ × Msg)
last_sends h = sent_last (drop h.joined (moments h.image h.parameters h.journal))

-- the parts of a machine, with the turns of its journal, each as its context, and the words that they printed
pub record ArePartsOf (h : History) (parts : MachineParts) : Type 0 where
  pub image : parts.image ≡ h.image
  pub parameters : parts.params ≡ h.parameters
  pub journal : parts.journal ≡ h.journal
  pub turns : parts.turns ≡ turns_of h.image h.parameters h.journal
  pub prints : parts.prints ≡ prints_of h.image h.parameters h.journal

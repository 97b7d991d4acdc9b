-- What all rows of a profile count together.
use Rattle.std.specs.Prelude.{◌≡◌, ℕ, ◌+◌, ◌/◌, ◌≤◌, nat_lt, not, Bool, false, List, length}
use Rattle.alw_num.specs.Weights.{digit, weigh}
use Rattle.alw_msg.specs.declared.events.Entry.{Entry}
use Rattle.alw_image.specs.declared.parts.Parts.{Parts}
use Rattle.alw_image.specs.Parameters.{Parameters}
use Rattle.alw_model.specs.declared.steps.Counts.{Counts}
use Rattle.alw_model.specs.declared.steps.Did.{Did}
use Rattle.alw_model.specs.declared.steps.Did.TheVariants.{Turn}
use Rattle.alw_model.specs.Contexts.{slot_at}
use Rattle.alw_model.specs.NodeStates.{NodeState}
use Rattle.alw_model.specs.Machine.{IsLegal}
use Rattle.alw_model.specs.Runs.{Moment, moments}
use Rattle.alw_model.specs.Counts.{counts_of}
use Rattle.alw_profile.specs.declared.rows.NodeRow.{NodeRow}
use Rattle.alw_profile.specs.declared.rows.Profile.{Profile}
use Rattle.alw_profile.specs.Counted.{LineCounts, WordCounts}
use Rattle.alw_profile.specs.Rows.{told}
use Rattle.law_machine.specs.Values.{AfterEveryJournal}

-- the sum of a count over all rows of nodes, of lines, and of code words
abbrev pub over_nodes : (NodeRow → ℕ) → Profile → ℕ
over_nodes count profile = weigh count profile.nodes

abbrev pub over_lines : (LineCounts → ℕ) → Profile → ℕ
over_lines count profile = weigh count profile.lines

abbrev pub over_words : (WordCounts → ℕ) → Profile → ℕ
over_words count profile = weigh count profile.code

-- the sums over all nodes are these counts
pub record NodesCount (counts : Counts) (profile : Profile) : Type 0 where
  pub turns : over_nodes (λ row. row.turns) profile ≡ counts.turns
  pub misses : over_nodes (λ row. row.misses) profile ≡ counts.misses
  pub handlers : over_nodes (λ row. row.handlers) profile ≡ counts.handlers
  pub hops : over_nodes (λ row. row.hops) profile ≡ counts.hops
  pub rreq : over_nodes (λ row. row.rreq) profile ≡ counts.rreq
  pub wreq : over_nodes (λ row. row.wreq) profile ≡ counts.wreq
  pub repm : over_nodes (λ row. row.repm) profile ≡ counts.repm
  pub update : over_nodes (λ row. row.update) profile ≡ counts.update
  pub ackc : over_nodes (λ row. row.ackc) profile ≡ counts.ackc
  pub rdata : over_nodes (λ row. row.rdata) profile ≡ counts.rdata
  pub wdata : over_nodes (λ row. row.wdata) profile ≡ counts.wdata
  pub inv : over_nodes (λ row. row.inv) profile ≡ counts.inv
  pub busy : over_nodes (λ row. row.busy) profile ≡ counts.busy

-- the sums over all lines are these counts; a turn accesses one line at most, so that there are no more hits than turns
pub record LinesCount (counts : Counts) (profile : Profile) : Type 0 where
  pub hits : over_lines (λ row. row.load_hits + row.store_hits) profile ≤ counts.turns
  pub misses : over_lines (λ row. row.load_misses + row.store_misses) profile ≡ counts.misses
  pub inv : over_lines (λ row. row.inv) profile ≡ counts.inv
  pub busy : over_lines (λ row. row.busy) profile ≡ counts.busy
  pub written_back : over_lines (λ row. row.written_back) profile ≡ counts.repm + counts.update
  pub handlers : over_lines (λ row. row.handlers) profile ≡ counts.handlers
  pub spills : over_lines (λ row. row.spills) profile ≡ counts.spills

-- a turn of a slot whose PC stands at no word of the code
abbrev pub is_outside : Parts → NodeState → Did → Bool
is_outside image before (Turn slot outcome) = not (nat_lt ((slot_at before.slots slot).regs.pc / 4) (length image.code))
is_outside image before _ = false

-- the turns of slots whose PC stood outside the code
abbrev pub turns_outside : Parts → List Moment → ℕ
turns_outside image run = weigh (λ moment. digit (is_outside image moment.before moment.stepped.did)) run

-- the sums over all code words, with so many turns outside, are these counts
pub record WordsCount (counts : Counts) (outside : ℕ) (profile : Profile) : Type 0 where
  pub turns : over_words (λ row. row.turns) profile + outside ≡ counts.turns
  pub misses : over_words (λ row. row.misses) profile ≡ counts.misses

-- a fact of an image, a run and its profile holds of each legal journal
abbrev pub OfEveryRun : (Parts → List Moment → Profile → Type 0) → Type 0
OfEveryRun Fact = (image : Parts) (parameters : Parameters) (journal : List Entry) → IsLegal image parameters journal
    → Fact image (moments image parameters journal) (told image parameters (moments image parameters journal))

-- a legal journal's profile and its report count the same
abbrev pub NodeSumsAreCounts : Type 0
NodeSumsAreCounts = OfEveryRun (λ image run profile. NodesCount (counts_of image run) profile)

-- with at least one hardware pointer the lines that a run names exist
abbrev pub LineSumsAreCounts : Type 0
LineSumsAreCounts = AfterEveryJournal (λ image parameters journal machine.
    LinesCount (counts_of image (moments image parameters journal)) (told image parameters (moments image parameters journal)))

abbrev pub WordSumsAreCounts : Type 0
WordSumsAreCounts = OfEveryRun (λ image run profile. WordsCount (counts_of image run) (turns_outside image run) profile)

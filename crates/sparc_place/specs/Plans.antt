-- What a plan has laid down, and how a step goes on from there.
use Rattle.std.specs.Prelude.{◌≡◌, ℕ, ◌+◌, ◌&&◌, ◌||◌, true, false, not, if◌then◌else◌, nat_le, List, Option, Some, None, Result, Ok, Err, ⊤}
use Rattle.std.specs.Option.{option_map}
use Rattle.sparc_asm.specs.declared.statements.Statement.{Statement}
use Rattle.sparc_asm.specs.declared.statements.Line.{Line}
use Rattle.sparc_place.specs.declared.passes.Laid.{Laid}
use Rattle.sparc_asm.specs.declared.faults.Fault.{Fault}
use Rattle.sparc_asm.specs.declared.faults.Fault.TheVariants.{Redefined, Range}
use Rattle.sparc_asm.specs.declared.faults.AsmErr.{AsmErr}
use Rattle.sparc_asm.specs.declared.faults.AsmErr.TheVariants.{NoMemory}
use Rattle.sparc_asm.specs.Names.{value_in}
use Rattle.sparc_place.specs.declared.cursors.Position.{Position}
use Rattle.sparc_place.specs.declared.plans.Plan.{Plan}
use Rattle.sparc_place.specs.declared.plans.Step.{Step}
use Rattle.sparc_place.specs.declared.plans.Step.TheVariants.{Sized, Moved, Wrote, Defined, Started, Always}
use Rattle.sparc_place.specs.Marks.{is_marked, is_context_marked}
use Rattle.sparc_place.specs.Places.{Layout, named_so, with_range, with_start, here_of, statement_fault, place_fault, label_again, labelled, code_behind, laid, behind, fault_at, place_of}

-- what a plan has laid down
abbrev pub layout_of : Plan → Layout
layout_of p = record {
  width = p.sizes.width;
  height = p.sizes.height;
  contexts = p.sizes.contexts;
  per_node = p.sizes.per_node;
  begun = p.begun;
  names = value_in p.names;
  in_data = p.cursor.in_data;
  code = p.cursor.code;
  shared = p.cursor.shared;
  written = is_marked p.written;
  started = is_context_marked p.started;
  always = is_marked p.always;
}

-- a context starts
abbrev pub with_started : ℕ → ℕ → Layout → Layout
with_started node slot m = record m { begun = true; started = with_start node slot m.started }

-- what a step makes of a layout
abbrev pub stepped : Step → Layout → Layout
stepped (Sized sizes) m = record m { width = sizes.width; height = sizes.height; contexts = sizes.contexts; per_node = sizes.per_node }
stepped (Moved cursor) m = record m { begun = true; in_data = cursor.in_data; code = cursor.code; shared = cursor.shared }
stepped (Wrote cursor) m = record m { begun = true; in_data = cursor.in_data; code = cursor.code; shared = cursor.shared; written = with_range m.shared cursor.shared m.written }
stepped (Defined name value) m = record m { begun = true; names = named_so name value m.names }
stepped (Started node slot) m = with_started node slot m
stepped (Always line) m = record m { begun = true; always = with_range line (line + 1) m.always }

-- where the statement of a step stands, and the context that it starts
abbrev pub placed : Layout → Step → Position
placed l (Started node slot) = record { here = here_of l; in_data = l.in_data; node = node; slot = slot }
placed l _ = record { here = here_of l; in_data = l.in_data; node = 0; slot = 0 }

-- the fault of an instruction of so many words, or of that many words of data in code
abbrev pub code_fault : Layout → Option (List ℕ) → ℕ → Option Fault
code_fault l label count = if label_again l label || false then Some Redefined else (if not (not l.in_data && nat_le (l.code + count) 65536) then Some Range else None)

-- a step lays down so many words of code, or the fault is theirs
abbrev pub IsCodeStep : Layout → Option (List ℕ) → ℕ → Result Step Fault → Type 0
IsCodeStep l label count (Ok step) = (code_fault l label count ≡ None) × (code_behind count (labelled label l) ≡ stepped step (labelled label l)) × (placed l step ≡ record { here = here_of l; in_data = l.in_data; node = 0; slot = 0 })
IsCodeStep l label count (Err fault) = code_fault l label count ≡ Some fault

-- a step is what a statement lays down, or the fault is the statement's
abbrev pub IsStep : Layout → Option (List ℕ) → Statement → Result Step Fault → Type 0
IsStep l label s (Ok step) = (statement_fault l label s ≡ None) × (laid l s (labelled label l) ≡ stepped step (labelled label l)) × (placed l step ≡ place_of l (Some s))
IsStep l label s (Err fault) = statement_fault l label s ≡ Some fault

-- the fault of a line, with its number
abbrev pub refused : ℕ → Option Fault → Option AsmErr
refused number fault = option_map (λ f. fault_at f number) fault

-- from one layout to the next by a line with a number, or its fault; or memory was refused
abbrev pub LineIsLaid : Layout → Layout → Line → ℕ → Result Position AsmErr → Type 0
LineIsLaid l after line number (Err NoMemory) = ⊤
LineIsLaid l after line number (Err e) = refused number (place_fault l line) ≡ Some e
LineIsLaid l after line number (Ok place) = (place_fault l line ≡ None) × (after ≡ behind l line) × (place ≡ place_of l line.statement)

-- an answer is the wanted layout with the wanted places, or the wanted fault; or memory was refused
abbrev pub AnswersPlaces : Result Layout AsmErr → List Position → Result Laid AsmErr → Type 0
AnswersPlaces wanted places (Err NoMemory) = ⊤
AnswersPlaces wanted places (Err e) = wanted ≡ Err e
AnswersPlaces wanted places (Ok laid) = (wanted ≡ Ok (layout_of laid.plan)) × (laid.places ≡ places)

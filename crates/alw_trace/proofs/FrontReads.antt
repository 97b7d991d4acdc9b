-- What is read of the front of a trace.
use Rattle.std.proofs.Common.{◌≡◌, ℕ, ◌+◌, ◌<◌, ◌^◌, List, ◌++◌, length, sym, ap, subst, ◌∙◌, append_assoc, arith}
use Rattle.alw_msg.specs.declared.events.Entry.{Entry}
use Rattle.alw_image.specs.Images.{spelling}
use Rattle.alw_image.specs.Numbers.{HasWords}
use Rattle.alw_image.specs.Parameters.{Parameters}
use Rattle.alw_report.specs.Reports.{params_line}
use Rattle.alw_trace.specs.declared.values.Trace.{Trace}
use Rattle.alw_trace.specs.declared.faults.TextErr.{TextErr}
use Rattle.alw_trace.specs.declared.faults.TextErr.TheVariants.{Syntax, Image, Range, NoMemory}
use Rattle.alw_trace.specs.Texts.{image_text, entries_text}
use Rattle.alw_trace.specs.Lines.{TraceLines, IsFrontFault, SaysFront, behind_image}
use Rattle.alw_trace.specs.Fronts.{front_text, IsNoFront, IsFrontRead}
use Rattle.alw_trace.specs.Raw.{IsSyntaxFault, IsTraceOf, IsNoTrace}
use Rattle.alw_trace.proofs.ReadWords.{words_in}

-- a line of no front
pub no_front : (title text : List ℕ) (fault : TextErr) → IsSyntaxFault (IsFrontFault title text) fault → IsNoFront title text fault
no_front title text (Syntax line) is = is
no_front title text (Image f) is = absurd is
no_front title text (Range line) is = absurd is
no_front title text NoMemory is = tt

module _ {title text : List ℕ} {lines : TraceLines} {rest : List ℕ} (says : SaysFront title text lines rest) where
  -- lines that are no trace's
  pub wrong_front : (fault : TextErr) → IsNoTrace lines fault → IsNoFront title text fault
  wrong_front (Syntax line) is = absurd is
  wrong_front (Image f) is = record { lines = lines; rest = rest; says = says; wrong = is }
  wrong_front (Range line) is = record { lines = lines; rest = rest; says = says; wrong = is }
  wrong_front NoMemory is = tt

  of_parts : (bytes : List ℕ) (params : Parameters) (journal : List Entry) (trace : Trace)
      → text ≡ title ++ (image_text bytes ++ (params_line params ++ (entries_text journal ++ rest)))
      → bytes ≡ spelling trace.image → trace.params ≡ params → trace.journal ≡ journal
      → text ≡ title ++ (front_text trace.image trace.params trace.journal ++ rest)
  unfolding front_text
  of_parts bytes params journal trace e image three entries =
      e ∙ (λ i. title ++ (image_text (image i) ++ (params_line (sym three i) ++ (entries_text (sym entries i) ++ rest))))
      ∙ ap (λ (t : List ℕ). title ++ (image_text (spelling trace.image) ++ t)) (sym (append_assoc (params_line trace.params) (entries_text trace.journal) rest))
      ∙ ap (λ (t : List ℕ). title ++ t) (sym (append_assoc (image_text (spelling trace.image)) (params_line trace.params ++ entries_text trace.journal) rest))

  -- a trace
  pub front_read : (trace : Trace) (line behind : ℕ) → IsTraceOf lines trace → line ≡ behind_image lines.image → line < 2 ^ 60
      → behind ≡ line + 2 + length trace.journal
      → IsFrontRead title text (record { trace = trace; behind = behind }) rest
  front_read trace line behind of here few is = record {
    front_is = record {
      text_is = of_parts lines.image lines.params lines.journal trace says.text_is of.image.spelled of.params of.journal;
      is = of.is_trace;
      types = (subst HasWords (sym of.image.parts) (words_in lines.image says.form.bytes), of.short);
    };
    behind_is = is ∙ ap (λ (n : ℕ). n + 2 + length trace.journal) (here ∙ ap behind_image of.image.spelled);
    few = omega (arith, few, of.short, is);
  }

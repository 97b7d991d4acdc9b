-- A text has one front of a trace under a title, and where it has one, it is refused for want of memory alone.
use Rattle.std.proofs.Common.{◌≡◌, ℕ, List, ◌++◌, refl, sym, ap, subst, ◌∙◌, append_assoc}
use Rattle.alw_msg.specs.declared.events.Entry.{Entry}
use Rattle.alw_image.specs.declared.parts.Parts.{Parts}
use Rattle.alw_image.specs.Parameters.{Parameters}
use Rattle.alw_image.specs.Images.{node_count, spelling}
use Rattle.alw_image.specs.Faults.{first_unfit, image_fault, image_in}
use Rattle.alw_image.proofs.Spelled.{has_no_fault, same_image}
use Rattle.alw_report.specs.Reports.{params_line}
use Rattle.alw_trace.specs.declared.values.Trace.{Trace}
use Rattle.alw_trace.specs.declared.faults.TextErr.{TextErr}
use Rattle.alw_trace.specs.declared.faults.TextErr.TheVariants.{Syntax, Image, Range, NoMemory}
use Rattle.alw_trace.specs.Texts.{image_text, entries_text}
use Rattle.alw_trace.specs.Lines.{TraceLines, AreBytes, IsFrontFault, SaysFront}
use Rattle.alw_trace.specs.Readings.{trace_tests}
use Rattle.alw_trace.specs.Fronts.{front_text, IsFrontOf, IsNoFront}
use Rattle.alw_trace.proofs.OneFront.{image_cut, params_cut, journal_cut, no_front_fault}
use Rattle.alw_trace.proofs.OneTrace.{lines_in, trace_form, read_back, same_lines, text-is}

same_traces : (i j : Parts) (p q : Parameters) (x y : List Entry) → i ≡ j → p ≡ q → x ≡ y
    → ◌≡◌ {A = Trace} (record { image = i; params = p; journal = x }) (record { image = j; params = q; journal = y })
same_traces i j p q x y e f g = cc

module _ (title text : List ℕ) where
  -- the lines that a front says
  front_says : (t : Trace) (rest : List ℕ) → IsFrontOf title text t rest → SaysFront title text (lines_in t) rest
  unfolding front_text
  front_says t rest is = record {
    form = trace_form t is.is is.types;
    text_is = is.text_is ∙ ap (λ (u : List ℕ). title ++ u)
        (append_assoc (image_text (spelling t.image)) (params_line t.params ++ entries_text t.journal) rest
        ∙ ap (λ (u : List ℕ). image_text (spelling t.image) ++ u) (append_assoc (params_line t.params) (entries_text t.journal) rest));
  }

  one_says : (one other : TraceLines) (u v : List ℕ) → SaysFront title text one u → SaysFront title text other v → (one ≡ other) × (u ≡ v)
  one_says one other u v says also =
      let bytes : AreBytes other.image = (also.form.bytes, also.form.size) in
      let same = sym says.text_is ∙ also.text_is in
      let image = image_cut title one u says.form other.image (params_line other.params ++ (entries_text other.journal ++ v)) bytes same in
      let params = params_cut title one u says.form other.image other.params (entries_text other.journal ++ v) bytes also.form.params same in
      let journal = journal_cut title one u says.form other.image other.params other.journal v bytes also.form.params also.form.entries also.form.count same in
      (same_lines one.image other.image one.params other.params one.journal other.journal image.0 params.0 journal.0, journal.1)

  -- a text has one front, and one rest behind it
  pub one_front : (one other : Trace) (u v : List ℕ) → IsFrontOf title text one u → IsFrontOf title text other v → (one ≡ other) × (u ≡ v)
  one_front one other u v is are =
      let same = one_says (lines_in one) (lines_in other) u v (front_says one u is) (front_says other v are) in
      let image = same_image one.image other.image is.is.image is.types.0 are.is.image are.types.0 (ap (λ (t : TraceLines). t.image) same.0) in (
        same_traces one.image other.image one.params other.params one.journal other.journal image (ap (λ (t : TraceLines). t.params) same.0)
            (ap (λ (t : TraceLines). t.journal) same.0),
        same.1,
      )

  -- and is not refused: what is wrong with its lines would be wrong with the trace's own text
  pub front_back : (t : Trace) (rest : List ℕ) (fault : TextErr) → IsFrontOf title text t rest → IsNoFront title text fault → fault ≡ NoMemory
  front_back t rest (Syntax line) is wrong =
      let says = front_says t rest is in
      absurd (no_front_fault title (lines_in t) rest says.form line (subst (λ (u : List ℕ). IsFrontFault title u line) says.text_is wrong))
  front_back t rest (Image fault) is wrong =
      let same = one_says (lines_in t) wrong.lines rest wrong.rest (front_says t rest is) wrong.says in
      read_back t (Image fault) is.is is.types (
        lines_in t,
        record {
          form = trace_form t is.is is.types;
          text_is = text-is t;
          image = ap (λ (lines : TraceLines). image_fault lines.image) same.0 ∙ wrong.wrong;
        },
      )
  front_back t rest (Range line) is wrong =
      let same = one_says (lines_in t) wrong.lines rest wrong.rest (front_says t rest is) wrong.says in
      read_back t (Range line) is.is is.types (
        lines_in t,
        record {
          form = trace_form t is.is is.types;
          text_is = text-is t;
          image = has_no_fault t.image is.is.image is.types.0;
        },
        ap (λ (lines : TraceLines). first_unfit (trace_tests (node_count (image_in lines.image)) lines)) same.0 ∙ wrong.wrong.1,
      )
  front_back t rest NoMemory is wrong = refl

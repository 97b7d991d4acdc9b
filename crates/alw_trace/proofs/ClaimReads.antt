-- A claim read part by part.
use Rattle.std.proofs.Common.{◌≡◌, ◌≢◌, ℕ, ◌+◌, List, ◌++◌, length, codes, refl, ap, subst, ◌∙◌}
use Rattle.std.specs.List.{AllByRecursion}
use Rattle.alw_report.specs.Reports.{run_line, print_line, word_line, runs_text, prints_text, memory_text}
use Rattle.alw_trace.specs.declared.faults.TextErr.{TextErr}
use Rattle.alw_trace.specs.declared.faults.TextErr.TheVariants.{Syntax, Image, Range, NoMemory}
use Rattle.alw_trace.specs.declared.pairs.ListKind.TheVariants.{Runs, Prints, Memory}
use Rattle.alw_trace.specs.Texts.{image_text, claim_title}
use Rattle.alw_trace.specs.Lines.{IsNumber, IsStretch, IsPrint, IsMemoryWord, AreBytes, IsFaultInImage, IsFaultInList, IsFaultAtEnd, IsClaimFault, ClaimLines, AreClaimLines, claim_lines, behind_image, title_of_claim, image_of_claim, runs_of_claim, prints_of_claim, memory_of_claim, end_of_claim}
use Rattle.alw_trace.specs.Lists.{IsListRead, IsOfClaim}
use Rattle.alw_trace.specs.Raw.{IsSyntaxFault, IsImageRead}

-- ---- fronts of a claim

pub record IsRunsFront (text image : List ℕ) (runs : List (ℕ × ℕ)) (rest : List ℕ) : Type 0 where
  pub bytes : AreBytes image
  pub each : AllByRecursion IsStretch runs
  pub count : IsNumber (length runs)
  pub parts : text ≡ claim_title ++ (image_text image ++ (runs_text runs ++ rest))

pub record IsPrintsFront (text image : List ℕ) (runs prints : List (ℕ × ℕ)) (rest : List ℕ) : Type 0 where
  pub before : AreBytes image
  pub runs_are : AllByRecursion IsStretch runs
  pub run_count : IsNumber (length runs)
  pub each : AllByRecursion IsPrint prints
  pub count : IsNumber (length prints)
  pub parts : text ≡ claim_title ++ (image_text image ++ (runs_text runs ++ (prints_text prints ++ rest)))

pub record IsMemoryFront (text : List ℕ) (lines : ClaimLines) (rest : List ℕ) : Type 0 where
  pub form : AreClaimLines lines
  pub parts : text ≡ claim_title ++ (image_text lines.image ++ (runs_text lines.runs ++ (prints_text lines.prints ++ (memory_text lines.memory ++ rest))))

pub runs_front : (text one image two : List ℕ) (runs : List (ℕ × ℕ)) (rest : List ℕ) → text ≡ codes "ALEWIFE CLAIM 1\n" ++ one → IsImageRead one image two
    → IsListRead Runs two runs rest → IsRunsFront text image runs rest
unfolding claim_title runs_text
runs_front text one image two runs rest e read list = record {
  bytes = read.bytes;
  each = list.each;
  count = list.count;
  parts = e ∙ ap (λ (t : List ℕ). claim_title ++ t) (read.parts ∙ ap (λ (t : List ℕ). image_text image ++ t) list.parts);
}

pub prints_front : (text image : List ℕ) (runs : List (ℕ × ℕ)) (behind : List ℕ) (prints : List (ℕ × ℕ)) (rest : List ℕ) → IsRunsFront text image runs behind
    → IsListRead Prints behind prints rest
    → IsPrintsFront text image runs prints rest
unfolding prints_text
prints_front text image runs behind prints rest front list = record {
  before = front.bytes;
  runs_are = front.each;
  run_count = front.count;
  each = list.each;
  count = list.count;
  parts = front.parts ∙ ap (λ (t : List ℕ). claim_title ++ (image_text image ++ (runs_text runs ++ t))) list.parts;
}

pub memory_front : (text image : List ℕ) (runs prints : List (ℕ × ℕ)) (behind : List ℕ) (memory : List (ℕ × ℕ)) (rest : List ℕ)
    → IsPrintsFront text image runs prints behind → IsListRead Memory behind memory rest
    → IsMemoryFront text (record { image = image; runs = runs; prints = prints; memory = memory }) rest
unfolding memory_text
memory_front text image runs prints behind memory rest front list = record {
  form = record {
    bytes = front.before.0;
    size = front.before.1;
    runs = front.runs_are;
    run_count = front.run_count;
    prints = front.each;
    print_count = front.count;
    memory = list.each;
    word_count = list.count;
  };
  parts = front.parts ∙ ap (λ (t : List ℕ). claim_title ++ (image_text image ++ (runs_text runs ++ (prints_text prints ++ t)))) list.parts;
}

-- ---- the line at fault

pub title_lacks : (text : List ℕ) → ((rest : List ℕ) → text ≢ codes "ALEWIFE CLAIM 1\n" ++ rest) → IsClaimFault text 1
unfolding claim_title
title_lacks text lacks = title_of_claim lacks refl

pub image_lacks : (text rest : List ℕ) (fault : TextErr) → text ≡ codes "ALEWIFE CLAIM 1\n" ++ rest → IsSyntaxFault (IsFaultInImage rest) fault
    → IsSyntaxFault (IsClaimFault text) fault
unfolding claim_title
image_lacks text rest (Syntax at) e is = image_of_claim rest e is
image_lacks text rest (Image f) e is = is
image_lacks text rest (Range at) e is = is
image_lacks text rest NoMemory e is = tt

pub runs_lack : (text one image two : List ℕ) (line : ℕ) (fault : TextErr) → text ≡ codes "ALEWIFE CLAIM 1\n" ++ one → IsImageRead one image two
    → line ≡ behind_image image
    → IsSyntaxFault (IsFaultInList IsStretch run_line (codes "runs") line two) fault → IsSyntaxFault (IsClaimFault text) fault
unfolding claim_title
runs_lack text one image two line (Syntax at) e read here is =
    runs_of_claim image two read.bytes (e ∙ ap (λ (t : List ℕ). claim_title ++ t) read.parts)
    (subst (λ (n : ℕ). IsFaultInList IsStretch run_line (codes "runs") n two at) here is)
runs_lack text one image two line (Image f) e read here is = is
runs_lack text one image two line (Range at) e read here is = is
runs_lack text one image two line NoMemory e read here is = tt

pub prints_lack : (text image : List ℕ) (runs : List (ℕ × ℕ)) (rest : List ℕ) (line : ℕ) (fault : TextErr) → IsRunsFront text image runs rest
    → line ≡ behind_image image + 1 + length runs
    → IsSyntaxFault (IsFaultInList IsPrint print_line (codes "prints") line rest) fault → IsSyntaxFault (IsClaimFault text) fault
prints_lack text image runs rest line (Syntax at) front here is =
    prints_of_claim image runs rest front.bytes front.each front.count front.parts
    (subst (λ (n : ℕ). IsFaultInList IsPrint print_line (codes "prints") n rest at) here is)
prints_lack text image runs rest line (Image f) front here is = is
prints_lack text image runs rest line (Range at) front here is = is
prints_lack text image runs rest line NoMemory front here is = tt

pub memory_lacks : (text image : List ℕ) (runs prints : List (ℕ × ℕ)) (rest : List ℕ) (line : ℕ) (fault : TextErr) → IsPrintsFront text image runs prints rest
    → line ≡ behind_image image + 2 + length runs + length prints
    → IsSyntaxFault (IsFaultInList IsMemoryWord word_line (codes "memory") line rest) fault → IsSyntaxFault (IsClaimFault text) fault
memory_lacks text image runs prints rest line (Syntax at) front here is =
    memory_of_claim image runs prints rest front.before front.runs_are front.run_count front.each front.count front.parts
    (subst (λ (n : ℕ). IsFaultInList IsMemoryWord word_line (codes "memory") n rest at) here is)
memory_lacks text image runs prints rest line (Image f) front here is = is
memory_lacks text image runs prints rest line (Range at) front here is = is
memory_lacks text image runs prints rest line NoMemory front here is = tt

pub end_lacks : (text : List ℕ) (lines : ClaimLines) (rest : List ℕ) (last : ℕ) (fault : TextErr) → IsMemoryFront text lines rest
    → last ≡ behind_image lines.image + 3 + length lines.runs + length lines.prints + length lines.memory → IsSyntaxFault (IsFaultAtEnd last rest) fault
    → IsSyntaxFault (IsClaimFault text) fault
end_lacks text lines rest last (Syntax at) front here is = end_of_claim lines rest front.form front.parts (subst (λ (n : ℕ). IsFaultAtEnd n rest at) here is)
end_lacks text lines rest last (Image f) front here is = is
end_lacks text lines rest last (Range at) front here is = is
end_lacks text lines rest last NoMemory front here is = tt

pub whole : (text : List ℕ) (lines : ClaimLines) (rest : List ℕ) → IsMemoryFront text lines rest → rest ≡ codes "end\n" → IsOfClaim text lines
unfolding claim_lines
whole text lines rest front e = record {
  form = front.form;
  text_is = front.parts ∙ ap (λ (t : List ℕ). claim_title ++
      (image_text lines.image ++ (runs_text lines.runs ++ (prints_text lines.prints ++ (memory_text lines.memory ++ t))))) e;
}

-- What is built one by one at the start.
use Rattle.std.proofs.Common.{◌≡◌, ℕ, ◌+◌, ◌/◌, ◌%◌, ◌≤◌, Option, List, [], ◌∷◌, ◌++◌, length, map, refl, sym, ap, ◌∙◌, arith}
use Rattle.std.specs.List.{range_with_len}
use Rattle.std.specs.Option.{unwrap_or}
use Rattle.alw_num.specs.declared.addresses.Line.{Line}
use Rattle.sparc_table.specs.Registers.{start_of}
use Rattle.sparc_table.specs.declared.registers.Regs.{Regs}
use Rattle.alw_msg.specs.declared.contexts.Status.{Status}
use Rattle.alw_image.specs.declared.parts.Parts.{Parts}
use Rattle.alw_image.specs.Images.{line_count, context_count, body_of}
use Rattle.alw_image.specs.Images as images
use Rattle.alw_model.specs.Contexts.{status_start}
use Rattle.alw_model.specs.Flat as model
use Rattle.alw_model.specs.Flat.{context_start}
use Rattle.alw_flat.specs.declared.machines.Context.{Context}
use Rattle.alw_flat.specs.Machines.{HasFlatSizes}
use Rattle.alw_flat.specs.Contexts.{context_of, contexts_of, machine_of}
use Rattle.std.proofs.lemmas.List.FromFn.{length-map-range_with_len, map-range_with_len_more}

-- so far the members are those of the numbers below k
pub record IsBuilt {A : Type 0} (f : ℕ → A) (members : List A) (k room capacity : ℕ) : Type 0 where
  pub members_are : members ≡ map f (range_with_len 0 k)
  pub fits : room ≤ capacity

pub begins : {A : Type 0} (f : ℕ → A) (members : List A) (room capacity : ℕ) → members ≡ [] → room ≤ capacity → IsBuilt f members 0 room capacity
begins f members room capacity empty fits = record { members_are = empty; fits = fits }

pub goes_on : {A : Type 0} (f : ℕ → A) (members after : List A) (k room capacity capacity' : ℕ) (member : A) → IsBuilt f members k room capacity → after ≡ members ++ member ∷ [] → member ≡ f k → capacity' ≡ capacity
    → IsBuilt f after (k + 1) room capacity'
goes_on f members after k room capacity capacity' member is pushed member_is same = record {
  members_are = pushed ∙ (ap (λ (ms : List _). ms ++ member ∷ []) is.members_are ∙ (ap (λ m. map f (range_with_len 0 k) ++ m ∷ []) member_is ∙ sym (map-range_with_len_more f 0 k k (omega arith))));
  fits = omega (arith, same, is.fits);
}

pub long : {A : Type 0} (f : ℕ → A) (members : List A) (k room capacity : ℕ) → IsBuilt f members k room capacity → length members ≡ k
long f members k room capacity is = ap length is.members_are ∙ length-map-range_with_len f 0 k

-- ---- the contexts

pub contexts-push : (contexts after : List Context) (context : Context) → after ≡ contexts ++ context ∷ [] → contexts_of after ≡ contexts_of contexts ++ context_of context ∷ []
contexts-push contexts after context e = ap contexts_of e ∙ pushed contexts
  where
    pushed : (contexts : List Context) → contexts_of (contexts ++ context ∷ []) ≡ contexts_of contexts ++ context_of context ∷ []
    pushed [] = refl
    pushed (first ∷ rest) = ap (λ (cs : List model.Context). context_of first ∷ cs) (pushed rest)

pub started : (parts : Parts) (number count : ℕ) (start : Option ℕ) (regs : Regs) (status : Status) → start ≡ images.started_at parts (number / parts.contexts) (number % parts.contexts) → regs ≡ start_of (unwrap_or start 0) number count
    → count ≡ context_count parts → status ≡ status_start start → (let context : Context = record { regs = regs; status = status } in context_of context ≡ context_start parts number)
started parts number count start regs status start_is regs_are count_is status_is = λ i. record {
  regs = (regs_are ∙ (ap (λ (n : ℕ). start_of (unwrap_or start 0) number n) count_is ∙ ap (λ (o : Option ℕ). start_of (unwrap_or o 0) number (context_count parts)) start_is)) i;
  status = (status_is ∙ ap status_start start_is) i;
}

-- ---- the sizes

pub has_sizes : (image parts : Parts) (memory : List Line) (contexts : List Context) (lines count : ℕ) → line_count parts ≡ line_count image → context_count parts ≡ context_count image → lines ≡ line_count image → count ≡ context_count image
    → memory ≡ map (body_of image) (range_with_len 0 lines) → contexts_of contexts ≡ map (context_start image) (range_with_len 0 count) → HasFlatSizes (machine_of parts memory contexts)
has_sizes image parts memory contexts lines count same_lines same_contexts lines_are count_is memory_is contexts_are = record {
  memory = ap length memory_is ∙ (length-map-range_with_len (body_of image) 0 lines ∙ (lines_are ∙ sym same_lines));
  contexts = ap length contexts_are ∙ (length-map-range_with_len (context_start image) 0 count ∙ (count_is ∙ sym same_contexts));
}

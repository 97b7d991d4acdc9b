use Rattle.std.proofs.Common.{◌≡◌, List, [], ℕ, Bool, false, Option, None}
use Rattle.sparc_asm.specs.Names.{value_in}
use Rattle.sparc_asm.specs.declared.names.Value.{Value}
use Rattle.sparc_place.specs.Marks.{is_context_marked}
use Rattle.sparc_place.proofs.Sets.{no_context}
use Rattle.sparc_place.proofs.plans.Plan.empty.Goals as goal

pub returns : goal.returns
returns c =
    let nothing : List ℕ → Option Value = λ name. None in
    let names : value_in c.empty.result ≡ nothing = λ i name. c.empty.ensures name i in
    let nobody : ℕ → ℕ → Bool = λ n s. false in
    let started : is_context_marked [] ≡ nobody = λ i n s. no_context n s i in
    rw (names, c.empty-2.ensures, c.empty-3.ensures, c.empty-4.ensures, started)

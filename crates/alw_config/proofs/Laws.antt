-- No words both are refused and ask for something, nor do they ask for two things.
use Rattle.std.proofs.Common.{◌≡◌, ℕ}
use Rattle.std.proofs.Common.{List, sym, ◌∙◌, ⊎_elim}
use Rattle.std.specs.Prelude.{None, Some}
use Rattle.std.proofs.lemmas.Bool.{true≢false}
use Rattle.std.proofs.lemmas.Option.{same_Some}
use Rattle.alw_config.specs.declared.commands.Asked.{Asked}
use Rattle.alw_config.specs.Places.{IsRefusedAt, AskFor}

-- no words both are refused and ask for something
pub not_both : (words : List (List ℕ)) (at : ℕ) (it : Asked) → IsRefusedAt words at → AskFor words it → ⊥
not_both words at it refused right =
    ⊎_elim (λ bad. true≢false (sym bad.here ∙ right.right at)) (λ misfit. absurd (let e : Some at ≡ None = sym misfit.1 ∙ right.fits in cc)) refused

pub one_asked : (words : List (List ℕ)) (one other : Asked) → AskFor words one → AskFor words other → one ≡ other
one_asked words one other right as_well = same_Some one other (sym right.asks ∙ as_well.asks)

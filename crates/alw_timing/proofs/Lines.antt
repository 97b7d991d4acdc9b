-- Lines of moments.
use Rattle.std.proofs.Common.{◌≡◌, List, [], ◌∷◌, length, refl, arith}
use Rattle.alw_msg.specs.declared.events.Entry.{Entry}
use Rattle.alw_times.specs.declared.happenings.Span.{Span}
use Rattle.alw_timing.specs.Texts.{moment_lines}

-- behind the last span no line is left
pub no_lines : (entries : List Entry) (spans : List Span) → length spans ≡ 0 → moment_lines entries spans ≡ []
no_lines [] spans none = refl
no_lines (entry ∷ rest) [] none = refl
no_lines (entry ∷ rest) (span ∷ spans) none = absurd (omega (arith, none))

-- A replay of the merge of local runs whose links agree keeps all of it.
use Rattle.std.proofs.Common.{◌≡◌, ℕ, length, take, sym, subst, ap, ◌∙◌, arith}
use Rattle.std.proofs.lemmas.List.{take_all}
use Rattle.alw_image.specs.declared.parts.Parts.{Parts}
use Rattle.alw_image.specs.Parameters.{Parameters}
use Rattle.alw_model.specs.Machine.{IsLegal}
use Rattle.alw_model.specs.Threads.{Logs, merged}
use Rattle.alw_mesh.specs.Histories.{History}
use Rattle.law_order.specs.Merges.{AreLocalRuns}
use Rattle.law_order.proofs.Merging.{merged_legal}
use Rattle.alw_replay.specs.Replays.{IsReplayed}

pub keeps_all : (parts : Parts) (parameters : Parameters) (logs : Logs) → AreLocalRuns parts parameters logs → (machine : History) (kept : ℕ) → IsReplayed parts parameters (merged logs) machine kept
    → kept ≡ length (merged logs)
keeps_all parts parameters logs runs machine kept is =
    let whole : IsLegal parts parameters (take (length (merged logs)) (merged logs)) = subst (IsLegal parts parameters) (sym (take_all (length (merged logs)) (merged logs) (omega arith))) (merged_legal parts parameters logs runs) in
    omega (arith, is.few, is.longest (length (merged logs)) (omega arith) whole)

pub has_all : (parts : Parts) (parameters : Parameters) (logs : Logs) → AreLocalRuns parts parameters logs → (machine : History) (kept : ℕ) → IsReplayed parts parameters (merged logs) machine kept
    → machine.journal ≡ merged logs
has_all parts parameters logs runs machine kept is =
    ap (λ (h : History). h.journal) is.is ∙ take_all kept (merged logs) (omega (arith, keeps_all parts parameters logs runs machine kept is))

-- What is found first is the claim's verdict.
use Rattle.std.proofs.Common.{◌≡◌, ℕ, ◌*◌, ◌^◌, ◌<◌, ◌≤◌, List, sym, ap, subst, ◌∙◌, arith}
use Rattle.std.proofs.lemmas.Nat.{mul-le}
use Rattle.std.specs.List.{AllByRecursion}
use Rattle.alw_num.specs.Limits.{shared_base}
use Rattle.alw_image.specs.declared.parts.Parts.{Parts}
use Rattle.alw_image.specs.Images.{IsImage, context_count, line_count}
use Rattle.alw_model.specs.Flat.{Flat, flat_start, turns_after, turns_print, flat_after, flat_prints}
use Rattle.alw_flat.specs.Machines.{FlatMachine, for_turns}
use Rattle.alw_trace.specs.declared.values.Claim.{Claim}
use Rattle.alw_audit.specs.declared.verdicts.Difference.{Difference}
use Rattle.alw_audit.specs.declared.verdicts.Verdict.{Verdict}
use Rattle.alw_audit.specs.declared.verdicts.Verdict.TheVariants.{Sound, Differs}
use Rattle.alw_audit.specs.Verdicts.{or_else, turns_verdict, prints_verdict, words_verdict, verdict_of}
use Rattle.alw_audit.proofs.TurnRuns.{same_verdict, same_after, same_prints}

-- the machine at the start
abbrev pub IsStarted : Parts → FlatMachine → Type 0
IsStarted parts machine = machine ≡ record { parts = for_turns parts; flat = flat_start parts }

pub contexts_exist : (parts : Parts) (machine : FlatMachine) (turns list : List ℕ) → IsStarted parts machine → list ≡ turns → AllByRecursion (λ context. context < context_count parts) turns → AllByRecursion (λ context. context < context_count machine.parts) list
contexts_exist parts machine turns list started same all =
    subst (λ (m : FlatMachine). AllByRecursion (λ context. context < context_count m.parts) list) (sym started) (subst (λ (l : List ℕ). AllByRecursion (λ context. context < context_count parts) l) (sym same) all)

pub few_lines : (parts : Parts) → IsImage parts → parts.width * parts.height * parts.per_node ≤ 2 ^ 20
few_lines parts image = omega (arith, mul-le (parts.width * parts.height) parts.per_node 256 4096 (mul-le parts.width parts.height 16 16 image.width.1 image.height.1) image.per_node.1)

-- ---- the three tests

turns_are : (claim : Claim) (machine : FlatMachine) (list : List ℕ) (found : Verdict) → IsStarted claim.image machine → list ≡ claim.turns → found ≡ turns_verdict machine.parts machine.flat 0 list → found ≡ turns_verdict claim.image (flat_start claim.image) 0 claim.turns
turns_are claim machine list found started same is =
    is ∙ ap (λ (m : FlatMachine). turns_verdict m.parts m.flat 0 list) started ∙ same_verdict claim.image (flat_start claim.image) 0 list ∙ ap (turns_verdict claim.image (flat_start claim.image) 0) same

pub prints_are : (claim : Claim) (machine : FlatMachine) (list : List ℕ) (prints : List (ℕ × ℕ)) → IsStarted claim.image machine → list ≡ claim.turns → prints ≡ turns_print machine.parts machine.flat list → prints ≡ flat_prints claim.image claim.turns
unfolding flat_prints
prints_are claim machine list prints started same is =
    is ∙ ap (λ (m : FlatMachine). turns_print m.parts m.flat list) started ∙ same_prints claim.image (flat_start claim.image) list ∙ ap (turns_print claim.image (flat_start claim.image)) same

after_is : (claim : Claim) (machine after : FlatMachine) (list : List ℕ) → IsStarted claim.image machine → list ≡ claim.turns → after ≡ record machine { flat = turns_after machine.parts machine.flat list } → after.flat ≡ flat_after claim.image claim.turns
unfolding flat_after
after_is claim machine after list started same is =
    ap (λ (m : FlatMachine). m.flat) is ∙ ap (λ (m : FlatMachine). turns_after m.parts m.flat list) started ∙ same_after claim.image (flat_start claim.image) list ∙ ap (turns_after claim.image (flat_start claim.image)) same

-- a turn differs
pub turn_found : (claim : Claim) (machine : FlatMachine) (list : List ℕ) (found : Verdict) (place : Difference) (claimed real : ℕ) → IsStarted claim.image machine → list ≡ claim.turns → found ≡ turns_verdict machine.parts machine.flat 0 list → found ≡ Differs place claimed real
    → found ≡ verdict_of claim
unfolding verdict_of
turn_found claim machine list found place claimed real started same is differs =
    let rest = or_else (prints_verdict claim.prints (flat_prints claim.image claim.turns)) (words_verdict claim.memory (flat_after claim.image claim.turns) shared_base (4 * line_count claim.image)) in
    differs ∙ ap (λ (v : Verdict). or_else v rest) (sym differs) ∙ ap (λ (v : Verdict). or_else v rest) (turns_are claim machine list found started same is)

-- no turn does, and a print differs
pub print_found : (claim : Claim) (machine : FlatMachine) (list : List ℕ) (turns found : Verdict) (claims prints : List (ℕ × ℕ)) (place : Difference) (claimed real : ℕ) → IsStarted claim.image machine → list ≡ claim.turns → turns ≡ turns_verdict machine.parts machine.flat 0 list → turns ≡ Sound
    → claims ≡ claim.prints → prints ≡ flat_prints claim.image claim.turns → found ≡ prints_verdict claims prints → found ≡ Differs place claimed real → found ≡ verdict_of claim
unfolding verdict_of
print_found claim machine list turns found claims prints place claimed real started same is sound claims_are real_are printed differs =
    let rest = words_verdict claim.memory (flat_after claim.image claim.turns) shared_base (4 * line_count claim.image) in
    let second : found ≡ prints_verdict claim.prints (flat_prints claim.image claim.turns) = printed ∙ ap (λ (c : List (ℕ × ℕ)). prints_verdict c prints) claims_are ∙ ap (prints_verdict claim.prints) real_are in
    differs ∙ ap (λ (v : Verdict). or_else v rest) (sym differs) ∙ ap (λ (v : Verdict). or_else v rest) second
    ∙ ap (λ (v : Verdict). or_else v (or_else (prints_verdict claim.prints (flat_prints claim.image claim.turns)) rest)) (sym sound ∙ turns_are claim machine list turns started same is)

-- neither a turn nor a print does
pub words_left : (claim : Claim) (machine after : FlatMachine) (list : List ℕ) (turns printed found : Verdict) (claims prints memory : List (ℕ × ℕ)) (lines : ℕ) → IsStarted claim.image machine → list ≡ claim.turns → turns ≡ turns_verdict machine.parts machine.flat 0 list → turns ≡ Sound
    → claims ≡ claim.prints → prints ≡ flat_prints claim.image claim.turns → printed ≡ prints_verdict claims prints → printed ≡ Sound
    → after ≡ record machine { flat = turns_after machine.parts machine.flat list } → memory ≡ claim.memory → lines ≡ line_count claim.image → found ≡ words_verdict memory after.flat shared_base (4 * lines) → found ≡ verdict_of claim
unfolding verdict_of
words_left claim machine after list turns printed found claims prints memory lines started same is sound claims_are real_are printed_is printed_sound state memory_is lines_are last =
    let rest = words_verdict claim.memory (flat_after claim.image claim.turns) shared_base (4 * line_count claim.image) in
    let second : Sound ≡ prints_verdict claim.prints (flat_prints claim.image claim.turns) = sym printed_sound ∙ printed_is ∙ ap (λ (c : List (ℕ × ℕ)). prints_verdict c prints) claims_are ∙ ap (prints_verdict claim.prints) real_are in
    last ∙ ap (λ (m : List (ℕ × ℕ)). words_verdict m after.flat shared_base (4 * lines)) memory_is ∙ ap (λ (f : Flat). words_verdict claim.memory f shared_base (4 * lines)) (after_is claim machine after list started same state)
    ∙ ap (λ (n : ℕ). words_verdict claim.memory (flat_after claim.image claim.turns) shared_base (4 * n)) lines_are
    ∙ ap (λ (v : Verdict). or_else v rest) second
    ∙ ap (λ (v : Verdict). or_else v (or_else (prints_verdict claim.prints (flat_prints claim.image claim.turns)) rest)) (sym sound ∙ turns_are claim machine list turns started same is)

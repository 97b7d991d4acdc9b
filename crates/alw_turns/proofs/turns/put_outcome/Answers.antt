-- What was read is of a turn of the machine's image.
use Rattle.std.proofs.Common.{◌≡◌, List, ℕ, sym, ap, ◌∙◌, subst}
use Rattle.alw_image.specs.declared.parts.Parts.{Parts}
use Rattle.alw_image.specs.Images.{line_count}
use Rattle.alw_effects.specs.Before.{IsBeforeTurn}
use Rattle.alw_turns.proofs.turns.put_outcome.Goals as goal

pub put_effect-requires : goal.put_effect-requires
put_effect-requires c =
    let image = c.args.machine.now.image in
    let code : image.code ≡ c.words-code.result.now = sym (c.words-code.ensures ∙ (c.code.ensures.code ∙ ap (λ (p : Parts). p.code) c.image.ensures)) in
    subst (λ (words : List ℕ). IsBeforeTurn words c.args.seen.now.before) code (record { lines = line_count image; need = c.requires.need })

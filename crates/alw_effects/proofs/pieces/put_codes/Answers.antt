-- The flags behind their word.
use Rattle.std.proofs.Common.{ℕ, List, ◌++◌, codes, ap, ◌∙◌, append_assoc}
use Rattle.alw_effects.specs.Pieces.{flags_text, codes_text}
use Rattle.alw_effects.proofs.pieces.put_codes.Goals as goal

pub returns : goal.returns
unfolding codes_text
returns c =
    let flags = flags_text c.args.regs.now in
    c.in_ok-put_flags.ensures ∙ (ap (λ (text : List ℕ). text ++ flags) c.in_ok-put.ensures.ok ∙ append_assoc c.args.text.now (codes " codes ") flags)

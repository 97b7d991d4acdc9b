-- The digits behind the name.
use Rattle.std.proofs.Common.{ℕ, List, ◌++◌, codes, ap, ◌∙◌, append_assoc}
use Rattle.alw_text.specs.Numbers.{hex_byte}
use Rattle.alw_report.proofs.names.put_trap_type.Goals as goal

pub returns : goal.returns
returns c =
    c.in_ok-put_hex8.ensures.ok ∙ (ap (λ (t : List ℕ). t ++ hex_byte c.args.tt) c.in_ok-put.ensures.ok
    ∙ append_assoc c.args.text.now (codes "trapped ") (hex_byte c.args.tt))

-- The words of an end are ASCII, and so UTF-8.
use Rattle.std.proofs.Common.{◌<◌, ◌^◌, codes, refl}
use Rattle.std.specs.Fmt.{decimal}
use Rattle.std.specs.Str.{IsUtf8}
use Rattle.alw_text.specs.Numbers.{hex_word}
use Rattle.alw_json.proofs.Ascii.{word_low, joined, behind_word, decimal_utf8, word_utf8, byte_utf8}
use Rattle.alw_model.specs.declared.ends.TrapAt.{TrapAt}
use Rattle.alw_model.specs.declared.ends.Ended.TheVariants.{Trapped}
use Rattle.alw_report.specs.Reports.{ended_text}

-- ---- ends

pub trap_is_utf8 : (at : TrapAt) → at.tt < 2 ^ 8 → IsUtf8 (ended_text (Trapped at))
trap_is_utf8 at low =
    behind_word (codes "trapped node ") _ refl (joined (decimal at.node) _ (decimal_utf8 at.node)
    (behind_word (codes " slot ") _ refl (joined (decimal at.slot) _ (decimal_utf8 at.slot)
    (behind_word (codes " pc ") _ refl (joined (hex_word at.pc) _ (word_utf8 at.pc)
    (behind_word (codes " tt ") _ refl (byte_utf8 at.tt low)))))))

pub halted_is_utf8 : IsUtf8 (codes "halted")
halted_is_utf8 = word_low (codes "halted") refl

pub limit_is_utf8 : IsUtf8 (codes "limit")
limit_is_utf8 = word_low (codes "limit") refl

use Rattle.std.proofs.Common.{◌≡◌, ◌≢◌, ◌≤◌, ℕ, length, sym, ◌∙◌, subst, arith}
use Rattle.alw_image.specs.Images.{IsImage}
use Rattle.sparc_asm.specs.Names.{value_in}
use Rattle.sparc_asm.proofs.LineRanges.{lines_fit}
use Rattle.sparc_place.specs.Plans.{layout_of}
use Rattle.sparc_assemble.specs.declared.assembling.Assembled.{Assembled}
use Rattle.sparc_assemble.specs.Assembly.{Filled, parts_of}
use Rattle.sparc_assemble.specs.Fillings.{filled_of}
use Rattle.sparc_assemble.proofs.Allowed.{AreAddresses, is_image}
use Rattle.sparc_assemble.proofs.Starts.{all_sound}
use Rattle.sparc_assemble.proofs.Whole.{whole}
use Rattle.sparc_assemble.proofs.WordRanges.{assembled_words}
use Rattle.sparc_assemble.proofs.assembling.assemble.Goals as goal

pub fill_in-requires-clause-fits : goal.fill_in-requires-clause-fits
fill_in-requires-clause-fits c = lines_fit c.args.text.now c.in_ok-lines.lines c.in_ok-lines.ensures

pub checked-requires : goal.checked-requires
checked-requires c =
    let plan = c.in_ok-laid.laid.plan in
    let f : Filled = filled_of c.in_ok-filling.filling in
    let done = c.in_ok-filling.ensures.filled in
    let count : length f.words ≡ plan.cursor.code = c.in_ok-filling.ensures.count in
    let few : plan.cursor.code ≤ 65536 = omega (arith, c.code.ensures.range, c.code.ensures.count) in
    let some : 1 ≤ length f.words = omega (arith, c.code.ensures.count, c.if-code-eq0.false, count) in
    let sound = all_sound plan.cursor.code (value_in plan.names) c.in_ok-laid.laid.places c.in_ok-lines.lines few done.0 in
    let here : AreAddresses plan.cursor.code f.starts = subst (λ (g : Filled). AreAddresses plan.cursor.code g.starts) (sym done.1) sound in
    let starts : AreAddresses (length f.words) f.starts = subst (λ (n : ℕ). AreAddresses n f.starts) (sym count) here in
    let image : IsImage (parts_of (layout_of plan) f) = is_image plan f some (omega (arith, count, few)) starts in
    subst IsImage (sym c.in_ok-parts.ensures) image

pub returns-clause-answer : goal.returns-clause-answer
returns-clause-answer c =
    let plan = c.in_ok-laid.laid.plan in
    let f : Filled = filled_of c.in_ok-filling.filling in
    let done = c.in_ok-filling.ensures.filled in
    let some : plan.cursor.code ≢ 0 = λ none. c.if-code-eq0.false (c.code.ensures.count ∙ none) in
    let a : Assembled = record { image = c.checked.result; lines = c.in_ok-word_lines.word_lines } in
    whole c.args.text.now c.in_ok-lines.lines
    (layout_of plan) c.in_ok-laid.laid.places f a c.in_ok-lines.ensures c.in_ok-laid.ensures.0 c.in_ok-laid.ensures.1 done.0 done.1 some
    (c.checked.ensures ∙ c.in_ok-parts.ensures) c.in_ok-word_lines.ensures

pub returns-clause-words : goal.returns-clause-words
returns-clause-words c = assembled_words c.args.text.now _ (returns-clause-answer c)

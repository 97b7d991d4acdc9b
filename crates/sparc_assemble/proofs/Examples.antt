-- Worked sources, computed from the definitions.
use Rattle.std.proofs.Common.{◌≡◌, ℕ, List, [], ◌∷◌, codes, Result, Ok, Err, refl}
use Rattle.sparc_lex.specs.Cut.{line_tokens}
use Rattle.sparc_asm.specs.Mnemonics.{form_of, directive_of}
use Rattle.sparc_asm.specs.Statements.{statement_of}
use Rattle.sparc_asm.specs.Encoding.{coded}
use Rattle.sparc_asm.specs.Sources.{read_line, read_source}
use Rattle.sparc_assemble.specs.declared.assembling.Assembled.{Assembled}
use Rattle.sparc_assemble.specs.Assembly.{assembled}
use Rattle.alw_num.specs.declared.addresses.Line.{Line as Body}
use Rattle.alw_num.specs.declared.addresses.LineNo.{LineNo}
use Rattle.sparc_asm.specs.declared.faults.AsmErr.{AsmErr}
use Rattle.sparc_asm.specs.declared.faults.AsmErr.TheVariants.{Syntax, UnknownName, Redefined, Range, Unaligned, Overlap}

-- simm13 ends at 4095
wide_number : assembled (codes "add %g1,5000,%g2") ≡ Err (Range 1)
unfolding assembled read_source read_line line_tokens form_of directive_of statement_of coded
wide_number = refl

nowhere : assembled (codes "ba nowhere") ≡ Err (UnknownName 1)
unfolding assembled read_source read_line line_tokens form_of directive_of statement_of coded
nowhere = refl

twice : assembled (codes "x: nop\nx: nop") ≡ Err (Redefined 2)
unfolding assembled read_source read_line line_tokens form_of directive_of statement_of coded
twice = refl

crooked : assembled (codes ".shared 0\n.byte 1\n.word 2") ≡ Err (Unaligned 3)
unfolding assembled read_source read_line line_tokens form_of directive_of statement_of coded
crooked = refl

written_twice : assembled (codes ".shared 0\n.word 1\n.shared 0\n.byte 1") ≡ Err (Overlap 4)
unfolding assembled read_source read_line line_tokens form_of directive_of statement_of coded
written_twice = refl

no_such_name : assembled (codes "addd %g1,1,%g1") ≡ Err (Syntax 1)
unfolding assembled read_source read_line line_tokens form_of directive_of statement_of coded
no_such_name = refl

abbrev words_in : Result Assembled AsmErr → List ℕ
words_in (Ok w) = w.image.code
words_in (Err e) = []

abbrev lines_in : Result Assembled AsmErr → List ℕ
lines_in (Ok w) = w.lines
lines_in (Err e) = []

-- `set` has two words, and `tst` is `orcc %g0,r,%g0`
branching : words_in (assembled (codes "set 0x40000000,%g1\n tst %o0\n bne x\n nop\nx: ta 0")) ≡ 0x03100000 ∷ 0x82106000 ∷ 0x80900008 ∷ 0x12800002 ∷ 0x01000000 ∷ 0x91D02000 ∷ []
unfolding assembled read_source read_line line_tokens form_of directive_of statement_of coded
branching = refl

branching_lines : lines_in (assembled (codes "set 0x40000000,%g1\n tst %o0\n bne x\n nop\nx: ta 0")) ≡ 1 ∷ 1 ∷ 2 ∷ 3 ∷ 4 ∷ 5 ∷ []
unfolding assembled read_source read_line line_tokens form_of directive_of statement_of coded
branching_lines = refl

-- a data line of zeros isn't listed
bodies_in : Result Assembled AsmErr → List (LineNo × Body)
bodies_in (Ok w) = w.image.bodies
bodies_in (Err e) = []

listed : bodies_in (assembled (codes ".lines 2\nnop\n.shared 0\n.word 0\n.shared 16\n.half -1,258")) ≡ (record { 0 = 1 }, record { a = 0xFFFF0102; b = 0; c = 0; d = 0 }) ∷ []
unfolding bodies_in assembled read_source read_line line_tokens form_of directive_of statement_of coded
listed = refl

-- a negative node is no context, so its second start is out of range
no_context : assembled (codes "nop\n.start 0,0,0\n.start -1,0,0") ≡ Err (Range 3)
unfolding assembled read_source read_line line_tokens form_of directive_of statement_of coded
no_context = refl

no_word : assembled (codes "! nothing") ≡ Err (Range 0)
unfolding assembled read_source read_line line_tokens form_of directive_of statement_of coded
no_word = refl

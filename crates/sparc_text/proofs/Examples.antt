-- Worked statements, one for each row of the table at least, and words that are written as data.
use Rattle.std.proofs.Common.{◌≡◌, [], ◌∷◌, codes, refl}
use Rattle.std.specs.Fmt.{digits}
use Rattle.sparc_table.specs.Table.{instr_of}
use Rattle.alw_text.specs.Numbers.{hex_digits}
use Rattle.sparc_text.specs.Statements.{register_text, three_text, call_text, high_text, branch_text, bracketed, statement_text, statement_at}

call_back : statement_text 16 0x7fffffff ≡ codes "call 0x0000000c"
unfolding statement_text instr_of call_text hex_digits
call_back = refl

high : statement_text 0 0x11000001 ≡ codes "sethi %hi(0x00000400),%o0"
unfolding statement_text instr_of high_text register_text hex_digits
high = refl

nothing : statement_text 0 0x01000000 ≡ codes "nop"
unfolding statement_text instr_of
nothing = refl

branch_back : statement_text 16 0x32bffffe ≡ codes "bne,a 0x00000008"
unfolding statement_text instr_of branch_text hex_digits
branch_back = refl

branch_below : statement_text 4 0x32bffffe ≡ codes ".word 0x32bffffe"
unfolding statement_text instr_of hex_digits
branch_below = refl

move : statement_text 0 0x90102007 ≡ codes "or %g0,7,%o0"
unfolding statement_text instr_of three_text register_text digits
move = refl

compare : statement_text 0 0x80a23fff ≡ codes "subcc %o0,-1,%g0"
unfolding statement_text instr_of three_text register_text digits
compare = refl

borrow : statement_text 0 0x90624009 ≡ codes "subx %o1,%o1,%o0"
unfolding statement_text instr_of three_text register_text
borrow = refl

shift : statement_text 0 0xa72c4012 ≡ codes "sll %l1,%l2,%l3"
unfolding statement_text instr_of three_text register_text
shift = refl

read_y : statement_text 0 0xb1400000 ≡ codes "rd %y,%i0"
unfolding statement_text instr_of register_text
read_y = refl

write_y : statement_text 0 0x81824000 ≡ codes "wr %o1,%g0,%y"
unfolding statement_text instr_of register_text
write_y = refl

back : statement_text 0 0x81c3e008 ≡ codes "jmpl %o7+8,%g0"
unfolding statement_text instr_of register_text digits
back = refl

print : statement_text 0 0x91d02001 ≡ codes "ta 1"
unfolding statement_text instr_of digits
print = refl

load : statement_text 0 0xd2023ffc ≡ codes "ld [%o0-4],%o1"
unfolding statement_text instr_of bracketed register_text digits
load = refl

store : statement_text 0 0xd2220000 ≡ codes "st %o1,[%o0]"
unfolding statement_text instr_of bracketed register_text
store = refl

exchange : statement_text 0 0xd27a000b ≡ codes "swap [%o0+%o3],%o1"
unfolding statement_text instr_of bracketed register_text
exchange = refl

outside : statement_text 0 0xffffffff ≡ codes ".word 0xffffffff"
unfolding statement_text instr_of hex_digits
outside = refl

beyond : statement_at (0x01000000 ∷ []) 4 ≡ codes "-"
beyond = refl

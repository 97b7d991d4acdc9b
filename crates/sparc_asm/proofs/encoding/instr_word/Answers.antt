use Rattle.sparc_asm.proofs.InstrWords.{word_is}
use Rattle.sparc_asm.proofs.encoding.instr_word.Goals as goal

pub returns : goal.returns
returns c = word_is c.args.instr.now c.encode.result c.requires c.encode.ensures.only

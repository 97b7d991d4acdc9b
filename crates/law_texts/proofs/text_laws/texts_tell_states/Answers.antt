-- Two machines have one text exactly where they are the same.
use Rattle.law_texts.proofs.Laws.{one_text}
use Rattle.law_texts.proofs.text_laws.texts_tell_states.Goals as goal

pub returns : goal.returns
returns c = one_text

-- The induction over a journal.
use Rattle.law_texts.proofs.Journals.{always_words}
use Rattle.law_texts.proofs.word_laws.machines_have_words.Goals as goal

pub returns : goal.returns
returns c = always_words

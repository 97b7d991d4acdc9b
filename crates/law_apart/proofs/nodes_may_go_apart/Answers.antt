-- By runs in turn: the node goes first where its last picture is looked at, and whatever the order is all comes to one.
use Rattle.law_apart.specs.Apart.{nodes_of, parts_of}
use Rattle.law_apart.proofs.Whole.{turns, told, shows, all_latest, shows_sorted}
use Rattle.law_apart.proofs.nodes_may_go_apart.Goals as goal

pub returns-clause-turns : goal.returns-clause-turns
returns-clause-turns c = turns

pub returns-clause-told : goal.returns-clause-told
returns-clause-told c = λ h costs from pictures own run apart. told h costs from pictures own run apart (nodes_of h) (parts_of h own) (turns h costs from pictures own run apart)

pub returns-clause-shows : goal.returns-clause-shows
returns-clause-shows c = shows

pub returns-clause-latest : goal.returns-clause-latest
returns-clause-latest c = all_latest

pub returns-clause-sorted : goal.returns-clause-sorted
returns-clause-sorted c = λ h costs from pictures own run apart sorted sort n exists. shows_sorted h costs from pictures own run apart n exists sorted sort

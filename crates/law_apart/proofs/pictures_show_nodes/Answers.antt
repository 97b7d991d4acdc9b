-- By what a node sees of a machine and of the picture.
use Rattle.law_apart.specs.Pictures.{picture_of}
use Rattle.law_apart.proofs.Come.{put_all}
use Rattle.law_apart.proofs.Shows.{comes_alike, start_alike, own_shows, sends_alike, others_show, exact_next, more_next}
use Rattle.law_apart.proofs.pictures_show_nodes.Goals as goal

pub returns-clause-comes : goal.returns-clause-comes
returns-clause-comes c = λ h costs n bound part run holds exists is shows. comes_alike h costs n bound part run holds is shows

pub returns-clause-starts : goal.returns-clause-starts
returns-clause-starts c = λ h costs n bound part run holds exists is shows. start_alike h costs n bound part run holds is shows

pub returns-clause-own : goal.returns-clause-own
returns-clause-own c = λ h costs n bound part run holds exists is shows. own_shows h costs n bound part run holds is shows

pub returns-clause-sends : goal.returns-clause-sends
returns-clause-sends c = λ h costs n bound part run holds exists is shows. sends_alike h costs n bound part run holds is shows

pub returns-clause-others : goal.returns-clause-others
returns-clause-others c = λ h costs n bound part run holds exists is shows. others_show h costs n bound part run holds is shows exists

pub returns-clause-exact : goal.returns-clause-exact
returns-clause-exact c = exact_next

pub returns-clause-more : goal.returns-clause-more
returns-clause-more c = λ h costs n come part run exists is shows. more_next h costs n come part run exists shows

pub returns-clause-put : goal.returns-clause-put
returns-clause-put c = λ h costs n come part run exists is shows. put_all h.image n exists (picture_of h costs) part come is shows

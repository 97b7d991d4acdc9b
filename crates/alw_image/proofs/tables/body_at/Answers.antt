use Rattle.alw_image.proofs.Members.{body_read}
use Rattle.alw_image.proofs.tables.body_at.Goals as goal

pub returns-clause-found : goal.returns-clause-found
returns-clause-found c = body_read _ _ _ _ _ _ _ _ _ _ _ c.in_ok-number.ensures.range c.in_ok-a.ensures.range c.in_ok-b.ensures.range c.in_ok-c.ensures.range c.in_ok-d.ensures.range
    c.in_ok-number.ensures.found c.in_ok-a.ensures.found c.in_ok-b.ensures.found c.in_ok-c.ensures.found c.in_ok-d.ensures.found

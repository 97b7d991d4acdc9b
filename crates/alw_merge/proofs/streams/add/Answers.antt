use Rattle.std.proofs.Common.{Option, ◌∷◌, [], ℕ, sym, subst}
use Rattle.alw_msg.specs.declared.events.Entry.{Entry}
use Rattle.alw_merge.specs.Heads.{HaveJoined}
use Rattle.alw_merge.specs.Streams.{heads_of}
use Rattle.alw_merge.proofs.streams.add.Goals as goal

pub returns-in-Some-clause-joins : goal.returns-in-Some-clause-joins
returns-in-Some-clause-joins c =
    subst (λ (o : Option Entry). HaveJoined c.args.heads.now.heads (heads_of c.args.log o) c.push.new.self.heads) (sym c.in-Some.is)
    (subst (λ (n : ℕ). HaveJoined c.args.heads.now.heads (n ∷ []) c.push.new.self.heads) c.key.ensures.key c.push.ensures.joins)

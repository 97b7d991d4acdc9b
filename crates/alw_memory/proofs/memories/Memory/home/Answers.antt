-- What is told of an entry is the entry's.
use Rattle.std.proofs.Common.{refl}
use Rattle.dir_soft.specs.Tables.{set_of_line}
use Rattle.alw_memory.proofs.Entries.{shows}
use Rattle.alw_memory.proofs.Events.{seen}
use Rattle.alw_memory.proofs.memories.Memory.home.Goals as goal

pub returns : goal.returns
returns c =
    let home = c.index-home.result.now in
    shows _ _ home.entry (set_of_line c.self.inside.soft c.args.line.0) home.always
    (seen c.self.inside c.args.self.now c.self.view_is c.self.invariant c.args.line.0 c.place.result c.place.ensures.place home c.index-home.ensures c.requires)
    c.pointers.ensures.set c.set.ensures refl refl refl refl

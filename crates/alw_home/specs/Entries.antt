-- A home's entry as hardware keeps it, seen as the definitions have it.
use Rattle.std.specs.Prelude.{Bool}
use Rattle.alw_num.specs.NodeSets.{Nodes}
use Rattle.dir_hw.specs.declared.entries.HomeEntry.{HomeEntry}
use Rattle.alw_model.specs.FullMap.{Home}
use Rattle.alw_model.specs.LimitLess.{Directory}

-- the entry, with this software set, of a line that the image lists or doesn't
abbrev pub directory_of : HomeEntry → Nodes → Bool → Directory
directory_of entry software always = record { state = entry.state; meta = entry.meta; hardware = entry.pointers; software = software; acks = entry.acks; body = entry.body; always = always }

-- the entry with this set as P
abbrev pub home_of : HomeEntry → Nodes → Home
home_of entry pointers = record { state = entry.state; pointers = pointers; acks = entry.acks; body = entry.body }

-- the entry with state, counter and bytes of another
abbrev pub with_home : HomeEntry → Home → HomeEntry
with_home entry home = record entry { state = home.state; acks = home.acks; body = home.body }

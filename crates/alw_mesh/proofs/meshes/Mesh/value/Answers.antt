-- A Read-Write home says where its line is.
use Rattle.std.proofs.Common.{sym, ◌∙◌}
use Rattle.alw_mesh.proofs.meshes.Mesh.value.Goals as goal

pub owned_value-requires-clause-owned : goal.owned_value-requires-clause-owned
owned_value-requires-clause-owned c = c.requires.owned (sym c.home-home.ensures.state ∙ c.in-RW.is)

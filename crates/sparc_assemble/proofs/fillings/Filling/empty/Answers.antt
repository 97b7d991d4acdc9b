use Rattle.std.proofs.Common.{◌≡◌, [], ℕ, Option, None}
use Rattle.sparc_assemble.specs.Fillings.{address_in}
use Rattle.sparc_assemble.proofs.Tables.{no_address}
use Rattle.sparc_assemble.proofs.fillings.Filling.empty.Goals as goal

pub returns : goal.returns
returns c =
    let nowhere : ℕ → ℕ → Option ℕ = λ n s. None in
    let starts : address_in [] ≡ nowhere = λ i n s. no_address n s i in
    rw (c.empty.ensures, c.empty-2.ensures, c.empty-3.ensures, starts)

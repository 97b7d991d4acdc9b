use Rattle.std.proofs.Common.{◌≡◌, ◌++◌, sym, ap, ◌∙◌, refl, Some, drop, List, ℕ}
use Rattle.alw_image.specs.Images.{spelling, IsImage}
use Rattle.alw_image.specs.Faults.{parts_in, tables_fault, bodies_at, starts_at}
use Rattle.alw_image.specs.declared.headers.Header.{Header}
use Rattle.alw_image.specs.Spellings.{header_bytes}
use Rattle.alw_image.proofs.Checked.{sizes_of, is_image}
use Rattle.alw_image.proofs.Readings.{sizes_read, fault_of, spelled_so, parts_are}
use Rattle.alw_image.proofs.reading.read_image.Goals as goal

pub tables_fault-requires-clause-sizes : goal.tables_fault-requires-clause-sizes
tables_fault-requires-clause-sizes c = sizes_read c.header_at.result.0 c.args.bytes.now c.in_ok-parts.parts c.in_default-size_fault.ensures.fits c.in_ok-parts.ensures

pub checked-requires : goal.checked-requires
checked-requires c =
    is_image c.in_ok-parts.parts _ _ _ (sizes_of c.in_ok-parts.parts (sizes_read c.header_at.result.0 c.args.bytes.now c.in_ok-parts.parts c.in_default-size_fault.ensures.fits c.in_ok-parts.ensures)) (sym c.tables_fault.ensures ∙ c.in-None.is)

pub returns-in-Some-tables_fault-clause-fault : goal.returns-in-Some-tables_fault-clause-fault
returns-in-Some-tables_fault-clause-fault c = λ other.
    fault_of c.header_at.result.0 c.args.bytes.now c.in_ok-parts.parts _ (Some c.in-Some-tables_fault.fault) c.header_at.ensures.header refl c.in_default.ensures.none c.in_default-size_fault.ensures.none c.in_ok-parts.ensures
    (sym c.in-Some-tables_fault.is ∙ c.tables_fault.ensures ∙ ap (λ (n : ℕ). tables_fault c.in_ok-parts.parts n c.starts_at.result c.always_at.result) c.bodies_at.ensures
    ∙ ap (λ (n : ℕ). tables_fault c.in_ok-parts.parts (bodies_at c.header_at.result.0) n c.always_at.result) c.starts_at.ensures
    ∙ ap (λ (n : ℕ). tables_fault c.in_ok-parts.parts (bodies_at c.header_at.result.0) (starts_at c.header_at.result.0) n) c.always_at.ensures)

pub returns-in-None-clause-found : goal.returns-in-None-clause-found
returns-in-None-clause-found c =
    let image : IsImage c.in_ok-parts.parts = is_image c.in_ok-parts.parts _ _ _ (sizes_of c.in_ok-parts.parts (sizes_read c.header_at.result.0 c.args.bytes.now c.in_ok-parts.parts c.in_default-size_fault.ensures.fits c.in_ok-parts.ensures)) (sym c.tables_fault.ensures ∙ c.in-None.is) in
    let front : c.args.bytes.now ≡ header_bytes c.header_at.result.0 ++ drop 28 c.args.bytes.now = c.header_at.ensures.spelled ∙ ap (λ (rest : List ℕ). header_bytes c.header_at.result.0 ++ rest) c.header_at.ensures.rest in
    spelled_so c.header_at.result.0 c.args.bytes.now c.in_ok-parts.parts c.header_at.ensures.header c.in_default.ensures.version front c.in_default-size_fault.ensures.fits c.in_default-size_fault.ensures.whole c.in_ok-parts.ensures image
    ∙ ap spelling (sym c.checked.ensures)

pub returns-in-None-clause-parts : goal.returns-in-None-clause-parts
returns-in-None-clause-parts c = c.checked.ensures ∙ sym (parts_are c.header_at.result.0 c.args.bytes.now c.in_ok-parts.parts c.in_ok-parts.ensures) ∙ ap (λ (h : Header). parts_in h c.args.bytes.now) c.header_at.ensures.header

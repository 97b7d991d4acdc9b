-- Each exit, by what was read, taken again, and compared.
use Rattle.std.proofs.Common.{refl}
use Rattle.std.proofs.lemmas.Result.{err_from_is_err_and}
use Rattle.alw_mesh.specs.Histories.{state_of}
use Rattle.alw_save.specs.Checkpoints.{state_part}
use Rattle.alw_save.proofs.Restored.{text_refused, refused, differs, restored}
use Rattle.alw_save.proofs.restores.restore.Goals as goal

pub returns-in_err-front : goal.returns-in_err-front
returns-in_err-front c =
    let stop = err_from_is_err_and c.from_residual.result c.from_residual.ensures.1 in
    rw (stop.1, stop.2) (text_refused c.args.bytes.now c.args.evict _ c.in_err-front.ensures.err)

pub returns-in_err-machine : goal.returns-in_err-machine
returns-in_err-machine c =
    let stop = err_from_is_err_and c.from_residual-in_err-machine.result c.from_residual-in_err-machine.ensures.1 in
    let read = c.in_ok-front.ensures.ok in
    rw (stop.1, stop.2) (refused c.args.bytes.now c.in_ok-front.rest.now c.in_ok-front.front read c.args.evict c.in_err-machine.field-0.0 c.in_err-machine.ensures)

pub returns-in-None : goal.returns-in-None
returns-in-None c =
    let machine = c.in_ok-machine.machine in
    let same = rw c.in-None.is at c.in_ok-difference.ensures.differs in
    restored c.args.bytes.now c.in_ok-front.rest.now c.in_ok-front.front c.in_ok-front.ensures.ok c.args.evict machine c.in_ok-machine.ensures
    (state_part machine.image (state_of machine)) refl same

pub returns-in-Some : goal.returns-in-Some
returns-in-Some c =
    let machine = c.in_ok-machine.machine in
    let apart = rw c.in-Some.is at c.in_ok-difference.ensures.differs in
    differs c.args.bytes.now c.in_ok-front.rest.now c.in_ok-front.front c.in_ok-front.ensures.ok c.args.evict machine c.in_ok-machine.ensures
    (state_part machine.image (state_of machine)) refl
    c.in-Some.agreed _ apart refl

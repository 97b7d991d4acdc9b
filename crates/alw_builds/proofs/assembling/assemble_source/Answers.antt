use Rattle.std.proofs.lemmas.Result.{err_from_is_err_and}
use Rattle.alw_builds.specs.Assembling.{Assembles}
use Rattle.alw_builds.proofs.Listing.{one_line_each}
use Rattle.alw_builds.proofs.Refused.{no_source}
use Rattle.alw_builds.proofs.assembling.assemble_source.Goals as goal

pub text_of-requires : goal.text_of-requires
text_of-requires c = one_line_each c.args.source.now c.in_ok-assembled.assembled c.in_ok-assembled.ensures.answer

pub returns-in_err-assembled : goal.returns-in_err-assembled
returns-in_err-assembled c =
    let stop = err_from_is_err_and c.from_residual.result c.from_residual.ensures.1 in
    rw (stop.1, stop.2) (no_source (Assembles c.args.form c.args.source.now) c.args.source.now c.in_err-assembled.field-0.0 c.in_err-assembled.ensures.answer)

use Rattle.std.proofs.Common.{◌++◌, take, arith, length-append}
use Rattle.std.proofs.lemmas.Result.{err_from_is_err_and}
use Rattle.std.proofs.KnownBytes.{Consumes-trans}
use Rattle.alw_io.proofs.whole.read_all.Goals as goal

-- the piece that doesn't fit was taken too
pub returns-then-count-max-clause-took : goal.returns-then-count-max-clause-took
returns-then-count-max-clause-took g c = let kept = c.loop-bytes.bytes.items in let piece = take c.in_ok-count.count c.read.new.buf in record {
  taken = kept ++ piece;
  from_front = Consumes-trans _ _ _ _ _ c.loop-bytes.invariant.from_front c.in_ok-count.ensures.bytes.0;
  told = omega (arith, c.in_ok-count.ensures.bound, c.len.ensures, c.loop-bytes.bytes.ok.0, length-append kept piece);
}

-- so was the piece for which memory was refused
pub returns-in_err-extend_from_slice-clause-took :
    goal.returns-in_err-extend_from_slice-clause-took
returns-in_err-extend_from_slice-clause-took g c =
    let kept = c.loop-bytes.bytes.items in let piece = take c.in_ok-count.count c.read.new.buf in
    let refused = err_from_is_err_and c.from_residual-in_err-extend_from_slice.result c.from_residual-in_err-extend_from_slice.ensures.1 in
    rw (refused.1, refused.2) (record {
      taken = kept ++ piece;
      from_front = Consumes-trans _ _ _ _ _ c.loop-bytes.invariant.from_front c.in_ok-count.ensures.bytes.0;
      told = omega (arith, c.in_ok-count.ensures.bound, c.len.ensures, c.loop-bytes.bytes.ok.0, length-append kept piece);
    })

use Rattle.sparc_exec.proofs.Products.{product_is}
use Rattle.sparc_exec.proofs.arithmetic.multiply_signed.Goals as goal

pub returns : goal.returns
returns c = rw (c.cast_unsigned.ensures, c.from.ensures, c.from-2.ensures, c.cast_signed.ensures, c.cast_signed-2.ensures) (product_is _ _ c.ranges.x.fits c.ranges.y.fits)

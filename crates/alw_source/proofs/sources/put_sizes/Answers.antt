-- The four numbers behind their words, and the end of the last line.
use Rattle.std.proofs.Common.{◌≡◌, ℕ, List, ◌++◌, codes, append_assoc}
use Rattle.std.specs.Fmt.{decimal}
use Rattle.alw_source.specs.Sources.{sizes_text}
use Rattle.alw_source.proofs.sources.put_sizes.Goals as goal

joined : (t a p b q c r d s e : List ℕ) → (((t ++ (a ++ p)) ++ (b ++ q)) ++ (c ++ r)) ++ (d ++ s) ++ e ≡ t ++ (a ++ (p ++ (b ++ (q ++ (c ++ (r ++ (d ++ (s ++ e))))))))
joined t a p b q c r d s e = simp append_assoc

pub returns : goal.returns
unfolding sizes_text
returns c = rw (c.in_ok-put.ensures.ok, c.in_ok-put_number-4.ensures, c.in_ok-put_number-3.ensures, c.in_ok-put_number-2.ensures, c.in_ok-put_number.ensures, c.from.ensures, c.from-2.ensures, c.from-3.ensures, c.from-4.ensures)
    (joined c.args.text.now (codes ".mesh ") (decimal c.args.sizes.width) (codes ",") (decimal c.args.sizes.height) (codes "\n.contexts ") (decimal c.args.sizes.contexts) (codes "\n.lines ") (decimal c.args.sizes.per_node) (codes "\n"))

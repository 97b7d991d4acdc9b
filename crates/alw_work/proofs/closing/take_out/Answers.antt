-- The end is taken off the list of its node.
use Rattle.std.proofs.Common.{refl}
use Rattle.std.proofs.lemmas.Option.{slice_get_read}
use Rattle.alw_work.proofs.Finishing.{get_within}
use Rattle.alw_work.proofs.closing.take_out.Goals as goal

pub returns : goal.returns
returns c =
    let lefts = c.args.lefts.now.items in
    let was = c.index_mut.result.now in
    let below = get_within lefts c.args.from c.requires.left c.requires.here in
    record {
      was = was;
      now = record { cell = was.cell; outs = c.pop.new.self; ins = was.ins };
      here = slice_get_read lefts _ c.args.from was refl below c.index_mut.ensures.value;
      after_is = refl;
      cell = refl;
      ins = refl;
      outs = c.in-Some.ensures.items;
    }

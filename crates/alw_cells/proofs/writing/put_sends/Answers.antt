use Rattle.std.proofs.Common.{sym, subst, ap, ◌∙◌, ◌++◌, append-nil, length, arith}
use Rattle.std.specs.List.{AllByRecursion}
use Rattle.std.proofs.lemmas.List.{take_all}
use Rattle.alw_cells.specs.Layout.{half}
use Rattle.alw_cells.specs.Records.{FitsSend}
use Rattle.alw_cells.proofs.Gathered.{packed, more_fit, whole}
use Rattle.alw_cells.proofs.writing.put_sends.Goals as goal

pub loop-i-init : goal.loop-i-init
loop-i-init c = record {
  items = c.put_half.ensures.items ∙ ap (λ n. c.args.bytes.now.items ++ n) (ap half c.len.ensures ∙ sym (append-nil (half (length c.args.sent.now.messages))));
  len = omega (arith, c.put_half.ensures.len);
  room = c.put_half.ensures.room;
  fits = tt;
}

pub put_sent-requires : goal.put_sent-requires
put_sent-requires c = omega (arith, c.requires.room, c.loop-i.invariant.len, c.loop-i.invariant.room, c.loop-i-test.true, c.len-i-end.ensures)

pub loop-i-preserved : goal.loop-i-preserved
loop-i-preserved c = record {
  items = packed _ _ _ (half (length c.args.sent.now.messages)) c.args.sent.now.messages c.loop-i.i
      (c.at.result.0.0, c.at.result.1) c.loop-i.invariant.items c.at.ensures c.put_sent.ensures.items;
  len = omega (arith, c.loop-i.invariant.len, c.put_sent.ensures.len);
  room = omega (arith, c.loop-i.invariant.room, c.put_sent.ensures.room);
  fits = more_fit c.args.sent.now.messages c.loop-i.i (c.at.result.0.0, c.at.result.1) c.at.ensures c.loop-i.invariant.fits c.put_sent.ensures.fits;
}

pub returns-clause-items : goal.returns-clause-items
returns-clause-items c = whole _ _ c.args.sent.now.messages c.loop-i.i (omega (arith, c.loop-i-test.false, c.len-i-end.ensures)) c.loop-i.invariant.items

pub returns-clause-fits : goal.returns-clause-fits
returns-clause-fits c = subst (λ sends. AllByRecursion FitsSend sends)
    (take_all c.loop-i.i c.args.sent.now.messages (omega (arith, c.loop-i-test.false, c.len-i-end.ensures))) c.loop-i.invariant.fits

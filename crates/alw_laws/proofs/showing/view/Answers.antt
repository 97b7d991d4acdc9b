-- What is shown is the line's part of a machine that a legal journal leaves.
use Rattle.std.proofs.Common.{refl}
use Rattle.alw_laws.proofs.Shown.{journal_shown}
use Rattle.alw_laws.proofs.showing.view.Goals as goal

pub returns-clause-sound : goal.returns-clause-sound
returns-clause-sound c =
    let h = c.args.machine.now in
    let run = c.journal-run.ensures.run in
    journal_shown h.image run.image h.parameters run.parameters h.journal run.legal c.args.line.0 c.requires _ (record {
      line_is = refl;
      home_is = c.home_of.ensures.home;
      entry = c.home.ensures;
      copies = c.in_ok-copies.ensures;
      transactions = c.in_ok-transactions.ensures;
      links = c.in_ok-links.ensures;
      packet = c.packet.ensures;
    })

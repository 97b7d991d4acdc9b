-- The entry of one line more.
use Rattle.std.proofs.Common.{List, ◌++◌, sym, ap, ◌∙◌, arith}
use Rattle.alw_model.specs.Counts.{DirectoryLine, directory_line}
use Rattle.alw_model.specs.Lines.{entry_of}
use Rattle.alw_mesh.specs.Histories.{state_of}
use Rattle.alw_num.proofs.Lists.{number_more}
use Rattle.alw_told.proofs.telling.directory_of.Goals as goal

pub loop-line-preserved : goal.loop-line-preserved
loop-line-preserved c =
    let machine = c.args.machine.now in
    let here = directory_line c.loop-line.line (entry_of machine.image (state_of machine) c.loop-line.line) in
    let few = c.loop-line.invariant.few in
    let grown = c.in_ok-put_entry.ensures.few in
    record {
      lines = c.in_ok-put_entry.ensures.lines (entry_of machine.image (state_of machine) c.loop-line.line) c.home.ensures
          ∙ ap (λ (lines : List DirectoryLine). lines ++ here) c.loop-line.invariant.lines
          ∙ sym (number_more (λ line. directory_line line (entry_of machine.image (state_of machine) line)) c.loop-line.line);
      few = omega arith;
    }

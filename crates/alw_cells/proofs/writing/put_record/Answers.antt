-- Most events took and sent nothing, and the record of one is written at once.
use Rattle.std.proofs.Common.{not, ap, ◌∙◌}
use Rattle.alw_model.specs.Threads.{Logged}
use Rattle.alw_cells.proofs.Unpacking.{put_all, put_none}
use Rattle.alw_cells.proofs.writing.put_record.Goals as goal

pub returns-then-is_empty-clause-items : goal.returns-then-is_empty-clause-items
returns-then-is_empty-clause-items c =
    let one : Logged = record { entry = c.args.entry; taken = c.args.taken; sent = c.args.sent.now.messages } in
    put_none one _ _ (c.is_none.ensures ∙ ap not c.if-is_none.true) (c.is_empty.ensures.0 c.if-is_empty.true) c.put_plain.ensures.items

pub returns-clause-items : goal.returns-clause-items
returns-clause-items c =
    let one : Logged = record { entry = c.args.entry; taken = c.args.taken; sent = c.args.sent.now.messages } in
    put_all one _ _ _ _ c.put_entry.ensures.items c.put_taken.ensures.items c.put_sends.ensures.items

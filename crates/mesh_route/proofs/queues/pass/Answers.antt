use Rattle.std.proofs.Common.{[], ◌∷◌, ◌++◌, get_or, set, sym, ap, ◌∙◌}
use Rattle.std.proofs.lemmas.List.{get_or_read, get_or-set_other, length-set, set_comm}
use Rattle.alw_msg.specs.Lists.{behind}
use Rattle.mesh_route.proofs.queues.pass.Goals as goal

pub returns-clause-ok : goal.returns-clause-ok
returns-clause-ok c =
    let queues = c.args.queues.now.items in
    let read = get_or_read queues c.args.to c.index_mut.result.now c.requires.to c.index_mut.ensures.value [] in
    let read_from = get_or_read (set queues c.args.to c.push.new.self) c.args.from c.index_mut-2.result.now
    (rw (length-set queues c.args.to c.push.new.self) c.requires.from) c.index_mut-2.ensures.value []
    ∙ get_or-set_other queues c.args.to c.args.from c.push.new.self [] c.requires.apart in
    let left = behind (get_or queues c.args.from []) in
    let stays = get_or-set_other queues c.args.from c.args.to left [] (λ e. c.requires.apart (sym e)) in
    rw (c.pop.ensures, read_from, c.in_ok-push.ensures.ok, read) (set_comm queues c.args.to c.args.from _ _ (λ e. c.requires.apart (sym e))
    ∙ ap (λ xs. set (set queues c.args.from left) c.args.to (xs ++ c.args.packet ∷ [])) (sym stays))

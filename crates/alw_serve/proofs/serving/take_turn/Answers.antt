-- A turn is taken, or goes on, or something stands against it.
use Rattle.std.proofs.Common.{true, false, sym, subst, ◌∙◌, arith}
use Rattle.alw_mesh.proofs.Journals.{journal_fits}
use Rattle.alw_msg.specs.declared.events.Event.TheVariants.{Instr}
use Rattle.alw_serve.specs.Serving.{HasSettled}
use Rattle.alw_serve.proofs.Stepping.{hindered_at, taken_at, begun_at, far_longer}
use Rattle.alw_serve.proofs.serving.take_turn.Goals as goal

pub returns-in-Some : goal.returns-in-Some
returns-in-Some c =
    let so_far = c.loop-why.invariant in
    hindered_at c.args.machine.now c.args.context so_far.more so_far.way c.loop-why.machine so_far.after_is c.in-Some.ensures.run c.in-Some.why c.in-Some.ensures.why

pub returns-in-Turn : goal.returns-in-Turn
returns-in-Turn c =
    let so_far = c.loop-why.invariant in
    let passed = c.in_ok-take.ensures.0 in
    let told = c.in_ok-take.ensures.1 in
    taken_at c.args.machine.now c.args.context so_far.more so_far.way c.loop-why.machine so_far.after_is c.in_default.ensures.run c.in_default.ensures.why c.node_of-node.result c.node_of-node.ensures.node
    c.take.new.self passed.after_is passed.run c.in-Turn.slot c.in-Turn.outcome (sym told.did ∙ c.in-Turn.is)

pub returns-then-not-branch : goal.returns-then-not-branch
returns-then-not-branch c =
    let so_far = c.loop-why.invariant in
    let passed = c.in_ok-take.ensures.0 in
    let told = c.in_ok-take.ensures.1 in
    begun_at c.args.machine.now c.args.context so_far.more so_far.way c.loop-why.machine so_far.after_is c.in_default.ensures.run c.in_default.ensures.why c.node_of-node.result c.node_of-node.ensures.node
    c.take.new.self passed.after_is (λ slot outcome did. c.in_default-did.not-Turn slot outcome (told.did ∙ did)) c.settle.new.machine false
    (subst (HasSettled c.take.new.self c.settle.new.machine) c.if-not-branch.true c.in_ok-settle.ensures)

pub loop-why-smaller : goal.loop-why-smaller
loop-why-smaller c =
    let settled = c.in_ok-settle.ensures in
    let fits = journal_fits c.settle.new.machine settled.run in
    let longer = far_longer c.loop-why.machine c.take.new.self c.settle.new.machine (Instr c.node_of-node.result) c.in_ok-settle.field-0 c.in_ok-take.ensures.0.after_is settled in
    omega (arith, fits, longer)

pub loop-why-preserved : goal.loop-why-preserved
loop-why-preserved c =
    let so_far = c.loop-why.invariant in
    let passed = c.in_ok-take.ensures.0 in
    let told = c.in_ok-take.ensures.1 in
    let goes = begun_at c.args.machine.now c.args.context so_far.more so_far.way c.loop-why.machine so_far.after_is c.in_default.ensures.run c.in_default.ensures.why c.node_of-node.result c.node_of-node.ensures.node
    c.take.new.self passed.after_is (λ slot outcome did. c.in_default-did.not-Turn slot outcome (told.did ∙ did)) c.settle.new.machine true
    (subst (HasSettled c.take.new.self c.settle.new.machine) c.if-not-branch.false c.in_ok-settle.ensures) in
    record { more = goes.more_of; after_is = goes.far_is; way = goes.way_of }

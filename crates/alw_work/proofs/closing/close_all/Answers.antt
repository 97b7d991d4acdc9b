-- Each link that is closed tells of its pair, and at the end all pairs are told of.
use Rattle.std.proofs.Common.{◌≡◌, ◌/◌, ◌%◌, length, sym, arith}
use Rattle.alw_work.proofs.Closings.{closed_none, has_out, has_in, closed_next, closed_all, sender_is, receiver_is}
use Rattle.alw_work.proofs.closing.close_all.Goals as goal

pub loop-link-init : goal.loop-link-init
loop-link-init g c = closed_none c.args.links.items c.args.nodes c.args.lefts.now.items c.requires.links c.requires.count c.requires.tied

pub take_out-out-requires : goal.take_out-out-requires
take_out-out-requires g c =
    let here : length c.pop.new.self.items ≡ c.len-place.result = omega (arith, c.len-place.ensures, c.pop.new.self.ok.0) in
    has_out c.args.links.items c.args.nodes c.args.lefts.now.items c.loop-link.links.items c.pop.new.self.items c.in-Some.link _ _ c.loop-link.lefts.items
    c.requires.some c.in-Some.ensures.items (λ i. sym here i / c.from-nodes.ensures i) (λ i. sym here i % c.from-nodes.ensures i) c.loop-link.invariant

pub take_in-come-requires : goal.take_in-come-requires
take_in-come-requires g c =
    let here : length c.pop.new.self.items ≡ c.len-place.result = omega (arith, c.len-place.ensures, c.pop.new.self.ok.0) in
    has_in c.args.links.items c.args.nodes c.args.lefts.now.items c.loop-link.links.items c.pop.new.self.items c.in-Some.link _ _ c.loop-link.lefts.items
    c.requires.some c.in-Some.ensures.items (λ i. sym here i / c.from-nodes.ensures i) (λ i. sym here i % c.from-nodes.ensures i) c.loop-link.invariant
    c.take_out-out.new.lefts.items c.take_out-out.result c.take_out-out.ensures

pub close-requires-clause-sender : goal.close-requires-clause-sender
close-requires-clause-sender g c =
    let here : length c.pop.new.self.items ≡ c.len-place.result = omega (arith, c.len-place.ensures, c.pop.new.self.ok.0) in
    sender_is c.args.links.items c.args.nodes c.args.lefts.now.items c.loop-link.links.items c.pop.new.self.items c.in-Some.link _ _ c.loop-link.lefts.items
    c.requires.some c.in-Some.ensures.items (λ i. sym here i / c.from-nodes.ensures i) (λ i. sym here i % c.from-nodes.ensures i) c.loop-link.invariant
    c.take_out-out.new.lefts.items c.take_out-out.result c.take_out-out.ensures

pub close-requires-clause-receiver : goal.close-requires-clause-receiver
close-requires-clause-receiver g c =
    let here : length c.pop.new.self.items ≡ c.len-place.result = omega (arith, c.len-place.ensures, c.pop.new.self.ok.0) in
    receiver_is c.args.links.items c.args.nodes c.args.lefts.now.items c.loop-link.links.items c.pop.new.self.items c.in-Some.link _ _ c.loop-link.lefts.items
    c.requires.some c.in-Some.ensures.items (λ i. sym here i / c.from-nodes.ensures i) (λ i. sym here i % c.from-nodes.ensures i) c.loop-link.invariant
    c.take_out-out.new.lefts.items c.take_out-out.result c.take_out-out.ensures
    c.take_in-come.new.lefts.items c.take_in-come.result c.take_in-come.ensures

pub loop-link-preserved : goal.loop-link-preserved
loop-link-preserved g c =
    let here : length c.pop.new.self.items ≡ c.len-place.result = omega (arith, c.len-place.ensures, c.pop.new.self.ok.0) in
    closed_next c.args.links.items c.args.nodes c.args.lefts.now.items c.loop-link.links.items c.pop.new.self.items c.in-Some.link _ _ c.loop-link.lefts.items
    c.requires.some c.in-Some.ensures.items (λ i. sym here i / c.from-nodes.ensures i) (λ i. sym here i % c.from-nodes.ensures i) c.loop-link.invariant
    c.take_out-out.new.lefts.items c.take_out-out.result c.take_out-out.ensures
    c.take_in-come.new.lefts.items c.take_in-come.result c.take_in-come.ensures c.requires.plain c.close.ensures.0 c.close.ensures.2

pub returns-clause-agree : goal.returns-clause-agree
returns-clause-agree g c =
    closed_all c.args.links.items c.args.nodes c.args.lefts.now.items c.loop-link.links.items c.loop-link.lefts.items c.loop-link.invariant c.requires.count
    (omega (arith, c.in_default.ensures.cases.0, c.loop-link.links.ok.0))

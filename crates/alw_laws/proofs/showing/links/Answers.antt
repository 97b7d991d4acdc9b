-- A node that isn't the home has messages about the line on its link to the home alone.
use Rattle.std.proofs.Common.{ℕ, ◌<◌, sym, ap, ◌∙◌, arith}
use Rattle.std.proofs.lemmas.Bool.{false≢true, eqb-true, eq-eqb}
use Rattle.alw_image.specs.Images.{node_count}
use Rattle.alw_mesh.specs.Histories.{state_of}
use Rattle.alw_laws.specs.Shown.{by_node, link_of}
use Rattle.alw_laws.proofs.Collected.{gathers, home_link, run_invariant}
use Rattle.alw_laws.proofs.showing.links.Goals as goal
use Rattle.alw_laws.proofs.showing.links.Goals.{then-eq+in_ok-put_home_links, else-eq+in_ok-put_link}

pub loop-n-preserved : goal.loop-n-preserved
loop-n-preserved c =
    let h = c.args.machine.now in
    let n = c.loop-n.n in
    let at = c.home_of-at.result.0 in
    let line = c.args.line.0 in
    let on = link_of h.image (state_of h) line in
    let own : ℕ → _ = λ from. by_node h.image (on from) in
    let here : n < node_count h.image = omega (arith, c.loop-n-test.true, c.nodes-n-end.ensures.nodes) in
    let home = c.home_of-at.ensures.home in
    elim c.if-eq.branch [
      | then-eq+in_ok-put_home_links w ↦ w.links-is ∙ (w.in_ok-put_home_links.ensures
          ∙ gathers own n c.loop-n.links (own at) c.loop-n.invariant (ap own (sym (eqb-true n at (sym w.if-eq.ensures)))))
      | else-eq+in_ok-put_link w ↦ w.links-is ∙ (w.in_ok-put_link.ensures
          ∙ gathers own n c.loop-n.links (on n at) c.loop-n.invariant
          (ap (on n) home ∙ sym (home_link h.image h.parameters (state_of h) (run_invariant h c.journal-run.ensures.run) line n here
          (λ same. false≢true (w.if-eq.ensures ∙ eq-eqb n at (same ∙ sym home))) (rw (← home) c.home_of-at.ensures.exists))))
    ]

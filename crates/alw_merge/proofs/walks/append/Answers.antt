-- A span is walked behind the others.
use Rattle.std.proofs.Common.{List, ℕ, ◌++◌, ap, ◌∙◌}
use Rattle.alw_links.specs.Traffic.{Traffic}
use Rattle.alw_tally.specs.Told.{sum_of}
use Rattle.alw_merge.specs.Spans.{links_moved}
use Rattle.alw_merge.proofs.walks.append.Goals as goal

pub returns : goal.returns
returns c =
    let walked = c.args.walked in
    record {
      entries_are = c.in_ok-concat.ensures;
      nodes_are = ap (λ (t : Traffic). t.nodes) c.links-2.view_is ∙ c.in_ok-carry.ensures.nodes;
      links_are = ap (λ (t : Traffic). t.links) c.links-2.view_is ∙ (c.in_ok-carry.ensures.links ∙ ap (links_moved walked.links.nodes walked.links.links) c.deref.ensures.value);
      turns_are = c.in_ok-concat-2.ensures ∙ ap (λ (turns : List ℕ). walked.turns ++ turns) c.into_parts-more_turns.ensures.turns;
      prints_are = c.in_ok-concat-3.ensures ∙ ap (λ (prints : List (ℕ × ℕ)). walked.prints ++ prints) c.into_parts-more_turns.ensures.prints;
      counts_are = c.in_ok-counts.ensures ∙ ap (sum_of walked.counts) c.counts.ensures;
    }

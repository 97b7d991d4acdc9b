-- What workers leave is what the merge of their logs leaves and tells.
use Rattle.std.proofs.Common.{◌≡◌, ℕ, zero, suc, ◌+◌, ◌*◌, ◌-◌, ◌<◌, ◌≤◌, is_some, Some, List, [], ◌∷◌, ◌++◌, take, length, map, get_or, slice_get, refl, sym, ap, subst, ◌∙◌, arith}
use Rattle.std.proofs.lemmas.List.{length-map, take_more, ext_get_or}
use Rattle.std.proofs.lemmas.Option.{get_or_from_slice_get}
use Rattle.alw_num.specs.Weights.{digit, weigh}
use Rattle.alw_num.proofs.Weigh.{weigh_push, weigh-map}
use Rattle.alw_msg.specs.declared.messages.Msg.{Msg}
use Rattle.alw_msg.specs.declared.events.Entry.{Entry}
use Rattle.alw_image.specs.declared.parts.Parts.{Parts}
use Rattle.alw_image.specs.Images.{IsImage, node_count}
use Rattle.alw_image.specs.Parameters.{Parameters, AreParameters}
use Rattle.alw_model.specs.declared.steps.Counts.{Counts}
use Rattle.alw_model.specs.declared.steps.Did.{Did}
use Rattle.alw_model.specs.NodeStates.{NodeState}
use Rattle.alw_model.specs.Machine.{no_node, state, IsLegal}
use Rattle.alw_model.specs.Runs.{Moment, moments}
use Rattle.alw_model.specs.Rows.{log_in}
use Rattle.alw_model.specs.Counts.{counts_of, count_holds}
use Rattle.alw_model.specs.Threads.{Logged, log_at, merged}
use Rattle.law_machine.proofs.RunFacts.{always_used}
use Rattle.law_order.specs.Aims.{IsAimed}
use Rattle.law_order.proofs.Reached.{state_aimed}
use Rattle.law_order.proofs.Merging.{merged_legal, merged_nodes}
use Rattle.law_order.proofs.MergedLogs.{log_again}
use Rattle.alw_tally.specs.Told.{Told, told_of}
use Rattle.alw_node.specs.Nodes.{Whole}
use Rattle.alw_mesh.specs.Keeping.{machine_of, no_whole, whole_in, NodeIsOf, AreNodes}
use Rattle.alw_mesh.proofs.OneNode.{state_at}
use Rattle.alw_cells.specs.declared.parts.Worked.{Worked}
use Rattle.alw_cells.specs.Cells.{dids_of}
use Rattle.alw_cells.specs.Leaving.{whole_after, LogsAreWorked}
use Rattle.alw_cells.specs.Logs.{Written, logged}
use Rattle.alw_merge.specs.Joins.{holds_at, course_at, courses_of, LogsAreOfJournal, unheld}
use Rattle.alw_merge.proofs.Courses.{dids_are}

-- ---- courses

pub courses_long : (logs : List (List Logged)) (dids : List (List Did)) → length dids ≡ length logs → length (courses_of logs dids) ≡ length logs
courses_long [] dids same = refl
courses_long (log ∷ logs) [] same = absurd (omega arith)
courses_long (log ∷ logs) (some ∷ dids) same = ap suc (courses_long logs dids (omega arith))

pub courses_counted : (logs : List Written) (dids : List (List Did)) → length dids ≡ length logs → length (courses_of (logged logs) dids) ≡ length logs
courses_counted logs dids same =
    let long = length-map logs (λ (log : Written). log.entries) in
    courses_long (logged logs) dids (same ∙ sym long) ∙ long

pub lists_same : (logs : List Written) (dids : List (List Did)) → length dids ≡ length logs → length dids ≡ length (logged logs)
lists_same logs dids same = same ∙ sym (length-map logs (λ (log : Written). log.entries))

pub courses_read : (logs : List (List Logged)) (dids : List (List Did)) (n : ℕ) → length dids ≡ length logs
    → course_at (courses_of logs dids) n ≡ record { left = log_at logs n; dids = get_or dids n [] }
courses_read [] [] zero same = refl
courses_read [] [] (suc n) same = refl
courses_read [] (some ∷ dids) n same = absurd (omega arith)
courses_read (log ∷ logs) [] n same = absurd (omega arith)
courses_read (log ∷ logs) (some ∷ dids) zero same = refl
courses_read (log ∷ logs) (some ∷ dids) (suc n) same = courses_read logs dids n (omega arith)

-- ---- holds

-- the holds of one node more
pub holds_more : (nodes : List Whole) (n holds one : ℕ) (whole : Whole) → slice_get nodes n ≡ Some whole → n < length nodes → holds ≡ holds_at (take n nodes)
    → one ≡ weigh (λ slot. digit (is_some slot.hold)) whole.state.slots → holds + one ≡ holds_at (take (n + 1) nodes)
holds_more nodes n holds one whole is here so_far more =
    let held = λ (w : Whole). weigh (λ slot. digit (is_some slot.hold)) w.state.slots in
    (λ x. so_far x + more x)
    ∙ (sym (weigh_push held (take n nodes) whole) ∙ ap (weigh held) (sym (take_more nodes n whole here ∙ ap (λ (w : Whole). take n nodes ++ w ∷ []) (get_or_from_slice_get nodes n whole whole is))))

-- ---- what workers leave

module _ (image : Parts) (parameters : Parameters) (worked : Worked) (is : LogsAreWorked image parameters worked) where
  abbrev logs : List (List Logged)
  logs = logged worked.logs

  abbrev journal : List Entry
  journal = merged logs

  pub legal : IsLegal image parameters journal
  legal = merged_legal image parameters logs is.runs

  pub as_many : length worked.dids ≡ length worked.logs
  as_many = is.did_places ∙ (sym is.runs.count ∙ length-map worked.logs (λ (log : Written). log.entries))

  same_long : length worked.dids ≡ length logs
  same_long = is.did_places ∙ sym is.runs.count

  pub are_read : LogsAreOfJournal image parameters journal (courses_of logs worked.dids)
  are_read = record {
    legal = legal;
    counted = courses_long logs worked.dids same_long ∙ is.runs.count;
    each = λ n here.
        let log : log_at logs n ≡ log_in n (moments image parameters journal) = sym (log_again image parameters logs is.runs n) in
        let dids = get_or_from_slice_get worked.dids n _ [] (is.dids_are n here) ∙ (ap (dids_of image parameters n) log ∙ dids_are image parameters journal legal n here) in
        courses_read logs worked.dids n same_long ∙ (λ x. record { left = log x; dids = dids x });
  }

  aimed : IsAimed image (state image parameters journal)
  aimed = state_aimed image parameters journal legal

  pub links_long : (links : List (List Msg)) → links ≡ (state image parameters journal).links → length links ≡ node_count image * node_count image
  links_long links same = ap length same ∙ aimed.links

  whole_is : (n : ℕ) → n < node_count image → whole_in worked.nodes n ≡ whole_after image parameters n (log_at logs n)
  whole_is n here = get_or_from_slice_get worked.nodes n _ no_whole (is.nodes_are n here)

  pub nodes_are : AreNodes image parameters worked.nodes
  nodes_are = record {
    counted = is.node_places;
    each = λ n here. subst (NodeIsOf image parameters n) (sym (whole_is n here)) (record { number = refl; share = refl; parameters_are = refl });
  }

  states_same : map (λ (whole : Whole). whole.state) worked.nodes ≡ (state image parameters journal).nodes
  states_same =
      let long = length-map worked.nodes (λ (whole : Whole). whole.state) in
      ext_get_or no_node _ _ (long ∙ (is.node_places ∙ sym aimed.nodes))
      (λ n l. let here : n < node_count image = omega (arith, l, long, is.node_places) in state_at worked.nodes [] n ∙ (ap (λ (whole : Whole). whole.state) (whole_is n here) ∙ sym (merged_nodes image parameters logs is.runs n here)))

  pub state_is : (links : List (List Msg)) → links ≡ (state image parameters journal).links → machine_of worked.nodes links ≡ state image parameters journal
  state_is links same = λ x. record { nodes = states_same x; links = same x }

  abbrev run : List Moment
  run = moments image parameters journal

  -- the replies are the turns that ended a hold, and the holds that stand
  replies_are : IsImage image → AreParameters parameters → (counts_of image run).replies ≡ (counts_of image run).used + holds_at worked.nodes
  replies_are allowed are =
      let holds : holds_at worked.nodes ≡ count_holds (state image parameters journal) =
      sym (weigh-map (λ (node : NodeState). weigh (λ slot. digit (is_some slot.hold)) node.slots) (λ (whole : Whole). whole.state) worked.nodes)
      ∙ ap (weigh (λ (node : NodeState). weigh (λ slot. digit (is_some slot.hold)) node.slots)) states_same in
      always_used image allowed parameters are journal legal ∙ ap (λ n. (counts_of image run).used + n) (sym holds)

  module _ (allowed : IsImage image) (are : AreParameters parameters) (told : Told) (told_is : told ≡ unheld (told_of image run)) (holds : ℕ) (holds_are : holds ≡ holds_at worked.nodes) where
    pub holds_few : holds ≤ told.counts.replies
    holds_few = omega (arith, ap (λ (t : Told). t.counts.replies) told_is, replies_are allowed are, holds_are)

    pub counts_are : record told.counts { used = told.counts.replies - holds } ≡ counts_of image run
    counts_are =
        let counts : told.counts ≡ (unheld (told_of image run)).counts = ap (λ (t : Told). t.counts) told_is in
        let used : (counts_of image run).replies - holds ≡ (counts_of image run).used = omega (arith, replies_are allowed are, holds_are) in
        ap (λ (c : Counts). record c { used = c.replies - holds }) counts ∙ (λ x. record (counts_of image run) { used = used x })

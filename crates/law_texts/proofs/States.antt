-- Machines with one text are the same.
use Rattle.std.proofs.Common.{◌≡◌, ℕ, zero, suc, ◌*◌, ◌/◌, ◌%◌, ◌<◌, ◌↔◌, List, [], ◌∷◌, ◌++◌, length, drop, codes, sym, ap, subst, ◌∙◌, arith, append_assoc}
use Rattle.std.specs.Fmt.{decimal}
use Rattle.std.specs.Prelude.{slice_index_or}
use Rattle.std.specs.List.{flat_map, range_with_len, AllByRecursion}
use Rattle.std.proofs.lemmas.List.{ext_get_or, append-nil, append_cancel_left}
use Rattle.std.proofs.lemmas.Nat.{div-add-mod'}
use Rattle.std.proofs.Math.Nat.{mod-lt, div-lt_iff_lt-mul}
use Rattle.alw_msg.specs.declared.messages.Msg.{Msg}
use Rattle.alw_image.specs.declared.parts.Parts.{Parts}
use Rattle.alw_image.specs.Images.{node_count}
use Rattle.alw_model.specs.NodeStates.{NodeState}
use Rattle.alw_model.specs.Machine.{MachineState, no_node, link_at}
use Rattle.alw_report.specs.Reports.{heading}
use Rattle.alw_trace.specs.Lines.{IsNumber}
use Rattle.alw_save.specs.Lines.{link_line}
use Rattle.alw_save.specs.States.{node_text, links_from, line_count, state_lines, state_text}
use Rattle.law_texts.proofs.Readings.{same_behind}
use Rattle.law_texts.proofs.Runs.{rank, run_rank, one_run, rows, said_of, said-rows, rows_text, each_row, same_texts}
use Rattle.law_texts.proofs.NodeTexts.{IsNode, nodes_read}
use Rattle.law_texts.proofs.MessageLines.{IsMessage, IsSent, sent_line, one_sent, sent-ranks}

-- what a machine has is told without loss
pub record IsMachineTold (parts : Parts) (machine : MachineState) : Type 0 where
  pub node_size : length machine.nodes ≡ node_count parts
  pub link_size : length machine.links ≡ node_count parts * node_count parts
  pub each : (n : ℕ) → n < node_count parts → IsNode parts machine n
  pub sent : (from to : ℕ) → from < node_count parts → to < node_count parts → AllByRecursion IsMessage (link_at parts machine from to)

module _ (parts : Parts) (few : IsNumber (node_count parts)) where
  -- ---- links

  -- the messages from a node, each with the node that it goes to
  abbrev sent_from : MachineState → ℕ → List (ℕ × Msg)
  sent_from machine from = rows (link_at parts machine from) 0 (node_count parts)

  abbrev all_sent : MachineState → List (ℕ × (ℕ × Msg))
  all_sent machine = rows (sent_from machine) 0 (node_count parts)

  abbrev links_text : MachineState → List ℕ
  links_text machine = flat_map (links_from parts machine) (range_with_len 0 (node_count parts))

  links-are : (machine : MachineState) → links_text machine ≡ flat_map sent_line (all_sent machine)
  links-are machine =
      same_texts (links_from parts machine) (λ from. flat_map (λ (row : ℕ × Msg). link_line from row.0 row.1) (sent_from machine from))
      (λ from. rows_text (link_at parts machine from) (link_line from) 0 (node_count parts)) (range_with_len 0 (node_count parts))
      ∙ rows_text (sent_from machine) (λ from (row : ℕ × Msg). link_line from row.0 row.1) 0 (node_count parts)

  sent_fit : (machine : MachineState) → IsMachineTold parts machine → AllByRecursion IsSent (all_sent machine)
  sent_fit machine is =
      each_row (sent_from machine) IsSent 0 (node_count parts) (λ from l m.
      each_row (link_at parts machine from) (λ (row : ℕ × Msg). IsSent (from, row)) 0 (node_count parts) (λ to p q.
      go from to (omega (arith, m)) (omega (arith, q)) (link_at parts machine from to) (is.sent from to (omega (arith, m)) (omega (arith, q)))))
    where
      go : (from to : ℕ) → from < node_count parts → to < node_count parts → (msgs : List Msg) → AllByRecursion IsMessage msgs
          → AllByRecursion (λ (msg : Msg). IsSent (from, (to, msg))) msgs
      go from to f t [] all = tt
      go from to f t (msg ∷ rest) all = ((omega (arith, f, few), (omega (arith, t, few), all.0)), go from to f t rest all.1)

  module _ (one other : MachineState) (is : IsMachineTold parts one) (also : IsMachineTold parts other) where
    links_read : links_text one ++ [] ≡ links_text other ++ [] → one.links ≡ other.links
    links_read e =
        let run = one_run IsSent sent_line 5 sent-ranks one_sent (all_sent one) (all_sent other) [] []
        (sent_fit one is) (sent_fit other also) (omega arith) (omega arith)
        (sym (ap (λ (t : List ℕ). t ++ []) (links-are one)) ∙ e ∙ ap (λ (t : List ℕ). t ++ []) (links-are other)) in
        ext_get_or [] one.links other.links (is.link_size ∙ sym also.link_size) (λ place l. at_place run.0 place (omega (arith, l, is.link_size)))
      where
        at_link : all_sent one ≡ all_sent other → (from to : ℕ) → from < node_count parts → to < node_count parts
            → link_at parts one from to ≡ link_at parts other from to
        at_link same from to f t =
            let node : sent_from one from ≡ sent_from other from = sym (said-rows (sent_from one) 0 (node_count parts) from (omega arith) (omega (arith, f)))
            ∙ ap (said_of from) same ∙ said-rows (sent_from other) 0 (node_count parts) from (omega arith) (omega (arith, f)) in
            sym (said-rows (link_at parts one from) 0 (node_count parts) to (omega arith) (omega (arith, t))) ∙ ap (said_of to) node
            ∙ said-rows (link_at parts other from) 0 (node_count parts) to (omega arith) (omega (arith, t))

        at_place : all_sent one ≡ all_sent other → (place : ℕ) → place < node_count parts * node_count parts
            → slice_index_or one.links place [] ≡ slice_index_or other.links place []
        at_place same place l =
            let some : 0 < node_count parts = positive (node_count parts) place l in
            let whole = div-add-mod' place (node_count parts) in
            subst (λ (k : ℕ). slice_index_or one.links k [] ≡ slice_index_or other.links k []) whole
            (at_link same (place / node_count parts) (place % node_count parts) ((div-lt_iff_lt-mul some).1 l) (mod-lt place some))
          where
            positive : (n place : ℕ) → place < n * n → 0 < n
            positive zero place l = absurd (omega (arith, l))
            positive (suc n) place l = omega arith

    -- ---- the whole

    nodes_before_links : (machine : MachineState) → state_lines parts machine ≡
        flat_map (node_text parts machine) (range_with_len 0 (node_count parts)) ++ (links_text machine ++ [])
    unfolding state_lines
    nodes_before_links machine =
        ap (λ (t : List ℕ). flat_map (node_text parts machine) (range_with_len 0 (node_count parts)) ++ t) (sym (append-nil (links_text machine)))

    links_rank : (machine : MachineState) → 4 < rank (links_text machine ++ [])
    links_rank machine =
        let ranks = run_rank IsSent sent_line 5 sent-ranks (all_sent machine) [] (omega arith) in
        let same = ap (λ (t : List ℕ). rank (t ++ [])) (links-are machine) in
        omega (arith, ranks, same)

    same_machine : (a b : MachineState) → a.nodes ≡ b.nodes → a.links ≡ b.links → a ≡ b
    same_machine a b e f = same a.nodes b.nodes a.links b.links e f
      where
        same : (n n' : List NodeState) (l l' : List (List Msg)) → n ≡ n' → l ≡ l'
            → ◌≡◌ {A = MachineState} (record { nodes = n; links = l }) (record { nodes = n'; links = l' })
        same n n' l l' e f = cc

    pub one_state : state_lines parts one ≡ state_lines parts other → one ≡ other
    one_state e =
        let nodes = nodes_read parts one other is.each also.each (links_text one ++ []) (links_text other ++ []) (links_rank one) (links_rank other)
        (sym (nodes_before_links one) ∙ e ∙ nodes_before_links other) in
        same_machine one other
        (ext_get_or no_node one.nodes other.nodes (is.node_size ∙ sym also.node_size) (λ n l. nodes.0 n (omega (arith, l, is.node_size))))
        (links_read nodes.1)

    -- the lines behind their number
    lines_in : state_text parts one ≡ state_text parts other → state_lines parts one ≡ state_lines parts other
    unfolding state_text
    lines_in e = go (line_count (state_lines parts one)) (line_count (state_lines parts other)) (state_lines parts one) (state_lines parts other) e
      where
        headed : (count : ℕ) (text : List ℕ) → heading (codes "state") count ++ text ≡ codes "state " ++ (decimal count ++ 10 ∷ text)
        headed count text = ap (λ (t : List ℕ). codes "state " ++ t) (append_assoc (decimal count) (10 ∷ []) text)

        go : (count other : ℕ) (text more : List ℕ) → heading (codes "state") count ++ text ≡ heading (codes "state") other ++ more → text ≡ more
        go count other text more e =
            let numbers = append_cancel_left (codes "state ") (decimal count ++ 10 ∷ text) (decimal other ++ 10 ∷ more)
            (sym (headed count text) ∙ e ∙ headed other more) in
            ap (drop 1) (same_behind count other (10 ∷ text) (10 ∷ more) (omega arith) (omega arith) numbers)

    pub states_told : state_text parts one ≡ state_text parts other ↔ one ≡ other
    states_told = (λ e. one_state (lines_in e), λ e. ap (state_text parts) e)

-- A log line by line: what its first lines, its entries, its contexts and its last lines tell.
use Rattle.std.proofs.Common.{◌≡◌, ℕ, ◌/◌, ◌%◌, Option, Some, None, List, [], ◌∷◌, ◌++◌, length, codes, refl, sym, ap, ◌∙◌, arith, append_assoc}
use Rattle.std.specs.List.{flat_map, range_with_len}
use Rattle.std.proofs.lemmas.List.{append_cancel_left}
use Rattle.alw_image.specs.declared.parts.Sizes.{Sizes}
use Rattle.alw_msg.specs.declared.contexts.Status.{Status}
use Rattle.alw_msg.specs.declared.contexts.Status.TheVariants.{Ready, Waiting, Halted, Trapped}
use Rattle.alw_msg.specs.declared.events.Entry.{Entry}
use Rattle.alw_image.specs.declared.parts.Parts.{Parts}
use Rattle.alw_image.specs.Images.{context_count, IsImage, sizes_of}
use Rattle.alw_image.specs.Parameters.{Parameters, AreParameters}
use Rattle.alw_model.specs.declared.ends.Ended.{Ended}
use Rattle.alw_model.specs.declared.ends.Ended.TheVariants as ends
use Rattle.alw_model.specs.Contexts.{Slot, slot_at}
use Rattle.alw_model.specs.Machine.{MachineState, machine_start, node_at, state, IsLegal}
use Rattle.alw_report.specs.Names.{status_text}
use Rattle.alw_report.specs.Reports.{heading, sizes_line, params_word, params_line, ended_text, ended_line}
use Rattle.alw_trace.specs.Lines.{HasThree}
use Rattle.alw_trace.proofs.Numbers.{one_number}
use Rattle.alw_trace.proofs.OneLine.{one_params}
use Rattle.alw_trace.proofs.ParamRanges.{sets_within}
use Rattle.alw_log.specs.Contexts.{slot_line, context_line, contexts_text}
use Rattle.alw_log.specs.Logs.{title, lines_from, head_text, log_of}
use Rattle.law_logs.specs.Told.{AreToldAlike}
use Rattle.law_logs.proofs.Lines.{IsUnbroken, plain, beside, fronted, number, word, byte_word, IsLine, before, begun, feed, one_line}
use Rattle.law_logs.proofs.Turns.{stood}
use Rattle.law_logs.proofs.Journals.{one_journal}

-- ---- lines

title_is : IsLine title
unfolding title
title_is = begun (codes "ALEWIFE LOG 1") refl feed

sizes_are : (sizes : Sizes) → IsLine (sizes_line sizes)
unfolding sizes_line
sizes_are sizes =
    begun (codes "mesh ") refl (before (number sizes.width) (begun (codes " ") refl (before (number sizes.height)
    (begun (codes " contexts ") refl (before (number sizes.contexts) (begun (codes " lines ") refl (before (number sizes.per_node) feed)))))))

params_are : (p : Parameters) → IsLine (params_line p)
unfolding params_line params_word
params_are p =
    begun (codes "params pointers ") refl (before (number p.pointers) (begun (codes " sets ") refl (before (number p.sets)
    (begun (codes " limit ") refl (before (number p.limit) feed)))))

events_are : (count : ℕ) → IsLine (heading (codes "events") count)
events_are count = begun (codes "events ") refl (before (number count) feed)

contexts_are : (count : ℕ) → IsLine (heading (codes "contexts") count)
contexts_are count = begun (codes "contexts ") refl (before (number count) feed)

status_is : (hold : Option ℕ) (status : Status) → IsUnbroken (status_text hold status)
status_is (Some line) status = fronted (codes "hold ") refl (number line)
status_is None Ready = plain (codes "ready") refl
status_is None (Waiting line) = fronted (codes "wait ") refl (number line.0)
status_is None Halted = plain (codes "halted") refl
status_is None (Trapped pc tt) = fronted (codes "trapped ") refl (byte_word tt)

slot_is : (code : List ℕ) (context : ℕ) (slot : Slot) → IsLine (slot_line code context slot)
unfolding slot_line
slot_is code context slot =
    before (number context) (begun (codes " ") refl (before (status_is slot.hold slot.status) (before (stood code slot.regs.pc) feed)))

context_is : (image : Parts) (machine : MachineState) (context : ℕ) → IsLine (context_line image machine context)
context_is image machine context =
    slot_is image.code context (slot_at (node_at machine (context / image.contexts)).slots (context % image.contexts))

ended_is : (ended : Ended) → IsUnbroken (ended_text ended)
ended_is ends.Halted = plain (codes "halted") refl
ended_is (ends.Limit event) = plain (codes "limit") refl
ended_is (ends.Trapped at) =
    fronted (codes "trapped node ") refl (beside (number at.node) (fronted (codes " slot ") refl (beside (number at.slot)
    (fronted (codes " pc ") refl (beside (word at.pc) (fronted (codes " tt ") refl (byte_word at.tt)))))))

end_is : (ended : Ended) → IsLine (ended_line ended)
unfolding ended_line
end_is ended = begun (codes "ended ") refl (before (ended_is ended) feed)

-- as many lines of two kinds
same_lines : (f g : ℕ → List ℕ) → ((k : ℕ) → IsLine (f k)) → ((k : ℕ) → IsLine (g k)) → (ks : List ℕ) (u v : List ℕ)
    → flat_map f ks ++ u ≡ flat_map g ks ++ v → (flat_map f ks ≡ flat_map g ks) × (u ≡ v)
same_lines f g one other [] u v e = (refl, e)
same_lines f g one other (k ∷ ks) u v e =
    let first = one_line (one k) (other k) (sym (append_assoc (f k) (flat_map f ks) u) ∙ e ∙ append_assoc (g k) (flat_map g ks) v) in
    let rest = same_lines f g one other ks u v first.1 in
    (ap (λ (t : List ℕ). t ++ flat_map f ks) first.0 ∙ ap (λ (t : List ℕ). g k ++ t) rest.0, rest.1)

-- ---- the first lines

-- columns and rows of the mesh, contexts and lines of a node
abbrev SameSizes : Parts → Parts → Type 0
SameSizes image other =
    (image.width ≡ other.width) × ((image.height ≡ other.height) × ((image.contexts ≡ other.contexts) × (image.per_node ≡ other.per_node)))

same_size : (image other : Parts) → IsImage image → IsImage other
    → sizes_line (sizes_of image) ≡ sizes_line (sizes_of other)
    → SameSizes image other
unfolding sizes_line
same_size image other is also e =
    let wide = is.width in let high = is.height in let slots = is.contexts in let lines = is.per_node in
    let wider = also.width in let higher = also.height in let more = also.contexts in let longer = also.per_node in
    let first = one_number image.width other.width 32 _ _ (omega arith) (omega arith) (omega arith) (append_cancel_left (codes "mesh ") _ _ e) in
    let second = one_number image.height other.height 32 _ _ (omega arith) (omega arith) (omega arith) first.1 in
    let third = one_number image.contexts other.contexts 32 _ _ (omega arith) (omega arith) (omega arith)
    (append_cancel_left (codes "contexts ") _ _ second.1) in
    let fourth = one_number image.per_node other.per_node 10 _ _ (omega arith) (omega arith) (omega arith)
    (append_cancel_left (codes "lines ") _ _ third.1) in
    (first.0, (second.0, (third.0, fourth.0)))

-- the same parameters without evictions, of which a log says nothing
abbrev calm : Parameters → Parameters
calm p = record { pointers = p.pointers; sets = p.sets; limit = p.limit; evict = 0 }

calm_line : (p : Parameters) → params_line (calm p) ≡ params_line p
unfolding params_line
calm_line p = refl

three : (p : Parameters) → AreParameters p → HasThree (calm p)
three p are =
    let pointers = are.pointers in
    let sets = sets_within p are in
    let limit = are.limit in
    (omega arith, (omega arith, (omega arith, refl)))

abbrev Settings : Parameters → Parameters → Type 0
Settings p q = (p.pointers ≡ q.pointers) × ((p.sets ≡ q.sets) × (p.limit ≡ q.limit))

alike : (p q : Parameters) → AreParameters p → AreParameters q → params_line p ≡ params_line q → Settings p q
alike p q are too e =
    let same = (one_params (calm p) (calm q) [] [] (three p are) (three q too)
    (ap (λ (t : List ℕ). t ++ []) (calm_line p ∙ e ∙ sym (calm_line q)))).0 in
    (ap (λ (it : Parameters). it.pointers) same, (ap (λ (it : Parameters). it.sets) same, ap (λ (it : Parameters). it.limit) same))

-- ---- the whole

four_lines : (a b c d rest : List ℕ) → (a ++ (b ++ (c ++ d))) ++ rest ≡ a ++ (b ++ (c ++ (d ++ rest)))
four_lines a b c d rest =
    append_assoc a (b ++ (c ++ d)) rest ∙ ap (λ (t : List ℕ). a ++ t) (append_assoc b (c ++ d) rest ∙ ap (λ (t : List ℕ). b ++ t) (append_assoc c d rest))

-- what stands behind the entries, and behind the first lines
abbrev last_of : Parts → MachineState → Ended → List ℕ
last_of image machine ended = contexts_text image machine ++ (ended_line ended ++ codes "end\n")

abbrev rest_of : Parts → Parameters → List Entry → Ended → List ℕ
rest_of image parameters journal ended = lines_from image parameters (machine_start image) journal ++ last_of image (state image parameters journal) ended

log_is : (image : Parts) (parameters : Parameters) (journal : List Entry) (ended : Ended) → log_of image parameters journal ended ≡ title ++
    (sizes_line (sizes_of image) ++ (params_line parameters ++
    (heading (codes "events") (length journal) ++ rest_of image parameters journal ended)))
unfolding log_of head_text
log_is image parameters journal ended =
    four_lines title (sizes_line (sizes_of image)) (params_line parameters)
    (heading (codes "events") (length journal)) (rest_of image parameters journal ended)

module _ (image other_image : Parts) (is : IsImage image) (also : IsImage other_image) (parameters other_parameters : Parameters)
    (are : AreParameters parameters) (too : AreParameters other_parameters) (one other : List Entry) (ended other_ended : Ended) where
  -- what two logs that are one text tell in their first lines, and what stands behind these
  record IsHeadTold : Type 0 where
    sizes : SameSizes image other_image
    settings : Settings parameters other_parameters
    rest : rest_of image parameters one ended ≡ rest_of other_image other_parameters other other_ended

  abbrev Log : Type 0
  Log = log_of image parameters one ended ≡ log_of other_image other_parameters other other_ended

  head_told : Log → IsHeadTold
  head_told e =
      let whole = sym (log_is image parameters one ended) ∙ e ∙ log_is other_image other_parameters other other_ended in
      let first = one_line title_is title_is whole in
      let second = one_line (sizes_are (sizes_of image))
      (sizes_are (sizes_of other_image)) first.1 in
      let third = one_line (params_are parameters) (params_are other_parameters) second.1 in
      let fourth = one_line (events_are (length one)) (events_are (length other)) third.1 in
      record {
        sizes = same_size image other_image is also second.0;
        settings = alike parameters other_parameters are too third.0;
        rest = fourth.1;
      }

  -- the journal, and what stands behind it
  pub journal_told : IsLegal image parameters one → IsLegal other_image other_parameters other → Log
      → (one ≡ other) × (last_of image (state image parameters one) ended ≡ last_of other_image (state other_image other_parameters other) other_ended)
  journal_told legal lawful e =
      one_journal image other_image is also parameters other_parameters are too (machine_start image) (machine_start other_image) one other _ _
      legal lawful (head_told e).rest

  -- the contexts, of which there are as many, and the line behind them
  end_told : SameSizes image other_image → last_of image (state image parameters one) ended ≡ last_of other_image (state other_image other_parameters other) other_ended
      → ended_line ended ≡ ended_line other_ended
  end_told sizes e =
      let count = context_count image in
      let count' = context_count other_image in
      let same : count ≡ count' = rw (sizes.0, sizes.1.0, sizes.1.1.0) refl in
      let here = context_line image (state image parameters one) in
      let there = context_line other_image (state other_image other_parameters other) in
      let left = flat_map here (range_with_len 0 count) in
      let right = flat_map there (range_with_len 0 count') in
      let u = ended_line ended ++ codes "end\n" in
      let v = ended_line other_ended ++ codes "end\n" in
      let behind = (one_line (contexts_are count) (contexts_are count')
      (sym (append_assoc (heading (codes "contexts") count) left u) ∙ e ∙ append_assoc (heading (codes "contexts") count') right v)).1 in
      let lines = same_lines here there (context_is image (state image parameters one)) (context_is other_image (state other_image other_parameters other))
      (range_with_len 0 count) u v (behind ∙ ap (λ (n : ℕ). flat_map there (range_with_len 0 n) ++ v) (sym same)) in
      (one_line (end_is ended) (end_is other_ended) lines.1).0

  -- what the first lines and the last ones tell
  pub rest_told : IsLegal image parameters one → IsLegal other_image other_parameters other → Log
      → AreToldAlike image other_image parameters other_parameters ended other_ended
  rest_told legal lawful e =
      let head = head_told e in
      record {
        width = head.sizes.0;
        height = head.sizes.1.0;
        contexts = head.sizes.1.1.0;
        per_node = head.sizes.1.1.1;
        pointers = head.settings.0;
        sets = head.settings.1.0;
        limit = head.settings.1.1;
        end = end_told head.sizes (journal_told legal lawful e).1;
      }

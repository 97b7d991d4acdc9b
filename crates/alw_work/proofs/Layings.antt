-- Links are laid row by row: each new one stands at its place, and so do its ends.
use Rattle.std.proofs.Common.{◌≡◌, ◌≢◌, ⊎_elim, ℕ, ◌+◌, ◌*◌, Some, None, List, [], ◌∷◌, ◌++◌, length, slice_get, slice_set, sym, ap, subst, ◌∙◌, arith, length-append}
use Rattle.std.specs.Prelude.{option_to_list}
use Rattle.std.specs.Global.{Vec}
use Rattle.alw_msg.specs.declared.messages.Msg.{Msg}
use Rattle.alw_image.specs.declared.parts.Parts.{Parts}
use Rattle.alw_image.specs.Images.{node_count}
use Rattle.alw_image.specs.Parameters.{Parameters}
use Rattle.alw_cells.specs.Cells.{Cell, cell_start}
use Rattle.alw_ruled.specs.Ends.{LinkName, sender_at_start, receiver_at_start}
use Rattle.alw_work.specs.declared.ends.Out.{Out}
use Rattle.alw_work.specs.declared.ends.In.{In}
use Rattle.alw_work.specs.Seats.{EachAt}
use Rattle.alw_work.specs.Ties.{all_carried, FitsOut, FitsIn, IsNewOut, IsNewIn, AreNewOuts, RowsAreNew, LinksAreColumns, Keeps, AreTiedOuts, AreTiedIns}
use Rattle.alw_work.proofs.Finishing.{EachFrom, get_last, get_left, get_within, set_length, at_place, each_set, each_none, each_push, none_come}

-- ---- a link more

pub keeps_push : (links : List LinkName) (link : LinkName) → Keeps links (links ++ link ∷ [])
keeps_push links link place one at = get_left links link one place at

outs_keep : (before after : List LinkName) (nodes number : ℕ) (row : List Out) → Keeps before after → EachAt (IsNewOut before nodes number) row
    → EachAt (IsNewOut after nodes number) row
outs_keep before after nodes number row keeps each k out at =
    let is = each k out at in
    record { name = keeps (number * nodes + k) out.end.link is.name; empty = is.empty }

ins_keep : (before after : List LinkName) (nodes number : ℕ) (column : List In) → Keeps before after → EachAt (IsNewIn before nodes number) column
    → EachAt (IsNewIn after nodes number) column
ins_keep before after nodes number column keeps each k come at =
    let is = each k come at in
    record { name = keeps (k * nodes + number) come.end.link is.name; empty = is.empty }

-- the link stands behind the others
name_last : (links : List LinkName) (link : LinkName) (place : ℕ) (end : LinkName) → length links ≡ place → end ≡ link
    → slice_get (links ++ link ∷ []) place ≡ Some end
name_last links link place end here is =
    subst (λ (y : ℕ × LinkName). slice_get (links ++ link ∷ []) y.0 ≡ Some y.1) (λ i. (here i, sym is i)) (get_last links link)

pub row_next : (links : List LinkName) (nodes from : ℕ) (row : List Out) (link : LinkName) (out : Out) → length links ≡ from * nodes + length row
    → out.end ≡ sender_at_start link → out.kept ≡ None → EachAt (IsNewOut links nodes from) row → EachAt (IsNewOut (links ++ link ∷ []) nodes from)
    (row ++ out ∷ [])
row_next links nodes from row link out here is none each =
    each_push (IsNewOut (links ++ link ∷ []) nodes from) row out (outs_keep links (links ++ link ∷ []) nodes from row (keeps_push links link) each) (record {
      name = name_last links link (from * nodes + length row) out.end.link here (ap (λ e. e.link) is);
      empty = λ i. (is i).pushed ++ option_to_list (none i);
    })

pub columns_next : (links : List LinkName) (nodes from to : ℕ) (ins : List (Vec In)) (link : LinkName) (column more : Vec In) (come : In)
    → length links ≡ from * nodes + to
    → slice_get ins to ≡ Some column → more.items ≡ column.items ++ come ∷ [] → come.end ≡ receiver_at_start link → come.kept ≡ None
    → LinksAreColumns links nodes from to ins → LinksAreColumns (links ++ link ∷ []) nodes from (to + 1) (slice_set ins to more)
columns_next links nodes from to ins link column more come here at_to more_is is none are =
    let all = links ++ link ∷ [] in
    let before : length column.items ≡ from = are.above to column at_to (omega arith) in
    let mine : EachAt (IsNewIn all nodes to) (column.items ++ come ∷ []) =
    each_push (IsNewIn all nodes to) column.items come (ins_keep links all nodes to column.items (keeps_push links link) (are.each to column at_to)) (record {
      name = name_last links link (length column.items * nodes + to) come.end.link (here ∙ ap (λ k. k * nodes + to) (sym before)) (ap (λ e. e.link) is);
      empty = (ap (λ e. e.popped) is, none);
    }) in
    record {
      count = set_length ins to more ∙ are.count;
      each = each_set (λ number (c : Vec In). EachAt (IsNewIn all nodes number) c.items) ins to more
          (λ number c at. ins_keep links all nodes number c.items (keeps_push links link) (are.each number c at))
          (subst (λ (xs : List In). EachAt (IsNewIn all nodes to) xs) (sym more_is) mine);
      below = λ number c at less. ⊎_elim
          (λ (h : (number ≡ to) × (more ≡ c)). ap (λ (v : Vec In). length v.items) (sym h.1)
          ∙ (ap length more_is ∙ (length-append column.items (come ∷ []) ∙ ap (λ k. k + 1) before)))
          (λ (h : (number ≢ to) × (slice_get ins number ≡ Some c)). are.below number c h.1 (omega (arith, less, h.0))) (at_place ins to more number c at);
      above = λ number c at not_less. ⊎_elim
          (λ (h : (number ≡ to) × (more ≡ c)). absurd (omega (arith, not_less, h.0)))
          (λ (h : (number ≢ to) × (slice_get ins number ≡ Some c)). are.above number c h.1 (omega (arith, not_less))) (at_place ins to more number c at);
    }

-- ---- a row more

pub columns_turn : (links : List LinkName) (nodes from : ℕ) (ins : List (Vec In)) → LinksAreColumns links nodes from nodes ins
    → LinksAreColumns links nodes (from + 1) 0 ins
columns_turn links nodes from ins are = record {
  count = are.count;
  each = are.each;
  below = λ number column at less. absurd (omega (arith, less));
  above = λ number column at _. are.below number column at (omega (arith, get_within ins number column at, are.count));
}

pub rows_next : (before after : List LinkName) (nodes from : ℕ) (outs : List (Vec Out)) (row : Vec Out) → Keeps before after → from ≡ length outs
    → AreNewOuts after nodes from row.items → RowsAreNew before nodes outs → RowsAreNew after nodes (outs ++ row ∷ [])
rows_next before after nodes from outs row keeps here new each =
    each_push (λ number (r : Vec Out). AreNewOuts after nodes number r.items) outs row
    (λ number r at. let old = each number r at in record { count = old.count; each = outs_keep before after nodes number r.items keeps old.each })
    (subst (λ (k : ℕ). AreNewOuts after nodes k row.items) here new)

pub columns_start : (nodes : ℕ) (ins : List (Vec In)) → length ins ≡ nodes → EachAt (λ number (column : Vec In). column.items ≡ []) ins
    → LinksAreColumns [] nodes 0 0 ins
columns_start nodes ins count empty = record {
  count = count;
  each = λ number column at. each_none (IsNewIn [] nodes number) column.items (empty number column at);
  below = λ number column at less. absurd (omega (arith, less));
  above = λ number column at _. ap length (empty number column at);
}

-- ---- the ends are handed out

-- the ends of a node are new
abbrev pub RowIsNew : List LinkName → ℕ → ℕ → Vec Out → Type 0
RowIsNew links nodes number row = AreNewOuts links nodes number row.items

abbrev pub ColumnIsNew : List LinkName → ℕ → ℕ → Vec In → Type 0
ColumnIsNew links nodes number column = (length column.items ≡ nodes) × EachAt (IsNewIn links nodes number) column.items

pub rows_at_start : (links : List LinkName) (nodes : ℕ) (outs : List (Vec Out)) → RowsAreNew links nodes outs → EachFrom (RowIsNew links nodes) 0 outs
rows_at_start links nodes outs new k row at _ = new k row at

pub columns_at_start : (links : List LinkName) (nodes : ℕ) (ins : List (Vec In)) → LinksAreColumns links nodes nodes 0 ins
    → EachFrom (ColumnIsNew links nodes) 0 ins
columns_at_start links nodes ins are k column at least = (are.above k column at least, are.each k column at)

pub outs_start : (links : List LinkName) (nodes number : ℕ) (parts : Parts) (parameters : Parameters) (cell : Cell) (outs : List Out)
    → cell ≡ cell_start parts parameters number
    → AreNewOuts links nodes number outs → AreTiedOuts links nodes number cell outs
outs_start links nodes number parts parameters cell outs is new =
    record { count = new.count; each = subst (λ (c : Cell). EachAt (FitsOut links nodes number c) outs) (sym is) at_start }
  where
    at_start : EachAt (FitsOut links nodes number (cell_start parts parameters number)) outs
    at_start k out at = let end = new.each k out at in record { name = end.name; words = ap (λ (xs : List Msg). xs ++ []) end.empty }

pub ins_start : (links : List LinkName) (nodes number : ℕ) (parts : Parts) (parameters : Parameters) (cell : Cell) (ins : List In)
    → cell ≡ cell_start parts parameters number
    → length ins ≡ nodes → EachAt (IsNewIn links nodes number) ins → AreTiedIns links nodes number cell ins
ins_start links nodes number parts parameters cell ins is count each =
    record { count = count; each = subst (λ (c : Cell). EachAt (FitsIn links nodes number c) ins) (sym is) at_start }
  where
    at_start : EachAt (FitsIn links nodes number (cell_start parts parameters number)) ins
    at_start k come at =
        let new = each k come at in
        record {
          name = new.name;
          words = ap all_carried new.empty.0 ∙ sym
              (λ i. none_come (node_count parts) k i ++ all_carried (option_to_list (new.empty.1 i)));
        }

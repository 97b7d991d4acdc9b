-- The ends of a node stay tied to its log: when messages come, when the node steps, and when messages are given out.
use Rattle.std.proofs.Common.{◌≡◌, ◌≢◌, ⊎_elim, ℕ, Option, Some, None, List, [], ◌∷◌, ◌++◌, slice_get, slice_set, refl, sym, ap, subst, ◌∙◌, append_assoc, append-nil}
use Rattle.std.specs.Prelude.{option_to_list}
use Rattle.std.proofs.lemmas.Option.{same_Some}
use Rattle.alw_msg.specs.declared.messages.Msg.{Msg}
use Rattle.alw_msg.specs.Lists.{front, behind}
use Rattle.alw_model.specs.Threads.{Logged, took_from, sent_to}
use Rattle.alw_cells.specs.Cells.{Cell, in_from, picked, after_giving}
use Rattle.alw_cells.proofs.Receivers.{picked_behind, picked_other}
use Rattle.alw_ruled.specs.Ends.{LinkName}
use Rattle.alw_work.specs.declared.ends.Out.{Out}
use Rattle.alw_work.specs.declared.ends.In.{In}
use Rattle.alw_work.specs.Seats.{EachAt, came_of, Works}
use Rattle.alw_work.specs.Ties.{given, all_carried, FitsOut, FitsIn, AreTiedOuts, AreTiedIns, IsSameButCome, IsSameButGiven, Fetches, Offers}
use Rattle.alw_work.proofs.Finishing.{at_place, set_length}

-- two links at one place are one
pub same_link : (links : List LinkName) (place other : ℕ) (x y : LinkName) → place ≡ other → slice_get links place ≡ Some x
    → slice_get links other ≡ Some y → x ≡ y
same_link links place other x y is first second = same_Some x y (sym first ∙ (ap (λ k. slice_get links k) is ∙ second))

module _ (links : List LinkName) (nodes number : ℕ) (before after : Cell) where
  pub tied_fetch : (from : ℕ) (ins : List In) (old new : In) → AreTiedIns links nodes number before ins → slice_get ins from ≡ Some old
      → Fetches from before after old new
      → AreTiedIns links nodes number after (slice_set ins from new)
  tied_fetch from ins old new tied here fetches = record { count = set_length ins from new ∙ tied.count; each = each }
    where
      mine : FitsIn links nodes number after from new
      mine =
          let fit = tied.each from old here in
          record { name = fit.name ∙ ap (λ l. Some l) (sym fetches.link); words = fetches.words fit.words }

      other : (k : ℕ) (come : In) → k ≢ from → slice_get ins k ≡ Some come → FitsIn links nodes number after k come
      other k come not_from at =
          let was = tied.each k come at in
          let same : came_of before k ≡ came_of after k = λ i. took_from k (sym fetches.same.log i) ++ sym (fetches.others k not_from) i in
          record { name = was.name; words = was.words ∙ ap (λ (xs : List Msg). xs ++ all_carried (option_to_list come.kept)) same }

      each : EachAt (FitsIn links nodes number after) (slice_set ins from new)
      each k come at =
          ⊎_elim (λ (h : (k ≡ from) × (new ≡ come)). subst (λ (y : ℕ × In). FitsIn links nodes number after y.0 y.1) (λ i. (sym h.0 i, h.1 i)) mine)
          (λ (h : (k ≢ from) × (slice_get ins k ≡ Some come)). other k come h.0 h.1) (at_place ins from new k come at)

  pub outs_same : (outs : List Out) → IsSameButCome before after → AreTiedOuts links nodes number before outs → AreTiedOuts links nodes number after outs
  outs_same outs same tied = record { count = tied.count; each = each }
    where
      each : EachAt (FitsOut links nodes number after) outs
      each k out at =
          let was = tied.each k out at in
          record { name = was.name; words = ap (λ p. given out ++ picked k p) same.pending ∙ (was.words ∙ ap (λ (l : List Logged). sent_to k l) (sym same.log)) }

  pub ins_same : (ins : List In) → IsSameButGiven before after → AreTiedIns links nodes number before ins → AreTiedIns links nodes number after ins
  ins_same ins same tied = record { count = tied.count; each = each }
    where
      each : EachAt (FitsIn links nodes number after) ins
      each k come at =
          let was = tied.each k come at in
          let whole : came_of before k ≡ came_of after k = λ i. took_from k (sym same.log i) ++ in_from (sym same.come i) k in
          record { name = was.name; words = was.words ∙ ap (λ (xs : List Msg). xs ++ all_carried (option_to_list come.kept)) whole }

  -- ---- steps

  pub outs_work : (outs : List Out) → Works before after → AreTiedOuts links nodes number before outs → AreTiedOuts links nodes number after outs
  outs_work outs works tied = record { count = tied.count; each = each }
    where
      each : EachAt (FitsOut links nodes number after) outs
      each k out at =
          let was = tied.each k out at in
          let more = works.sent k in
          record {
            name = was.name;
            words = ap (λ (xs : List Msg). given out ++ xs) more.2 ∙ (sym (append_assoc (given out) (picked k before.pending) more.0)
                ∙ (ap (λ (xs : List Msg). xs ++ more.0) was.words ∙ sym more.1));
          }

  pub ins_work : (ins : List In) → Works before after → AreTiedIns links nodes number before ins → AreTiedIns links nodes number after ins
  ins_work ins works tied = record { count = tied.count; each = each }
    where
      each : EachAt (FitsIn links nodes number after) ins
      each k come at =
          let was = tied.each k come at in
          record { name = was.name; words = was.words ∙ ap (λ (xs : List Msg). xs ++ all_carried (option_to_list come.kept)) (sym (works.came k)) }

  -- ---- messages that are given out

  pub tied_offer : (to : ℕ) (outs : List Out) (old new : Out) → AreTiedOuts links nodes number before outs → slice_get outs to ≡ Some old
      → Offers to before after old new
      → AreTiedOuts links nodes number after (slice_set outs to new)
  tied_offer to outs old new tied here offers = record { count = set_length outs to new ∙ tied.count; each = each }
    where
      mine : FitsOut links nodes number after to new
      mine =
          let fit = tied.each to old here in
          record {
            name = fit.name ∙ ap (λ l. Some l) (sym offers.link);
            words = offers.words ∙ (fit.words ∙ ap (λ (l : List Logged). sent_to to l) (sym offers.same.log));
          }

      other : (k : ℕ) (out : Out) → k ≢ to → slice_get outs k ≡ Some out → FitsOut links nodes number after k out
      other k out not_to at =
          let was = tied.each k out at in
          record {
            name = was.name;
            words = ap (λ (xs : List Msg). given out ++ xs) (offers.others k not_to)
                ∙ (was.words ∙ ap (λ (l : List Logged). sent_to k l) (sym offers.same.log));
          }

      each : EachAt (FitsOut links nodes number after) (slice_set outs to new)
      each k out at =
          ⊎_elim (λ (h : (k ≡ to) × (new ≡ out)). subst (λ (y : ℕ × Out). FitsOut links nodes number after y.0 y.1) (λ i. (sym h.0 i, h.1 i)) mine)
          (λ (h : (k ≢ to) × (slice_get outs k ≡ Some out)). other k out h.0 h.1) (at_place outs to new k out at)

front_some : (xs : List Msg) (msg : Msg) → Some msg ≡ front xs → xs ≡ msg ∷ behind xs
front_some [] msg is = absurd (cc)
front_some (first ∷ rest) msg is = cc

none_left : (xs : List Msg) → None ≡ front xs → behind xs ≡ xs
none_left [] is = refl
none_left (first ∷ rest) is = absurd (cc)

-- the out list was empty
pub offers_empty : (to : ℕ) (cell : Cell) (old new : Out) → new.end.link ≡ old.end.link → given new ≡ given old → None ≡ front (picked to cell.pending)
    → Offers to cell (after_giving cell to) old new
offers_empty to cell old new link same none = record {
  same = record { node = refl; log = refl; come = refl; dids = refl };
  link = link;
  others = λ k other. picked_other to k cell.pending other;
  words = λ i. same i ++ (picked_behind to cell.pending ∙ none_left (picked to cell.pending) none) i;
}

pub offers_one : (to : ℕ) (cell : Cell) (old mid new : Out) (msg : Msg) → mid.end.link ≡ old.end.link → given mid ≡ given old → mid.kept ≡ None
    → Some msg ≡ front (picked to cell.pending)
    → new.end.link ≡ mid.end.link → given new ≡ mid.end.pushed ++ msg ∷ [] → Offers to cell (after_giving cell to) old new
offers_one to cell old mid new msg link flushed empty is link_too sent =
    let rest = behind (picked to cell.pending) in
    let mid_is : mid.end.pushed ≡ given old = sym (ap (λ (o : Option Msg). mid.end.pushed ++ option_to_list o) empty ∙ append-nil mid.end.pushed) ∙ flushed in
    record {
      same = record { node = refl; log = refl; come = refl; dids = refl };
      link = link_too ∙ link;
      others = λ k other. picked_other to k cell.pending other;
      words = (λ i. sent i ++ picked_behind to cell.pending i) ∙ (append_assoc mid.end.pushed (msg ∷ []) rest
          ∙ (λ i. mid_is i ++ sym (front_some (picked to cell.pending) msg is) i));
    }

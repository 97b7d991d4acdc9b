-- Each move of a pass keeps the rule of a link.
use Rattle.std.proofs.Common.{◌≡◌, ◌≢◌, ◌⊎◌, ℕ, zero, suc, Some, None, List, [], ◌∷◌, ◌++◌, length, slice_set, inl, inr, ⊎_elim, refl, sym, subst, ap, ◌∙◌, append_assoc}
use Rattle.std.proofs.lemmas.Option.{none-some, same_Some}
use mathlib.Core.Option.{some, some-injective, some-ne-none}
use lib.ListN.{get_elem?}
use Rattle.crossbeam_queue.specs.Fifo.{Pushes, Pops, Forks, Merges, Learns}
use Rattle.crossbeam_queue.proofs.Lists.{at_set}
use Rattle.alw_msg.specs.declared.messages.Msg.{Msg}
use Rattle.alw_ruled.specs.declared.rule.View.{View}
use Rattle.alw_ruled.specs.Order.{view_of, known, ViewFits, InOrder, Adds, Takes, Left}

-- it may push, or pop
abbrev pub MayPush : View → Type 0
MayPush view = view.pushed ≡ Some (known view.pushed)

abbrev pub MayPop : View → Type 0
MayPop view = view.popped ≡ Some (known view.popped)

-- ---- lists of views

abbrev EachFits : ℕ → ℕ → List Msg → List Msg → List View → Type 0
EachFits sender receiver pushed popped views = (pass : ℕ) → (view : View) → get_elem? views pass ≡ some view → ViewFits sender receiver pushed popped pass view

-- one view is another, and the others stay
changed : (F : ℕ → View → Type 0) (views : List View) (pass : ℕ) (after : View) → F pass after
    → ((other : ℕ) → (view : View) → other ≢ pass → get_elem? views other ≡ some view → F other view)
    → (k : ℕ) → (view : View) → get_elem? (slice_set views pass after) k ≡ some view → F k view
changed F views pass after mine others k view at =
    ⊎_elim (λ (h : (k ≡ pass) × (after ≡ view)). subst (λ (y : ℕ × View). F y.0 y.1) (λ i. (sym h.0 i, h.1 i)) mine)
    (λ (h : (k ≢ pass) × (get_elem? views k ≡ some view)). others k view h.0 h.1) (at_set views pass k after view at)

-- a view at the end
at_end : (views : List View) (last view : View) (k : ℕ) → get_elem? (views ++ last ∷ []) k ≡ some view
    → (get_elem? views k ≡ some view) ⊎ ((last ≡ view) × (k ≡ length views))
at_end [] last view zero at = inr (some-injective last view at, refl)
at_end [] last view (suc k) at = absurd (some-ne-none view (sym at))
at_end (first ∷ rest) last view zero at = inl at
at_end (first ∷ rest) last view (suc k) at = ⊎_elim (λ h. inl h) (λ (h : (last ≡ view) × (k ≡ length rest)). inr (h.0, ap suc h.1))
    (at_end rest last view k at)

-- ---- the start

begins_fit : ViewFits 0 0 [] [] 0 (view_of (Some []) (Some []))
begins_fit = record { pushes = λ list is. (refl, sym (same_Some [] list is)); pops = λ list is. (refl, sym (same_Some [] list is)) }

begins_each : EachFits 0 0 [] [] (view_of (Some []) (Some []) ∷ [])
begins_each zero view at = subst (λ (v : View). ViewFits 0 0 [] [] 0 v) (some-injective _ view at) begins_fit
begins_each (suc k) view at = absurd (some-ne-none view (sym at))

pub begins : InOrder [] (view_of (Some []) (Some []) ∷ [])
begins = record { sender = 0; receiver = 0; pushed = []; popped = []; in_order = refl; each = begins_each }

-- ---- a pass that isn't the sender's, or not the receiver's

not_sender : (s r : ℕ) (p q : List Msg) (k : ℕ) (view : View) (other : ℕ) (more : List Msg) → k ≢ s → ViewFits s r p q k view → ViewFits other r more q k view
not_sender s r p q k view other more apart fit = record { pushes = λ list is. absurd (apart (fit.pushes list is).0); pops = fit.pops }

not_receiver : (s r : ℕ) (p q : List Msg) (k : ℕ) (view : View) (other : ℕ) (more : List Msg) → k ≢ r → ViewFits s r p q k view → ViewFits s other p more k view
not_receiver s r p q k view other more apart fit = record { pushes = fit.pushes; pops = λ list is. absurd (apart (fit.pops list is).0) }

-- ---- a push and a pop

pub sends : (n pass : ℕ) (v : View) (msg : Msg) → MayPush v → Pushes InOrder n pass v msg (Adds v msg)
sends n pass v msg may held views room h at =
    let mine = h.each pass v at in
    let own = mine.pushes (known v.pushed) may in
    let after = view_of (Some (known v.pushed ++ msg ∷ [])) v.popped in
    let pushed = h.pushed ++ msg ∷ [] in
    let fits : ViewFits h.sender h.receiver pushed h.popped pass after = record {
      pushes = λ list is. (own.0, sym (same_Some (known v.pushed ++ msg ∷ []) list is) ∙ ap (λ (l : List Msg). l ++ msg ∷ []) own.1);
      pops = mine.pops;
    } in (
      after,
      record {
        sender = h.sender;
        receiver = h.receiver;
        pushed = pushed;
        popped = h.popped;
        in_order = ap (λ (l : List Msg). l ++ msg ∷ []) h.in_order ∙ append_assoc h.popped held (msg ∷ []);
        each = changed (ViewFits h.sender h.receiver pushed h.popped) views pass after fits
            (λ k view other there. not_sender h.sender h.receiver h.pushed h.popped k view h.sender pushed (λ e. other (e ∙ sym own.0)) (h.each k view there));
      },
      refl,
    )

pub gets : (pass : ℕ) (v : View) → MayPop v → Pops InOrder pass v (Takes v)
gets pass v may msg held views h at =
    let mine = h.each pass v at in
    let own = mine.pops (known v.popped) may in
    let after = view_of v.pushed (Some (known v.popped ++ msg ∷ [])) in
    let popped = h.popped ++ msg ∷ [] in
    let fits : ViewFits h.sender h.receiver h.pushed popped pass after = record {
      pushes = mine.pushes;
      pops = λ list is. (own.0, sym (same_Some (known v.popped ++ msg ∷ []) list is) ∙ ap (λ (l : List Msg). l ++ msg ∷ []) own.1);
    } in (
      after,
      record {
        sender = h.sender;
        receiver = h.receiver;
        pushed = h.pushed;
        popped = popped;
        in_order = h.in_order ∙ sym (append_assoc h.popped (msg ∷ []) held);
        each = changed (ViewFits h.sender h.receiver h.pushed popped) views pass after fits
            (λ k view other there. not_receiver h.sender h.receiver h.pushed h.popped k view h.receiver popped (λ e. other (e ∙ sym own.0))
            (h.each k view there));
      },
      refl,
    )

-- ---- one pass made two, and two made one

pub forks : (pass : ℕ) (v : View) → MayPush v → MayPop v → Forks InOrder pass v (view_of v.pushed None) (view_of None v.popped)
forks pass v may_push may_pop held views h at =
    let mine = h.each pass v at in
    let own = mine.pops (known v.popped) may_pop in
    let left = view_of v.pushed None in
    let right = view_of None v.popped in
    let vs : List View = slice_set views pass left in
    let last = length vs in
    let left_fits : ViewFits h.sender last h.pushed h.popped pass left = record { pushes = mine.pushes; pops = λ list is. absurd (none-some list is) } in
    let right_fits : ViewFits h.sender last h.pushed h.popped last right = record
    { pushes = λ list is. absurd (none-some list is); pops = λ list is. (refl, (mine.pops list is).1) } in
    let old : EachFits h.sender last h.pushed h.popped vs = changed (ViewFits h.sender last h.pushed h.popped) views pass left left_fits
    (λ k view other there. not_receiver h.sender h.receiver h.pushed h.popped k view last h.popped (λ e. other (e ∙ sym own.0)) (h.each k view there)) in
    record {
      sender = h.sender;
      receiver = last;
      pushed = h.pushed;
      popped = h.popped;
      in_order = h.in_order;
      each = λ k view there. ⊎_elim (λ (was : get_elem? vs k ≡ some view). old k view was)
          (λ (is : (right ≡ view) × (k ≡ last)). subst (λ (y : ℕ × View). ViewFits h.sender last h.pushed h.popped y.0 y.1) (λ i. (sym is.1 i, is.0 i))
          right_fits) (at_end vs right view k there);
    }

pub merges : (pass : ℕ) (v : View) (other : ℕ) (u : View) → MayPush v → MayPop u
    → Merges InOrder pass v other u (view_of v.pushed u.popped) (view_of None None)
merges pass v other u may_push may_pop held views h at apart at_other =
    let mine = h.each pass v at in
    let own = mine.pushes (known v.pushed) may_push in
    let both = view_of v.pushed u.popped in
    let spent = view_of None None in
    let was : get_elem? views other ≡ some u = ⊎_elim (λ (x : (other ≡ pass) × (both ≡ u)). absurd (apart x.0))
    (λ (x : (other ≢ pass) × (get_elem? views other ≡ some u)). x.1)
    (at_set views pass other both u at_other) in
    let theirs = h.each other u was in
    let given = theirs.pops (known u.popped) may_pop in
    let Now : ℕ → View → Type 0 = λ k view. k ≢ other → ViewFits h.sender pass h.pushed h.popped k view in
    let both_fits : Now pass both = λ _. record { pushes = mine.pushes; pops = λ list is. (refl, (theirs.pops list is).1) } in
    let spent_fits : ViewFits h.sender pass h.pushed h.popped other spent = record
    { pushes = λ list is. absurd (none-some list is); pops = λ list is. absurd (none-some list is) } in
    let now = changed Now views pass both both_fits
    (λ k view _ there away. not_receiver h.sender h.receiver h.pushed h.popped k view pass h.popped (λ e. away (e ∙ sym given.0)) (h.each k view there)) in
    record {
      sender = h.sender;
      receiver = pass;
      pushed = h.pushed;
      popped = h.popped;
      in_order = h.in_order;
      each = changed (ViewFits h.sender pass h.pushed h.popped) (slice_set views pass both) other spent spent_fits (λ k view away there. now k view there away);
    }

-- ---- what the pass that has both lists knows

pub totals : (pass : ℕ) (v : View) → MayPush v → MayPop v → Learns InOrder pass v (Left v)
totals pass v may_push may_pop held views h at =
    let mine = h.each pass v at in
    (mine.pushes (known v.pushed) may_push).1 ∙ (h.in_order ∙ ap (λ (l : List Msg). l ++ held) (sym (mine.pops (known v.popped) may_pop).1))

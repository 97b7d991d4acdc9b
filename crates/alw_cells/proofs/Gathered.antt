-- Messages that are put behind others one by one, as a list and as bytes.
use Rattle.std.proofs.Common.{◌≡◌, ℕ, zero, suc, slice_get, ◌+◌, ◌≤◌, Some, List, [], ◌∷◌, ◌++◌, length, take, flat_map, sym, subst, ap, ◌∙◌, append_assoc}
use Rattle.std.proofs.Common.{append-nil, arith}
use Rattle.std.specs.List.{AllByRecursion}
use Rattle.std.proofs.lemmas.List.{take_all}
use Rattle.std.proofs.lemmas.List.Concat.{flat_map-append}
use Rattle.std.proofs.lemmas.Option.{same_Some}
use Rattle.alw_msg.specs.declared.messages.Msg.{Msg}
use Rattle.alw_cells.specs.Layout.{half, sent_bytes, back_bytes}
use Rattle.alw_cells.specs.Records.{FitsSend}

-- the messages before a place, and the one there
take_next : (sends : List (ℕ × Msg)) (i : ℕ) (send : ℕ × Msg) → slice_get sends i ≡ Some send → take (i + 1) sends ≡ take i sends ++ send ∷ []
take_next [] i send is = absurd (cc)
take_next (first ∷ rest) zero send is = ap (λ (one : ℕ × Msg). one ∷ []) (same_Some first send is)
take_next (first ∷ rest) (suc i) send is = let e : suc i + 1 ≡ suc (i + 1) =
    omega arith in rw e (ap (λ (xs : List (ℕ × Msg)). first ∷ xs) (take_next rest i send is))

pub appended : (before now next sends : List (ℕ × Msg)) (i : ℕ) (send : ℕ × Msg) → now ≡ before ++ take i sends → slice_get sends i ≡ Some send
    → next ≡ now ++ send ∷ [] → next ≡ before ++ take (i + 1) sends
appended before now next sends i send so_far is put =
    put ∙ (ap (λ (xs : List (ℕ × Msg)). xs ++ send ∷ []) so_far ∙ (append_assoc before (take i sends) (send ∷ [])
    ∙ ap (λ (xs : List (ℕ × Msg)). before ++ xs) (sym (take_next sends i send is))))

-- ---- as bytes

pub packed : (before now next count : List ℕ) (sends : List (ℕ × Msg)) (i : ℕ) (send : ℕ × Msg)
    → now ≡ before ++ (count ++ flat_map sent_bytes (take i sends)) → slice_get sends i ≡ Some send
    → next ≡ now ++ sent_bytes send → next ≡ before ++ (count ++ flat_map sent_bytes (take (i + 1) sends))
packed before now next count sends i send so_far is put =
    let here = flat_map sent_bytes (take i sends) in
    let one : flat_map sent_bytes (take (i + 1) sends) ≡ here ++ sent_bytes send =
    ap (flat_map sent_bytes) (take_next sends i send is) ∙ (flat_map-append sent_bytes (take i sends) (send ∷ [])
    ∙ ap (λ (xs : List ℕ). here ++ xs) (append-nil (sent_bytes send))) in
    put ∙ (ap (λ (xs : List ℕ). xs ++ sent_bytes send) so_far ∙ (append_assoc before (count ++ here) (sent_bytes send)
    ∙ ap (λ (xs : List ℕ). before ++ xs) (append_assoc count here (sent_bytes send) ∙ ap (λ (xs : List ℕ). count ++ xs) (sym one))))

all_fit : (sends : List (ℕ × Msg)) (send : ℕ × Msg) → AllByRecursion FitsSend sends → FitsSend send → AllByRecursion FitsSend (sends ++ send ∷ [])
all_fit [] send fit fits = (fits, tt)
all_fit (first ∷ rest) send fit fits = (fit.0, all_fit rest send fit.1 fits)

pub more_fit : (sends : List (ℕ × Msg)) (i : ℕ) (send : ℕ × Msg) → slice_get sends i ≡ Some send → AllByRecursion FitsSend (take i sends) → FitsSend send
    → AllByRecursion FitsSend (take (i + 1) sends)
more_fit sends i send is fit fits = subst (λ (xs : List (ℕ × Msg)). AllByRecursion FitsSend xs) (sym (take_next sends i send is))
    (all_fit (take i sends) send fit fits)

pub whole : (before now : List ℕ) (sends : List (ℕ × Msg)) (i : ℕ) → length sends ≤ i
    → now ≡ before ++ (half (length sends) ++ flat_map sent_bytes (take i sends)) → now ≡ before ++ back_bytes sends
unfolding back_bytes
whole before now sends i all is = is ∙ ap (λ (xs : List (ℕ × Msg)). before ++ (half (length sends) ++ flat_map sent_bytes xs)) (take_all i sends all)

-- The first of some messages that brings the bytes of a line.
use Rattle.std.proofs.Common.{◌≡◌, ℕ, suc, ◌<◌, ◌==◌, cond, Some, None, List, [], ◌∷◌, ◌++◌, take, drop, length, get_or, refl, sym, ap, ◌∙◌, append_assoc}
use Rattle.std.proofs.lemmas.List.{take-append-drop}
use Rattle.std.proofs.lemmas.Option.{none-some}
use Rattle.std.proofs.lemmas.List.Concat.{flat_map-append}
use Rattle.std.proofs.Math.Seq.{drop-cons}
use Rattle.alw_num.specs.declared.addresses.Line.{Line}
use Rattle.alw_msg.specs.declared.messages.Msg.{Msg}
use Rattle.alw_msg.specs.Contents.{content, request_in, reply_in}
use Rattle.alw_msg.specs.Lists.{front}
use Rattle.alw_model.specs.Lines.{ups, downs, up_carried, down_carried}
use Rattle.alw_mesh.specs.Values.{brought_home, all_brought_home, brought_out, all_brought_out}

pub home_more : (line : ℕ) (msg : Msg) (rest : List Msg) → all_brought_home line (msg ∷ rest) ≡ brought_home line msg ++ all_brought_home line rest
home_more line msg rest = flat_map-append up_carried (cond (msg.line.0 == line) (request_in (content msg)) []) (ups line rest)

pub out_more : (line : ℕ) (msg : Msg) (rest : List Msg) → all_brought_out line (msg ∷ rest) ≡ brought_out line msg ++ all_brought_out line rest
out_more line msg rest = flat_map-append down_carried (cond (msg.line.0 == line) (reply_in (content msg)) []) (downs line rest)

module _ (one : Msg → List Line) (each : List Msg → List Line) (nothing : each [] ≡ []) (more : (msg : Msg) (rest : List Msg) → each (msg ∷ rest) ≡ one msg ++ each rest) where
  together : (xs ys : List Msg) → each (xs ++ ys) ≡ each xs ++ each ys
  together [] ys = ap (λ bodies. bodies ++ each ys) (sym nothing)
  together (x ∷ rest) ys =
      more x (rest ++ ys) ∙ (ap (λ bodies. one x ++ bodies) (together rest ys) ∙ (sym (append_assoc (one x) (each rest) (each ys)) ∙ ap (λ bodies. bodies ++ each ys) (sym (more x rest))))

  -- one more that brings nothing
  pub none_more : (xs : List Msg) (x : Msg) → each xs ≡ [] → one x ≡ [] → each (xs ++ x ∷ []) ≡ []
  none_more xs x none nor =
      let last : each (x ∷ []) ≡ [] = more x [] ∙ (λ i. nor i ++ nothing i) in
      together xs (x ∷ []) ∙ (λ i. none i ++ last i)

  -- the first that brings something
  pub first_is : (msgs : List Msg) (k : ℕ) (msg : Msg) (body : Line) → k < length msgs → each (take k msgs) ≡ [] → msg ≡ get_or msgs k msg → one msg ≡ body ∷ [] → Some body ≡ front (each msgs)
  first_is msgs k msg body l none is brings =
      let behind = drop (suc k) msgs in
      let here : drop k msgs ≡ msg ∷ behind = drop-cons msgs k msg l ∙ ap (λ m. m ∷ behind) (sym is) in
      let parts : take k msgs ++ (msg ∷ behind) ≡ msgs = ap (λ rest. take k msgs ++ rest) (sym here) ∙ take-append-drop k msgs in
      let last : each (msg ∷ behind) ≡ body ∷ each behind = more msg behind ∙ ap (λ bodies. bodies ++ each behind) brings in
      let split : each msgs ≡ body ∷ each behind = sym (ap each parts) ∙ (together (take k msgs) (msg ∷ behind) ∙ (λ i. none i ++ last i)) in
      sym (ap front split)

-- the first of two lists
pub front_here : (xs ys : List Line) (x : Line) → front xs ≡ Some x → front (xs ++ ys) ≡ Some x
front_here [] ys x e = absurd (none-some x e)
front_here (first ∷ rest) ys x e = e

pub front_behind : (xs ys : List Line) → front xs ≡ None → front (xs ++ ys) ≡ front ys
front_behind [] ys e = refl
front_behind (first ∷ rest) ys e = absurd (none-some first (sym e))

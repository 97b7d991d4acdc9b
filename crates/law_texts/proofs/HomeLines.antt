-- The line of a home line is read in one way, and begins with its kind.
use Rattle.std.proofs.Common.{◌≡◌, ℕ, Bool, true, false, List, ◌++◌, codes, refl, sym, ap, subst, ◌∙◌, arith, append_assoc}
use Rattle.std.specs.Fmt.{decimal}
use Rattle.std.specs.List.{AllByRecursion}
use Rattle.alw_num.specs.declared.addresses.Line.{Line}
use Rattle.alw_num.specs.declared.states.State.{State}
use Rattle.alw_num.specs.declared.states.Meta.{Meta}
use Rattle.alw_num.specs.NodeSets.{Nodes, members, has_node}
use Rattle.alw_num.specs.Weights.{digit, times}
use Rattle.alw_num.proofs.Sets.{same_nodes, member}
use Rattle.alw_text.specs.Pieces.{nodes_text}
use Rattle.alw_model.specs.LimitLess.{Directory}
use Rattle.alw_trace.specs.Lines.{IsNumber}
use Rattle.law_texts.specs.Words.{AreWords}
use Rattle.alw_report.specs.Reports.{pointers_text}
use Rattle.alw_save.specs.Lines.{body_text, home_states, home_line}
use Rattle.law_texts.proofs.Readings.{Tells, fixed, both, behind, written, number}
use Rattle.law_texts.proofs.Runs.{rank}
use Rattle.law_texts.proofs.Choices.{one_state, one_meta}
use Rattle.law_texts.proofs.Words.{one_body, body-stops, one_nodes}

-- sets with the same members
same_members : (one other : Nodes) → members one ≡ members other → one ≡ other
same_members one other e = same_nodes one other (λ k. same (has_node one k) (has_node other k) (sym (member one k) ∙ ap (times k) e ∙ member other k))
  where
    same : (b c : Bool) → digit b ≡ digit c → b ≡ c
    same true true e = refl
    same true false e = absurd (omega (arith, e))
    same false true e = absurd (omega (arith, e))
    same false false e = refl

-- an entry of a line in range, which is listed or not
pub record IsHome (listed : Bool) (entry : Directory) : Type 0 where
  pub hardware : AllByRecursion IsNumber (members entry.hardware)
  pub software : AllByRecursion IsNumber (members entry.software)
  pub acks : IsNumber entry.acks
  pub body : AreWords entry.body
  pub always : entry.always ≡ listed

abbrev pointers : Directory → List ℕ
pointers entry = pointers_text (members entry.hardware) (members entry.software) entry.acks

pointers-is : (entry : Directory) (more : List ℕ)
    → pointers entry ++ more ≡ codes " hw " ++
    (nodes_text (members entry.hardware) ++ (codes " sw " ++ (nodes_text (members entry.software) ++ (codes " acks " ++ (decimal entry.acks ++ more)))))
unfolding pointers_text
pointers-is entry more =
    let soft = nodes_text (members entry.software) in
    let hard = nodes_text (members entry.hardware) in
    ap (λ (t : List ℕ). codes " hw " ++ t) (append_assoc hard (codes " sw " ++ (soft ++ (codes " acks " ++ decimal entry.acks))) more
    ∙ ap (λ (t : List ℕ). hard ++ (codes " sw " ++ t)) (append_assoc soft (codes " acks " ++ decimal entry.acks) more))

abbrev Pointed : Directory → Directory → Type 0
Pointed one other = (members one.hardware ≡ members other.hardware) × ((members one.software ≡ members other.software)
    × ((one.acks ≡ other.acks) × ((one.body ≡ other.body) × Unit {0})))

one_pointers : (listed : Bool) (one other : Directory) → IsHome listed one → IsHome listed other
    → Tells (Pointed one other) (pointers one ++ (body_text one.body ++ codes "\n")) (pointers other ++ (body_text other.body ++ codes "\n"))
one_pointers listed one other is also =
    written (pointers-is one (body_text one.body ++ codes "\n")) (pointers-is other (body_text other.body ++ codes "\n"))
    (behind (codes " hw ") (one_nodes (members one.hardware) (members other.hardware) is.hardware also.hardware
    (behind (codes "sw ") (one_nodes (members one.software) (members other.software) is.software also.software
    (behind (codes "acks ") (number one.acks other.acks is.acks also.acks (body-stops one.body (codes "\n")) (body-stops other.body (codes "\n"))
    (both (one_body one.body other.body is.body also.body) (fixed (codes "\n")))))))))

abbrev Stated : ℕ → ℕ → Directory → Directory → Type 0
Stated line line' one other = (line ≡ line') × ((one.state ≡ other.state) × (one.meta ≡ other.meta))

one_states : (line line' : ℕ) (one other : Directory) → IsNumber line → IsNumber line'
    → Tells (Stated line line' one other) (home_states line one) (home_states line' other)
unfolding home_states
one_states line line' one other l k =
    behind (codes "home ") (number line line' l k (omega arith) (omega arith) (behind (codes " ")
    (both (one_state one.state other.state) (behind (codes " ") (one_meta one.meta other.meta)))))

-- entries whose fields are the same
pub same_entry : (one other : Directory) → one.state ≡ other.state → one.meta ≡ other.meta → one.hardware ≡ other.hardware → one.software ≡ other.software
    → one.acks ≡ other.acks → one.body ≡ other.body → one.always ≡ other.always → one ≡ other
same_entry one other =
    same one.state other.state one.meta other.meta one.hardware other.hardware one.software other.software one.acks other.acks one.body other.body
    one.always other.always
  where
    same : (s s' : State) (m m' : Meta) (h h' w w' : Nodes) (a a' : ℕ) (b b' : Line) (t t' : Bool)
        → s ≡ s' → m ≡ m' → h ≡ h' → w ≡ w' → a ≡ a' → b ≡ b' → t ≡ t'
        → ◌≡◌ {A = Directory} (record { state = s; meta = m; hardware = h; software = w; acks = a; body = b; always = t })
        (record { state = s'; meta = m'; hardware = h'; software = w'; acks = a'; body = b'; always = t' })
    same s s' m m' h h' w w' a a' b b' t t' e1 e2 e3 e4 e5 e6 e7 = cc

-- a home line with its number
abbrev pub IsHomeRow : (ℕ → Bool) → ℕ × Directory → Type 0
IsHomeRow listed row = IsNumber row.0 × IsHome (listed row.0) row.1

abbrev rest_of : Directory → List ℕ
rest_of entry = pointers entry ++ (body_text entry.body ++ codes "\n")

pub one_home : (listed : ℕ → Bool) (one other : ℕ × Directory) → IsHomeRow listed one → IsHomeRow listed other
    → Tells (one ≡ other) (home_line one.0 one.1) (home_line other.0 other.1)
one_home listed one other is also = record {
  read = λ u v e.
      let states = (one_states one.0 other.0 one.1 other.1 is.0 also.0).read (rest_of one.1 ++ u) (rest_of other.1 ++ v)
      (sym (append_assoc (home_states one.0 one.1) (rest_of one.1) u) ∙ e ∙ append_assoc (home_states other.0 other.1) (rest_of other.1) v) in
      let line = states.0.0 in
      let here : IsHome (listed other.0) one.1 = subst (λ (k : ℕ). IsHome (listed k) one.1) line is.1 in
      let rest = (one_pointers (listed other.0) one.1 other.1 here also.1).read u v states.1 in
      let entry = same_entry one.1 other.1 states.0.1.0 states.0.1.1 (same_members one.1.hardware other.1.hardware rest.0.0)
      (same_members one.1.software other.1.software rest.0.1.0) rest.0.1.1.0 rest.0.1.1.1.0 (here.always ∙ sym also.1.always) in
      (λ i. (line i, entry i), rest.1);
}

pub home-ranks : (row : ℕ × Directory) (u : List ℕ) → rank (home_line row.0 row.1 ++ u) ≡ 3
unfolding home_states
home-ranks row u = refl

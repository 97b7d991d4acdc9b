-- Lines of a trace: how their texts lie around their numbers, and where none stands.
use Rattle.std.proofs.Common.{◌≡◌, ◌≢◌, ℕ, ◌^◌, ◌<◌, List, [], ◌∷◌, ◌++◌, codes, refl, sym, ap, ◌∙◌, arith, append_assoc}
use Rattle.std.specs.Fmt.{decimal}
use Rattle.alw_msg.specs.declared.events.Event.{Event}
use Rattle.alw_msg.specs.declared.events.Event.TheVariants.{Instr, Handle, Deliver, Evict}
use Rattle.alw_msg.specs.declared.events.Entry.{Entry}
use Rattle.alw_image.specs.Parameters.{Parameters}
use Rattle.alw_report.specs.Reports.{heading, params_word, params_line}
use Rattle.alw_trace.specs.Texts.{event_text, entry_line}
use Rattle.alw_trace.specs.Lines.{IsNumber, HasThree, HasNumbers, IsEntry, Lacks}
use Rattle.alw_trace.specs.Fields.{pair_line, event_line}
use Rattle.alw_trace.proofs.Numbers.{rest_is, rest_behind}

-- a number at the end of a line
pub last_number : (n : ℕ) (rest : List ℕ) → (decimal n ++ 10 ∷ []) ++ rest ≡ decimal n ++ 10 ∷ rest
last_number n rest = append_assoc (decimal n) (10 ∷ []) rest

pub heading-is : (name : List ℕ) (n : ℕ) (rest : List ℕ) → heading name n ++ rest ≡ (name ++ codes " ") ++ (decimal n ++ 10 ∷ rest)
heading-is name n rest =
    append_assoc name (32 ∷ (decimal n ++ 10 ∷ [])) rest ∙ ap (λ (t : List ℕ). name ++ 32 ∷ t) (last_number n rest)
    ∙ sym (append_assoc name (32 ∷ []) (decimal n ++ 10 ∷ rest))

-- ---- two numbers

pub pair-is : (a b : ℕ) (rest : List ℕ) → pair_line a b ++ rest ≡ decimal a ++ 32 ∷ (decimal b ++ 10 ∷ rest)
pair-is a b rest = append_assoc (decimal a) (32 ∷ (decimal b ++ 10 ∷ [])) rest ∙ ap (λ (t : List ℕ). decimal a ++ 32 ∷ t) (last_number b rest)

pub no_second : (text front one : List ℕ) (n : ℕ) → n < 2 ^ 64 → text ≡ front ++ (decimal n ++ 32 ∷ one)
    → ((m : ℕ) → (rest : List ℕ) → m < 2 ^ 64 → one ≢ decimal m ++ 10 ∷ rest)
    → (a b : ℕ) → (rest : List ℕ) → IsNumber a → IsNumber b → text ≢ front ++ (pair_line a b ++ rest)
no_second text front one n m e none a b rest l k is =
    none b rest k (rest_behind text front one (decimal b ++ 10 ∷ rest) n a 32 m l (omega arith) e (is ∙ ap (λ (t : List ℕ). front ++ t) (pair-is a b rest)))

-- ---- parameters

pub params-is : (p : Parameters) (rest : List ℕ)
    → params_line p ++ rest ≡ codes "params pointers " ++
    (decimal p.pointers ++ 32 ∷ (codes "sets " ++ (decimal p.sets ++ 32 ∷ (codes "limit " ++ (decimal p.limit ++ 10 ∷ rest)))))
unfolding params_line params_word
params-is p rest =
    let last = last_number p.limit rest in
    let third : (codes " limit " ++ (decimal p.limit ++ codes "\n")) ++ rest ≡ codes " limit " ++ (decimal p.limit ++ 10 ∷ rest) =
    ap (λ (t : List ℕ). codes " limit " ++ t) last in
    let second : (codes " sets " ++ (decimal p.sets ++ (codes " limit " ++ (decimal p.limit ++ codes "\n")))) ++ rest ≡ codes " sets " ++
    (decimal p.sets ++ (codes " limit " ++ (decimal p.limit ++ 10 ∷ rest)))
    = ap (λ (t : List ℕ). codes " sets " ++ t)
    (append_assoc (decimal p.sets) (codes " limit " ++ (decimal p.limit ++ codes "\n")) rest ∙ ap (λ (t : List ℕ). decimal p.sets ++ t) third) in
    ap (λ (t : List ℕ). codes "params pointers " ++ t)
    (append_assoc (decimal p.pointers) (codes " sets " ++ (decimal p.sets ++ (codes " limit " ++ (decimal p.limit ++ codes "\n")))) rest
    ∙ ap (λ (t : List ℕ). decimal p.pointers ++ t) second)

pub params_found : (text one two three : List ℕ) (p : Parameters) → text ≡ codes "params pointers " ++ (decimal p.pointers ++ 32 ∷ one)
    → one ≡ codes "sets " ++ (decimal p.sets ++ 32 ∷ two)
    → two ≡ codes "limit " ++ (decimal p.limit ++ 10 ∷ three) → text ≡ params_line p ++ three
params_found text one two three p e f g =
    e ∙ ap (λ (t : List ℕ). codes "params pointers " ++ (decimal p.pointers ++ 32 ∷ t))
    (f ∙ ap (λ (t : List ℕ). codes "sets " ++ (decimal p.sets ++ 32 ∷ t)) g) ∙ sym (params-is p three)

pub no_pointers : (text : List ℕ) → ((n : ℕ) → (rest : List ℕ) → n < 2 ^ 64 → text ≢ codes "params pointers " ++ (decimal n ++ 32 ∷ rest))
    → Lacks HasThree params_line text
no_pointers text none p behind fits is = none p.pointers _ fits.0 (is ∙ params-is p behind)

second_is : (text one : List ℕ) (n : ℕ) (p : Parameters) (behind : List ℕ) → n < 2 ^ 64 → HasThree p
    → text ≡ codes "params pointers " ++ (decimal n ++ 32 ∷ one) → text ≡ params_line p ++ behind
    → one ≡ codes "sets " ++ (decimal p.sets ++ 32 ∷ (codes "limit " ++ (decimal p.limit ++ 10 ∷ behind)))
second_is text one n p behind l fits e is =
    rest_behind text (codes "params pointers ") one
    (codes "sets " ++ (decimal p.sets ++ 32 ∷ (codes "limit " ++ (decimal p.limit ++ 10 ∷ behind)))) n p.pointers 32 l fits.0 (omega arith) e
    (is ∙ params-is p behind)

pub no_sets : (text one : List ℕ) (n : ℕ) → n < 2 ^ 64 → text ≡ codes "params pointers " ++ (decimal n ++ 32 ∷ one)
    → ((m : ℕ) → (rest : List ℕ) → m < 2 ^ 64 → one ≢ codes "sets " ++ (decimal m ++ 32 ∷ rest))
    → Lacks HasThree params_line text
no_sets text one n l e none p behind fits is = none p.sets _ fits.1.0 (second_is text one n p behind l fits e is)

pub no_limit : (text one two : List ℕ) (n m : ℕ) → n < 2 ^ 64 → m < 2 ^ 64 → text ≡ codes "params pointers " ++ (decimal n ++ 32 ∷ one)
    → one ≡ codes "sets " ++ (decimal m ++ 32 ∷ two)
    → ((k : ℕ) → (rest : List ℕ) → k < 2 ^ 64 → two ≢ codes "limit " ++ (decimal k ++ 10 ∷ rest)) → Lacks HasThree params_line text
no_limit text one two n m l k e f none p behind fits is =
    none p.limit behind fits.1.1.0 (rest_behind one (codes "sets ") two (codes "limit " ++ (decimal p.limit ++ 10 ∷ behind)) m p.sets 32 k fits.1.0
    (omega arith) f (second_is text one n p behind l fits e is))

-- ---- entries

event-is : (event : Event) → event_text event ++ codes "\n" ≡ 32 ∷ event_line event
event-is (Instr node) = refl
event-is (Handle node) = refl
event-is (Deliver from to) = ap (λ (t : List ℕ). 32 ∷ 68 ∷ 32 ∷ t) (append_assoc (decimal from.0) (32 ∷ decimal to.0) (10 ∷ []))
event-is (Evict node set) = ap (λ (t : List ℕ). 32 ∷ 69 ∷ 32 ∷ t) (append_assoc (decimal node.0) (32 ∷ decimal set) (10 ∷ []))

pub entry-is : (entry : Entry) (rest : List ℕ) → entry_line entry ++ rest ≡ decimal entry.stamp ++ 32 ∷ (event_line entry.event ++ rest)
entry-is entry rest =
    append_assoc (decimal entry.stamp) (event_text entry.event ++ codes "\n") rest
    ∙ ap (λ (t : List ℕ). decimal entry.stamp ++ (t ++ rest)) (event-is entry.event)

pub no_event : (text one : List ℕ) (n : ℕ) → n < 2 ^ 64 → text ≡ decimal n ++ 32 ∷ one → Lacks HasNumbers event_line one → Lacks IsEntry entry_line text
no_event text one n l e none entry behind fits is =
    none entry.event behind fits.1 (rest_is n entry.stamp 32 one (event_line entry.event ++ behind) l fits.0 (omega arith)
    (sym e ∙ is ∙ entry-is entry behind))

-- an event of one number, and of two
pub no_line : (text : List ℕ) → ((n : ℕ) → (rest : List ℕ) → n < 2 ^ 64 → text ≢ codes "I " ++ (decimal n ++ 10 ∷ rest))
    → ((n : ℕ) → (rest : List ℕ) → n < 2 ^ 64 → text ≢ codes "H " ++ (decimal n ++ 10 ∷ rest))
    → ((a b : ℕ) → (rest : List ℕ) → IsNumber a → IsNumber b → text ≢ codes "D " ++ (pair_line a b ++ rest))
    → ((a b : ℕ) → (rest : List ℕ) → IsNumber a → IsNumber b → text ≢ codes "E " ++ (pair_line a b ++ rest))
    → Lacks HasNumbers event_line text
no_line text instr handle deliver evict (Instr node) behind fits is =
    instr node.0 behind fits (is ∙ ap (λ (t : List ℕ). codes "I " ++ t) (last_number node.0 behind))
no_line text instr handle deliver evict (Handle node) behind fits is =
    handle node.0 behind fits (is ∙ ap (λ (t : List ℕ). codes "H " ++ t) (last_number node.0 behind))
no_line text instr handle deliver evict (Deliver from to) behind fits is = deliver from.0 to.0 behind fits.0 fits.1 is
no_line text instr handle deliver evict (Evict node set) behind fits is = evict node.0 set behind fits.0 fits.1 is

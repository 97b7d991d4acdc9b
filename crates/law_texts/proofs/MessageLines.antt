-- The lines of packets and of messages on links are read in one way, and begin with their kind.
use Rattle.std.proofs.Common.{◌≡◌, ℕ, List, ◌++◌, codes, refl, arith}
use Rattle.alw_num.specs.declared.addresses.Line.{Line}
use Rattle.alw_msg.specs.declared.messages.Kind.{Kind}
use Rattle.alw_msg.specs.declared.messages.Msg.{Msg}
use Rattle.alw_trace.specs.Lines.{IsNumber}
use Rattle.law_texts.specs.Words.{AreWords}
use Rattle.alw_save.specs.Lines.{message_text, packet_line, link_line}
use Rattle.law_texts.proofs.Readings.{Tells, fixed, both, behind, said_as, number}
use Rattle.law_texts.proofs.Runs.{rank}
use Rattle.law_texts.proofs.Choices.{one_kind}
use Rattle.law_texts.proofs.Words.{one_body, body-stops}

pub record IsMessage (msg : Msg) : Type 0 where
  pub line : IsNumber msg.line.0
  pub src : IsNumber msg.src.0
  pub stamp : IsNumber msg.stamp
  pub body : AreWords msg.body

one_message : (one other : Msg) → IsMessage one → IsMessage other → Tells (one ≡ other) (message_text one) (message_text other)
unfolding message_text
one_message one other is also =
    said_as (λ (s : (one.kind ≡ other.kind) × ((one.line.0 ≡ other.line.0) × ((one.src.0 ≡ other.src.0) × ((one.stamp ≡ other.stamp)
    × ((one.body ≡ other.body) × Unit {0}))))).
    same one.kind other.kind one.line.0 other.line.0 one.src.0 other.src.0 one.stamp other.stamp one.body other.body s.0 s.1.0 s.1.1.0 s.1.1.1.0 s.1.1.1.1.0)
    (both (one_kind one.kind other.kind) (behind (codes " ") (number one.line.0 other.line.0 is.line also.line (omega arith) (omega arith)
    (behind (codes " ") (number one.src.0 other.src.0 is.src also.src (omega arith) (omega arith)
    (behind (codes " ") (number one.stamp other.stamp is.stamp also.stamp (body-stops one.body (codes "\n")) (body-stops other.body (codes "\n"))
    (both (one_body one.body other.body is.body also.body) (fixed (codes "\n"))))))))))
  where
    same : (k k' : Kind) (l l' s s' t t' : ℕ) (b b' : Line) → k ≡ k' → l ≡ l' → s ≡ s' → t ≡ t' → b ≡ b'
        → ◌≡◌ {A = Msg} (record { kind = k; line = record { 0 = l }; src = record { 0 = s }; stamp = t; body = b })
        (record { kind = k'; line = record { 0 = l' }; src = record { 0 = s' }; stamp = t'; body = b' })
    same k k' l l' s s' t t' b b' e1 e2 e3 e4 e5 = cc

pub one_packet : (one other : Msg) → IsMessage one → IsMessage other → Tells (one ≡ other) (packet_line one) (packet_line other)
one_packet one other is also = behind (codes "packet ") (one_message one other is also)

pub packet-ranks : (msg : Msg) (u : List ℕ) → rank (packet_line msg ++ u) ≡ 4
packet-ranks msg u = refl

-- a message on a link, with the link's two ends
abbrev pub IsSent : ℕ × (ℕ × Msg) → Type 0
IsSent row = IsNumber row.0 × (IsNumber row.1.0 × IsMessage row.1.1)

abbrev pub sent_line : ℕ × (ℕ × Msg) → List ℕ
sent_line row = link_line row.0 row.1.0 row.1.1

pub one_sent : (one other : ℕ × (ℕ × Msg)) → IsSent one → IsSent other → Tells (one ≡ other) (sent_line one) (sent_line other)
one_sent one other is also =
    said_as (λ (s : (one.0 ≡ other.0) × ((one.1.0 ≡ other.1.0) × (one.1.1 ≡ other.1.1))).
    same one.0 other.0 one.1.0 other.1.0 one.1.1 other.1.1 s.0 s.1.0 s.1.1)
    (behind (codes "link ") (number one.0 other.0 is.0 also.0 (omega arith) (omega arith) (behind (codes " ")
    (number one.1.0 other.1.0 is.1.0 also.1.0 (omega arith) (omega arith) (behind (codes " ") (one_message one.1.1 other.1.1 is.1.1 also.1.1))))))
  where
    same : (f f' t t' : ℕ) (m m' : Msg) → f ≡ f' → t ≡ t' → m ≡ m' → ◌≡◌ {A = ℕ × (ℕ × Msg)} (f, (t, m)) (f', (t', m'))
    same f f' t t' m m' e1 e2 e3 = cc

pub sent-ranks : (row : ℕ × (ℕ × Msg)) (u : List ℕ) → rank (sent_line row ++ u) ≡ 5
sent-ranks row u = refl

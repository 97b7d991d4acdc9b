-- What is written of a record is read back.
use Rattle.std.proofs.Common.{◌≡◌, ℕ, ◌+◌, ◌≤◌, ◌<◌, ◌^◌, Bool, true, false, cond, Some, List, [], ◌∷◌, ◌++◌, length}
use Rattle.std.proofs.Common.{drop, flat_map, refl, sym, subst, ap, ◌∙◌, append_assoc, arith}
use Rattle.std.specs.List.{AllByRecursion}
use Rattle.std.proofs.lemmas.List.{length-append, drop-drop, drop_at}
use Rattle.byteorder.specs.Numbers.{big_number-reads_back}
use Rattle.alw_num.specs.declared.addresses.Line.{Line}
use Rattle.alw_msg.specs.declared.messages.Kind.{Kind}
use Rattle.alw_msg.specs.declared.messages.Kind.TheVariants as kinds
use Rattle.alw_msg.specs.declared.messages.Msg.{Msg}
use Rattle.alw_msg.specs.Kinds.{has_body, kind_number}
use Rattle.alw_msg.specs.Sending.{carried_body}
use Rattle.alw_cells.specs.Layout.{word, half, body_bytes, taken_bytes, sent_bytes}
use Rattle.alw_cells.specs.Records.{BodyIsPlain, SendIsOfEvent, SendsAreOfEvent, FitsLine, FitsMsg, FitsSend, word_in, half_in, kind_by, body_size, body_in, taken_msg}
use Rattle.alw_cells.specs.Records.{msg_size, sent_msg, sent_size, sends_in, behind_sends, HasSends}

-- ---- numbers

pub word_back : (n : ℕ) (rest : List ℕ) → n < 2 ^ 32 → word_in (word n ++ rest) ≡ n
unfolding word word_in
word_back n rest fits = big_number-reads_back 4 n rest fits

pub half_back : (n : ℕ) (rest : List ℕ) → n < 2 ^ 16 → half_in (half n ++ rest) ≡ n
unfolding half half_in
half_back n rest fits = big_number-reads_back 2 n rest fits

pub word_length : (n : ℕ) → length (word n) ≡ 4
unfolding word
word_length n = refl

pub half_length : (n : ℕ) → length (half n) ≡ 2
unfolding half
half_length n = refl

pub kind_back : (kind : Kind) → kind_by (kind_number kind) ≡ kind
unfolding kind_by
kind_back kinds.RREQ = refl
kind_back kinds.WREQ = refl
kind_back kinds.REPM = refl
kind_back kinds.UPDATE = refl
kind_back kinds.ACKC = refl
kind_back kinds.RDATA = refl
kind_back kinds.WDATA = refl
kind_back kinds.INV = refl
kind_back kinds.BUSY = refl

-- ---- the line of a message

-- the bytes that begin with the line, where it is carried
abbrev lined : Line → List ℕ → Bool → List ℕ
lined body rest b = cond b (word body.a ++ (word body.b ++ (word body.c ++ word body.d))) [] ++ rest

body_back : (kind : Kind) (body : Line) (rest : List ℕ) → carried_body kind body ≡ body → FitsLine body → body_in kind (body_bytes kind body ++ rest) ≡ body
unfolding body_in body_bytes word
body_back kind body rest plain fits = go (has_body kind) plain
  where
    go : (b : Bool) → cond b body (record { a = 0; b = 0; c = 0; d = 0 }) ≡ body
        → cond b (record {
          a = word_in (lined body rest b);
          b = word_in (drop 4 (lined body rest b));
          c = word_in (drop 8 (lined body rest b));
          d =
              word_in (drop 12 (lined body rest b));
        }) (record { a = 0; b = 0; c = 0; d = 0 }) ≡ body
    go true plain = λ x. record {
      a = word_back body.a ((word body.b ++ (word body.c ++ word body.d)) ++ rest) fits.a x;
      b = word_back body.b ((word body.c ++ word body.d) ++ rest) fits.b x;
      c = word_back body.c (word body.d ++ rest) fits.c x;
      d = word_back body.d rest fits.d x;
    }
    go false plain = plain

body_length : (kind : Kind) (body : Line) → length (body_bytes kind body) ≡ body_size kind
unfolding body_bytes body_size word
body_length kind body = go (has_body kind)
  where
    go : (b : Bool) → length (cond b (word body.a ++ (word body.b ++ (word body.c ++ word body.d))) []) ≡ cond b 16 0
    go true = refl
    go false = refl

-- ---- messages

module _ (number stamp : ℕ) (send : ℕ × Msg) (rest : List ℕ) where
  abbrev its_body : List ℕ
  its_body = body_bytes send.1.kind send.1.body

  sent_front : (sent_bytes send ++ rest) ≡ half send.0 ++ (kind_number send.1.kind ∷ (word send.1.line.0 ++ (its_body ++ rest)))
  unfolding sent_bytes half word
  sent_front = refl

  sent_back : SendIsOfEvent number stamp send.1 → FitsSend send → sent_msg number stamp (sent_bytes send ++ rest) ≡ send
  unfolding sent_msg sent_bytes half word
  sent_back is fits =
      let body : body_in (kind_by (kind_number send.1.kind)) (its_body ++ rest) ≡ send.1.body =
      (λ x. body_in (kind_back send.1.kind x) (its_body ++ rest)) ∙ body_back send.1.kind send.1.body rest is.plain fits.msg.body in
      λ x. (
        half_back send.0 (kind_number send.1.kind ∷ (word send.1.line.0 ++ (its_body ++ rest))) fits.to x,
        record {
          kind = kind_back send.1.kind x;
          line = record { 0 = word_back send.1.line.0 (its_body ++ rest) fits.msg.line x };
          src = record { 0 = sym is.src x };
          stamp = sym is.at x;
          body = body x;
        },
      )

  sent_size_is : sent_size (sent_bytes send ++ rest) ≡ 7 + body_size send.1.kind
  unfolding sent_size sent_bytes half
  sent_size_is = ap (λ kind. 7 + body_size kind) (kind_back send.1.kind)

  sent_body : drop 7 (sent_bytes send ++ rest) ≡ its_body ++ rest
  unfolding sent_bytes half word
  sent_body = refl

  sent_behind : drop (sent_size (sent_bytes send ++ rest)) (sent_bytes send ++ rest) ≡ rest
  sent_behind =
      ap (λ n. drop n (sent_bytes send ++ rest)) sent_size_is
      ∙ (sym (drop-drop (body_size send.1.kind) 7 (sent_bytes send ++ rest))
      ∙ (ap (drop (body_size send.1.kind)) sent_body ∙ drop_at its_body rest (body_size send.1.kind) (body_length send.1.kind send.1.body)))

  sent_fits : sent_size (sent_bytes send ++ rest) ≤ length (sent_bytes send ++ rest)
  sent_fits = omega (arith, sent_size_is, whole, half_length send.0, word_length send.1.line.0, body_length send.1.kind send.1.body)
    where
      whole : length (sent_bytes send ++ rest) ≡ length (half send.0) + (1 + (length (word send.1.line.0) + (length its_body + length rest)))
      whole = ap length sent_front ∙ (length-append (half send.0) (kind_number send.1.kind ∷ (word send.1.line.0 ++ (its_body ++ rest)))
          ∙ omega (arith, length-append (word send.1.line.0) (its_body ++ rest), length-append its_body rest))

-- messages that were sent, off the front of some bytes
pub record AreBack (number stamp : ℕ) (sent : List (ℕ × Msg)) (bytes rest : List ℕ) : Type 0 where
  pub read : sends_in number stamp (length sent) bytes ≡ sent
  pub behind : behind_sends (length sent) bytes ≡ rest
  pub has : HasSends (length sent) bytes

pub sends_back : (number stamp : ℕ) (sent : List (ℕ × Msg)) (rest : List ℕ) → SendsAreOfEvent number stamp sent → AllByRecursion FitsSend sent
    → AreBack number stamp sent (flat_map sent_bytes sent ++ rest) rest
sends_back number stamp [] rest are fit = record { read = refl; behind = refl; has = tt }
sends_back number stamp (send ∷ sent) rest are fit =
    let more = flat_map sent_bytes sent ++ rest in
    let deeper = sends_back number stamp sent rest are.1 fit.1 in
    let gone = sent_behind number stamp send more in
    subst (λ (bytes : List ℕ). AreBack number stamp (send ∷ sent) bytes rest) (sym (append_assoc (sent_bytes send) (flat_map sent_bytes sent) rest)) (record {
      read = (λ x. sent_back number stamp send more are.0 fit.0 x ∷ sends_in number stamp (length sent) (gone x))
          ∙ ap (λ (sends : List (ℕ × Msg)). send ∷ sends) deeper.read;
      behind = ap (behind_sends (length sent)) gone ∙ deeper.behind;
      has = (sent_fits number stamp send more, subst (HasSends (length sent)) (sym gone) deeper.has);
    })

-- the message that was taken
module _ (msg : Msg) (rest : List ℕ) where
  abbrev took_body : List ℕ
  took_body = body_bytes msg.kind msg.body

  pub taken_back : BodyIsPlain msg → FitsMsg msg → taken_msg (taken_bytes (Some msg) ++ rest) ≡ msg
  unfolding taken_msg taken_bytes half word
  taken_back plain fits =
      let body : body_in (kind_by (kind_number msg.kind)) (took_body ++ rest) ≡ msg.body =
      (λ x. body_in (kind_back msg.kind x) (took_body ++ rest)) ∙ body_back msg.kind msg.body rest plain fits.body in
      λ x. record {
        kind = kind_back msg.kind x;
        line = record { 0 = word_back msg.line.0 (half msg.src.0 ++ (word msg.stamp ++ (took_body ++ rest))) fits.line x };
        src = record { 0 = half_back msg.src.0 (word msg.stamp ++ (took_body ++ rest)) fits.src x };
        stamp = word_back msg.stamp (took_body ++ rest) fits.stamp x;
        body = body x;
      }

  pub msg_size_is : msg_size (taken_bytes (Some msg) ++ rest) ≡ 11 + body_size msg.kind
  unfolding msg_size taken_bytes
  msg_size_is = ap (λ kind. 11 + body_size kind) (kind_back msg.kind)

pub taken_length : (msg : Msg) → length (taken_bytes (Some msg)) ≡ 11 + body_size msg.kind
unfolding taken_bytes
taken_length msg =
    let body = body_bytes msg.kind msg.body in
    omega (
      arith,
      length-append (word msg.line.0) (half msg.src.0 ++ (word msg.stamp ++ body)),
      length-append (half msg.src.0) (word msg.stamp ++ body),
      length-append (word msg.stamp) body,
      word_length msg.line.0,
      half_length msg.src.0,
      word_length msg.stamp,
      body_length msg.kind msg.body,
    )

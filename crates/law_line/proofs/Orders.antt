-- Messages on their way: what is in front, what is appended, and what stands in a wrong order.
use Rattle.std.proofs.Common.{◌≡◌, ◌+◌, ◌≤◌, List, [], ◌∷◌, ◌++◌, refl, ap, arith}
use Rattle.alw_num.specs.declared.addresses.Line.{Line}
use Rattle.alw_num.specs.Weights.{digit, weigh}
use Rattle.alw_num.proofs.Weigh.{weigh_push, weigh-append}
use Rattle.alw_msg.specs.Contents.{ToMemory, RREQ, WREQ, REPM, UPDATE, ACKC, ToCache, RDATA, WDATA, INV, BUSY, is_rreq, is_wreq, is_repm, is_update, is_ackc, is_rdata, is_wdata, is_inv, is_busy}
use Rattle.alw_msg.specs.Lists.{count_of}
use Rattle.law_line.specs.Census.{off_up, off_down, wrong_up, wrong_down}

-- a message to memory at the end
pub record UpPushed (value : Line) (up : List ToMemory) (m : ToMemory) : Type 0 where
  pub rreq : count_of is_rreq (up ++ m ∷ []) ≡ count_of is_rreq up + digit (is_rreq m)
  pub wreq : count_of is_wreq (up ++ m ∷ []) ≡ count_of is_wreq up + digit (is_wreq m)
  pub repm : count_of is_repm (up ++ m ∷ []) ≡ count_of is_repm up + digit (is_repm m)
  pub update : count_of is_update (up ++ m ∷ []) ≡ count_of is_update up + digit (is_update m)
  pub ackc : count_of is_ackc (up ++ m ∷ []) ≡ count_of is_ackc up + digit (is_ackc m)
  pub off : weigh (off_up value) (up ++ m ∷ []) ≡ weigh (off_up value) up + off_up value m

pub up_pushed : (value : Line) (up : List ToMemory) (m : ToMemory) → UpPushed value up m
up_pushed value up m = record {
  rreq = weigh_push (λ message. digit (is_rreq message)) up m;
  wreq = weigh_push (λ message. digit (is_wreq message)) up m;
  repm = weigh_push (λ message. digit (is_repm message)) up m;
  update = weigh_push (λ message. digit (is_update message)) up m;
  ackc = weigh_push (λ message. digit (is_ackc message)) up m;
  off = weigh_push (off_up value) up m;
}

-- a message to memory in front
pub record UpFront (value : Line) (up : List ToMemory) (m : ToMemory) (rest : List ToMemory) : Type 0 where
  pub rreq : count_of is_rreq up ≡ digit (is_rreq m) + count_of is_rreq rest
  pub wreq : count_of is_wreq up ≡ digit (is_wreq m) + count_of is_wreq rest
  pub repm : count_of is_repm up ≡ digit (is_repm m) + count_of is_repm rest
  pub update : count_of is_update up ≡ digit (is_update m) + count_of is_update rest
  pub ackc : count_of is_ackc up ≡ digit (is_ackc m) + count_of is_ackc rest
  pub off : weigh (off_up value) up ≡ off_up value m + weigh (off_up value) rest
  pub wrong : wrong_up rest ≤ wrong_up up

later_wrong : (m : ToMemory) (rest : List ToMemory) → wrong_up rest ≤ wrong_up (m ∷ rest)
later_wrong RREQ rest = omega arith
later_wrong WREQ rest = omega arith
later_wrong (REPM body) rest = omega arith
later_wrong (UPDATE body) rest = omega arith
later_wrong ACKC rest = omega arith

pub up_front : (value : Line) (up : List ToMemory) (m : ToMemory) (rest : List ToMemory) → up ≡ m ∷ rest → UpFront value up m rest
up_front value up m rest e = record {
  rreq = ap (count_of is_rreq) e;
  wreq = ap (count_of is_wreq) e;
  repm = ap (count_of is_repm) e;
  update = ap (count_of is_update) e;
  ackc = ap (count_of is_ackc) e;
  off = ap (weigh (off_up value)) e;
  wrong = omega (arith, ap wrong_up e, later_wrong m rest);
}

-- a message to a cache in front
pub record DownFront (value : Line) (down : List ToCache) (m : ToCache) (rest : List ToCache) : Type 0 where
  pub rdata : count_of is_rdata down ≡ digit (is_rdata m) + count_of is_rdata rest
  pub wdata : count_of is_wdata down ≡ digit (is_wdata m) + count_of is_wdata rest
  pub inv : count_of is_inv down ≡ digit (is_inv m) + count_of is_inv rest
  pub busy : count_of is_busy down ≡ digit (is_busy m) + count_of is_busy rest
  pub off : weigh (off_down value) down ≡ off_down value m + weigh (off_down value) rest
  pub wrong : wrong_down rest ≤ wrong_down down

later_wrong_down : (m : ToCache) (rest : List ToCache) → wrong_down rest ≤ wrong_down (m ∷ rest)
later_wrong_down (RDATA body) rest = omega arith
later_wrong_down (WDATA body) rest = omega arith
later_wrong_down INV rest = omega arith
later_wrong_down BUSY rest = omega arith

pub down_front : (value : Line) (down : List ToCache) (m : ToCache) (rest : List ToCache) → down ≡ m ∷ rest → DownFront value down m rest
down_front value down m rest e = record {
  rdata = ap (count_of is_rdata) e;
  wdata = ap (count_of is_wdata) e;
  inv = ap (count_of is_inv) e;
  busy = ap (count_of is_busy) e;
  off = ap (weigh (off_down value)) e;
  wrong = omega (arith, ap wrong_down e, later_wrong_down m rest);
}

-- a message that is no REPM can't stand wrong at the end
pub wrong_up_push : (up : List ToMemory) (m : ToMemory) → digit (is_repm m) ≡ 0 → wrong_up (up ++ m ∷ []) ≡ wrong_up up
wrong_up_push [] RREQ e = refl
wrong_up_push [] WREQ e = refl
wrong_up_push [] (REPM body) e = absurd (omega arith)
wrong_up_push [] (UPDATE body) e = refl
wrong_up_push [] ACKC e = refl
wrong_up_push (RREQ ∷ up) m e = omega (arith, wrong_up_push up m e, weigh_push (λ message. digit (is_repm message)) up m)
wrong_up_push (WREQ ∷ up) m e = omega (arith, wrong_up_push up m e, weigh_push (λ message. digit (is_repm message)) up m)
wrong_up_push (REPM body ∷ up) m e = omega (arith, wrong_up_push up m e)
wrong_up_push (UPDATE body ∷ up) m e = omega (arith, wrong_up_push up m e)
wrong_up_push (ACKC ∷ up) m e = omega (arith, wrong_up_push up m e, weigh_push (λ message. digit (is_repm message)) up m)

-- a REPM at the end stands wrong behind each request and each ACKC
pub wrong_up_repm : (up : List ToMemory) (body : Line) → wrong_up (up ++ REPM body ∷ []) ≡ wrong_up up + count_of is_rreq up + count_of is_wreq up + count_of is_ackc up
wrong_up_repm [] body = refl
wrong_up_repm (RREQ ∷ up) body = omega (arith, wrong_up_repm up body, weigh_push (λ message. digit (is_repm message)) up (REPM body))
wrong_up_repm (WREQ ∷ up) body = omega (arith, wrong_up_repm up body, weigh_push (λ message. digit (is_repm message)) up (REPM body))
wrong_up_repm (REPM b ∷ up) body = omega (arith, wrong_up_repm up body)
wrong_up_repm (UPDATE b ∷ up) body = omega (arith, wrong_up_repm up body)
wrong_up_repm (ACKC ∷ up) body = omega (arith, wrong_up_repm up body, weigh_push (λ message. digit (is_repm message)) up (REPM body))

-- messages to a cache that bring no line can't stand wrong at the end
pub wrong_down_none : (down more : List ToCache) → count_of is_rdata more ≡ 0 → count_of is_wdata more ≡ 0 → wrong_down more ≡ 0 → wrong_down (down ++ more) ≡ wrong_down down
wrong_down_none [] more r w o = omega arith
wrong_down_none (RDATA body ∷ down) more r w o = omega (arith, wrong_down_none down more r w o)
wrong_down_none (WDATA body ∷ down) more r w o = omega (arith, wrong_down_none down more r w o)
wrong_down_none (INV ∷ down) more r w o = omega (arith, wrong_down_none down more r w o, weigh-append (λ message. digit (is_rdata message)) down more, weigh-append (λ message. digit (is_wdata message)) down more)
wrong_down_none (BUSY ∷ down) more r w o = omega (arith, wrong_down_none down more r w o)

-- where no INV is on its way, nothing can stand wrong at the end
pub wrong_down_no_inv : (down more : List ToCache) → count_of is_inv down ≡ 0 → wrong_down (down ++ more) ≡ wrong_down more
wrong_down_no_inv [] more e = refl
wrong_down_no_inv (RDATA body ∷ down) more e = omega (arith, wrong_down_no_inv down more (omega arith))
wrong_down_no_inv (WDATA body ∷ down) more e = omega (arith, wrong_down_no_inv down more (omega arith))
wrong_down_no_inv (INV ∷ down) more e = absurd (omega arith)
wrong_down_no_inv (BUSY ∷ down) more e = omega (arith, wrong_down_no_inv down more (omega arith))

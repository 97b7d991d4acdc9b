-- How the accounts of a node's messages change with one more message behind the others.
use Rattle.std.proofs.Common.{◌≡◌, ◌+◌, ◌==◌, not, ◌&&◌, ◌||◌, List, [], ◌∷◌, ◌++◌, refl, sym, ap, ◌∙◌, arith}
use Rattle.std.proofs.lemmas.Bool.Decides.{nat_tests}
use Rattle.std.proofs.lemmas.List.Concat.{flat_map-append}
use Rattle.std.specs.List.{list_any, flat_map}
use Rattle.std.proofs.lemmas.List.{append-nil}
use Rattle.alw_num.specs.declared.addresses.Line.{Line}
use Rattle.alw_num.specs.Weights.{digit}
use Rattle.alw_num.proofs.Weigh.{weigh_push}
use Rattle.alw_msg.specs.Contents.{ToMemory, RREQ, WREQ, REPM, UPDATE, ACKC, is_rreq, is_wreq, is_repm, is_update, is_ackc, is_request_or_ackc}
use Rattle.alw_msg.specs.Contents.{ToCache, RDATA, WDATA, INV, BUSY, is_rdata, is_wdata, is_inv, is_busy, brings_line}
use Rattle.alw_msg.specs.Lists.{count_of}
use Rattle.alw_model.specs.Lines.{up_carried, down_carried}
use Rattle.alw_laws.specs.declared.traffic.Up.{Up}
use Rattle.alw_laws.specs.declared.traffic.Down.{Down}
use Rattle.alw_laws.specs.Traffic.{carried_by, IsTrafficUp, IsTrafficDown}
use Rattle.alw_laws.proofs.Orders.{followed_push, clear_push}

-- no request and no ACKC, and no INV, by their counts
none_asked : (said : List ToMemory) → not (list_any is_request_or_ackc said) ≡ (count_of is_rreq said + count_of is_wreq said + count_of is_ackc said == 0)
none_asked [] = refl
none_asked (RREQ ∷ rest) = grind (arith, nat_tests)
none_asked (WREQ ∷ rest) = grind (arith, nat_tests)
none_asked (REPM body ∷ rest) = none_asked rest ∙ grind (arith, nat_tests)
none_asked (UPDATE body ∷ rest) = none_asked rest ∙ grind (arith, nat_tests)
none_asked (ACKC ∷ rest) = grind (arith, nat_tests)

none_recalled : (said : List ToCache) → not (list_any is_inv said) ≡ (count_of is_inv said == 0)
none_recalled [] = refl
none_recalled (RDATA body ∷ rest) = none_recalled rest ∙ grind (arith, nat_tests)
none_recalled (WDATA body ∷ rest) = none_recalled rest ∙ grind (arith, nat_tests)
none_recalled (INV ∷ rest) = grind (arith, nat_tests)
none_recalled (BUSY ∷ rest) = none_recalled rest ∙ grind (arith, nat_tests)

more_carried : {M : Type 0} (values : M → List Line) (said : List M) (m : M) → flat_map values said ++ values m ≡ flat_map values (said ++ m ∷ [])
more_carried values said m = sym (flat_map-append values said (m ∷ []) ∙ ap (λ (bodies : List Line). flat_map values said ++ bodies) (append-nil (values m)))

-- one message to memory more
pub record GainsUp (before after : Up) (m : ToMemory) : Type 0 where
  pub rreq : after.rreq ≡ before.rreq + digit (is_rreq m)
  pub wreq : after.wreq ≡ before.wreq + digit (is_wreq m)
  pub update : after.update ≡ before.update + digit (is_update m)
  pub ackc : after.ackc ≡ before.ackc + digit (is_ackc m)
  pub carried : (bodies : List Line) → before.carried ≡ carried_by bodies → after.carried ≡ carried_by (bodies ++ up_carried m)
  pub answered : after.repm_is_answered ≡ ((before.repm_is_answered || is_ackc m) && not (is_repm m))
  pub first : after.repm_is_first ≡ (before.repm_is_first && ((before.rreq + before.wreq + before.ackc == 0) || not (is_repm m)))

pub up_gains : (before after : Up) (said : List ToMemory) (m : ToMemory) → IsTrafficUp before said → GainsUp before after m → IsTrafficUp after (said ++ m ∷ [])
up_gains before after said m is gains = record {
  rreq = gains.rreq ∙ rw (is.rreq, weigh_push (λ x. digit (is_rreq x)) said m) refl;
  wreq = gains.wreq ∙ rw (is.wreq, weigh_push (λ x. digit (is_wreq x)) said m) refl;
  update = gains.update ∙ rw (is.update, weigh_push (λ x. digit (is_update x)) said m) refl;
  ackc = gains.ackc ∙ rw (is.ackc, weigh_push (λ x. digit (is_ackc x)) said m) refl;
  carried = gains.carried (flat_map up_carried said) is.carried ∙ ap carried_by (more_carried up_carried said m);
  answered = gains.answered ∙ rw (is.answered, followed_push is_repm is_ackc said m) refl;
  first = gains.first ∙ rw (is.first, is.rreq, is.wreq, is.ackc, ← none_asked said, clear_push is_request_or_ackc is_repm said m) refl;
}

-- one message to a cache more
pub record GainsDown (before after : Down) (m : ToCache) : Type 0 where
  pub rdata : after.rdata ≡ before.rdata + digit (is_rdata m)
  pub wdata : after.wdata ≡ before.wdata + digit (is_wdata m)
  pub inv : after.inv ≡ before.inv + digit (is_inv m)
  pub busy : after.busy ≡ before.busy + digit (is_busy m)
  pub carried : (bodies : List Line) → before.carried ≡ carried_by bodies → after.carried ≡ carried_by (bodies ++ down_carried m)
  pub rdata_recalled : after.rdata_is_recalled ≡ ((before.rdata_is_recalled || is_inv m) && not (is_rdata m))
  pub wdata_recalled : after.wdata_is_recalled ≡ ((before.wdata_is_recalled || is_inv m) && not (is_wdata m))
  pub first : after.data_is_first ≡ (before.data_is_first && ((before.inv == 0) || not (brings_line m)))

pub down_gains : (before after : Down) (said : List ToCache) (m : ToCache) → IsTrafficDown before said → GainsDown before after m → IsTrafficDown after (said ++ m ∷ [])
down_gains before after said m is gains = record {
  rdata = gains.rdata ∙ rw (is.rdata, weigh_push (λ x. digit (is_rdata x)) said m) refl;
  wdata = gains.wdata ∙ rw (is.wdata, weigh_push (λ x. digit (is_wdata x)) said m) refl;
  inv = gains.inv ∙ rw (is.inv, weigh_push (λ x. digit (is_inv x)) said m) refl;
  busy = gains.busy ∙ rw (is.busy, weigh_push (λ x. digit (is_busy x)) said m) refl;
  carried = gains.carried (flat_map down_carried said) is.carried ∙ ap carried_by (more_carried down_carried said m);
  rdata_recalled = gains.rdata_recalled ∙ rw (is.rdata_recalled, followed_push is_rdata is_inv said m) refl;
  wdata_recalled = gains.wdata_recalled ∙ rw (is.wdata_recalled, followed_push is_wdata is_inv said m) refl;
  first = gains.first ∙ rw (is.first, is.inv, ← none_recalled said, clear_push is_inv brings_line said m) refl;
}

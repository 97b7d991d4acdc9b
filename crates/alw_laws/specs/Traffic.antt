-- What the messages of a node come to: how many there are of each kind, what they carry, and how they stand behind one another.
use Rattle.std.specs.Prelude.{◌≡◌, ℕ, ◌+◌, List, [], ◌∷◌, flat_map}
use Rattle.alw_num.specs.declared.addresses.Line.{Line}
use Rattle.alw_msg.specs.Contents.{ToMemory, is_rreq, is_wreq, is_repm, is_update, is_ackc, is_request_or_ackc}
use Rattle.alw_msg.specs.Contents.{ToCache, is_rdata, is_wdata, is_inv, is_busy, brings_line}
use Rattle.alw_msg.specs.Lists.{count_of, is_followed, is_clear_behind}
use Rattle.alw_model.specs.Lines.{up_carried, down_carried}
use Rattle.alw_laws.specs.declared.carriers.Carried.{Carried}
use Rattle.alw_laws.specs.declared.carriers.Carried.TheVariants.{Nothing, One, Several}
use Rattle.alw_laws.specs.declared.traffic.Up.{Up}
use Rattle.alw_laws.specs.declared.traffic.Down.{Down}

-- the values of a list, as far as they are told apart
abbrev pub carried_by : List Line → Carried
carried_by [] = Nothing
carried_by (body ∷ []) = One body
carried_by (body ∷ next ∷ rest) = Several

-- what a node's messages to memory come to
pub record IsTrafficUp (up : Up) (said : List ToMemory) : Type 0 where
  pub rreq : up.rreq ≡ count_of is_rreq said
  pub wreq : up.wreq ≡ count_of is_wreq said
  pub update : up.update ≡ count_of is_update said
  pub ackc : up.ackc ≡ count_of is_ackc said
  pub carried : up.carried ≡ carried_by (flat_map up_carried said)
  pub answered : up.repm_is_answered ≡ is_followed is_repm is_ackc said
  pub first : up.repm_is_first ≡ is_clear_behind is_request_or_ackc is_repm said

-- what the messages to a node's cache come to
pub record IsTrafficDown (down : Down) (said : List ToCache) : Type 0 where
  pub rdata : down.rdata ≡ count_of is_rdata said
  pub wdata : down.wdata ≡ count_of is_wdata said
  pub inv : down.inv ≡ count_of is_inv said
  pub busy : down.busy ≡ count_of is_busy said
  pub carried : down.carried ≡ carried_by (flat_map down_carried said)
  pub rdata_recalled : down.rdata_is_recalled ≡ is_followed is_rdata is_inv said
  pub wdata_recalled : down.wdata_is_recalled ≡ is_followed is_wdata is_inv said
  pub first : down.data_is_first ≡ is_clear_behind is_inv brings_line said

-- how many messages were counted
abbrev pub sent : Up → ℕ
sent up = up.rreq + up.wreq + up.update + up.ackc

abbrev pub received : Down → ℕ
received down = down.rdata + down.wdata + down.inv + down.busy

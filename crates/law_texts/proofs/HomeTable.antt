-- The home table keeps an entry's bytes words, and sends words.
use Rattle.std.proofs.Common.{◌≡◌, ℕ, zero, suc, ◌==◌, Bool, true, false, Option, Some, None, List, [], ◌∷◌, slice_set, refl}
use Rattle.alw_num.specs.declared.addresses.Line.{Line}
use Rattle.alw_num.specs.declared.states.State.{State}
use Rattle.alw_num.specs.declared.states.State.TheVariants.{RO, RW, RT, WT}
use Rattle.alw_msg.specs.Contents.{ToMemory, RREQ, WREQ, REPM, UPDATE, ACKC, ToCache, INV}
use Rattle.alw_model.specs.FullMap.{Home, Sends, others, sole, invs, write_shared, recall_from, recall, give_back_from, give_back, end_read, end_write, acknowledge, row}
use Rattle.alw_model.specs.LimitLess.{Directory, full_map_of, hardware_of, hardware_act, handle}
use Rattle.alw_model.specs.Sides.{entry_at}
use Rattle.law_texts.specs.Words.{AreWords}
use Rattle.law_texts.proofs.Messages.{AsksWords, TellsWords, AllTell}
use Rattle.law_order.proofs.Aims.{every_of}

record LeavesWords (after : Home × Sends) : Type 0 where
  body : AreWords after.0.body
  sends : AllTell after.1

module _ (h : Home) (i : ℕ) (are : AreWords h.body) where
  still : LeavesWords (h, [])
  still = record { body = are; sends = tt }

  all_invs : (nodes : List ℕ) → AllTell (invs nodes)
  all_invs nodes = every_of (λ (send : ℕ × ToCache). TellsWords send.1) (λ j. (j, INV)) nodes (λ j. tt)

  of_shared : (nodes : List ℕ) → LeavesWords (write_shared h i nodes)
  of_shared [] = record { body = are; sends = (are, tt) }
  of_shared (j ∷ rest) = record { body = are; sends = all_invs (j ∷ rest) }

  of_recall : (state : State) (owner : Option ℕ) → LeavesWords (recall h i state owner)
  of_recall state None = still
  of_recall state (Some owner) = go (i == owner)
    where
      go : (b : Bool) → LeavesWords (recall_from h i state owner b)
      go true = still
      go false = record { body = are; sends = (tt, tt) }

  of_return : (body : Line) → AreWords body → (owner : Option ℕ) → LeavesWords (give_back h i body owner)
  of_return body words None = still
  of_return body words (Some owner) = go (i == owner)
    where
      go : (b : Bool) → LeavesWords (give_back_from h body b)
      go true = record { body = words; sends = tt }
      go false = still

  read_ends : (body : Line) → AreWords body → (k : Option ℕ) → LeavesWords (end_read h body k)
  read_ends body words None = still
  read_ends body words (Some k) = record { body = words; sends = (words, tt) }

  write_ends : (body : Line) → AreWords body → (k : Option ℕ) → LeavesWords (end_write h body k)
  write_ends body words None = still
  write_ends body words (Some k) = record { body = words; sends = (words, tt) }

  acknowledged : (ended : Home × Sends) → LeavesWords ended → (acks : ℕ) → LeavesWords (acknowledge h ended acks)
  acknowledged ended acts zero = still
  acknowledged ended acts (suc zero) = acts
  acknowledged ended acts (suc (suc left)) = record { body = are; sends = tt }

  row_acts : (state : State) (message : ToMemory) → AsksWords message → LeavesWords (row h i state message)
  row_acts RO RREQ asks = record { body = are; sends = (are, tt) }
  row_acts RO WREQ asks = of_shared (others h.pointers i)
  row_acts RO (REPM body) asks = still
  row_acts RO (UPDATE body) asks = still
  row_acts RO ACKC asks = still
  row_acts RW RREQ asks = of_recall RT (sole h.pointers)
  row_acts RW WREQ asks = of_recall WT (sole h.pointers)
  row_acts RW (REPM body) asks = of_return body asks (sole h.pointers)
  row_acts RW (UPDATE body) asks = still
  row_acts RW ACKC asks = still
  row_acts RT RREQ asks = record { body = are; sends = (tt, tt) }
  row_acts RT WREQ asks = record { body = are; sends = (tt, tt) }
  row_acts RT (REPM body) asks = record { body = asks; sends = tt }
  row_acts RT (UPDATE body) asks = read_ends body asks (sole h.pointers)
  row_acts RT ACKC asks = acknowledged _ (read_ends h.body are (sole h.pointers)) h.acks
  row_acts WT RREQ asks = record { body = are; sends = (tt, tt) }
  row_acts WT WREQ asks = record { body = are; sends = (tt, tt) }
  row_acts WT (REPM body) asks = record { body = asks; sends = tt }
  row_acts WT (UPDATE body) asks = write_ends body asks (sole h.pointers)
  row_acts WT ACKC asks = acknowledged _ (write_ends h.body are (sole h.pointers)) h.acks

-- an entry after a message, by hardware or by the handler: its bytes are words, it is listed as before, and what is sent is words
pub record EntryActs (d : Directory) (after : Directory × Sends) : Type 0 where
  pub body : AreWords after.0.body
  pub always : after.0.always ≡ d.always
  pub sends : AllTell after.1

pub hardware_words : (d : Directory) (i : ℕ) (said : ToMemory) → AreWords d.body → AsksWords said → EntryActs d (hardware_act d i said)
hardware_words d i said are asks =
    let acts = row_acts (hardware_of d) i are d.state said asks in
    record { body = acts.body; always = refl; sends = acts.sends }

pub handler_words : (d : Directory) (i : ℕ) (said : ToMemory) → AreWords d.body → AsksWords said → EntryActs d (handle d i said)
handler_words d i said are asks =
    let acts = row_acts (full_map_of d) i are d.state said asks in
    record { body = acts.body; always = refl; sends = acts.sends }

-- an entry that is listed as the one before it leaves all entries listed as before
pub still_listed : (homes : List Directory) (place : ℕ) (d : Directory) → d.always ≡ (entry_at homes place).always → (at : ℕ)
    → (entry_at (slice_set homes place d) at).always ≡ (entry_at homes at).always
still_listed [] place d same at = refl
still_listed (first ∷ rest) zero d same zero = same
still_listed (first ∷ rest) zero d same (suc at) = refl
still_listed (first ∷ rest) (suc place) d same zero = refl
still_listed (first ∷ rest) (suc place) d same (suc at) = still_listed rest place d same at

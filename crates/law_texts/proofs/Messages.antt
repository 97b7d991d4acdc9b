-- A message whose bytes are words says words, and what says words is sent as such a message.
use Rattle.std.proofs.Common.{ℕ, List, [], ◌∷◌, arith}
use Rattle.std.specs.Prelude.{⊤}
use Rattle.std.specs.List.{AllByRecursion}
use Rattle.alw_num.specs.declared.addresses.Line.{Line}
use Rattle.alw_msg.specs.declared.messages.Kind.{Kind}
use Rattle.alw_msg.specs.declared.messages.Kind.TheVariants as kinds
use Rattle.alw_msg.specs.declared.messages.Msg.{Msg}
use Rattle.alw_msg.specs.Contents.{ToMemory, RREQ, WREQ, REPM, UPDATE, ACKC, ToCache, RDATA, WDATA, INV, BUSY, Content, ForMemory, ForCache, content_by}
use Rattle.alw_image.specs.Images.{zero_line}
use Rattle.alw_model.specs.FullMap.{Sends}
use Rattle.alw_model.specs.Caches.{Requests}
use Rattle.alw_model.specs.Messages.{spelled, homeward, to_caches}
use Rattle.law_texts.specs.Words.{AreWords}

-- the line that is said, if any, is of words
abbrev pub AsksWords : ToMemory → Type 0
AsksWords RREQ = ⊤
AsksWords WREQ = ⊤
AsksWords (REPM body) = AreWords body
AsksWords (UPDATE body) = AreWords body
AsksWords ACKC = ⊤

abbrev pub TellsWords : ToCache → Type 0
TellsWords (RDATA body) = AreWords body
TellsWords (WDATA body) = AreWords body
TellsWords INV = ⊤
TellsWords BUSY = ⊤

abbrev pub SaysWords : Content → Type 0
SaysWords (ForMemory said) = AsksWords said
SaysWords (ForCache said) = TellsWords said

-- each of what goes to homes, and of what goes to caches
abbrev pub AllAsk : Requests → Type 0
AllAsk requests = AllByRecursion (λ (request : ℕ × ToMemory). AsksWords request.1) requests

abbrev pub AllTell : Sends → Type 0
AllTell sends = AllByRecursion (λ (send : ℕ × ToCache). TellsWords send.1) sends

-- each message that a node sends
abbrev pub AllSend : List (ℕ × Msg) → Type 0
AllSend sends = AllByRecursion (λ (send : ℕ × Msg). AreWords send.1.body) sends

pub zero_words : AreWords zero_line
zero_words = (omega arith, (omega arith, (omega arith, omega arith)))

pub says : (kind : Kind) (body : Line) → AreWords body → SaysWords (content_by kind body)
says kinds.RREQ body are = tt
says kinds.WREQ body are = tt
says kinds.REPM body are = are
says kinds.UPDATE body are = are
says kinds.ACKC body are = tt
says kinds.RDATA body are = are
says kinds.WDATA body are = are
says kinds.INV body are = tt
says kinds.BUSY body are = tt

spelled_words : (said : Content) → SaysWords said → AreWords (spelled said).1
spelled_words (ForMemory RREQ) are = zero_words
spelled_words (ForMemory WREQ) are = zero_words
spelled_words (ForMemory (REPM body)) are = are
spelled_words (ForMemory (UPDATE body)) are = are
spelled_words (ForMemory ACKC) are = zero_words
spelled_words (ForCache (RDATA body)) are = are
spelled_words (ForCache (WDATA body)) are = are
spelled_words (ForCache INV) are = zero_words
spelled_words (ForCache BUSY) are = zero_words

pub asked_words : (per_node n stamp : ℕ) (requests : Requests) → AllAsk requests → AllSend (homeward per_node n stamp requests)
asked_words per_node n stamp [] all = tt
asked_words per_node n stamp (request ∷ rest) all = (spelled_words (ForMemory request.1) all.0, asked_words per_node n stamp rest all.1)

pub told_words : (n stamp line : ℕ) (sends : Sends) → AllTell sends → AllSend (to_caches n stamp line sends)
told_words n stamp line [] all = tt
told_words n stamp line (send ∷ rest) all = (spelled_words (ForCache send.1) all.0, told_words n stamp line rest all.1)

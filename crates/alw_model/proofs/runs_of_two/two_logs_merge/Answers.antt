-- All messages of the run are taken, so that each log took of the other all that it sent.
use Rattle.std.proofs.Common.{◌≡◌, ◌∷◌, [], List, ℕ, zero, suc, ◌<◌, length, refl, sym, ◌∙◌, arith}
use Rattle.std.proofs.lemmas.List.{append-nil}
use Rattle.alw_num.specs.declared.addresses.Line.{Line}
use Rattle.alw_msg.specs.declared.messages.Msg.{Msg}
use Rattle.alw_msg.specs.Contents.{RREQ, WREQ, UPDATE, RDATA, WDATA, INV, ForMemory, ForCache}
use Rattle.alw_model.specs.Messages.{message}
use Rattle.alw_model.specs.Threads.{Logs, IsFront, took_from, sent_to, log_at}
use Rattle.alw_model.specs.Rows.{defaults, logs_of, closed_runs}
use Rattle.alw_model.specs.Rows.TwoNodes.{writers_image, writers_journal, two_node_runs}
use Rattle.alw_model.proofs.runs_of_two.two_logs_merge.Goals as goal

logs : Logs
logs = logs_of writers_image defaults writers_journal

-- a line whose first word is n
abbrev word : ℕ → Line
word n = record { a = n; b = 0; c = 0; d = 0 }

-- what goes from a node to a node
abbrev of_0_to_0 : List Msg
of_0_to_0 = message 0 2 0 (ForMemory WREQ) ∷ message 0 3 0 (ForCache (WDATA (word 0))) ∷ message 0 6 0 (ForCache INV) ∷ message 0 7 0 (ForMemory (UPDATE (word 2))) ∷ message 0 9 0 (ForMemory RREQ) ∷ message 0 13 0 (ForCache (RDATA (word 1))) ∷ []

abbrev of_0_to_1 : List Msg
of_0_to_1 = message 0 8 0 (ForCache (WDATA (word 2))) ∷ message 0 10 0 (ForCache INV) ∷ []

abbrev of_1_to_0 : List Msg
of_1_to_0 = message 1 2 0 (ForMemory WREQ) ∷ message 1 12 0 (ForMemory (UPDATE (word 1))) ∷ []

took_0_0 : took_from 0 (log_at logs 0) ≡ of_0_to_0
unfolding closed_runs two_node_runs logs
took_0_0 = refl

sent_0_0 : sent_to 0 (log_at logs 0) ≡ of_0_to_0
unfolding closed_runs two_node_runs logs
sent_0_0 = refl

took_0_1 : took_from 0 (log_at logs 1) ≡ of_0_to_1
unfolding closed_runs two_node_runs logs
took_0_1 = refl

sent_0_1 : sent_to 1 (log_at logs 0) ≡ of_0_to_1
unfolding closed_runs two_node_runs logs
sent_0_1 = refl

took_1_0 : took_from 1 (log_at logs 0) ≡ of_1_to_0
unfolding closed_runs two_node_runs logs
took_1_0 = refl

sent_1_0 : sent_to 0 (log_at logs 1) ≡ of_1_to_0
unfolding closed_runs two_node_runs logs
sent_1_0 = refl

took_1_1 : took_from 1 (log_at logs 1) ≡ []
unfolding closed_runs two_node_runs logs
took_1_1 = refl

sent_1_1 : sent_to 1 (log_at logs 1) ≡ []
unfolding closed_runs two_node_runs logs
sent_1_1 = refl

two_logs : length logs ≡ 2
unfolding closed_runs two_node_runs logs
two_logs = refl

whole : (some all messages : List Msg) → some ≡ messages → all ≡ messages → IsFront some all
whole some all messages s a = ([], append-nil some ∙ (s ∙ sym a))

pair : (from to : ℕ) → from < 2 → to < 2 → IsFront (took_from from (log_at logs to)) (sent_to to (log_at logs from))
pair zero zero l m = whole _ _ of_0_to_0 took_0_0 sent_0_0
pair zero (suc zero) l m = whole _ _ of_0_to_1 took_0_1 sent_0_1
pair (suc zero) zero l m = whole _ _ of_1_to_0 took_1_0 sent_1_0
pair (suc zero) (suc zero) l m = whole _ _ [] took_1_1 sent_1_1
pair (suc (suc n)) to l m = absurd (omega arith)
pair zero (suc (suc n)) l m = absurd (omega arith)
pair (suc zero) (suc (suc n)) l m = absurd (omega arith)

pub returns-clause-agree : goal.returns-clause-agree
unfolding logs
returns-clause-agree c = λ from to l m. pair from to (rw two_logs at l) (rw two_logs at m)

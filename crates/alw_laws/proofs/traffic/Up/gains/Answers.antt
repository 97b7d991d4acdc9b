-- Each kind of message is one more message behind the others.
use Rattle.std.proofs.Common.{arith}
use Rattle.alw_msg.specs.Contents.{RREQ, WREQ, REPM, UPDATE, ACKC}
use Rattle.alw_laws.proofs.Accounts.{up_gains}
use Rattle.alw_laws.proofs.traffic.Up.gains.Goals as goal

pub returns-in-RREQ-clause-sums : goal.returns-in-RREQ-clause-sums
returns-in-RREQ-clause-sums c = λ said is. rw c.in-RREQ.is (up_gains _ _ said RREQ is (search arith))

pub returns-in-WREQ-clause-sums : goal.returns-in-WREQ-clause-sums
returns-in-WREQ-clause-sums c = λ said is. rw c.in-WREQ.is (up_gains _ _ said WREQ is (search arith))

pub returns-in-REPM-clause-sums : goal.returns-in-REPM-clause-sums
returns-in-REPM-clause-sums c = λ said is. rw c.in-REPM.is (up_gains _ _ said (REPM c.args.msg.now.body) is (search arith))

pub returns-in-UPDATE-clause-sums : goal.returns-in-UPDATE-clause-sums
returns-in-UPDATE-clause-sums c = λ said is. rw c.in-UPDATE.is (up_gains _ _ said (UPDATE c.args.msg.now.body) is (search arith))

pub returns-in-ACKC-clause-sums : goal.returns-in-ACKC-clause-sums
returns-in-ACKC-clause-sums c = λ said is. rw c.in-ACKC.is (up_gains _ _ said ACKC is (search arith))

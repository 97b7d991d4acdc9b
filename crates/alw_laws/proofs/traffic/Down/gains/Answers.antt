-- Each kind of message is one more message behind the others.
use Rattle.std.proofs.Common.{arith}
use Rattle.alw_msg.specs.Contents.{RDATA, WDATA, INV, BUSY}
use Rattle.alw_laws.proofs.Accounts.{down_gains}
use Rattle.alw_laws.proofs.traffic.Down.gains.Goals as goal

pub returns-in-RDATA-clause-sums : goal.returns-in-RDATA-clause-sums
returns-in-RDATA-clause-sums c = λ said is. rw c.in-RDATA.is (down_gains _ _ said (RDATA c.args.msg.now.body) is (search arith))

pub returns-in-WDATA-clause-sums : goal.returns-in-WDATA-clause-sums
returns-in-WDATA-clause-sums c = λ said is. rw c.in-WDATA.is (down_gains _ _ said (WDATA c.args.msg.now.body) is (search arith))

pub returns-in-INV-clause-sums : goal.returns-in-INV-clause-sums
returns-in-INV-clause-sums c = λ said is. rw c.in-INV.is (down_gains _ _ said INV is (search arith))

pub returns-in-BUSY-clause-sums : goal.returns-in-BUSY-clause-sums
returns-in-BUSY-clause-sums c = λ said is. rw c.in-BUSY.is (down_gains _ _ said BUSY is (search arith))

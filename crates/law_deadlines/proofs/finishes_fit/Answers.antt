-- By its deadline, and the ranges of costs.
use Rattle.std.proofs.Common.{arith}
use Rattle.law_deadlines.proofs.Deadlines.{finishes_have_deadlines, finishes_fit}
use Rattle.law_deadlines.proofs.finishes_fit.Goals as goal

pub returns : goal.returns
returns c = λ parts is parameters some journal entry legal few.
    finishes_fit parts c.args.costs entry.stamp _ is
    (record {
      hit = omega arith;
      switch = omega arith;
      hop = omega arith;
      send = omega arith;
      body = omega arith;
      home = omega arith;
      fill = omega arith;
      trap = omega arith;
      inv = omega arith;
      retry = omega arith;
    })
    few (finishes_have_deadlines parts is parameters some c.args.costs journal entry legal)

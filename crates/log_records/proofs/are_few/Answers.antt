use Rattle.std.proofs.Common.{arith}
use Rattle.log_index.specs.Index.{starts}
use Rattle.log_index.proofs.Lists.{every-few}
use Rattle.log_index.proofs.Starts.{starts-few}
use Rattle.std.proofs.lemmas.Bool.Decides.{nat_tests}
use Rattle.log_records.proofs.are_few.Goals as goal
use Rattle.log_records.proofs.are_few.Goals.{then-log-from, else-log-from}

pub returns-then-log-from-2 : goal.returns-then-log-from-2
returns-then-log-from-2 c =
    let few = every-few c.args.k (starts c.args.log.now c.args.from) in
    let less = starts-few c.args.log.now c.args.from in
    elim c.if-log-from.branch [ then-log-from w ↦ grind (arith, nat_tests) | else-log-from w ↦ grind (arith, nat_tests) ]

use Rattle.std.proofs.Common.{◌≤◌, length}
use Rattle.probe.proofs.request.HexCodes.put_into.Given as goal

abbrev pub invariant-loop-code : goal.invariant-loop-code
invariant-loop-code l =
    (goal.iterator-loop-code).can_next l.code-iterator
    × (goal.iterator-loop-code).is_finite l.code-iterator
    × (l.n ≤ length l.out)

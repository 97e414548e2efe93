use Rattle.std.proofs.Common.{◌≡◌, ◌≤◌, vec_len, vec_capacity, length}
use Rattle.spand_serve.proofs.day.take_passes.Given as goal

abbrev pub invariant-loop-seat : goal.invariant-loop-seat
invariant-loop-seat g l =
    (l.passes.items ≡ l.yielded)
    × (vec_len l.passes ≡ length l.yielded)
    × (vec_len l.fn.seats ≤ vec_capacity l.passes)

use Rattle.std.proofs.Common.{All, ◌≡◌, ◌≤◌, vec_len, vec_capacity, length}
use Rattle.spand_serve.specs.Served.{IsFresh}
use Rattle.spand_serve.proofs.day.seats_of.Given as goal

abbrev pub invariant-loop-source : goal.invariant-loop-source
invariant-loop-source g l =
    All (λ seat. IsFresh seat.0) l.seats.items
    × (vec_len l.seats ≡ length l.yielded)
    × (vec_len l.fn.sources ≤ vec_capacity l.seats)

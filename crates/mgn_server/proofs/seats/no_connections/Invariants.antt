use Rattle.std.proofs.Common.{◌≡◌, ◌≤◌, vec_len, vec_capacity}
use Rattle.mgn_server.proofs.seats.no_connections.Given as goal

abbrev pub invariant-loop : goal.invariant-loop
invariant-loop l = (vec_len l.connections ≡ l.counter) × (l.count ≤ vec_capacity l.connections)

use Rattle.std.proofs.Common.{◌≡◌, ◌≤◌, ◌+◌, true}
use Rattle.mgn_server.proofs.server.Server.turn_away.Given as goal

abbrev pub invariant-loop : goal.invariant-loop
invariant-loop g l =
    (l.fn.door.accepted ≤ l.door.accepted)
    × (l.door.accepted ≤ l.fn.door.accepted + l.counter)
    × (l.fn.door.has_failed ≡ true → l.door.accepted ≡ l.fn.door.accepted)
    × (l.fn.door.has_failed ≡ true → l.door.has_failed ≡ true)

use Rattle.std.proofs.Common.{◌≡◌, ◌≤◌, vec_len, vec_capacity, length}
use Rattle.std.specs.List.{AllZip}
use Rattle.mgn_session.specs.Session.{Answers, Calls}
use Rattle.mgn_server.specs.Places.{GivesBack}
use Rattle.mgn_server.proofs.place.end_all.Given as goal

abbrev pub invariant-loop-place : goal.invariant-loop-place
invariant-loop-place g l =
    AllZip (GivesBack (Answers (Calls g.E.Exec.entries g.E.Exec.is_full g.E.Exec.is_broken g.E.Exec.does) g.S.SetSource.gives))
    l.yielded l.executors.items
    × (vec_len l.executors ≡ length l.yielded)
    × (vec_len l.fn.places ≤ vec_capacity l.executors)

use Rattle.std.proofs.Common.{ap, arith, length}
use Rattle.std.proofs.lemmas.Slice.Zip.{AllZip-long}
use Rattle.spand_serve.proofs.Facts.{ends_served}
use Rattle.spand_serve.proofs.day.serve.Goals as goal

pub take_passes-passes-requires-clause-room : goal.take_passes-passes-requires-clause-room
take_passes-passes-requires-clause-room g c =
    omega (arith, AllZip-long _ _ _ c.serve-executors.ensures.sessions, ap length c.in_ok-seats-2.ensures, c.in_ok-passes.ensures.capacity, c.len-2.ensures)

pub returns-in-Ok-ready : goal.returns-in-Ok-ready
returns-in-Ok-ready g c =
    ends_served g.S.SetSource.gives c.in_ok-seats.seats.items c.in_ok-seats-2.seats c.take_passes-passes.result.items
    c.serve-executors.result.executors.items _ c.serve-executors.result.accepted
    c.in_ok-seats-2.ensures c.take_passes-passes.ensures c.in_ok-seats.ensures c.serve-executors.ensures
    c.close.result c.close.ensures c.end-ended.result c.end-ended.ensures

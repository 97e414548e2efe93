use Rattle.std.proofs.Common.{arith}
use Rattle.std.proofs.lemmas.Slice.Zip.{AllZip-long}
use Rattle.mgn_server.proofs.Facts.{all_come_back, left_after, left_as_they_were}
use Rattle.mgn_server.proofs.seats.fn.Seats.serve.scope.Goals as goal

pub end_all-requires : goal.end_all-requires
end_all-requires g c = record {
  empty = c.requires.3;
  room = omega (arith, AllZip-long _ _ _ c.place_all-places.ensures.places, c.requires.4);
}

pub returns : goal.returns
returns g c =
    let placed = c.place_all-places.ensures in let turned = c.turn_away.ensures in record {
      sessions = all_come_back _ _ _ _ placed.places c.end_all.ensures;
      within = omega (arith, placed.left.within, turned.within);
      unserved = left_after _ _ _ _ _
          (omega (arith, AllZip-long _ _ _ (all_come_back _ _ _ _ placed.places c.end_all.ensures))) placed.shut turned
          (left_as_they_were _ _ _ _ _ placed.left c.end_all.ensures);
    }

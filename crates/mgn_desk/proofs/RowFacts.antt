-- What a row comes to where nothing of its commodity is held.
use Rattle.std.proofs.Common.{◌≡◌, refl, pos}
use Rattle.mgn_span.specs.Scan.{active, price_risk2, value_at}
use Rattle.mgn_desk.specs.KeptRows.{no_row, row_charge}

pub nothing_charged : row_charge no_row ≡ pos 0
unfolding active
nothing_charged = refl

pub nothing_risked : price_risk2 (value_at no_row.scan) ≡ pos 0
unfolding active
nothing_risked = refl

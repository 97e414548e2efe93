-- The scan figures of a commodity.
use Rattle.std.specs.Prelude.{ℕ, ℤ}
use Rattle.mgn_span.specs.Scan.{active, price_risk2, scan_risk}
use Rattle.mgn_plain.specs.declared.scanned.ScanFigures.{ScanFigures}

-- the figures of the totals of 16 scenarios, each by its definition
abbrev pub scanned : (ℕ → ℤ) → ScanFigures
scanned totals = record { scan = scan_risk totals; active = active totals; price_risk2 = price_risk2 totals }

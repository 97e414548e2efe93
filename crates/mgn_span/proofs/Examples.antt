-- Worked examples, by computation of the definitions. Nothing cites them: that they hold is what they are for.
use Rattle.std.proofs.Common.{◌≡◌, ℕ, pos, List, [], ◌∷◌, map, refl, replicate, codes, ℤ}
use Rattle.std.specs.Prelude.{neg_ℤ}
use Rattle.mgn_params.specs.declared.tables.Contract.{Contract}
use Rattle.mgn_params.specs.declared.tables.Kind.TheVariants.{Future, Call}
use Rattle.mgn_params.specs.declared.tables.LegSide.TheVariants.{A, B}
use Rattle.mgn_params.specs.declared.tables.Style.TheVariants.{Premium, Other}
use Rattle.mgn_span.specs.Deltas.{starts_from}
use Rattle.mgn_span.specs.Positions.{Position, positions}
use Rattle.mgn_span.specs.Requirement.{credits, intra_charge, minimum, requirement, risk, scan_of, spot_charge}
use Rattle.mgn_span.specs.Scan.{active, scenario_total}
use Rattle.mgn_params.specs.Tables.{Tables, no_leg}

-- array values

abbrev loss : ℕ → ℤ
loss n = pos n

abbrev gain : ℕ → ℤ
gain n = neg_ℤ (pos n)

-- nets, of AAA1, AAA2, AAAC and BBB1

abbrev none : ℤ
none = pos 0

abbrev long : ℕ → ℤ
long n = pos n

abbrev short : ℕ → ℤ
short n = neg_ℤ (pos n)

abbrev nets : ℤ → ℤ → ℤ → ℤ → List ℤ
nets a b c d = a ∷ b ∷ c ∷ d ∷ []

-- contracts and sets

unfoldable aaa1 : Contract
aaa1 = record { name = codes "AAA1"; commodity = 0; month = 0; kind = Future; style = Other; delta = pos 10000; option_value = 0; array = loss 0 ∷ loss 0 ∷ gain 100 ∷ gain 100 ∷ loss 100 ∷ loss 100 ∷ gain 200 ∷ gain 200 ∷ loss 200 ∷ loss 200 ∷ gain 300 ∷ gain 300 ∷ loss 300 ∷ loss 300 ∷ gain 210 ∷ loss 210 ∷ [] }

unfoldable aaa2 : Contract
aaa2 = record { name = codes "AAA2"; commodity = 0; month = 1; kind = Future; style = Other; delta = pos 10000; option_value = 0; array = loss 0 ∷ loss 0 ∷ gain 90 ∷ gain 90 ∷ loss 90 ∷ loss 90 ∷ gain 180 ∷ gain 180 ∷ loss 180 ∷ loss 180 ∷ gain 270 ∷ gain 270 ∷ loss 270 ∷ loss 270 ∷ gain 189 ∷ loss 189 ∷ [] }

unfoldable aaac : Contract
aaac = record { name = codes "AAAC"; commodity = 0; month = 0; kind = Call; style = Premium; delta = pos 5000; option_value = 60; array = gain 10 ∷ loss 12 ∷ gain 70 ∷ gain 50 ∷ loss 40 ∷ loss 50 ∷ gain 140 ∷ gain 120 ∷ loss 52 ∷ loss 58 ∷ gain 220 ∷ gain 205 ∷ loss 57 ∷ loss 60 ∷ gain 160 ∷ loss 20 ∷ [] }

unfoldable bbb1 : Contract
bbb1 = record { name = codes "BBB1"; commodity = 1; month = 2; kind = Future; style = Other; delta = pos 10000; option_value = 0; array = loss 0 ∷ loss 0 ∷ gain 50 ∷ gain 50 ∷ loss 50 ∷ loss 50 ∷ gain 100 ∷ gain 100 ∷ loss 100 ∷ loss 100 ∷ gain 150 ∷ gain 150 ∷ loss 150 ∷ loss 150 ∷ gain 105 ∷ loss 105 ∷ [] }

-- two commodities, four contracts, a spread between two months, and a credit between the commodities
unfoldable one : Tables
one = record {
  name = codes "ONE";
  commodities = record { name = codes "AAA"; short_option_charge = 25 } ∷ record { name = codes "BBB"; short_option_charge = 0 } ∷ [];
  months = record { commodity = 0; number = 1; tier = 0 } ∷ record { commodity = 0; number = 2; tier = 1 } ∷ record { commodity = 1; number = 1; tier = 0 } ∷ [];
  contracts = aaa1 ∷ aaa2 ∷ aaac ∷ bbb1 ∷ [];
  spreads = record { commodity = 0; first_tier = 0; first_ratio = 10000; second_tier = 1; second_ratio = 10000; charge = 40 } ∷ [];
  credits = record { rate = 5000; count = 2; legs = record { commodity = 0; side = A; ratio = 10000 } ∷ record { commodity = 1; side = B; ratio = 20000 } ∷ no_leg ∷ no_leg ∷ [] } ∷ [];
  classes = record { name = codes "BILL"; price = 9950; haircut = 300 } ∷ [];
  spots = [];
}

-- the same with a ratio of 3 on the first tier
unfoldable odd : Tables
odd = record one { spreads = record { commodity = 0; first_tier = 0; first_ratio = 30000; second_tier = 1; second_ratio = 10000; charge = 40 } ∷ [] }

-- the same with both months in one tier, which is spread with itself
unfoldable flat : Tables
flat = record one {
  months = record { commodity = 0; number = 1; tier = 0 } ∷ record { commodity = 0; number = 2; tier = 0 } ∷ record { commodity = 1; number = 1; tier = 0 } ∷ [];
  spreads = record { commodity = 0; first_tier = 0; first_ratio = 10000; second_tier = 0; second_ratio = 10000; charge = 40 } ∷ [];
}

-- the same with a loss of time value in AAA1 that is larger than its scan, and the whole price risk credited
unfoldable neg : Tables
neg = record one {
  contracts = record aaa1 { array = gain 200 ∷ gain 200 ∷ gain 100 ∷ gain 100 ∷ loss 100 ∷ loss 100 ∷ gain 200 ∷ gain 200 ∷ loss 200 ∷ loss 200 ∷ gain 300 ∷ gain 300 ∷ loss 300 ∷ loss 300 ∷ gain 210 ∷ loss 210 ∷ [] } ∷ aaa2 ∷ aaac ∷ bbb1 ∷ [];
  credits = record { rate = 10000; count = 2; legs = record { commodity = 0; side = A; ratio = 10000 } ∷ record { commodity = 1; side = B; ratio = 20000 } ∷ no_leg ∷ no_leg ∷ [] } ∷ [];
}

-- the same with an AAA1 that gains in each scenario
unfoldable win : Tables
win = record one { contracts = record aaa1 { array = replicate 16 (gain 5) } ∷ aaa2 ∷ aaac ∷ bbb1 ∷ [] }

-- the first set and the odd one with a spot month charge on the first tier
unfoldable spot : Tables
spot = record one { spots = record { commodity = 0; tier = 0; spread_rate = 30; outright_rate = 50 } ∷ [] }

unfoldable spodd : Tables
spodd = record odd { spots = record { commodity = 0; tier = 0; spread_rate = 30; outright_rate = 50 } ∷ [] }

-- Requirements: a set, and nets with what they require under it.

abbrev Requires : Tables → List (List ℤ × ℤ) → Type 0
Requires set rows = map (λ row. requirement set row.0) rows ≡ map (λ row. row.1) rows

-- a scan alone, a spread within a commodity, one between two; an option sold and one bought; spreads within and between together, and no net delta
one_requires : Requires one (
    (nets (long 2) none none none, pos 600) ∷
    (nets (long 2) (short 2) none none, pos 140) ∷
    (nets (long 1) none none (short 2), pos 300) ∷
    (nets none none (short 1) none, pos 280) ∷
    (nets none none (long 1) none, pos 0) ∷
    (nets (long 2) (short 1) none none, pos 370) ∷
    (nets (long 2) (short 1) none (short 4), pos 655) ∷
    (nets (long 2) (short 2) none (short 4), pos 740) ∷
    [])
unfolding aaa1 aaa2 aaac bbb1 one odd flat neg win spot spodd active starts_from intra_charge spot_charge credits risk requirement
one_requires = refl

-- a stage of 3333 uses 9999 and 3333 and charges 14
odd_requires : Requires odd (
    (nets (long 1) (short 1) none none, pos 44) ∷
    [])
unfolding aaa1 aaa2 aaac bbb1 one odd flat neg win spot spodd active starts_from intra_charge spot_charge credits risk requirement
odd_requires = refl

-- a tier spread with itself has one stage
flat_requires : Requires flat (
    (nets (long 2) (short 2) none none, pos 140) ∷
    [])
unfolding aaa1 aaa2 aaac bbb1 one odd flat neg win spot spodd active starts_from intra_charge spot_charge credits risk requirement
flat_requires = refl

-- a credit above the scan
neg_requires : Requires neg (
    (nets (long 1) none none (short 2), pos 0) ∷
    [])
unfolding aaa1 aaa2 aaac bbb1 one odd flat neg win spot spodd active starts_from intra_charge spot_charge credits risk requirement
neg_requires = refl

-- a commodity that only gains has neither scan nor price risk nor credit
win_requires : Requires win (
    (nets (long 1) none none (short 2), pos 150) ∷
    [])
unfolding aaa1 aaa2 aaac bbb1 one odd flat neg win spot spodd active starts_from intra_charge spot_charge credits risk requirement
win_requires = refl

-- the spot month charge: all outright, all spread, both
spot_requires : Requires spot (
    (nets (long 2) none none none, pos 700) ∷
    (nets (long 2) (short 2) none none, pos 200) ∷
    (nets (long 3) (short 2) none none, pos 550) ∷
    [])
unfolding aaa1 aaa2 aaac bbb1 one odd flat neg win spot spodd active starts_from intra_charge spot_charge credits risk requirement
spot_requires = refl

-- and with rounding
spodd_requires : Requires spodd (
    (nets (long 1) (short 1) none none, pos 75) ∷
    [])
unfolding aaa1 aaa2 aaac bbb1 one odd flat neg win spot spodd active starts_from intra_charge spot_charge credits risk requirement
spodd_requires = refl

-- Figures on the way to them.

abbrev portfolio : List ℤ → List Position
portfolio quantities = positions one.contracts quantities

-- two long against two short of the next month: scan 60, scenario 13 active, one stage of 20000 at 40 for each 10000
calendar : (scan_of (portfolio (nets (long 2) (short 2) none none)) 0 ≡ pos 60)
    × (active (scenario_total 0 (portfolio (nets (long 2) (short 2) none none))) ≡ 12)
    × (intra_charge one (portfolio (nets (long 2) (short 2) none none)) 0 ≡ 80)
    × (spot_charge spot (portfolio (nets (long 2) (short 2) none none)) 0 ≡ 60)
unfolding aaa1 aaa2 aaac bbb1 one odd flat neg win spot spodd active starts_from intra_charge spot_charge credits risk requirement
calendar = (refl, refl, refl, refl)

-- one long AAA1 against two short BBB1: scans of 300 each, credits of 150 each
between_commodities : (credits one (portfolio (nets (long 1) none none (short 2))) ≡ 150 ∷ 150 ∷ [])
    × (risk one (portfolio (nets (long 1) none none (short 2))) 0 ≡ pos 150)
    × (risk one (portfolio (nets (long 1) none none (short 2))) 1 ≡ pos 150)
    × (active (scenario_total 1 (portfolio (nets (long 1) none none (short 2)))) ≡ 10)
unfolding aaa1 aaa2 aaac bbb1 one odd flat neg win spot spodd active starts_from intra_charge spot_charge credits risk requirement
between_commodities = (refl, refl, refl, refl)

-- a short option: scan 220, minimum 25
short_option : (scan_of (portfolio (nets none none (short 1) none)) 0 ≡ pos 220)
    × (minimum one (portfolio (nets none none (short 1) none)) 0 ≡ 25)
unfolding aaa1 aaa2 aaac bbb1 one odd flat neg win spot spodd active starts_from intra_charge spot_charge credits risk requirement
short_option = (refl, refl)

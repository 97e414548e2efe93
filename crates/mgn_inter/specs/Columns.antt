-- The rows of the commodities as lists, one for each of their numbers.
use Rattle.std.specs.Prelude.{ℕ, ◌≡◌, ℤ, pos, List, map, slice_index_or}
use Rattle.mgn_inter.specs.declared.commodity_numbers.CommodityNumbers.{CommodityNumbers}

abbrev pub deltas_in : List CommodityNumbers → List ℤ
deltas_in rows = map (λ n. n.delta) rows

abbrev pub risks_in : List CommodityNumbers → List ℕ
risks_in rows = map (λ n. n.risk) rows

abbrev pub rests_in : List CommodityNumbers → List ℤ
rests_in rows = map (λ n. n.rest) rows

abbrev pub credits_in : List CommodityNumbers → List ℕ
credits_in rows = map (λ n. n.credit) rows

abbrev pub no_numbers : CommodityNumbers
no_numbers = record { delta = pos 0; risk = 0; rest = pos 0; credit = 0 }

abbrev pub numbers_at : List CommodityNumbers → ℕ → CommodityNumbers
numbers_at rows g = slice_index_or rows g no_numbers

-- the net deltas and the price risks are as they were
abbrev pub KeepsRisks : List CommodityNumbers → List CommodityNumbers → Type 0
KeepsRisks old new = (deltas_in new ≡ deltas_in old) × (risks_in new ≡ risks_in old)

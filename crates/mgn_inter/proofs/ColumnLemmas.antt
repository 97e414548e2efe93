-- The rows of the commodities as lists of one number each.
use Rattle.std.proofs.Common.{◌≡◌, ◌<◌, ℕ, zero, suc, List, length, map, pos, refl, replicate, slice_index, sym}
use Rattle.std.proofs.lemmas.List.{get_or-map}
use Rattle.mgn_inter.specs.declared.commodity_numbers.CommodityNumbers.{CommodityNumbers}
use Rattle.mgn_inter.specs.Columns.{credits_in, deltas_in, no_numbers, numbers_at, rests_in, risks_in}

map_alike : {A B : Type 0} (f : A → B) (n : ℕ) (x : A) → map f (replicate n x) ≡ replicate n (f x)
map_alike f zero x = refl
map_alike f (suc n) x = rw (map_alike f n x) refl

-- Nothing held: each number of each commodity is 0.
pub record AreFlat (n : ℕ) (rows : List CommodityNumbers) : Type 0 where
  pub deltas : deltas_in rows ≡ replicate n (pos 0)
  pub risks : risks_in rows ≡ replicate n 0
  pub rests : rests_in rows ≡ replicate n (pos 0)
  pub credits : credits_in rows ≡ replicate n 0

pub rows_flat : (rows : List CommodityNumbers) (n : ℕ) → rows ≡ replicate n no_numbers → AreFlat n rows
rows_flat rows n is = rw is (record {
  deltas = map_alike (λ (r : CommodityNumbers). r.delta) n no_numbers;
  risks = map_alike (λ (r : CommodityNumbers). r.risk) n no_numbers;
  rests = map_alike (λ (r : CommodityNumbers). r.rest) n no_numbers;
  credits = map_alike (λ (r : CommodityNumbers). r.credit) n no_numbers;
})

-- A number of a row is that of its list.
pub credit_at : (rows : List CommodityNumbers) (g : ℕ) → g < length rows → (numbers_at rows g).credit ≡ slice_index (credits_in rows) g
credit_at rows g low = sym (get_or-map (λ (r : CommodityNumbers). r.credit) rows g no_numbers 0 low)

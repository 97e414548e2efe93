-- Deltas of months, tiers and commodities (CME SPAN), in ten-thousandths. A month is named by its place in the set's table.
use Rattle.std.specs.Prelude.{ℕ, ◌-◌, ◌==◌, ◌&&◌, Bool, nat_lt, if◌then◌else◌, ℤ, pos, negsuc, neg_ℤ, ◌*ℤ◌, List, length, map}
use Rattle.std.specs.List.{range_with_len}
use Rattle.mgn_num.specs.Signed.{signed_sum_by, signed_sum_below, sum_below}
use Rattle.mgn_params.specs.declared.tables.Month.{Month}
use Rattle.mgn_params.specs.Tables.{month_at}
use Rattle.mgn_span.specs.Positions.{Position}

-- the delta of a month: the sum over its contracts of net quantity times scaled delta (CME SPAN)
abbrev pub month_delta : List Position → ℕ → ℤ
month_delta portfolio month = signed_sum_by (λ p. if p.0.month == month then p.1 *ℤ p.0.delta else pos 0) portfolio

-- the number, if it is above 0
abbrev pub positive_part : ℤ → ℕ
positive_part (pos n) = n
positive_part (negsuc n) = 0

-- the size of the number, if it is below 0
abbrev pub negative_part : ℤ → ℕ
negative_part z = positive_part (neg_ℤ z)

-- whether a month lies in a tier of a commodity
abbrev pub is_in_tier : List Month → ℕ → ℕ → ℕ → Bool
is_in_tier months commodity tier m = ((month_at months m).commodity == commodity) && ((month_at months m).tier == tier)

-- the long or the short delta of a tier: the sum of its months' positive deltas, or of the sizes of the negative ones
-- (CME SPAN)
abbrev pub tier_delta : (ℤ → ℕ) → List Month → (ℕ → ℤ) → ℕ → ℕ → ℕ
tier_delta part months delta commodity tier =
    sum_below (λ m. if is_in_tier months commodity tier m then part (delta m) else 0) (length months)

-- what a leg starts with: legs 0 to 7 are the tiers' long deltas, 8 to 15 their short ones
abbrev pub start_from : List Month → (ℕ → ℤ) → ℕ → ℕ → ℕ
start_from months delta commodity leg =
    if nat_lt leg 8
    then tier_delta positive_part months delta commodity leg
    else tier_delta negative_part months delta commodity (leg - 8)

-- what the 16 legs of a commodity start with, by the deltas of the months
unfoldable pub starts_from : List Month → (ℕ → ℤ) → ℕ → List ℕ
starts_from months delta commodity = map (start_from months delta commodity) (range_with_len 0 16)

-- the net delta of a commodity: the sum of the deltas of all its months (CME SPAN)
abbrev pub net_delta_from : List Month → (ℕ → ℤ) → ℕ → ℤ
net_delta_from months delta commodity =
    signed_sum_below (λ m. if (month_at months m).commodity == commodity then delta m else pos 0) (length months)

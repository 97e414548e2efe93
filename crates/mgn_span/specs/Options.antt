-- The short option minimum and the net option value.
use Rattle.std.specs.Prelude.{ℕ, ◌*◌, ◌==◌, ◌&&◌, if◌then◌else◌, ℤ, pos, ◌*ℤ◌, List}
use Rattle.std.specs.List.{sum_by}
use Rattle.mgn_num.specs.Signed.{signed_sum_by}
use Rattle.mgn_params.specs.Tables.{is_option, is_premium}
use Rattle.mgn_span.specs.Positions.{Position}
use Rattle.mgn_span.specs.Deltas.{negative_part}

-- the short option minimum of a commodity, by its charge for each short option: the sum over its options of the charge
-- times the size of a negative net, puts and calls added (CME SPAN)
abbrev pub short_option_minimum : List Position → ℕ → ℕ → ℕ
short_option_minimum portfolio commodity charge =
    sum_by (λ p. if (p.0.commodity == commodity) && is_option p.0.kind then negative_part p.1 * charge else 0) portfolio

-- the net option value: the sum over the contracts of premium style of net times market value (CME SPAN); the file of a
-- set has no other than options in that style
abbrev pub net_option_value : List Position → ℤ
net_option_value portfolio = signed_sum_by (λ p. if is_premium p.0.style then p.1 *ℤ pos p.0.option_value else pos 0) portfolio

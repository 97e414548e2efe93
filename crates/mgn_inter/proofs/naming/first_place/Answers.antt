use Rattle.std.proofs.Common.{◌≡◌, ◌<◌, ℕ, ⊎_elim, arith, refl, subst}
use Rattle.std.specs.Int.{trailing_zeros, w64}
use Rattle.std.proofs.lemmas.Bool.{cases_eq}
use Rattle.std.proofs.lemmas.Nat.Bits.{bit_at-trailing_zeros, bit_at-zero}
use Rattle.mgn_inter.proofs.naming.first_place.Goals as goal

pub returns-clause-passed : goal.returns-clause-passed
returns-clause-passed c =
    λ i low.
    let places = c.args.places in
    ⊎_elim
    (λ (none : places ≡ 0). rw none (bit_at-zero i))
    (λ some. (bit_at-trailing_zeros w64 places (omega arith) (omega (arith, c.ranges.places.fits))).2 i low)
    (cases_eq places 0)

-- of no places at all
none_set : trailing_zeros w64 0 ≡ 64
unfolding lib.Count.count_trailing_zeros
none_set = refl

pub returns-clause-here : goal.returns-clause-here
returns-clause-here c =
    λ low.
    let places = c.args.places in
    ⊎_elim
    (λ (none : places ≡ 0).
    let few = subst (λ (n : ℕ). trailing_zeros w64 n < 64) none low in
    absurd (omega (arith, few, none_set)))
    (λ some. (bit_at-trailing_zeros w64 places (omega arith) (omega (arith, c.ranges.places.fits))).1)
    (cases_eq places 0)

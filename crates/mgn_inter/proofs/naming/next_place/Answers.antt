use Rattle.std.proofs.Common.{◌≡◌, ◌∙◌, ℕ, ◌+◌, ◌-◌, ◌/◌, ◌^◌, ap, arith, refl, sym}
use Rattle.std.specs.Int.{bit_at}
use Rattle.std.proofs.Math.Nat.{div-div-eq-div-mul}
use Rattle.std.proofs.lemmas.Nat.{pow-add}
use Rattle.mgn_inter.proofs.naming.next_place.Goals as goal

-- a bit of a shifted number
shifted : (n f j : ℕ) → bit_at (n / 2 ^ f) j ≡ bit_at n (f + j)
shifted n f j = rw (div-div-eq-div-mul n (2 ^ f) (2 ^ j), ← pow-add 2 f j) refl

pub returns-clause-passed : goal.returns-clause-passed
returns-clause-passed c =
    λ i behind low.
    let n = c.args.places in
    let p = c.args.place in
    let j = i - (p + 1) in
    let at : p + (1 + j) ≡ i = omega arith in
    let none = c.first_place.ensures.passed j (omega arith) in
    ap (λ (k : ℕ). bit_at n k) (sym at) ∙ sym (shifted n p (1 + j)) ∙ sym (shifted (n / 2 ^ p) 1 j) ∙ none

pub returns-clause-here : goal.returns-clause-here
returns-clause-here c =
    λ low.
    let n = c.args.places in
    let p = c.args.place in
    let j = c.first_place.result in
    let at : p + (1 + j) ≡ p + 1 + j = omega arith in
    let here = c.first_place.ensures.here (omega arith) in
    ap (λ (k : ℕ). bit_at n k) (sym at) ∙ sym (shifted n p (1 + j)) ∙ sym (shifted (n / 2 ^ p) 1 j) ∙ here

use Rattle.std.proofs.Common.{◌≡◌, ◌↔◌, ◌∙◌, ℕ, List, Bool, true, false, cond, eqb, get_or, length, map, take, ap, refl, subst, sym, arith, w8}
use Rattle.std.specs.Int.{bit_at}
use Rattle.std.specs.Simd.Lanes.{mask_l}
use Rattle.std.proofs.Math.ListN.{get_or-map}
use Rattle.std.proofs.lemmas.Bool.Decides.{nat_tests}
use Rattle.std.proofs.lemmas.List.{take_all}
use Rattle.std.proofs.lemmas.Simd.{bit_mask_l, bitmask_splat}
use Rattle.mgn_wire.proofs.words.spaces_of.Goals as goal

abbrev is_space : ℕ → Bool
is_space x = eqb x 32

space_tells : (x : ℕ) (b : Bool) → eqb x 32 ≡ b → (cond {A = ℕ} b 1 0 ≡ 1) ↔ (x ≡ 32)
space_tells x true e = (λ h. grind (arith, nat_tests), λ h. refl)
space_tells x false e = (λ h. absurd (omega arith), λ h. grind (arith, nat_tests))

-- a bit of the mask of the spaces
bit_tells : (row : List ℕ) (k : ℕ) → (bit_at (mask_l (map is_space row)) k ≡ 1) ↔ (get_or row k 0 ≡ 32)
bit_tells row k =
    let e : bit_at (mask_l (map is_space row)) k ≡ cond (is_space (get_or row k 0)) 1 0 = bit_mask_l (map is_space row) k ∙ ap (λ b. cond b 1 0) (get_or-map is_space row k 0) in
    let t = space_tells (get_or row k 0) _ refl in
    (λ h. t.0 (sym e ∙ h), λ h. e ∙ t.1 h)

pub returns : goal.returns
returns c k =
    let row = c.args.row.now in
    let long : length row ≡ 64 = c.told-row in
    let whole : take 64 row ≡ row = take_all 64 row (omega (arith, long)) in
    subst (λ (m : ℕ). (bit_at m k ≡ 1) ↔ (get_or row k 0 ≡ 32)) (sym (bitmask_splat w8 eqb (take 64 row) 64 32 (ap length whole ∙ long) (omega arith)))
    (subst (λ (xs : List ℕ). (bit_at (mask_l (map is_space xs)) k ≡ 1) ↔ (get_or row k 0 ≡ 32)) (sym whole) (bit_tells row k))

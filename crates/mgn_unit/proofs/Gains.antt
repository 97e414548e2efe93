-- What the accounts of each unit gain, account by account: for `Switch::add_gains`.
use Rattle.std.proofs.Common.{◌≡◌, ◌≢◌, ℕ, ◌+◌, ◌*◌, ◌<◌, ◌≤◌, List, length, take, get_or, set, refl, sym, ap, ◌∙◌, subst, arith, ⊎_elim}
use Rattle.std.specs.Prelude.{ℤ, pos, ◌+ℤ◌, unsigned_abs}
use Rattle.std.proofs.Math.IntN.{+ℤ_idr}
use Rattle.std.proofs.lemmas.Bool.{cases_eq, eq-eqb, ne_eqb}
use Rattle.std.proofs.lemmas.Int.{ints}
use Rattle.std.proofs.lemmas.List.{get_or-set_other, get_or-set_same}
use Rattle.mgn_params.specs.Tables.{Tables}
use Rattle.mgn_machine.specs.State.{AccountState}
use Rattle.mgn_machine.specs.Portfolios.{in_unit}
use Rattle.mgn_unit.specs.NewSets.{unit_gain, value_gain}
use Rattle.mgn_unit.proofs.Carried.{unit_gain-more}

in_own : (f : AccountState → ℤ) (a : AccountState) (u : ℕ) → a.unit ≡ u → in_unit u f a ≡ f a
in_own f a u same = rw (eq-eqb a.unit u same) refl

in_other : (f : AccountState → ℤ) (a : AccountState) (u : ℕ) → a.unit ≢ u → in_unit u f a ≡ pos 0
in_other f a u apart = rw (ne_eqb a.unit u apart) refl

pub gains-more : (old new : Tables) (accounts : List AccountState) (gains : List ℤ) (i : ℕ) (a : AccountState) → i < length accounts → a ≡ get_or accounts i a → a.unit < length gains → ((u : ℕ) → u < length gains → get_or gains u (pos 0) ≡ unit_gain old new (take i accounts) u)
    → (u : ℕ) → u < length gains → get_or (set gains a.unit (get_or gains a.unit (pos 0) +ℤ value_gain old new a)) u (pos 0) ≡ unit_gain old new (take (i + 1) accounts) u
gains-more old new accounts gains i a inside is within so_far u less =
    let gain = value_gain old new in
    let now = get_or gains a.unit (pos 0) +ℤ gain a in
    let before : ℕ → ℤ = unit_gain old new (take i accounts) in
    let more : unit_gain old new (take (i + 1) accounts) u ≡ before u +ℤ in_unit u gain a = unit_gain-more old new accounts u i a inside is in
    ⊎_elim
    (λ (same : a.unit ≡ u).
    subst (λ (v : ℕ). get_or (set gains a.unit now) v (pos 0) ≡ before v +ℤ gain a) same
    (get_or-set_same gains a.unit now (pos 0) within ∙ ap (λ (z : ℤ). z +ℤ gain a) (so_far a.unit within))
    ∙ sym (more ∙ ap (λ (z : ℤ). before u +ℤ z) (in_own gain a u same)))
    (λ (apart : a.unit ≢ u).
    get_or-set_other gains a.unit u now (pos 0) (λ e. apart (sym e))
    ∙ so_far u less
    ∙ sym (more ∙ ap (λ (z : ℤ). before u +ℤ z) (in_other gain a u apart) ∙ +ℤ_idr (before u)))
    (cases_eq a.unit u)

sum_small : (x y : ℤ) (m n : ℕ) → unsigned_abs x ≤ m → unsigned_abs y ≤ n → unsigned_abs (x +ℤ y) ≤ m + n
sum_small x y m n few more = omega (arith, ints, few, more)

pub gains-small : (gains : List ℤ) (n k most : ℕ) (gain : ℤ) → n < length gains → unsigned_abs gain ≤ most → ((u : ℕ) → u < length gains → unsigned_abs (get_or gains u (pos 0)) ≤ k * most)
    → (u : ℕ) → u < length gains → unsigned_abs (get_or (set gains n (get_or gains n (pos 0) +ℤ gain)) u (pos 0)) ≤ (k + 1) * most
gains-small gains n k most gain within small so_far u less =
    let now = get_or gains n (pos 0) +ℤ gain in
    let next : k * most + most ≡ (k + 1) * most = omega arith in
    ⊎_elim
    (λ (same : n ≡ u).
    subst (λ (v : ℕ). unsigned_abs (get_or (set gains n now) v (pos 0)) ≤ (k + 1) * most) same
    (rw get_or-set_same (subst (λ (m : ℕ). unsigned_abs now ≤ m) next (sum_small (get_or gains n (pos 0)) gain (k * most) most (so_far n within) small))))
    (λ (apart : n ≢ u). rw (get_or-set_other gains n u now (pos 0) (λ e. apart (sym e))) (omega (arith, so_far u less)))
    (cases_eq n u)

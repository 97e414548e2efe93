-- Places of sessions, and the steps at them: for each law of a single step.
use Rattle.std.proofs.Common.{◌≡◌, ◌≢◌, ◌<◌, ◌≤◌, ◌∙◌, ◌⊎◌, inl, inr, ℕ, zero, suc, Bool, true, false, List, [], ◌∷◌, length, get_or, sym, ap, refl, subst, arith}
use Rattle.std.specs.Prelude.{if◌then◌else◌, nat_lt}
use Rattle.std.proofs.lemmas.Bool.Decides.{nat_tests}
use Rattle.mgn_world.specs.declared.phases.Deed.{Deed}
use Rattle.mgn_world.specs.declared.phases.Phase.{Phase}
use Rattle.mgn_world.specs.declared.phases.Phase.TheVariants.{Idle}
use Rattle.mgn_world.specs.World.{World, does, next, phase_at}
use Rattle.world_laws.specs.Moves.{step_of}

-- a session that is not idle is there
pub inside : (phases : List Phase) (p : ℕ) → get_or phases p Idle ≢ Idle → p < length phases
inside [] p busy = absurd (busy refl)
inside (x ∷ xs) zero busy = omega arith
inside (x ∷ xs) (suc p) busy = let less = inside xs p busy in omega (arith, less)

pub busy_inside : (w : World) (p : ℕ) (st : Phase) → phase_at w p ≡ st → st ≢ Idle → p < length w.phases
busy_inside w p st is busy = inside w.phases p (λ idle. busy (sym is ∙ idle))

pub next_is : (w : World) (p : ℕ) (d : Deed) → p < length w.phases → next w (step_of p d) ≡ does w p d
next_is w p d there =
    let test : nat_lt p (length w.phases) ≡ true = grind (arith, nat_tests) in
    ap (λ (b : Bool). if b then does w p d else w) test

-- a session that is not there does nothing
pub next_out : (w : World) (p : ℕ) (d : Deed) → length w.phases ≤ p → next w (step_of p d) ≡ w
next_out w p d out =
    let test : nat_lt p (length w.phases) ≡ false = grind (arith, nat_tests) in
    ap (λ (b : Bool). if b then does w p d else w) test

pub inside_or : (p n : ℕ) (b : Bool) → nat_lt p n ≡ b → b ≡ true → p < n
inside_or p n b e is = let test : nat_lt p n ≡ true = e ∙ is in grind (arith, nat_tests)

there_by : (p n : ℕ) (b : Bool) → nat_lt p n ≡ b → (p < n) ⊎ (n ≤ p)
there_by p n true e = inl (grind (arith, nat_tests))
there_by p n false e = inr (grind (arith, nat_tests))

-- whether a session is there or not
pub there_or : (w : World) (p : ℕ) → (p < length w.phases) ⊎ (length w.phases ≤ p)
there_or w p = there_by p (length w.phases) (nat_lt p (length w.phases)) refl

-- what is shown of the step of a session that is there
pub by_does : (P : World → Type 0) (w x : World) (p : ℕ) (d : Deed) → p < length w.phases → does w p d ≡ x → P x → P (next w (step_of p d))
by_does P w x p d there e is = subst P (sym (next_is w p d there ∙ e)) is

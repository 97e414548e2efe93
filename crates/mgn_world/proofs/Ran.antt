-- The world after one step more: for `run`, and for ends of sessions.
use Rattle.std.proofs.Common.{◌≡◌, ◌<◌, ◌∙◌, ◌++◌, ℕ, suc, ◌≤◌, Bool, false, true, List, [], ◌∷◌, length, sym, ap, refl, arith}
use Rattle.std.specs.Prelude.{if◌then◌else◌, nat_lt}
use Rattle.std.proofs.lemmas.Bool.Decides.{nat_tests}
use Rattle.mgn_world.specs.Claims.{AreLimited, IsLimited, IsReached}
use Rattle.mgn_world.specs.declared.phases.Deed.{Deed}
use Rattle.mgn_world.specs.declared.phases.Step.{Step}
use Rattle.mgn_world.specs.World.{World, does, does_as, next, opening, run}

run_more : (w : World) (es : List Step) (e : Step) → run w (es ++ e ∷ []) ≡ next (run w es) e
run_more w [] e = refl
run_more w (x ∷ es) e = run_more (next w x) es e

limited_more : (es : List Step) (e : Step) → AreLimited es → IsLimited e.deed → AreLimited (es ++ e ∷ [])
limited_more [] e are is = (is, tt)
limited_more (x ∷ es) e are is = (are.0, limited_more es e are.1 is)

pub reached_more : (w : World) (e : Step) → IsReached w → IsLimited e.deed → IsReached (next w e)
reached_more w e r is = record {
  set = r.set;
  steps = r.steps ++ e ∷ [];
  limits = r.limits;
  gathered = limited_more r.steps e r.gathered is;
  is = ap (λ (x : World). next x e) r.is ∙ sym (run_more (opening r.set) r.steps e);
}

-- a step of the session at a place
pub stepped_as : (w v : World) (e : Step) (p : ℕ) (d : Deed) → e.session ≡ suc p → e.deed ≡ d → p < length w.phases → v ≡ does w p d → v ≡ next w e
stepped_as w v e p d session deed inside is =
    let there : nat_lt p (length w.phases) ≡ true = grind (arith, nat_tests) in
    is ∙ sym (ap (λ (b : Bool). if b then does w p d else w) there) ∙ sym (λ j. does_as w (session j) (deed j))

-- a step of a session that is not there
pub stays_out : (w : World) (e : Step) (p : ℕ) → e.session ≡ suc p → length w.phases ≤ p → w ≡ next w e
stays_out w e p session outside =
    let none : nat_lt p (length w.phases) ≡ false = grind (arith, nat_tests) in
    sym (ap (λ (b : Bool). if b then does w p e.deed else w) none) ∙ sym (λ j. does_as w (session j) e.deed)

pub none_left : (es : List Step) → length es ≡ 0 → es ≡ []
none_left [] e = refl
none_left (x ∷ es) e = absurd (omega (arith, e))

-- Nets that are brought one after another: for `bring_lots` and `bring_branch`.
use Rattle.std.proofs.Common.{◌≡◌, ◌≢◌, ◌<◌, ◌∙◌, ℕ, ℤ, List, ap, get_or-set_other, get_or-set_same, length, pos, sym, subst}
use Rattle.std.specs.Prelude.{◌+ℤ◌}
use Rattle.mgn_params.specs.Tables.{Tables}
use Rattle.mgn_span.specs.Scan.{value_at}
use Rattle.mgn_desk.specs.declared.figures.Figures.{Figures}
use Rattle.mgn_desk.specs.declared.portfolio.Portfolio.{Portfolio}
use Rattle.mgn_desk.specs.declared.portfolio.Portfolio.TheVariants.{Lots}
use Rattle.mgn_desk.specs.declared.unit_lists.UnitLists.{UnitLists}
use Rattle.mgn_desk.specs.Moved.{more_of}
use Rattle.mgn_desk.specs.UnitLists.{IsTogether, flat_lists, nets_in}
use Rattle.mgn_desk.specs.WorkedPortfolios.{AreParts, IsPortfolio, WorkedPortfolio, worked}
use Rattle.mgn_desk.proofs.BranchLemmas.{worked_together}
use Rattle.mgn_desk.proofs.ShownLemmas.{value_in, value_none}

-- a quantity more of one contract
pub brought_here : (old new : List ℤ) (i : ℕ) (q : ℤ) → new ≡ more_of old i q → i < length old → value_at new i ≡ value_at old i +ℤ q
brought_here old new i q is inside = ap (λ (xs : List ℤ). value_at xs i) is ∙ get_or-set_same old i (value_at old i +ℤ q) (pos 0) inside

pub brought_other : (old new : List ℤ) (i k : ℕ) (q : ℤ) → new ≡ more_of old i q → k ≢ i → value_at new k ≡ value_at old k
brought_other old new i k q is other = ap (λ (xs : List ℤ). value_at xs k) is ∙ get_or-set_other old i k (value_at old i +ℤ q) (pos 0) other

-- lists of nets of 0
pub flat_value : (t : Tables) (l : UnitLists) (k : ℕ) → l ≡ flat_lists t → value_at (nets_in Lots l) k ≡ pos 0
flat_value t l k flat = ap (λ (x : UnitLists). value_at (nets_in Lots x) k) flat ∙ value_in Lots (flat_lists t).nets k ∙ value_none Lots (length t.contracts) k

-- what is kept of a portfolio that is together with the lots
pub together_parts : (t : Tables) (w : Portfolio) (l : UnitLists) (f : Figures) → IsTogether w l → AreParts t (worked Lots l f) → AreParts t (worked w l f)
together_parts t w l f is are = subst (λ (p : WorkedPortfolio). AreParts t p) (sym (worked_together w l f is)) are

pub together_portfolio : (t : Tables) (w : Portfolio) (l : UnitLists) (f : Figures) → IsTogether w l → IsPortfolio t (worked Lots l f) → IsPortfolio t (worked w l f)
together_portfolio t w l f is are = subst (λ (p : WorkedPortfolio). IsPortfolio t p) (sym (worked_together w l f is)) are

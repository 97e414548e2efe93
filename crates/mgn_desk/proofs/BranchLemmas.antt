-- The figures of a branch beside those of the lots, and what is kept of a portfolio that is together with the lots.
use Rattle.std.proofs.Common.{◌≡◌, ◌∙◌, Bool, true, false, refl, subst, sym}
use Rattle.std.specs.Prelude.{if◌then◌else◌}
use Rattle.mgn_params.specs.Tables.{Tables}
use Rattle.mgn_inter.proofs.TurnLemmas.{credits_long}
use Rattle.mgn_desk.specs.declared.branch.Branch.{Branch}
use Rattle.mgn_desk.specs.declared.figures.Figures.{Figures}
use Rattle.mgn_desk.specs.declared.portfolio.Portfolio.{Portfolio}
use Rattle.mgn_desk.specs.declared.portfolio.Portfolio.TheVariants.{Lots}
use Rattle.mgn_desk.specs.declared.unit_lists.UnitLists.{UnitLists}
use Rattle.mgn_desk.specs.KeptRows.{sums_by, tiers_by, totals_by}
use Rattle.mgn_desk.specs.UnitLists.{IsTogether, rows_in}
use Rattle.mgn_desk.specs.WorkedPortfolios.{AreFigures, IsPortfolio, WorkedPortfolio, worked}
use Rattle.mgn_desk.specs.Portfolios.{IsUnder, figures_of}
use Rattle.mgn_desk.proofs.ShownLemmas.{rows_none}

-- the figures of a portfolio under a set are as many as this asks for
pub figures_are : (t : Tables) (w : Portfolio) (l : UnitLists) (f : Figures) → IsPortfolio t (worked w l f) → AreFigures t f
figures_are t w l f is =
    let credits = is.ready.credits.of_set in
    record {
      credits = record {
        deltas = credits.one_each;
        risks = credits.numbers.one_each ∙ credits.one_each;
        rests = credits.one_rest_each ∙ credits.one_each;
        credits = credits_long t f.credits credits ∙ credits.one_each;
        kept = credits.one_kept_each;
      };
      risks = is.risks.one_each;
    }

-- a portfolio that is together with the lots has their lists
pub worked_together : (w : Portfolio) (l : UnitLists) (f : Figures) → IsTogether w l → worked w l f ≡ worked Lots l f
worked_together w l f is =
    let rows : rows_in w l ≡ rows_in Lots l = rows_none w l.rows l.own is.none in
    λ i. record {
      nets = is.nets i;
      totals = totals_by (rows i);
      sums = sums_by (rows i) f.value;
      tiers = tiers_by (rows i) (is.deltas i);
      credits = f.credits;
      risks = f.risks;
    }

-- what is kept of a branch
branch_either : (t : Tables) (w : Portfolio) (l : UnitLists) (lots own : Figures) (apart : Bool) → IsPortfolio t (worked Lots l lots) → (apart ≡ true → IsPortfolio t (worked w l own)) → (apart ≡ false → IsTogether w l) → IsPortfolio t (worked w l (if apart then own else lots))
branch_either t w l lots own true is kept together = kept refl
branch_either t w l lots own false is kept together =
    subst (λ (p : WorkedPortfolio). IsPortfolio t p) (sym (worked_together w l lots (together refl))) is

pub branch_is : (t : Tables) (w : Portfolio) (l : UnitLists) (lots : Figures) (b : Branch) → IsPortfolio t (worked Lots l lots) → IsUnder t w l b → IsPortfolio t (worked w l (figures_of lots b))
branch_is t w l lots b is under = branch_either t w l lots b.own b.apart is under.own under.together

use Rattle.std.proofs.Common.{◌≡◌, ◌∙◌, ap, length, length-set, refl, set, subst, sym}
use Rattle.std.specs.Prelude.{if◌then◌else◌}
use Rattle.mgn_inter.specs.Rows.{named}
use Rattle.mgn_span.specs.Scan.{value_at}
use Rattle.mgn_desk.specs.declared.figures.Figures.{Figures}
use Rattle.mgn_desk.specs.WorkedPortfolios.{IsPortfolio, worked, worked_risk}
use Rattle.mgn_inter.specs.Rows.{Credited}
use Rattle.mgn_inter.specs.Credited.{AreCreditRows}
use Rattle.mgn_desk.proofs.CreditLemmas.{credit_rows}
use Rattle.mgn_desk.proofs.WorkedLemmas.{portfolio_written, ready_with_risks}
use Rattle.mgn_desk.proofs.figures.Figures.settle.Goals as goal

pub returns-clause-portfolio : goal.returns-clause-portfolio
returns-clause-portfolio c =
    let t = c.args.set.now in
    let w = c.args.portfolio in
    let l = c.args.lists.now in
    let g = c.args.g in
    let old = c.args.self.now in
    let refreshed = c.refresh-reworked.new.self in
    let mended = c.mend.new.self in
    let risks = c.mend_spreads.new.self.risks in
    let end : Figures = record refreshed { risks = risks } in
    let p = worked w l end in
    let is : c.mend_spreads.new.self ≡ end = c.mend_spreads.ensures.kept ∙ ap (λ (f : Figures). let x : Figures = record f { risks = risks } in x) c.mend.ensures in
    let ready = ready_with_risks t (worked w l refreshed) risks c.refresh-reworked.ensures.ready in
    let row = ap (λ (f : Figures). f.risks) c.mend.ensures ∙ ap (λ (f : Figures). set f.risks g (worked_risk p g)) c.refresh-reworked.ensures.written in
    let places = c.refresh-reworked.result in
    let written = portfolio_written t (worked w l old) p mended.risks places g c.requires.commodity c.requires.behind ready refl c.refresh-reworked.ensures.others row c.mend_spreads.ensures.long (λ k low.
    c.mend_spreads.ensures.risks k low
    ∙ ap (λ (f : Figures). if named k t.credits places then worked_risk (worked w l f) k else value_at mended.risks k) c.mend.ensures) in
    subst (λ (f : Figures). IsPortfolio t (worked w l f)) (sym is) written

pub returns-clause-figures : goal.returns-clause-figures
returns-clause-figures c =
    λ were.
    let t = c.args.set.now in
    let g = c.args.g in
    let refreshed = c.refresh-reworked.new.self in
    let credits = ap (λ (f : Figures). f.credits) c.mend_spreads.ensures.kept ∙ ap (λ (f : Figures). f.credits) c.mend.ensures in
    record {
      credits = subst (λ (k : Credited). AreCreditRows t k) (sym credits) (credit_rows t refreshed.credits c.refresh-reworked.ensures.ready.credits.of_set);
      risks = c.mend_spreads.ensures.long
          ∙ ap (λ (f : Figures). length f.risks) c.mend.ensures
          ∙ length-set refreshed.risks g (worked_risk (worked c.args.portfolio c.args.lists.now refreshed) g)
          ∙ ap (λ (f : Figures). length f.risks) c.refresh-reworked.ensures.written
          ∙ c.requires.behind.risks.one_each;
    }

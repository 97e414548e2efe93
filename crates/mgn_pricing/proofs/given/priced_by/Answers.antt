use Rattle.std.proofs.Common.{◌∙◌, sym, ap, subst, Bor}
use Rattle.std.specs.Prelude.{is_some}
use Rattle.mgn_desk.specs.declared.desk.Desk.{Desk}
use Rattle.mgn_unit.specs.declared.row.Row.{Row}
use Rattle.mgn_unit.specs.Rows.{Prices}
use Rattle.mgn_pricing.specs.Given.{IsRight}
use Rattle.mgn_pricing.proofs.Fitting.{default-is, fits-of, fits-place, priced-fit, right_marked, unfit-none}
use Rattle.mgn_pricing.proofs.given.priced_by.Goals as goal

pub returns-in_err-desk-clause-fit : goal.returns-in_err-desk-clause-fit
returns-in_err-desk-clause-fit c =
    ap is_some c.from_residual.ensures ∙ sym (unfit-none (λ d. d.now) c.args.set.now c.args.version c.args.rows.now c.args.change.now c.args.desks.now (sym c.place_of.ensures.place ∙ c.in_err-desk.was))

pub returns-then-not-fits-clause-fit : goal.returns-then-not-fits-clause-fit
returns-then-not-fits-clause-fit c =
    let whole = fits-place (λ d. d.now) c.args.set.now c.args.version c.args.rows.now c.args.change.now c.args.desks.now c.in_ok-desk.field-0 c.index-desks-branch.result c.index-rows-change.result
    c.requires.possible.inside c.index-rows-change.is (sym c.place_of.ensures.place ∙ c.in_ok-desk.was) c.index-desks-branch.is in
    sym (whole ∙ sym c.fits.ensures ∙ c.if-not-fits.true)

pub requirements-requires : goal.requirements-requires
requirements-requires c =
    let fit = sym c.fits.ensures ∙ c.if-not-fits.false in
    let right = subst (λ (d : Bor Desk). IsRight c.args.set.now c.args.version d.now.marked) (sym c.index-desks-branch.is) (c.requires.right c.in_ok-desk.field-0 c.index-desks-branch.result c.in_ok-desk.ensures.within) in
    (c.args.set.now, right_marked c.args.set.now c.args.version c.index-desks-branch.result.now.marked right (fits-of c.args.version _ c.index-desks-branch.result.now.marked fit))

pub returns-clause-priced : goal.returns-clause-priced
returns-clause-priced c =
    let set' = c.args.set.now in
    let desk = c.index-desks-branch.result.now in
    let row = c.index-rows-change.result in
    let fit = sym c.fits.ensures ∙ c.if-not-fits.false in
    let right = subst (λ (d : Bor Desk). IsRight set' c.args.version d.now.marked) (sym c.index-desks-branch.is) (c.requires.right c.in_ok-desk.field-0 c.index-desks-branch.result c.in_ok-desk.ensures.within) in
    let marked = right_marked set' c.args.version desk.marked right (fits-of c.args.version _ desk.marked fit) in
    let same = default-is c.args.rows.now c.args.change.now.unit _ row c.requires.possible.inside ∙ sym c.index-rows-change.is in
    subst (λ (r : Row). Prices set' c.args.change.now.change r c.requirements.result) (sym same)
    (priced-fit set' c.args.version row c.args.change.now.change desk.marked c.requirements.result fit (c.requirements.ensures.requirements set' marked) c.requirements.ensures.small)

pub returns-clause-fit : goal.returns-clause-fit
returns-clause-fit c =
    let whole = fits-place (λ d. d.now) c.args.set.now c.args.version c.args.rows.now c.args.change.now c.args.desks.now c.in_ok-desk.field-0 c.index-desks-branch.result c.index-rows-change.result
    c.requires.possible.inside c.index-rows-change.is (sym c.place_of.ensures.place ∙ c.in_ok-desk.was) c.index-desks-branch.is in
    sym (whole ∙ sym c.fits.ensures ∙ c.if-not-fits.false)

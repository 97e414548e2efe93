use Rattle.std.proofs.Common.{◌≡◌, ◌∙◌, ◌<◌, List, ap, arith, length, slice_set, subst}
use Rattle.std.proofs.lemmas.List.{get_or_default}
use Rattle.mgn_params.specs.declared.tables.CreditSpread.{CreditSpread}
use Rattle.mgn_params.specs.Tables.{credit_spread_at, legs_of}
use Rattle.mgn_inter.specs.declared.spread_state.SpreadState.{SpreadState}
use Rattle.mgn_inter.specs.Quiet.{IsMoved}
use Rattle.mgn_inter.specs.Rows.{Credited, kept_at, nothing_kept}
use Rattle.mgn_inter.proofs.inter.InterCredits.pass.Goals as goal

pub returns : goal.returns
returns c =
    let kept : List SpreadState = c.self.inside.kept in
    let g = c.args.g in
    let rest = c.args.rest in
    let s : CreditSpread = credit_spread_at c.args.set.now.credits c.args.i in
    let long : length kept ≡ length c.args.self.now.kept = ap (λ (r : Credited). length r.kept) c.self.view_is in
    let low : c.args.i < length kept = omega (arith, long, c.requires.kept, c.requires.inside) in
    let spread_is : c.spread_at-spread.result.now ≡ s = c.spread_at-spread.ensures ∙ ap (λ (ss : List CreditSpread). credit_spread_at ss c.args.i) c.credits.ensures in
    let kept_is : c.row_mut.result.now ≡ kept_at kept c.args.i = c.row_mut.ensures.value ∙ get_or_default kept c.args.i c.row_mut.result.now nothing_kept low in
    let own : SpreadState = c.move_rest.new.kept in
    let of_spread = subst (λ (one : CreditSpread). IsMoved g rest (legs_of one) c.row_mut.result.now own) spread_is c.move_rest.ensures in
    let of_kept = subst (λ (k : SpreadState). IsMoved g rest (legs_of s) k own) kept_is of_spread in
    (own, ap (λ (r : Credited). record r { kept = slice_set r.kept c.args.i own }) c.self.view_is, subst (λ (r : Credited). IsMoved g rest (legs_of s) (kept_at r.kept c.args.i) own) c.self.view_is of_kept)

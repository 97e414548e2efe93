use Rattle.std.proofs.Common.{◌≡◌, ◌≢◌, ◌∙◌, ◌<◌, ◌≤◌, List, ⊎_elim, ap, arith, false, length, sym}
use Rattle.std.proofs.lemmas.Bool.{cases_eq, cases_lt}
use Rattle.std.proofs.lemmas.List.{get_or_default}
use Rattle.mgn_params.specs.declared.tables.CreditSpread.{CreditSpread}
use Rattle.mgn_params.specs.Tables.{credit_spread_at, legs_of}
use Rattle.mgn_span.specs.Credits.{forms}
use Rattle.mgn_inter.specs.declared.spread_state.SpreadState.{SpreadState}
use Rattle.mgn_inter.specs.Rows.{AreRestsOf, Credited, kept_at, nothing_kept, rests_at}
use Rattle.mgn_inter.proofs.inter.InterCredits.none_forms.Goals as goal

pub loop-i-preserved : goal.loop-i-preserved
loop-i-preserved c =
    let set' = c.args.set.now in
    let self = c.args.self.now in
    let i = c.loop-i.i in
    let next = c.min-i-in-loop-i.result in
    let legs = legs_of (credit_spread_at set'.credits i) in
    let rests = rests_at self.deltas self.risks set'.credits i in
    let kept : List SpreadState = c.self.inside.kept in
    let count : length c.credits-spreads.result.now ≡ length set'.credits = ap (λ (ss : List CreditSpread). length ss) c.credits-spreads.ensures in
    let inside : i < length set'.credits = omega (arith, c.loop-i-test.true, count) in
    let long : length kept ≡ length self.kept = ap (λ (r : Credited). length r.kept) c.self.view_is in
    let low : i < length kept = omega (arith, long, c.requires.one_kept_each, inside) in
    let read : c.row.result.now ≡ kept_at self.kept i = c.row.ensures ∙ get_or_default kept i c.row.result.now nothing_kept low ∙ ap (λ (r : Credited). kept_at r.kept i) c.self.view_is in
    let spread_is : c.spread_at-spread.result.now ≡ credit_spread_at set'.credits i = c.spread_at-spread.ensures ∙ ap (λ (ss : List CreditSpread). credit_spread_at ss i) c.credits.ensures in
    let own = c.requires.kept i inside in
    let are : AreRestsOf legs rests (kept_at self.kept i).rests = record { long = own.rests_long; are = own.rests_are } in
    let told = rw (spread_is, read) at c.kept_forms.ensures in
    let they_dont : forms rests legs ≡ false = sym (told rests are) ∙ c.if-kept_forms.false in
    record {
      inside = omega (arith, c.min-i-in-loop-i.ensures, count);
      none = λ j below bit.
          ⊎_elim
          (λ (before : j < i). c.loop-i.invariant.none j before bit)
          (λ (from : i ≤ j).
          ⊎_elim
          (λ (here : j ≡ i). rw here they_dont)
          (λ (behind : j ≢ i).
          let unset = c.next_place.ensures.passed j (omega (arith, from, behind)) (omega (arith, below, c.min-i-in-loop-i.ensures)) in
          absurd (omega (arith, bit, unset)))
          (cases_eq j i))
          (cases_lt j i);
    }

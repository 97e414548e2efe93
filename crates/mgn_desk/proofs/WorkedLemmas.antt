-- What is kept of a portfolio once one commodity is brought after its nets: for `change` and `settle`.
use Rattle.std.proofs.Common.{◌≡◌, ◌≢◌, ℕ, ◌<◌, Bool, true, false, List, length, slice_index, slice_set, pos, ℤ, unsigned_abs, ap, ◌∙◌, sym, arith, refl, ⊎_elim, length-set, get_or-set_same, get_or-set_other}
use Rattle.std.specs.Prelude.{◌-ℤ◌, if◌then◌else◌}
use Rattle.std.specs.Int.{int_max}
use Rattle.std.proofs.lemmas.Bool.{cases_eq}
use Rattle.mgn_num.specs.Signed.{signed_sum_below}
use Rattle.mgn_params.specs.Limits.{IsWithinLimits}
use Rattle.mgn_params.specs.Tables.{Tables, contract_at}
use Rattle.mgn_span.specs.Credits.{credits_of}
use Rattle.mgn_span.specs.Options.{net_option_value}
use Rattle.mgn_span.specs.Positions.{positions}
use Rattle.mgn_span.specs.Requirement.{credit, credits, minimum, requirement, risk}
use Rattle.mgn_span.specs.Scan.{price_risk2, scenario_total, value_at}
use Rattle.mgn_span.specs.Words.{net_delta}
use Rattle.mgn_inter.specs.Credited.{AreCreditsOf}
use Rattle.mgn_inter.specs.Rows.{Credited, named}
use Rattle.mgn_span.proofs.SumLemmas.{signed_sum_below_same}
use Rattle.mgn_desk.specs.WorkedPortfolios.{AreCreditsBy, AreParts, charge_of, IsBehind, IsPortfolio, IsReady, net_deltas_of, price_risks_of, SameBut, with_credits, with_risks, worked_risk, WorkedPortfolio}
use Rattle.mgn_desk.proofs.CreditLemmas.{credit_of}
use Rattle.mgn_desk.proofs.FrameLemmas.{changed, same_but_changed}
use Rattle.mgn_desk.proofs.MoveLemmas.{charge_is}
use Rattle.mgn_desk.proofs.RowLemmas.{row-set}

parts_with_risks : (t : Tables) (p : WorkedPortfolio) (risks : List ℤ) → AreParts t p → AreParts t (with_risks p risks)
parts_with_risks t p risks are = record { totals = are.totals; sums = are.sums; tiers = are.tiers; deltas = are.deltas }

pub ready_with_risks : (t : Tables) (p : WorkedPortfolio) (risks : List ℤ) → IsReady t p → IsReady t (with_risks p risks)
ready_with_risks t p risks is = record {
  parts = parts_with_risks t p risks is.parts;
  credits = is.credits;
}

-- the credit of a commodity by what is kept
credit_by : (t : Tables) (nets : List ℤ) (c : Credited) (g : ℕ) → AreCreditsBy t nets c → slice_index c.credits g ≡ credit t (positions t.contracts nets) g
unfolding credits
credit_by t nets c g are =
    credit_of t c g are.of_set
    ∙ ap (λ (ds : List ℤ). slice_index (credits_of ds c.risks t.credits) g) are.net_deltas
    ∙ ap (λ (rs : List ℕ). slice_index (credits_of (net_deltas_of t (positions t.contracts nets)) rs t.credits) g) are.price_risks

-- the risk by what is kept is that of the nets
pub worked_risk_is : (t : Tables) (p : WorkedPortfolio) (g : ℕ) → IsReady t p → g < length t.commodities → worked_risk p g ≡ risk t (positions t.contracts p.nets) g
unfolding risk
worked_risk_is t p g is h =
    rw (charge_is t p g is.parts h, credit_by t p.nets p.credits g is.credits, is.parts.sums.each g h) refl

-- Nothing is behind, and then the nets of one commodity change.

pub behind_none : (t : Tables) (g : ℕ) (p : WorkedPortfolio) → IsPortfolio t p → IsBehind t g p
behind_none t g p is = record {
  was = p.nets;
  parts = is.ready.parts;
  credits = is.ready.credits;
  risks = is.risks;
  others = record {
    charges = λ k other. refl;
    net_deltas = λ k other. refl;
    price_risks = λ k other. refl;
    minimums = λ k other. refl;
  };
}

pub behind_moved : (t : Tables) (old p : WorkedPortfolio) (i : ℕ) (q : ℤ) → IsWithinLimits t → i < length t.contracts → IsBehind t (contract_at t.contracts i).commodity old → p.nets ≡ changed old.nets i q → AreParts t p → p.credits ≡ old.credits → p.risks ≡ old.risks → IsBehind t (contract_at t.contracts i).commodity p
behind_moved t old p i q limits h behind nets parts credits risks =
    let step = same_but_changed t old.nets i q limits h behind.parts.totals.one_each in
    record {
      was = behind.was;
      parts = parts;
      credits = rw credits behind.credits;
      risks = rw risks behind.risks;
      others = record {
        charges = λ k other. rw nets (step.charges k other) ∙ behind.others.charges k other;
        net_deltas = λ k other. rw nets (step.net_deltas k other) ∙ behind.others.net_deltas k other;
        price_risks = λ k other. rw nets (step.price_risks k other) ∙ behind.others.price_risks k other;
        minimums = λ k other. rw nets (step.minimums k other) ∙ behind.others.minimums k other;
      };
    }

-- What is written of the commodity.

-- the rows of net deltas and price risks
net_deltas_settled : (t : Tables) (old new : List ℤ) (g : ℕ) → g < length t.commodities → SameBut t g old new → slice_set (net_deltas_of t (positions t.contracts old)) g (net_delta t.months (positions t.contracts new) g) ≡ net_deltas_of t (positions t.contracts new)
net_deltas_settled t old new g low same =
    row-set (pos 0) (net_delta t.months (positions t.contracts old)) (net_delta t.months (positions t.contracts new)) (length t.commodities) g low (λ k inside other. same.net_deltas k other)

price_risks_settled : (t : Tables) (old new : List ℤ) (g : ℕ) → g < length t.commodities → SameBut t g old new → slice_set (price_risks_of t (positions t.contracts old)) g (unsigned_abs (price_risk2 (scenario_total g (positions t.contracts new)))) ≡ price_risks_of t (positions t.contracts new)
price_risks_settled t old new g low same =
    row-set 0 (λ k. unsigned_abs (price_risk2 (scenario_total k (positions t.contracts old)))) (λ k. unsigned_abs (price_risk2 (scenario_total k (positions t.contracts new)))) (length t.commodities) g low (λ k inside other. ap unsigned_abs (same.price_risks k other))

-- the risk of a commodity that no spread reaches from it
risk_kept : (t : Tables) (old p : WorkedPortfolio) (places : List ℕ) (g k : ℕ) → IsBehind t g old → IsReady t p → p.nets ≡ old.nets → ((n : ℕ) → named n t.credits places ≡ false → slice_index p.credits.credits n ≡ slice_index old.credits.credits n) → k < length t.commodities → k ≢ g → named k t.credits places ≡ false → value_at old.risks k ≡ risk t (positions t.contracts p.nets) k
unfolding risk
risk_kept t old p places g k behind is nets same inside other none =
    let credit_now = sym (credit_by t p.nets p.credits k is.credits) ∙ same k none ∙ credit_by t behind.was old.credits k behind.credits in
    let charge_now = ap (λ (ns : List ℤ). charge_of t (positions t.contracts ns) k) nets ∙ behind.others.charges k other in
    let minimum_now = ap (λ (ns : List ℤ). minimum t (positions t.contracts ns) k) nets ∙ behind.others.minimums k other in
    behind.risks.each k inside ∙ sym (rw (charge_now, credit_now, minimum_now) refl)

-- a choice of which both sides are right
either_right : (b : Bool) (mine other right : ℤ) → mine ≡ right → (b ≡ false → other ≡ right) → (if b then mine else other) ≡ right
either_right true mine other right first second = first
either_right false mine other right first second = second refl

-- the risks once its own and those of the commodities that spreads reach from it are written
portfolio_after : (t : Tables) (old p : WorkedPortfolio) (places : List ℕ) (g : ℕ) → g < length t.commodities → IsBehind t g old → IsReady t p → p.nets ≡ old.nets → ((k : ℕ) → named k t.credits places ≡ false → slice_index p.credits.credits k ≡ slice_index old.credits.credits k) → length p.risks ≡ length old.risks → ((k : ℕ) → k < length old.risks → value_at p.risks k ≡ (if named k t.credits places then worked_risk p k else value_at (slice_set old.risks g (worked_risk p g)) k)) → IsPortfolio t p
portfolio_after t old p places g low behind is nets same long written =
    let one_each = behind.risks.one_each in
    record {
      ready = is;
      risks = record {
        one_each = long ∙ one_each;
        each = λ k inside.
            let right = worked_risk_is t p k is inside in
            written k (omega (arith, one_each)) ∙ either_right (named k t.credits places) (worked_risk p k) (value_at (slice_set old.risks g (worked_risk p g)) k) (risk t (positions t.contracts p.nets) k) right (λ none.
            ⊎_elim
            (λ (here : k ≡ g).
            ap (λ (j : ℕ). value_at (slice_set old.risks g (worked_risk p g)) j) here ∙ get_or-set_same old.risks g (worked_risk p g) (pos 0) (omega (arith, one_each, low)) ∙ ap (worked_risk p) (sym here) ∙ right)
            (λ (other : k ≢ g).
            get_or-set_other old.risks g k (worked_risk p g) (pos 0) other ∙ risk_kept t old p places g k behind is nets same inside other none)
            (cases_eq k g));
      };
    }

-- all but the risks, once the credits are written
pub ready_after : (t : Tables) (old : WorkedPortfolio) (credits : Credited) (g : ℕ) → g < length t.commodities → IsBehind t g old → AreCreditsOf t credits → let portfolio = positions t.contracts old.nets in credits.deltas ≡ slice_set old.credits.deltas g (net_delta t.months portfolio g) → credits.risks ≡ slice_set old.credits.risks g (unsigned_abs (price_risk2 (scenario_total g portfolio))) → IsReady t (with_credits old credits)
ready_after t old credits g low behind of_set deltas risks =
    let portfolio = positions t.contracts old.nets in
    record {
      parts = record { totals = behind.parts.totals; sums = behind.parts.sums; tiers = behind.parts.tiers; deltas = behind.parts.deltas };
      credits = record {
        of_set = of_set;
        net_deltas = deltas ∙ ap (λ (ds : List ℤ). slice_set ds g (net_delta t.months portfolio g)) behind.credits.net_deltas ∙ net_deltas_settled t behind.was old.nets g low behind.others;
        price_risks = risks ∙ ap (λ (rs : List ℕ). slice_set rs g (unsigned_abs (price_risk2 (scenario_total g portfolio)))) behind.credits.price_risks ∙ price_risks_settled t behind.was old.nets g low behind.others;
      };
    }

-- all that is kept once the risks are written
pub portfolio_written : (t : Tables) (old p : WorkedPortfolio) (mended : List ℤ) (places : List ℕ) (g : ℕ) → g < length t.commodities → IsBehind t g old → IsReady t p → p.nets ≡ old.nets → ((k : ℕ) → named k t.credits places ≡ false → slice_index p.credits.credits k ≡ slice_index old.credits.credits k) → mended ≡ slice_set old.risks g (worked_risk p g) → length p.risks ≡ length mended → ((k : ℕ) → k < length mended → value_at p.risks k ≡ (if named k t.credits places then worked_risk p k else value_at mended k)) → IsPortfolio t p
portfolio_written t old p mended places g low behind is nets credits row long written =
    let rows_long : length mended ≡ length old.risks = ap (λ (rs : List ℤ). length rs) row ∙ length-set old.risks g (worked_risk p g) in
    portfolio_after t old p places g low behind is nets credits (long ∙ rows_long) (λ k inside.
    written k (omega (arith, rows_long)) ∙ ap (λ (rs : List ℤ). if named k t.credits places then worked_risk p k else value_at rs k) row)

-- the sum of the risks by what is kept
sum_is : (t : Tables) (p : WorkedPortfolio) → IsPortfolio t p → signed_sum_below (value_at p.risks) (length p.risks) ≡ signed_sum_below (risk t (positions t.contracts p.nets)) (length t.commodities)
sum_is t p is =
    rw is.risks.one_each (signed_sum_below_same (value_at p.risks) (risk t (positions t.contracts p.nets)) (length t.commodities) is.risks.each)

-- the requirement by what is kept
pub requirement_is : (t : Tables) (p : WorkedPortfolio) (sum value : ℤ) → IsPortfolio t p → sum ≡ signed_sum_below (value_at p.risks) (length p.risks) → value ≡ net_option_value (positions t.contracts p.nets) → int_max (pos 0) (sum -ℤ value) ≡ requirement t p.nets
unfolding requirement
requirement_is t p sum value is total options = rw (total, sum_is t p is, options) refl

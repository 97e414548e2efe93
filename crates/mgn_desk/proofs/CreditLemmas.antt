-- The credit of a commodity by what is kept: for the requirement of a portfolio.
use Rattle.std.proofs.Common.{◌≡◌, ◌∙◌, ℕ, ℤ, List, [], ◌∷◌, ap, length, refl, replicate, slice_index}
use Rattle.std.specs.List.{fold}
use Rattle.std.proofs.lemmas.List.{length-replicate}
use Rattle.mgn_params.specs.declared.tables.CreditSpread.{CreditSpread}
use Rattle.mgn_params.specs.Tables.{Tables}
use Rattle.mgn_span.specs.Credits.{credits_of, formed}
use Rattle.mgn_inter.specs.Credited.{AreCreditRows, AreCreditsOf}
use Rattle.mgn_inter.specs.Rows.{Credited}
use Rattle.mgn_inter.proofs.SpreadLemmas.{formed_long}

pub credit_of : (t : Tables) (c : Credited) (k : ℕ) → AreCreditsOf t c → slice_index c.credits k ≡ slice_index (credits_of c.deltas c.risks t.credits) k
credit_of t c k are = ap (λ (row : List ℕ). slice_index row k) are.credits

-- there are as many rows as a set asks for
all_long : (deltas : List ℤ) (risks : List ℕ) (now : List ℤ × List ℕ) (spreads : List CreditSpread) → length (fold (formed deltas risks) now spreads).1 ≡ length now.1
all_long deltas risks now [] = refl
all_long deltas risks now (s ∷ spreads) =
    all_long deltas risks (formed deltas risks now s) spreads ∙ (formed_long deltas risks now s).1

pub credit_rows : (t : Tables) (c : Credited) → AreCreditsOf t c → AreCreditRows t c
credit_rows t c are = record {
  deltas = are.one_each;
  risks = are.numbers.one_each ∙ are.one_each;
  rests = are.one_rest_each ∙ are.one_each;
  credits = ap (λ (row : List ℕ). length row) are.credits ∙ all_long c.deltas c.risks (c.deltas, replicate (length c.deltas) 0) t.credits ∙ length-replicate {A = ℕ} (length c.deltas) 0 ∙ are.one_each;
  kept = are.one_kept_each;
}

-- No leg's rest passes its net delta while intercommodity spreads form: for `form_spread`.
use Rattle.std.proofs.Common.{ℕ, List, get_or, ◌∙◌, arith, ℤ}
use Rattle.mgn_params.specs.declared.tables.Leg.{Leg}
use Rattle.mgn_span.specs.Credits.{rests_after}
use Rattle.mgn_span.specs.Words.{AreNear, AreRests}
use Rattle.mgn_span.proofs.CreditLemmas.{length-rests_after, rests_after_near}

-- no leg's rest is farther from 0 than its net delta
pub near_legs : (deltas rests : List ℤ) (legs : List Leg) → AreRests deltas rests → AreNear deltas rests legs
near_legs deltas rests legs are k d inside = are.near (get_or legs k d).commodity

-- nor is any once the legs' uses are taken off
pub rests_used : (deltas rests : List ℤ) (amount : ℕ) (legs : List Leg) → AreRests deltas rests → AreRests deltas (rests_after rests amount legs)
rests_used deltas rests amount legs are = record {
  one_each = length-rests_after rests amount legs ∙ are.one_each;
  near = λ g. omega (arith, rests_after_near rests amount legs g, are.near g);
}

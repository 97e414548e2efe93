-- All rows after the delta of one month changes, as `TierStages::add` promises, and those of nets of 0.
use Rattle.std.proofs.Common.{◌≡◌, ◌≢◌, ℕ, ◌+◌, ◌<◌, List, length, slice_set, pos, ℤ, ⊎_elim, ap, ◌∙◌, sym, arith, refl, length-set, get_or-set_same, get_or-set_other, eq-eqb, map, ne_eqb, replicate}
use Rattle.std.specs.Prelude.{◌+ℤ◌}
use Rattle.std.proofs.lemmas.Bool.{cases_eq}
use Rattle.std.proofs.lemmas.Int.{ints}
use Rattle.std.proofs.lemmas.List.Elements.{All-replicate, All-set}
use Rattle.std.proofs.lemmas.List.{get_or-replicate, length-replicate}
use Rattle.mgn_params.specs.declared.tables.Month.{Month}
use Rattle.mgn_params.specs.Limits.{IsWithinLimits}
use Rattle.mgn_span.specs.MonthDeltas.{intra_charge_by, spot_charge_by}
use Rattle.mgn_span.specs.Spot.{spot_of}
use Rattle.mgn_span.specs.Stages.{stages_of}
use Rattle.mgn_span.specs.Scan.{value_at}
use Rattle.mgn_params.specs.Tables.{Tables, month_at, no_month}
use Rattle.mgn_tiers.specs.Runs.{Run, Tier}
use Rattle.mgn_tiers.specs.Tiers.{AreTiersOf, HasRoom, Tiers, moved, no_run, no_tier, run_at, run_by, run_of}
use Rattle.mgn_tiers.proofs.PartLemmas.{part-replicate}
use Rattle.mgn_tiers.proofs.StartLemmas.{long_moved, long_there, net_moved, net_none, short_moved, short_there, start_small, starts_kept, starts_moved, starts_none}
use Rattle.mgn_span.proofs.StageSteps.{charges_of_nothing, left_by_nothing, spot_charge_of_nothing}
use Rattle.mgn_span.specs.Sizes.{IsDelta}

-- the run of the month's commodity has room for another delta
pub has_room : (set' : Tables) (t : Tiers) (m : ℕ) (d : ℤ) → IsWithinLimits set' → AreTiersOf set' t → m < length set'.months → IsDelta d → HasRoom (run_at t.runs (month_at set'.months m).commodity) (month_at set'.months m).tier (value_at t.deltas m) d
has_room set' t m d limits are h small =
    let month : Month = month_at set'.months m in
    let limit = limits.months m no_month h in
    let each = are.one_delta_each in
    let deltas' = slice_set t.deltas m d in
    let all = All-set IsDelta t.deltas m d small are.small in
    let long' : length deltas' ≡ length set'.months = length-set t.deltas m d ∙ each in
    rw (are.runs_are month.commodity limit.commodity) (record {
      tier_low = limit.tier;
      long = long_there set'.months t.deltas m h limit.tier;
      short = short_there set'.months t.deltas m h limit.tier;
      small_long = rw (long_moved set'.months t.deltas m d each h limit.tier) (start_small set'.months deltas' month.commodity month.tier long' (limits.few_months_in_each month.commodity) all);
      small_short = rw (short_moved set'.months t.deltas m d each h limit.tier) (start_small set'.months deltas' month.commodity (8 + month.tier) long' (limits.few_months_in_each month.commodity) all);
    })

-- the rows after a change of one month's delta, where the run and the net delta of its commodity are written
pub tiers_moved : (set' : Tables) (t : Tiers) (m : ℕ) (change : ℤ) (net : ℤ) (run : Run) → IsWithinLimits set' → AreTiersOf set' t → m < length set'.months → IsDelta (value_at t.deltas m +ℤ change) → let month : Month = month_at set'.months m in let was : Run = run_at t.runs month.commodity in net ≡ value_at t.net_deltas month.commodity +ℤ change → run ≡ moved set' month was (value_at t.deltas m) (value_at t.deltas m +ℤ change) → AreTiersOf set' (record { deltas = slice_set t.deltas m (value_at t.deltas m +ℤ change); net_deltas = slice_set t.net_deltas month.commodity net; runs = slice_set t.runs month.commodity run })
tiers_moved set' t m change net run limits are h small net_is run_is =
    let month : Month = month_at set'.months m in
    let own = month.commodity in
    let limit = limits.months m no_month h in
    let each = are.one_delta_each in
    let d = value_at t.deltas m +ℤ change in
    let was = are.runs_are own limit.commodity in
    record {
      one_delta_each = length-set t.deltas m d ∙ each;
      small = All-set IsDelta t.deltas m d small are.small;
      one_net_each = length-set t.net_deltas own net ∙ are.one_net_each;
      nets = λ g low.
          ⊎_elim
          (λ (here : own ≡ g).
          let same = rw (eq-eqb own g here) at (net_moved set'.months t.deltas m change g each h) in
          let written : value_at (slice_set t.net_deltas own net) g ≡ net = ap (λ (k : ℕ). value_at (slice_set t.net_deltas own net) k) (sym here) ∙ get_or-set_same t.net_deltas own net (pos 0) (omega (arith, are.one_net_each, limit.commodity)) in
          let before = ap (λ (k : ℕ). value_at t.net_deltas k) here in
          omega (arith, ints, written, net_is, before, same, are.nets g low))
          (λ (other : own ≢ g).
          let same = rw (ne_eqb own g other) at (net_moved set'.months t.deltas m change g each h) in
          let kept = get_or-set_other t.net_deltas own g net (pos 0) (λ e. other (sym e)) in
          omega (arith, ints, kept, same, are.nets g low))
          (cases_eq own g);
      one_run_each = length-set t.runs own run ∙ are.one_run_each;
      runs_are = λ g low.
          ⊎_elim
          (λ (here : own ≡ g).
          rw (← here) (get_or-set_same t.runs own run no_run (omega (arith, are.one_run_each, limit.commodity)) ∙ run_is ∙ rw was (ap (run_of set' own) (starts_moved set'.months t.deltas m d each h limit.tier))))
          (λ (other : own ≢ g).
          get_or-set_other t.runs own g run no_run (λ e. other (sym e)) ∙ are.runs_are g low ∙ ap (run_of set' g) (starts_kept set'.months t.deltas m d g each h other))
          (cases_eq own g);
    }

-- the rows where no month has a delta
run_none : (set' : Tables) (g : ℕ) → no_run ≡ run_by set' (replicate (length set'.months) (pos 0)) g
run_none set' g =
    let stages = stages_of set'.spreads g in
    let spot = spot_of set'.spots g in
    let is : run_of set' g (replicate 16 0) ≡ no_run = rw (left_by_nothing 16 stages, charges_of_nothing 16 stages, spot_charge_of_nothing 16 spot) refl in
    sym is ∙ ap (run_of set' g) (starts_none set'.months g)

pub tiers_none : (set' : Tables) (t : Tiers) → t.deltas ≡ replicate (length set'.months) (pos 0) → t.net_deltas ≡ replicate (length set'.commodities) (pos 0) → t.runs ≡ replicate (length set'.commodities) no_run → AreTiersOf set' t
tiers_none set' t deltas nets runs = record {
  one_delta_each = ap (λ (ds : List ℤ). length ds) deltas ∙ length-replicate {A = ℤ} (length set'.months) (pos 0);
  small = rw deltas (All-replicate IsDelta (length set'.months) (pos 0) (omega arith));
  one_net_each = ap (λ (ds : List ℤ). length ds) nets ∙ length-replicate {A = ℤ} (length set'.commodities) (pos 0);
  nets = λ g low. rw (nets, deltas, net_none set'.months g) (get_or-replicate {A = ℤ} (length set'.commodities) g (pos 0) (pos 0) low);
  one_run_each = ap (λ (rs : List Run). length rs) runs ∙ length-replicate {A = Run} (length set'.commodities) no_run;
  runs_are = λ g low. rw (runs, deltas) (get_or-replicate {A = Run} (length set'.commodities) g no_run no_run low ∙ run_none set' g);
}

pub tiers_none_of : (set' : Tables) (deltas : List ℤ) (rows : List Tier) → deltas ≡ replicate (length set'.months) (pos 0) → rows ≡ replicate (length set'.commodities) no_tier → AreTiersOf set' (record { deltas = deltas; net_deltas = map (λ (r : Tier). r.net_delta) rows; runs = map (λ (r : Tier). r.run) rows })
tiers_none_of set' deltas rows none flat =
    let nets = ap (λ (xs : List Tier). map (λ (r : Tier). r.net_delta) xs) flat ∙ part-replicate (λ (r : Tier). r.net_delta) (length set'.commodities) no_tier in
    let runs = ap (λ (xs : List Tier). map (λ (r : Tier). r.run) xs) flat ∙ part-replicate (λ (r : Tier). r.run) (length set'.commodities) no_tier in
    tiers_none set' (record { deltas = deltas; net_deltas = map (λ (r : Tier). r.net_delta) rows; runs = map (λ (r : Tier). r.run) rows }) none nets runs

-- what the run of a commodity charges
pub charge_of_run : (set' : Tables) (t : Tiers) (g : ℕ) → AreTiersOf set' t → g < length set'.commodities → (run_at t.runs g).charged ≡ intra_charge_by set' t.deltas g
unfolding intra_charge_by
charge_of_run set' t g are low = ap (λ (r : Run). r.charged) (are.runs_are g low)

pub spot_of_run : (set' : Tables) (t : Tiers) (g : ℕ) → AreTiersOf set' t → g < length set'.commodities → (run_at t.runs g).spot_charged ≡ spot_charge_by set' t.deltas g
unfolding spot_charge_by
spot_of_run set' t g are low = ap (λ (r : Run). r.spot_charged) (are.runs_are g low)

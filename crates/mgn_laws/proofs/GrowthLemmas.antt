-- A record that passes adds one row at the end of one table: for the law of files of that name.
use Rattle.std.proofs.Common.{◌≡◌, ℕ, Bool, true, false, List, [], ◌∷◌, ◌++◌, Some, Result, Ok, Err}
use Rattle.std.specs.Prelude.{◌==◌, codes, if◌then◌else◌}
use Rattle.std.specs.Str.{bytes_eq}
use Rattle.mgn_laws.specs.Growth.{AddsRow, class, commodity, contract, credit_spread, month, spot, spread}
use Rattle.mgn_setfile.specs.declared.fault.Cause.TheVariants.{Fields as WrongFields, Header}
use Rattle.mgn_setfile.specs.declared.place.Field.TheVariants as field
use Rattle.mgn_setfile.specs.Fields.{◌>>=◌, Fields, Flaw, at, whole}
use Rattle.mgn_setfile.specs.File.{SoFar, drafted, judged, later_of, with_class, with_commodity, with_contract, with_credit_spread, with_month, with_other, with_record, with_spot, with_spot_of, with_spread}
use Rattle.mgn_setfile.specs.Records.{class_of, commodity_of, contract_of, credit_of, month_of, spot_charge_of_record, spread_of}
use Rattle.mgn_params.specs.Tables.{Tables}

-- what a row that was read gives
row_of : {A B : Type 0} (r : Result A Flaw) (f : A → B) (y : B) → (r >>= λ x. Ok (f x)) ≡ Ok y → (x : A) × (y ≡ f x)
row_of (Ok x) f y e = (x, cc)
row_of (Err c) f y e = cc

-- whichever way it came
chosen : {B G : Type 0} (b : Bool) (r s : Result B Flaw) (y : B) → (r ≡ Ok y → G) → (s ≡ Ok y → G) → (if b then r else s) ≡ Ok y → G
chosen true r s y p q e = p e
chosen false r s y p q e = q e

no_way : {B : Type 0} (c : Flaw) (y : B) {G : Type 0} → Err c ≡ Ok y → G
no_way c y e = cc

spot_row : (version : ℕ) (t after : Tables) (fields : Fields) → with_spot_of version t fields ≡ Ok after → AddsRow t after
unfolding with_spot_of with_spot
spot_row version t after fields =
    chosen (version == 2) (with_spot t fields) (Err (at field.Kind WrongFields)) after
    (λ p. let row = row_of (spot_charge_of_record t fields) (λ x. record t { spots = t.spots ++ x ∷ [] }) after p in spot row.0 row.1)
    (no_way (at field.Kind WrongFields) after)

other_row : (version : ℕ) (t after : Tables) (kind : List ℕ) (fields : Fields) → with_other version t kind fields ≡ Ok after → AddsRow t after
unfolding with_other with_credit_spread with_class
other_row version t after kind fields =
    chosen (bytes_eq kind (codes "I")) (with_credit_spread t fields) _ after
    (λ p. let row = row_of (credit_of t fields) (λ x. record t { credits = t.credits ++ x ∷ [] }) after p in credit_spread row.0 row.1)
    (chosen (bytes_eq kind (codes "V")) (with_class t fields) _ after
    (λ p. let row = row_of (class_of t fields) (λ x. record t { classes = t.classes ++ x ∷ [] }) after p in class row.0 row.1)
    (chosen (bytes_eq kind (codes "T")) (with_spot_of version t fields) _ after
    (spot_row version t after fields)
    (chosen (bytes_eq kind (codes "H")) (Err (whole Header)) (Err (at field.Kind WrongFields)) after (no_way (whole Header) after) (no_way (at field.Kind WrongFields) after))))

record_row : (version : ℕ) (t after : Tables) (kind : List ℕ) (fields : Fields) → with_record version t kind fields ≡ Ok after → AddsRow t after
unfolding with_record with_commodity with_month with_contract with_spread
record_row version t after kind fields =
    chosen (bytes_eq kind (codes "G")) (with_commodity t fields) _ after
    (λ p. let row = row_of (commodity_of t fields) (λ x. record t { commodities = t.commodities ++ x ∷ [] }) after p in commodity row.0 row.1)
    (chosen (bytes_eq kind (codes "M")) (with_month t fields) _ after
    (λ p. let row = row_of (month_of t fields) (λ x. record t { months = t.months ++ x ∷ [] }) after p in month row.0 row.1)
    (chosen (bytes_eq kind (codes "K")) (with_contract t fields) _ after
    (λ p. let row = row_of (contract_of t fields) (λ x. record t { contracts = t.contracts ++ x ∷ [] }) after p in contract row.0 row.1)
    (chosen (bytes_eq kind (codes "S")) (with_spread t fields) (with_other version t kind fields) after
    (λ p. let row = row_of (spread_of t fields) (λ x. record t { spreads = t.spreads ++ x ∷ [] }) after p in spread row.0 row.1)
    (other_row version t after kind fields))))

later_row : (version : ℕ) (t after : Tables) (fields : Fields) → later_of version t fields ≡ Ok after → AddsRow t after
unfolding later_of
later_row version t after [] e = no_way (whole WrongFields) after e
later_row version t after (kind ∷ fields) e = record_row version t after kind fields e

drafted_set : (version : ℕ) (r : Result Tables Flaw) (after : SoFar) → drafted version r ≡ Ok after → r ≡ Ok after.set
drafted_set version (Ok t) after e = cc
drafted_set version (Err c) after e = cc

pub adds_row : (before after : SoFar) (fields : Fields) → judged (Some before) (Some fields) ≡ Ok after → AddsRow before.set after.set
unfolding judged
adds_row before after fields e =
    later_row before.version before.set after.set fields (drafted_set before.version (later_of before.version before.set fields) after e)

-- The units of a class where another amount is written: for the check of a write.
use Rattle.std.proofs.Common.{◌≡◌, ℕ, List, [], ◌∷◌, refl, sym, ap, subst, true, false, Bool, Some, cond}
use Rattle.std.specs.Map.{lookup}
use Rattle.std.specs.Option.{unwrap_or}
use Rattle.std.specs.Str.{bytes_eq}
use Rattle.std.proofs.lemmas.Slice.Eq.{bytes_eq-Decides}
use Rattle.indexmap.specs.IndexMap.{insert_entry}
use Rattle.mgn_coll.specs.Posted.{Posted, units_of, with_amount, is_cash}

same : (xs : List ℕ) → bytes_eq xs xs ≡ true
same xs = (bytes_eq-Decides xs xs).1 refl

equal : (xs ys : List ℕ) → bytes_eq xs ys ≡ true → xs ≡ ys
equal xs ys e = (bytes_eq-Decides xs ys).0 e

-- of the class itself
own : (units : List (List ℕ × ℕ)) (name : List ℕ) (amount : ℕ) → lookup (bytes_eq name) (insert_entry bytes_eq units name amount) ≡ Some amount
own [] name amount = rw (same name) refl
own (e ∷ units) name amount = by (own units name amount) (bytes_eq name e.0) refl
  where
    by : lookup (bytes_eq name) (insert_entry bytes_eq units name amount) ≡ Some amount → (b : Bool) → bytes_eq name e.0 ≡ b → lookup (bytes_eq name) (insert_entry bytes_eq (e ∷ units) name amount) ≡ Some amount
    by rest true is = rw is (rw is refl)
    by rest false is = rw is (rw is rest)

-- of another class
other : (units : List (List ℕ × ℕ)) (q name : List ℕ) (amount : ℕ) → bytes_eq q name ≡ false → lookup (bytes_eq q) (insert_entry bytes_eq units name amount) ≡ lookup (bytes_eq q) units
other [] q name amount apart = rw apart refl
other (e ∷ units) q name amount apart = by (other units q name amount apart) (bytes_eq name e.0) refl
  where
    by : lookup (bytes_eq q) (insert_entry bytes_eq units name amount) ≡ lookup (bytes_eq q) units → (b : Bool) → bytes_eq name e.0 ≡ b → lookup (bytes_eq q) (insert_entry bytes_eq (e ∷ units) name amount) ≡ lookup (bytes_eq q) (e ∷ units)
    by rest true is =
        let elsewhere : bytes_eq q e.0 ≡ false = subst (λ (n : List ℕ). bytes_eq q n ≡ false) (equal name e.0 is) apart in
        rw is (rw elsewhere refl)
    by rest false is = rw is (ap (λ o. cond (bytes_eq q e.0) (Some e.1) o) rest)

pub units_with_own : (p : Posted) (name class : List ℕ) (amount : ℕ) → is_cash class ≡ false → bytes_eq name class ≡ true → units_of name (with_amount p class amount).units ≡ amount
units_with_own p name class amount is same_name = rw is (ap (λ o. unwrap_or o 0) (subst (λ (q : List ℕ). lookup (bytes_eq q) (insert_entry bytes_eq p.units class amount) ≡ Some amount) (sym (equal name class same_name)) (own p.units class amount)))

pub units_with_other : (p : Posted) (name class : List ℕ) (amount : ℕ) → is_cash class ≡ false → bytes_eq name class ≡ false → units_of name (with_amount p class amount).units ≡ units_of name p.units
units_with_other p name class amount is apart = rw is (ap (λ o. unwrap_or o 0) (other p.units name class amount apart))

pub units_with_cash : (p : Posted) (name class : List ℕ) (amount : ℕ) → is_cash class ≡ true → units_of name (with_amount p class amount).units ≡ units_of name p.units
units_with_cash p name class amount is = rw is refl

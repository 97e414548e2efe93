-- Accounts that count for what they did, in the units that a step leaves alone: for what others then see.
use Rattle.std.proofs.Common.{◌≡◌, ◌≢◌, ◌<◌, ◌+◌, ◌∙◌, ⊎_elim, ℕ, zero, suc, Bool, true, false, cond, eqb, Option, Some, None, List, [], ◌∷◌, ◌++◌, length, length-append, map, get_or, set, sym, ap, subst, refl, arith, ne_eqb, position}
use Rattle.std.specs.Prelude.{◌==◌, if◌then◌else◌, nat_lt, not, ℤ, pos, ◌+ℤ◌, Ok}
use Rattle.std.specs.List.{position_or_len}
use Rattle.std.specs.Str.{bytes_eq}
use Rattle.std.proofs.lemmas.Bool.{cases_eq}
use Rattle.std.proofs.lemmas.Bool.Decides.{nat_tests}
use Rattle.std.proofs.lemmas.Int.{ints}
use Rattle.std.proofs.lemmas.List.Folds.{prefix_len-append}
use Rattle.mgn_num.proofs.SignedLemmas.{signed_sum_by-cons}
use Rattle.mgn_params.specs.declared.tables.Contract.{Contract}
use Rattle.mgn_params.specs.Tables.{Tables}
use Rattle.mgn_lots.specs.Lots.{gross, net}
use Rattle.mgn_holds.specs.Holds.{held_net}
use Rattle.mgn_machine.specs.declared.reply.Refusal.TheVariants.{NoAccount}
use Rattle.mgn_machine.specs.Portfolios.{Portfolio, OnlyLots, WithBuys, WithSales, WithAll, account_net, account_size, held_size, in_unit, over_sides, unit_sum}
use Rattle.mgn_machine.specs.Refusals.{account_names, found, place_of}
use Rattle.mgn_machine.specs.State.{AccountState, State, account_at, no_account}
use Rattle.mgn_unit.specs.Rows.{portfolio_of}
use Rattle.mgn_world.specs.World.{unit_nets}
use Rattle.mgn_register.proofs.Found.{place-inside}
use Rattle.mgn_register.proofs.Kept.{found-Some}

-- an account is what it was: its name, origin and unit, and, where its unit is one of those left alone, its lots and
-- holds
pub record Twin (M : ℕ → Type 0) (a b : AccountState) : Type 0 where
  pub name : b.name ≡ a.name
  pub origin : b.origin ≡ a.origin
  pub unit : b.unit ≡ a.unit
  pub lots : M a.unit → b.lots ≡ a.lots
  pub holds : M a.unit → b.holds ≡ a.holds

pub record IsBare (a : AccountState) : Type 0 where
  pub lots : a.lots ≡ []
  pub holds : a.holds ≡ []

abbrev pub AreBare : List AccountState → Type 0
AreBare [] = Unit {0}
AreBare (a ∷ xs) = IsBare a × AreBare xs

-- each account is what it was, and those that were opened have nothing
abbrev pub Keeps : (ℕ → Type 0) → List AccountState → List AccountState → Type 0
Keeps M [] ys = AreBare ys
Keeps M (a ∷ xs) [] = ⊥
Keeps M (a ∷ xs) (b ∷ ys) = Twin M a b × Keeps M xs ys

pub twin-same : (M : ℕ → Type 0) (a : AccountState) → Twin M a a
twin-same M a = record { name = refl; origin = refl; unit = refl; lots = λ m. refl; holds = λ m. refl }

pub keeps-same : (M : ℕ → Type 0) (xs : List AccountState) → Keeps M xs xs
keeps-same M [] = tt
keeps-same M (a ∷ xs) = (twin-same M a, keeps-same M xs)

pub keeps-set : (M : ℕ → Type 0) (xs : List AccountState) (k : ℕ) (b : AccountState) → Twin M (get_or xs k no_account) b → Keeps M xs (set xs k b)
keeps-set M [] k b twin = tt
keeps-set M (a ∷ xs) zero b twin = (twin, keeps-same M xs)
keeps-set M (a ∷ xs) (suc k) b twin = (twin-same M a, keeps-set M xs k b twin)

pub keeps-push : (M : ℕ → Type 0) (xs : List AccountState) (b : AccountState) → IsBare b → Keeps M xs (xs ++ b ∷ [])
keeps-push M [] b bare = (bare, tt)
keeps-push M (a ∷ xs) b bare = (twin-same M a, keeps-push M xs b bare)

pub twin-less : (M N : ℕ → Type 0) (a b : AccountState) → ((u : ℕ) → N u → M u) → Twin M a b → Twin N a b
twin-less M N a b less twin = record {
  name = twin.name;
  origin = twin.origin;
  unit = twin.unit;
  lots = λ n. twin.lots (less a.unit n);
  holds = λ n. twin.holds (less a.unit n);
}

pub twin-both : (M : ℕ → Type 0) (a b c : AccountState) → Twin M a b → Twin M b c → Twin M a c
twin-both M a b c first second = record {
  name = second.name ∙ first.name;
  origin = second.origin ∙ first.origin;
  unit = second.unit ∙ first.unit;
  lots = λ m. second.lots (subst M (sym first.unit) m) ∙ first.lots m;
  holds = λ m. second.holds (subst M (sym first.unit) m) ∙ first.holds m;
}

-- of fewer units
pub keeps-less : (M N : ℕ → Type 0) (xs ys : List AccountState) → ((u : ℕ) → N u → M u) → Keeps M xs ys → Keeps N xs ys
keeps-less M N [] ys less keeps = keeps
keeps-less M N (a ∷ xs) [] less keeps = keeps
keeps-less M N (a ∷ xs) (b ∷ ys) less keeps = (twin-less M N a b less keeps.0, keeps-less M N xs ys less keeps.1)

pub twin-at : (M : ℕ → Type 0) (xs ys : List AccountState) (k : ℕ) → Keeps M xs ys → k < length xs → Twin M (get_or xs k no_account) (get_or ys k no_account)
twin-at M [] ys k keeps inside = absurd (omega arith)
twin-at M (a ∷ xs) [] k keeps inside = absurd keeps
twin-at M (a ∷ xs) (b ∷ ys) zero keeps inside = keeps.0
twin-at M (a ∷ xs) (b ∷ ys) (suc k) keeps inside = twin-at M xs ys k keeps.1 (omega (arith, inside))

-- What accounts count for.

-- a count of lots and holds alone
pub record Counts (f : AccountState → ℤ) : Type 0 where
  pub same : (a b : AccountState) → b.lots ≡ a.lots → b.holds ≡ a.holds → f b ≡ f a
  pub none : f no_account ≡ pos 0

none-net : (p : Portfolio) (c : List ℕ) → account_net p c no_account ≡ pos 0
none-net OnlyLots c = refl
none-net WithBuys c = refl
none-net WithSales c = refl
none-net WithAll c = refl

pub net-counts : (p : Portfolio) (c : List ℕ) → Counts (account_net p c)
net-counts p c = record {
  same = λ a b lots holds. λ i. net c (lots i) +ℤ over_sides p (λ side. held_net side c (holds i));
  none = none-net p c;
}

pub size-counts : (c : List ℕ) → Counts (account_size c)
size-counts c = record {
  same = λ a b lots holds. λ i. pos (gross c (lots i) + held_size c (holds i));
  none = refl;
}

other : (u : ℕ) (f : AccountState → ℤ) (a : AccountState) → a.unit ≢ u → in_unit u f a ≡ pos 0
other u f a apart = ap (λ (t : Bool). if t then f a else pos 0) (ne_eqb a.unit u apart)

twin-counts : (M : ℕ → Type 0) (u : ℕ) (f : AccountState → ℤ) (a b : AccountState) → Counts f → M u → Twin M a b → in_unit u f b ≡ in_unit u f a
twin-counts M u f a b counts alone twin = ⊎_elim
    (λ (e : a.unit ≡ u). let m : M a.unit = subst M (sym e) alone in λ i. if twin.unit i == u then counts.same a b (twin.lots m) (twin.holds m) i else pos 0)
    (λ (n : a.unit ≢ u). other u f b (λ (e : b.unit ≡ u). n (sym twin.unit ∙ e)) ∙ sym (other u f a n))
    (cases_eq a.unit u)

bare-counts : (u : ℕ) (f : AccountState → ℤ) (b : AccountState) → Counts f → IsBare b → in_unit u f b ≡ pos 0
bare-counts u f b counts bare = ap (λ (z : ℤ). if b.unit == u then z else pos 0) (counts.same no_account b bare.lots bare.holds ∙ counts.none) ∙ flat (b.unit == u)
  where
    flat : (t : Bool) → (if t then pos 0 else pos 0) ≡ pos 0
    flat true = refl
    flat false = refl

sum-bare : (u : ℕ) (f : AccountState → ℤ) (ys : List AccountState) → Counts f → AreBare ys → unit_sum u f ys ≡ pos 0
sum-bare u f [] counts bare = refl
sum-bare u f (b ∷ ys) counts bare = omega (arith, ints, signed_sum_by-cons (in_unit u f) b ys, bare-counts u f b counts bare.0, sum-bare u f ys counts bare.1)

pub sum-kept : (M : ℕ → Type 0) (u : ℕ) (f : AccountState → ℤ) (xs ys : List AccountState) → Counts f → M u → Keeps M xs ys → unit_sum u f ys ≡ unit_sum u f xs
sum-kept M u f [] ys counts alone keeps = sum-bare u f ys counts keeps
sum-kept M u f (a ∷ xs) [] counts alone keeps = absurd keeps
sum-kept M u f (a ∷ xs) (b ∷ ys) counts alone keeps =
    omega (arith, ints, signed_sum_by-cons (in_unit u f) b ys, signed_sum_by-cons (in_unit u f) a xs, twin-counts M u f a b counts alone keeps.0, sum-kept M u f xs ys counts alone keeps.1)

-- nets are sums
pub nets-by_sums : (T : Tables) (u : ℕ) (xs ys : List AccountState) → ((p : Portfolio) (c : List ℕ) → unit_sum u (account_net p c) ys ≡ unit_sum u (account_net p c) xs) → unit_nets T ys u ≡ unit_nets T xs u
unfolding portfolio_of
nets-by_sums T u xs ys same = λ i. record {
  lots = map (λ (c : Contract). same OnlyLots c.name i) T.contracts;
  buys = map (λ (c : Contract). same WithBuys c.name i) T.contracts;
  sales = map (λ (c : Contract). same WithSales c.name i) T.contracts;
  all = map (λ (c : Contract). same WithAll c.name i) T.contracts;
}

-- under any set
pub nets-kept : (M : ℕ → Type 0) (T : Tables) (u : ℕ) (xs ys : List AccountState) → M u → Keeps M xs ys → unit_nets T ys u ≡ unit_nets T xs u
nets-kept M T u xs ys alone keeps = nets-by_sums T u xs ys (λ p c. sum-kept M u (account_net p c) xs ys (net-counts p c) alone keeps)

-- Where accounts stand.

position-more : {X : Type 0} (p : X → Bool) (xs ys : List X) (k : ℕ) → position p xs ≡ Some k → position p (xs ++ ys) ≡ Some k
position-more {X} p xs ys k here = by (nat_lt n (length xs)) refl
  where
    n : ℕ
    n = position_or_len p xs

    by : (b : Bool) → nat_lt n (length xs) ≡ b → position p (xs ++ ys) ≡ Some k
    by true e =
        let less : n < length xs = grind (arith, nat_tests) in
        let apart : eqb n (length xs) ≡ false = ne_eqb n (length xs) (λ same. absurd (omega (arith, less, same))) in
        let same : position_or_len p (xs ++ ys) ≡ n = prefix_len-append (λ x. not (p x)) xs ys ∙ ap (λ (b : Bool). cond b (length xs + position_or_len p ys) n) apart in
        let more : n < length (xs ++ ys) = omega (arith, length-append xs ys, less) in
        let inside : nat_lt n (length (xs ++ ys)) ≡ true = grind (arith, nat_tests) in
        let is : Some n ≡ Some k = ap (λ (b : Bool). cond b (Some n) None) (sym e) ∙ here in
        ap (λ (m : ℕ). cond (nat_lt m (length (xs ++ ys))) (Some m) None) same ∙ ap (λ (b : Bool). cond b (Some n) None) inside ∙ is
    by false e =
        let is : None ≡ Some k = ap (λ (b : Bool). cond b (Some n) None) (sym e) ∙ here in
        absurd (cc)

names-more : (M : ℕ → Type 0) (xs ys : List AccountState) → Keeps M xs ys → (more : List (List ℕ)) × (account_names ys ≡ account_names xs ++ more)
names-more M [] ys keeps = (account_names ys, refl)
names-more M (a ∷ xs) [] keeps = absurd keeps
names-more M (a ∷ xs) (b ∷ ys) keeps = let rest = names-more M xs ys keeps.1 in (rest.0, λ i. keeps.0.name i ∷ rest.1 i)

pub place-kept : (M : ℕ → Type 0) (s t : State) (name : List ℕ) (k : ℕ) → Keeps M s.accounts t.accounts → place_of s name ≡ Ok k → place_of t name ≡ Ok k
unfolding place_of
place-kept M s t name k keeps here =
    let at = found-Some (position (bytes_eq name) (account_names s.accounts)) NoAccount k here in
    let more = names-more M s.accounts t.accounts keeps in
    ap (λ (names : List (List ℕ)). found (position (bytes_eq name) names) NoAccount) more.1 ∙ ap (λ (o : Option ℕ). found o NoAccount) (position-more (bytes_eq name) (account_names s.accounts) more.0 k at)

pub account-kept : (M : ℕ → Type 0) (s t : State) (name : List ℕ) (k : ℕ) → Keeps M s.accounts t.accounts → place_of s name ≡ Ok k → Twin M (account_at s.accounts k) (account_at t.accounts k)
account-kept M s t name k keeps here = twin-at M s.accounts t.accounts k keeps (place-inside s name k here)

-- The rows from which the spreads that a change reaches are formed again, one after the other.
use Rattle.std.specs.Prelude.{ℕ, ◌≡◌, ◌+◌, ◌<◌, ◌≤◌, ◌==◌, ◌||◌, not, if◌then◌else◌, Bool, false, true, ℤ, pos, List, [], ◌∷◌, ◌++◌, ◌⊎◌, length, replicate, take, slice_index, slice_index_or}
use Rattle.std.specs.Int.{bit_at}
use Rattle.std.specs.List.{fold, list_any, sum_by, zip}
use Rattle.std.specs.Ordering.{int_eq}
use Rattle.mgn_params.specs.declared.tables.CreditSpread.{CreditSpread}
use Rattle.mgn_params.specs.declared.tables.Leg.{Leg}
pub use Rattle.mgn_params.specs.Naming.{names}
use Rattle.mgn_span.specs.Credits.{formed}
use Rattle.mgn_span.specs.Scan.{value_at}
use Rattle.mgn_params.specs.Tables.{credit_spread_at, legs_of}
use Rattle.mgn_inter.specs.declared.spread_state.SpreadState.{SpreadState}
use Rattle.mgn_span.specs.Words.{leg_at}

-- whether one of the spreads at some places names a commodity
abbrev pub named : ℕ → List CreditSpread → List ℕ → Bool
named k spreads places = list_any (λ i. names k (legs_of (credit_spread_at spreads i))) places

-- whether a rest has moved
abbrev pub moved_at : List Bool → ℕ → Bool
moved_at moved c = slice_index_or moved c false

-- whether a leg is of a commodity, or of one whose rest has moved
abbrev pub reached : List Bool → ℕ → List Leg → Bool
reached moved g legs = list_any (λ leg. (leg.commodity == g) || moved_at moved leg.commodity) legs

-- a row of four has the rests of the legs' commodities at a spread's turn: one's own if it has moved, else the one that was
-- kept
abbrev pub AreBrought : List Bool → List ℤ → List Leg → List ℤ → List ℤ → Type 0
AreBrought moved rests legs kept row =
    (j : ℕ) → j < length legs → let c = (leg_at legs j).commodity in value_at row j ≡ (if moved_at moved c then value_at rests c else value_at kept j)

-- a leg's commodity is marked where its rest is not the one that was, and other marks stay
pub record AreMarked (moved : List Bool) (legs : List Leg) (old new : List ℤ) (marks : List Bool) : Type 0 where
  pub long : length marks ≡ length moved
  pub out : (k : ℕ) → names k legs ≡ false → moved_at marks k ≡ moved_at moved k
  pub are : (j : ℕ) → j < length legs → moved_at marks (leg_at legs j).commodity ≡ not (int_eq (value_at new j) (value_at old j))

-- a leg's commodity that is marked has the rest at the leg's place, and one that no leg names has the rest that it had
pub record AreWritten (moved : List Bool) (old : List ℤ) (legs : List Leg) (row new : List ℤ) : Type 0 where
  pub out : (k : ℕ) → names k legs ≡ false → value_at new k ≡ value_at old k
  pub are : (j : ℕ) → j < length legs → let c = (leg_at legs j).commodity in moved_at moved c ≡ true → value_at new c ≡ value_at row j

-- what the credits at the legs' places come to for a commodity
abbrev pub leg_share : ℕ → Leg × ℕ → ℕ
leg_share g p = if p.0.commodity == g then p.1 else 0

abbrev pub share_of : ℕ → List Leg → List ℕ → ℕ
share_of g legs credits = sum_by (leg_share g) (zip legs credits)

-- a row of four that begins with the rests of the legs' commodities
pub record AreRestsOf (legs : List Leg) (rests row : List ℤ) : Type 0 where
  pub long : length row ≡ 4
  pub are : (j : ℕ) → j < length legs → value_at row j ≡ value_at rests (leg_at legs j).commodity

-- the rests and credits after spreads, in file order
abbrev pub state_of : List ℤ → List ℕ → List CreditSpread → List ℤ × List ℕ
state_of deltas risks spreads = fold (formed deltas risks) (deltas, replicate (length deltas) 0) spreads

-- the rests at the turn of the spread at a place
abbrev pub rests_at : List ℤ → List ℕ → List CreditSpread → ℕ → List ℤ
rests_at deltas risks spreads i = (state_of deltas risks (take i spreads)).0

abbrev pub nothing_kept : SpreadState
nothing_kept = record { rests = replicate 4 (pos 0); after = replicate 4 (pos 0); credits = replicate 4 0 }

abbrev pub kept_at : List SpreadState → ℕ → SpreadState
kept_at kept i = slice_index_or kept i nothing_kept

-- what is kept beside a spread, for the rests at its turn: its legs' rests before it and after it, and their credits
pub record IsKept (deltas : List ℤ) (risks : List ℕ) (rests : List ℤ) (s : CreditSpread) (k : SpreadState) : Type 0 where
  pub rests_long : length k.rests ≡ 4
  pub after_long : length k.after ≡ 4
  pub credits_long : length k.credits ≡ 4
  pub rests_are : (j : ℕ) → j < length (legs_of s) → value_at k.rests j ≡ value_at rests (leg_at (legs_of s) j).commodity
  pub after_are : (x : List ℕ) (j : ℕ) → j < length (legs_of s) → value_at k.after j ≡ value_at (formed deltas risks (rests, x) s).0 (leg_at (legs_of s) j).commodity
  pub credits_are : (x : List ℕ) (g : ℕ) → length x ≡ length deltas → slice_index (formed deltas risks (rests, x) s).1 g ≡ slice_index x g + share_of g (legs_of s) k.credits

-- what the first spreads credit to a commodity by what is kept
abbrev pub share_at : List CreditSpread → List SpreadState → ℕ → ℕ → ℕ
share_at spreads kept g i = share_of g (legs_of (credit_spread_at spreads i)) (kept_at kept i).credits

-- the net deltas and doubled price risks, and what is kept by them
pub record Credited : Type 0 where
  pub deltas : List ℤ
  pub risks : List ℕ
  pub rests : List ℤ
  pub credits : List ℕ
  pub kept : List SpreadState

-- no spread but those at some places, by their bits, names the commodity
abbrev pub Misses : List CreditSpread → ℕ → ℕ → Type 0
Misses spreads places g = (i : ℕ) → i < length spreads → bit_at places i ≡ 0 → names g (legs_of (credit_spread_at spreads i)) ≡ false

-- no spread from a place on but those that wait, by their bits, is of a commodity, or of one whose rest has moved
abbrev pub AreWaiting : List CreditSpread → ℕ → List Bool → ℕ → ℕ → Type 0
AreWaiting spreads g moved i waiting = (j : ℕ) → i ≤ j → j < length spreads → bit_at waiting j ≡ 0 → reached moved g (legs_of (credit_spread_at spreads j)) ≡ false

-- the net deltas and the price risks are as they were
abbrev pub KeepsNumbers : Credited → Credited → Type 0
KeepsNumbers old new = (new.deltas ≡ old.deltas) × (new.risks ≡ old.risks)

-- some places, or the same with one more
abbrev pub IsNextOf : List ℕ → ℕ → List ℕ → Type 0
IsNextOf old i new = (new ≡ old) ⊎ (new ≡ old ++ i ∷ [])

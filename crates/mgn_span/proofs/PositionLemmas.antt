-- Sums over positions, as the pass from scratch grows them and as a kept sum follows a change of one net.
use Rattle.std.proofs.Common.{◌≡◌, ℕ, zero, suc, ◌+◌, ◌<◌, ◌≤◌, List, [], ◌∷◌, length, take, set, get_or, refl, ap, ◌∙◌, arith, take_all, ⊎_elim}
use Rattle.std.specs.Prelude.{ℤ, pos, ◌+ℤ◌, unsigned_abs, All}
use Rattle.std.specs.List.{sum_by}
use Rattle.std.proofs.lemmas.Bool.{cases_lt}
use Rattle.std.proofs.lemmas.Int.{ints}
use Rattle.std.proofs.lemmas.List.{get_or_past}
use Rattle.std.proofs.lemmas.List.Sums.{fold_more, get_or-le-sum_by, sum_by-set}
use Rattle.std.proofs.lemmas.Slice.Zip.{get_or-zip, length-zip}
use Rattle.mgn_num.proofs.SignedLemmas.{signed_sum_by-set}
use Rattle.mgn_num.specs.Signed.{signed_sum_by}
use Rattle.mgn_params.specs.declared.tables.Contract.{Contract}
use Rattle.mgn_span.specs.Positions.{Position, positions}
use Rattle.mgn_span.specs.Scan.{value_at}
use Rattle.mgn_params.specs.Tables.{contract_at, no_contract}

pub length_positions : (cs : List Contract) (ns : List ℤ) → length ns ≡ length cs → length (positions cs ns) ≡ length cs
length_positions cs ns e = omega (arith, length-zip cs ns)

-- the position at a place
pub position_at : (cs : List Contract) (ns : List ℤ) (i : ℕ) → i < length cs → length ns ≡ length cs → get_or (positions cs ns) i (no_contract, pos 0) ≡ (contract_at cs i, value_at ns i)
position_at cs ns i h e = let inside : i < length ns = omega arith in get_or-zip cs ns i (no_contract, pos 0) h inside

-- one position more, whatever is counted
pub position_sum_more : (f : Position → ℤ) (cs : List Contract) (ns : List ℤ) (i : ℕ) → i < length cs → length ns ≡ length cs → signed_sum_by f (take (i + 1) (positions cs ns)) ≡ signed_sum_by f (take i (positions cs ns)) +ℤ f (contract_at cs i, value_at ns i)
position_sum_more f cs ns i h e =
    let within : i < length (positions cs ns) = omega (arith, length_positions cs ns e) in
    fold_more (λ (total : ℤ) (p : Position). total +ℤ f p) (pos 0) (positions cs ns) i (no_contract, pos 0) within ∙ ap (λ (p : Position). signed_sum_by f (take i (positions cs ns)) +ℤ f p) (position_at cs ns i h e)

-- all positions
pub position_sum_all : (f : Position → ℤ) (cs : List Contract) (ns : List ℤ) (i : ℕ) → length cs ≤ i → length ns ≡ length cs → signed_sum_by f (take i (positions cs ns)) ≡ signed_sum_by f (positions cs ns)
position_sum_all f cs ns i h e =
    ap (λ (ps : List Position). signed_sum_by f ps) (take_all i (positions cs ns) (omega (arith, length_positions cs ns e)))

-- the same for what is counted without a sign

pub position_count_more : (f : Position → ℕ) (cs : List Contract) (ns : List ℤ) (i : ℕ) → i < length cs → length ns ≡ length cs → sum_by f (take (i + 1) (positions cs ns)) ≡ sum_by f (take i (positions cs ns)) + f (contract_at cs i, value_at ns i)
position_count_more f cs ns i h e =
    let within : i < length (positions cs ns) = omega (arith, length_positions cs ns e) in
    fold_more (λ (total : ℕ) (p : Position). total + f p) 0 (positions cs ns) i (no_contract, pos 0) within ∙ ap (λ (p : Position). sum_by f (take i (positions cs ns)) + f p) (position_at cs ns i h e)

pub position_count_all : (f : Position → ℕ) (cs : List Contract) (ns : List ℤ) (i : ℕ) → length cs ≤ i → length ns ≡ length cs → sum_by f (take i (positions cs ns)) ≡ sum_by f (positions cs ns)
position_count_all f cs ns i h e =
    ap (λ (ps : List Position). sum_by f ps) (take_all i (positions cs ns) (omega (arith, length_positions cs ns e)))

-- a write of one net is a write of one position
pub positions-set : (cs : List Contract) (ns : List ℤ) (i : ℕ) (n : ℤ) → length ns ≡ length cs → positions cs (set ns i n) ≡ set (positions cs ns) i (contract_at cs i, n)
positions-set [] [] i n e = refl
positions-set [] (m ∷ ns) i n e = absurd (omega arith)
positions-set (c ∷ cs) [] i n e = absurd (omega arith)
positions-set (c ∷ cs) (m ∷ ns) zero n e = refl
positions-set (c ∷ cs) (m ∷ ns) (suc i) n e = ap (λ (ps : List Position). (c, m) ∷ ps) (positions-set cs ns i n (omega arith))

-- a change of one net changes a sum by the difference of what that position counts for
pub position_sum-set : (f : Position → ℤ) (cs : List Contract) (ns : List ℤ) (i : ℕ) (n : ℤ) → i < length cs → length ns ≡ length cs → signed_sum_by f (positions cs (set ns i n)) +ℤ f (contract_at cs i, value_at ns i) ≡ signed_sum_by f (positions cs ns) +ℤ f (contract_at cs i, n)
position_sum-set f cs ns i n h e =
    let within : i < length (positions cs ns) = omega (arith, length_positions cs ns e) in
    let written = ap (λ (ps : List Position). signed_sum_by f ps) (positions-set cs ns i n e) in
    let moved = signed_sum_by-set f (positions cs ns) i (contract_at cs i, n) (no_contract, pos 0) within in
    let was = ap f (position_at cs ns i h e) in
    omega (arith, ints, written, moved, was)

-- the same for what is counted without a sign
pub position_count-set : (f : Position → ℕ) (cs : List Contract) (ns : List ℤ) (i : ℕ) (n : ℤ) → i < length cs → length ns ≡ length cs → sum_by f (positions cs (set ns i n)) + f (contract_at cs i, value_at ns i) ≡ sum_by f (positions cs ns) + f (contract_at cs i, n)
position_count-set f cs ns i n h e =
    let within : i < length (positions cs ns) = omega (arith, length_positions cs ns e) in
    let written = ap (λ (ps : List Position). sum_by f ps) (positions-set cs ns i n e) in
    let moved = sum_by-set f (positions cs ns) i (contract_at cs i, n) (no_contract, pos 0) within in
    let was = ap f (position_at cs ns i h e) in
    omega (arith, written, moved, was)

-- what one position counts for is no more than what all do
pub position_count-le : (f : Position → ℕ) (cs : List Contract) (ns : List ℤ) (i : ℕ) → i < length cs → length ns ≡ length cs → f (contract_at cs i, value_at ns i) ≤ sum_by f (positions cs ns)
position_count-le f cs ns i h e =
    let within : i < length (positions cs ns) = omega (arith, length_positions cs ns e) in
    let one = get_or-le-sum_by f (positions cs ns) i (no_contract, pos 0) within in
    let was = ap f (position_at cs ns i h e) in
    omega (arith, one, was)

-- each value of an array of small numbers is small
pub value_at_small : (array : List ℤ) (most s : ℕ) → All (λ a. unsigned_abs a ≤ most) array → unsigned_abs (value_at array s) ≤ most
value_at_small array most s h =
    ⊎_elim (λ inside. h s (pos 0) inside) (λ past. rw (get_or_past array s (pos 0) past) (omega arith)) (cases_lt s (length array))

-- Sums over the numbers below a bound, for the sums over months and commodities of the definitions.
use Rattle.std.proofs.Common.{◌≡◌, ◌≢◌, ℕ, zero, suc, ◌+◌, ◌*◌, ◌<◌, ◌≤◌, Bool, true, false, pos, ℤ, unsigned_abs, ⊎_elim, ap, arith, refl}
use Rattle.std.specs.Prelude.{◌+ℤ◌, if◌then◌else◌}
use Rattle.std.proofs.lemmas.Bool.{cases_eq}
use Rattle.std.proofs.lemmas.Int.{ints}
use Rattle.mgn_num.specs.Signed.{signed_sum_below, sum_below}

-- equal numbers come to equal sums
pub sum_below_same : (f g : ℕ → ℕ) (n : ℕ) → ((m : ℕ) → m < n → f m ≡ g m) → sum_below f n ≡ sum_below g n
sum_below_same f g zero same = refl
sum_below_same f g (suc n) same =
    omega (arith, sum_below_same f g n (λ m h. same m (omega arith)), same n (omega arith))

pub signed_sum_below_same : (f g : ℕ → ℤ) (n : ℕ) → ((m : ℕ) → m < n → f m ≡ g m) → signed_sum_below f n ≡ signed_sum_below g n
signed_sum_below_same f g zero same = refl
signed_sum_below_same f g (suc n) same =
    omega (arith, ints, signed_sum_below_same f g n (λ m h. same m (omega arith)), same n (omega arith))

-- smaller numbers come to smaller sums
pub sum_below_le : (f g : ℕ → ℕ) (n : ℕ) → ((m : ℕ) → m < n → f m ≤ g m) → sum_below f n ≤ sum_below g n
sum_below_le f g zero small = omega arith
sum_below_le f g (suc n) small =
    omega (arith, sum_below_le f g n (λ m h. small m (omega arith)), small n (omega arith))

-- a sum of zeros
pub sum_below_none : (f : ℕ → ℕ) (n : ℕ) → ((m : ℕ) → m < n → f m ≡ 0) → sum_below f n ≡ 0
sum_below_none f zero none = refl
sum_below_none f (suc n) none =
    omega (arith, sum_below_none f n (λ m h. none m (omega arith)), none n (omega arith))

pub signed_sum_below_none : (f : ℕ → ℤ) (n : ℕ) → ((m : ℕ) → m < n → f m ≡ pos 0) → signed_sum_below f n ≡ pos 0
signed_sum_below_none f zero none = refl
signed_sum_below_none f (suc n) none =
    omega (arith, ints, signed_sum_below_none f n (λ m h. none m (omega arith)), none n (omega arith))

-- where each number grows by a share, the sum grows by the sum of the shares
pub sum_below_grown : (f g share : ℕ → ℕ) (n : ℕ) → ((m : ℕ) → m < n → g m ≤ f m + share m) → sum_below g n ≤ sum_below f n + sum_below share n
sum_below_grown f g share zero grown = omega arith
sum_below_grown f g share (suc n) grown =
    omega (arith, sum_below_grown f g share n (λ m h. grown m (omega arith)), grown n (omega arith))

pub signed_sum_below_grown : (f g share : ℕ → ℤ) (n : ℕ) → ((m : ℕ) → m < n → g m ≡ f m +ℤ share m) → signed_sum_below g n ≡ signed_sum_below f n +ℤ signed_sum_below share n
signed_sum_below_grown f g share zero grown = refl
signed_sum_below_grown f g share (suc n) grown =
    omega (arith, ints, signed_sum_below_grown f g share n (λ m h. grown m (omega arith)), grown n (omega arith))

-- where only one number is not 0, the sum is at most that number
pub sum_below_one : (f : ℕ → ℕ) (at n : ℕ) → ((m : ℕ) → m ≢ at → f m ≡ 0) → sum_below f n ≤ f at
sum_below_one f at zero others = omega arith
sum_below_one f at (suc n) others =
    ⊎_elim
    (λ (same : n ≡ at).
    let none = sum_below_none f n (λ m h. others m (omega arith)) in
    let is = ap f same in
    omega (arith, none, is))
    (λ (other : n ≢ at). omega (arith, sum_below_one f at n others, others n other))
    (cases_eq n at)

-- and where it is one of those summed, the sum is that number
pub signed_sum_below_one : (f : ℕ → ℤ) (at n : ℕ) → at < n → ((m : ℕ) → m ≢ at → f m ≡ pos 0) → signed_sum_below f n ≡ f at
signed_sum_below_one f at zero inside others = absurd (omega arith)
signed_sum_below_one f at (suc n) inside others =
    ⊎_elim
    (λ (same : n ≡ at).
    let none = signed_sum_below_none f n (λ m h. others m (omega arith)) in
    let is = ap f same in
    omega (arith, ints, none, is))
    (λ (other : n ≢ at). omega (arith, ints, signed_sum_below_one f at n (omega arith) others, others n other))
    (cases_eq n at)

-- a choice that does not hang on the number
pub sum_below_if : (b : Bool) (f g : ℕ → ℕ) (n : ℕ) → sum_below (λ m. if b then f m else g m) n ≡ (if b then sum_below f n else sum_below g n)
sum_below_if true f g n = refl
sum_below_if false f g n = refl

-- a sum over fewer numbers
pub sum_below_fewer : (f : ℕ → ℕ) (m n : ℕ) → m ≤ n → sum_below f m ≤ sum_below f n
sum_below_fewer f m zero h = let e : m ≡ 0 = omega arith in rw e (omega arith)
sum_below_fewer f m (suc n) h =
    ⊎_elim
    (λ (same : m ≡ suc n). rw same (omega arith))
    (λ (other : m ≢ suc n). let before = sum_below_fewer f m n (omega arith) in omega (arith, before))
    (cases_eq m (suc n))

-- where no number is large, nor is the sum
pub signed_sum_below_small : (f : ℕ → ℤ) (most n : ℕ) → ((m : ℕ) → m < n → unsigned_abs (f m) ≤ most) → unsigned_abs (signed_sum_below f n) ≤ n * most
signed_sum_below_small f most zero small = omega (arith, ints)
signed_sum_below_small f most (suc n) small =
    omega (arith, ints, signed_sum_below_small f most n (λ m h. small m (omega arith)), small n (omega arith))

-- a sum is no less than each of its numbers
pub sum_below_at : (f : ℕ → ℕ) (n at : ℕ) → at < n → f at ≤ sum_below f n
sum_below_at f zero at h = absurd (omega arith)
sum_below_at f (suc n) at h =
    ⊎_elim
    (λ (last : at ≡ n). let is = ap f last in omega (arith, is))
    (λ (other : at ≢ n). omega (arith, sum_below_at f n at (omega arith)))
    (cases_eq at n)

-- a sum of numbers that are each at most `most`
pub sum_below_small : (f : ℕ → ℕ) (most n : ℕ) → ((m : ℕ) → m < n → f m ≤ most) → sum_below f n ≤ n * most
sum_below_small f most zero small = omega arith
sum_below_small f most (suc n) small =
    omega (arith, sum_below_small f most n (λ m h. small m (omega arith)), small n (omega arith))

-- where one number changes, so does the sum
pub sum_below_moved : (f g : ℕ → ℕ) (n at : ℕ) → at < n → ((m : ℕ) → m ≢ at → g m ≡ f m) → sum_below g n + f at ≡ sum_below f n + g at
sum_below_moved f g zero at h others = absurd (omega arith)
sum_below_moved f g (suc n) at h others =
    ⊎_elim
    (λ (last : at ≡ n).
    let before = sum_below_same g f n (λ m below. others m (omega arith)) in
    let was = ap f last in
    let is = ap g last in
    omega (arith, before, was, is))
    (λ (other : at ≢ n).
    let same = others n (λ e. absurd (omega arith)) in
    omega (arith, sum_below_moved f g n at (omega arith) others, same))
    (cases_eq at n)

pub signed_sum_below_moved : (f g : ℕ → ℤ) (n at : ℕ) → at < n → ((m : ℕ) → m ≢ at → g m ≡ f m) → signed_sum_below g n +ℤ f at ≡ signed_sum_below f n +ℤ g at
signed_sum_below_moved f g zero at h others = absurd (omega arith)
signed_sum_below_moved f g (suc n) at h others =
    ⊎_elim
    (λ (last : at ≡ n).
    let before = signed_sum_below_same g f n (λ m below. others m (omega arith)) in
    let was = ap f last in
    let is = ap g last in
    omega (arith, ints, before, was, is))
    (λ (other : at ≢ n).
    let same = others n (λ e. absurd (omega arith)) in
    omega (arith, ints, signed_sum_below_moved f g n at (omega arith) others, same))
    (cases_eq at n)

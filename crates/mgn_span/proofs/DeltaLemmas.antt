-- How large the deltas of months and of commodities are, each net within its limit: that sums do not wrap.
use Rattle.std.proofs.Common.{◌≡◌, ◌≢◌, ℕ, ◌<◌, ◌≤◌, ◌^◌, true, false, List, [], ◌∷◌, length, take, pos, ℤ, unsigned_abs, ap, ◌∙◌, sym, arith, refl, All, eq-eqb, ne_eqb, ⊎_elim}
use Rattle.std.specs.Prelude.{◌+ℤ◌, ◌*ℤ◌, ◌==◌, if◌then◌else◌, nat_lt}
use Rattle.std.proofs.lemmas.Bool.{cases_lt, le-ltb, lt-ltb}
use Rattle.std.proofs.lemmas.Int.{ints}
use Rattle.std.proofs.lemmas.List.Elements.{All-head, All-tail}
use Rattle.mgn_num.specs.Signed.{signed_sum_below, signed_sum_by}
use Rattle.mgn_num.proofs.SignedLemmas.{signed_sum_by-cons, size-*ℤ-le}
use Rattle.mgn_params.specs.declared.tables.Contract.{Contract}
use Rattle.mgn_params.specs.declared.tables.Month.{Month}
use Rattle.mgn_params.specs.Limits.{IsContract, IsWithinLimits}
use Rattle.mgn_params.specs.Tables.{Tables, contract_at, month_at, no_contract}
use Rattle.mgn_span.specs.Deltas.{month_delta}
use Rattle.mgn_span.specs.Positions.{IsNet, Position, positions}
use Rattle.mgn_span.specs.Scan.{value_at}
use Rattle.mgn_span.specs.Sizes.{IsDelta}
use Rattle.mgn_span.specs.Words.{month_share, net_delta, net_share}
use Rattle.mgn_span.proofs.PositionLemmas.{position_sum_all}
use Rattle.mgn_span.proofs.ShareLemmas.{month_share_small, share_sum_of_commodity}
use Rattle.mgn_span.proofs.SumLemmas.{signed_sum_below_grown, signed_sum_below_none, signed_sum_below_one}

-- a position counts only in the month of its contract, which is one of the commodity's
month_share_out : (m : ℕ) (c : Contract) (n : ℤ) → c.month ≢ m → month_share m (c, n) ≡ pos 0
month_share_out m c n other = rw (ne_eqb c.month m other) refl

-- the delta of a month, however many positions are summed
pub month_delta_small_to : (t : Tables) (nets : List ℤ) (m i : ℕ) → IsWithinLimits t → length nets ≡ length t.contracts → All IsNet nets → i ≤ length t.contracts → IsDelta (month_delta (take i (positions t.contracts nets)) m)
month_delta_small_to t nets m i limits one_each small h =
    let g = (month_at t.months m).commodity in
    share_sum_of_commodity (month_share m) t nets g (10 ^ 12) i limits one_each
    (λ k p other.
    let own = (limits.contracts k no_contract p).own_month in
    month_share_out m (contract_at t.contracts k) (value_at nets k) (λ here. other (sym own ∙ ap (λ (j : ℕ). (month_at t.months j).commodity) here)))
    (λ k p. month_share_small (length t.commodities) t.months m (contract_at t.contracts k) (value_at nets k) (limits.contracts k no_contract p) (small k (pos 0) (omega (arith, one_each))))
    h

pub month_delta_small : (t : Tables) (nets : List ℤ) (m : ℕ) → IsWithinLimits t → length nets ≡ length t.contracts → All IsNet nets → IsDelta (month_delta (positions t.contracts nets) m)
month_delta_small t nets m limits one_each small =
    let n = length t.contracts in
    let all = position_sum_all (month_share m) t.contracts nets n (omega arith) one_each in
    omega (arith, ints, all, month_delta_small_to t nets m n limits one_each small (omega arith))

-- The net delta of a commodity is a sum over its positions.

abbrev own_share : ℕ → Position → ℤ
own_share g p = if p.0.commodity == g then p.1 *ℤ p.0.delta else pos 0

own_share_out : (g : ℕ) (c : Contract) (n : ℤ) → c.commodity ≢ g → own_share g (c, n) ≡ pos 0
own_share_out g c n other = rw (ne_eqb c.commodity g other) refl

own_share_small : (commodities : ℕ) (months : List Month) (g : ℕ) (c : Contract) (n : ℤ) → IsContract commodities months c → IsNet n → unsigned_abs (own_share g (c, n)) ≤ 10 ^ 12
own_share_small commodities months g c n limit net =
    let product = size-*ℤ-le n c.delta (10 ^ 7) (10 ^ 5) net limit.delta in
    elim (c.commodity == g) as (λ b. unsigned_abs (if b then n *ℤ c.delta else pos 0) ≤ 10 ^ 12) [ true ↦ omega (arith, product) | false ↦ omega (arith, ints) ]

-- what a position counts for in a month of the commodity
abbrev share_in : List Month → ℕ → Position → ℕ → ℤ
share_in months g p m = if (month_at months m).commodity == g then month_share m p else pos 0

share_in_other : (months : List Month) (g : ℕ) (c : Contract) (n : ℤ) (m : ℕ) → m ≢ c.month → share_in months g (c, n) m ≡ pos 0
share_in_other months g c n m other =
    let none = month_share_out m c n (λ e. other (sym e)) in
    elim ((month_at months m).commodity == g) as (λ b. (if b then month_share m (c, n) else pos 0) ≡ pos 0) [ true ↦ none | false ↦ refl ]

share_in_own : (months : List Month) (g : ℕ) (c : Contract) (n : ℤ) → (month_at months c.month).commodity ≡ c.commodity → share_in months g (c, n) c.month ≡ own_share g (c, n)
share_in_own months g c n own = rw (own, eq-eqb c.month c.month refl) refl

-- one position more
net_share-cons : (months : List Month) (g : ℕ) (p : Position) (portfolio : List Position) (m : ℕ) → net_share months (p ∷ portfolio) g m ≡ net_share months portfolio g m +ℤ share_in months g p m
net_share-cons months g p portfolio m =
    let more = signed_sum_by-cons (month_share m) p portfolio in
    elim ((month_at months m).commodity == g) as (λ b. (if b then month_delta (p ∷ portfolio) m else pos 0) ≡ (if b then month_delta portfolio m else pos 0) +ℤ (if b then month_share m p else pos 0)) [ true ↦ omega (arith, ints, more) | false ↦ refl ]

-- the first so many months come to what the positions in them do
abbrev own_share_to : ℕ → ℕ → Position → ℤ
own_share_to g n p = if nat_lt p.0.month n then own_share g p else pos 0

own_share_to_out : (g n : ℕ) (c : Contract) (x : ℤ) → c.commodity ≢ g → own_share_to g n (c, x) ≡ pos 0
own_share_to_out g n c x other =
    elim (nat_lt c.month n) as (λ b. (if b then own_share g (c, x) else pos 0) ≡ pos 0) [ true ↦ own_share_out g c x other | false ↦ refl ]

own_share_to_small : (commodities : ℕ) (months : List Month) (g n : ℕ) (c : Contract) (x : ℤ) → IsContract commodities months c → IsNet x → unsigned_abs (own_share_to g n (c, x)) ≤ 10 ^ 12
own_share_to_small commodities months g n c x limit net =
    let own = own_share_small commodities months g c x limit net in
    elim (nat_lt c.month n) as (λ b. unsigned_abs (if b then own_share g (c, x) else pos 0) ≤ 10 ^ 12) [ true ↦ own | false ↦ omega (arith, ints) ]

share_in_sum : (months : List Month) (g n : ℕ) (c : Contract) (x : ℤ) → (month_at months c.month).commodity ≡ c.commodity → signed_sum_below (share_in months g (c, x)) n ≡ own_share_to g n (c, x)
share_in_sum months g n c x own =
    ⊎_elim
    (λ (low : c.month < n). signed_sum_below_one (share_in months g (c, x)) c.month n low (share_in_other months g c x) ∙ rw (lt-ltb c.month n low) (share_in_own months g c x own))
    (λ (past : n ≤ c.month). signed_sum_below_none (share_in months g (c, x)) n (λ m h. share_in_other months g c x m (λ e. absurd (omega (arith, e, h, past)))) ∙ rw (le-ltb c.month n past) refl)
    (cases_lt c.month n)

net_delta_is : (commodities : ℕ) (months : List Month) (g n : ℕ) (cs : List Contract) (ns : List ℤ) → All (IsContract commodities months) cs → signed_sum_below (net_share months (positions cs ns) g) n ≡ signed_sum_by (own_share_to g n) (positions cs ns)
net_delta_is commodities months g n [] ns limits =
    signed_sum_below_none (net_share months [] g) n (λ m h. elim ((month_at months m).commodity == g) as (λ b. (if b then pos 0 else pos 0) ≡ pos 0) [ true ↦ refl | false ↦ refl ])
net_delta_is commodities months g n (c ∷ cs) [] limits =
    signed_sum_below_none (net_share months [] g) n (λ m h. elim ((month_at months m).commodity == g) as (λ b. (if b then pos 0 else pos 0) ≡ pos 0) [ true ↦ refl | false ↦ refl ])
net_delta_is commodities months g n (c ∷ cs) (x ∷ ns) limits =
    let portfolio : List Position = positions cs ns in
    let own = All-head (IsContract commodities months) c cs limits in
    let others = net_delta_is commodities months g n cs ns (All-tail (IsContract commodities months) c cs limits) in
    let grown = signed_sum_below_grown (net_share months portfolio g) (net_share months ((c, x) ∷ portfolio) g) (share_in months g (c, x)) n (λ m h. net_share-cons months g (c, x) portfolio m) in
    let one = share_in_sum months g n c x own.own_month in
    let more = signed_sum_by-cons (own_share_to g n) (c, x) portfolio in
    omega (arith, ints, others, grown, one, more)

-- the net delta of a commodity, however many months are summed
pub net_delta_small_to : (t : Tables) (nets : List ℤ) (g n : ℕ) → IsWithinLimits t → length nets ≡ length t.contracts → All IsNet nets → IsDelta (signed_sum_below (net_share t.months (positions t.contracts nets) g) n)
net_delta_small_to t nets g n limits one_each small =
    let count = length t.contracts in
    let is = net_delta_is (length t.commodities) t.months g n t.contracts nets limits.contracts in
    let all = position_sum_all (own_share_to g n) t.contracts nets count (omega arith) one_each in
    let sum = share_sum_of_commodity (own_share_to g n) t nets g (10 ^ 12) count limits one_each
    (λ k h other. own_share_to_out g n (contract_at t.contracts k) (value_at nets k) other)
    (λ k h. own_share_to_small (length t.commodities) t.months g n (contract_at t.contracts k) (value_at nets k) (limits.contracts k no_contract h) (small k (pos 0) (omega (arith, one_each))))
    (omega arith) in
    omega (arith, ints, is, all, sum)

pub net_delta_small : (t : Tables) (nets : List ℤ) (g : ℕ) → IsWithinLimits t → length nets ≡ length t.contracts → All IsNet nets → IsDelta (net_delta t.months (positions t.contracts nets) g)
net_delta_small t nets g limits one_each small = net_delta_small_to t nets g (length t.months) limits one_each small

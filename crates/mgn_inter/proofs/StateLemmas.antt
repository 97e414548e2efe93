-- The rests and credits after the first spreads, and what is kept of each: for `rework` and `pass_all`.
use Rattle.std.proofs.Common.{◌≡◌, ◌≢◌, ℕ, zero, suc, ◌+◌, ◌*◌, ◌<◌, ◌≤◌, List, length, take, slice_index, slice_set, replicate, pos, ℤ, ap, ◌∙◌, sym, subst, arith, refl, add-one, ⊎_elim, All, get_or-set_same, get_or-set_other}
use Rattle.std.proofs.lemmas.Bool.{cases_eq, cases_lt}
use Rattle.std.proofs.lemmas.List.{get_or-replicate, get_or_past, length-replicate}
use Rattle.std.proofs.lemmas.List.Sums.{fold_more}
use Rattle.mgn_params.specs.declared.tables.CreditSpread.{CreditSpread}
use Rattle.mgn_span.specs.Credits.{formed}
use Rattle.mgn_span.specs.Scan.{value_at}
use Rattle.mgn_params.specs.Limits.{IsCreditSpread}
use Rattle.mgn_params.specs.Tables.{credit_spread_at, legs_of, no_credit_spread}
use Rattle.mgn_inter.specs.declared.spread_state.SpreadState.{SpreadState}
use Rattle.mgn_inter.specs.Rows.{IsKept, kept_at, nothing_kept, rests_at, share_at, share_of, state_of}
use Rattle.mgn_inter.specs.Shares.{shares}
use Rattle.mgn_span.specs.Words.{AreRests, leg_at}
use Rattle.mgn_inter.proofs.SpreadLemmas.{formed_long, formed_near, formed_none}
use Rattle.mgn_inter.proofs.LegLemmas.{share_none}

-- one spread more
pub state_suc : (deltas : List ℤ) (risks : List ℕ) (spreads : List CreditSpread) (n : ℕ) → n < length spreads → state_of deltas risks (take (suc n) spreads) ≡ formed deltas risks (state_of deltas risks (take n spreads)) (credit_spread_at spreads n)
state_suc deltas risks spreads n h =
    rw add-one at (fold_more (formed deltas risks) (deltas, replicate (length deltas) 0) spreads n no_credit_spread h)

-- the lengths of the rows
pub state_long : (deltas : List ℤ) (risks : List ℕ) (spreads : List CreditSpread) (n : ℕ) → n ≤ length spreads → (length (state_of deltas risks (take n spreads)).0 ≡ length deltas) × (length (state_of deltas risks (take n spreads)).1 ≡ length deltas)
state_long deltas risks spreads zero h = (refl, length-replicate {A = ℕ} (length deltas) 0)
state_long deltas risks spreads (suc n) h =
    let inside : n < length spreads = omega arith in
    let before = state_long deltas risks spreads n (omega arith) in
    let own = formed_long deltas risks (state_of deltas risks (take n spreads)) (credit_spread_at spreads n) in
    rw (state_suc deltas risks spreads n inside) (own.0 ∙ before.0, own.1 ∙ before.1)

-- no rest passes the net delta
pub state_near : (deltas : List ℤ) (risks : List ℕ) (spreads : List CreditSpread) (n : ℕ) → n ≤ length spreads → AreRests deltas (state_of deltas risks (take n spreads)).0
state_near deltas risks spreads zero h = record { one_each = refl; near = λ g. omega arith }
state_near deltas risks spreads (suc n) h =
    let inside : n < length spreads = omega arith in
    rw (state_suc deltas risks spreads n inside) (formed_near deltas risks (state_of deltas risks (take n spreads)) (credit_spread_at spreads n) (state_near deltas risks spreads n (omega arith)))

-- a row of zeros
pub none_at : (n g : ℕ) → slice_index (replicate n 0) g ≡ 0
none_at n g =
    ⊎_elim
    (λ inside. get_or-replicate {A = ℕ} n g 0 0 inside)
    (λ past. get_or_past {X = ℕ} (replicate {A = ℕ} n 0) g 0 (omega (arith, length-replicate {A = ℕ} n 0)))
    (cases_lt g n)

-- What spreads credit by what is kept of each.

pub shares_small : (spreads : List CreditSpread) (kept : List SpreadState) (g most n : ℕ) → ((i : ℕ) → i < n → share_at spreads kept g i ≤ most) → shares spreads kept g n ≤ n * most
shares_small spreads kept g most zero small = omega arith
shares_small spreads kept g most (suc n) small =
    let before = shares_small spreads kept g most n (λ i h. small i (omega arith)) in
    let own = small n (omega arith) in
    omega (arith, before, own)

pub shares_one : (spreads : List CreditSpread) (kept : List SpreadState) (g n i : ℕ) → i < n → share_at spreads kept g i ≤ shares spreads kept g n
shares_one spreads kept g zero i h = absurd (omega arith)
shares_one spreads kept g (suc n) i h =
    ⊎_elim
    (λ (here : i ≡ n). rw here (omega arith))
    (λ (other : i ≢ n). let before = shares_one spreads kept g n i (omega arith) in omega (arith, before))
    (cases_eq i n)

-- one of them is kept anew
pub kept_own : (kept : List SpreadState) (i : ℕ) (own : SpreadState) → i < length kept → kept_at (slice_set kept i own) i ≡ own
kept_own kept i own h = get_or-set_same kept i own nothing_kept h

pub kept_other : (kept : List SpreadState) (i j : ℕ) (own : SpreadState) → j ≢ i → kept_at (slice_set kept i own) j ≡ kept_at kept j
kept_other kept i j own h = get_or-set_other kept i j own nothing_kept h

share_other : (spreads : List CreditSpread) (kept : List SpreadState) (g i j : ℕ) (own : SpreadState) → j ≢ i → share_at spreads (slice_set kept i own) g j ≡ share_at spreads kept g j
share_other spreads kept g i j own h =
    ap (λ (k : SpreadState). share_of g (legs_of (credit_spread_at spreads j)) k.credits) (kept_other kept i j own h)

shares_below : (spreads : List CreditSpread) (kept : List SpreadState) (g i n : ℕ) (own : SpreadState) → n ≤ i → shares spreads (slice_set kept i own) g n ≡ shares spreads kept g n
shares_below spreads kept g i zero own h = refl
shares_below spreads kept g i (suc n) own h =
    rw (shares_below spreads kept g i n own (omega arith), share_other spreads kept g i n own (λ e. omega (arith, e, h))) refl

pub shares_set : (spreads : List CreditSpread) (kept : List SpreadState) (g i n : ℕ) (own : SpreadState) → i < n → i < length kept → shares spreads (slice_set kept i own) g n + share_at spreads kept g i ≡ shares spreads kept g n + share_of g (legs_of (credit_spread_at spreads i)) own.credits
shares_set spreads kept g i zero own h low = absurd (omega arith)
shares_set spreads kept g i (suc n) own h low =
    ⊎_elim
    (λ (here : i ≡ n).
    let mine : share_at spreads (slice_set kept i own) g i ≡ share_of g (legs_of (credit_spread_at spreads i)) own.credits = ap (λ (k : SpreadState). share_of g (legs_of (credit_spread_at spreads i)) k.credits) (kept_own kept i own low) in
    subst (λ (m : ℕ). shares spreads (slice_set kept i own) g m + share_at spreads (slice_set kept i own) g m + share_at spreads kept g i ≡ shares spreads kept g m + share_at spreads kept g m + share_of g (legs_of (credit_spread_at spreads i)) own.credits) here (omega (arith, shares_below spreads kept g i i own (omega arith), mine)))
    (λ (other : i ≢ n).
    let before = shares_set spreads kept g i n own (omega arith) low in
    let last = share_other spreads kept g i n own (λ e. other (sym e)) in
    omega (arith, before, last))
    (cases_eq i n)

-- together they are the credits of the definition
pub shares_are : (deltas : List ℤ) (risks : List ℕ) (spreads : List CreditSpread) (kept : List SpreadState) (g n : ℕ) → n ≤ length spreads → ((i : ℕ) → i < n → IsKept deltas risks (rests_at deltas risks spreads i) (credit_spread_at spreads i) (kept_at kept i)) → slice_index (state_of deltas risks (take n spreads)).1 g ≡ shares spreads kept g n
shares_are deltas risks spreads kept g zero h are = none_at (length deltas) g
shares_are deltas risks spreads kept g (suc n) h are =
    let inside : n < length spreads = omega arith in
    let now = state_of deltas risks (take n spreads) in
    let before = shares_are deltas risks spreads kept g n (omega arith) (λ i low. are i (omega arith)) in
    let own = (are n (omega arith)).credits_are now.1 g (state_long deltas risks spreads n (omega arith)).1 in
    rw (state_suc deltas risks spreads n inside) (omega (arith, before, own))

-- Net deltas of 0, of which nothing forms.
pub zero_at : (n g : ℕ) → value_at (replicate n (pos 0)) g ≡ pos 0
zero_at n g =
    ⊎_elim
    (λ inside. get_or-replicate {A = ℤ} n g (pos 0) (pos 0) inside)
    (λ past. get_or_past {X = ℤ} (replicate {A = ℤ} n (pos 0)) g (pos 0) (omega (arith, length-replicate {A = ℤ} n (pos 0))))
    (cases_lt g n)

pub state_none : (count n : ℕ) (risks : List ℕ) (spreads : List CreditSpread) → n ≤ length spreads → All (IsCreditSpread count) spreads → state_of (replicate count (pos 0)) risks (take n spreads) ≡ (replicate count (pos 0), replicate count 0)
state_none count zero risks spreads h limits =
    ap (λ (n : ℕ). let p : List ℤ × List ℕ = (replicate count (pos 0), replicate n 0) in p) (length-replicate {A = ℤ} count (pos 0))
state_none count (suc n) risks spreads h limits =
    let inside : n < length spreads = omega arith in
    let deltas = replicate count (pos 0) in
    let none : List ℤ × List ℕ = (deltas, replicate count 0) in
    let s = credit_spread_at spreads n in
    state_suc deltas risks spreads n inside
    ∙ ap (λ (p : List ℤ × List ℕ). formed deltas risks p s) (state_none count n risks spreads (omega arith) limits)
    ∙ formed_none deltas risks none s (limits n no_credit_spread inside).side_a (zero_at count)

pub kept_none : (count : ℕ) (risks : List ℕ) (s : CreditSpread) → IsCreditSpread count s → IsKept (replicate count (pos 0)) risks (replicate count (pos 0)) s nothing_kept
kept_none count risks s limit =
    let deltas = replicate count (pos 0) in
    let same = λ (x : List ℕ). (let now : List ℤ × List ℕ = (deltas, x) in formed_none deltas risks now s limit.side_a (zero_at count)) in
    record {
      rests_long = refl;
      after_long = refl;
      credits_long = refl;
      rests_are = λ j h. zero_at 4 j ∙ sym (zero_at count (leg_at (legs_of s) j).commodity);
      after_are = λ x j h. rw (same x) (zero_at 4 j ∙ sym (zero_at count (leg_at (legs_of s) j).commodity));
      credits_are = λ x g h. rw (same x) (omega (arith, share_none g (legs_of s) 4));
    }

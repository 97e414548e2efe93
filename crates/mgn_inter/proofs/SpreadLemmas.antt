-- One spread between commodities: what it keeps, how much it credits, and what a commodity means that it does not name.
use Rattle.std.proofs.Common.{◌≡◌, ℕ, ◌+◌, ◌*◌, ◌<◌, ◌≤◌, ◌^◌, Bool, true, false, List, [], ◌∷◌, length, get_or, slice_index, pos, ℤ, replicate, unsigned_abs, ap, ◌∙◌, sym, arith, refl, All, length-take}
use Rattle.std.specs.List.{list_any}
use Rattle.std.specs.Prelude.{if◌then◌else◌}
use Rattle.std.proofs.lemmas.Bool.{false≢true}
use Rattle.std.proofs.lemmas.List.{length-replicate}
use Rattle.std.proofs.lemmas.List.Elements.{All-weaker}
use Rattle.mgn_params.specs.declared.tables.CreditSpread.{CreditSpread}
use Rattle.mgn_params.specs.declared.tables.Leg.{Leg}
use Rattle.mgn_span.specs.Credits.{credits_after, fits, formed, forms, is_long, leg_credit, rests_after, spread_amount}
use Rattle.mgn_params.specs.Limits.{IsCreditSpread}
use Rattle.mgn_span.specs.Scan.{value_at}
use Rattle.mgn_params.specs.Tables.{is_side_a, legs_of}
use Rattle.mgn_inter.specs.declared.spread_state.SpreadState.{SpreadState}
use Rattle.mgn_inter.specs.Rows.{IsKept, names, share_of}
use Rattle.mgn_span.specs.Words.{AreRests, AreNumbers, IsCreditable, leg_at}
use Rattle.mgn_inter.proofs.LegLemmas.{Agree, AgreeOn, either_is, credits_after_out, credits_after_same, credits_after_shares, forms_same, rests_after_out, rests_after_same, share_none, spread_amount_same}
use Rattle.mgn_span.proofs.CreditLemmas.{credits_after_small, leg_credit_small, legs_creditable, length-credits_after, length-rests_after, rests_after_near}

-- the rests and credits where a spread forms, and where it does not
outcome : List ℤ → List ℕ → List ℤ × List ℕ → CreditSpread → ℕ → Bool → List ℤ × List ℕ
outcome deltas risks now s amount b =
    if b then (rests_after now.0 amount (legs_of s), credits_after deltas risks s.rate amount now.1 (legs_of s)) else now

formed_is : (deltas : List ℤ) (risks : List ℕ) (now : List ℤ × List ℕ) (s : CreditSpread) → formed deltas risks now s ≡ outcome deltas risks now s (spread_amount now.0 (legs_of s)) (forms now.0 (legs_of s))
unfolding outcome
formed_is deltas risks now s = refl

-- the lengths of the rows
outcome_long : (deltas : List ℤ) (risks : List ℕ) (now : List ℤ × List ℕ) (s : CreditSpread) (amount : ℕ) (b : Bool) → (length (outcome deltas risks now s amount b).0 ≡ length now.0) × (length (outcome deltas risks now s amount b).1 ≡ length now.1)
unfolding outcome
outcome_long deltas risks now s amount true = (length-rests_after now.0 amount (legs_of s), length-credits_after deltas risks s.rate amount now.1 (legs_of s))
outcome_long deltas risks now s amount false = (refl, refl)

pub formed_long : (deltas : List ℤ) (risks : List ℕ) (now : List ℤ × List ℕ) (s : CreditSpread) → (length (formed deltas risks now s).0 ≡ length now.0) × (length (formed deltas risks now s).1 ≡ length now.1)
formed_long deltas risks now s =
    rw (formed_is deltas risks now s) (outcome_long deltas risks now s (spread_amount now.0 (legs_of s)) (forms now.0 (legs_of s)))

-- no rest passes the net delta
outcome_near : (deltas : List ℤ) (risks : List ℕ) (now : List ℤ × List ℕ) (s : CreditSpread) (amount : ℕ) (b : Bool) (g : ℕ) → unsigned_abs (value_at (outcome deltas risks now s amount b).0 g) ≤ unsigned_abs (value_at now.0 g)
unfolding outcome
outcome_near deltas risks now s amount true g = rests_after_near now.0 amount (legs_of s) g
outcome_near deltas risks now s amount false g = omega arith

pub formed_near : (deltas : List ℤ) (risks : List ℕ) (now : List ℤ × List ℕ) (s : CreditSpread) → AreRests deltas now.0 → AreRests deltas (formed deltas risks now s).0
formed_near deltas risks now s are = record {
  one_each = (formed_long deltas risks now s).0 ∙ are.one_each;
  near = λ g. rw (formed_is deltas risks now s) (let low = outcome_near deltas risks now s (spread_amount now.0 (legs_of s)) (forms now.0 (legs_of s)) g in omega (arith, low, are.near g));
}

-- a commodity that the spread does not name
outcome_out : (deltas : List ℤ) (risks : List ℕ) (now : List ℤ × List ℕ) (s : CreditSpread) (amount : ℕ) (b : Bool) (g : ℕ) → names g (legs_of s) ≡ false → (value_at (outcome deltas risks now s amount b).0 g ≡ value_at now.0 g) × (slice_index (outcome deltas risks now s amount b).1 g ≡ slice_index now.1 g)
unfolding outcome
outcome_out deltas risks now s amount true g h = (rests_after_out now.0 amount (legs_of s) g h, credits_after_out deltas risks s.rate amount now.1 (legs_of s) g h)
outcome_out deltas risks now s amount false g h = (refl, refl)

pub formed_out : (deltas : List ℤ) (risks : List ℕ) (now : List ℤ × List ℕ) (s : CreditSpread) (g : ℕ) → names g (legs_of s) ≡ false → (value_at (formed deltas risks now s).0 g ≡ value_at now.0 g) × (slice_index (formed deltas risks now s).1 g ≡ slice_index now.1 g)
formed_out deltas risks now s g h =
    rw (formed_is deltas risks now s) (outcome_out deltas risks now s (spread_amount now.0 (legs_of s)) (forms now.0 (legs_of s)) g h)

-- rests that are equal for the legs' commodities lead to equal ones, whatever the numbers
outcome_same : (deltas were : List ℤ) (risks was : List ℕ) (a b : List ℤ) (x y : List ℕ) (s : CreditSpread) (amount : ℕ) (yes : Bool) (k : ℕ) → length a ≡ length b → Agree a b (legs_of s) → value_at a k ≡ value_at b k → value_at (outcome deltas risks (a, x) s amount yes).0 k ≡ value_at (outcome were was (b, y) s amount yes).0 k
unfolding outcome
outcome_same deltas were risks was a b x y s amount true k long same here =
    rests_after_same a b amount (legs_of s) k long same here
outcome_same deltas were risks was a b x y s amount false k long same here = here

-- how a spread comes out by other rests that are equal for the legs' commodities
outcome_by : (deltas : List ℤ) (risks : List ℕ) (a b : List ℤ) (x : List ℕ) (s : CreditSpread) → Agree a b (legs_of s) → formed deltas risks (a, x) s ≡ outcome deltas risks (a, x) s (spread_amount b (legs_of s)) (forms b (legs_of s))
outcome_by deltas risks a b x s same =
    let legs = legs_of s in
    formed_is deltas risks (a, x) s
    ∙ ap (λ (n : ℕ). outcome deltas risks (a, x) s n (forms a legs)) (spread_amount_same a b legs same)
    ∙ ap (λ (yes : Bool). outcome deltas risks (a, x) s (spread_amount b legs) yes) (forms_same a b legs same)

pub formed_same : (deltas were : List ℤ) (risks was : List ℕ) (a b : List ℤ) (x y : List ℕ) (s : CreditSpread) (k : ℕ) → length a ≡ length b → Agree a b (legs_of s) → value_at a k ≡ value_at b k → value_at (formed deltas risks (a, x) s).0 k ≡ value_at (formed were was (b, y) s).0 k
formed_same deltas were risks was a b x y s k long same here =
    let legs = legs_of s in
    ap (λ (p : List ℤ × List ℕ). value_at p.0 k) (outcome_by deltas risks a b x s same)
    ∙ outcome_same deltas were risks was a b x y s (spread_amount b legs) (forms b legs) k long same here
    ∙ ap (λ (p : List ℤ × List ℕ). value_at p.0 k) (sym (formed_is were was (b, y) s))

outcome_alike : (deltas were : List ℤ) (risks was : List ℕ) (a b : List ℤ) (x : List ℕ) (s : CreditSpread) (amount : ℕ) (yes : Bool) → Agree deltas were (legs_of s) → AgreeOn risks was (legs_of s) → (outcome deltas risks (a, x) s amount yes).1 ≡ (outcome were was (b, x) s amount yes).1
unfolding outcome
outcome_alike deltas were risks was a b x s amount true same alike =
    credits_after_same deltas were risks was s.rate amount x (legs_of s) same alike
outcome_alike deltas were risks was a b x s amount false same alike = refl

-- and so do its credits where the numbers of the legs' commodities are equal too
pub formed_alike : (deltas were : List ℤ) (risks was : List ℕ) (a b : List ℤ) (x : List ℕ) (s : CreditSpread) → Agree a b (legs_of s) → Agree deltas were (legs_of s) → AgreeOn risks was (legs_of s) → (formed deltas risks (a, x) s).1 ≡ (formed were was (b, x) s).1
formed_alike deltas were risks was a b x s same deltas_same alike =
    let legs = legs_of s in
    ap (λ (p : List ℤ × List ℕ). p.1) (outcome_by deltas risks a b x s same)
    ∙ outcome_alike deltas were risks was a b x s (spread_amount b legs) (forms b legs) deltas_same alike
    ∙ ap (λ (p : List ℤ × List ℕ). p.1) (sym (formed_is were was (b, x) s))

-- what is kept for the rests at the turn, once it is worked out by rests that are equal for the legs' commodities
pub kept_same : (deltas were : List ℤ) (risks was : List ℕ) (a b : List ℤ) (s : CreditSpread) (k : SpreadState) → length deltas ≡ length were → length a ≡ length b → Agree a b (legs_of s) → Agree deltas were (legs_of s) → AgreeOn risks was (legs_of s) → IsKept were was b s k → IsKept deltas risks a s k
kept_same deltas were risks was a b s k each long same deltas_same alike is = record {
  rests_long = is.rests_long;
  after_long = is.after_long;
  credits_long = is.credits_long;
  rests_are = λ j h. is.rests_are j h ∙ sym (same j h);
  after_are = λ x j h.
      is.after_are x j h
      ∙ sym (formed_same deltas were risks was a b x x s (leg_at (legs_of s) j).commodity long same (same j h));
  credits_are = λ x g h.
      ap (λ (row : List ℕ). slice_index row g) (formed_alike deltas were risks was a b x s same deltas_same alike)
      ∙ is.credits_are x g (h ∙ each);
}

-- where it forms, and where it does not
outcome_yes : (deltas : List ℤ) (risks : List ℕ) (now : List ℤ × List ℕ) (s : CreditSpread) (amount : ℕ) → outcome deltas risks now s amount true ≡ (rests_after now.0 amount (legs_of s), credits_after deltas risks s.rate amount now.1 (legs_of s))
unfolding outcome
outcome_yes deltas risks now s amount = refl

outcome_no : (deltas : List ℤ) (risks : List ℕ) (now : List ℤ × List ℕ) (s : CreditSpread) (amount : ℕ) → outcome deltas risks now s amount false ≡ now
unfolding outcome
outcome_no deltas risks now s amount = refl

pub formed_yes : (deltas : List ℤ) (risks : List ℕ) (now : List ℤ × List ℕ) (s : CreditSpread) → forms now.0 (legs_of s) ≡ true → let amount = spread_amount now.0 (legs_of s) in formed deltas risks now s ≡ (rests_after now.0 amount (legs_of s), credits_after deltas risks s.rate amount now.1 (legs_of s))
formed_yes deltas risks now s they_do =
    let amount = spread_amount now.0 (legs_of s) in
    formed_is deltas risks now s
    ∙ ap (λ (b : Bool). outcome deltas risks now s amount b) they_do
    ∙ outcome_yes deltas risks now s amount

pub formed_no : (deltas : List ℤ) (risks : List ℕ) (now : List ℤ × List ℕ) (s : CreditSpread) → forms now.0 (legs_of s) ≡ false → formed deltas risks now s ≡ now
formed_no deltas risks now s they_dont =
    let amount = spread_amount now.0 (legs_of s) in
    formed_is deltas risks now s
    ∙ ap (λ (b : Bool). outcome deltas risks now s amount b) they_dont
    ∙ outcome_no deltas risks now s amount

pub kept_yes : (deltas : List ℤ) (risks : List ℕ) (rests : List ℤ) (s : CreditSpread) (k : SpreadState) → All (λ leg. leg.commodity < length deltas) (legs_of s) → length (legs_of s) ≤ 4 → forms rests (legs_of s) ≡ true → length k.rests ≡ 4 → length k.after ≡ 4 → length k.credits ≡ 4 → let legs = legs_of s in let amount = spread_amount rests legs in ((j : ℕ) → j < length legs → value_at k.rests j ≡ value_at rests (leg_at legs j).commodity) → ((j : ℕ) → j < length legs → value_at k.after j ≡ value_at (rests_after rests amount legs) (leg_at legs j).commodity) → ((j : ℕ) → j < length legs → slice_index k.credits j ≡ leg_credit deltas risks s.rate amount (leg_at legs j)) → IsKept deltas risks rests s k
kept_yes deltas risks rests s k there few they_do rests_long after_long credits_long rests_are after_are credits_are =
    let legs = legs_of s in
    let amount = spread_amount rests legs in
    let is = λ (x : List ℕ). (let now : List ℤ × List ℕ = (rests, x) in formed_yes deltas risks now s they_do) in
    record {
      rests_long = rests_long;
      after_long = after_long;
      credits_long = credits_long;
      rests_are = rests_are;
      after_are = λ x j h.
          after_are j h
          ∙ sym (ap (λ (p : List ℤ × List ℕ). value_at p.0 (leg_at legs j).commodity) (is x));
      credits_are = λ x g h.
          ap (λ (p : List ℤ × List ℕ). slice_index p.1 g) (is x)
          ∙ credits_after_shares deltas risks s.rate amount x legs k.credits g (omega (arith, few, credits_long)) (λ j d low. omega (arith, there j d low, h)) credits_are;
    }

pub kept_no : (deltas : List ℤ) (risks : List ℕ) (rests : List ℤ) (s : CreditSpread) (k : SpreadState) → forms rests (legs_of s) ≡ false → length k.rests ≡ 4 → length k.after ≡ 4 → let legs = legs_of s in ((j : ℕ) → j < length legs → value_at k.rests j ≡ value_at rests (leg_at legs j).commodity) → ((j : ℕ) → j < length legs → value_at k.after j ≡ value_at rests (leg_at legs j).commodity) → k.credits ≡ replicate 4 0 → IsKept deltas risks rests s k
kept_no deltas risks rests s k they_dont rests_long after_long rests_are after_are credits =
    let legs = legs_of s in
    let is = λ (x : List ℕ). (let now : List ℤ × List ℕ = (rests, x) in formed_no deltas risks now s they_dont) in
    record {
      rests_long = rests_long;
      after_long = after_long;
      credits_long = ap (λ (r : List ℕ). length r) credits;
      rests_are = rests_are;
      after_are = λ x j h.
          after_are j h
          ∙ sym (ap (λ (p : List ℤ × List ℕ). value_at p.0 (leg_at legs j).commodity) (is x));
      credits_are = λ x g h.
          ap (λ (p : List ℤ × List ℕ). slice_index p.1 g) (is x)
          ∙ omega (arith, ap (λ (r : List ℕ). share_of g legs r) credits, share_none g legs 4);
    }

-- and each commodity by one spread at most 4 * 10^33
outcome_small : (deltas : List ℤ) (risks : List ℕ) (rests : List ℤ) (credits : List ℕ) (s : CreditSpread) (n : ℕ) (b : Bool) (g : ℕ) → AreNumbers deltas risks → AreRests deltas rests → n ≡ length deltas → IsCreditSpread n s → b ≡ forms rests (legs_of s) → slice_index (outcome deltas risks (rests, credits) s (spread_amount rests (legs_of s)) b).1 g ≤ slice_index credits g + 4 * 10 ^ 33
unfolding outcome
outcome_small deltas risks rests credits s n true g numbers are count limits h =
    let legs = legs_of s in
    let amount = spread_amount rests legs in
    let each = All-weaker (IsCreditable deltas risks amount) (λ leg. leg_credit deltas risks s.rate amount leg ≤ 10 ^ 33) (λ leg is. leg_credit_small deltas risks s.rate amount leg limits.rate is) legs (legs_creditable deltas rests risks n s numbers (λ k d inside. are.near (get_or legs k d).commodity) count limits (sym h)) in
    let few : length legs ≤ 4 = omega (arith, length-take s.count s.legs, limits.few) in
    omega (arith, credits_after_small deltas risks s.rate amount credits legs (10 ^ 33) g each, few)
outcome_small deltas risks rests credits s n false g numbers are count limits h = omega arith

pub formed_small : (deltas : List ℤ) (risks : List ℕ) (rests : List ℤ) (credits : List ℕ) (s : CreditSpread) (n g : ℕ) → AreNumbers deltas risks → AreRests deltas rests → n ≡ length deltas → IsCreditSpread n s → slice_index (formed deltas risks (rests, credits) s).1 g ≤ slice_index credits g + 4 * 10 ^ 33
formed_small deltas risks rests credits s n g numbers are count limits =
    rw (formed_is deltas risks (rests, credits) s) (outcome_small deltas risks rests credits s n (forms rests (legs_of s)) g numbers are count limits refl)

-- what is kept of a spread credits a commodity at most as much
pub kept_small : (deltas : List ℤ) (risks : List ℕ) (rests : List ℤ) (s : CreditSpread) (k : SpreadState) (n g : ℕ) → AreNumbers deltas risks → AreRests deltas rests → n ≡ length deltas → IsCreditSpread n s → IsKept deltas risks rests s k → share_of g (legs_of s) k.credits ≤ 4 * 10 ^ 33
kept_small deltas risks rests s k n g numbers are count limits is =
    let none = replicate (length deltas) 0 in
    let small = formed_small deltas risks rests none s n g numbers are count limits in
    let sum = is.credits_are none g (length-replicate {A = ℕ} (length deltas) 0) in
    omega (arith, small, sum)

-- A spread whose legs' commodities have rests of 0 does not form.
fits_none : (a_long : Bool) (rests : List ℤ) (leg : Leg) → value_at rests leg.commodity ≡ pos 0 → fits a_long rests leg ≡ false
fits_none a_long rests leg h = rw h (either_is (is_long a_long leg.side) false false false (λ e. refl) (λ e. refl))

forms_none : (rests : List ℤ) (legs : List Leg) → list_any (λ leg. is_side_a leg.side) legs ≡ true → ((g : ℕ) → value_at rests g ≡ pos 0) → forms rests legs ≡ false
forms_none rests [] some none = absurd (false≢true some)
forms_none rests (leg ∷ legs) some none =
    rw (fits_none true rests leg (none leg.commodity), fits_none false rests leg (none leg.commodity)) refl

pub formed_none : (deltas : List ℤ) (risks : List ℕ) (now : List ℤ × List ℕ) (s : CreditSpread) → list_any (λ leg. is_side_a leg.side) (legs_of s) ≡ true → ((g : ℕ) → value_at now.0 g ≡ pos 0) → formed deltas risks now s ≡ now
formed_none deltas risks now s some none =
    formed_no deltas risks now s (forms_none now.0 (legs_of s) some none)

-- The places since which units have their nets, with one entry more: for `renew` and for entries.
use Rattle.std.proofs.Common.{◌≡◌, ◌<◌, ◌≤◌, ◌+◌, ◌-◌, ◌∙◌, ◌⊎◌, inl, inr, ℕ, Bool, true, false, List, [], ◌∷◌, ◌++◌, length, sym, ap, subst, refl, arith, length-append, ⊎_elim, true≢false}
use Rattle.std.specs.Prelude.{◌==◌, ◌||◌, slice_index_or}
use Rattle.std.proofs.lemmas.Bool.{cases_lt}
use Rattle.std.proofs.lemmas.List.{get_or_append_left, get_or_push}
use Rattle.mgn_params.specs.Tables.{Tables}
use Rattle.mgn_nets.specs.Portfolios.{UnitNets}
use Rattle.mgn_machine.specs.declared.reply.Reply.{Reply}
use Rattle.mgn_machine.specs.declared.reply.Reply.TheVariants.{Done, Figures, NewSet, Refused, Statement, Totals}
use Rattle.mgn_unit.specs.declared.row.Row.{Row}
use Rattle.mgn_unit.specs.Rows.{nets_in}
use Rattle.mgn_plan.specs.declared.plans.Plan.{Plan}
use Rattle.mgn_plan.specs.declared.plans.Plan.TheVariants.{Nothing, One, Two}
use Rattle.mgn_plan.specs.Plans.{IsPossible, LeavesNets, planned_nets, row_at}
use Rattle.mgn_pricing.specs.Desks.{is_planned}
use Rattle.mgn_day.specs.Changes.{AreNoted, AreRenewed, AreThere, AreUnchangedSince, IsUnchangedSince, Leads, SameUnit, settled}
use Rattle.mgn_day.specs.Days.{Day, nets_of, set_of, version_of}

either-false : (a b : Bool) → (a || b) ≡ false → (a ≡ false) × (b ≡ false)
either-false true b e = absurd (true≢false e)
either-false false b e = (refl, e)

-- What a command leaves.

-- a plan changes no nets of other units
unplanned : (plan : Plan) (u : ℕ) (nets : UnitNets) → is_planned plan u ≡ false → planned_nets plan u nets ≡ nets
unplanned Nothing u nets e = refl
unplanned (One v) u nets e = rw e refl
unplanned (Two v w) u nets e =
    let both = either-false (v.unit == u) (w.unit == u) e in
    rw (both.0, both.1) refl

-- the rows of units that a command does not change
record KeepsOthers (t : Tables) (plan : Plan) (old new : List Row) : Type 0 where
  longer : length old ≤ length new
  others : (u : ℕ) → u < length old → is_planned plan u ≡ false → nets_in (row_at t new u) ≡ nets_in (row_at t old u)

same-rows : (t : Tables) (plan : Plan) (old new : List Row) → new ≡ old → KeepsOthers t plan old new
same-rows t plan old new is = record { longer = omega (arith, ap length is); others = λ u less apart. ap (λ (rows : List Row). nets_in (row_at t rows u)) is }

keeps-others : (t : Tables) (plan : Plan) (reply : Reply) (old new : List Row) → LeavesNets t plan reply old new → KeepsOthers t (settled plan reply) old new
keeps-others t plan Done old new is = record { longer = is.long; others = λ u less apart. is.each u less ∙ unplanned plan u (nets_in (row_at t old u)) apart }
keeps-others t plan (Figures f) old new is = same-rows t Nothing old new is
keeps-others t plan (Totals f) old new is = same-rows t Nothing old new is
keeps-others t plan (NewSet f) old new is = same-rows t Nothing old new is
keeps-others t plan (Statement f) old new is = same-rows t Nothing old new is
keeps-others t plan (Refused f) old new is = same-rows t Nothing old new is

pub rows-longer : (t : Tables) (plan : Plan) (reply : Reply) (old new : List Row) → LeavesNets t plan reply old new → length old ≤ length new
rows-longer t plan reply old new is = (keeps-others t plan reply old new is).longer

-- the units of a plan are there
possible-there : (t : Tables) (rows : List Row) (plan : Plan) (n : ℕ) → IsPossible t rows plan → n ≡ length rows → AreThere plan n
possible-there t rows Nothing n can same = tt
possible-there t rows (One v) n can same = omega (arith, can.inside, same)
possible-there t rows (Two v w) n can same = (omega (arith, can.0.inside, same), omega (arith, can.1.inside, same))

pub settled-there : (t : Tables) (rows : List Row) (plan : Plan) (reply : Reply) (n : ℕ) → IsPossible t rows plan → n ≡ length rows → AreThere (settled plan reply) n
settled-there t rows plan Done n can same = possible-there t rows plan n can same
settled-there t rows plan (Figures f) n can same = tt
settled-there t rows plan (Totals f) n can same = tt
settled-there t rows plan (NewSet f) n can same = tt
settled-there t rows plan (Statement f) n can same = tt
settled-there t rows plan (Refused f) n can same = tt

-- Places that are noted.

pub renewed-by : (plan : Plan) (units place : ℕ) (old mid new : List ℕ) → AreNoted plan place old mid → length new ≡ units → ((u : ℕ) → u < length mid → slice_index_or new u 0 ≡ slice_index_or mid u 0) → ((u : ℕ) → length mid ≤ u → u < units → slice_index_or new u 0 ≡ place) → AreRenewed plan units place old new
renewed-by plan units place old mid new noted long kept fresh = record {
  long = long;
  each = λ u small. ⊎_elim
      (λ (less : u < length mid). ⊎_elim
      (λ here. inl (kept u less ∙ here))
      (λ there. inr (kept u less ∙ there.0, omega (arith, less, noted.long), there.1))
      (noted.each u (omega (arith, less, noted.long))))
      (λ (more : length mid ≤ u). inl (fresh u more small))
      (cases_lt u (length mid));
}

-- The units after a command.

same-itself : (day : Day) (u : ℕ) → SameUnit day day u
same-itself day u = record { version = refl; set_is = refl; nets = refl }

-- a unit whose place is that of the last stamp, which shows the day
pub unchanged-at-last : {T : Type 0} (shown : T → Day) (stamps now : List T) (t : T) (new : Day) (u place : ℕ) → place ≡ length stamps + 1 → now ≡ stamps ++ t ∷ [] → shown t ≡ new → IsUnchangedSince shown now place u new
unchanged-at-last shown stamps now t new u place is pushed same = subst (λ (p : ℕ). IsUnchangedSince shown now p u new) (sym is) record {
  some = omega arith;
  there = omega (arith, ap length pushed, length-append stamps (t ∷ []));
  same = λ d.
      let one : length stamps ≡ length stamps + 1 - 1 = omega arith in
      let here : slice_index_or now (length stamps + 1 - 1) d ≡ t = ap (λ l. slice_index_or l (length stamps + 1 - 1) d) pushed ∙ get_or_push stamps t d (length stamps + 1 - 1) one in
      subst (λ (x : Day). SameUnit x new u) (sym (ap shown here ∙ same)) (same-itself new u);
}

-- a unit that keeps its place, and has its nets still
pub unchanged-still : {T : Type 0} (shown : T → Day) (stamps now : List T) (place : ℕ) (t : T) (u : ℕ) (old new : Day) → IsUnchangedSince shown stamps place u old → now ≡ stamps ++ t ∷ [] → version_of new ≡ version_of old → set_of new ≡ set_of old
    → nets_of new u ≡ nets_of old u → IsUnchangedSince shown now place u new
unchanged-still shown stamps now place t u old new was pushed version set_is nets = record {
  some = was.some;
  there = omega (arith, was.there, ap length pushed, length-append stamps (t ∷ []));
  same = λ d.
      let less : place - 1 < length stamps = omega (arith, was.some, was.there) in
      let here : slice_index_or now (place - 1) d ≡ slice_index_or stamps (place - 1) d = ap (λ l. slice_index_or l (place - 1) d) pushed ∙ get_or_append_left stamps (t ∷ []) d (place - 1) less in
      let before = was.same d in
      subst (λ (x : Day). SameUnit x new u) (sym (ap shown here)) record {
        version = before.version ∙ sym version;
        set_is = before.set_is ∙ sym set_is;
        nets = before.nets ∙ sym nets;
      };
}

pub unchanged-push : {T : Type 0} (shown : T → Day) (stamps now : List T) (places renewed : List ℕ) (t : T) (old new : Day) (plan : Plan) (reply : Reply) → AreUnchangedSince shown stamps places old
    → AreRenewed (settled plan reply) (length new.book.book.rows) (length stamps + 1) places renewed → now ≡ stamps ++ t ∷ [] → shown t ≡ new → Leads shown old plan reply t → AreUnchangedSince shown now renewed new
unchanged-push shown stamps now places renewed t old new plan reply are renew pushed same leads =
    record { long = renew.long; each = λ u small. by u (renew.each u (omega (arith, small, renew.long))) }
  where
    version : version_of new ≡ version_of old
    version = sym (ap version_of same) ∙ leads.version

    set_is : set_of new ≡ set_of old
    set_is = sym (ap set_of same) ∙ leads.set_is

    rows : LeavesNets (set_of old) plan reply old.book.book.rows new.book.book.rows
    rows = subst (λ (d : Day). LeavesNets (set_of old) plan reply old.book.book.rows d.book.book.rows) same leads.nets

    by : (u : ℕ) → (slice_index_or renewed u 0 ≡ length stamps + 1) ⊎ ((slice_index_or renewed u 0 ≡ slice_index_or places u 0) × (u < length places) × (is_planned (settled plan reply) u ≡ false))
        → IsUnchangedSince shown now (slice_index_or renewed u 0) u new
    by u (inl is) = unchanged-at-last shown stamps now t new u (slice_index_or renewed u 0) is pushed same
    by u (inr all) =
        let inside : u < length old.book.book.rows = omega (arith, all.1, are.long) in
        let nets : nets_of new u ≡ nets_of old u =
        ap (λ (x : Tables). nets_in (row_at x new.book.book.rows u)) set_is
        ∙ (keeps-others (set_of old) plan reply old.book.book.rows new.book.book.rows rows).others u inside all.2
        in
        subst (λ (p : ℕ). IsUnchangedSince shown now p u new) (sym all.0) (unchanged-still shown stamps now (slice_index_or places u 0) t u old new (are.each u all.1) pushed version set_is nets)

-- Desks that were marked under a set which comes into force, beside the rows of the book then: for `commit_switch`.
use Rattle.std.proofs.Common.{◌≡◌, ◌<◌, ◌≤◌, ◌+◌, ◌++◌, ◌∷◌, [], ◌∙◌, ⊎_elim, ℕ, true, All, List, length, get_or, Option, Result, Ok, Err, sym, ap, subst, refl, arith, true≢false}
use Rattle.std.specs.Prelude.{IfOk, IfSome}
use Rattle.std.specs.Result.{result_ok}
use Rattle.std.proofs.lemmas.Bool.{cases_lt}
use Rattle.std.proofs.lemmas.List.{get_or_past}
use Rattle.mgn_params.specs.Shelves.{set_at}
use Rattle.mgn_params.specs.Tables.{Tables}
use Rattle.mgn_nets.specs.Portfolios.{AreUnitNets, UnitNets}
use Rattle.mgn_desk.specs.Desks.{DeskRows}
use Rattle.mgn_machine.specs.declared.reply.NewSet.{NewSet as Told}
use Rattle.mgn_machine.specs.declared.reply.Refusal.{Refusal}
use Rattle.mgn_machine.specs.declared.reply.Reply.{Reply}
use Rattle.mgn_machine.specs.declared.reply.Reply.TheVariants as reply
use Rattle.mgn_machine.specs.declared.request.Request.TheVariants.{Switch}
use Rattle.mgn_machine.specs.NewSet.{on_call, set_fits}
use Rattle.mgn_machine.specs.Refusals.{IsKnown}
use Rattle.mgn_machine.specs.State.{AccountState, State}
use Rattle.mgn_machine.specs.Step.{switched}
use Rattle.mgn_unit.specs.declared.row.Row.{Row}
use Rattle.mgn_unit.specs.Amounts.{KeepsPlaces}
use Rattle.mgn_unit.specs.NewSets.{row_under, unit_gain}
use Rattle.mgn_unit.specs.Rows.{nets_in}
use Rattle.mgn_unit.proofs.Carried.{row-under}
use Rattle.mgn_unit.proofs.KeptPlaces.{kept-carried, kept-nets}
use Rattle.mgn_unit.proofs.RowNets.{row-nets}
use Rattle.mgn_plan.specs.declared.plans.Plan.TheVariants.{Nothing}
use Rattle.mgn_plan.specs.Plans.{row_at}
use Rattle.mgn_register.specs.BookStates.{BookState, IsKept, IsUnitRow}
use Rattle.mgn_pricing.specs.Desks.{AreDesks, Rests, marked_at}
use Rattle.mgn_book.specs.BookViews.{BookView, Committed, LeavesRows, Shelves, Stands}
use Rattle.mgn_book.specs.declared.book.Outcome.{Outcome}
use Rattle.mgn_book.specs.declared.book.Outcome.TheVariants.{Done, Full, Memory}
use Rattle.mgn_book.proofs.Switches.{last-set}
use Rattle.mgn_script.specs.Desks.{AreAtRest, is_in_force, is_new_set}

-- the nets of a unit's row are the same under both sets
nets-kept : (old new : Tables) (accounts : List AccountState) (u : ℕ) (before after : Row) → KeepsPlaces old new → All (IsKnown old) accounts → IsUnitRow old accounts u before → IsUnitRow new accounts u after → nets_in after ≡ nets_in before
nets-kept old new accounts u before after keeps known is now =
    let gain = unit_gain old new accounts u in
    let made : after ≡ row_under old new gain before = now.is ∙ sym (row-under old new accounts u gain before known is.is refl) in
    ap nets_in made
    ∙ (λ i. record {
      lots = kept-carried old new before.lots.nets keeps is.limits.lots.one_each i;
      buys = kept-carried old new before.buys.nets keeps is.limits.buys.one_each i;
      sales = kept-carried old new before.sales.nets keeps is.limits.sales.one_each i;
      all = kept-carried old new before.all.nets keeps is.limits.all.one_each i;
    })

-- and they are within the limits of both
pub nets-within : (old t : Tables) (f : BookState) → KeepsPlaces old t → IsKept old f → (u : ℕ) (d : Row) → u < length f.rows → AreUnitNets t (nets_in (get_or f.rows u d))
nets-within old t f keeps kept u d less =
    let row = get_or f.rows u d in
    let nets = row-nets old row (kept.rows u d less).limits in
    record {
      lots = kept-nets old t row.lots.nets keeps nets.lots;
      buys = kept-nets old t row.buys.nets keeps nets.buys;
      sales = kept-nets old t row.sales.nets keeps nets.sales;
      all = kept-nets old t row.all.nets keeps nets.all;
    }

-- desks that are those of the rows before are those of the rows after
desks-kept : (old t : Tables) (version : ℕ) (f new : BookState) (desks : List DeskRows) → KeepsPlaces old t → IsKept old f → IsKept t new → new.state.accounts ≡ f.state.accounts → length new.rows ≡ length f.rows → AreDesks t version Nothing f.rows desks → AreDesks t version Nothing new.rows desks
desks-kept old t version f new desks keeps kept now accounts long are = record {
  few = omega (arith, are.few, long);
  each = λ u. ⊎_elim (within u) (past u) (cases_lt u (length f.rows));
}
  where
    R : ℕ → UnitNets → Type 0
    R u nets = Rests t version nets (marked_at desks u)

    within : (u : ℕ) → u < length f.rows → R u (nets_in (row_at t new.rows u))
    within u less =
        let after = subst (λ (all : List AccountState). IsUnitRow t all u (row_at t new.rows u)) accounts (now.rows u _ (omega (arith, less, long))) in
        subst (R u) (sym (nets-kept old t f.state.accounts u (row_at t f.rows u) (row_at t new.rows u) keeps kept.known (kept.rows u _ less) after)) (are.each u)

    past : (u : ℕ) → length f.rows ≤ u → R u (nets_in (row_at t new.rows u))
    past u more =
        let same : row_at t new.rows u ≡ row_at t f.rows u = get_or_past new.rows u _ (omega (arith, more, long)) ∙ sym (get_or_past f.rows u _ more) in
        subst (R u) (sym (ap nets_in same)) (are.each u)

-- no desks are as any rows
pub rest-empty : (sets : List Tables) (book : BookState) → AreAtRest sets book []
rest-empty sets book = record { few = omega arith; each = λ u. tt }

in-force : (sets now : List Tables) (old new : BookView) (t : Tables) (calls : ℕ) (r : Result (Unit {0}) Refusal) (told : Told) (desks : List DeskRows) → Stands sets old → Stands now new → (new.book.state, reply.NewSet told) ≡ switched old.book.state calls r
    → length new.book.rows ≡ length old.book.rows → now ≡ sets ++ t ∷ [] → KeepsPlaces (set_at sets old.book.state.version) t → AreDesks t (old.book.state.version + 1) Nothing old.book.rows desks → AreAtRest now new.book desks
in-force sets now old new t calls (Ok done) told desks stood stands made long put keeps are =
    let version : new.book.state.version ≡ old.book.state.version + 1 = ap (λ (p : State × Reply). p.0.version) made in
    let accounts : new.book.state.accounts ≡ old.book.state.accounts = ap (λ (p : State × Reply). p.0.accounts) made in
    let own : set_at now new.book.state.version ≡ t =
    ap (λ (all : List Tables). set_at all new.book.state.version) put
    ∙ ap (λ (v : ℕ). set_at (sets ++ t ∷ []) v) version
    ∙ last-set sets t (old.book.state.version + 1) stood.shown
    in
    let kept = subst (λ (x : Tables). IsKept x new.book) own stands.kept in
    let moved = desks-kept (set_at sets old.book.state.version) t (old.book.state.version + 1) old.book new.book desks keeps stood.kept kept accounts long are in
    subst (λ (x : Tables). AreDesks x new.book.state.version Nothing new.book.rows desks) (sym own)
    (subst (λ (v : ℕ). AreDesks t v Nothing new.book.rows desks) (sym version) moved)
in-force sets now old new t calls (Err why) told desks stood stands made long put keeps are = absurd (true≢false (ap (λ (p : State × Reply). is_new_set p.1) made))

-- desks that were marked rest once the set has come into force
pub rest-marked : (sets now : List Tables) (old new : BookView) (number : ℕ) (t : Tables) (outcome : Outcome) (desks : List DeskRows) → Stands sets old → Stands now new → Committed now old 1 number (Switch t) outcome new → LeavesRows old.book.rows outcome new.book.rows
    → Shelves sets (Switch t) outcome now → is_in_force outcome ≡ true → KeepsPlaces (set_at sets old.book.state.version) t → AreDesks t (old.book.state.version + 1) Nothing old.book.rows desks → AreAtRest now new.book desks
rest-marked sets now old new number t (Done place (reply.NewSet told)) desks stood stands done rows put forced keeps are =
    in-force sets now old new t (on_call t old.book.state.accounts old.book.state.units) (set_fits t old.book.state) told desks stood stands done.1 rows put keeps are
rest-marked sets now old new number t (Done place reply.Done) desks stood stands done rows put forced keeps are = absurd (true≢false (sym forced))
rest-marked sets now old new number t (Done place (reply.Figures figures)) desks stood stands done rows put forced keeps are = absurd (true≢false (sym forced))
rest-marked sets now old new number t (Done place (reply.Totals totals)) desks stood stands done rows put forced keeps are = absurd (true≢false (sym forced))
rest-marked sets now old new number t (Done place (reply.Statement told)) desks stood stands done rows put forced keeps are = absurd (true≢false (sym forced))
rest-marked sets now old new number t (Done place (reply.Refused why)) desks stood stands done rows put forced keeps are = absurd (true≢false (sym forced))
rest-marked sets now old new number t Full desks stood stands none rows put forced keeps are = absurd (true≢false (sym forced))
rest-marked sets now old new number t Memory desks stood stands none rows put forced keeps are = absurd (true≢false (sym forced))

-- what is known where there is something
known-ok-by : {X E : Type 0} (P : X → Type 0) (r : Result X E) → IfOk r P → IfSome (result_ok r) P
known-ok-by P (Ok x) known = known
known-ok-by P (Err e) known = tt

pub known-ok : {X E : Type 0} (P : X → Type 0) (r : Result X E) (o : Option X) → o ≡ result_ok r → IfOk r P → IfSome o P
known-ok {X = X} P r o is known = subst (λ (x : Option X). IfSome x P) (sym is) (known-ok-by P r known)

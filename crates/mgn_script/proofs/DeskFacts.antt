-- Desks beside a book, before and after a commit: that they stay those of its rows.
use Rattle.std.proofs.Common.{◌≡◌, ◌<◌, ◌≤◌, ◌∙◌, ⊎_elim, ℕ, Bool, true, false, List, length, Option, Some, None, Result, Ok, Err, sym, ap, subst, refl, arith, true≢false}
use Rattle.std.proofs.lemmas.Bool.{cases_lt}
use Rattle.std.proofs.lemmas.List.{get_or_past}
use Rattle.mgn_params.specs.Shelves.{set_at}
use Rattle.mgn_params.specs.Tables.{Tables}
use Rattle.mgn_nets.specs.Portfolios.{UnitNets}
use Rattle.mgn_desk.specs.declared.desk.Marked.{Marked}
use Rattle.mgn_desk.specs.Desks.{DeskRows}
use Rattle.mgn_machine.specs.declared.command.Command.{Command}
use Rattle.mgn_machine.specs.declared.reply.Reply.TheVariants as reply
use Rattle.mgn_machine.specs.declared.reply.Refusal.{Refusal}
use Rattle.mgn_machine.specs.declared.reply.Reply.{Reply}
use Rattle.mgn_machine.specs.declared.request.Request.TheVariants.{Do, Switch}
use Rattle.mgn_machine.specs.NewSet.{on_call, set_fits}
use Rattle.mgn_machine.specs.State.{State}
use Rattle.mgn_machine.specs.Step.{switched}
use Rattle.mgn_machine.proofs.Versions.{keeps_version}
use Rattle.mgn_unit.specs.declared.row.Row.{Row}
use Rattle.mgn_unit.specs.Rows.{nets_in}
use Rattle.mgn_plan.specs.declared.plans.Plan.{Plan}
use Rattle.mgn_plan.specs.declared.plans.Plan.TheVariants.{Nothing}
use Rattle.mgn_register.specs.BookStates.{BookState}
use Rattle.mgn_plan.specs.Plans.{FollowsPlan, row_at}
use Rattle.mgn_pricing.specs.Desks.{AreDesks, Rests, marked_at}
use Rattle.mgn_book.specs.BookViews.{BookView, Committed, KeepsRows, Leaves, LeavesRows, Shelves, sets_after}
use Rattle.mgn_book.specs.declared.book.Outcome.{Outcome}
use Rattle.mgn_book.specs.declared.book.Outcome.TheVariants.{Done, Full, Memory}
use Rattle.mgn_script.specs.Desks.{AreAtRest, AreDesksBy, is_done}

pub rests-none : (set' : Tables) (version : ℕ) (nets : UnitNets) (now : Option Marked) → now ≡ None → Rests set' version nets now
rests-none set' version nets now none = subst (λ (m : Option Marked). Rests set' version nets m) (sym none) tt

-- the desks that a plan moved rest at the rows that follow it
follows : (set' : Tables) (version : ℕ) (plan : Plan) (old new : List Row) (desks : List DeskRows) → FollowsPlan set' plan old new → AreDesks set' version plan old desks → AreDesks set' version Nothing new desks
follows set' version plan old new desks followed are = record {
  few = omega (arith, are.few, followed.long);
  each = λ k. ⊎_elim
      (λ (less : k < length old). subst (λ (nets : UnitNets). Rests set' version nets (marked_at desks k)) (sym (followed.each k less)) (are.each k))
      (λ (more : length old ≤ k). rests-none set' version (nets_in (row_at set' new k)) (marked_at desks k)
      (ap (λ (d : DeskRows). d.marked) (get_or_past desks k record { unit = k; marked = None } (omega (arith, more, are.few)))))
      (cases_lt k (length old));
}

version-kept : (sets : List Tables) (old new : BookView) (number : ℕ) (command : Command) (outcome : Outcome) → Committed sets old 1 number (Do command) outcome new → new.book.state.version ≡ old.book.state.version
version-kept sets old new number command (Done place reply') done = ap (λ x. x.0.version) done.1 ∙ keeps_version (set_at sets old.book.state.version) old.book.state command
version-kept sets old new number command Full none = ap (λ (d : BookView). d.book.state.version) none.0
version-kept sets old new number command Memory none = ap (λ (d : BookView). d.book.state.version) none.0

-- the rows of a commit that is done, and of one that is not
pub left-done : (set' : Tables) (plan : Plan) (old new : List Row) (outcome : Outcome) → is_done outcome ≡ true → Leaves set' plan old outcome new → FollowsPlan set' plan old new
left-done set' plan old new (Done place reply.Done) done_is left = left
left-done set' plan old new (Done place (reply.Figures figures)) done_is left = absurd (true≢false (sym done_is))
left-done set' plan old new (Done place (reply.Totals totals)) done_is left = absurd (true≢false (sym done_is))
left-done set' plan old new (Done place (reply.NewSet told)) done_is left = absurd (true≢false (sym done_is))
left-done set' plan old new (Done place (reply.Statement told)) done_is left = absurd (true≢false (sym done_is))
left-done set' plan old new (Done place (reply.Refused why)) done_is left = absurd (true≢false (sym done_is))
left-done set' plan old new Full done_is left = absurd (true≢false (sym done_is))
left-done set' plan old new Memory done_is left = absurd (true≢false (sym done_is))

pub left-same : (set' : Tables) (plan : Plan) (old new : List Row) (outcome : Outcome) → is_done outcome ≡ false → Leaves set' plan old outcome new → new ≡ old
left-same set' plan old new (Done place reply.Done) done_not left = absurd (true≢false done_not)
left-same set' plan old new (Done place (reply.Figures figures)) done_not left = left
left-same set' plan old new (Done place (reply.Totals totals)) done_not left = left
left-same set' plan old new (Done place (reply.NewSet told)) done_not left = left
left-same set' plan old new (Done place (reply.Statement told)) done_not left = left
left-same set' plan old new (Done place (reply.Refused why)) done_not left = left
left-same set' plan old new Full done_not left = left
left-same set' plan old new Memory done_not left = left

-- the desks rest after a commit, done or not
pub settled : (sets : List Tables) (old new : BookView) (number : ℕ) (command : Command) (outcome : Outcome) (plan : Plan) (desks : List DeskRows) → Committed sets old 1 number (Do command) outcome new
    → Leaves (set_at sets old.book.state.version) plan old.book.rows outcome new.book.rows → (is_done outcome ≡ true → AreDesksBy sets old.book plan desks) → (is_done outcome ≡ false → AreAtRest sets old.book desks) → AreAtRest sets new.book desks
settled sets old new number command outcome plan desks committed left done not_done =
    subst (λ (version : ℕ). AreDesks (set_at sets version) version Nothing new.book.rows desks) (sym (version-kept sets old new number command outcome committed)) (by (is_done outcome) refl)
  where
    set' : Tables
    set' = set_at sets old.book.state.version

    by : (b : Bool) → is_done outcome ≡ b → AreDesks set' old.book.state.version Nothing new.book.rows desks
    by true done_is = follows set' old.book.state.version plan old.book.rows new.book.rows desks (left-done set' plan old.book.rows new.book.rows outcome done_is left) (done done_is)
    by false done_not = subst (λ (rows : List Row). AreDesks set' old.book.state.version Nothing rows desks) (sym (left-same set' plan old.book.rows new.book.rows outcome done_not left)) (not_done done_not)

-- A switch leaves the desks.

-- a desk of an older version rests with any nets
rests-newer : (set' next' : Tables) (version next : ℕ) (nets moved : UnitNets) (now : Option Marked) → version < next → Rests set' version nets now → Rests next' next moved now
rests-newer set' next' version next nets moved None newer rests = tt
rests-newer set' next' version next nets moved (Some m) newer rests = (omega (arith, rests.0, newer), λ same. absurd (omega (arith, rests.0, newer, same)))

switched-rest : (sets now : List Tables) (old new : BookState) (t : Tables) (calls : ℕ) (r : Result (Unit {0}) Refusal) (reply' : Reply) (desks : List DeskRows)
    → (new.state, reply') ≡ switched old.state calls r → KeepsRows old.rows reply' new.rows → now ≡ sets_after sets (Switch t) reply' → AreAtRest sets old desks → AreAtRest now new desks
switched-rest sets now old new t calls (Ok done) reply' desks made rows put rest =
    let version = ap (λ (p : State × Reply). p.0.version) made in
    let long : length new.rows ≡ length old.rows = rw (ap (λ (p : State × Reply). p.1) made) at rows in
    record {
      few = omega (arith, rest.few, long);
      each = λ u. rests-newer _ _ old.state.version new.state.version _ _ (marked_at desks u) (omega (arith, version)) (rest.each u);
    }
switched-rest sets now old new t calls (Err why) reply' desks made rows put rest =
    let said = ap (λ (p : State × Reply). p.1) made in
    let version : new.state.version ≡ old.state.version = ap (λ (p : State × Reply). p.0.version) made in
    let same : new.rows ≡ old.rows = rw said at rows in
    let sets_same : now ≡ sets = rw said at put in
    let P : List Tables × (ℕ × List Row) → Type 0 = λ x. AreDesks (set_at x.0 x.1.0) x.1.0 Nothing x.1.1 desks in
    let all : (now, (new.state.version, new.rows)) ≡ (sets, (old.state.version, old.rows)) = λ j. (sets_same j, (version j, same j)) in
    subst P (sym all) rest

-- the desks of a book rest after a switch, done or not
pub rest-switched : (sets now : List Tables) (old new : BookView) (number : ℕ) (t : Tables) (outcome : Outcome) (desks : List DeskRows)
    → Committed now old 1 number (Switch t) outcome new → LeavesRows old.book.rows outcome new.book.rows → Shelves sets (Switch t) outcome now → AreAtRest sets old.book desks → AreAtRest now new.book desks
rest-switched sets now old new number t (Done place reply') desks done rows put rest =
    switched-rest sets now old.book new.book t (on_call t old.book.state.accounts old.book.state.units) (set_fits t old.book.state) reply' desks done.1 rows put rest
rest-switched sets now old new number t Full desks none rows put rest = rw (none.0, put) rest
rest-switched sets now old new number t Memory desks none rows put rest = rw (none.0, put) rest

-- Desks beside a book, over the ways that a command goes: for `commit_command`.
use Rattle.std.proofs.Common.{◌≡◌, ◌∙◌, ℕ, true, false, List, sym, subst, true≢false}
use Rattle.mgn_params.specs.Shelves.{set_at}
use Rattle.mgn_params.specs.Tables.{Tables}
use Rattle.mgn_desk.specs.Desks.{DeskRows}
use Rattle.mgn_machine.specs.declared.command.Command.{Command}
use Rattle.mgn_machine.specs.declared.request.Request.TheVariants.{Do}
use Rattle.mgn_unit.specs.declared.row.Row.{Row}
use Rattle.mgn_register.specs.BookStates.{BookState}
use Rattle.mgn_plan.specs.declared.plans.Plan.{Plan}
use Rattle.mgn_plan.specs.declared.plans.Plan.TheVariants.{Nothing}
use Rattle.mgn_plan.specs.Plans.{plan_of}
use Rattle.mgn_pricing.specs.Desks.{AreDesks}
use Rattle.mgn_book.specs.BookViews.{BookView, Committed, Leaves}
use Rattle.mgn_book.specs.declared.book.Outcome.{Outcome}
use Rattle.mgn_script.specs.Desks.{AreAtRest, AreDesksBy, is_done}
use Rattle.mgn_script.proofs.DeskFacts.{settled}

-- what a commit was made of: the set in force, its version and the rows, as they were read
abbrev pub Read : Type 0
Read = Tables × (ℕ × List Row)

abbrev pub read_of : List Tables → BookState → Read
read_of sets book = (set_at sets book.state.version, (book.state.version, book.rows))

-- a commit and what it leaves
pub record IsCommit (sets : List Tables) (old new : BookView) (number : ℕ) (command : Command) (outcome : Outcome) (plan : Plan) : Type 0 where
  pub planned : plan_of (set_at sets old.book.state.version) old.book.state command ≡ plan
  pub committed : Committed sets old 1 number (Do command) outcome new
  pub left : Leaves (set_at sets old.book.state.version) (plan_of (set_at sets old.book.state.version) old.book.state command) old.book.rows outcome new.book.rows

settle : (sets : List Tables) (old new : BookView) (number : ℕ) (command : Command) (outcome : Outcome) (plan : Plan) (desks : List DeskRows) → IsCommit sets old new number command outcome plan
    → (is_done outcome ≡ true → AreDesksBy sets old.book plan desks) → (is_done outcome ≡ false → AreAtRest sets old.book desks) → AreAtRest sets new.book desks
settle sets old new number command outcome plan desks commit done not_done =
    settled sets old new number command outcome plan desks commit.committed (subst (λ (p : Plan). Leaves (set_at sets old.book.state.version) p old.book.rows outcome new.book.rows) commit.planned commit.left) done not_done

-- what is known of desks by what was read
abbrev pub AreDesksOf : Read → Plan → List DeskRows → Type 0
AreDesksOf r plan desks = AreDesks r.0 r.1.0 plan r.1.1 desks

-- desks that are in step whether the command is done or not
pub unmoved : (sets : List Tables) (old new : BookView) (number : ℕ) (command : Command) (outcome : Outcome) (plan : Plan) (r : Read) (desks : List DeskRows) → IsCommit sets old new number command outcome plan → r ≡ read_of sets old.book → AreDesksOf r plan desks → AreDesksOf r Nothing desks → AreAtRest sets new.book desks
unmoved sets old new number command outcome plan r desks commit same moved at_rest =
    settle sets old new number command outcome plan desks commit (λ done_is. subst (λ (x : Read). AreDesksOf x plan desks) same moved) (λ done_not. subst (λ (x : Read). AreDesksOf x Nothing desks) same at_rest)

-- desks that moved as the command that is done
pub moved-on : (sets : List Tables) (old new : BookView) (number : ℕ) (command : Command) (outcome : Outcome) (plan : Plan) (r : Read) (desks : List DeskRows) → IsCommit sets old new number command outcome plan → is_done outcome ≡ true → r ≡ read_of sets old.book → AreDesksOf r plan desks → AreAtRest sets new.book desks
moved-on sets old new number command outcome plan r desks commit done_is same moved =
    settle sets old new number command outcome plan desks commit (λ _. subst (λ (x : Read). AreDesksOf x plan desks) same moved) (λ done_not. absurd (true≢false (sym done_is ∙ done_not)))

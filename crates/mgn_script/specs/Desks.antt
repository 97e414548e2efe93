-- A book beside the desks of its units.
use Rattle.std.specs.Prelude.{Bool, true, false, List}
use Rattle.mgn_params.specs.Shelves.{set_at}
use Rattle.mgn_params.specs.Tables.{Tables}
use Rattle.mgn_desk.specs.Desks.{DeskRows}
use Rattle.mgn_machine.specs.declared.command.Command.{Command}
use Rattle.mgn_machine.specs.declared.reply.Reply.{Reply}
use Rattle.mgn_machine.specs.declared.reply.Reply.TheVariants.{Done as Settled, Figures, NewSet, Refused, Statement, Totals}
use Rattle.mgn_register.specs.BookStates.{BookState}
use Rattle.mgn_plan.specs.declared.plans.Plan.{Plan}
use Rattle.mgn_plan.specs.declared.plans.Plan.TheVariants.{Nothing}
use Rattle.mgn_plan.specs.Plans.{plan_of}
use Rattle.mgn_pricing.specs.Desks.{AreDesks}
use Rattle.mgn_book.specs.declared.book.Outcome.{Outcome}
use Rattle.mgn_book.specs.declared.book.Outcome.TheVariants.{Done, Full, Memory}

-- the desks as a plan would leave the rows of a book, under the set in force
abbrev pub AreDesksBy : List Tables → BookState → Plan → List DeskRows → Type 0
AreDesksBy sets book plan desks = AreDesks (set_at sets book.state.version) book.state.version plan book.rows desks

-- the desks as its rows are
abbrev pub AreAtRest : List Tables → BookState → List DeskRows → Type 0
AreAtRest sets book desks = AreDesksBy sets book Nothing desks

-- what a command changes in the rows of a book, under the set in force
abbrev pub plan_in : List Tables → BookState → Command → Plan
plan_in sets book command = plan_of (set_at sets book.state.version) book.state command

-- a command is done
abbrev pub is_settled : Reply → Bool
is_settled Settled = true
is_settled (Figures figures) = false
is_settled (Totals totals) = false
is_settled (NewSet told) = false
is_settled (Statement told) = false
is_settled (Refused why) = false

abbrev pub is_done : Outcome → Bool
is_done (Done place reply) = is_settled reply
is_done Full = false
is_done Memory = false

-- a set has come into force
abbrev pub is_new_set : Reply → Bool
is_new_set (NewSet told) = true
is_new_set Settled = false
is_new_set (Figures figures) = false
is_new_set (Totals totals) = false
is_new_set (Statement told) = false
is_new_set (Refused why) = false

abbrev pub is_in_force : Outcome → Bool
is_in_force (Done place reply) = is_new_set reply
is_in_force Full = false
is_in_force Memory = false

-- a call was refused, and that was entered
abbrev pub is_refusal : Reply → Bool
is_refusal (Refused why) = true
is_refusal Settled = false
is_refusal (Figures figures) = false
is_refusal (Totals totals) = false
is_refusal (NewSet told) = false
is_refusal (Statement told) = false

abbrev pub is_refused : Outcome → Bool
is_refused (Done place reply) = is_refusal reply
is_refused Full = false
is_refused Memory = false

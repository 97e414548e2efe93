-- What a look at a command's units finds, and what its commit then does (own profile).
use Rattle.std.specs.Prelude.{ℕ, ◌≡◌, Option, Some, None}
use Rattle.mgn_machine.specs.declared.command.Command.{Command}
use Rattle.mgn_machine.specs.declared.reply.Reply.TheVariants.{Done}
use Rattle.mgn_machine.specs.declared.request.Request.TheVariants.{Do}
use Rattle.mgn_day.specs.Days.{Day}
use Rattle.mgn_ledger.specs.Ledgers.{PassAnswers}
use Rattle.mgn_ledger.specs.Passes.{IsCalled, PassView}
use Rattle.mgn_unit_desk.specs.UnitDesks.{IsAfter}
use Rattle.mgn_unit_desk.specs.declared.sight.UnitMove.{UnitMove}
use Rattle.mgn_service.specs.declared.service.Begun.{Begun}
use Rattle.mgn_service.specs.declared.service.Begun.TheVariants as begun
use Rattle.mgn_service.specs.declared.service.Tried.{Tried}
use Rattle.mgn_service.specs.declared.service.Tried.TheVariants as tried
use Rattle.mgn_service.specs.declared.looks.Looked.{Looked}
use Rattle.mgn_service.specs.declared.looks.Looked.TheVariants as looked
use Rattle.mgn_service.specs.declared.commits.Decided.{Decided}
use Rattle.mgn_service.specs.declared.commits.Decided.TheVariants as decided

-- a look at one unit: the command is answered there and then, or its change of this unit is seen, with a copy of the unit's
-- nets unless the stamp that was handed in shows them; or the command is no longer one of this unit
abbrev pub Looks : {T J : Type 0} → PassView → Command → ℕ → Option (ℕ × T) → Looked T J → PassView → Type 0
Looks old command unit own (looked.Answered answer) new = PassAnswers old (Do command) answer new
Looks old command unit own (looked.Seen sight) new =
    (new ≡ old) × (sight.0.unit ≡ unit) × (sight.1.1 ≡ None → own ≡ Some sight.1.0)
Looks old command unit own looked.Apart new = new ≡ old

-- a command that is done leaves the unit with the nets that its desk has moved to; any other way it came to nothing there
abbrev pub Decides : {T J : Type 0} → (T → Day) → PassView → Command → UnitMove → T → Decided T J → PassView → Type 0
Decides shown old command u t (decided.Settled place stamp) new =
    IsCalled old (Do command) place Done new × IsAfter shown u t stamp.1
Decides shown old command u t (decided.Answered answer) new = PassAnswers old (Do command) answer new
Decides shown old command u t decided.Stale new = new ≡ old
Decides shown old command u t decided.Apart new = new ≡ old

-- a command without units is answered at once
abbrev pub Begins : PassView → Command → Begun → PassView → Type 0
Begins old command (begun.Answered answer) new = PassAnswers old (Do command) answer new
Begins old command (begun.One unit) new = new ≡ old
Begins old command (begun.Two giver taker) new = new ≡ old

-- one look and commit: the command is answered, or nothing was done
abbrev pub Tries : PassView → Command → Tried → PassView → Type 0
Tries old command (tried.Answered answer) new = PassAnswers old (Do command) answer new
Tries old command tried.Stale new = new ≡ old
Tries old command tried.Apart new = new ≡ old

-- What a look at the two units of a transfer finds, and what its commit then does (own profile).
use Rattle.std.specs.Prelude.{ℕ, ◌≡◌, Option, Some, None}
use Rattle.mgn_nets.specs.Portfolios.{UnitNets}
use Rattle.mgn_desk.specs.Desks.{DeskRows}
use Rattle.mgn_machine.specs.declared.command.Command.{Command}
use Rattle.mgn_machine.specs.declared.reply.Reply.TheVariants.{Done}
use Rattle.mgn_machine.specs.declared.request.Request.TheVariants.{Do}
use Rattle.mgn_day.specs.Days.{Day}
use Rattle.mgn_ledger.specs.Ledgers.{PassAnswers}
use Rattle.mgn_ledger.specs.Passes.{IsCalled, PassView}
use Rattle.mgn_unit_desk.specs.UnitDesks.{IsAfter}
use Rattle.mgn_unit_desk.specs.declared.sight.UnitMove.{UnitMove}
use Rattle.mgn_service.specs.declared.commits.Decided.{Decided}
use Rattle.mgn_service.specs.declared.commits.Decided.TheVariants as decided
use Rattle.mgn_service.specs.declared.pairs.LookedAtBoth.{LookedAtBoth}
use Rattle.mgn_service.specs.declared.pairs.LookedAtBoth.TheVariants as looked
use Rattle.mgn_service.specs.declared.pairs.Sights.{Sights}

-- what a sight is seen as: the change, what shows the unit's nets, and a copy of these
abbrev pub SightView : Type 0 → Type 0
SightView T = UnitMove × ((ℕ × T) × Option UnitNets)

-- a sight of a desk's unit, with a copy of the unit's nets unless the desk's own stamp shows them
pub record IsSightOf {T : Type 0} (desk : DeskRows × Option (ℕ × T)) (sight : SightView T) : Type 0 where
  pub unit : sight.0.unit ≡ desk.0.unit
  pub has : sight.1.1 ≡ None → desk.1 ≡ Some sight.1.0

pub record AreSightsOf {T J : Type 0} (giver taker : DeskRows × Option (ℕ × T)) (sights : Sights T J) : Type 0 where
  pub giver_is : IsSightOf giver sights.giver
  pub taker_is : IsSightOf taker sights.taker

-- a look at both: the command is answered there and then, or its changes of these units are seen; or it is no longer one of
-- these two
abbrev pub LooksAtBoth : {T J : Type 0} → PassView → Command → DeskRows × Option (ℕ × T) → DeskRows × Option (ℕ × T) → LookedAtBoth T J → PassView → Type 0
LooksAtBoth old command giver taker (looked.Answered answer) new = PassAnswers old (Do command) answer new
LooksAtBoth old command giver taker (looked.Seen sights) new = (new ≡ old) × AreSightsOf giver taker sights
LooksAtBoth old command giver taker looked.Apart new = new ≡ old

-- a transfer that is done leaves both units with the nets that their desks have moved to; any other way it came to nothing
abbrev pub DecidesBoth : {T J : Type 0} → (T → Day) → PassView → Command → Sights T J → Decided T J → PassView → Type 0
DecidesBoth shown old command sights (decided.Settled place stamp) new =
    IsCalled old (Do command) place Done new
    × IsAfter shown sights.giver.0 sights.giver.1.0.1 stamp.1
    × IsAfter shown sights.taker.0 sights.taker.1.0.1 stamp.1
DecidesBoth shown old command sights (decided.Answered answer) new = PassAnswers old (Do command) answer new
DecidesBoth shown old command sights decided.Stale new = new ≡ old
DecidesBoth shown old command sights decided.Apart new = new ≡ old

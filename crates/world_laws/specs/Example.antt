-- A worked example: a hold of one session that a set of another session passes.
use Rattle.std.specs.Prelude.{ℕ, pos, List, [], ◌∷◌, ◌++◌, codes, replicate}
use Rattle.mgn_params.specs.declared.tables.Contract.{Contract}
use Rattle.mgn_params.specs.declared.tables.Kind.TheVariants.{Future}
use Rattle.mgn_params.specs.declared.tables.Style.TheVariants.{Other}
use Rattle.mgn_params.specs.Tables.{Tables}
use Rattle.mgn_machine.specs.declared.command.Command.{Command}
use Rattle.mgn_machine.specs.declared.command.Command.TheVariants.{NewOrigin, NewAccount, Post, Hold}
use Rattle.mgn_machine.specs.declared.command.Mode.TheVariants.{Gross}
use Rattle.mgn_plan.specs.declared.plans.Plan.TheVariants.{One}
use Rattle.mgn_unit.specs.Changes.{hold_change}
use Rattle.mgn_world.specs.declared.phases.Call.{Call}
use Rattle.mgn_world.specs.declared.phases.Deed.TheVariants.{Begin, Look, Mark, Apply, Commit, Back, End, Gather, Prepare}
use Rattle.mgn_world.specs.declared.phases.Step.{Step}
use Rattle.mgn_world.specs.Phases.{View}
use Rattle.world_laws.specs.Moves.{step_of}

-- a future of one commodity, of which one contract loses at most a number of cents
unfoldable pub future : ℕ → Contract
future loss = record {
  name = codes "F";
  commodity = 0;
  month = 0;
  kind = Future;
  style = Other;
  delta = pos 10000;
  option_value = 0;
  array = replicate 15 (pos 0) ++ pos loss ∷ [];
}

-- the set with that future alone
unfoldable pub set_of : ℕ → Tables
set_of loss = record {
  name = codes "S";
  commodities = record { name = codes "C"; short_option_charge = 0 } ∷ [];
  months = record { commodity = 0; number = 1; tier = 0 } ∷ [];
  contracts = future loss ∷ [];
  spreads = [];
  credits = [];
  classes = [];
  spots = [];
}

-- an account with 600 cents is to hold 2 contracts
abbrev pub hold : Command
hold = Hold record { account = codes "A"; order = 1; contract = codes "F"; quantity = pos 2; limit = 0 }

-- it has begun its call under a version, and looked so often
abbrev pub call : ℕ → ℕ → Call
call began looks = record { command = hold; began = began; looks = looks }

-- it looked at no nets under a version
abbrev pub view : ℕ → View
view version = record {
  version = version;
  plan = One record { account = 0; unit = 0; change = hold_change 0 (pos 2) 0 };
  seen = record { unit = 0; nets = record { lots = pos 0 ∷ []; buys = pos 0 ∷ []; sales = pos 0 ∷ []; all = pos 0 ∷ [] } } ∷ [];
}

-- the hold is applied under a set in which it costs 600; then a set in which it costs 602 comes into force
unfoldable pub passed : List Step
passed =
    step_of 0 (Begin (NewOrigin (codes "O") Gross)) ∷ step_of 0 (Begin (NewAccount (codes "A") (codes "O")))
    ∷ step_of 0 (Begin (Post (codes "A") (codes "CASH") 600)) ∷ step_of 0 (Begin hold)
    ∷ step_of 0 Look ∷ step_of 0 Mark ∷ step_of 0 Apply
    ∷ step_of 1 (Gather (set_of 301)) ∷ step_of 1 (Prepare 0) ∷ step_of 1 Commit ∷ []

-- its commit is stale
unfoldable pub stale : List Step
stale = passed ++ step_of 0 Commit ∷ []

-- it looks again, under the new set
unfoldable pub looked_again : List Step
looked_again = stale ++ step_of 0 Back ∷ step_of 0 Look ∷ []

-- and is refused for want of room
unfoldable pub refused : List Step
refused = looked_again ++ step_of 0 Mark ∷ step_of 0 Apply ∷ step_of 0 Commit ∷ []

-- the call ends
unfoldable pub over : List Step
over = refused ++ step_of 0 Back ∷ step_of 0 End ∷ []

-- Which steps answer, and how often.
use Rattle.std.specs.Prelude.{ℕ, ◌≡◌, ◌++◌, Bool, true, false, List, [], ◌∷◌}
use Rattle.mgn_machine.specs.declared.entry.Entry.{Entry}
use Rattle.mgn_plan.specs.declared.plans.Plan.TheVariants.{Nothing}
use Rattle.mgn_plan.specs.Plans.{plan_of}
use Rattle.mgn_world.specs.declared.phases.Deed.{Deed}
use Rattle.mgn_world.specs.declared.phases.Deed.TheVariants.{Begin, Look, Mark, Apply, Commit, Back, End, Gather, Prepare}
use Rattle.mgn_world.specs.declared.phases.Phase.{Phase}
use Rattle.mgn_world.specs.declared.phases.Phase.TheVariants.{Idle, Held, Looked, Applied, Failed, Ended, Gathered}
use Rattle.mgn_world.specs.declared.phases.Step.{Step}
use Rattle.mgn_world.specs.World.{World, in_force, units_of}

-- the history has one entry more, which is of the session
abbrev pub AddsOne : ℕ → World → World → Type 0
AddsOne session w v = (e : Entry) × ((e.session ≡ session) × (v.history ≡ w.history ++ e ∷ []))

-- the steps that answer: a Begin without units, a Look without a plan, the Commit of an applied call or of a gathered set
abbrev pub AnswersCall : World → Phase → Deed → Type 0
AnswersCall w Idle (Begin c) = units_of w.state c ≡ []
AnswersCall w (Held k) Look = plan_of (in_force w) w.state k.command ≡ Nothing
AnswersCall w (Applied k l) Commit = Unit {0}
AnswersCall w (Gathered g) Commit = Unit {0}
AnswersCall w phase deed = ⊥

-- a call that is applied looked under the set in force
abbrev pub IsCurrent : World → Phase → Type 0
IsCurrent w Idle = Unit {0}
IsCurrent w (Held k) = Unit {0}
IsCurrent w (Looked k l) = Unit {0}
IsCurrent w (Applied k l) = l.version ≡ w.state.version
IsCurrent w (Failed k l again) = Unit {0}
IsCurrent w (Ended k) = Unit {0}
IsCurrent w (Gathered g) = Unit {0}

-- there is no call, or it was answered
abbrev pub IsAnswered : Phase → Type 0
IsAnswered Idle = Unit {0}
IsAnswered (Held k) = ⊥
IsAnswered (Looked k l) = ⊥
IsAnswered (Applied k l) = ⊥
IsAnswered (Failed k l again) = again ≡ false
IsAnswered (Ended k) = Unit {0}
IsAnswered (Gathered g) = ⊥

-- a step that begins a call, or gathers for a switch
abbrev pub starts : Deed → Bool
starts (Begin c) = true
starts Look = false
starts Mark = false
starts Apply = false
starts Commit = false
starts Back = false
starts End = false
starts (Gather set) = true
starts (Prepare u) = false

-- none of these steps starts a call of the session
abbrev pub StartsNone : ℕ → List Step → Type 0
StartsNone session [] = Unit {0}
StartsNone session (e ∷ es) = (e.session ≡ session → starts e.deed ≡ false) × StartsNone session es

-- What the commit of an applied call comes to (own profile).
use Rattle.std.specs.Prelude.{ℕ, ◌≡◌, ◌+◌, true, false}
use Rattle.mgn_machine.specs.declared.request.Request.TheVariants.{Do}
use Rattle.mgn_machine.specs.History.{calls}
use Rattle.mgn_plan.specs.Plans.{plan_of}
use Rattle.mgn_book.specs.BookViews.{BookView, Committed}
use Rattle.mgn_book.specs.declared.book.Outcome.TheVariants.{Done as Settled}
use Rattle.mgn_book.specs.declared.by_desks.Decision.{Decision}
use Rattle.mgn_book.specs.declared.by_desks.Decision.TheVariants.{Apart, Done, Full, Memory, Stale}
use Rattle.mgn_world.specs.declared.phases.Call.{Call}
use Rattle.mgn_world.specs.declared.phases.Phase.{Phase}
use Rattle.mgn_world.specs.declared.phases.Phase.TheVariants.{Idle, Held, Looked, Applied, Failed, Ended, Gathered}
use Rattle.mgn_world.specs.Phases.{View}
use Rattle.mgn_world.specs.World.{World, are_stale, in_force, is_apart, is_full}

-- the tests of the world's definition, in their order, and one step of the machine; desks are never apart
abbrev pub Decides : World → ℕ → Call → View → Decision → BookView → BookView → Type 0
Decides w p k l Full old new = (new ≡ old) × (is_full w ≡ true)
Decides w p k l (Stale version) old new =
    (new ≡ old) × (is_full w ≡ false) × (are_stale w.state.version w.desks l.seen ≡ true)
Decides w p k l Apart old new = ⊥
Decides w p k l Memory old new = new ≡ old
Decides w p k l (Done place reply) old new =
    (is_full w ≡ false)
    × (are_stale w.state.version w.desks l.seen ≡ false)
    × (is_apart w (plan_of (in_force w) w.state k.command) ≡ false)
    × Committed w.sets old (p + 1) (calls (p + 1) old.history + 1) (Do k.command) (Settled place reply) new

-- the phase is that of an applied call
abbrev pub IsApplied : Phase → Type 0
IsApplied (Applied k l) = Unit {0}
IsApplied Idle = ⊥
IsApplied (Held k) = ⊥
IsApplied (Looked k l) = ⊥
IsApplied (Failed k l again) = ⊥
IsApplied (Ended k) = ⊥
IsApplied (Gathered g) = ⊥

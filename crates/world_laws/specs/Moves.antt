-- What steps move, and what they leave alone.
use Rattle.std.specs.Prelude.{ℕ, suc, ◌+◌, ◌≡◌, ◌≢◌, None, Some, ◌∷◌, [], ◌++◌}
use Rattle.mgn_machine.specs.declared.request.Request.{Request}
use Rattle.mgn_machine.specs.History.{calls, entry, recorded}
use Rattle.mgn_machine.specs.Step.{step}
use Rattle.mgn_book.specs.BookViews.{sets_after}
use Rattle.mgn_world.specs.declared.phases.Deed.{Deed}
use Rattle.mgn_world.specs.declared.phases.Phase.{Phase}
use Rattle.mgn_world.specs.declared.phases.Phase.TheVariants.{Idle}
use Rattle.mgn_world.specs.declared.phases.Step.{Step}
use Rattle.mgn_world.specs.World.{World, desk_at, lock_at, phase_at}

-- a step of the session at a place
abbrev pub step_of : ℕ → Deed → Step
step_of p deed = record { session = suc p; deed = deed }

-- the other sessions are in the phases that they were in
abbrev pub KeepsOthers : ℕ → World → World → Type 0
KeepsOthers p w v = (q : ℕ) → q ≢ p → phase_at v q ≡ phase_at w q

-- sets, state and history are as they were
pub record KeepsBook (w v : World) : Type 0 where
  pub sets : v.sets ≡ w.sets
  pub state : v.state ≡ w.state
  pub history : v.history ≡ w.history

-- desks and holders are as they were
pub record KeepsUnits (w v : World) : Type 0 where
  pub desks : (u : ℕ) → desk_at v u ≡ desk_at w u
  pub holders : (u : ℕ) → lock_at v u ≡ lock_at w u

-- a session comes to a phase, and nothing else changes
pub record ComesTo (p : ℕ) (to : Phase) (w v : World) : Type 0 where
  pub phase : phase_at v p ≡ to
  pub others : KeepsOthers p w v
  pub book : KeepsBook w v
  pub units : KeepsUnits w v

-- the request is one step of the machine, and has an entry, which is the session's next
pub record Enters (p : ℕ) (request : Request) (w v : World) : Type 0 where
  pub state : v.state ≡ (step w.sets w.state request).0
  pub sets : v.sets ≡ sets_after w.sets request (step w.sets w.state request).1
  pub history : v.history ≡ w.history ++ entry (p + 1) (calls (p + 1) w.history + 1) (recorded request (step w.sets w.state request).1) (step w.sets w.state request).1 ∷ []

-- what a session held is free, all else is held as it was, and the session is idle
pub record Frees (p : ℕ) (w v : World) : Type 0 where
  pub phase : phase_at v p ≡ Idle
  pub others : KeepsOthers p w v
  pub mine : (u : ℕ) → lock_at w u ≡ Some p → lock_at v u ≡ None
  pub theirs : (u : ℕ) → lock_at w u ≢ Some p → lock_at v u ≡ lock_at w u
  pub desks : (u : ℕ) → desk_at v u ≡ desk_at w u

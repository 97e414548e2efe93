-- What a session over a connection does to its seat: an executor, and the source of its sets.
use Rattle.std.specs.Prelude.{◌≡◌, ◌≤◌, ◌⊎◌, ◌+◌, ℕ, List, drop, length, map, Result, Ok, Err}
use Rattle.std.specs.List.{AllZip}
use Rattle.mgn_session.specs.Session.{IsSession, Step}
use Rattle.mgn_session.specs.declared.fault.SessionFault.{SessionFault}
use Rattle.mgn_session.specs.declared.fault.SessionFault.TheVariants as session
use Rattle.mgn_server.specs.declared.report.ConnectionFault.{ConnectionFault}
use Rattle.mgn_server.specs.declared.report.ConnectionFault.TheVariants as connection

-- The lines of some input were answered in order, and nothing else was done.
pub record HasServed {X : Type 0} (step : Step X) (old new : X) : Type 0 where
  pub input : List ℕ
  pub text : List ℕ
  pub count : ℕ
  pub session : IsSession step old new input text count

-- how a session ends: with the number of its lines, or by a fault, which is `Lines` only after the last line or the last byte
-- that may be
abbrev pub Ends : {X : Type 0} → Step X → X → X → Result ℕ SessionFault → Type 0
Ends step old new (Ok lines) = (served : HasServed step old new) × (lines ≡ served.count) × (lines ≤ 1000000)
Ends step old new (Err session.Lines) =
    (served : HasServed step old new) × ((served.count ≡ 1000000) ⊎ (length served.input ≡ 268435456))
Ends step old new (Err fault) = HasServed step old new

-- how a connection is closed: as its session ends, or with nothing done where no thread could be had
abbrev pub Closes : {X : Type 0} → Step X → X → X → Result ℕ ConnectionFault → Type 0
Closes step old new (Ok lines) = Ends step old new (Ok lines)
Closes step old new (Err connection.NoThread) = new ≡ old
Closes step old new (Err connection.NoSeat) = new ≡ old
Closes step old new (Err (connection.Session fault)) = Ends step old new (Err fault)

-- the executor comes from its seat by a session
abbrev pub Serves : {E S : Type 0} → Step (E × S) → E × S → E → Type 0
Serves {S = S} step seat exec = (source : S) × HasServed step seat (exec, source)

-- What is left of the seats after so many connections, of which there may be some more than seats: each executor comes from
-- its seat by a session, and those for which no connection came are as they were.
pub record Leaves {E S : Type 0} (step : Step (E × S)) (seats : List (E × S)) (more : ℕ) (executors : List E) (accepted : ℕ)
    : Type 0 where
  pub sessions : AllZip (Serves step) seats executors
  pub within : accepted ≤ length seats + more
  pub unserved : drop accepted executors ≡ map (λ seat. seat.0) (drop accepted seats)

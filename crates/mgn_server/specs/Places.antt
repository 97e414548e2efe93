-- Where seats are while connections are served, for the inside of this crate alone.
use Rattle.std.specs.Prelude.{◌≡◌, ◌≤◌, ◌+◌, ℕ, true, false, List, drop, length, map}
use Rattle.mgn_session.specs.Session.{Step}
use Rattle.mgn_server.specs.Served.{HasServed, Serves}
use Rattle.mgn_server.specs.declared.place.Place.{Place}
use Rattle.mgn_server.specs.declared.place.Place.TheVariants.{Taken, Free}
use Rattle.mgn_server.specs.declared.server.Door.{Door}

-- the place of a seat
abbrev pub IsPlaceOf : {E S : Type 0} → Step (E × S) → E × S → Place E S → Type 0
IsPlaceOf step seat (Taken handle) = handle.promise.0.value ≡ seat
IsPlaceOf step seat (Free left) = HasServed step seat left

-- the executor that a place gives back
abbrev pub GivesBack : {E S : Type 0} → Step (E × S) → Place E S → E → Type 0
GivesBack step (Taken handle) exec = Serves step handle.promise.0.value exec
GivesBack step (Free left) exec = exec ≡ left.0

-- the connection of this number was accepted
pub record Accepts (old new : Door) (number : ℕ) : Type 0 where
  pub was_open : old.has_failed ≡ false
  pub is_open : new.has_failed ≡ false
  pub accepted : new.accepted ≡ number

-- no connection was accepted, and none will be
pub record Refuses (old new : Door) : Type 0 where
  pub is_shut : new.has_failed ≡ true
  pub accepted : new.accepted ≡ old.accepted

-- at most so many connections more were accepted, and none where none will be
pub record TurnsAway (old new : Door) (more : ℕ) : Type 0 where
  pub kept : old.accepted ≤ new.accepted
  pub within : new.accepted ≤ old.accepted + more
  pub shut : old.has_failed ≡ true → new.accepted ≡ old.accepted

-- the seats after so many are still here
pub record AreLeft {E S : Type 0} (seats : List (E × S)) (places : List (Place E S)) (accepted : ℕ) : Type 0 where
  pub within : accepted ≤ length seats
  pub free : drop accepted places ≡ map (λ seat. Free seat) (drop accepted seats)

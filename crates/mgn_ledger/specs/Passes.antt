-- A session's pass: what it has seen of the day, and so its calls with their places (own profile).
use Rattle.std.specs.Prelude.{ℕ, Bool, ◌≡◌, ◌==◌, List, [], ◌∷◌, ◌++◌, length, Option, Some, None, IfSome}
use Rattle.std.specs.List.{All, IsDistinct, sum_by}
use Rattle.mgn_params.specs.Tables.{Tables}
use Rattle.mgn_machine.specs.declared.entry.Entry.{Entry}
use Rattle.mgn_machine.specs.declared.entry.Item.{Item}
use Rattle.mgn_machine.specs.declared.reply.Reply.{Reply}
use Rattle.mgn_machine.specs.declared.request.Request.{Request}
use Rattle.mgn_machine.specs.History.{Legal, calls, item, items_of, recorded, request_of}
use Rattle.mgn_book.specs.BookViews.{Begins, Stands}
use Rattle.mgn_day.specs.Days.{Day}

-- What a pass is seen as: its session's number, and the sets and the history up to its last call.
pub record PassView : Type 0 where
  pub session : ℕ
  pub sets : List Tables
  pub history : List Entry

-- one without calls
abbrev pub fresh : ℕ → PassView
fresh session = record { session = session; sets = []; history = [] }

-- its calls: what its session asked and was answered, with the places in the history
abbrev pub transcript : PassView → List Item
transcript p = items_of p.session p.history

-- The call stands last in the transcript. It is at the end of a legal history, which begins with all that the pass had seen;
-- a set that came into force stands by the version that shows it.
pub record IsCalled (old : PassView) (request : Request) (place : ℕ) (reply : Reply) (new : PassView) : Type 0 where
  pub session : new.session ≡ old.session
  pub calls : transcript new ≡ transcript old ++ item place (recorded request reply) reply ∷ []
  pub sets : Begins old.sets new.sets
  pub begins : Begins old.history new.history
  pub ends : place ≡ length new.history
  pub legal : Legal new.sets new.history
  pub asked : request_of new.sets (recorded request reply) ≡ request

abbrev pub same_session : PassView → PassView → Bool
same_session p q = p.session == q.session

-- no two passes are of one session
abbrev pub AreApart : List PassView → Type 0
AreApart passes = IsDistinct same_session passes

-- There is one legal history of so many entries, as many as the passes have calls, whose entries of each session are its
-- transcript; and no two passes are of one session.
pub record AreAudited (sets : List Tables) (history : List Entry) (passes : List PassView) (entries : ℕ) : Type 0 where
  pub legal : Legal sets history
  pub long : length history ≡ entries
  pub whole : sum_by (λ (p : PassView). length (transcript p)) passes ≡ entries
  pub each : All (λ (p : PassView). items_of p.session history ≡ transcript p) passes
  pub apart : AreApart passes

-- A pass beside a day: the day's history begins with what the pass has seen, and has no more calls of it.
pub record IsBeside (p : PassView) (day : Day) : Type 0 where
  pub sets : Begins p.sets day.sets
  pub history : Begins p.history day.book.history
  pub count : calls p.session day.book.history ≡ calls p.session p.history
  pub same : items_of p.session day.book.history ≡ transcript p

-- Inside the pass: what the stamp of its last call shows, nothing without a call.

abbrev pub sets_seen : {T : Type 0} → (T → Day) → Option (ℕ × T) → List Tables
sets_seen shown None = []
sets_seen shown (Some last) = (shown last.1).sets

abbrev pub history_seen : {T : Type 0} → (T → Day) → Option (ℕ × T) → List Entry
history_seen shown None = []
history_seen shown (Some last) = (shown last.1).book.history

abbrev pub pass_view : {T : Type 0} → (T → Day) → ℕ → Option (ℕ × T) → PassView
pass_view shown session last =
    record { session = session; sets = sets_seen shown last; history = history_seen shown last }

-- what it has seen stands, and it counts its calls
pub record IsPass {T : Type 0} (shown : T → Day) (session count : ℕ) (last : Option (ℕ × T)) : Type 0 where
  pub stands : IfSome last (λ at. Stands (shown at.1).sets (shown at.1).book)
  pub counted : count ≡ calls session (history_seen shown last)

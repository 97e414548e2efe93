-- What a server did once all its sessions have ended (own profile).
use Rattle.std.specs.Prelude.{◌≡◌, ℕ, List}
use Rattle.std.specs.List.{All, AllZip}
use Rattle.mgn_params.specs.Tables.{Tables}
use Rattle.mgn_machine.specs.declared.entry.Entry.{Entry}
use Rattle.mgn_ledger.specs.Ledgers.{PassAnswers}
use Rattle.mgn_ledger.specs.Passes.{AreAudited, PassView, fresh, transcript}
use Rattle.mgn_session.specs.Session.{Answers, Calls, Fetch, Step}
use Rattle.mgn_server.specs.Served.{Serves}

-- what a line does to a pass and the source of its sets: the service answers what it asks for
abbrev pub step : {S : Type 0} → Fetch S → Step (PassView × S)
step gives = Answers (Calls transcript (λ _. Unit {0}) (λ _. Unit {0}) (λ old request answer new. PassAnswers old request answer new)) gives

-- a pass that has made no call
abbrev pub IsFresh : PassView → Type 0
IsFresh pass = (session : ℕ) × (pass ≡ fresh session)

-- Each pass comes from one without calls by a session over its source: the lines of some input were answered in order, and
-- nothing else was done. One legal history of so many entries has the calls of all passes, and nothing else.
pub record IsServed {S : Type 0} (gives : Fetch S) (entries : ℕ) : Type 0 where
  pub seats : List (PassView × S)
  pub passes : List PassView
  pub fresh : All (λ seat. IsFresh seat.0) seats
  pub sessions : AllZip (Serves (step gives)) seats passes
  pub sets : List Tables
  pub history : List Entry
  pub audited : AreAudited sets history passes entries

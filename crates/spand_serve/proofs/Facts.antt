-- What a server did, from what its sessions left and what the audit found: for `serve`.
use Rattle.std.specs.Prelude.{◌≡◌, ℕ, List, Result, Ok, Err, IfOk}
use Rattle.std.specs.List.{All}
use Rattle.std.proofs.Common.{subst, sym}
use Rattle.mgn_params.specs.Tables.{Tables}
use Rattle.mgn_machine.specs.declared.entry.Entry.{Entry}
use Rattle.mgn_ledger.specs.declared.entered.AuditFault.{AuditFault}
use Rattle.mgn_ledger.specs.Passes.{AreAudited, PassView}
use Rattle.mgn_session.specs.Session.{Fetch}
use Rattle.mgn_server.specs.Served.{Leaves}
use Rattle.spand_lib.specs.declared.fault.Fault.{Fault}
use Rattle.spand_serve.specs.Served.{IsFresh, IsServed, step}

-- the audit found a legal history that has the calls of the passes
abbrev pub IsAudit : List PassView → ℕ → Type 0
IsAudit passes entries = (sets : List Tables) × (history : List Entry) × AreAudited sets history passes entries

is_served : {S : Type 0} (gives : Fetch S) (seats : List (PassView × S)) (passes : List PassView) (more accepted : ℕ)
    → All (λ seat. IsFresh seat.0) seats → Leaves (step gives) seats more passes accepted
    → (audited : Result ℕ AuditFault) → IfOk audited (IsAudit passes) → (entries : ℕ) → audited ≡ Ok entries → IsServed gives entries
is_served gives seats passes more accepted all left audited closed entries is =
    let P : _ → Type 0 = λ a. IfOk a (IsAudit passes) in let found : IsAudit passes entries = subst P is closed in record {
      seats = seats;
      passes = passes;
      fresh = all;
      sessions = left.sessions;
      sets = found.0;
      history = found.1;
      audited = found.2;
    }

-- the seats that were made are those that served, and the passes are those that they left
pub ends_served : {S : Type 0} (gives : Fetch S) (seats made : List (PassView × S)) (passes executors : List PassView) (more accepted : ℕ)
    → made ≡ seats → passes ≡ executors → All (λ seat. IsFresh seat.0) seats → Leaves (step gives) made more executors accepted
    → (audited : Result ℕ AuditFault) → IfOk audited (IsAudit passes)
    → (ended : Result ℕ Fault) → IfOk ended (λ entries. audited ≡ Ok entries) → IfOk ended (λ entries. IsServed gives entries)
ends_served gives seats made passes executors more accepted are back all left audited closed (Ok entries) is =
    let F : _ → Type 0 = λ xs. All (λ seat. IsFresh seat.0) xs in
    let L : _ → Type 0 = λ ps. Leaves (step gives) made more ps accepted in
    is_served gives made passes more accepted (subst F (sym are) all) (subst L (sym back) left) audited closed entries is
ends_served gives seats made passes executors more accepted are back all left audited closed (Err fault) is = is

-- One switch: the state with its rows, and the shelf, after it, as `switch_set` leaves them.
use Rattle.std.proofs.Common.{All, IfOk, IfSome, OnOk, Result, Ok, Err, length-append, ◌≡◌, ◌+◌, ◌-◌, ◌<◌, ◌∙◌, ℕ, true, List, [], ◌∷◌, ◌++◌, length, get_or, sym, ap, arith, refl, subst, filter}
use Rattle.std.proofs.lemmas.List.{get_or-append_right}
use Rattle.mgn_params.specs.Shelves.{set_at}
use Rattle.mgn_params.specs.Tables.{Tables, no_tables}
use Rattle.mgn_machine.specs.declared.origin.Origin.{Origin}
use Rattle.mgn_machine.specs.declared.reply.Refusal.{Refusal}
use Rattle.mgn_machine.specs.declared.reply.Reply.{Reply}
use Rattle.mgn_machine.specs.declared.reply.Reply.TheVariants.{NewSet}
use Rattle.mgn_machine.specs.declared.request.Request.TheVariants.{Switch}
use Rattle.mgn_machine.specs.NewSet.{covers, on_call, set_fits}
use Rattle.mgn_machine.specs.Step.{switched}
use Rattle.mgn_machine.specs.State.{AccountState}
use Rattle.mgn_unit.specs.declared.row.Row.{Row}
use Rattle.mgn_unit.specs.declared.amounts.NewRows.{NewRows}
use Rattle.mgn_unit.specs.Amounts.{AreAfter}
use Rattle.mgn_unit.specs.NewSets.{row_on_call}
use Rattle.mgn_unit.proofs.Covered.{covers-known}
use Rattle.mgn_register.specs.BookStates.{BookState, IsKept, IsUnitRow, book_state}
use Rattle.mgn_register.specs.UnderSets.{AreNewRows}
use Rattle.mgn_book.specs.Switches.{IsSwitched}
use Rattle.mgn_register.proofs.Switches.{on_call-counted}
use Rattle.mgn_register.specs.declared.step_fault.StepFault.{StepFault}

-- the set of the version after those that there are
pub last-set : (sets : List Tables) (t : Tables) (version : ℕ) → length sets ≡ version → set_at (sets ++ t ∷ []) version ≡ t
last-set sets t version long = get_or-append_right sets (t ∷ []) version version (no_tables []) long (omega arith) ∙ ap (λ (k : ℕ). get_or (t ∷ []) k (no_tables [])) (none version)
  where
    none : (n : ℕ) → n - n ≡ 0
    none n = omega arith

-- the book under a set that came into force
pub in-force-kept : (old t : Tables) (f : BookState) (rows : List Row) (version : ℕ) → IsKept old f → covers t f.state.accounts ≡ true → length rows ≡ length f.rows
    → ((u : ℕ) (d : Row) → u < length rows → IsUnitRow t f.state.accounts u (get_or rows u d)) → IsKept t (book_state f.state.origins f.state.accounts rows f.state.closed version)
in-force-kept old t f rows version kept covered long are = record {
  units = refl;
  few_units = omega (arith, long, kept.few_units);
  few_accounts = kept.few_accounts;
  accounts = kept.accounts;
  known = covers-known t f.state.accounts covered;
  within = subst (λ (n : ℕ). All (λ (a : AccountState). a.unit < n) f.state.accounts) (sym long) kept.within;
  homes = kept.homes;
  netted = subst (λ (n : ℕ). All (λ (o : Origin). IfSome o.unit (λ u. u < n)) f.state.origins) (sym long) kept.netted;
  rows = are;
}

pub switched-in_force : (sets : List Tables) (t : Tables) (f : BookState) (rows : List Row) → length sets ≡ f.state.version + 1 → IsKept (set_at sets f.state.version) f → set_fits t f.state ≡ Ok tt → covers t f.state.accounts ≡ true
    → length rows ≡ length f.rows → ((u : ℕ) (d : Row) → u < length rows → IsUnitRow t f.state.accounts u (get_or rows u d))
    → IsSwitched sets (sets ++ t ∷ []) f (book_state f.state.origins f.state.accounts rows f.state.closed (f.state.version + 1)) t (NewSet record { version = f.state.version + 1; on_call = length (filter row_on_call rows) })
switched-in_force sets t f rows shown kept fits covered long are =
    let last : set_at (sets ++ t ∷ []) (f.state.version + 1) ≡ t = last-set sets t (f.state.version + 1) shown in
    let units : length rows ≡ f.state.units = long ∙ sym kept.units in
    let calls : length (filter row_on_call rows) ≡ on_call t f.state.accounts f.state.units = on_call-counted t f.state.accounts rows are ∙ ap (on_call t f.state.accounts) units in
    record {
      stepped = told units calls ∙ sym (ap (λ (r : Result (Unit {0}) Refusal). switched f.state (on_call t f.state.accounts f.state.units) r) fits);
      put = refl;
      asked = ap (λ (x : Tables). Switch x) last;
      shown = omega (arith, shown, length-append sets (t ∷ []));
      kept = subst (λ (x : Tables). IsKept x (book_state f.state.origins f.state.accounts rows f.state.closed (f.state.version + 1))) (sym last) (in-force-kept (set_at sets f.state.version) t f rows (f.state.version + 1) kept covered long are);
      rows = long;
    }
  where
    told : {m n : ℕ} → length rows ≡ f.state.units → m ≡ n → ((book_state f.state.origins f.state.accounts rows f.state.closed (f.state.version + 1)).state, NewSet record { version = f.state.version + 1; on_call = m }) ≡ switched f.state n (Ok tt)
    told units same = λ i. (record { origins = f.state.origins; accounts = f.state.accounts; units = units i; closed = f.state.closed; version = f.state.version + 1 }, NewSet record { version = f.state.version + 1; on_call = same i })

-- where the set was put and the rows became those under it
pub switched-entered : (sets now : List Tables) (t : Tables) (f new : BookState) (rows : NewRows) (result : Result Reply StepFault) → length sets ≡ f.state.version + 1 → IsKept (set_at sets f.state.version) f → set_fits t f.state ≡ Ok tt
    → covers t f.state.accounts ≡ true → AreNewRows t f rows → OnOk result (AreAfter rows f.rows new.rows) → OnOk result (now ≡ sets ++ t ∷ [])
    → OnOk result (new ≡ book_state f.state.origins f.state.accounts new.rows f.state.closed (f.state.version + 1)) → IfOk result (λ reply. reply ≡ NewSet record { version = f.state.version + 1; on_call = length (filter row_on_call new.rows) })
    → IfOk result (λ reply. IsSwitched sets now f new t reply)
switched-entered sets now t f new rows (Ok reply) shown kept fits covered are after put made told =
    let entered = switched-in_force sets t f new.rows shown kept fits covered (are.long new.rows after) (are.are new.rows after) in
    subst (λ (x : List Tables). IsSwitched sets x f new t reply) (sym put)
    (subst (λ (x : Reply). IsSwitched sets (sets ++ t ∷ []) f new t x) (sym told)
    (subst (λ (x : BookState). IsSwitched sets (sets ++ t ∷ []) f x t (NewSet record { version = f.state.version + 1; on_call = length (filter row_on_call new.rows) })) (sym made) entered))
switched-entered sets now t f new rows (Err fault) shown kept fits covered are after put made told = tt

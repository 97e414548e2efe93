-- The nets of units after a command are those of its plan, as each change of the register promises.
use Rattle.std.proofs.Common.{◌≡◌, ◌≢◌, ◌<◌, ◌∙◌, ⊎_elim, ℕ, List, [], ◌∷◌, ◌++◌, length, length-append, get_or, set, sym, ap, subst, refl, arith, eq-eqb, ne_eqb, OnOk, IfOk, Result, Ok, Err}
use Rattle.std.proofs.lemmas.Bool.{cases_eq}
use Rattle.std.proofs.lemmas.List.{get_or-set_same, get_or-set_other, get_or_append_left, get_or_default, length-set}
use Rattle.mgn_params.specs.Tables.{Tables}
use Rattle.mgn_machine.specs.declared.reply.Refusal.{Refusal}
use Rattle.mgn_machine.specs.State.{AccountState, State, account_at, no_account}
use Rattle.mgn_unit.specs.declared.change.Change.{Change}
use Rattle.mgn_unit.specs.declared.row.Row.{Row}
use Rattle.mgn_unit.specs.Rows.{nets_in, no_row, row_with}
use Rattle.mgn_register.specs.declared.step_fault.StepFault.{StepFault}
use Rattle.mgn_register.specs.declared.step_fault.StepFault.TheVariants.{Refused, Memory}
use Rattle.mgn_plan.specs.declared.plans.Plan.{Plan}
use Rattle.mgn_plan.specs.declared.plans.Plan.TheVariants.{Nothing, One, Two}
use Rattle.mgn_plan.specs.declared.plans.UnitChange.{UnitChange}
use Rattle.mgn_register.specs.declared.transfers.Party.{Party}
use Rattle.mgn_register.specs.BookStates.{BookState, Steps, answer_of}
use Rattle.mgn_plan.specs.Plans.{FollowsPlan, LeavesNets, both_plan, in_unit_of, moved_nets, nets_by, row_at}
use Rattle.mgn_register.proofs.Moving.{EnteredAcross, EnteredWithin}
use Rattle.mgn_plan.proofs.Nets.{nets_by-same, nets_by-other}

-- one row replaced by one with the nets of a change
row-nets : (set' : Tables) (rows : List Row) (u : UnitChange) (row : Row) (k : ℕ) → u.unit < length rows → nets_in row ≡ moved_nets u.change (nets_in (row_at set' rows u.unit)) → nets_in (row_at set' (set rows u.unit row) k) ≡ nets_by u k (nets_in (row_at set' rows k))
row-nets set' rows u row k inside moved = ⊎_elim own other (cases_eq u.unit k)
  where
    own : u.unit ≡ k → nets_in (row_at set' (set rows u.unit row) k) ≡ nets_by u k (nets_in (row_at set' rows k))
    own same =
        subst (λ (n : ℕ). nets_in (row_at set' (set rows u.unit row) n) ≡ nets_by u n (nets_in (row_at set' rows n))) same
        (ap nets_in (get_or-set_same rows u.unit row (no_row set') inside) ∙ moved ∙ sym (nets_by-same u u.unit (nets_in (row_at set' rows u.unit)) refl))

    other : u.unit ≢ k → nets_in (row_at set' (set rows u.unit row) k) ≡ nets_by u k (nets_in (row_at set' rows k))
    other apart =
        ap nets_in (get_or-set_other rows u.unit k row (no_row set') (λ e. apart (sym e))) ∙ sym (nets_by-other u k (nets_in (row_at set' rows k)) apart)

-- a change of one unit
pub follows-one : (set' : Tables) (rows : List Row) (u : UnitChange) (row : Row) → u.unit < length rows → nets_in row ≡ moved_nets u.change (nets_in (row_at set' rows u.unit)) → FollowsPlan set' (One u) rows (set rows u.unit row)
follows-one set' rows u row inside moved = record {
  long = omega (arith, length-set rows u.unit row);
  each = λ k less. row-nets set' rows u row k inside moved;
}

-- changes of two units
pub follows-two : (set' : Tables) (rows : List Row) (u v : UnitChange) (given taken : Row) → u.unit < length rows → v.unit < length rows → v.unit ≢ u.unit → nets_in given ≡ moved_nets u.change (nets_in (row_at set' rows u.unit)) → nets_in taken ≡ moved_nets v.change (nets_in (row_at set' rows v.unit))
    → FollowsPlan set' (Two u v) rows (set (set rows u.unit given) v.unit taken)
follows-two set' rows u v given taken inside inside_too apart moved moved_too = record {
  long = omega (arith, length-set rows u.unit given, length-set (set rows u.unit given) v.unit taken);
  each = λ k less.
      row-nets set' (set rows u.unit given) v taken k (omega (arith, inside_too, length-set rows u.unit given))
      (moved_too ∙ ap (λ (r : Row). moved_nets v.change (nets_in r)) (sym (get_or-set_other rows u.unit v.unit given (no_row set') apart)))
      ∙ ap (nets_by v k) (row-nets set' rows u given k inside moved);
}

-- a row replaced by one of the same nets
pub follows-kept : (set' : Tables) (rows : List Row) (n : ℕ) (row : Row) → n < length rows → nets_in row ≡ nets_in (row_at set' rows n) → FollowsPlan set' Nothing rows (set rows n row)
follows-kept set' rows n row inside same = record {
  long = omega (arith, length-set rows n row);
  each = λ k less. ⊎_elim
      (λ (e : n ≡ k). subst (λ (j : ℕ). nets_in (row_at set' (set rows n row) j) ≡ nets_in (row_at set' rows j)) e
      (ap nets_in (get_or-set_same rows n row (no_row set') inside) ∙ same))
      (λ (apart : n ≢ k). ap nets_in (get_or-set_other rows n k row (no_row set') (λ e. apart (sym e))))
      (cases_eq n k);
}

pub follows-none : (set' : Tables) (rows : List Row) (n : ℕ) (was row : Row) → n < length rows → was ≡ get_or rows n was → nets_in row ≡ nets_in was → FollowsPlan set' Nothing rows (set rows n row)
follows-none set' rows n was row inside there same =
    follows-kept set' rows n row inside (same ∙ ap nets_in (there ∙ get_or_default rows n was (no_row set') inside))

-- a row more
pub follows-more : (set' : Tables) (rows : List Row) (row : Row) → FollowsPlan set' Nothing rows (rows ++ row ∷ [])
follows-more set' rows row = record {
  long = omega (arith, length-append rows (row ∷ []));
  each = λ k less. ap nets_in (get_or_append_left rows (row ∷ []) (no_row set') k less);
}

-- no row changed
pub follows-same : (set' : Tables) (rows : List Row) → FollowsPlan set' Nothing rows rows
follows-same set' rows = record { long = omega arith; each = λ k less. refl }

-- a command that changes the row of an account's unit as its plan says
pub follows-planned : (set' : Tables) (f g : BookState) (plan : BookState → Plan) (k n : ℕ) (a : AccountState) (change : Change) (was row : Row) → f ≡ g → k < length f.state.accounts → a ≡ get_or f.state.accounts k a → n ≡ a.unit → n < length f.rows → was ≡ get_or f.rows n was
    → plan g ≡ One (in_unit_of g.state k change) → row ≡ row_with set' change was → FollowsPlan set' (plan g) g.rows (set f.rows n row)
follows-planned set' f g plan k n a change was row same there found unit inside here planned changed =
    subst (λ (h : BookState). FollowsPlan set' (plan g) h.rows (set f.rows n row)) same
    (subst (λ (p : Plan). FollowsPlan set' p f.rows (set f.rows n row)) (sym own)
    (follows-one set' f.rows record { account = k; unit = n; change = change } row inside (ap nets_in changed ∙ ap (λ (r : Row). moved_nets change (nets_in r)) (here ∙ get_or_default f.rows n was (no_row set') inside))))
  where
    unit_is : (account_at g.state.accounts k).unit ≡ n
    unit_is =
        ap (λ (h : BookState). (account_at h.state.accounts k).unit) (sym same)
        ∙ ap (λ (x : AccountState). x.unit) (sym (found ∙ get_or_default f.state.accounts k a no_account there))
        ∙ sym unit

    own : plan g ≡ One record { account = k; unit = n; change = change }
    own = planned ∙ (λ j. One record { account = k; unit = unit_is j; change = change })

-- from a change to its answer
pub leaves_by : {X : Type 0} (set' : Tables) (plan : Plan) (want : Result State Refusal) (done : Result X StepFault) (old new : BookState) → Steps want done old new → OnOk done (FollowsPlan set' plan old.rows new.rows) → IfOk (answer_of done) (λ reply. LeavesNets set' plan reply old.rows new.rows)
leaves_by set' plan want (Ok done) old new steps follows = follows
leaves_by set' plan want (Err (Refused why)) old new steps follows = ap (λ (f : BookState). f.rows) steps.1
leaves_by set' plan want (Err Memory) old new steps follows = tt

-- A transfer.

pub both-none : (u v : UnitChange) → u.unit ≡ v.unit → both_plan u v ≡ Nothing
both-none u v same = rw (eq-eqb u.unit v.unit same) refl

pub both-two : (u v : UnitChange) → u.unit ≢ v.unit → both_plan u v ≡ Two u v
both-two u v apart = rw (ne_eqb u.unit v.unit apart) refl

pub within-follows : (set' : Tables) (accounts now : List AccountState) (rows after : List Row) (giver taker : Party) (plan : Plan) (result : Result (Unit {0}) StepFault) → plan ≡ Nothing → giver.unit < length rows
    → EnteredWithin set' accounts rows giver taker result now after → OnOk result (FollowsPlan set' plan rows after)
within-follows set' accounts now rows after giver taker plan (Ok done) none inside entered =
    subst (λ (x : Plan × List Row). FollowsPlan set' x.0 rows x.1) (λ j. (sym none j, sym entered.rows_are j)) (follows-kept set' rows giver.unit _ inside refl)
within-follows set' accounts now rows after giver taker plan (Err why) none inside entered = tt

abbrev pub change_of : Party → UnitChange
change_of p = record { account = p.place; unit = p.unit; change = p.change }

pub across-follows : (set' : Tables) (accounts now : List AccountState) (rows after : List Row) (giver taker : Party) (plan : Plan) (result : Result (Unit {0}) StepFault) → plan ≡ Two (change_of giver) (change_of taker) → giver.unit < length rows → taker.unit < length rows → taker.unit ≢ giver.unit
    → EnteredAcross set' accounts rows giver taker result now after → OnOk result (FollowsPlan set' plan rows after)
across-follows set' accounts now rows after giver taker plan (Ok done) two inside inside_too apart entered =
    subst (λ (x : Plan × List Row). FollowsPlan set' x.0 rows x.1) (λ j. (sym two j, sym entered.rows_are j))
    (follows-two set' rows (change_of giver) (change_of taker) (row_with set' giver.change (row_at set' rows giver.unit)) (row_with set' taker.change (row_at set' rows taker.unit)) inside inside_too apart refl refl)
across-follows set' accounts now rows after giver taker plan (Err why) two inside inside_too apart entered = tt

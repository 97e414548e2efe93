-- What Look, Apply, Back and End do: for the laws of calls.
use Rattle.std.proofs.Common.{◌≡◌, ◌≢◌, ◌<◌, ◌≤◌, ◌∙◌, inl, inr, ⊎_elim, ℕ, Bool, true, false, Option, None, Some, List, [], ◌∷◌, length, map, sym, ap, subst, refl}
use Rattle.std.specs.Prelude.{◌&&◌, if◌then◌else◌, slice_index_or, slice_set}
use Rattle.std.proofs.lemmas.Bool.{eq-eqb}
use Rattle.std.proofs.lemmas.List.{get_or-set_same, get_or-set_other}
use Rattle.mgn_params.specs.Tables.{Tables}
use Rattle.mgn_desk.specs.Desks.{MarkedNets}
use Rattle.mgn_machine.specs.declared.request.Request.TheVariants.{Do}
use Rattle.mgn_machine.specs.Step.{step}
use Rattle.mgn_machine.specs.State.{AccountState}
use Rattle.mgn_plan.specs.declared.plans.Plan.{Plan}
use Rattle.mgn_plan.specs.declared.plans.Plan.TheVariants.{Nothing, One, Two}
use Rattle.mgn_plan.specs.Plans.{plan_of}
use Rattle.mgn_world.specs.Claims.{IsAmong, IsReached, IsAtRest}
use Rattle.mgn_world.specs.declared.phases.Call.{Call}
use Rattle.mgn_world.specs.declared.phases.Deed.{Deed}
use Rattle.mgn_world.specs.declared.phases.Deed.TheVariants.{Apply, Back, End, Look}
use Rattle.mgn_world.specs.declared.phases.Phase.{Phase}
use Rattle.mgn_world.specs.declared.phases.Phase.TheVariants.{Idle, Held, Looked, Applied, Failed, Ended}
use Rattle.mgn_world.specs.Phases.{View}
use Rattle.mgn_world.specs.World.{World, applies, are_of, backs, desk_at, does, ends, finished, freed, in_force, is_full, is_of, lengthened, lock_at, look_on, looked_at, looks, next, phase_at, planned_desks, seen_at, stepped, with_phase}
use Rattle.mgn_world.proofs.Decided.{not_full}
use Rattle.mgn_world.proofs.Locks.{freed_at, freed_mine, freed_other, lengthened_at}
use Rattle.mgn_world.proofs.Said.{good_reached}
use Rattle.mgn_world.proofs.Simple.{held_desk}
use Rattle.world_laws.specs.Calls.{marked_under}
use Rattle.world_laws.specs.Moves.{ComesTo, Enters, Frees, KeepsBook, KeepsOthers, step_of}
use Rattle.world_laws.proofs.Places.{busy_inside, by_does, next_out, there_or}
use Rattle.world_laws.proofs.Turning.{others_stay, turn_as}

-- nothing but a session's phase
pub comes : (w : World) (p : ℕ) (st : Phase) → p < length w.phases → ComesTo p st w (with_phase w p st)
comes w p st there = record {
  phase = get_or-set_same w.phases p st Idle there;
  others = λ q other. get_or-set_other w.phases p q st Idle other;
  book = record { sets = refl; state = refl; history = refl };
  units = record { desks = λ u. refl; holders = λ u. refl };
}

pub held_there : (w : World) (p : ℕ) (k : Call) → phase_at w p ≡ Held k → p < length w.phases
held_there w p k is = busy_inside w p (Held k) is (λ (e : Held k ≡ Idle). cc)

pub looked_there : (w : World) (p : ℕ) (k : Call) (l : View) → phase_at w p ≡ Looked k l → p < length w.phases
looked_there w p k l is = busy_inside w p (Looked k l) is (λ (e : Looked k l ≡ Idle). cc)

pub applied_there : (w : World) (p : ℕ) (k : Call) (l : View) → phase_at w p ≡ Applied k l → p < length w.phases
applied_there w p k l is = busy_inside w p (Applied k l) is (λ (e : Applied k l ≡ Idle). cc)

pub failed_there : (w : World) (p : ℕ) (k : Call) (l : View) (again : Bool) → phase_at w p ≡ Failed k l again → p < length w.phases
failed_there w p k l again is = busy_inside w p (Failed k l again) is (λ (e : Failed k l again ≡ Idle). cc)

pub ended_there : (w : World) (p : ℕ) (k : Call) → phase_at w p ≡ Ended k → p < length w.phases
ended_there w p k is = busy_inside w p (Ended k) is (λ (e : Ended k ≡ Idle). cc)

-- Look

look_on_is : (w : World) (p : ℕ) (k : Call) (plan : Plan) → plan ≢ Nothing → look_on w p k plan ≡ with_phase w p (looked_at w k plan)
look_on_is w p k Nothing some = absurd (some refl)
look_on_is w p k (One u) some = refl
look_on_is w p k (Two u v) some = refl

does_look : (w : World) (p : ℕ) (k : Call) (plan : Plan) → phase_at w p ≡ Held k → plan_of (in_force w) w.state k.command ≡ plan → does w p Look ≡ look_on w p k plan
does_look w p k plan is found = ap (looks w p) is ∙ ap (look_on w p k) found

pub look_comes : (w : World) (p : ℕ) (k : Call) (plan : Plan) → phase_at w p ≡ Held k → plan_of (in_force w) w.state k.command ≡ plan → plan ≢ Nothing → ComesTo p (looked_at w k plan) w (next w (step_of p Look))
look_comes w p k plan is found some =
    let there = held_there w p k is in
    by_does (ComesTo p (looked_at w k plan) w) w (with_phase w p (looked_at w k plan)) p Look there (does_look w p k plan is found ∙ look_on_is w p k plan some) (comes w p (looked_at w k plan) there)

-- all units of a session given back, after a step of the machine or none
frees_when : (w : World) (p : ℕ) (k : Call) (full : Bool) → p < length w.phases → Frees p w (finished (if full then w else stepped w p (Do k.command) (step w.sets w.state (Do k.command))) p)
frees_when w p k true there = record {
  phase = get_or-set_same w.phases p Idle Idle there;
  others = λ q other. get_or-set_other w.phases p q Idle Idle other;
  mine = λ u e. freed_at p w.locks u ∙ freed_mine p (lock_at w u) e;
  theirs = λ u n. freed_at p w.locks u ∙ freed_other p (lock_at w u) n;
  desks = λ u. refl;
}
frees_when w p k false there =
    let units : ℕ = (step w.sets w.state (Do k.command)).0.units in
    record {
      phase = get_or-set_same w.phases p Idle Idle there;
      others = λ q other. get_or-set_other w.phases p q Idle Idle other;
      mine = λ u e. freed_at p (lengthened units w.locks) u ∙ freed_mine p _ (lengthened_at units w.locks u ∙ e);
      theirs = λ u n. freed_at p (lengthened units w.locks) u ∙ ap (freed p) (lengthened_at units w.locks u) ∙ freed_other p (lock_at w u) n;
      desks = λ u. lengthened_at units w.desks u;
    }

pub look_frees : (w : World) (p : ℕ) (k : Call) → phase_at w p ≡ Held k → plan_of (in_force w) w.state k.command ≡ Nothing → Frees p w (next w (step_of p Look))
look_frees w p k is none =
    let there = held_there w p k is in
    by_does (Frees p w) w (look_on w p k Nothing) p Look there (does_look w p k Nothing is none) (frees_when w p k (is_full w) there)

enters_when : (w : World) (p : ℕ) (k : Call) (full : Bool) → full ≡ false → Enters p (Do k.command) w (finished (if full then w else stepped w p (Do k.command) (step w.sets w.state (Do k.command))) p)
enters_when w p k true e = cc
enters_when w p k false e = record { state = refl; sets = refl; history = refl }

pub look_enters : (w : World) (p : ℕ) (k : Call) → phase_at w p ≡ Held k → plan_of (in_force w) w.state k.command ≡ Nothing → length w.history < 1000000 → Enters p (Do k.command) w (next w (step_of p Look))
look_enters w p k is none few =
    by_does (Enters p (Do k.command) w) w (look_on w p k Nothing) p Look (held_there w p k is) (does_look w p k Nothing is none) (enters_when w p k (is_full w) (not_full (length w.history) few))

-- Apply

pub of_version : (version : ℕ) (d : Option MarkedNets) → marked_under d ≡ Some version → is_of version d ≡ true
of_version version None e = cc
of_version version (Some m) e = eq-eqb m.version version (by (Some m.version) e refl)
  where
    by : (o : Option ℕ) → o ≡ Some version → o ≡ Some m.version → m.version ≡ version
    by o a b = cc

pub all_of : (version : ℕ) (desks : List (Option MarkedNets)) (t : Tables) (accounts : List AccountState) (us : List ℕ) → ((u : ℕ) → IsAmong u us → marked_under (slice_index_or desks u None) ≡ Some version) → are_of version desks (map (seen_at t accounts) us) ≡ true
all_of version desks t accounts [] each = refl
all_of version desks t accounts (u ∷ us) each =
    ap (λ (b : Bool). b && are_of version desks (map (seen_at t accounts) us)) (of_version version (slice_index_or desks u None) (each u (inl refl)))
    ∙ all_of version desks t accounts us (λ x h. each x (inr h))

-- where all desks are of the version, the call is applied
pub does_apply : (w : World) (p : ℕ) (k : Call) (l : View) → phase_at w p ≡ Looked k l → are_of l.version w.desks l.seen ≡ true → does w p Apply ≡ record w { desks = planned_desks l.plan w.desks; phases = slice_set w.phases p (Applied k l) }
does_apply w p k l is of =
    ap (applies w p) is ∙ ap (λ (b : Bool). if b then record w { desks = planned_desks l.plan w.desks; phases = slice_set w.phases p (Applied k l) } else w) of

-- Back

pub back_comes : (w : World) (p : ℕ) (k : Call) (l : View) (again : Bool) → phase_at w p ≡ Failed k l again → phase_at (next w (step_of p Back)) p ≡ (if again then Held k else Ended k)
back_comes w p k l again is =
    let there = failed_there w p k l again is in
    by_does (λ v. phase_at v p ≡ (if again then Held k else Ended k)) w (backs w p (Failed k l again)) p Back there (ap (backs w p) is) (get_or-set_same w.phases p (if again then Held k else Ended k) Idle there)

-- every step leaves the other sessions in their phases
pub others_in : (w : World) (p : ℕ) (d : Deed) → KeepsOthers p w (next w (step_of p d))
others_in w p d = λ q other. others_stay w (next w (step_of p d)) p _ (turn_as w p d) q other

-- book and holders
record Keeps (w v : World) : Type 0 where
  book : KeepsBook w v
  locks : v.locks ≡ w.locks

back_keeps : (w : World) (p : ℕ) (st : Phase) → Keeps w (backs w p st)
back_keeps w p (Failed k l again) = record { book = record { sets = refl; state = refl; history = refl }; locks = refl }
back_keeps w p st = record { book = record { sets = refl; state = refl; history = refl }; locks = refl }

-- what holds of a step that is made, and of none
pub in_any : (P : World → Type 0) (w : World) (p : ℕ) (d : Deed) → P w → P (does w p d) → P (next w (step_of p d))
in_any P w p d same done = ⊎_elim
    (λ (there : p < length w.phases). by_does P w (does w p d) p d there refl done)
    (λ (out : length w.phases ≤ p). subst P (sym (next_out w p d out)) same)
    (there_or w p)

pub same_book : (w : World) → KeepsBook w w
same_book w = record { sets = refl; state = refl; history = refl }

back_all : (w : World) (p : ℕ) → Keeps w (next w (step_of p Back))
back_all w p = in_any (Keeps w) w p Back record { book = same_book w; locks = refl } (back_keeps w p (phase_at w p))

pub back_book : (w : World) (p : ℕ) → KeepsBook w (next w (step_of p Back))
back_book w p = (back_all w p).book

pub back_holders : (w : World) (p u : ℕ) → lock_at (next w (step_of p Back)) u ≡ lock_at w u
back_holders w p u = ap (λ (locks : List (Option ℕ)). slice_index_or locks u None) (back_all w p).locks

-- End

end_keeps : (w : World) (p : ℕ) (st : Phase) → KeepsBook w (ends w p st)
end_keeps w p (Ended k) = record { sets = refl; state = refl; history = refl }
end_keeps w p st = record { sets = refl; state = refl; history = refl }

pub end_book : (w : World) (p : ℕ) → KeepsBook w (next w (step_of p End))
end_book w p = in_any (KeepsBook w) w p End (same_book w) (end_keeps w p (phase_at w p))

pub end_frees : (w : World) (p : ℕ) (k : Call) → phase_at w p ≡ Ended k → Frees p w (next w (step_of p End))
end_frees w p k is =
    let there = ended_there w p k is in
    by_does (Frees p w) w (finished w p) p End there (ap (ends w p) is) (frees_when w p k true there)

-- Desks of units that are held

pub held_rests : (w : World) (p u : ℕ) (k : Call) → IsReached w → phase_at w p ≡ Held k → lock_at w u ≡ Some p → IsAtRest w.sets w.state.accounts u (desk_at w u)
held_rests w p u k reached is mine = held_desk w p u (Held k) (good_reached w reached) is mine

pub looked_rests : (w : World) (p u : ℕ) (k : Call) (l : View) → IsReached w → phase_at w p ≡ Looked k l → lock_at w u ≡ Some p → IsAtRest w.sets w.state.accounts u (desk_at w u)
looked_rests w p u k l reached is mine = held_desk w p u (Looked k l) (good_reached w reached) is mine

pub ended_rests : (w : World) (p u : ℕ) (k : Call) → IsReached w → phase_at w p ≡ Ended k → lock_at w u ≡ Some p → IsAtRest w.sets w.state.accounts u (desk_at w u)
ended_rests w p u k reached is mine = held_desk w p u (Ended k) (good_reached w reached) is mine

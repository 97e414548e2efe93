-- Two Marks are enough, as the laws of calls and of progress need.
use Rattle.std.proofs.Common.{◌≡◌, ◌≢◌, ◌<◌, ◌≤◌, ◌∙◌, ◌⊎◌, inl, inr, ⊎_elim, ℕ, Bool, true, false, Option, None, Some, List, [], ◌∷◌, length, map, get_or, set, sym, ap, subst, refl, arith}
use Rattle.std.specs.Prelude.{◌&&◌, if◌then◌else◌, nat_lt, slice_index_or, slice_set}
use Rattle.std.proofs.lemmas.Bool.{cases_eq, eq-eqb, eqb-true}
use Rattle.std.proofs.lemmas.List.{get_or-set_same, get_or-set_other, length-set}
use Rattle.mgn_params.specs.Shelves.{set_at}
use Rattle.mgn_params.specs.Tables.{Tables}
use Rattle.mgn_desk.specs.Desks.{MarkedNets}
use Rattle.mgn_machine.specs.State.{AccountState}
use Rattle.mgn_plan.specs.declared.plans.Plan.{Plan}
use Rattle.mgn_plan.specs.declared.plans.Plan.TheVariants.{Nothing, One, Two}
use Rattle.mgn_world.specs.Claims.{IsAmong, IsReached}
use Rattle.mgn_world.specs.declared.phases.Call.{Call}
use Rattle.mgn_world.specs.declared.phases.Deed.TheVariants.{Mark}
use Rattle.mgn_world.specs.declared.phases.Phase.TheVariants.{Looked}
use Rattle.mgn_world.specs.Phases.{View}
use Rattle.mgn_world.specs.declared.phases.Seen.{Seen}
use Rattle.mgn_world.specs.Standing.{Good, Owns, Sees}
use Rattle.mgn_world.specs.World.{World, are_of, desk_at, is_of, mark_first, marks, next, phase_at, plan_units, seen_at, unit_nets}
use Rattle.mgn_world.proofs.Desks.{plan_held}
use Rattle.mgn_world.proofs.Locks.{lock_inside}
use Rattle.mgn_world.proofs.Said.{good_reached}
use Rattle.mgn_world.proofs.Simple.{session}
use Rattle.world_laws.specs.Calls.{MarksOne, marked_under}
use Rattle.world_laws.specs.Moves.{step_of}
use Rattle.world_laws.proofs.Calling.{looked_there, of_version}
use Rattle.world_laws.proofs.Places.{by_does}

-- each unit that was looked at has a desk
abbrev AreThere : ℕ → List Seen → Type 0
AreThere n [] = Unit {0}
AreThere n (x ∷ xs) = (x.unit < n) × AreThere n xs

-- a desk that was set to the version is of it
set_of : (version : ℕ) (desks : List (Option MarkedNets)) (x : Seen) → x.unit < length desks → is_of version (get_or (set desks x.unit (Some record { version = version; nets = x.nets })) x.unit None) ≡ true
set_of version desks x there = ap (is_of version) (get_or-set_same desks x.unit (Some record { version = version; nets = x.nets }) None there) ∙ eq-eqb version version refl

-- and so are those that were before
set_keeps : (version : ℕ) (desks : List (Option MarkedNets)) (x : Seen) (u : ℕ) → x.unit < length desks → is_of version (get_or desks u None) ≡ true → is_of version (get_or (set desks x.unit (Some record { version = version; nets = x.nets })) u None) ≡ true
set_keeps version desks x u there is = ⊎_elim
    (λ (e : u ≡ x.unit). ap (λ (i : ℕ). is_of version (get_or (set desks x.unit (Some record { version = version; nets = x.nets })) i None)) e ∙ set_of version desks x there)
    (λ (other : u ≢ x.unit). ap (is_of version) (get_or-set_other desks x.unit u (Some record { version = version; nets = x.nets }) None other) ∙ is)
    (cases_eq u x.unit)

keeps_when : (b : Bool) (version : ℕ) (xs ys : List (Option MarkedNets)) (u : ℕ) → is_of version (get_or xs u None) ≡ true → is_of version (get_or ys u None) ≡ true → is_of version (get_or (if b then xs else ys) u None) ≡ true
keeps_when true version xs ys u first second = first
keeps_when false version xs ys u first second = second

keeps : (version : ℕ) (seen : List Seen) (desks : List (Option MarkedNets)) (u : ℕ) → AreThere (length desks) seen → is_of version (get_or desks u None) ≡ true → is_of version (get_or (mark_first version seen desks) u None) ≡ true
keeps version [] desks u there is = is
keeps version (x ∷ xs) desks u there is =
    keeps_when (is_of version (slice_index_or desks x.unit None)) version _ _ u (keeps version xs desks u there.1 is) (set_keeps version desks x u there.0 is)

long_when : (b : Bool) (n : ℕ) (xs ys : List (Option MarkedNets)) → length xs ≡ n → length ys ≡ n → length (if b then xs else ys) ≡ n
long_when true n xs ys first second = first
long_when false n xs ys first second = second

pub marked_long : (version : ℕ) (seen : List Seen) (desks : List (Option MarkedNets)) → length (mark_first version seen desks) ≡ length desks
marked_long version [] desks = refl
marked_long version (x ∷ xs) desks =
    long_when (is_of version (slice_index_or desks x.unit None)) (length desks) _ _ (marked_long version xs desks) (length-set desks x.unit (Some record { version = version; nets = x.nets }))

-- the first of them
first_when : (b : Bool) (version : ℕ) (x : Seen) (xs : List Seen) (desks : List (Option MarkedNets)) → is_of version (slice_index_or desks x.unit None) ≡ b → AreThere (length desks) (x ∷ xs)
    → is_of version (get_or (if b then mark_first version xs desks else slice_set desks x.unit (Some record { version = version; nets = x.nets })) x.unit None) ≡ true
first_when true version x xs desks e there = keeps version xs desks x.unit there.1 e
first_when false version x xs desks e there = set_of version desks x there.0

first : (version : ℕ) (x : Seen) (xs : List Seen) (desks : List (Option MarkedNets)) → AreThere (length desks) (x ∷ xs) → is_of version (get_or (mark_first version (x ∷ xs) desks) x.unit None) ≡ true
first version x xs desks there = first_when (is_of version (slice_index_or desks x.unit None)) version x xs desks refl there

-- and then the second
second : (version : ℕ) (x y : Seen) (desks : List (Option MarkedNets)) → AreThere (length desks) (x ∷ y ∷ []) → is_of version (get_or desks x.unit None) ≡ true → is_of version (get_or (mark_first version (x ∷ y ∷ []) desks) y.unit None) ≡ true
second version x y desks there is =
    ap (λ (b : Bool). is_of version (get_or (if b then mark_first version (y ∷ []) desks else slice_set desks x.unit (Some record { version = version; nets = x.nets })) y.unit None)) is
    ∙ first version y [] desks there.1

both : (a b : Bool) → a ≡ true → b ≡ true → (a && (b && true)) ≡ true
both true true e f = refl
both true false e f = f
both false b e f = e

alone : (a : Bool) → a ≡ true → (a && true) ≡ true
alone true e = refl
alone false e = e

there_after : (version : ℕ) (seen marks : List Seen) (desks : List (Option MarkedNets)) → AreThere (length desks) seen → AreThere (length (mark_first version marks desks)) seen
there_after version seen marks desks there = subst (λ (n : ℕ). AreThere n seen) (sym (marked_long version marks desks)) there

-- after two Marks all desks of two units are of the version
twice : (version : ℕ) (seen : List Seen) (desks : List (Option MarkedNets)) → length seen ≤ 2 → AreThere (length desks) seen → are_of version (mark_first version seen (mark_first version seen desks)) seen ≡ true
twice version [] desks few there = refl
twice version (x ∷ []) desks few there =
    let once : List (Option MarkedNets) = mark_first version (x ∷ []) desks in
    alone _ (keeps version (x ∷ []) once x.unit (there_after version (x ∷ []) (x ∷ []) desks there) (first version x [] desks there))
twice version (x ∷ y ∷ []) desks few there =
    let once : List (Option MarkedNets) = mark_first version (x ∷ y ∷ []) desks in
    let still = there_after version (x ∷ y ∷ []) (x ∷ y ∷ []) desks there in
    let of : is_of version (get_or once x.unit None) ≡ true = first version x (y ∷ []) desks there in
    both _ _ (keeps version (x ∷ y ∷ []) once x.unit still of) (second version x y once still of)
twice version (x ∷ y ∷ z ∷ seen) desks few there = absurd (omega (arith, few))

-- What a call looked at.

two_at_most : (b : Bool) (u v : ℕ) → length (if b then v ∷ u ∷ [] else u ∷ v ∷ []) ≤ 2
two_at_most true u v = omega arith
two_at_most false u v = omega arith

few_units : (plan : Plan) → length (plan_units plan) ≤ 2
few_units Nothing = omega arith
few_units (One u) = omega arith
few_units (Two u v) = two_at_most (nat_lt v.unit u.unit) u.unit v.unit

seen_long : (t : Tables) (accounts : List AccountState) (us : List ℕ) → length (map (seen_at t accounts) us) ≡ length us
seen_long t accounts [] = refl
seen_long t accounts (u ∷ us) = let e = seen_long t accounts us in omega (arith, e)

seen_there : (n : ℕ) (t : Tables) (accounts : List AccountState) (us : List ℕ) → ((u : ℕ) → IsAmong u us → u < n) → AreThere n (map (seen_at t accounts) us)
seen_there n t accounts [] inside = tt
seen_there n t accounts (u ∷ us) inside = (inside u (inl refl), seen_there n t accounts us (λ x h. inside x (inr h)))

pub two_marks : (w : World) (p : ℕ) (k : Call) (l : View) → Good w → phase_at w p ≡ Looked k l → are_of l.version (mark_first l.version l.seen (mark_first l.version l.seen w.desks)) l.seen ≡ true
two_marks w p k l good is =
    let ok = session w p (Looked k l) good is in
    let inside : (u : ℕ) → IsAmong u (plan_units l.plan) → u < length w.desks = λ (u : ℕ) (h : IsAmong u (plan_units l.plan)). let less = lock_inside w.locks u p (plan_held w p u k l ok.0 ok.1 h) in omega (arith, less, good.locks_long, good.desks_long) in
    twice l.version l.seen w.desks
    (subst (λ (seen : List Seen). length seen ≤ 2) (sym ok.1.seen) (let few = few_units l.plan in omega (arith, few, seen_long (set_at w.sets l.version) w.state.accounts (plan_units l.plan))))
    (subst (AreThere (length w.desks)) (sym ok.1.seen) (seen_there (length w.desks) (set_at w.sets l.version) w.state.accounts (plan_units l.plan) inside))

-- What one Mark does.

-- a desk, by its test
of_when : (version : ℕ) (d : Option MarkedNets) → is_of version d ≡ true → marked_under d ≡ Some version
of_when version None e = cc
of_when version (Some m) e = ap (λ (n : ℕ). Some n) (eqb-true m.version version e)

not_of : (version : ℕ) (d : Option MarkedNets) → is_of version d ≡ false → marked_under d ≢ Some version
not_of version d e = λ (h : marked_under d ≡ Some version). let t : true ≡ false = sym (of_version version d h) ∙ e in cc

-- one desk of these units is set, or all are of the version and none is
abbrev pub MarksOf : ℕ → Tables → List AccountState → List ℕ → List (Option MarkedNets) → List (Option MarkedNets) → Type 0
MarksOf version t accounts us old new =
    (((u : ℕ) → IsAmong u us → marked_under (slice_index_or old u None) ≡ Some version) × ((u : ℕ) → slice_index_or new u None ≡ slice_index_or old u None))
    ⊎ ((u : ℕ) × (IsAmong u us × (marked_under (slice_index_or old u None) ≢ Some version) × (slice_index_or new u None ≡ Some record { version = version; nets = unit_nets t accounts u })
    × ((x : ℕ) → x ≢ u → slice_index_or new x None ≡ slice_index_or old x None)))

pub marks_of : (version : ℕ) (t : Tables) (accounts : List AccountState) (us : List ℕ) (desks : List (Option MarkedNets)) → ((u : ℕ) → IsAmong u us → u < length desks) → MarksOf version t accounts us desks (mark_first version (map (seen_at t accounts) us) desks)
marks_of version t accounts [] desks inside = inl (λ u h. absurd h, λ u. refl)
marks_of version t accounts (u ∷ us) desks inside = by (is_of version (slice_index_or desks u None)) refl (marks_of version t accounts us desks (λ x h. inside x (inr h)))
  where
    now : Option MarkedNets
    now = Some record { version = version; nets = unit_nets t accounts u }

    by : (b : Bool) → is_of version (slice_index_or desks u None) ≡ b → MarksOf version t accounts us desks (mark_first version (map (seen_at t accounts) us) desks)
        → MarksOf version t accounts (u ∷ us) desks (if b then mark_first version (map (seen_at t accounts) us) desks else slice_set desks u now)
    by true e rest = ⊎_elim
        (λ (all : ((x : ℕ) → IsAmong x us → marked_under (slice_index_or desks x None) ≡ Some version) × ((x : ℕ) → slice_index_or (mark_first version (map (seen_at t accounts) us) desks) x None ≡ slice_index_or desks x None)).
        inl (λ x h. ⊎_elim (λ (same : x ≡ u). ap (λ (i : ℕ). marked_under (slice_index_or desks i None)) same ∙ of_when version (slice_index_or desks u None) e) (λ (r : IsAmong x us). all.0 x r) h, all.1))
        (λ (one : (x : ℕ) × (IsAmong x us × (marked_under (slice_index_or desks x None) ≢ Some version) × (slice_index_or (mark_first version (map (seen_at t accounts) us) desks) x None ≡ Some record { version = version; nets = unit_nets t accounts x })
        × ((y : ℕ) → y ≢ x → slice_index_or (mark_first version (map (seen_at t accounts) us) desks) y None ≡ slice_index_or desks y None))).
        inr (one.0, (inr one.1.0, one.1.1, one.1.2, one.1.3)))
        rest
    by false e rest = inr (u, (inl refl, not_of version (slice_index_or desks u None) e, get_or-set_same desks u now None (inside u (inl refl)), λ x other. get_or-set_other desks u x now None other))

pub marks_one : (w : World) (p : ℕ) (k : Call) (l : View) → IsReached w → phase_at w p ≡ Looked k l → MarksOne p l w (next w (step_of p Mark))
marks_one w p k l reached is =
    by_does (MarksOne p l w) w (record w { desks = mark_first l.version l.seen w.desks }) p Mark (looked_there w p k l is) (ap (marks w) is) record {
      phases = λ q. refl;
      holders = λ u. refl;
      book = record { sets = refl; state = refl; history = refl };
      desks = ⊎_elim
          (λ (all : ((u : ℕ) → IsAmong u us → marked_under (desk_at w u) ≡ Some l.version) × ((u : ℕ) → slice_index_or now u None ≡ desk_at w u)). inl all)
          (λ (one : (u : ℕ) × (IsAmong u us × (marked_under (desk_at w u) ≢ Some l.version) × (slice_index_or now u None ≡ Some record { version = l.version; nets = unit_nets (set_at w.sets l.version) w.state.accounts u }) × ((x : ℕ) → x ≢ u → slice_index_or now x None ≡ desk_at w x))).
          inr (one.0, record { of_plan = one.1.0; older = one.1.1; now = one.1.2; rest = one.1.3 }))
          (subst (λ (seen : List Seen). MarksOf l.version (set_at w.sets l.version) w.state.accounts us w.desks (mark_first l.version seen w.desks)) (sym ok.1.seen) (marks_of l.version (set_at w.sets l.version) w.state.accounts us w.desks inside));
    }
  where
    good : Good w
    good = good_reached w reached

    ok : Owns w.locks w.state p k.command × Sees w.sets w.state k l
    ok = session w p (Looked k l) good is

    us : List ℕ
    us = plan_units l.plan

    now : List (Option MarkedNets)
    now = mark_first l.version l.seen w.desks

    inside : (u : ℕ) → IsAmong u us → u < length w.desks
    inside u h = let less = lock_inside w.locks u p (plan_held w p u k l ok.0 ok.1 h) in omega (arith, less, good.locks_long, good.desks_long)

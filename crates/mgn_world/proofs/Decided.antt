-- What the commit of an applied call comes to, by the desks that are given with it.
use Rattle.std.proofs.Common.{◌≡◌, ◌≢◌, ◌<◌, ◌+◌, ◌∙◌, inl, ⊎_elim, ℕ, zero, suc, Bool, true, false, All, Option, None, Some, List, [], ◌∷◌, length, length-append, map, sym, ap, subst, refl, arith, ne_eqb, cond}
use Rattle.mgn_machine.specs.declared.entry.Entry.{Entry}
use Rattle.std.specs.Prelude.{◌==◌, ◌&&◌, ◌||◌, if◌then◌else◌, nat_le, nat_lt, slice_index_or}
use Rattle.std.specs.List.{find}
use Rattle.std.proofs.lemmas.Bool.{eq-eqb}
use Rattle.std.proofs.lemmas.Bool.Decides.{nat_tests}
use Rattle.std.proofs.lemmas.List.{get_or-map, length-map}
use Rattle.mgn_params.specs.Shelves.{set_at}
use Rattle.mgn_params.specs.Tables.{Tables}
use Rattle.mgn_nets.specs.Portfolios.{UnitNets}
use Rattle.mgn_desk.specs.declared.desk.Marked.{Marked}
use Rattle.mgn_desk.specs.Desks.{DeskRows, MarkedNets, marked_nets}
use Rattle.mgn_desk.specs.Portfolios.{ArePortfolios, nets_of}
use Rattle.mgn_machine.specs.declared.command.Command.{Command}
use Rattle.mgn_machine.specs.declared.request.Request.TheVariants.{Do}
use Rattle.mgn_machine.specs.History.{calls, entry, recorded}
use Rattle.mgn_machine.specs.State.{AccountState, State}
use Rattle.mgn_unit.specs.Rows.{nets_in, no_row, row_of}
use Rattle.mgn_plan.specs.declared.plans.Plan.{Plan}
use Rattle.mgn_plan.specs.declared.plans.Plan.TheVariants.{Nothing, One, Two}
use Rattle.mgn_plan.specs.declared.plans.UnitChange.{UnitChange}
use Rattle.mgn_plan.specs.Plans.{moved_nets, nets_by, plan_of, planned_nets, row_at}
use Rattle.mgn_pricing.specs.Given.{IsRight, desk_of, fit_plan, fits, fits_change, is_older, is_one_older, marked_in, same_four}
use Rattle.mgn_book.specs.BookViews.{BookView, Committed, Stands}
use Rattle.mgn_book.specs.declared.book.Outcome.TheVariants.{Done as Settled}
use Rattle.mgn_book.specs.DeskCommits.{CommittedBy, fit_now}
use Rattle.mgn_book.specs.declared.by_desks.Decision.{Decision}
use Rattle.mgn_book.specs.declared.by_desks.Decision.TheVariants.{Apart, Done, Full, Memory, Stale}
use Rattle.mgn_world.specs.Claims.{HasPlan, IsAmong, before_close}
use Rattle.mgn_world.specs.Decisions.{Decides}
use Rattle.mgn_world.specs.declared.phases.Call.{Call}
use Rattle.mgn_world.specs.declared.phases.Phase.{Phase}
use Rattle.mgn_world.specs.declared.phases.Phase.TheVariants.{Applied, Idle}
use Rattle.mgn_world.specs.declared.state.WorldState.{WorldState}
use Rattle.mgn_world.specs.DeskMoves.{AreRightDesks, IsRightIn, desk_shown}
use Rattle.mgn_world.specs.Phases.{View}
use Rattle.mgn_world.specs.Standing.{Good}
use Rattle.mgn_world.specs.World.{are_stale, desk_at, is_stale, phase_at, plan_units, planned, seen_at}
use Rattle.mgn_world.specs.Worlds.{CanFollowPlan, IsSeen, IsSound, shown}
use Rattle.mgn_world.proofs.Commits.{has_plan, never_apart, now_in_force, pointwise_same}
use Rattle.mgn_world.proofs.Desks.{in_two}
use Rattle.mgn_world.proofs.Ready.{has_nets, other_nets, own_nets}
use Rattle.mgn_pricing.proofs.Fitting.{default-is}
use Rattle.mgn_world.proofs.Looking.{order_in}
use Rattle.mgn_world.proofs.Simple.{session}
use Rattle.mgn_world.proofs.Sounds.{of_phase}
use Rattle.mgn_world.proofs.Stays.{plan_now}

-- The desks of an applied plan are there, and right.

has_inside : (sets : List Tables) (accounts : List AccountState) (l : View) (v : ℕ) (desks : List DeskRows) (u : ℕ) → HasPlan sets accounts l v (slice_index_or (map desk_shown desks) u None) → u < length desks
has_inside sets accounts l v [] u h = absurd h
has_inside sets accounts l v (d ∷ ds) zero h = omega arith
has_inside sets accounts l v (d ∷ ds) (suc u) h = let less = has_inside sets accounts l v ds u h in omega (arith, less)

pub one_among : (l : View) (u : UnitChange) → l.plan ≡ One u → IsAmong u.unit (plan_units l.plan)
one_among l u e = subst (λ (x : Plan). IsAmong u.unit (plan_units x)) (sym e) (inl refl)

pub two_among : (l : View) (u v : UnitChange) → l.plan ≡ Two u v → IsAmong u.unit (plan_units l.plan) × IsAmong v.unit (plan_units l.plan)
two_among l u v e = let both = in_two (nat_lt v.unit u.unit) u.unit v.unit in (
  subst (λ (x : Plan). IsAmong u.unit (plan_units x)) (sym e) both.0,
  subst (λ (x : Plan). IsAmong v.unit (plan_units x)) (sym e) both.1,
)

pub planned_inside : (w : WorldState) (p : ℕ) (k : Call) (l : View) (u : ℕ) → Good (shown w) → phase_at (shown w) p ≡ Applied k l → IsAmong u (plan_units l.plan) → u < length w.desks.items
planned_inside w p k l u good is among = has_inside w.shelf w.book.book.state.accounts l u w.desks.items u (has_plan (shown w) p k l good is u among)

right_of : (sets : List Tables) (version : ℕ) (m : Option Marked) → IsRightIn sets m → IsRight (set_at sets version) version m
right_of sets version None is = tt
right_of sets version (Some m) is = λ e. subst (λ (v : ℕ). ArePortfolios (set_at sets v) m.portfolios) e is.1

pub right_at : (sets : List Tables) (version : ℕ) (desks : List DeskRows) (u : ℕ) (d : DeskRows) → AreRightDesks sets desks → u < length desks → d ≡ slice_index_or desks u d → IsRight (set_at sets version) version d.marked
right_at sets version desks u d are inside e = right_of sets version d.marked (subst (λ (x : DeskRows). IsRightIn sets x.marked) (sym e) (are.right u d inside))

pub all_one : {X : Type 0} (P : X → Type 0) (x : X) → P x → All P (x ∷ [])
all_one P x h zero d inside = h
all_one P x h (suc i) d inside = absurd (omega (arith, inside))

pub all_two : {X : Type 0} (P : X → Type 0) (x y : X) → P x → P y → All P (x ∷ y ∷ [])
all_two P x y h k zero d inside = h
all_two P x y h k (suc zero) d inside = k
all_two P x y h k (suc (suc i)) d inside = absurd (omega (arith, inside))

phase_some : (phases : List Phase) (p : ℕ) (k : Call) (l : View) → slice_index_or phases p Idle ≡ Applied k l → p < length phases
phase_some [] p k l e = cc
phase_some (st ∷ phases) zero k l e = omega arith
phase_some (st ∷ phases) (suc p) k l e = let less = phase_some phases p k l e in omega (arith, less)

pub phase_seen : (w : WorldState) (p : ℕ) (k : Call) (l : View) → IsSound w → phase_at (shown w) p ≡ Applied k l → IsSeen w.shelf (length w.desks.items) l
phase_seen w p k l sound is = of_phase w.shelf (length w.desks.items) w.phases.items p (Applied k l) (phase_some w.phases.items p k l is) sound.phases is

-- They fit.

four_same : (n : UnitNets) → same_four n n ≡ true
four_same n = λ j. pointwise_same n.lots j && (pointwise_same n.buys j && (pointwise_same n.sales j && pointwise_same n.all j))

abbrev marked_or : MarkedNets → Option MarkedNets → MarkedNets
marked_or d None = d
marked_or d (Some m) = m

fits_marked : (version : ℕ) (nets : UnitNets) (m : Option Marked) → marked_nets m ≡ Some record { version = version; nets = nets } → fits version nets m ≡ true
fits_marked version nets None e = cc
fits_marked version nets (Some m) e =
    let of = ap (marked_or record { version = version; nets = nets }) e in
    (λ j. eq-eqb m.version version (ap (λ (x : MarkedNets). x.version) of) j && same_four (nets_of m.portfolios) nets)
    ∙ ap (λ (n : UnitNets). same_four n nets) (ap (λ (x : MarkedNets). x.nets) of) ∙ four_same nets

-- the two units of a plan are two
two_apart : (w : WorldState) (p : ℕ) (k : Call) (l : View) (u v : UnitChange) → Good (shown w) → IsSound w → phase_at (shown w) p ≡ Applied k l → l.plan ≡ Two u v → v.unit ≢ u.unit
two_apart w p k l u v good sound is e =
    (subst (CanFollowPlan (set_at w.shelf l.version) l.seen) e (phase_seen w p k l sound is).plan).2

-- the desks that are given are those of the plan's units
abbrev AreGiven : List DeskRows → List DeskRows → List ℕ → Type 0
AreGiven given desks us = (u : ℕ) (d : DeskRows) → IsAmong u us → desk_of u given ≡ (slice_index_or desks u d).marked

fits_now : (w : WorldState) (p : ℕ) (k : Call) (l : View) (given : List DeskRows) → Good (shown w) → IsSound w → phase_at (shown w) p ≡ Applied k l → l.version ≡ w.book.book.state.version → AreGiven given w.desks.items (plan_units l.plan) → fit_now w.shelf w.book k.command given ≡ true
fits_now w p k l given good sound is now are = ⊎_elim
    (λ (same : plan_of t s k.command ≡ plan_of t (before_close s) k.command).
    let looked : plan_of t s k.command ≡ l.plan = same ∙ ap (λ (n : ℕ). plan_of (set_at w.shelf n) (before_close s) k.command) (sym now) ∙ (session (shown w) p (Applied k l) good is).1.plan in
    ap (fit_plan t s.version w.book.book.rows given) looked ∙ by l.plan refl)
    (λ (gone : plan_of t s k.command ≡ Nothing). ap (fit_plan t s.version w.book.book.rows given) gone)
    (plan_now t s k.command)
  where
    s : State
    s = w.book.book.state

    t : Tables
    t = set_at w.shelf s.version

    row_nets : ℕ → UnitNets
    row_nets u = nets_in (row_of t s.accounts u)

    one : (u : UnitChange) → IsAmong u.unit (plan_units l.plan) → planned_nets l.plan u.unit (row_nets u.unit) ≡ moved_nets u.change (row_nets u.unit) → fits_change t s.version w.book.book.rows given u ≡ true
    one u among nets =
        let inside = planned_inside w p k l u.unit good is among in
        let desk = slice_index_or w.desks.items u.unit record { unit = u.unit; marked = None } in
        let rows : u.unit < length w.book.book.rows = omega (arith, inside, length-map w.desks.items desk_shown, good.desks_long, sound.book.kept.units) in
        let row : row_at t w.book.book.rows u.unit ≡ row_of t s.accounts u.unit = (sound.book.kept.rows u.unit (no_row t) rows).is in
        let shows : marked_nets desk.marked ≡ Some record { version = l.version; nets = moved_nets u.change (row_nets u.unit) } =
        sym (get_or-map desk_shown w.desks.items u.unit record { unit = u.unit; marked = None } None inside)
        ∙ has_nets w.shelf s.accounts l u.unit (desk_at (shown w) u.unit) (moved_nets u.change (row_nets u.unit)) (has_plan (shown w) p k l good is u.unit among)
        (ap (λ (n : ℕ). planned l.plan (set_at w.shelf n) s.accounts u.unit) now ∙ nets)
        in
        ap (fits s.version (moved_nets u.change (nets_in (row_at t w.book.book.rows u.unit)))) (are u.unit record { unit = u.unit; marked = None } among)
        ∙ fits_marked s.version (moved_nets u.change (nets_in (row_at t w.book.book.rows u.unit))) desk.marked
        (shows ∙ (λ j. Some record { version = now j; nets = moved_nets u.change (nets_in (sym row j)) }))

    by : (plan : Plan) → l.plan ≡ plan → fit_plan t s.version w.book.book.rows given plan ≡ true
    by Nothing e = refl
    by (One u) e = one u (one_among l u e) (ap (λ (x : Plan). planned_nets x u.unit (row_nets u.unit)) e ∙ own_nets u (row_nets u.unit))
    by (Two u v) e =
        let both = two_among l u v e in
        let apart = two_apart w p k l u v good sound is e in
        λ j. one u both.0 (ap (λ (x : Plan). planned_nets x u.unit (row_nets u.unit)) e ∙ other_nets v u.unit _ apart ∙ own_nets u (row_nets u.unit)) j
        && one v both.1 (ap (λ (x : Plan). planned_nets x v.unit (row_nets v.unit)) e ∙ ap (nets_by v v.unit) (other_nets u v.unit (row_nets v.unit) (λ (same : u.unit ≡ v.unit). apart (sym same))) ∙ own_nets v (row_nets v.unit)) j

-- What is decided.

full : (n : ℕ) → n ≡ 1000000 → nat_le 1000000 n ≡ true
full n e = grind (arith, nat_tests)

pub not_full : (n : ℕ) → n < 1000000 → nat_le 1000000 n ≡ false
not_full n e = grind (arith, nat_tests)

clash : {X : Type 0} (b : Bool) → b ≡ true → b ≡ false → X
clash b x y = let z : true ≡ false = sym x ∙ y in cc

decided_by : (w : WorldState) (p : ℕ) (k : Call) (l : View) (given : List DeskRows) (decision : Decision) (new : BookView) → Good (shown w) → IsSound w → phase_at (shown w) p ≡ Applied k l
    → is_one_older w.book.book.state.version given ≡ are_stale w.book.book.state.version (map desk_shown w.desks.items) l.seen → AreGiven given w.desks.items (plan_units l.plan) → Stands w.shelf new
    → CommittedBy w.shelf w.book (p + 1) (calls (p + 1) w.book.history + 1) k.command given decision new → Decides (shown w) p k l decision w.book new
decided_by w p k l given Full new good sound is older are stands h = (h.0, full (length w.book.history) h.1)
decided_by w p k l given (Stale version) new good sound is older are stands h = (h.0.0, not_full (length w.book.history) h.0.1, sym older ∙ h.1)
decided_by w p k l given Apart new good sound is older are stands h =
    let fresh = sym older ∙ h.1 in
    clash (fit_now w.shelf w.book k.command given) (fits_now w p k l given good sound is (now_in_force (shown w) p k l good is fresh) are) h.2
decided_by w p k l given Memory new good sound is older are stands h = h.0.0
decided_by w p k l given (Done place reply) new good sound is older are stands h =
    let fresh = sym older ∙ h.0 in
    let did : Committed w.shelf w.book (p + 1) (calls (p + 1) w.book.history + 1) (Do k.command) (Settled place reply) new = h.2 in
    let one = ap (λ (xs : List Entry). length xs) did.2 ∙ length-append w.book.history (entry (p + 1) (calls (p + 1) w.book.history + 1) (recorded (Do k.command) reply) reply ∷ []) in
    (not_full (length w.book.history) (omega (arith, one, stands.few)), fresh, never_apart (shown w) p k l good is fresh, did)

-- one desk, or two in order of their numbers
older_is : (version : ℕ) (m : Option Marked) → is_older version m ≡ is_stale version (marked_nets m)
older_is version None = refl
older_is version (Some m) = refl

or_swap : (a b : Bool) → a || (b || false) ≡ b || (a || false)
or_swap true true = refl
or_swap true false = refl
or_swap false true = refl
or_swap false false = refl

stale_desk : (version : ℕ) (desks : List DeskRows) (u : ℕ) (d : DeskRows) → u < length desks → d ≡ slice_index_or desks u d → is_older version d.marked ≡ is_stale version (slice_index_or (map desk_shown desks) u None)
stale_desk version desks u d inside e = older_is version d.marked ∙ ap (λ (x : DeskRows). is_stale version (desk_shown x)) e ∙ ap (is_stale version) (sym (get_or-map desk_shown desks u d None inside))

own_desk : (desks : List DeskRows) (u : ℕ) (d e : DeskRows) → u < length desks → d ≡ slice_index_or desks u d → d.marked ≡ (slice_index_or desks u e).marked
own_desk desks u d e inside is = ap (λ (x : DeskRows). x.marked) (is ∙ default-is desks u d e inside)

found_first : (u : ℕ) (d : DeskRows) (rest : List DeskRows) → d.unit ≡ u → desk_of u (d ∷ rest) ≡ d.marked
found_first u d rest e = ap (λ (b : Bool). marked_in (cond b (Some d) (find (λ x. x.unit == u) rest))) (eq-eqb d.unit u e)

found_next : (u : ℕ) (d : DeskRows) (rest : List DeskRows) → d.unit ≢ u → desk_of u (d ∷ rest) ≡ desk_of u rest
found_next u d rest n = ap (λ (b : Bool). marked_in (cond b (Some d) (find (λ x. x.unit == u) rest))) (ne_eqb d.unit u n)

numbered : (sets : List Tables) (desks : List DeskRows) (u : ℕ) (d : DeskRows) → AreRightDesks sets desks → u < length desks → d ≡ slice_index_or desks u d → d.unit ≡ u
numbered sets desks u d are inside e = ap (λ (x : DeskRows). x.unit) e ∙ are.numbered u d inside

pub decided_one : (w : WorldState) (p : ℕ) (k : Call) (l : View) (u : UnitChange) (d : DeskRows) (decision : Decision) (new : BookView) → Good (shown w) → IsSound w → phase_at (shown w) p ≡ Applied k l → l.plan ≡ One u → d ≡ slice_index_or w.desks.items u.unit d → Stands w.shelf new
    → CommittedBy w.shelf w.book (p + 1) (calls (p + 1) w.book.history + 1) k.command (d ∷ []) decision new → Decides (shown w) p k l decision w.book new
decided_one w p k l u d decision new good sound is one desk stands h = decided_by w p k l (d ∷ []) decision new good sound is older given stands h
  where
    inside : u.unit < length w.desks.items
    inside = planned_inside w p k l u.unit good is (one_among l u one)

    older : is_one_older w.book.book.state.version (d ∷ []) ≡ are_stale w.book.book.state.version (map desk_shown w.desks.items) l.seen
    older =
        (λ j. stale_desk w.book.book.state.version w.desks.items u.unit d inside desk j || false)
        ∙ sym (ap (are_stale w.book.book.state.version (map desk_shown w.desks.items)) ((session (shown w) p (Applied k l) good is).1.seen ∙ ap (λ (x : Plan). map (seen_at (set_at w.shelf l.version) w.book.book.state.accounts) (plan_units x)) one))

    given : AreGiven (d ∷ []) w.desks.items (plan_units l.plan)
    given = subst (λ (x : Plan). AreGiven (d ∷ []) w.desks.items (plan_units x)) (sym one)
        (λ x e among. ⊎_elim (λ (same : x ≡ u.unit). found_first x d [] (numbered w.shelf w.desks.items u.unit d sound.desks inside desk ∙ sym same)
        ∙ own_desk w.desks.items u.unit d e inside desk ∙ ap (λ (i : ℕ). (slice_index_or w.desks.items i e).marked) (sym same)) (λ (no : ⊥). absurd no) among)

pub decided_two : (w : WorldState) (p : ℕ) (k : Call) (l : View) (u v : UnitChange) (d c : DeskRows) (decision : Decision) (new : BookView) → Good (shown w) → IsSound w → phase_at (shown w) p ≡ Applied k l → l.plan ≡ Two u v → d ≡ slice_index_or w.desks.items u.unit d → c ≡ slice_index_or w.desks.items v.unit c → Stands w.shelf new
    → CommittedBy w.shelf w.book (p + 1) (calls (p + 1) w.book.history + 1) k.command (d ∷ c ∷ []) decision new → Decides (shown w) p k l decision w.book new
decided_two w p k l u v d c decision new good sound is two first second stands h = decided_by w p k l (d ∷ c ∷ []) decision new good sound is older given stands h
  where
    version : ℕ
    version = w.book.book.state.version

    desks : List (Option MarkedNets)
    desks = map desk_shown w.desks.items

    inside : u.unit < length w.desks.items
    inside = planned_inside w p k l u.unit good is (two_among l u v two).0

    within : v.unit < length w.desks.items
    within = planned_inside w p k l v.unit good is (two_among l u v two).1

    a : is_older version d.marked ≡ is_stale version (slice_index_or desks u.unit None)
    a = stale_desk version w.desks.items u.unit d inside first

    b : is_older version c.marked ≡ is_stale version (slice_index_or desks v.unit None)
    b = stale_desk version w.desks.items v.unit c within second

    in_turn : (x : Bool) → is_older version d.marked || (is_older version c.marked || false) ≡ are_stale version desks (map (seen_at (set_at w.shelf l.version) w.book.book.state.accounts) (if x then v.unit ∷ u.unit ∷ [] else u.unit ∷ v.unit ∷ []))
    in_turn true = or_swap (is_older version d.marked) (is_older version c.marked) ∙ (λ j. b j || (a j || false))
    in_turn false = λ j. a j || (b j || false)

    older : is_one_older version (d ∷ c ∷ []) ≡ are_stale version desks l.seen
    older =
        in_turn (nat_lt v.unit u.unit)
        ∙ sym (ap (are_stale version desks) ((session (shown w) p (Applied k l) good is).1.seen ∙ ap (λ (x : Plan). map (seen_at (set_at w.shelf l.version) w.book.book.state.accounts) (plan_units x)) two))

    apart : v.unit ≢ u.unit
    apart = two_apart w p k l u v good sound is two

    of_first : (x : ℕ) (e : DeskRows) → x ≡ u.unit → desk_of x (d ∷ c ∷ []) ≡ (slice_index_or w.desks.items x e).marked
    of_first x e same = found_first x d (c ∷ []) (numbered w.shelf w.desks.items u.unit d sound.desks inside first ∙ sym same)
        ∙ own_desk w.desks.items u.unit d e inside first ∙ ap (λ (i : ℕ). (slice_index_or w.desks.items i e).marked) (sym same)

    of_second : (x : ℕ) (e : DeskRows) → x ≡ v.unit → desk_of x (d ∷ c ∷ []) ≡ (slice_index_or w.desks.items x e).marked
    of_second x e same = found_next x d (c ∷ []) (λ (z : d.unit ≡ x). apart (sym same ∙ sym z ∙ numbered w.shelf w.desks.items u.unit d sound.desks inside first))
        ∙ found_first x c [] (numbered w.shelf w.desks.items v.unit c sound.desks within second ∙ sym same)
        ∙ own_desk w.desks.items v.unit c e within second ∙ ap (λ (i : ℕ). (slice_index_or w.desks.items i e).marked) (sym same)

    given : AreGiven (d ∷ c ∷ []) w.desks.items (plan_units l.plan)
    given = subst (λ (x : Plan). AreGiven (d ∷ c ∷ []) w.desks.items (plan_units x)) (sym two)
        (λ x e among. ⊎_elim (of_first x e) (of_second x e) (order_in (nat_lt v.unit u.unit) u.unit v.unit x among))

-- what was asked, as the code hands it on
abbrev pub plan_or : View → Phase → Plan
plan_or m (Applied k l) = l.plan
plan_or m _ = m.plan

abbrev pub command_or : Call → Phase → Command
command_or m (Applied k l) = k.command
command_or m _ = m.command

pub as_asked : (w : WorldState) (p : ℕ) (k : Call) (given : List DeskRows) (session number : ℕ) (command : Command) (decision : Decision) (new : BookView) → session ≡ p + 1 → number ≡ calls session w.book.history + 1 → command ≡ k.command
    → CommittedBy w.shelf w.book session number command given decision new → CommittedBy w.shelf w.book (p + 1) (calls (p + 1) w.book.history + 1) k.command given decision new
as_asked w p k given session number command decision new s n c h =
    subst (λ (x : Command). CommittedBy w.shelf w.book (p + 1) (calls (p + 1) w.book.history + 1) x given decision new) c
    (subst (λ (x : ℕ). CommittedBy w.shelf w.book (p + 1) x command given decision new) (n ∙ ap (λ (x : ℕ). calls x w.book.history + 1) s)
    (subst (λ (x : ℕ). CommittedBy w.shelf w.book x number command given decision new) s h))

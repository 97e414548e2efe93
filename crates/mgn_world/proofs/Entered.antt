-- The world after commits of the kept one, as `commit_call` and `commit_set` leave it.
use Rattle.std.proofs.Common.{◌≡◌, ◌≢◌, ◌<◌, ◌+◌, ◌∙◌, ◌++◌, ℕ, Bool, true, false, Option, None, Some, List, [], ◌∷◌, length, length-append, map, replicate, sym, ap, subst, refl, arith}
use Rattle.std.specs.Prelude.{◌&&◌, if◌then◌else◌, nat_lt, slice_index_or, slice_set}
use Rattle.std.specs.List.{range_with_len}
use Rattle.std.proofs.lemmas.List.{ext_get_or, get_or-map, length-map}
use Rattle.std.proofs.lemmas.List.FromFn.{get_or-map-range_with_len, length-map-range_with_len}
use Rattle.mgn_params.specs.Shelves.{set_at}
use Rattle.mgn_params.specs.Tables.{Tables}
use Rattle.mgn_nets.specs.Portfolios.{AreUnitNets}
use Rattle.mgn_machine.specs.declared.entry.Entry.{Entry}
use Rattle.mgn_machine.specs.declared.reply.Reply.{Reply}
use Rattle.mgn_machine.specs.declared.request.Request.TheVariants.{Switch}
use Rattle.mgn_machine.specs.History.{calls, entry, recorded}
use Rattle.mgn_machine.specs.State.{State}
use Rattle.mgn_machine.specs.Step.{step}
use Rattle.mgn_unit.specs.Rows.{nets_in, no_row}
use Rattle.mgn_unit.proofs.RowNets.{row-nets}
use Rattle.mgn_unit.specs.NewSets.{is_unit_covered}
use Rattle.mgn_register.specs.BookStates.{BookState, IsKept}
use Rattle.mgn_book.specs.BookViews.{BookView, Committed, Stands, sets_after}
use Rattle.mgn_book.specs.declared.book.Outcome.TheVariants.{Done as Settled}
use Rattle.mgn_world.specs.declared.phases.Call.{Call}
use Rattle.mgn_world.specs.declared.phases.Phase.{Phase}
use Rattle.mgn_world.specs.declared.phases.Phase.TheVariants.{Idle, Held, Looked, Applied, Ended, Failed, Gathered}
use Rattle.mgn_world.specs.declared.state.WorldState.{WorldState}
use Rattle.mgn_world.specs.Decisions.{IsApplied}
use Rattle.mgn_world.specs.DeskMoves.{desk_shown}
use Rattle.mgn_world.specs.Phases.{Gathering, View}
use Rattle.mgn_world.specs.World.{World, are_stale, commits, entered, gathers, is_full, lengthened, no_nets, phase_at, prepared_more, prepares, stepped, unit_nets, with_phase}
use Rattle.mgn_world.specs.Worlds.{IsGathered, IsPhase, IsSeen, IsSound, shown}
use Rattle.mgn_world.proofs.Decided.{not_full}

-- Applied calls

pub applied_of : (st : Phase) → IsApplied st → (k : Call) × ((l : View) × (st ≡ Applied k l))
applied_of (Applied k l) h = (k, (l, refl))
applied_of st h = absurd h

pub stale_is : (w : World) (p : ℕ) (k : Call) (l : View) (phases : List Phase) → phase_at w p ≡ Applied k l → is_full w ≡ false → are_stale w.state.version w.desks l.seen ≡ true → phases ≡ slice_set w.phases p (Failed k l true) → record w { phases = phases } ≡ commits w p (phase_at w p)
stale_is w p k l phases is room stale put =
    (λ j. record w { phases = put j })
    ∙ sym (by (is_full w) (are_stale w.state.version w.desks l.seen) room stale _)
    ∙ ap (commits w p) (sym is)
  where
    by : (a b : Bool) → a ≡ false → b ≡ true → (x : World) → (if a then with_phase w p (Failed k l false) else if b then with_phase w p (Failed k l true) else x) ≡ with_phase w p (Failed k l true)
    by true b e f x = cc
    by false true e f x = refl
    by false false e f x = cc

-- Gather

rows_nets : (t : Tables) (b : BookState) → IsKept t b → map nets_in b.rows ≡ map (unit_nets t b.state.accounts) (range_with_len 0 b.state.units)
rows_nets t b kept =
    ext_get_or no_nets (map nets_in b.rows) (map (unit_nets t b.state.accounts) (range_with_len 0 b.state.units))
    (length-map b.rows nets_in ∙ sym kept.units ∙ sym (length-map-range_with_len (unit_nets t b.state.accounts) 0 b.state.units))
    (λ i inside. let less : i < length b.rows = omega (arith, inside, length-map b.rows nets_in) in
    get_or-map nets_in b.rows i (no_row t) no_nets less
    ∙ ap nets_in (kept.rows i (no_row t) less).is
    ∙ sym (get_or-map-range_with_len (unit_nets t b.state.accounts) 0 b.state.units i i no_nets (omega (arith, less, kept.units)) (omega arith)))

pub gathers_is : (w : WorldState) (p : ℕ) (t : Tables) (version : ℕ) (g : Gathering) (phases : List Phase) → IsSound w → phase_at (shown w) p ≡ Idle → version ≡ w.book.book.state.version
    → g ≡ record { set = t; version = version; nets = map nets_in w.book.book.rows; prepared = replicate (length w.book.book.rows) false } → phases ≡ slice_set w.phases.items p (Gathered g)
    → record (shown w) { phases = phases } ≡ gathers (shown w) p t (phase_at (shown w) p)
gathers_is w p t version g phases sound is now gathered put =
    (λ j. record (shown w) { phases = put j })
    ∙ (λ j. with_phase (shown w) p (Gathered (gathered j)))
    ∙ (λ j. with_phase (shown w) p (Gathered record { set = t; version = now j; nets = rows_nets (set_at w.shelf w.book.book.state.version) w.book.book sound.book.kept j; prepared = replicate (sym sound.book.kept.units j) false }))
    ∙ ap (gathers (shown w) p t) (sym is)

-- a session whose call is under way gathers nothing
pub gathers_not : (w : World) (p : ℕ) (t : Tables) (x st : Phase) → st ≡ x → x ≢ Idle → w ≡ gathers w p t st
gathers_not w p t x Idle is other = absurd (other (sym is))
gathers_not w p t x (Held k) is other = refl
gathers_not w p t x (Looked k l) is other = refl
gathers_not w p t x (Applied k l) is other = refl
gathers_not w p t x (Failed k l again) is other = refl
gathers_not w p t x (Ended k) is other = refl
gathers_not w p t x (Gathered g) is other = refl

pub gathered_sound : (w : WorldState) (t : Tables) (version : ℕ) (g : Gathering) → IsSound w → version ≡ w.book.book.state.version → g ≡ record { set = t; version = version; nets = map nets_in w.book.book.rows; prepared = replicate (length w.book.book.rows) false } → IsGathered w.shelf g
gathered_sound w t version g sound now gathered = subst (IsGathered w.shelf) (sym (gathered ∙ (λ j. record { set = t; version = now j; nets = map nets_in w.book.book.rows; prepared = replicate (length w.book.book.rows) false }))) record {
  inside = omega (arith, sound.book.shown);
  nets = λ i d inside. let less : i < length w.book.book.rows = omega (arith, inside, length-map w.book.book.rows nets_in) in
      let u = set_at w.shelf w.book.book.state.version in
      subst (AreUnitNets u) (sym (get_or-map nets_in w.book.book.rows i (no_row u) d less)) (row-nets u _ (sound.book.kept.rows i (no_row u) less).limits);
}

-- Prepare

pub prepares_is : (w : World) (p u : ℕ) (g now : Gathering) (phases : List Phase) → phase_at w p ≡ Gathered g → now ≡ prepared_more (set_at w.sets g.version) u g → phases ≡ slice_set w.phases p (Gathered now) → record w { phases = phases } ≡ prepares w p u (phase_at w p)
prepares_is w p u g now phases is more put =
    (λ j. record w { phases = put j }) ∙ (λ j. with_phase w p (Gathered (more j))) ∙ ap (prepares w p u) (sym is)

pub prepared_sound : (sets : List Tables) (t : Tables) (u : ℕ) (g : Gathering) → IsGathered sets g → IsGathered sets (prepared_more t u g)
prepared_sound sets t u g is = by (nat_lt u (length g.nets) && is_unit_covered t g.set (slice_index_or g.nets u no_nets))
  where
    by : (b : Bool) → IsGathered sets (if b then record g { prepared = slice_set g.prepared u true } else g)
    by true = record { inside = is.inside; nets = is.nets }
    by false = is

-- The commit of a set

pub switched_is : (w v : WorldState) (p session number : ℕ) (g : Gathering) (t : Tables) (place : ℕ) (reply : Reply) (book : BookView) (shelf : List Tables) → session ≡ p + 1 → number ≡ calls session w.book.history + 1 → t ≡ g.set → Stands shelf book
    → Committed shelf w.book session number (Switch t) (Settled place reply) book → shelf ≡ sets_after w.shelf (Switch t) reply → v.shelf ≡ shelf → v.book ≡ book
    → map desk_shown v.desks.items ≡ lengthened (length book.book.rows) (map desk_shown w.desks.items) → v.locks.items ≡ lengthened (length book.book.rows) w.locks.items → v.phases.items ≡ slice_set w.phases.items p Idle
    → shown v ≡ with_phase (entered (shown w) p (Switch g.set)) p Idle
switched_is w v p session number g t place reply book shelf s n set stands did put own same desks locks phases =
    (λ j. record {
      sets = (own ∙ put) j;
      state = (same j).book.state;
      history = (ap (λ (x : BookView). x.history) same ∙ did.2 ∙ (λ i. w.book.history ++ entry (s i) ((n ∙ ap (λ (x : ℕ). calls x w.book.history + 1) s) i) (recorded (Switch t) reply) reply ∷ [])) j;
      desks = (desks ∙ ap (λ (k : ℕ). lengthened k (map desk_shown w.desks.items)) (sym stands.kept.units)) j;
      locks = (locks ∙ ap (λ (k : ℕ). lengthened k w.locks.items) (sym stands.kept.units)) j;
      phases = phases j;
    })
    ∙ ap (λ (after : State × Reply). with_phase (stepped (shown w) p (Switch t) after) p Idle) did.1
    ∙ ap (λ (x : Tables). with_phase (stepped (shown w) p (Switch x) (step w.shelf w.book.book.state (Switch x))) p Idle) set
    ∙ sym (ap (λ (b : Bool). with_phase (if b then shown w else stepped (shown w) p (Switch g.set) (step w.shelf w.book.book.state (Switch g.set))) p Idle) room)
  where
    room : is_full (shown w) ≡ false
    room =
        let one = ap (λ (xs : List Entry). length xs) did.2 ∙ length-append w.book.history (entry session number (recorded (Switch t) reply) reply ∷ []) in
        not_full (length w.book.history) (omega (arith, one, stands.few))

-- what was gathered, as the code hands it on
abbrev pub gathering_or : Gathering → Option Gathering → Gathering
gathering_or d None = d
gathering_or d (Some g) = g

pub settled_phase : (sets : List Tables) (units : ℕ) (k : Call) (l : View) (done : Bool) → IsSeen sets units l → IsPhase sets units (if done then Ended k else Failed k l false)
settled_phase sets units k l true is = tt
settled_phase sets units k l false is = is

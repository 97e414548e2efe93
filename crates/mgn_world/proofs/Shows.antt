-- What desks show once one of them has moved: for `apply_one` and `take_back_one`.
use Rattle.std.proofs.Common.{◌≡◌, ◌<◌, ◌+◌, ◌++◌, ◌∙◌, ℕ, zero, suc, arith, drop, take, refl, Option, None, List, [], ◌∷◌, length, map, get_or, sym, ap, subst, Some}
use Rattle.std.specs.Prelude.{slice_index_or, slice_set}
use Rattle.std.proofs.lemmas.List.{get_or-map, map-set}
use Rattle.mgn_params.specs.Tables.{Tables}
use Rattle.mgn_desk.specs.declared.moves.Moves.{Moves}
use Rattle.mgn_params.specs.Shelves.{set_at}
use Rattle.mgn_desk.specs.declared.desk.Marked.{Marked}
use Rattle.mgn_unit.specs.Rows.{Priced}
use Rattle.mgn_desk.specs.Desks.{DeskRows, IsMarkedBy, MarkedNets, Requires, marked_nets, version_of}
use Rattle.std.specs.Prelude.{All, replicate}
use Rattle.std.proofs.lemmas.List.Elements.{All-replicate}
use Rattle.mgn_world.specs.declared.phases.Phase.TheVariants.{Idle}
use Rattle.mgn_world.specs.DeskMoves.{AreRightDesks, IsReadyFor, IsRightIn, desk_shown}
use Rattle.mgn_world.specs.Worlds.{IsPhase, required}

pub shows_set : (desks : List DeskRows) (u : ℕ) (d e : DeskRows) (f : Option MarkedNets → Option MarkedNets) → u < length desks → desk_shown d ≡ f (desk_shown (slice_index_or desks u e)) → map desk_shown (slice_set desks u d) ≡ slice_set (map desk_shown desks) u (f (slice_index_or (map desk_shown desks) u None))
shows_set desks u d e f inside is =
    map-set desk_shown desks u d ∙ ap (slice_set (map desk_shown desks) u) (is ∙ ap f (sym (get_or-map desk_shown desks u e None inside)))

-- a desk that can take moves is there
pub ready_inside : (set : Tables) (version : ℕ) (moves : Moves) (desks : List DeskRows) (u : ℕ) → IsReadyFor set version moves (slice_index_or (map desk_shown desks) u None) → u < length desks
ready_inside set version moves [] u h = absurd h
ready_inside set version moves (d ∷ ds) zero h = omega arith
ready_inside set version moves (d ∷ ds) (suc u) h = omega (arith, ready_inside set version moves ds u h)

-- one more place of a list changed by a function
change_next : {X : Type 0} (f : X → X) (d : X) (xs : List X) (i : ℕ) → i < length xs → slice_set (map f (take i xs) ++ drop i xs) i (f (get_or (map f (take i xs) ++ drop i xs) i d)) ≡ map f (take (suc i) xs) ++ drop (suc i) xs
change_next f d [] i inside = absurd (omega (arith, inside))
change_next f d (x ∷ xs) zero inside = refl
change_next f d (x ∷ xs) (suc i) inside = ap (λ (ys : List _). f x ∷ ys) (change_next f d xs i (omega (arith, inside)))

pub change_more : {X : Type 0} (f : X → X) (d : X) (xs : List X) (i : ℕ) → i < length xs → slice_set (map f (take i xs) ++ drop i xs) i (f (get_or (map f (take i xs) ++ drop i xs) i d)) ≡ map f (take (i + 1) xs) ++ drop (i + 1) xs
change_more f d xs i inside =
    let e : suc i ≡ i + 1 = omega arith in
    change_next f d xs i inside ∙ ap (λ (n : ℕ). map f (take n xs) ++ drop n xs) e

pub no_desks : (sets : List Tables) → AreRightDesks sets []
no_desks sets = record { numbered = λ u d inside. absurd (omega (arith, inside)); right = λ i d inside. absurd (omega (arith, inside)) }

pub sixteen_idle : (sets : List Tables) (units n : ℕ) → All (IsPhase sets units) (replicate n Idle)
sixteen_idle sets units n = All-replicate (IsPhase sets units) n Idle tt

-- what is kept of a desk that is right requires what its nets do
marked_required : (sets : List Tables) (m : Option Marked) (r : Priced) (version : ℕ) → IsRightIn sets m → ((set : Tables) → IsMarkedBy set m → Requires set m r) → version_of m ≡ Some version → Some r ≡ required sets (marked_nets m)
marked_required sets None r version right requires e = cc
marked_required sets (Some m) r version right requires e = ap (λ (x : Priced). Some x) (requires (set_at sets m.version) right.1)

pub required_is : (sets : List Tables) (desks : List DeskRows) (u : ℕ) (d : DeskRows) (r : Priced) (version : ℕ) → u < length desks → d ≡ slice_index_or desks u d → All (λ (x : DeskRows). IsRightIn sets x.marked) desks → ((set : Tables) → IsMarkedBy set d.marked → Requires set d.marked r) → version_of d.marked ≡ Some version
    → Some r ≡ required sets (slice_index_or (map desk_shown desks) u None)
required_is sets desks u d r version inside is right requires e =
    marked_required sets d.marked r version (subst (λ (x : DeskRows). IsRightIn sets x.marked) (sym is) (right u d inside)) requires e
    ∙ ap (required sets) (ap desk_shown is ∙ sym (get_or-map desk_shown desks u d None inside))

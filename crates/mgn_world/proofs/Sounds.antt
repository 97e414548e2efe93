-- What stays true of the kept world beside its definition.
use Rattle.std.proofs.Common.{Global, Vec, Some, Result, Ok, Err, ◌≡◌, ◌<◌, ◌≤◌, ◌+◌, ◌-◌, ◌++◌, ◌⊎◌, inl, inr, ⊎_elim, ◌∙◌, ℕ, zero, suc, true, false, All, List, [], ◌∷◌, None, Option, get_or, length, replicate, refl, sym, ap, subst, arith}
use Rattle.std.specs.Prelude.{if◌then◌else◌, Bool, slice_index_or, slice_set}
use Rattle.std.specs.Result.{OnOk}
use Rattle.std.proofs.lemmas.List.{append-nil, length-set, append_assoc, get_or_append_left, length-append, replicate-append-replicate}
use Rattle.std.proofs.lemmas.List.Elements.{All-append, All-set}
use Rattle.mgn_params.specs.Shelves.{set_at}
use Rattle.mgn_params.specs.Tables.{Tables, no_tables}
use Rattle.mgn_nets.specs.Portfolios.{AreUnitNets}
use Rattle.mgn_desk.specs.declared.desk.Marked.{Marked}
use Rattle.mgn_desk.specs.Portfolios.{ArePortfolios}
use Rattle.mgn_machine.specs.declared.reply.Reply.{Reply}
use Rattle.mgn_machine.specs.declared.reply.Reply.TheVariants.{Done as Settled, Figures, NewSet, Refused, Statement, Totals}
use Rattle.mgn_machine.specs.declared.request.Request.TheVariants.{Switch}
use Rattle.mgn_desk.specs.Desks.{DeskRows, MarkedNets}
use Rattle.mgn_pricing.proofs.Fitting.{default-is}
use Rattle.mgn_book.specs.BookViews.{Stands, sets_after}
use Rattle.mgn_world.specs.declared.state.WorldState.{WorldState}
use Rattle.mgn_world.specs.declared.phases.Call.{Call}
use Rattle.mgn_world.specs.declared.phases.Phase.{Phase}
use Rattle.mgn_world.specs.declared.phases.Phase.TheVariants.{Idle, Held, Looked, Applied, Failed, Ended, Gathered}
use Rattle.mgn_world.specs.DeskMoves.{AreRightDesks, IsRightIn}
use Rattle.mgn_world.specs.Phases.{View}
use Rattle.mgn_world.specs.declared.phases.Seen.{Seen}
use Rattle.mgn_world.specs.World.{World, applies, are_of, phase_at, planned_desks}
use Rattle.mgn_world.specs.Worlds.{CanFollowPlan, IsPhase, IsSeen, IsSound}

-- the phase of a session, as the code reads it
pub at_phase : (phases : List Phase) (p : ℕ) (x st : Phase) → p < length phases → x ≡ slice_index_or phases p x → x ≡ st → slice_index_or phases p Idle ≡ st
at_phase phases p x st inside e is = default-is phases p Idle x inside ∙ sym e ∙ is

pub of_phase : (sets : List Tables) (units : ℕ) (phases : List Phase) (p : ℕ) (st : Phase) → p < length phases → All (IsPhase sets units) phases → slice_index_or phases p Idle ≡ st → IsPhase sets units st
of_phase sets units phases p st inside all is = subst (IsPhase sets units) is (all p Idle inside)

-- one session in another phase
pub phases_set : (sets : List Tables) (m n : ℕ) (phases : List Phase) (p : ℕ) (st : Phase) → m ≡ n → IsPhase sets n st → All (IsPhase sets n) phases → All (IsPhase sets m) (slice_set phases p st)
phases_set sets m n phases p st e is all = subst (λ (x : ℕ). All (IsPhase sets x) (slice_set phases p st)) (sym e) (All-set (IsPhase sets n) phases p st is all)

pub applies_is : (w : World) (p : ℕ) (k : Call) (l : View) (desks : List (Option MarkedNets)) (phases : List Phase) → phase_at w p ≡ Looked k l → are_of l.version w.desks l.seen ≡ true → desks ≡ planned_desks l.plan w.desks → phases ≡ slice_set w.phases p (Applied k l)
    → record w { desks = desks; phases = phases } ≡ applies w p (phase_at w p)
applies_is w p k l desks phases is of moved set =
    (λ j. record w { desks = moved j; phases = set j })
    ∙ sym (ap (λ (b : Bool). if b then record w { desks = planned_desks l.plan w.desks; phases = slice_set w.phases p (Applied k l) } else w) of)
    ∙ ap (applies w p) (sym is)

pub after_back : (sets : List Tables) (units : ℕ) (k : Call) (again : Bool) → IsPhase sets units (if again then Held k else Ended k)
after_back sets units k true = tt
after_back sets units k false = tt

-- Desks and holders of units that were made.

pub one_none_more : {X : Type 0} (xs now : List (Option X)) (i : ℕ) → length xs ≤ i → now ≡ xs ++ replicate (i - length xs) None → now ++ None ∷ [] ≡ xs ++ replicate (i + 1 - length xs) None
one_none_more xs now i from so_far =
    let e : i - length xs + 1 ≡ i + 1 - length xs = omega (arith, from) in
    ap (λ (ys : List _). ys ++ None ∷ []) so_far ∙ append_assoc xs (replicate (i - length xs) None) (None ∷ [])
    ∙ ap (λ (ys : List _). xs ++ ys) (replicate-append-replicate (i - length xs) 1 None ∙ ap (λ (n : ℕ). replicate n None) e)

get_or-append-last : (xs : List DeskRows) (y x : DeskRows) → get_or (xs ++ y ∷ []) (length xs) x ≡ y
get_or-append-last [] y x = refl
get_or-append-last (z ∷ xs) y x = get_or-append-last xs y x

less_or : (a b : ℕ) → (a < b) ⊎ (b ≤ a)
less_or zero zero = inr (omega arith)
less_or zero (suc b) = inl (omega arith)
less_or (suc a) zero = inr (omega arith)
less_or (suc a) (suc b) = ⊎_elim (λ h. inl (omega (arith, h))) (λ h. inr (omega (arith, h))) (less_or a b)

pub desk_pushed : (sets : List Tables) (desks : List DeskRows) (d : DeskRows) → d.unit ≡ length desks → d.marked ≡ None → AreRightDesks sets desks → AreRightDesks sets (desks ++ d ∷ [])
desk_pushed sets desks d unit empty are = record {
  numbered = λ u x inside. by u x inside (less_or u (length desks));
  right = All-append (λ (y : DeskRows). IsRightIn sets y.marked) desks (d ∷ []) are.right (λ i x inside. last i x inside);
}
  where
    last : (i : ℕ) (x : DeskRows) → i < 1 → IsRightIn sets (get_or (d ∷ []) i x).marked
    last zero x inside = subst (IsRightIn sets) (sym empty) tt
    last (suc i) x inside = absurd (omega (arith, inside))

    by : (u : ℕ) (x : DeskRows) → u < length (desks ++ d ∷ []) → (u < length desks) ⊎ (length desks ≤ u) → (get_or (desks ++ d ∷ []) u x).unit ≡ u
    by u x inside (inl less) = ap (λ (y : DeskRows). y.unit) (get_or_append_left desks (d ∷ []) x u less) ∙ are.numbered u x less
    by u x inside (inr more) =
        let e : length desks ≡ u = omega (arith, more, inside, length-append desks (d ∷ [])) in
        subst (λ (i : ℕ). (get_or (desks ++ d ∷ []) i x).unit ≡ i) e (ap (λ (y : DeskRows). y.unit) (get_or-append-last desks d x) ∙ unit)

-- the units that got a place
pub left : (units i n : ℕ) → units ≤ i → n ≤ i → (units ≤ n → i ≡ n) → (n ≤ units → i ≤ units) → i - n ≡ units - n
left units i n over from stays upto = ⊎_elim
    (λ (h : units < n). let e : i ≡ n = stays (omega (arith, h)) in omega (arith, e, h))
    (λ (h : n ≤ units). let e : i ≤ units = upto h in omega (arith, e, h, over))
    (less_or units n)

-- more units are there
seen_more : (sets : List Tables) (m n : ℕ) (l : View) → m ≤ n → IsSeen sets m l → IsSeen sets n l
seen_more sets m n l le is = record {
  inside = is.inside;
  there = λ i d inside. let less = is.there i d inside in omega (arith, less, le);
  nets = is.nets;
  plan = is.plan;
}

phase_more : (sets : List Tables) (m n : ℕ) (st : Phase) → m ≤ n → IsPhase sets m st → IsPhase sets n st
phase_more sets m n Idle le is = tt
phase_more sets m n (Held k) le is = tt
phase_more sets m n (Looked k l) le is = seen_more sets m n l le is
phase_more sets m n (Applied k l) le is = seen_more sets m n l le is
phase_more sets m n (Failed k l again) le is = seen_more sets m n l le is
phase_more sets m n (Ended k) le is = tt
phase_more sets m n (Gathered g) le is = is

pub phases_more : (sets : List Tables) (m n : ℕ) (phases : List Phase) → m ≤ n → All (IsPhase sets m) phases → All (IsPhase sets n) phases
phases_more sets m n phases le all i d inside = phase_more sets m n (get_or phases i d) le (all i d inside)

pub housed_sound : (w v : WorldState) → IsSound w → v.shelf ≡ w.shelf → Stands v.shelf v.book → v.phases ≡ w.phases → AreRightDesks w.shelf v.desks.items → length w.desks.items ≤ length v.desks.items → IsSound v
housed_sound w v sound shelf stands phases desks more = record {
  book = stands;
  sixteen = ap (λ (x : Vec Phase Global). length x.items) phases ∙ sound.sixteen;
  desks = subst (λ (sets : List Tables). AreRightDesks sets v.desks.items) (sym shelf) desks;
  phases = subst (λ (sets : List Tables). All (IsPhase sets (length v.desks.items)) v.phases.items) (sym shelf)
      (subst (λ (x : Vec Phase Global). All (IsPhase w.shelf (length v.desks.items)) x.items) (sym phases) (phases_more w.shelf (length w.desks.items) (length v.desks.items) w.phases.items more sound.phases));
}

pub on_both : {T E A B C : Type 0} (r : Result T E) → (A → B → C) → OnOk r A → OnOk r B → OnOk r C
on_both (Ok x) f a b = f a b
on_both (Err e) f a b = tt

-- one session in another phase, after a step of the book
pub after_sound : (w v : WorldState) (p : ℕ) (st : Phase) → IsSound w → v.shelf ≡ w.shelf → Stands v.shelf v.book → v.desks ≡ w.desks → IsPhase w.shelf (length w.desks.items) st → v.phases.items ≡ slice_set w.phases.items p st → IsSound v
after_sound w v p st sound shelf stands desks is put = record {
  book = stands;
  sixteen = ap (λ (xs : List Phase). length xs) put ∙ length-set w.phases.items p st ∙ sound.sixteen;
  desks = subst (λ (sets : List Tables). AreRightDesks sets v.desks.items) (sym shelf) (subst (λ (x : Vec DeskRows Global). AreRightDesks w.shelf x.items) (sym desks) sound.desks);
  phases = subst (λ (sets : List Tables). All (IsPhase sets (length v.desks.items)) v.phases.items) (sym shelf)
      (subst (λ (x : Vec DeskRows Global). All (IsPhase w.shelf (length x.items)) v.phases.items) (sym desks)
      (subst (All (IsPhase w.shelf (length w.desks.items))) (sym put) (phases_set w.shelf (length w.desks.items) (length w.desks.items) w.phases.items p st refl is sound.phases)));
}

-- more sets are there
set_before : (sets more : List Tables) (i : ℕ) → i < length sets → set_at (sets ++ more) i ≡ set_at sets i
set_before sets more i inside = get_or_append_left sets more (no_tables []) i inside

within_more : (sets more : List Tables) (i : ℕ) → i < length sets → i < length (sets ++ more)
within_more sets more i inside = omega (arith, inside, length-append sets more)

right_more : (sets more : List Tables) (m : Option Marked) → IsRightIn sets m → IsRightIn (sets ++ more) m
right_more sets more None is = tt
right_more sets more (Some m) is = (within_more sets more m.version is.0, subst (λ (t : Tables). ArePortfolios t m.portfolios) (sym (set_before sets more m.version is.0)) is.1)

seen_later : (sets more : List Tables) (n : ℕ) (l : View) → IsSeen sets n l → IsSeen (sets ++ more) n l
seen_later sets more n l is =
    let same = sym (set_before sets more l.version is.inside) in
    record {
      inside = within_more sets more l.version is.inside;
      there = is.there;
      nets = subst (λ (t : Tables). All (λ (x : Seen). AreUnitNets t x.nets) l.seen) same is.nets;
      plan = subst (λ (t : Tables). CanFollowPlan t l.seen l.plan) same is.plan;
    }

phase_later : (sets more : List Tables) (n : ℕ) (st : Phase) → IsPhase sets n st → IsPhase (sets ++ more) n st
phase_later sets more n Idle is = tt
phase_later sets more n (Held k) is = tt
phase_later sets more n (Looked k l) is = seen_later sets more n l is
phase_later sets more n (Applied k l) is = seen_later sets more n l is
phase_later sets more n (Failed k l again) is = seen_later sets more n l is
phase_later sets more n (Ended k) is = tt
phase_later sets more n (Gathered g) is = record {
  inside = within_more sets more g.version is.inside;
  nets = subst (λ (t : Tables). All (AreUnitNets t) g.nets) (sym (set_before sets more g.version is.inside)) is.nets;
}

after_more : (sets : List Tables) (t : Tables) (reply : Reply) → (more : List Tables) × (sets_after sets (Switch t) reply ≡ sets ++ more)
after_more sets t (NewSet told) = (t ∷ [], refl)
after_more sets t Settled = ([], sym (append-nil sets))
after_more sets t (Figures figures) = ([], sym (append-nil sets))
after_more sets t (Totals totals) = ([], sym (append-nil sets))
after_more sets t (Statement told) = ([], sym (append-nil sets))
after_more sets t (Refused why) = ([], sym (append-nil sets))

pub grown_sound : (w v : WorldState) (p : ℕ) (t : Tables) (reply : Reply) → IsSound w → v.shelf ≡ sets_after w.shelf (Switch t) reply → Stands v.shelf v.book → v.desks ≡ w.desks → v.phases.items ≡ slice_set w.phases.items p Idle → IsSound v
grown_sound w v p t reply sound shelf stands desks put =
    let after = after_more w.shelf t reply in
    let now : v.shelf ≡ w.shelf ++ after.0 = shelf ∙ after.1 in
    record {
      book = stands;
      sixteen = ap (λ (xs : List Phase). length xs) put ∙ length-set w.phases.items p Idle ∙ sound.sixteen;
      desks = subst (λ (sets : List Tables). AreRightDesks sets v.desks.items) (sym now) (subst (λ (x : Vec DeskRows Global). AreRightDesks (w.shelf ++ after.0) x.items) (sym desks) record {
        numbered = sound.desks.numbered;
        right = λ i d inside. right_more w.shelf after.0 (get_or w.desks.items i d).marked (sound.desks.right i d inside);
      });
      phases = subst (λ (sets : List Tables). All (IsPhase sets (length v.desks.items)) v.phases.items) (sym now)
          (subst (λ (x : Vec DeskRows Global). All (IsPhase (w.shelf ++ after.0) (length x.items)) v.phases.items) (sym desks)
          (subst (All (IsPhase (w.shelf ++ after.0) (length w.desks.items))) (sym put)
          (phases_set (w.shelf ++ after.0) (length w.desks.items) (length w.desks.items) w.phases.items p Idle refl tt (λ i d inside. phase_later w.shelf after.0 (length w.desks.items) (get_or w.phases.items i d) (sound.phases i d inside)))));
    }

pub stands_in : (w v : WorldState) → Stands w.shelf w.book → v.shelf ≡ w.shelf → v.book ≡ w.book → Stands v.shelf v.book
stands_in w v stands shelf book = subst (λ (sets : List Tables). Stands sets v.book) (sym shelf) (subst (Stands w.shelf) (sym book) stands)

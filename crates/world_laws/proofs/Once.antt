-- Entries, one for each call: for the law that a call is answered once.
use Rattle.std.proofs.Common.{◌≡◌, ◌≢◌, ◌<◌, ◌∙◌, ◌⊎◌, inl, inr, ⊎_elim, ℕ, zero, suc, Bool, true, false, List, [], ◌∷◌, length, sym, ap, refl, subst, arith, ne_eqb}
use Rattle.std.specs.Prelude.{if◌then◌else◌, nat_lt}
use Rattle.std.proofs.lemmas.Bool.{cases_eq}
use Rattle.mgn_machine.specs.History.{calls}
use Rattle.mgn_machine.proofs.Histories.{calls-push}
use Rattle.mgn_world.specs.declared.phases.Deed.{Deed}
use Rattle.mgn_world.specs.declared.phases.Deed.TheVariants.{Begin, Look, Mark, Apply, Commit, Back, End, Gather, Prepare}
use Rattle.mgn_world.specs.declared.phases.Phase.{Phase}
use Rattle.mgn_world.specs.declared.phases.Phase.TheVariants.{Idle, Held, Looked, Applied, Failed, Ended, Gathered}
use Rattle.mgn_world.specs.declared.phases.Step.{Step}
use Rattle.mgn_world.specs.World.{World, applies, backs, commits, does, does_as, ends, looks, marks, next, phase_at, prepares, run}
use Rattle.std.proofs.lemmas.List.{get_or-set_same}
use Rattle.world_laws.specs.Entries.{AddsOne, AnswersCall, IsAnswered, StartsNone, starts}
use Rattle.world_laws.specs.Moves.{step_of}
use Rattle.world_laws.proofs.Places.{inside_or}
use Rattle.world_laws.proofs.Turning.{others_stay, turn_as}

-- A step adds one entry at most.

one_most_as : (w : World) (number : ℕ) (d : Deed) → ((does_as w number d).history ≡ w.history) ⊎ AddsOne number w (does_as w number d)
one_most_as w zero d = inl refl
one_most_as w (suc p) d = ⊎_elim
    (λ (same : (does_as w (suc p) d).history ≡ w.history). inl same)
    (λ (more : AnswersCall w (phase_at w p) d × IsAnswered (phase_at (does_as w (suc p) d) p) × AddsOne (suc p) w (does_as w (suc p) d)). inr more.2)
    (turn_as w p d).history

pub one_most : (w : World) (e : Step) → ((next w e).history ≡ w.history) ⊎ AddsOne e.session w (next w e)
one_most w e = one_most_as w e.session e.deed

pub answers : (w : World) (p : ℕ) (d : Deed) → ((next w (step_of p d)).history ≡ w.history) ⊎ (AnswersCall w (phase_at w p) d × IsAnswered (phase_at (next w (step_of p d)) p))
answers w p d = ⊎_elim
    (λ (same : (does_as w (suc p) d).history ≡ w.history). inl same)
    (λ (more : AnswersCall w (phase_at w p) d × IsAnswered (phase_at (does_as w (suc p) d) p) × AddsOne (suc p) w (does_as w (suc p) d)). inr (more.0, more.1))
    (turn_as w p d).history

-- A session whose call was answered adds no entry until it starts another.

-- such a step of its own
record Rests (p : ℕ) (w v : World) : Type 0 where
  is : IsAnswered (phase_at v p)
  same : v.history ≡ w.history

still : (w : World) (p : ℕ) (st : Phase) → phase_at w p ≡ st → IsAnswered st → Rests p w w
still w p st e is = record { is = subst IsAnswered (sym e) is; same = refl }

look_rests : (w : World) (p : ℕ) (st : Phase) → phase_at w p ≡ st → IsAnswered st → Rests p w (looks w p st)
look_rests w p (Held k) e is = absurd is
look_rests w p st e is = still w p st e is

mark_rests : (w : World) (p : ℕ) (st : Phase) → phase_at w p ≡ st → IsAnswered st → Rests p w (marks w st)
mark_rests w p (Looked k l) e is = absurd is
mark_rests w p st e is = still w p st e is

apply_rests : (w : World) (p : ℕ) (st : Phase) → phase_at w p ≡ st → IsAnswered st → Rests p w (applies w p st)
apply_rests w p (Looked k l) e is = absurd is
apply_rests w p st e is = still w p st e is

commit_rests : (w : World) (p : ℕ) (st : Phase) → phase_at w p ≡ st → IsAnswered st → Rests p w (commits w p st)
commit_rests w p (Applied k l) e is = absurd is
commit_rests w p (Gathered g) e is = absurd is
commit_rests w p st e is = still w p st e is

back_rests : (w : World) (p : ℕ) (st : Phase) → p < length w.phases → phase_at w p ≡ st → IsAnswered st → Rests p w (backs w p st)
back_rests w p (Failed k l true) there e is = cc
back_rests w p (Failed k l false) there e is = record { is = subst IsAnswered (sym (get_or-set_same w.phases p (Ended k) Idle there)) tt; same = refl }
back_rests w p Idle there e is = still w p Idle e is
back_rests w p (Held k) there e is = absurd is
back_rests w p (Looked k l) there e is = absurd is
back_rests w p (Applied k l) there e is = absurd is
back_rests w p (Ended k) there e is = still w p (Ended k) e is
back_rests w p (Gathered g) there e is = absurd is

end_rests : (w : World) (p : ℕ) (st : Phase) → p < length w.phases → phase_at w p ≡ st → IsAnswered st → Rests p w (ends w p st)
end_rests w p (Ended k) there e is = record { is = subst IsAnswered (sym (get_or-set_same w.phases p Idle Idle there)) tt; same = refl }
end_rests w p st there e is = still w p st e is

prepare_rests : (w : World) (p u : ℕ) (st : Phase) → phase_at w p ≡ st → IsAnswered st → Rests p w (prepares w p u st)
prepare_rests w p u (Gathered g) e is = absurd is
prepare_rests w p u st e is = still w p st e is

rests : (w : World) (p : ℕ) (d : Deed) → p < length w.phases → IsAnswered (phase_at w p) → starts d ≡ false → Rests p w (does w p d)
rests w p (Begin c) there is e = cc
rests w p Look there is e = look_rests w p (phase_at w p) refl is
rests w p Mark there is e = mark_rests w p (phase_at w p) refl is
rests w p Apply there is e = apply_rests w p (phase_at w p) refl is
rests w p Commit there is e = commit_rests w p (phase_at w p) refl is
rests w p Back there is e = back_rests w p (phase_at w p) there refl is
rests w p End there is e = end_rests w p (phase_at w p) there refl is
rests w p (Gather t) there is e = cc
rests w p (Prepare u) there is e = prepare_rests w p u (phase_at w p) refl is

rests_by : (w : World) (p : ℕ) (d : Deed) (b : Bool) → nat_lt p (length w.phases) ≡ b → IsAnswered (phase_at w p) → starts d ≡ false → Rests p w (if b then does w p d else w)
rests_by w p d true e is none = rests w p d (inside_or p (length w.phases) true e refl) is none
rests_by w p d false e is none = record { is = is; same = refl }

-- a session without more entries, whose call is answered
record Holds (p : ℕ) (w v : World) : Type 0 where
  is : IsAnswered (phase_at v p)
  same : calls (suc p) v.history ≡ calls (suc p) w.history

-- an entry of another session
others : (p q : ℕ) (w v : World) → q ≢ p → AddsOne (suc q) w v → calls (suc p) v.history ≡ calls (suc p) w.history
others p q w v other more =
    let theirs : more.0.session ≢ suc p = λ e. let same : q ≡ p = omega (arith, e, more.1.0) in other same in
    ap (calls (suc p)) more.1.1 ∙ calls-push (suc p) w.history more.0 ∙ ap (λ (b : Bool). if b then suc (calls (suc p) w.history) else calls (suc p) w.history) (ne_eqb more.0.session (suc p) theirs)

holds_as : (w : World) (p number : ℕ) (d : Deed) → IsAnswered (phase_at w p) → (number ≡ suc p → starts d ≡ false) → Holds p w (does_as w number d)
holds_as w p zero d is none = record { is = is; same = refl }
holds_as w p (suc q) d is none = ⊎_elim
    (λ (e : q ≡ p). subst (λ (i : ℕ). Holds p w (does_as w (suc i) d)) (sym e)
    (let own = rests_by w p d (nat_lt p (length w.phases)) refl is (none (ap (λ (i : ℕ). suc i) e)) in
    record { is = own.is; same = ap (calls (suc p)) own.same }))
    (λ (other : q ≢ p). record {
      is = subst IsAnswered (sym (others_stay w (does_as w (suc q) d) q _ (turn_as w q d) p (λ e. other (sym e)))) is;
      same = ⊎_elim
          (λ (e : (does_as w (suc q) d).history ≡ w.history). ap (calls (suc p)) e)
          (λ (more : AddsOne (suc q) w (does_as w (suc q) d)). others p q w (does_as w (suc q) d) other more)
          (one_most_as w (suc q) d);
    })
    (cases_eq q p)

holds_run : (w : World) (p : ℕ) (es : List Step) → IsAnswered (phase_at w p) → StartsNone (suc p) es → calls (suc p) (run w es).history ≡ calls (suc p) w.history
holds_run w p [] is none = refl
holds_run w p (e ∷ es) is none =
    let first = holds_as w p e.session e.deed is none.0 in
    holds_run (next w e) p es first.is none.1 ∙ first.same

once_as : (w : World) (number : ℕ) (d : Deed) (es : List Step) → calls number w.history < calls number (does_as w number d).history → StartsNone number es → calls number (run (does_as w number d) es).history ≡ calls number (does_as w number d).history
once_as w zero d es more none = absurd (omega (arith, more))
once_as w (suc p) d es more none = ⊎_elim
    (λ (same : (does_as w (suc p) d).history ≡ w.history). let e = ap (calls (suc p)) same in absurd (omega (arith, more, e)))
    (λ (x : AnswersCall w (phase_at w p) d × IsAnswered (phase_at (does_as w (suc p) d) p) × AddsOne (suc p) w (does_as w (suc p) d)). holds_run (does_as w (suc p) d) p es x.1 none)
    (turn_as w p d).history

pub once : (w : World) (e : Step) (es : List Step) → calls e.session w.history < calls e.session (next w e).history → StartsNone e.session es → calls e.session (run (next w e) es).history ≡ calls e.session (next w e).history
once w e es more none = once_as w e.session e.deed es more none

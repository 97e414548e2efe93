-- Steps out of turn change nothing, as their law says.
use Rattle.std.proofs.Common.{◌≡◌, ◌∙◌, ℕ, Bool, true, false, length, ap, refl}
use Rattle.std.specs.Prelude.{if◌then◌else◌, nat_lt}
use Rattle.mgn_params.specs.Tables.{Tables}
use Rattle.mgn_machine.specs.declared.command.Command.{Command}
use Rattle.mgn_world.specs.declared.phases.Deed.{Deed}
use Rattle.mgn_world.specs.declared.phases.Deed.TheVariants.{Begin, Look, Mark, Apply, Commit, Back, End, Gather, Prepare}
use Rattle.mgn_world.specs.declared.phases.Phase.{Phase}
use Rattle.mgn_world.specs.declared.phases.Phase.TheVariants.{Idle, Held, Looked, Applied, Failed, Ended, Gathered}
use Rattle.mgn_world.specs.World.{World, applies, backs, begins, commits, does, ends, gathers, looks, marks, next, phase_at, prepares}
use Rattle.world_laws.specs.Calls.{is_next}
use Rattle.world_laws.specs.Moves.{step_of}

begin_skips : (w : World) (p : ℕ) (c : Command) (st : Phase) → is_next st (Begin c) ≡ false → begins w p c st ≡ w
begin_skips w p c Idle e = cc
begin_skips w p c (Held k) e = refl
begin_skips w p c (Looked k l) e = refl
begin_skips w p c (Applied k l) e = refl
begin_skips w p c (Failed k l again) e = refl
begin_skips w p c (Ended k) e = refl
begin_skips w p c (Gathered g) e = refl

look_skips : (w : World) (p : ℕ) (st : Phase) → is_next st Look ≡ false → looks w p st ≡ w
look_skips w p (Held k) e = cc
look_skips w p st e = refl

mark_skips : (w : World) (st : Phase) → is_next st Mark ≡ false → marks w st ≡ w
mark_skips w (Looked k l) e = cc
mark_skips w st e = refl

apply_skips : (w : World) (p : ℕ) (st : Phase) → is_next st Apply ≡ false → applies w p st ≡ w
apply_skips w p (Looked k l) e = cc
apply_skips w p st e = refl

commit_skips : (w : World) (p : ℕ) (st : Phase) → is_next st Commit ≡ false → commits w p st ≡ w
commit_skips w p (Applied k l) e = cc
commit_skips w p (Gathered g) e = cc
commit_skips w p st e = refl

back_skips : (w : World) (p : ℕ) (st : Phase) → is_next st Back ≡ false → backs w p st ≡ w
back_skips w p (Failed k l again) e = cc
back_skips w p st e = refl

end_skips : (w : World) (p : ℕ) (st : Phase) → is_next st End ≡ false → ends w p st ≡ w
end_skips w p (Ended k) e = cc
end_skips w p st e = refl

gather_skips : (w : World) (p : ℕ) (t : Tables) (st : Phase) → is_next st (Gather t) ≡ false → gathers w p t st ≡ w
gather_skips w p t Idle e = cc
gather_skips w p t st e = refl

prepare_skips : (w : World) (p u : ℕ) (st : Phase) → is_next st (Prepare u) ≡ false → prepares w p u st ≡ w
prepare_skips w p u (Gathered g) e = cc
prepare_skips w p u st e = refl

does_skip : (w : World) (p : ℕ) (d : Deed) → is_next (phase_at w p) d ≡ false → does w p d ≡ w
does_skip w p (Begin c) e = begin_skips w p c (phase_at w p) e
does_skip w p Look e = look_skips w p (phase_at w p) e
does_skip w p Mark e = mark_skips w (phase_at w p) e
does_skip w p Apply e = apply_skips w p (phase_at w p) e
does_skip w p Commit e = commit_skips w p (phase_at w p) e
does_skip w p Back e = back_skips w p (phase_at w p) e
does_skip w p End e = end_skips w p (phase_at w p) e
does_skip w p (Gather t) e = gather_skips w p t (phase_at w p) e
does_skip w p (Prepare u) e = prepare_skips w p u (phase_at w p) e

either : (w v : World) (b : Bool) → v ≡ w → (if b then v else w) ≡ w
either w v true e = e
either w v false e = refl

pub skip : (w : World) (p : ℕ) (d : Deed) → is_next (phase_at w p) d ≡ false → next w (step_of p d) ≡ w
skip w p d e = either w (does w p d) (nat_lt p (length w.phases)) (does_skip w p d e)

-- by the phase
pub skip_in : (w : World) (p : ℕ) (st : Phase) (d : Deed) → phase_at w p ≡ st → is_next st d ≡ false → next w (step_of p d) ≡ w
skip_in w p st d is e = skip w p d (ap (λ (x : Phase). is_next x d) is ∙ e)

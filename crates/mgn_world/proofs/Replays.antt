-- The history is a run of the machine of one thread.
use Rattle.std.proofs.Common.{◌≡◌, ◌+◌, ◌<◌, ◌∙◌, ℕ, zero, suc, Bool, true, false, Result, Ok, Err, List, [], ◌∷◌, ◌++◌, length, sym, ap, subst, refl, arith, length-append}
use Rattle.std.specs.Prelude.{if◌then◌else◌, nat_le}
use Rattle.std.proofs.lemmas.Bool.Decides.{nat_tests}
use Rattle.mgn_params.specs.Shelves.{set_at}
use Rattle.mgn_params.specs.Tables.{Tables}
use Rattle.mgn_machine.specs.declared.command.Command.{Command}
use Rattle.mgn_machine.specs.declared.entry.Entry.{Entry}
use Rattle.mgn_machine.specs.declared.reply.Refusal.{Refusal}
use Rattle.mgn_machine.specs.declared.reply.Reply.{Reply}
use Rattle.mgn_machine.specs.declared.request.Request.TheVariants.{Do, Switch}
use Rattle.mgn_machine.specs.declared.request.Request.{Request}
use Rattle.mgn_machine.specs.NewSet.{on_call, set_fits}
use Rattle.mgn_machine.specs.State.{State, start}
use Rattle.mgn_machine.specs.Step.{step, step_under, switched}
use Rattle.mgn_machine.specs.History.{Legal, calls, entry, next as next_of, recorded, replay, request_of}
use Rattle.mgn_machine.proofs.Histories.{legal-more, legal_from-push, replay-more, replay-push}
use Rattle.mgn_machine.proofs.Versions.{keeps_version}
use Rattle.mgn_book.specs.BookViews.{sets_after}
use Rattle.mgn_plan.specs.declared.plans.Plan.{Plan}
use Rattle.mgn_plan.specs.declared.plans.Plan.TheVariants.{Nothing, One, Two}
use Rattle.mgn_plan.specs.Plans.{plan_of}
use Rattle.mgn_world.specs.declared.phases.Call.{Call}
use Rattle.mgn_world.specs.declared.phases.Deed.{Deed}
use Rattle.mgn_world.specs.declared.phases.Deed.TheVariants.{Begin, Look, Mark, Apply, Commit, Back, End, Gather, Prepare}
use Rattle.mgn_world.specs.declared.phases.Phase.{Phase}
use Rattle.mgn_world.specs.declared.phases.Phase.TheVariants.{Idle, Held, Looked, Applied, Failed, Ended, Gathered}
use Rattle.mgn_world.specs.declared.phases.Step.{Step}
use Rattle.mgn_world.specs.Phases.{View}
use Rattle.mgn_world.specs.World.{World, applies, are_of, are_stale, backs, begin_on, begins, commits, does, does_as, ends, entered, gathers, in_force, is_apart, is_full, look_on, looks, marks, next, opening, placed, prepares, run, stepped, with_phase}
use Rattle.mgn_world.specs.Claims.{IsReplayed, IsRun}
use Rattle.mgn_book.proofs.Switches.{last-set}

-- One entry more, under the sets as they are then.
pushed : (sets : List Tables) (state now : State) (history : List Entry) (session : ℕ) (request : Request) (reply : Reply) → Legal sets history → state ≡ replay sets history → (now, reply) ≡ step sets state request → request_of sets (recorded request reply) ≡ request → state.version < length sets
    → length sets ≡ now.version + 1 → length history < 1000000 → IsRun sets now (history ++ entry session (calls session history + 1) (recorded request reply) reply ∷ [])
pushed sets state now history session request reply legal replayed stepped asked before shown few = record {
  legal = legal_from-push sets [] history e legal record {
    shown = subst (λ (s : State). s.version < length sets) replayed before;
    after = subst (λ (x : State × Reply). x.0.version < length sets) (said ∙ again) (omega (arith, shown));
    request = ap (λ (r : Request). recorded r reply) (sym asked);
    reply = ap (λ x. x.1) (said ∙ again);
    number = refl;
  };
  replayed = ap (λ x. x.0) (said ∙ again) ∙ sym (replay-push sets start history e);
  shown = shown;
  few = omega (arith, length-append history (e ∷ []), few);
}
  where
    e : Entry
    e = entry session (calls session history + 1) (recorded request reply) reply

    said : (now, reply) ≡ step sets (replay sets history) request
    said = stepped ∙ ap (λ (s : State). step sets s request) replayed

    again : step sets (replay sets history) request ≡ next_of sets (replay sets history) e
    again = ap (λ (r : Request). step sets (replay sets history) r) (sym asked)

-- A command.
pub run-done : (sets : List Tables) (state : State) (history : List Entry) (session : ℕ) (c : Command) → IsRun sets state history → length history < 1000000
    → IsRun sets (step_under (set_at sets state.version) state c).0 (history ++ entry session (calls session history + 1) (recorded (Do c) (step_under (set_at sets state.version) state c).1) (step_under (set_at sets state.version) state c).1 ∷ [])
run-done sets state history session c is few =
    pushed sets state _ history session (Do c) (step_under (set_at sets state.version) state c).1 is.legal is.replayed refl refl (omega (arith, is.shown)) (is.shown ∙ ap (λ (v : ℕ). v + 1) (sym (keeps_version (set_at sets state.version) state c))) few

-- A switch that comes into force, or is refused.
switched-run : (sets : List Tables) (state : State) (history : List Entry) (session on : ℕ) (t : Tables) (r : Result (Unit {0}) Refusal) → r ≡ set_fits t state → on ≡ on_call t state.accounts state.units → IsRun sets state history → length history < 1000000
    → IsRun (sets_after sets (Switch t) (switched state on r).1) (switched state on r).0 (history ++ entry session (calls session history + 1) (recorded (Switch t) (switched state on r).1) (switched state on r).1 ∷ [])
switched-run sets state history session on t (Ok done) fits count is few =
    let now : List Tables = sets ++ t ∷ [] in
    let long : length now ≡ length sets + 1 = length-append sets (t ∷ []) in
    pushed now state _ history session (Switch t) _ (legal-more sets (t ∷ []) history is.legal) (is.replayed ∙ sym (replay-more sets (t ∷ []) history is.legal)) (λ j. switched state (count j) (fits j)) (ap (λ (x : Tables). Switch x) (last-set sets t (state.version + 1) is.shown))
    (omega (arith, is.shown, long)) (long ∙ ap (λ (n : ℕ). n + 1) is.shown) few
switched-run sets state history session on t (Err why) fits count is few =
    pushed sets state _ history session (Switch t) _ is.legal is.replayed (λ j. switched state (count j) (fits j)) refl (omega (arith, is.shown)) is.shown few

pub run-switch : (sets : List Tables) (state : State) (history : List Entry) (session : ℕ) (t : Tables) → IsRun sets state history → length history < 1000000
    → IsRun (sets_after sets (Switch t) (step sets state (Switch t)).1) (step sets state (Switch t)).0 (history ++ entry session (calls session history + 1) (recorded (Switch t) (step sets state (Switch t)).1) (step sets state (Switch t)).1 ∷ [])
run-switch sets state history session t is few = switched-run sets state history session _ t _ refl refl is few

-- Step by step.

choose : (b : Bool) (x y : World) → IsReplayed x → IsReplayed y → IsReplayed (if b then x else y)
choose true x y p q = p
choose false x y p q = q

pub room : (n : ℕ) → nat_le 1000000 n ≡ false → n < 1000000
room n e = grind (arith, nat_tests)

entered-by : (w : World) (p : ℕ) (request : Request) (full : Bool) → is_full w ≡ full → (length w.history < 1000000 → IsReplayed (stepped w p request (step w.sets w.state request))) → IsReplayed w → IsReplayed (if full then w else stepped w p request (step w.sets w.state request))
entered-by w p request true e some is = is
entered-by w p request false e some is = some (room (length w.history) e)

pub replayed-entered : (w : World) (p : ℕ) (request : Request) → IsReplayed w → IsReplayed (entered w p request)
replayed-entered w p (Do c) is = entered-by w p (Do c) _ refl (run-done w.sets w.state w.history (p + 1) c is) is
replayed-entered w p (Switch t) is = entered-by w p (Switch t) _ refl (run-switch w.sets w.state w.history (p + 1) t is) is

begin_on-run : (w : World) (p : ℕ) (c : Command) (us : List ℕ) → IsReplayed w → IsReplayed (begin_on w p c us)
begin_on-run w p c [] is = replayed-entered w p (Do c) is
begin_on-run w p c (u ∷ us) is = choose _ _ _ is is

begins-run : (w : World) (p : ℕ) (c : Command) (st : Phase) → IsReplayed w → IsReplayed (begins w p c st)
begins-run w p c Idle is = begin_on-run w p c _ is
begins-run w p c st is = is

look_on-run : (w : World) (p : ℕ) (k : Call) (plan : Plan) → IsReplayed w → IsReplayed (look_on w p k plan)
look_on-run w p k Nothing is = replayed-entered w p (Do k.command) is
look_on-run w p k (One u) is = is
look_on-run w p k (Two u v) is = is

looks-run : (w : World) (p : ℕ) (st : Phase) → IsReplayed w → IsReplayed (looks w p st)
looks-run w p (Held k) is = look_on-run w p k _ is
looks-run w p st is = is

marks-run : (w : World) (st : Phase) → IsReplayed w → IsReplayed (marks w st)
marks-run w (Looked k l) is = is
marks-run w st is = is

applies-run : (w : World) (p : ℕ) (st : Phase) → IsReplayed w → IsReplayed (applies w p st)
applies-run w p (Looked k l) is = choose (are_of l.version w.desks l.seen) _ _ is is
applies-run w p st is = is

commit_by-run : (w : World) (p : ℕ) (k : Call) (l : View) (full stale apart : Bool) → is_full w ≡ full → IsReplayed w
    → IsReplayed (if full then with_phase w p (Failed k l false) else if stale then with_phase w p (Failed k l true) else if apart then with_phase w p (Failed k l false) else placed w p k l (step w.sets w.state (Do k.command)))
commit_by-run w p k l true stale apart e is = is
commit_by-run w p k l false true apart e is = is
commit_by-run w p k l false false true e is = is
commit_by-run w p k l false false false e is = run-done w.sets w.state w.history (p + 1) k.command is (room (length w.history) e)

commits-run : (w : World) (p : ℕ) (st : Phase) → IsReplayed w → IsReplayed (commits w p st)
commits-run w p (Applied k l) is = commit_by-run w p k l (is_full w) (are_stale w.state.version w.desks l.seen) (is_apart w (plan_of (in_force w) w.state k.command)) refl is
commits-run w p (Gathered g) is = replayed-entered w p (Switch g.set) is
commits-run w p st is = is

backs-run : (w : World) (p : ℕ) (st : Phase) → IsReplayed w → IsReplayed (backs w p st)
backs-run w p (Failed k l again) is = is
backs-run w p st is = is

ends-run : (w : World) (p : ℕ) (st : Phase) → IsReplayed w → IsReplayed (ends w p st)
ends-run w p (Ended k) is = is
ends-run w p st is = is

gathers-run : (w : World) (p : ℕ) (set : Tables) (st : Phase) → IsReplayed w → IsReplayed (gathers w p set st)
gathers-run w p set Idle is = is
gathers-run w p set st is = is

prepares-run : (w : World) (p u : ℕ) (st : Phase) → IsReplayed w → IsReplayed (prepares w p u st)
prepares-run w p u (Gathered g) is = is
prepares-run w p u st is = is

does-run : (w : World) (p : ℕ) (d : Deed) → IsReplayed w → IsReplayed (does w p d)
does-run w p (Begin c) is = begins-run w p c _ is
does-run w p Look is = looks-run w p _ is
does-run w p Mark is = marks-run w _ is
does-run w p Apply is = applies-run w p _ is
does-run w p Commit is = commits-run w p _ is
does-run w p Back is = backs-run w p _ is
does-run w p End is = ends-run w p _ is
does-run w p (Gather set) is = gathers-run w p set _ is
does-run w p (Prepare u) is = prepares-run w p u _ is

does_as-run : (w : World) (session : ℕ) (d : Deed) → IsReplayed w → IsReplayed (does_as w session d)
does_as-run w zero d is = is
does_as-run w (suc p) d is = choose _ _ _ (does-run w p d is) is

pub replayed-run : (w : World) (steps : List Step) → IsReplayed w → IsReplayed (run w steps)
replayed-run w [] is = is
replayed-run w (e ∷ es) is = replayed-run (next w e) es (does_as-run w e.session e.deed is)

pub replayed-opening : (set : Tables) → IsReplayed (opening set)
replayed-opening set = record { legal = tt; replayed = refl; shown = refl; few = omega arith }

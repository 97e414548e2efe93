-- A history with one more entry, and under more sets: for the commits of a book and their replay.
use Rattle.std.proofs.Common.{◌≡◌, ◌<◌, ◌≤◌, ◌∙◌, ℕ, suc, Bool, true, false, cond, Result, Ok, Err, List, [], ◌∷◌, ◌++◌, length, sym, ap, subst, refl, append_assoc, arith, length-append}
use Rattle.std.specs.Prelude.{◌==◌}
use Rattle.std.proofs.lemmas.List.{append-nil, get_or_append_left}
use Rattle.mgn_params.specs.Shelves.{set_at}
use Rattle.mgn_params.specs.Tables.{Tables, no_tables}
use Rattle.mgn_machine.specs.declared.entry.Entry.{Entry}
use Rattle.mgn_machine.specs.State.{State}
use Rattle.mgn_machine.specs.declared.reply.Refusal.{Refusal}
use Rattle.mgn_machine.specs.declared.reply.Reply.{Reply}
use Rattle.mgn_machine.specs.declared.request.Recorded.{Recorded}
use Rattle.mgn_machine.specs.declared.request.Recorded.TheVariants.{Asked, InForce, SetRefused}
use Rattle.mgn_machine.specs.declared.request.Request.{Request}
use Rattle.mgn_machine.specs.declared.request.Request.TheVariants.{Do, Switch}
use Rattle.mgn_machine.specs.Step.{step, step_under, switched}
use Rattle.mgn_machine.specs.History.{replay, replay_from, Follows, LegalFrom, Legal, calls, next, recorded, request_of}

-- its replay is one step further
pub replay-push : (sets : List Tables) (s : State) (history : List Entry) (e : Entry) → replay_from sets s (history ++ e ∷ []) ≡ (next sets (replay_from sets s history) e).0
replay-push sets s [] e = refl
replay-push sets s (x ∷ history) e = replay-push sets (next sets s x).0 history e

-- it is legal where the entry follows
pub legal_from-push : (sets : List Tables) (before history : List Entry) (e : Entry) → LegalFrom sets before history → Follows sets (before ++ history) e → LegalFrom sets before (history ++ e ∷ [])
legal_from-push sets before [] e legal next = (subst (λ (h : List Entry). Follows sets h e) (append-nil before) next, tt)
legal_from-push sets before (x ∷ history) e legal next =
    (legal.0, legal_from-push sets (before ++ x ∷ []) history e legal.1 (subst (λ (h : List Entry). Follows sets h e) (sym (append_assoc before (x ∷ []) history)) next))

-- how many entries a session then has

pub calls-push : (session : ℕ) (history : List Entry) (e : Entry) → calls session (history ++ e ∷ []) ≡ cond (e.session == session) (suc (calls session history)) (calls session history)
calls-push session [] e = refl
calls-push session (x ∷ xs) e = counted (x.session == session) (e.session == session) _ _ (calls-push session xs e)
  where
    counted : (b d : Bool) (m n : ℕ) → m ≡ cond d (suc n) n → cond b (suc m) m ≡ cond d (suc (cond b (suc n) n)) (cond b (suc n) n)
    counted true true m n e = ap suc e
    counted true false m n e = ap suc e
    counted false true m n e = e
    counted false false m n e = e

few_by : (b : Bool) (m n : ℕ) → m ≤ n → cond b (suc m) m ≤ suc n
few_by true m n few = omega arith
few_by false m n few = omega arith

pub calls-few : (session : ℕ) (history : List Entry) → calls session history ≤ length history
calls-few session [] = omega arith
calls-few session (e ∷ es) = few_by (e.session == session) (calls session es) (length es) (calls-few session es)

-- Under more sets a legal history is legal, and leads to the same state.

-- the version of a set that came into force
abbrev version_of : ℕ → Recorded → ℕ
version_of other (Asked command) = other
version_of other (InForce version) = version
version_of other (SetRefused t) = other

-- a switch that is kept by a version leads to that version
leads : (s : State) (on_call : ℕ) (r : Result (Unit {0}) Refusal) (t : Tables) (version : ℕ) → InForce version ≡ recorded (Switch t) (switched s on_call r).1 → version ≡ (switched s on_call r).0.version
leads s on_call (Ok done) t version kept = ap (version_of 0) kept
leads s on_call (Err why) t version kept = ap (version_of s.version) kept

-- what an entry asks is the same
same_request : (sets more : List Tables) (s : State) (r : Recorded) (reply : Reply) → (step sets s (request_of sets r)).0.version < length sets → r ≡ recorded (request_of sets r) reply
    → reply ≡ (step sets s (request_of sets r)).1 → request_of (sets ++ more) r ≡ request_of sets r
same_request sets more s (Asked command) reply after kept is = refl
same_request sets more s (InForce version) reply after kept is =
    let same : version ≡ (step sets s (Switch (set_at sets version))).0.version = leads s _ _ (set_at sets version) version (kept ∙ ap (λ (x : Reply). recorded (Switch (set_at sets version)) x) is) in
    ap (λ (t : Tables). Switch t) (get_or_append_left sets more (no_tables []) version (omega (arith, same, after)))
same_request sets more s (SetRefused t) reply after kept is = refl

same_step : (sets more : List Tables) (s : State) (request : Request) → s.version < length sets → step (sets ++ more) s request ≡ step sets s request
same_step sets more s (Do command) shown = ap (λ (t : Tables). step_under t s command) (get_or_append_left sets more (no_tables []) s.version shown)
same_step sets more s (Switch t) shown = refl

-- the entry leads to the same state and reply
same_next : (sets more : List Tables) (before : List Entry) (e : Entry) → Follows sets before e → next (sets ++ more) (replay sets before) e ≡ next sets (replay sets before) e
same_next sets more before e follows =
    ap (λ (r : Request). step (sets ++ more) (replay sets before) r) (same_request sets more (replay sets before) e.request e.reply follows.after follows.request follows.reply)
    ∙ same_step sets more (replay sets before) (request_of sets e.request) follows.shown

same_replay : (sets more : List Tables) (before : List Entry) (e : Entry) → replay (sets ++ more) before ≡ replay sets before → Follows sets before e
    → replay (sets ++ more) (before ++ e ∷ []) ≡ replay sets (before ++ e ∷ [])
same_replay sets more before e same follows =
    replay-push (sets ++ more) _ before e
    ∙ ap (λ (s : State). (next (sets ++ more) s e).0) same
    ∙ ap (λ x. x.0) (same_next sets more before e follows)
    ∙ sym (replay-push sets _ before e)

more_follows : (sets more : List Tables) (before : List Entry) (e : Entry) → replay (sets ++ more) before ≡ replay sets before → Follows sets before e → Follows (sets ++ more) before e
more_follows sets more before e same follows =
    let all : next (sets ++ more) (replay (sets ++ more) before) e ≡ next sets (replay sets before) e = ap (λ (s : State). next (sets ++ more) s e) same ∙ same_next sets more before e follows in
    record {
      shown = subst (λ (s : State). s.version < length (sets ++ more)) (sym same) (omega (arith, follows.shown, length-append sets more));
      after = subst (λ (x : State × Reply). x.0.version < length (sets ++ more)) (sym all) (omega (arith, follows.after, length-append sets more));
      request = subst (λ (r : Request). e.request ≡ recorded r e.reply) (sym (same_request sets more (replay sets before) e.request e.reply follows.after follows.request follows.reply)) follows.request;
      reply = follows.reply ∙ sym (ap (λ x. x.1) all);
      number = follows.number;
    }

pub legal_from-more : (sets more : List Tables) (before history : List Entry) → replay (sets ++ more) before ≡ replay sets before → LegalFrom sets before history
    → LegalFrom (sets ++ more) before history × replay (sets ++ more) (before ++ history) ≡ replay sets (before ++ history)
legal_from-more sets more before [] same legal = (tt, rw (append-nil before) same)
legal_from-more sets more before (e ∷ es) same legal =
    let later = legal_from-more sets more (before ++ e ∷ []) es (same_replay sets more before e same legal.0) legal.1 in
    ((more_follows sets more before e same legal.0, later.0), rw (← append_assoc before (e ∷ []) es) later.1)

pub legal-more : (sets more : List Tables) (history : List Entry) → Legal sets history → Legal (sets ++ more) history
legal-more sets more history legal = (legal_from-more sets more [] history refl legal).0

pub replay-more : (sets more : List Tables) (history : List Entry) → Legal sets history → replay (sets ++ more) history ≡ replay sets history
replay-more sets more history legal = (legal_from-more sets more [] history refl legal).1

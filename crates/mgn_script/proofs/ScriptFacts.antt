-- A session over a book of one session is a run of the machine: what `run_script` promises.
use Rattle.std.proofs.Common.{◌≡◌, ◌+◌, ◌∙◌, ◌<◌, ℕ, List, [], length, Option, Some, None, Result, Ok, Err, IfOk, OnErr, refl, sym, ap, subst, arith, length-append, inl, inr}
use Rattle.mgn_params.specs.Tables.{Tables}
use Rattle.mgn_machine.specs.History.{entry, items_of, recorded, replay}
use Rattle.mgn_machine.specs.State.{State, start}
use Rattle.mgn_machine.specs.Step.{step}
use Rattle.mgn_machine.specs.declared.request.Request.{Request}
use Rattle.mgn_machine.proofs.Histories.{replay-push}
use Rattle.mgn_machine.specs.declared.reply.Reply.{Reply}
use Rattle.mgn_book.specs.BookViews.{Begins, BookView, opening, sets_after}
use Rattle.mgn_book.proofs.Begun.{begins_after, begins_before, begins_itself, kept_so, step_begun}
use Rattle.mgn_session.specs.Conversation.{ConversationView}
use Rattle.mgn_session.specs.Session.{Answers, Call, Calls, Fetch, HasAnswered, HasRunOut, HasStopped, HasTooMuch, IsCaughtUp, IsSession, IsUnplaced}
use Rattle.mgn_session.specs.declared.fault.SessionFault.{SessionFault}
use Rattle.mgn_session.proofs.Seen.{IsSeen, IsSeenCall, seen_answered, seen_caught_up, seen_run_out, seen_session, seen_stopped, seen_too_much, session_before, with_source}
use Rattle.mgn_script.proofs.PlainFacts.{refused_sets}
use Rattle.mgn_script.specs.Plain.{Commits, CommitsAt, ScriptView}
use Rattle.mgn_script.specs.Script.{Steps, StepsAt}

-- the version in force is that of the last set, and the state is the replay of the history
pub record IsReplay (sets : List Tables) (plain : ScriptView) : Type 0 where
  pub shown : length plain.sets ≡ plain.day.book.state.version + 1
  pub state : plain.day.book.state ≡ replay sets plain.day.history

-- the calls of a book of one session
abbrev pub CallsPlain : Call ScriptView
CallsPlain = Calls (λ (plain : ScriptView). items_of 1 plain.day.history) (λ (plain : ScriptView). length plain.day.history ≡ 1000000) (λ plain. ⊥) Commits

unplaced_sets : (full broken : Type 0) (sets : List Tables) (request : Request) (reply : Reply) → IsUnplaced full broken reply → sets_after sets request reply ≡ sets
unplaced_sets full broken sets request reply (inl memory) = rw memory (refused_sets sets request _)
unplaced_sets full broken sets request reply (inr (inl both)) = rw both.0 (refused_sets sets request _)
unplaced_sets full broken sets request reply (inr (inr both)) = rw both.0 (refused_sets sets request _)

step_seen : (sets : List Tables) (old new : ScriptView) (request : Request) (place : Option ℕ) (reply : Reply)
    → IsReplay sets old → Begins new.sets sets → new.sets ≡ sets_after old.sets request reply → CommitsAt new.sets old.day request place reply new.day
    → StepsAt sets old.day.history request place reply new.day.history × IsReplay sets new
step_seen sets old new request (Some place) reply is begins put committed =
    let grown = rw (← put) at (begins_after old.sets request reply) in
    let within : old.day.book.state.version < length new.sets = omega (arith, is.shown, ap length grown.1, length-append old.sets grown.0) in
    let made : (new.day.book.state, reply) ≡ step sets old.day.book.state request = committed.1 ∙ step_begun new.sets sets old.day.book.state request begins within in
    let so = kept_so old.sets sets sets old.day.book.state new.day.book.state request reply is.shown made in
    let same = so.kept (rw put at begins) in
    let next : replay sets new.day.history ≡ (step sets (replay sets old.day.history) request).0 =
    ap (replay sets) committed.2
    ∙ replay-push sets start old.day.history (entry 1 place (recorded request reply) reply)
    ∙ ap (λ (r : Request). (step sets (replay sets old.day.history) r).0) same in
    let now = made ∙ ap (λ (s : State). step sets s request) is.state in (
      (committed.0, ap (λ (p : State × Reply). p.1) now, same, committed.2),
      record { shown = ap length put ∙ so.shown; state = ap (λ (p : State × Reply). p.0) now ∙ sym next },
    )
step_seen sets old new request None reply is begins put committed =
    let same : new.sets ≡ old.sets = put ∙ unplaced_sets _ _ old.sets request reply committed.1 in (
      (ap (λ (day : BookView). day.history) committed.0, committed.1),
      record {
        shown = ap length same ∙ is.shown ∙ ap (λ (day : BookView). day.book.state.version + 1) (sym committed.0);
        state = subst (λ (day : BookView). day.book.state ≡ replay sets day.history) (sym committed.0) is.state;
      },
    )

pub calls_seen : (sets : List Tables)
    → IsSeenCall (λ (plain : ScriptView). plain.day.history) (IsReplay sets) (λ plain. Begins plain.sets sets) CallsPlain (Steps sets)
calls_seen sets =
    record {
      earlier = λ old new request answer call within.
          begins_before old.sets new.sets sets (rw (← call.1.0) at (begins_after old.sets request answer.reply)) within;
      each = λ old new request answer is within call. step_seen sets old new request answer.place answer.reply is within call.1.0 call.1.1;
    }

-- From the start.

abbrev seen_by : {S : Type 0} (sets : List Tables) (gives : Fetch S)
    → IsSeen (λ (x : ScriptView × S). (x.0.day.history, x.1)) (λ x. IsReplay sets x.0) (λ x. Begins x.0.sets sets) (Answers CallsPlain gives) (Answers (Steps sets) gives)
seen_by sets gives = with_source (λ (plain : ScriptView). plain.day.history) (IsReplay sets) (λ plain. Begins plain.sets sets) CallsPlain (Steps sets) gives (calls_seen sets)

-- a book before its first command, as its type says that it stands
pub record IsFresh (plain : ScriptView) : Type 0 where
  pub day : plain.day ≡ opening
  pub shown : length plain.sets ≡ plain.day.book.state.version + 1

opens : (sets : List Tables) (plain : ScriptView) → IsFresh plain → IsReplay sets plain
opens sets plain fresh = record { shown = fresh.shown; state = rw fresh.day refl }

pub starts : (plain : ScriptView) → plain.day ≡ opening → length plain.sets ≡ plain.day.book.state.version + 1 → IsFresh plain
starts plain day shown = record { day = day; shown = shown }

pub answers : {S : Type 0} (gives : Fetch S) (before after : ConversationView) (old new : ScriptView) (s t : S) (n : ℕ) → IsFresh old
    → HasAnswered (Answers CallsPlain gives) before after (old, s) (new, t) n → HasAnswered (Answers (Steps new.sets) gives) before after ([], s) (new.day.history, t) n
answers gives before after old new s t n fresh a =
    rw (ap (λ (day : BookView). day.history) fresh.day) at (seen_answered _ _ _ _ _ (seen_by new.sets gives) before after (old, s) (new, t) n (opens new.sets old fresh) (begins_itself new.sets) a)

pub stops : {S : Type 0} (gives : Fetch S) (before after : ConversationView) (old new : ScriptView) (s t : S) → IsFresh old
    → HasStopped (Answers CallsPlain gives) before after (old, s) (new, t) → HasStopped (Answers (Steps new.sets) gives) before after ([], s) (new.day.history, t)
stops gives before after old new s t fresh a =
    rw (ap (λ (day : BookView). day.history) fresh.day) at (seen_stopped _ _ _ _ _ (seen_by new.sets gives) before after (old, s) (new, t) (opens new.sets old fresh) (begins_itself new.sets) a)

pub catches_up : {S : Type 0} (gives : Fetch S) (before after : ConversationView) (old new : ScriptView) (s t : S) (n : ℕ) → IsFresh old
    → IsCaughtUp (Answers CallsPlain gives) before after (old, s) (new, t) n → IsCaughtUp (Answers (Steps new.sets) gives) before after ([], s) (new.day.history, t) n
catches_up gives before after old new s t n fresh a =
    rw (ap (λ (day : BookView). day.history) fresh.day) at (seen_caught_up _ _ _ _ _ (seen_by new.sets gives) before after (old, s) (new, t) n (opens new.sets old fresh) (begins_itself new.sets) a)

pub has_too_much : {S : Type 0} (gives : Fetch S) (before after : ConversationView) (old new : ScriptView) (s t : S) → IsFresh old
    → HasTooMuch (Answers CallsPlain gives) before after (old, s) (new, t) → HasTooMuch (Answers (Steps new.sets) gives) before after ([], s) (new.day.history, t)
has_too_much gives before after old new s t fresh a =
    rw (ap (λ (day : BookView). day.history) fresh.day) at (seen_too_much _ _ _ _ _ (seen_by new.sets gives) before after (old, s) (new, t) (opens new.sets old fresh) (begins_itself new.sets) a)

pub runs_out : {S : Type 0} (gives : Fetch S) (before after : ConversationView) (old new : ScriptView) (s t : S) → IsFresh old
    → HasRunOut (Answers CallsPlain gives) before after (old, s) (new, t) → HasRunOut (Answers (Steps new.sets) gives) before after ([], s) (new.day.history, t)
runs_out gives before after old new s t fresh a =
    rw (ap (λ (day : BookView). day.history) fresh.day) at (seen_run_out _ _ _ _ _ (seen_by new.sets gives) before after (old, s) (new, t) (opens new.sets old fresh) (begins_itself new.sets) a)

-- what the book then is
pub record IsScripted (old new : ScriptView) : Type 0 where
  pub sets : Begins old.sets new.sets
  pub state : new.day.book.state ≡ replay new.sets new.day.history

scripted : {S : Type 0} (gives : Fetch S) (old new : ScriptView) (s t : S) (input text : List ℕ) (n : ℕ) → IsFresh old
    → IsSession (Answers CallsPlain gives) (old, s) (new, t) input text n → IsScripted old new
scripted gives old new s t input text n fresh a =
    record {
      sets = session_before _ _ _ _ _ (seen_by new.sets gives) (old, s) (new, t) input text n (begins_itself new.sets) a;
      state = (seen_session _ _ _ _ _ (seen_by new.sets gives) (old, s) (new, t) input text n (opens new.sets old fresh) (begins_itself new.sets) a).1.state;
    }

pub replays : {S : Type 0} (gives : Fetch S) (r : Result ℕ SessionFault) (before after : ConversationView) (old new : ScriptView) (s t : S) → IsFresh old
    → IfOk r (λ n. HasAnswered (Answers CallsPlain gives) before after (old, s) (new, t) n)
    → OnErr r (HasStopped (Answers CallsPlain gives) before after (old, s) (new, t)) → IsScripted old new
replays gives (Ok n) before after old new s t fresh a b = scripted gives old new s t a.all.input a.all.text n fresh a.all.session
replays gives (Err fault) before after old new s t fresh a b = scripted gives old new s t b.input b.text b.count fresh b.session

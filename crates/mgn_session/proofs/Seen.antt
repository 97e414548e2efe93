-- A session is a session of what is seen of it, where each of its steps is: for scripts.
use Rattle.std.proofs.Common.{ℕ, List, [], ◌∷◌, ◌++◌, Result, Ok, Err, ap, inl, inr, subst, sym}
use Rattle.mgn_params.specs.Tables.{Tables}
use Rattle.mgn_setfile.specs.File.{outcome, records_of}
use Rattle.mgn_setfile.specs.Fields.{Flaw}
use Rattle.mgn_machine.specs.declared.reply.Answer.{Answer}
use Rattle.mgn_machine.specs.declared.request.Request.{Request}
use Rattle.mgn_machine.specs.declared.request.Request.TheVariants as request
use Rattle.mgn_wire.specs.Line.{line_of}
use Rattle.mgn_wire.specs.declared.fault.LineFault.{LineFault}
use Rattle.mgn_wire.specs.declared.line.Line.{Line}
use Rattle.mgn_wire.specs.declared.line.Line.TheVariants.{Do, Switch}
use Rattle.mgn_wire.specs.declared.reply.LineReply.{LineReply}
use Rattle.mgn_session.specs.Conversation.{ConversationView}
use Rattle.mgn_session.specs.Session.{Answers, AnswersAll, Call, Executes, Fetch, HasAnswered, HasRunOut, HasStopped, HasTooMuch, IsCaughtUp, IsSession, IsUndone, Reads, Step, Switches}
use Rattle.mgn_session.specs.declared.source.SourceFault.{SourceFault}
use Rattle.mgn_session.specs.declared.source.SourceFault.TheVariants.{Missing, Failed, Long, Memory}

-- What is seen may lean on what comes later: a bound that holds after a step held before it, and a step within it keeps a
-- fact and is one of what is seen.
pub record IsSeen {X Y : Type 0} (see : X → Y) (Holds Within : X → Type 0) (step : Step X) (seen : Step Y) : Type 0 where
  pub earlier : (old new : X) (read : Result Line LineFault) (reply : LineReply) → step old read reply new → Within new → Within old
  pub each : (old new : X) (read : Result Line LineFault) (reply : LineReply)
      → Holds old → Within new → step old read reply new → seen (see old) read reply (see new) × Holds new

within_before : {X Y : Type 0} (see : X → Y) (Holds Within : X → Type 0) (step : Step X) (seen : Step Y)
    → IsSeen see Holds Within step seen → (lines : List (List ℕ)) (replies : List LineReply) (old new : X)
    → AnswersAll step old lines replies new → Within new → Within old
within_before see Holds Within step seen is [] [] old new all within = rw all at within
within_before see Holds Within step seen is [] (reply ∷ replies) old new all within = absurd all
within_before see Holds Within step seen is (line ∷ lines) [] old new all within = absurd all
within_before see Holds Within step seen is (line ∷ lines) (reply ∷ replies) old new all within =
    is.earlier old all.0 (line_of line) reply all.1 (within_before see Holds Within step seen is lines replies all.0 new all.2 within)

seen_lines : {X Y : Type 0} (see : X → Y) (Holds Within : X → Type 0) (step : Step X) (seen : Step Y)
    → IsSeen see Holds Within step seen → (lines : List (List ℕ)) (replies : List LineReply) (old new : X)
    → Holds old → Within new → AnswersAll step old lines replies new → AnswersAll seen (see old) lines replies (see new) × Holds new
seen_lines see Holds Within step seen is [] [] old new holds within all = (ap see all, rw all holds)
seen_lines see Holds Within step seen is [] (reply ∷ replies) old new holds within all = absurd all
seen_lines see Holds Within step seen is (line ∷ lines) [] old new holds within all = absurd all
seen_lines see Holds Within step seen is (line ∷ lines) (reply ∷ replies) old new holds within all =
    let then = within_before see Holds Within step seen is lines replies all.0 new all.2 within in
    let first = is.each old all.0 (line_of line) reply holds then all.1 in
    let rest = seen_lines see Holds Within step seen is lines replies all.0 new first.1 within all.2 in
    ((see all.0, first.0, rest.0), rest.1)

pub seen_session : {X Y : Type 0} (see : X → Y) (Holds Within : X → Type 0) (step : Step X) (seen : Step Y)
    → IsSeen see Holds Within step seen → (old new : X) (input text : List ℕ) (count : ℕ)
    → Holds old → Within new → IsSession step old new input text count → IsSession seen (see old) (see new) input text count × Holds new
seen_session see Holds Within step seen is old new input text count holds within s =
    let all = seen_lines see Holds Within step seen is s.lines s.replies old new holds within s.answered in (
      record {
        lines = s.lines;
        rest = s.rest;
        replies = s.replies;
        splits = s.splits;
        count_is = s.count_is;
        answered = all.0;
        text_is = s.text_is;
      },
      all.1,
    )

pub session_before : {X Y : Type 0} (see : X → Y) (Holds Within : X → Type 0) (step : Step X) (seen : Step Y)
    → IsSeen see Holds Within step seen → (old new : X) (input text : List ℕ) (count : ℕ)
    → Within new → IsSession step old new input text count → Within old
session_before see Holds Within step seen is old new input text count within s =
    within_before see Holds Within step seen is s.lines s.replies old new s.answered within

abbrev pub seen_caught_up : {X Y : Type 0} (see : X → Y) (Holds Within : X → Type 0) (step : Step X) (seen : Step Y)
    → IsSeen see Holds Within step seen → (before after : ConversationView) (old new : X) (count : ℕ)
    → Holds old → Within new → IsCaughtUp step before after old new count → IsCaughtUp seen before after (see old) (see new) count
seen_caught_up see Holds Within step seen is before after old new count holds within s =
    record {
      input = s.input;
      text = s.text;
      reads = s.reads;
      writes = s.writes;
      session = (seen_session see Holds Within step seen is old new s.input s.text count holds within s.session).0;
      quiet = s.quiet;
    }

pub seen_answered : {X Y : Type 0} (see : X → Y) (Holds Within : X → Type 0) (step : Step X) (seen : Step Y)
    → IsSeen see Holds Within step seen → (before after : ConversationView) (old new : X) (count : ℕ)
    → Holds old → Within new → HasAnswered step before after old new count → HasAnswered seen before after (see old) (see new) count
seen_answered see Holds Within step seen is before after old new count holds within s =
    record {
      all = seen_caught_up see Holds Within step seen is before after old new count holds within s.all;
      end = s.end;
      ended = s.ended;
      lines = s.lines;
      bytes = s.bytes;
    }

pub seen_stopped : {X Y : Type 0} (see : X → Y) (Holds Within : X → Type 0) (step : Step X) (seen : Step Y)
    → IsSeen see Holds Within step seen → (before after : ConversationView) (old new : X)
    → Holds old → Within new → HasStopped step before after old new → HasStopped seen before after (see old) (see new)
seen_stopped see Holds Within step seen is before after old new holds within s =
    record {
      input = s.input;
      more = s.more;
      text = s.text;
      count = s.count;
      sent = s.sent;
      reads = s.reads;
      writes = s.writes;
      session = (seen_session see Holds Within step seen is old new s.input s.text s.count holds within s.session).0;
    }

pub seen_too_much : {X Y : Type 0} (see : X → Y) (Holds Within : X → Type 0) (step : Step X) (seen : Step Y)
    → IsSeen see Holds Within step seen → (before after : ConversationView) (old new : X)
    → Holds old → Within new → HasTooMuch step before after old new → HasTooMuch seen before after (see old) (see new)
seen_too_much see Holds Within step seen is before after old new holds within s =
    record {
      input = s.input;
      more = s.more;
      text = s.text;
      count = s.count;
      further = s.further;
      bound = s.bound;
      reads = s.reads;
      writes = s.writes;
      session = (seen_session see Holds Within step seen is old new s.input s.text s.count holds within s.session).0;
    }

pub seen_run_out : {X Y : Type 0} (see : X → Y) (Holds Within : X → Type 0) (step : Step X) (seen : Step Y)
    → IsSeen see Holds Within step seen → (before after : ConversationView) (old new : X)
    → Holds old → Within new → HasRunOut step before after old new → HasRunOut seen before after (see old) (see new)
seen_run_out see Holds Within step seen is before after old new holds within s =
    record {
      input = s.input;
      more = s.more;
      text = s.text;
      lost = s.lost;
      count = s.count;
      reads = s.reads;
      writes = s.writes;
      lost_is = s.lost_is;
      session = (seen_session see Holds Within step seen is old new s.input (s.text ++ s.lost) s.count holds within s.session).0;
    }

-- The same of an executor alone: what answers lines is it and a source.

pub record IsSeenCall {E F : Type 0} (see : E → F) (Holds Within : E → Type 0) (call : Call E) (seen : Call F) : Type 0 where
  pub earlier : (old new : E) (request : Request) (answer : Answer) → call old request answer new → Within new → Within old
  pub each : (old new : E) (request : Request) (answer : Answer)
      → Holds old → Within new → call old request answer new → seen (see old) request answer (see new) × Holds new

-- a call

executes_earlier : {E F : Type 0} (see : E → F) (Holds Within : E → Type 0) (call : Call E) (seen : Call F) → IsSeenCall see Holds Within call seen
    → (old new : E) (request : Request) (reply : LineReply) → Executes call old request reply new → Within new → Within old
executes_earlier see Holds Within call seen is old new request reply one within = is.earlier old new request one.0 one.2 within

executes_seen : {E F : Type 0} (see : E → F) (Holds Within : E → Type 0) (call : Call E) (seen : Call F) → IsSeenCall see Holds Within call seen
    → (old new : E) (request : Request) (reply : LineReply) → Holds old → Within new → Executes call old request reply new
    → Executes seen (see old) request reply (see new) × Holds new
executes_seen see Holds Within call seen is old new request reply holds within one =
    let called = is.each old new request one.0 holds within one.2 in
    ((one.0, one.1, called.0), called.1)

-- a file

reads_earlier : {E F : Type 0} (see : E → F) (Holds Within : E → Type 0) (call : Call E) (seen : Call F) → IsSeenCall see Holds Within call seen
    → (file : Result Tables (ℕ × Flaw)) (old new : E) (reply : LineReply) → Reads call old file reply new → Within new → Within old
reads_earlier see Holds Within call seen is (Ok set') old new reply one within = executes_earlier see Holds Within call seen is old new (request.Switch set') reply one within
reads_earlier see Holds Within call seen is (Err fault) old new reply one within = subst Within one.1 within

reads_seen : {E F : Type 0} (see : E → F) (Holds Within : E → Type 0) (call : Call E) (seen : Call F) → IsSeenCall see Holds Within call seen
    → (file : Result Tables (ℕ × Flaw)) (old new : E) (reply : LineReply) → Holds old → Within new → Reads call old file reply new
    → Reads seen (see old) file reply (see new) × Holds new
reads_seen see Holds Within call seen is (Ok set') old new reply holds within one = executes_seen see Holds Within call seen is old new (request.Switch set') reply holds within one
reads_seen see Holds Within call seen is (Err fault) old new reply holds within one = ((one.0, ap see one.1), subst Holds (sym one.1) holds)

-- what the source gave

undone_seen : {E F : Type 0} (see : E → F) (Holds : E → Type 0) (old new : E) (reply : LineReply) → Holds old → IsUndone old reply new
    → IsUndone (see old) reply (see new) × Holds new
undone_seen see Holds old new reply holds one = ((one.0, ap see one.1), subst Holds (sym one.1) holds)

switches_earlier : {E F : Type 0} (see : E → F) (Holds Within : E → Type 0) (call : Call E) (seen : Call F) → IsSeenCall see Holds Within call seen
    → (given : Result (List ℕ) SourceFault) (old new : E) (reply : LineReply) → Switches call old given reply new → Within new → Within old
switches_earlier see Holds Within call seen is (Ok bytes) old new reply (inl one) within = reads_earlier see Holds Within call seen is (outcome (records_of bytes)) old new reply one within
switches_earlier see Holds Within call seen is (Ok bytes) old new reply (inr one) within = subst Within one.1 within
switches_earlier see Holds Within call seen is (Err Memory) old new reply one within = subst Within one.1 within
switches_earlier see Holds Within call seen is (Err Missing) old new reply one within = subst Within one.1 within
switches_earlier see Holds Within call seen is (Err Failed) old new reply one within = subst Within one.1 within
switches_earlier see Holds Within call seen is (Err Long) old new reply one within = subst Within one.1 within

switches_seen : {E F : Type 0} (see : E → F) (Holds Within : E → Type 0) (call : Call E) (seen : Call F) → IsSeenCall see Holds Within call seen
    → (given : Result (List ℕ) SourceFault) (old new : E) (reply : LineReply) → Holds old → Within new → Switches call old given reply new
    → Switches seen (see old) given reply (see new) × Holds new
switches_seen see Holds Within call seen is (Ok bytes) old new reply holds within (inl one) =
    let read = reads_seen see Holds Within call seen is (outcome (records_of bytes)) old new reply holds within one in
    (inl read.0, read.1)
switches_seen see Holds Within call seen is (Ok bytes) old new reply holds within (inr one) =
    let undone = undone_seen see Holds old new reply holds one in
    (inr undone.0, undone.1)
switches_seen see Holds Within call seen is (Err Memory) old new reply holds within one = undone_seen see Holds old new reply holds one
switches_seen see Holds Within call seen is (Err Missing) old new reply holds within one = ((one.0, ap see one.1), subst Holds (sym one.1) holds)
switches_seen see Holds Within call seen is (Err Failed) old new reply holds within one = ((one.0, ap see one.1), subst Holds (sym one.1) holds)
switches_seen see Holds Within call seen is (Err Long) old new reply holds within one = ((one.0, ap see one.1), subst Holds (sym one.1) holds)

-- a line

answers_earlier : {E F S : Type 0} (see : E → F) (Holds Within : E → Type 0) (call : Call E) (seen : Call F) (gives : Fetch S) → IsSeenCall see Holds Within call seen
    → (read : Result Line LineFault) (old new : E × S) (reply : LineReply) → Answers call gives old read reply new → Within new.0 → Within old.0
answers_earlier see Holds Within call seen gives is (Ok (Do command)) old new reply one within = executes_earlier see Holds Within call seen is old.0 new.0 (request.Do command) reply one.0 within
answers_earlier see Holds Within call seen gives is (Ok (Switch name)) old new reply one within = switches_earlier see Holds Within call seen is one.0 old.0 new.0 reply one.2 within
answers_earlier {E = E} {S = S} see Holds Within call seen gives is (Err fault) old new reply one within = subst (λ (x : E × S). Within x.0) one.1 within

answers_seen : {E F S : Type 0} (see : E → F) (Holds Within : E → Type 0) (call : Call E) (seen : Call F) (gives : Fetch S) → IsSeenCall see Holds Within call seen
    → (read : Result Line LineFault) (old new : E × S) (reply : LineReply) → Holds old.0 → Within new.0 → Answers call gives old read reply new
    → Answers seen gives (see old.0, old.1) read reply (see new.0, new.1) × Holds new.0
answers_seen see Holds Within call seen gives is (Ok (Do command)) old new reply holds within one =
    let executed = executes_seen see Holds Within call seen is old.0 new.0 (request.Do command) reply holds within one.0 in
    ((executed.0, one.1), executed.1)
answers_seen see Holds Within call seen gives is (Ok (Switch name)) old new reply holds within one =
    let switched = switches_seen see Holds Within call seen is one.0 old.0 new.0 reply holds within one.2 in
    ((one.0, one.1, switched.0), switched.1)
answers_seen {E = E} {S = S} see Holds Within call seen gives is (Err fault) old new reply holds within one =
    ((one.0, ap (λ (x : E × S). (see x.0, x.1)) one.1), subst (λ (x : E × S). Holds x.0) (sym one.1) holds)

pub with_source : {E F S : Type 0} (see : E → F) (Holds Within : E → Type 0) (call : Call E) (seen : Call F) (gives : Fetch S) → IsSeenCall see Holds Within call seen
    → IsSeen (λ (x : E × S). (see x.0, x.1)) (λ x. Holds x.0) (λ x. Within x.0) (Answers call gives) (Answers seen gives)
with_source see Holds Within call seen gives is =
    record {
      earlier = λ old new read reply one within. answers_earlier see Holds Within call seen gives is read old new reply one within;
      each = λ old new read reply holds within one. answers_seen see Holds Within call seen gives is read old new reply holds within one;
    }

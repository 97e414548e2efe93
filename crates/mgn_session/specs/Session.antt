-- What a session reads, answers and writes (own format). An executor and a source of sets are seen by what each of their
-- calls does: by the relation of the one before, what it is asked, what it gives, and the one after.
use Rattle.std.specs.Prelude.{◌≡◌, ◌==◌, ◌⊎◌, ◌<◌, ◌≤◌, ℕ, Bool, true, false, List, [], ◌∷◌, ◌++◌, length, take, Option, Some, None, Result, Ok, Err}
use Rattle.std.specs.List.{flat_map, list_any}
use Rattle.std.specs.Io.KnownBytes.{Appends, Consumes, IsAtEnd}
use Rattle.mgn_params.specs.Tables.{Tables}
use Rattle.mgn_setfile.specs.File.{outcome, records_of}
use Rattle.mgn_setfile.specs.Fields.{Flaw}
use Rattle.mgn_machine.specs.declared.entry.Item.{Item}
use Rattle.mgn_machine.specs.declared.reply.Refusal.TheVariants.{Memory, Full, Broken}
use Rattle.mgn_machine.specs.declared.reply.Reply.{Reply}
use Rattle.mgn_machine.specs.declared.reply.Reply.TheVariants.{Refused}
use Rattle.mgn_machine.specs.declared.reply.Answer.{Answer}
use Rattle.mgn_machine.specs.declared.request.Request.{Request}
use Rattle.mgn_machine.specs.declared.request.Request.TheVariants as request
use Rattle.mgn_machine.specs.History.{item, recorded}
use Rattle.mgn_wire.specs.Line.{line_of}
use Rattle.mgn_wire.specs.Text.{lines_after, text_of}
use Rattle.mgn_wire.specs.declared.fault.LineFault.{LineFault}
use Rattle.mgn_wire.specs.declared.line.Line.{Line}
use Rattle.mgn_wire.specs.declared.line.Line.TheVariants.{Do, Switch}
use Rattle.mgn_wire.specs.declared.reply.LineReply.{LineReply}
use Rattle.mgn_wire.specs.declared.reply.LineReply.TheVariants.{Answered, NotRead, NoSet, BadSet}
use Rattle.mgn_session.specs.Conversation.{ConversationView, IsQuiet}
use Rattle.mgn_session.specs.Device.{one_more}
use Rattle.mgn_session.specs.declared.fault.SessionFault.{SessionFault}
use Rattle.mgn_session.specs.declared.fault.SessionFault.TheVariants as session
use Rattle.mgn_session.specs.declared.source.SourceFault.{SourceFault}
use Rattle.mgn_session.specs.declared.source.SourceFault.TheVariants as source

-- What an executor does.

-- the executor before, the request, the answer, the executor after
abbrev pub Call : Type 0 → Type 1
Call E = E → Request → Answer → E → Type 0

-- the replies that have no place: no memory, no room in a history that is full, or a service that is closed
abbrev pub IsUnplaced : Type 0 → Type 0 → Reply → Type 0
IsUnplaced full broken reply =
    (reply ≡ Refused Memory) ⊎ (((reply ≡ Refused Full) × full) ⊎ ((reply ≡ Refused Broken) × broken))

-- what the answer to a request adds to the list: its item with the answer's place, or nothing
abbrev pub AddsAt : Type 0 → Type 0 → Option ℕ → Request → Reply → List Item → List Item → Type 0
AddsAt full broken (Some place) request reply old new = new ≡ old ++ item place (recorded request reply) reply ∷ []
AddsAt full broken None request reply old new = (new ≡ old) × IsUnplaced full broken reply

-- the list gains what is answered with a place, and else the call is as the executor says
abbrev pub Calls : {E : Type 0} → (E → List Item) → (E → Type 0) → (E → Type 0) → Call E → Call E
Calls entries is_full is_broken does old request answer new =
    AddsAt (is_full new) (is_broken new) answer.place request answer.reply (entries old) (entries new)
    × does old request answer new

-- What a line is answered.

-- the source before, the name of a set, the bytes of its file or why there are none, the source after
abbrev pub Fetch : Type 0 → Type 1
Fetch S = S → List ℕ → Result (List ℕ) SourceFault → S → Type 0

-- what answers before, what a line asks for, what the line is answered, what answers after
abbrev pub Step : Type 0 → Type 1
Step X = X → Result Line LineFault → LineReply → X → Type 0

-- the executor's answer to a request
abbrev pub Executes : {E : Type 0} → Call E → E → Request → LineReply → E → Type 0
Executes call old request reply new = (answer : Answer) × (reply ≡ Answered answer) × call old request answer new

-- of a file that is no set the first record that is wrong is told, without a call
abbrev pub Reads : {E : Type 0} → Call E → E → Result Tables (ℕ × Flaw) → LineReply → E → Type 0
Reads call old (Ok set) reply new = Executes call old (request.Switch set) reply new
Reads call old (Err fault) reply new = (reply ≡ BadSet fault.0) × (new ≡ old)

-- memory could not be had, and nothing is done
abbrev pub IsUndone : {E : Type 0} → E → LineReply → E → Type 0
IsUndone old reply new = (reply ≡ Answered record { place = None; reply = Refused Memory }) × (new ≡ old)

-- a switch, by what the source gave
abbrev pub Switches : {E : Type 0} → Call E → E → Result (List ℕ) SourceFault → LineReply → E → Type 0
Switches call old (Ok bytes) reply new = Reads call old (outcome (records_of bytes)) reply new ⊎ IsUndone old reply new
Switches call old (Err source.Memory) reply new = IsUndone old reply new
Switches call old (Err fault) reply new = (reply ≡ NoSet) × (new ≡ old)

-- an executor with a source: the executor answers a command, and the set of a file that the source gives; a line that asks
-- for nothing is refused without a call
abbrev pub Answers : {E S : Type 0} → Call E → Fetch S → Step (E × S)
Answers call gives old (Ok (Do command)) reply new = Executes call old.0 (request.Do command) reply new.0 × (new.1 ≡ old.1)
Answers call gives old (Ok (Switch name)) reply new =
    (given : Result (List ℕ) SourceFault) × gives old.1 name given new.1 × Switches call old.0 given reply new.0
Answers call gives old (Err fault) reply new = (reply ≡ NotRead fault) × (new ≡ old)

-- one answer to each line, in order, each from where the one before ended; nothing else is done
abbrev pub AnswersAll : {X : Type 0} → Step X → X → List (List ℕ) → List LineReply → X → Type 0
AnswersAll step old [] [] new = new ≡ old
AnswersAll {X = X} step old (line ∷ lines) (reply ∷ replies) new =
    (next : X) × step old (line_of line) reply next × AnswersAll step next lines replies new
AnswersAll step old [] (reply ∷ replies) new = ⊥
AnswersAll step old (line ∷ lines) [] new = ⊥

-- a line with its line feed
abbrev pub ended : List ℕ → List ℕ
ended line = line ++ 10 ∷ []

abbrev pub has_end : List ℕ → Bool
has_end bytes = list_any (λ b. b == 10) bytes

-- the input is these lines, and then a rest that is no whole line
pub record Splits (input : List ℕ) (lines : List (List ℕ)) (rest : List ℕ) : Type 0 where
  pub whole : input ≡ flat_map ended lines ++ rest
  pub each : list_any has_end lines ≡ false
  pub partial : has_end rest ≡ false

-- A session over this input with this text: the lines of the input, so many, were answered in order and nothing else was
-- done, and the text is the text of the answers.
pub record IsSession {X : Type 0} (step : Step X) (old new : X) (input text : List ℕ) (count : ℕ) : Type 0 where
  pub lines : List (List ℕ)
  pub rest : List ℕ
  pub replies : List LineReply
  pub splits : Splits input lines rest
  pub count_is : count ≡ length lines
  pub answered : AnswersAll step old lines replies new
  pub text_is : text ≡ flat_map text_of replies

-- How a session ends.

-- This input was read, and no more; the text of its session, and nothing else, was written and flushed.
pub record IsCaughtUp {X : Type 0} (step : Step X) (before after : ConversationView) (old new : X) (count : ℕ) : Type 0 where
  pub input : List ℕ
  pub text : List ℕ
  pub reads : Consumes before.input after.input input
  pub writes : Appends before.output after.output text
  pub session : IsSession step old new input text count
  pub quiet : IsQuiet after

-- The whole input was read and answered, and had no more lines or bytes than a session may.
pub record HasAnswered {X : Type 0} (step : Step X) (before after : ConversationView) (old new : X) (count : ℕ) : Type 0 where
  pub all : IsCaughtUp step before after old new count
  pub end : IsAtEnd after.input
  pub ended : after.ended ≡ true
  pub lines : count ≤ 1000000
  pub bytes : length all.input ≤ 268435456

-- The lines of a prefix of what was read were answered, and a prefix of the text of their answers was written. Nothing
-- else was done.
pub record HasStopped {X : Type 0} (step : Step X) (before after : ConversationView) (old new : X) : Type 0 where
  pub input : List ℕ
  pub more : List ℕ
  pub text : List ℕ
  pub count : ℕ
  pub sent : ℕ
  pub reads : Consumes before.input after.input (input ++ more)
  pub writes : Appends before.output after.output (take sent text)
  pub session : IsSession step old new input text count

-- A byte came after the last line or the last byte that may be. All replies to the lines before it were written.
pub record HasTooMuch {X : Type 0} (step : Step X) (before after : ConversationView) (old new : X) : Type 0 where
  pub input : List ℕ
  pub more : List ℕ
  pub text : List ℕ
  pub count : ℕ
  pub further : 0 < length more
  pub bound : (count ≡ 1000000) ⊎ (length input ≡ 268435456)
  pub reads : Consumes before.input after.input (input ++ more)
  pub writes : Appends before.output after.output text
  pub session : IsSession step old new input text count

-- a text that found no memory: none, or the reply of one statement, which has lines of its own after the first
abbrev pub IsLost : List ℕ → Type 0
IsLost lost = (lost ≡ []) ⊎ ((reply : LineReply) × (lost ≡ text_of reply) × (lines_after reply ≡ [] → ⊥))

-- Memory ran out. All replies to the lines that were answered were written, but for the last where it is a statement.
pub record HasRunOut {X : Type 0} (step : Step X) (before after : ConversationView) (old new : X) : Type 0 where
  pub input : List ℕ
  pub more : List ℕ
  pub text : List ℕ
  pub lost : List ℕ
  pub count : ℕ
  pub reads : Consumes before.input after.input (input ++ more)
  pub writes : Appends before.output after.output text
  pub lost_is : IsLost lost
  pub session : IsSession step old new input (text ++ lost) count

-- how often a device failed, by the outcome: once more at the fault of its name, else not
abbrev pub reads_failed : {X : Type 0} → ℕ → Result X SessionFault → ℕ
reads_failed n (Err session.Read) = one_more n
reads_failed n _ = n

abbrev pub writes_failed : {X : Type 0} → ℕ → Result X SessionFault → ℕ
writes_failed n (Err session.Write) = one_more n
writes_failed n _ = n

-- A failure of a device is its fault, and is not tried again.
pub record BlamesDevices {X : Type 0} (before after : ConversationView) (result : Result X SessionFault) : Type 0 where
  pub reads : after.failed_reads ≡ reads_failed before.failed_reads result
  pub writes : after.failed_writes ≡ writes_failed before.failed_writes result

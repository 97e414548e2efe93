-- The text of what a line is answered (own format).
use Rattle.std.specs.Prelude.{ℕ, List, [], ◌++◌, Option, Some, None, codes}
use Rattle.mgn_machine.specs.declared.reply.Refusal.{Refusal}
use Rattle.mgn_machine.specs.declared.reply.Refusal.TheVariants.{NoAccount, NoOrigin, Duplicate, NoContract, NoTrade, NoClass, NoRoom, Limit, Premium, Over, OtherOrigin, Moved, Missing, Sets, Closed, Memory, Full, Broken, NoOrder}
use Rattle.mgn_machine.specs.declared.reply.NewSet.{NewSet}
use Rattle.mgn_machine.specs.declared.reply.Reply.{Reply}
use Rattle.mgn_machine.specs.declared.reply.Reply.TheVariants as reply
use Rattle.mgn_machine.specs.declared.reply.Totals.{Totals}
use Rattle.mgn_wire.specs.declared.fault.LineFault.{LineFault}
use Rattle.mgn_wire.specs.declared.fault.LineFault.TheVariants.{Long, Syntax, Range}
use Rattle.mgn_wire.specs.Fields.{field, figures_text, number_text}
use Rattle.mgn_wire.specs.StatementText.{line_count, statement_text}
use Rattle.mgn_wire.specs.declared.reply.LineReply.{LineReply}
use Rattle.mgn_wire.specs.declared.reply.LineReply.TheVariants.{Answered, NotRead, NoSet, BadSet}

-- each refusal with its code and its name
abbrev pub refusal_text : Refusal → List ℕ
refusal_text NoAccount = codes "20 NOACCT"
refusal_text NoOrigin = codes "21 NOORIGIN"
refusal_text Duplicate = codes "22 DUP"
refusal_text NoContract = codes "23 NOCONTRACT"
refusal_text NoTrade = codes "24 NOTRADE"
refusal_text NoOrder = codes "25 NOORDER"
refusal_text NoClass = codes "26 NOCLASS"
refusal_text NoRoom = codes "30 NOROOM"
refusal_text Limit = codes "31 LIMIT"
refusal_text Premium = codes "32 PREMIUM"
refusal_text Over = codes "33 OVER"
refusal_text OtherOrigin = codes "34 ORIGIN"
refusal_text Moved = codes "35 MOVED"
refusal_text Missing = codes "42 MISSING"
refusal_text Sets = codes "43 SETS"
refusal_text Closed = codes "50 CLOSED"
refusal_text Memory = codes "90 MEMORY"
refusal_text Full = codes "91 FULL"
refusal_text Broken = codes "92 BROKEN"

abbrev pub totals_text : Totals → List ℕ
totals_text t = field t.requirement ++ field t.value ++ field t.call ++ number_text t.accounts

-- the place, where there is one, after the word that tells whether the command is done
abbrev pub place_text : Option ℕ → List ℕ
place_text None = []
place_text (Some place) = number_text place

-- the version of a set that came into force, and how many units are on call under it
abbrev pub set_text : NewSet → List ℕ
set_text told = number_text told.version ++ number_text told.on_call

abbrev pub reply_of : Option ℕ → Reply → List ℕ
reply_of place reply.Done = codes "OK" ++ place_text place
reply_of place (reply.Figures figures) = codes "OK" ++ place_text place ++ figures_text figures
reply_of place (reply.Totals totals) = codes "OK" ++ place_text place ++ totals_text totals
reply_of place (reply.NewSet told) = codes "OK" ++ place_text place ++ set_text told
reply_of place (reply.Statement told) = codes "OK" ++ place_text place ++ number_text (line_count told)
reply_of place (reply.Refused refusal) = codes "ERR" ++ place_text place ++ codes " " ++ refusal_text refusal

-- each fault of a line with its code and its name
abbrev pub fault_text : LineFault → List ℕ
fault_text Syntax = codes "10 SYNTAX"
fault_text Long = codes "11 LONG"
fault_text Range = codes "12 RANGE"

abbrev pub line_reply_of : LineReply → List ℕ
line_reply_of (Answered answer) = reply_of answer.place answer.reply
line_reply_of (NotRead fault) = codes "ERR " ++ fault_text fault
line_reply_of NoSet = codes "ERR 40 NOSET"
line_reply_of (BadSet record_number) = codes "ERR 41 BADSET" ++ number_text record_number

-- a statement has lines of its own after that of its reply
abbrev pub statement_lines : Reply → List ℕ
statement_lines (reply.Statement told) = statement_text told
statement_lines _ = []

abbrev pub lines_after : LineReply → List ℕ
lines_after (Answered answer) = statement_lines answer.reply
lines_after _ = []

-- the text of what a line is answered: a line, and after it those of a statement
unfoldable pub text_of : LineReply → List ℕ
text_of reply = line_reply_of reply ++ codes "\n" ++ lines_after reply

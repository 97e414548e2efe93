-- Why the program ends early, and its exit status then.
use Rattle.std.specs.Prelude.{ℕ, List, codes}
use Rattle.clap.specs.Values.{kind_of}
use Rattle.clap.specs.declared.error.Error.{Error}
use Rattle.clap.specs.declared.error.kind.ErrorKind.{ErrorKind}
use Rattle.clap.specs.declared.error.kind.ErrorKind.TheVariants as kind
use Rattle.mgn_session.specs.declared.fault.SessionFault.{SessionFault}
use Rattle.mgn_session.specs.declared.fault.SessionFault.TheVariants as session
use Rattle.mgn_session.specs.declared.source.SourceFault.{SourceFault}
use Rattle.mgn_session.specs.declared.source.SourceFault.TheVariants as source
use Rattle.spand_lib.specs.declared.fault.Fault.{Fault}
use Rattle.spand_lib.specs.declared.fault.Fault.TheVariants.{Usage, NoSet, BadSet, BadRecord, Session, Output, Port, ServerOutput, Passes, Unmatched, Memory}

-- of the command line: 0 where it asks for help or the version
abbrev pub usage_status : ErrorKind → ℕ
usage_status kind.DisplayHelp = 0
usage_status kind.DisplayVersion = 0
usage_status _ = 2

abbrev pub status_of : Fault → ℕ
status_of (Usage e) = usage_status (kind_of e)
status_of NoSet = 3
status_of (BadSet e) = 3
status_of (BadRecord e) = 3
status_of (Session e) = 4
status_of Output = 4
status_of Port = 4
status_of ServerOutput = 4
status_of Passes = 5
status_of (Unmatched s) = 5
status_of Memory = 6

-- the word by which a fault of a session is told
abbrev pub word_of : SessionFault → List ℕ
word_of session.Read = codes "READ"
word_of session.Write = codes "WRITE"
word_of session.Memory = codes "MEMORY"
word_of session.Lines = codes "LINES"

-- what the command line's parser answers
abbrev pub usage_by : ErrorKind → Error → Fault
usage_by kind.OutOfMemory e = Memory
usage_by _ e = Usage e

abbrev pub usage : Error → Fault
usage e = usage_by (kind_of e) e

-- what a source answers that gives no file
abbrev pub of_source : SourceFault → Fault
of_source source.Memory = Memory
of_source _ = NoSet

-- What contracts see of a conversation, and what each of its calls does.
use Rattle.std.specs.Prelude.{◌≡◌, ◌==◌, ◌&&◌, ◌+◌, ◌<◌, ◌≤◌, nat_lt, ℕ, Bool, false, List, [], ◌++◌, length, take, drop, Option}
use Rattle.std.specs.List.{filter}
use Rattle.std.specs.Io.KnownBytes.{Appends, Consumes, IsAtEnd, Keeps}
use Rattle.mgn_session.specs.Device.{device_of, failed_of, has_ended, is_dirty, one_more}
use Rattle.mgn_session.specs.declared.counted.Counted.{Counted}

-- what the reader has left and the writer was given, where they tell; the text of the replies that wait to be written;
-- how many lines were read that have no reply; whether bytes were written that no flush followed; whether the last read
-- had room and gave nothing; how many calls of each device failed; for how many bytes more of replies there is memory
pub record ConversationView : Type 0 where
  pub input : Option (List ℕ)
  pub output : Option (List ℕ)
  pub waiting : List ℕ
  pub owed : ℕ
  pub dirty : Bool
  pub ended : Bool
  pub failed_reads : ℕ
  pub failed_writes : ℕ
  pub room : ℕ

-- a conversation by its parts
abbrev pub seen : {R W : Type 0} → (R → Option (List ℕ)) → (W → Option (List ℕ)) → Counted R → Counted W → List ℕ → ℕ → ℕ → ConversationView
seen remaining contents reader writer waiting owed room =
    record {
      input = remaining (device_of reader);
      output = contents (device_of writer);
      waiting = waiting;
      owed = owed;
      dirty = is_dirty writer;
      ended = has_ended reader;
      failed_reads = failed_of reader;
      failed_writes = failed_of writer;
      room = room;
    }

-- the same with so much room
abbrev pub with_room : ConversationView → ℕ → ConversationView
with_room talk room = record talk { room = room }

-- every line read is answered, and every reply written and flushed
pub record IsQuiet (talk : ConversationView) : Type 0 where
  pub answered : talk.owed ≡ 0
  pub sent : talk.waiting ≡ []
  pub flushed : talk.dirty ≡ false

-- how many lines end in a text
abbrev pub line_ends : List ℕ → ℕ
line_ends bytes = length (filter (λ b. b == 10) bytes)

-- The devices are as they were.
pub record KeepsDevices (old new : ConversationView) : Type 0 where
  pub input : new.input ≡ old.input
  pub output : new.output ≡ old.output
  pub dirty : new.dirty ≡ old.dirty
  pub ended : new.ended ≡ old.ended
  pub failed_reads : new.failed_reads ≡ old.failed_reads
  pub failed_writes : new.failed_writes ≡ old.failed_writes

-- A read into so much room gave these bytes. Each line that ends in them is owed a reply.
pub record HasRead (old new : ConversationView) (room : ℕ) (bytes : List ℕ) : Type 0 where
  pub reads : Consumes old.input new.input bytes
  pub end : bytes ≡ [] → 0 < room → IsAtEnd new.input
  pub owed : new.owed ≡ line_ends bytes
  pub ended : new.ended ≡ (length bytes == 0) && nat_lt 0 room
  pub output : new.output ≡ old.output
  pub waiting : new.waiting ≡ old.waiting
  pub dirty : new.dirty ≡ old.dirty
  pub failed_reads : new.failed_reads ≡ old.failed_reads
  pub failed_writes : new.failed_writes ≡ old.failed_writes

-- A read failed.
pub record HasFailedToRead (old new : ConversationView) : Type 0 where
  pub reads : Keeps old.input new.input
  pub owed : new.owed ≡ old.owed
  pub ended : new.ended ≡ false
  pub output : new.output ≡ old.output
  pub waiting : new.waiting ≡ old.waiting
  pub dirty : new.dirty ≡ old.dirty
  pub failed_reads : new.failed_reads ≡ one_more old.failed_reads
  pub failed_writes : new.failed_writes ≡ old.failed_writes

-- A line that was owed a reply has it: the text waits.
pub record HasReplied (old new : ConversationView) (text : List ℕ) : Type 0 where
  pub devices : KeepsDevices old new
  pub waiting : new.waiting ≡ old.waiting ++ text
  pub owed : new.owed + 1 ≡ old.owed

-- What waited was written and flushed.
pub record HasSent (old new : ConversationView) : Type 0 where
  pub writes : Appends old.output new.output old.waiting
  pub waiting : new.waiting ≡ []
  pub dirty : new.dirty ≡ false
  pub input : new.input ≡ old.input
  pub owed : new.owed ≡ old.owed
  pub ended : new.ended ≡ old.ended
  pub failed_reads : new.failed_reads ≡ old.failed_reads
  pub failed_writes : new.failed_writes ≡ old.failed_writes

-- A write or the flush failed after so many bytes of what waited. The others wait on.
pub record HasFailedToSend (old new : ConversationView) : Type 0 where
  pub taken : ℕ
  pub within : taken ≤ length old.waiting
  pub writes : Appends old.output new.output (take taken old.waiting)
  pub waiting : new.waiting ≡ drop taken old.waiting
  pub input : new.input ≡ old.input
  pub owed : new.owed ≡ old.owed
  pub ended : new.ended ≡ old.ended
  pub failed_reads : new.failed_reads ≡ old.failed_reads
  pub failed_writes : new.failed_writes ≡ one_more old.failed_writes

-- How a history keeps replies other than a refusal and a plain `OK`: figures whose amounts fit in 64 bits in one list, all
-- others in another.
use Rattle.std.specs.Prelude.{◌≡◌, ℕ, pos, ◌+◌, ◌++◌, ◌<◌, ◌≤◌, Bool, List, length, slice_index_or, FitsSigned}
use Rattle.std.specs.Int.{w64}
use Rattle.mgn_machine.specs.declared.reply.UnitFigures.{UnitFigures}
use Rattle.mgn_machine.specs.declared.reply.Reply.{Reply}
use Rattle.mgn_machine.specs.declared.reply.Reply.TheVariants as reply
use Rattle.mgn_book.specs.declared.replies.StoredReply.{StoredReply}
use Rattle.mgn_book.specs.declared.replies.StoredReply.TheVariants as stored

-- something was added to a list, or nothing
abbrev pub Grows : {X : Type 0} → List X → List X → Type 0
Grows {X = X} old new = (more : List X) × (new ≡ old ++ more)

-- what contracts see of the replies: whether there is room for one more in each list, too
pub record ReplyLists : Type 0 where
  pub figures : List UnitFigures
  pub others : List Reply
  pub has_room : Bool

-- stand for the figures past the end of a list, which no one asks for
abbrev pub no_figures : UnitFigures
no_figures = record { requirement = pos 0; exposure_requirement = pos 0; value = pos 0; exposure_value = pos 0; room = pos 0 }

-- the reply that is stored
abbrev pub reply_of : ReplyLists → StoredReply → Reply
reply_of r stored.Done = reply.Done
reply_of r (stored.Figures place) = reply.Figures (slice_index_or r.figures place no_figures)
reply_of r (stored.At place) = slice_index_or r.others place reply.Done
reply_of r (stored.Refused why) = reply.Refused why

-- the lists are long enough for a reply
abbrev pub IsKept : ReplyLists → StoredReply → Type 0
IsKept r stored.Done = Unit {0}
IsKept r (stored.Figures place) = place < length r.figures
IsKept r (stored.At place) = place < length r.others
IsKept r (stored.Refused why) = Unit {0}

-- the replies stay where they are
abbrev pub KeepsReplies : ReplyLists → ReplyLists → Type 0
KeepsReplies old new = Grows old.figures new.figures × Grows old.others new.others

-- there are no more replies in a list than so many entries have
abbrev pub AreFewReplies : ℕ → ReplyLists → Type 0
AreFewReplies entries r = (length r.figures ≤ entries) × (length r.others ≤ entries)

-- at most one was added
abbrev pub AddsFewReplies : ReplyLists → ReplyLists → Type 0
AddsFewReplies old new =
    (length new.figures ≤ length old.figures + 1) × (length new.others ≤ length old.others + 1)

-- 64 bits hold each of the amounts
abbrev pub AreNarrow : UnitFigures → Type 0
AreNarrow f =
    FitsSigned w64 f.requirement × (FitsSigned w64 f.exposure_requirement
    × (FitsSigned w64 f.value × (FitsSigned w64 f.exposure_value × FitsSigned w64 f.room)))

-- A reply takes no more than it has to beside its entry: nothing where it is an `OK` alone or a refusal, and no whole
-- reply where narrow figures hold it.
abbrev pub TakesLittle : Reply → ReplyLists → ReplyLists → Type 0
TakesLittle reply.Done old new = (new.figures ≡ old.figures) × (new.others ≡ old.others)
TakesLittle (reply.Refused why) old new = (new.figures ≡ old.figures) × (new.others ≡ old.others)
TakesLittle (reply.Figures figures) old new = AreNarrow figures → new.others ≡ old.others
TakesLittle other old new = new.figures ≡ old.figures

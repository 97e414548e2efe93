-- Replies that hold no statement, and so can be copied without counting an owner of one.
use Rattle.std.specs.Prelude.{Bool, true, false}
use Rattle.mgn_machine.specs.declared.reply.Reply.{Reply}
use Rattle.mgn_machine.specs.declared.reply.Reply.TheVariants.{Statement}

abbrev pub is_brief : Reply → Bool
is_brief (Statement told) = false
is_brief _ = true

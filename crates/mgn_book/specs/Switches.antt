-- What a switch to another set does to the state with its rows, and to the sets of the shelf.
use Rattle.std.specs.Prelude.{◌≡◌, ◌+◌, List, length}
use Rattle.mgn_params.specs.Shelves.{set_at}
use Rattle.mgn_params.specs.Tables.{Tables}
use Rattle.mgn_machine.specs.declared.reply.Reply.{Reply}
use Rattle.mgn_machine.specs.declared.request.Request.TheVariants.{Switch}
use Rattle.mgn_machine.specs.History.{recorded, request_of}
use Rattle.mgn_machine.specs.Step.{step}
use Rattle.mgn_register.specs.BookStates.{BookState, IsKept}
use Rattle.mgn_book.specs.BookViews.{KeepsRows, sets_after}

-- one step of the machine, which the entry tells again under the sets as they are then; the version in force is that of
-- the last of them, and the rows are those under it
pub record IsSwitched (sets now : List Tables) (old new : BookState) (set : Tables) (reply : Reply) : Type 0 where
  pub stepped : (new.state, reply) ≡ step now old.state (Switch set)
  pub put : now ≡ sets_after sets (Switch set) reply
  pub asked : request_of now (recorded (Switch set) reply) ≡ Switch set
  pub shown : length now ≡ new.state.version + 1
  pub kept : IsKept (set_at now new.state.version) new
  pub rows : KeepsRows old.rows reply new.rows

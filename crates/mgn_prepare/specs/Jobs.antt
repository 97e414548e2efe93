-- What workers are handed, once it is done.
use Rattle.std.specs.Prelude.{◌≡◌, IfOk, IfSome}
use Rattle.mgn_params.specs.Tables.{Tables}
use Rattle.mgn_unit.specs.NewSets.{IsPrepared}
use Rattle.mgn_prepare.specs.Marks.{mark_of}
use Rattle.mgn_prepare.specs.declared.marks.Job.{Job}

-- a job that is done has the mark of its nets, unless memory was refused
pub record IsDone (old new : Tables) (before after : Job) : Type 0 where
  pub mark : IfOk after.mark (λ m. m ≡ mark_of old new before.nets)
  pub prepared : IfOk after.mark (λ m. IfSome m (IsPrepared new))

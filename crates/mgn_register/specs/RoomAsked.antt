-- What entering a hold answers beside what it changes.
use Rattle.std.specs.Prelude.{◌≡◌, true, false, Result, Ok, Err}
use Rattle.mgn_machine.specs.declared.reply.Refusal.TheVariants.{NoRoom}
use Rattle.mgn_unit.specs.declared.row.Row.{Row}
use Rattle.mgn_unit.specs.Rows.{lacks_room}
use Rattle.mgn_register.specs.declared.step_fault.StepFault.{StepFault}
use Rattle.mgn_register.specs.declared.step_fault.StepFault.TheVariants.{Refused, Memory}

-- done where the row afterwards has room, refused where it would have none
abbrev pub AsksRoom : {X : Type 0} → Row → Result X StepFault → Type 0
AsksRoom after (Ok done) = lacks_room after ≡ false
AsksRoom after (Err (Refused why)) = (why ≡ NoRoom) × (lacks_room after ≡ true)
AsksRoom after (Err Memory) = Unit {0}

-- Whether another set may come into force.
use Rattle.std.specs.Prelude.{◌≡◌, Result, Ok, Err}
use Rattle.mgn_machine.specs.declared.reply.Refusal.{Refusal}
use Rattle.mgn_register.specs.declared.step_fault.StepFault.{StepFault}
use Rattle.mgn_register.specs.declared.step_fault.StepFault.TheVariants.{Refused, Memory}

-- the rows where the set may come into force, or why it may not; memory is asked for only where it may
abbrev pub Fits : {X : Type 0} → Result (Unit {0}) Refusal → Result X StepFault → Type 0
Fits want (Ok rows) = want ≡ Ok tt
Fits want (Err (Refused why)) = want ≡ Err why
Fits want (Err Memory) = want ≡ Ok tt

-- From a change to its answer: that each step is the machine's.
use Rattle.std.proofs.Common.{sym, ap, ◌∙◌}
use Rattle.std.specs.Prelude.{Result, Ok, Err}
use Rattle.mgn_machine.specs.declared.reply.Refusal.{Refusal}
use Rattle.mgn_machine.specs.declared.reply.Reply.TheVariants.{Refused as Not}
use Rattle.mgn_machine.specs.State.{State}
use Rattle.mgn_machine.specs.Step.{answered}
use Rattle.mgn_register.specs.declared.step_fault.StepFault.{StepFault}
use Rattle.mgn_register.specs.declared.step_fault.StepFault.TheVariants.{Refused, Memory}
use Rattle.mgn_register.specs.BookStates.{BookState, Steps, Replies, answer_of}

pub answered_by : {X : Type 0} (want : Result State Refusal) (done : Result X StepFault) (old new : BookState) → Steps want done old new → Replies (answered old.state want) (answer_of done) old new
answered_by want (Ok done) old new steps = sym (ap (λ (w : Result State Refusal). answered old.state w) steps)
answered_by want (Err (Refused why)) old new steps = ap (λ (f : BookState). (f.state, Not why)) steps.1 ∙ sym (ap (λ (w : Result State Refusal). answered old.state w) steps.0)
answered_by (Ok now) (Err Memory) old new steps = steps
answered_by (Err why) (Err Memory) old new steps = steps

use Rattle.mgn_world.proofs.Said.{held_for, holds_units, one_holder}
use Rattle.mgn_world.proofs.laws.a_unit_has_one_holder.Goals as goal

pub returns : goal.returns
returns c = record {
  holds = λ w p u k reached is among. holds_units w p u k reached is among;
  no_others = λ w p u reached held. held_for w p u reached held;
  one = λ w p q u k m reached first second mine theirs. one_holder w p q u k m reached first second mine theirs;
}

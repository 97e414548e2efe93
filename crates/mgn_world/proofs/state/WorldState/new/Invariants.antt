use Rattle.std.proofs.Common.{◌≡◌, replicate, vec_len}
use Rattle.std.specs.Vec.{vec_capacity}
use Rattle.mgn_world.specs.declared.phases.Phase.TheVariants.{Idle}
use Rattle.mgn_world.proofs.state.WorldState.new.Given as goal

abbrev pub invariant-loop : goal.invariant-loop
invariant-loop l = record {
  so_far : l.phases.items ≡ replicate l.counter Idle;
  len : vec_len l.phases ≡ l.counter;
  room : vec_capacity l.phases ≡ 16;
}

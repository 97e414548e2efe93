use Rattle.world_laws.proofs.Calling.{ended_rests, held_rests, looked_rests}
use Rattle.world_laws.proofs.calls.desks_rest_before_apply_and_after_back.Goals as goal

pub returns : goal.returns
returns c = record {
  held = λ w p u k reached is mine. held_rests w p u k reached is mine;
  looked = λ w p u k l reached is mine. looked_rests w p u k l reached is mine;
  ended = λ w p u k reached is mine. ended_rests w p u k reached is mine;
}

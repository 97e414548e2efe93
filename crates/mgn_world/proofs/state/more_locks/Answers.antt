use Rattle.std.proofs.Common.{◌≡◌, ◌∙◌, ◌-◌, ◌++◌, arith, ap, length, ℕ, None, replicate}
use Rattle.mgn_world.proofs.Sounds.{left, one_none_more}
use Rattle.mgn_world.proofs.state.more_locks.Goals as goal

pub loop-preserved : goal.loop-preserved
loop-preserved c = record {
  so_far = c.in_ok-push.ensures.items ∙ one_none_more c.args.locks.now.items c.loop.locks.items c.loop.counter c.loop.invariant.from c.loop.invariant.so_far;
  stays = λ few. absurd (omega (arith, few, c.loop-test.true, c.loop.invariant.from));
  from = omega (arith, c.loop.invariant.from);
}

pub returns : goal.returns
returns c =
    let e : c.loop.counter - length c.args.locks.now.items ≡ c.args.units - length c.args.locks.now.items = left c.args.units c.loop.counter (length c.args.locks.now.items) c.loop-test.false c.loop.invariant.from c.loop.invariant.stays (λ few. c.loop.auto.counter-end (omega (arith, few, c.len-counter.ensures, c.args.locks.now.ok))) in
    c.loop.invariant.so_far ∙ ap (λ (n : ℕ). c.args.locks.now.items ++ replicate n None) e

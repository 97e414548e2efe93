use Rattle.std.proofs.Common.{◌∙◌, [], ap, arith, subst, sym, refl}
use Rattle.mgn_world.specs.Claims.{IsReached}
use Rattle.mgn_world.specs.World.{World, run}
use Rattle.mgn_world.specs.Worlds.{shown}
use Rattle.mgn_world.proofs.Ran.{none_left, reached_more}
use Rattle.mgn_world.proofs.Said.{good_reached}
use Rattle.mgn_world.proofs.run.World.run.Goals as goal

pub loop-step-init : goal.loop-step-init
loop-step-init c = record {
  left = λ j. run (c.in_ok-kept.ensures.opening j) (c.into_iter-step-iterator.ensures.into_iter_gives.0 j);
  sound = c.in_ok-kept.ensures.sound;
  reached = subst IsReached (sym c.in_ok-kept.ensures.opening) record { set = c.args.first; steps = []; limits = c.limits.ensures; gathered = tt; is = refl };
}

pub step-requires-clause-good : goal.step-requires-clause-good
step-requires-clause-good c = good_reached (shown c.loop-step.kept) c.loop-step.invariant.reached

pub step-requires-clause-sound : goal.step-requires-clause-sound
step-requires-clause-sound c = c.loop-step.invariant.sound

pub loop-step-preserved : goal.loop-step-preserved
loop-step-preserved c = record {
  left =
      ap (λ (w : World). run w c.next.new.self.rest.items) c.in_ok-step.ensures.next
      ∙ ap (run (shown c.loop-step.kept)) (sym c.in-Some.ensures.steps.0) ∙ c.loop-step.invariant.left;
  sound = c.in_ok-step.ensures.sound;
  reached = subst IsReached (sym c.in_ok-step.ensures.next) (reached_more (shown c.loop-step.kept) c.in-Some.step c.loop-step.invariant.reached c.step.ensures.limited);
}

pub returns-clause-run : goal.returns-clause-run
returns-clause-run c = sym (ap (run (shown c.loop-step.kept)) (none_left c.loop-step.step-iterator.rest.items (omega (arith, c.in-None.ensures.steps.0, c.loop-step.step-iterator.rest.ok)))) ∙ c.loop-step.invariant.left

pub returns-clause-reached : goal.returns-clause-reached
returns-clause-reached c = c.loop-step.invariant.reached

pub returns-clause-replayed : goal.returns-clause-replayed
returns-clause-replayed c = (good_reached (shown c.loop-step.kept) c.loop-step.invariant.reached).replayed

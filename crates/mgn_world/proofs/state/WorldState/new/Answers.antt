use Rattle.std.proofs.Common.{◌≡◌, ◌∙◌, All, ℕ, List, length, map, replicate, sym, subst, ap, arith}
use Rattle.mgn_world.specs.declared.phases.Phase.{Phase}
use Rattle.mgn_world.specs.declared.phases.Phase.TheVariants.{Idle}
use Rattle.mgn_world.specs.DeskMoves.{AreRightDesks, desk_shown}
use Rattle.mgn_world.specs.Standing.{Good}
use Rattle.mgn_world.specs.World.{opening}
use Rattle.mgn_world.specs.Worlds.{IsPhase, shown}
use Rattle.mgn_world.proofs.Each.{good_opening}
use Rattle.mgn_world.proofs.Shows.{no_desks, sixteen_idle}
use Rattle.mgn_world.proofs.state.WorldState.new.Goals as goal

sixteen : (c : goal.After-new-3) → c.loop.phases.items ≡ replicate 16 Idle
sixteen c =
    let e : c.loop.counter ≡ 16 = omega (arith, c.loop-test.false, c.loop.auto) in
    c.loop.invariant.so_far ∙ ap (λ (n : ℕ). replicate n Idle) e

opened : (c : goal.After-new-3) → shown record { shelf = c.in_ok-shelf.shelf; book = c.new-book.result; desks = c.new-2.result; locks = c.new-3.result; phases = c.loop.phases } ≡ opening c.args.first
opened c = λ j. record {
  sets = c.in_ok-shelf.ensures j;
  state = (c.new-book.ensures.opening j).book.state;
  history = (c.new-book.ensures.opening j).history;
  desks = map desk_shown (c.new-2.ensures.items j);
  locks = c.new-3.ensures.items j;
  phases = sixteen c j;
}

pub returns-clause-opening : goal.returns-clause-opening
returns-clause-opening c = opened c

pub returns-clause-good : goal.returns-clause-good
returns-clause-good c = subst Good (sym (opened c)) (good_opening c.args.first c.limits.ensures)

pub returns-clause-sound : goal.returns-clause-sound
returns-clause-sound c = record {
  book = c.new-book.ensures.stands;
  sixteen = ap (λ (xs : List Phase). length xs) (sixteen c);
  desks = subst (AreRightDesks c.in_ok-shelf.shelf) (sym c.new-2.ensures.items) (no_desks c.in_ok-shelf.shelf);
  phases = subst (All (IsPhase c.in_ok-shelf.shelf (length c.new-2.result.items))) (sym (sixteen c)) (sixteen_idle c.in_ok-shelf.shelf (length c.new-2.result.items) 16);
}

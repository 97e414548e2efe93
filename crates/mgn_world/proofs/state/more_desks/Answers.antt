use Rattle.std.proofs.Common.{◌≡◌, ◌≤◌, ◌∙◌, ◌+◌, ◌-◌, ◌++◌, arith, ap, length, List, [], ◌∷◌, ℕ, None, replicate, map, subst, sym}
use Rattle.std.proofs.lemmas.List.{length-append, length-map, map-append}
use Rattle.mgn_desk.specs.Desks.{DeskRows}
use Rattle.mgn_world.specs.DeskMoves.{AreRightDesks, desk_shown}
use Rattle.mgn_world.proofs.Sounds.{desk_pushed, left, one_none_more}
use Rattle.mgn_world.proofs.state.more_desks.Goals as goal

pub loop-unit-preserved : goal.loop-unit-preserved
loop-unit-preserved c =
    let from : length (map desk_shown c.args.desks.now.items) ≤ c.loop-unit.unit = omega (arith, c.loop-unit.invariant.from, length-map c.args.desks.now.items desk_shown) in
    record {
      so_far =
          ap (λ (ds : List DeskRows). map desk_shown ds) c.in_ok-push.ensures.items ∙ map-append desk_shown c.loop-unit.desks.items (c.empty.result ∷ [])
          ∙ ap (λ (d : DeskRows). map desk_shown c.loop-unit.desks.items ++ desk_shown d ∷ []) c.empty.ensures
          ∙ one_none_more (map desk_shown c.args.desks.now.items) (map desk_shown c.loop-unit.desks.items) c.loop-unit.unit from c.loop-unit.invariant.so_far;
      stays = λ few. absurd (omega (arith, few, c.loop-unit-test.true, c.loop-unit.invariant.from));
      from = omega (arith, c.loop-unit.invariant.from);
      long = ap (λ (xs : List DeskRows). length xs) c.in_ok-push.ensures.items ∙ length-append c.loop-unit.desks.items (c.empty.result ∷ []) ∙ ap (λ (n : ℕ). n + 1) c.loop-unit.invariant.long;
      sound = λ sets are. subst (AreRightDesks sets) (sym c.in_ok-push.ensures.items) (desk_pushed sets c.loop-unit.desks.items c.empty.result (ap (λ (d : DeskRows). d.unit) c.empty.ensures ∙ sym c.loop-unit.invariant.long) (ap (λ (d : DeskRows). d.marked) c.empty.ensures) (c.loop-unit.invariant.sound sets are));
    }

pub returns-clause-shown : goal.returns-clause-shown
returns-clause-shown c =
    let long = length-map c.args.desks.now.items desk_shown in
    let e : c.loop-unit.unit - length (map desk_shown c.args.desks.now.items) ≡ c.args.units - length (map desk_shown c.args.desks.now.items) =
    ap (λ (n : ℕ). c.loop-unit.unit - n) long
    ∙ left c.args.units c.loop-unit.unit (length c.args.desks.now.items) c.loop-unit-test.false c.loop-unit.invariant.from c.loop-unit.invariant.stays (λ few. c.loop-unit.auto.unit-end (omega (arith, few, c.len-unit.ensures, c.args.desks.now.ok)))
    ∙ sym (ap (λ (n : ℕ). c.args.units - n) long)
    in
    c.loop-unit.invariant.so_far ∙ ap (λ (n : ℕ). map desk_shown c.args.desks.now.items ++ replicate n None) e

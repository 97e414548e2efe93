use Rattle.std.proofs.Common.{◌≡◌, ◌≢◌, ◌<◌, ◌≤◌, ◌∙◌, ℕ, ap, arith, length, pos, rules, subst, sym, ⊎_elim}
use Rattle.std.specs.Prelude.{◌+ℤ◌}
use Rattle.std.proofs.lemmas.Bool.{cases_eq, cases_lt}
use Rattle.std.proofs.lemmas.Int.{ints}
use Rattle.std.proofs.lemmas.List.{ext_get_or}
use Rattle.mgn_span.specs.Positions.{IsNet}
use Rattle.mgn_span.specs.Scan.{value_at}
use Rattle.mgn_desk.specs.declared.figures.Figures.{Figures}
use Rattle.mgn_desk.specs.declared.moves.Moves.{Moves}
use Rattle.mgn_desk.specs.declared.portfolio.Portfolio.{Portfolio}
use Rattle.mgn_desk.specs.declared.portfolio.Portfolio.TheVariants.{Lots}
use Rattle.mgn_desk.specs.Moved.{more_of}
use Rattle.mgn_desk.specs.UnitLists.{nets_in, quantity_of}
use Rattle.mgn_desk.specs.WorkedPortfolios.{AreParts, WorkedPortfolio, worked}
use Rattle.mgn_desk.proofs.BringLemmas.{brought_here, brought_other}
use Rattle.mgn_desk.proofs.FollowLemmas.{followed_none}
use Rattle.mgn_desk.proofs.ShownLemmas.{nets_long, one_contract, one_moves, others_still, same_or_apart}
use Rattle.mgn_desk.proofs.bringing.bring_branch.Goals as goal
use Rattle.mgn_desk.proofs.bringing.bring_branch.Goals.{After-of_one-moves}

pub returns-in_default-clause-nets : goal.returns-in_default-clause-nets
returns-in_default-clause-nets c =
    let long : length c.args.lots.now ≡ length c.args.nets.now = ap length (sym c.requires.lots) ∙ nets_long c.args.portfolio c.args.lists.now.nets ∙ c.requires.lists.nets ∙ sym c.requires.one_each in
    c.requires.lots ∙ sym (ext_get_or (pos 0) c.args.nets.now c.args.lots.now (sym long) (λ k h. c.next_different.ensures.none (search rules) k (omega arith)))

-- what is kept of each portfolio
parts : (c : After-of_one-moves) (w : Portfolio) → (f : Figures) × AreParts c.args.set.now (worked w c.loop-i.lists f)
parts c w =
    ⊎_elim
    (λ (own : w ≡ c.args.portfolio). (c.loop-i.figures, subst (λ (x : Portfolio). AreParts c.args.set.now (worked x c.loop-i.lists c.loop-i.figures)) (sym own) c.loop-i.invariant.behind.parts))
    (λ (other : w ≢ c.args.portfolio).
    let was = c.requires.parts w in
    (was.0, subst (λ (p : WorkedPortfolio). AreParts c.args.set.now p) (sym (c.loop-i.invariant.others w other was.0)) was.1))
    (same_or_apart w c.args.portfolio)

-- how much more it is
contract_is : (c : After-of_one-moves) → c.of_one-moves.result.contract ≡ c.in-Some-next_different.i
contract_is c = ap (λ (m : Moves). m.contract) c.of_one-moves.ensures ∙ one_contract c.args.portfolio c.in-Some-next_different.i c.plus-more.result

more_is : (c : After-of_one-moves) → quantity_of c.args.portfolio c.of_one-moves.result ≡ c.plus-more.result
more_is c = ap (quantity_of c.args.portfolio) c.of_one-moves.ensures ∙ one_moves c.args.portfolio c.in-Some-next_different.i c.plus-more.result

still : (c : After-of_one-moves) (w : Portfolio) → w ≢ c.args.portfolio → quantity_of w c.of_one-moves.result ≡ pos 0
still c w other = ap (quantity_of w) c.of_one-moves.ensures ∙ others_still c.args.portfolio w c.in-Some-next_different.i c.plus-more.result other

brought : (c : After-of_one-moves) → value_at (nets_in c.args.portfolio c.loop-i.lists) c.in-Some-next_different.i +ℤ c.plus-more.result ≡ value_at c.args.nets.now c.in-Some-next_different.i
brought c =
    let rest = c.loop-i.invariant.rest c.in-Some-next_different.i (omega (arith, c.in-Some-next_different.ensures.found.0)) in
    omega (arith, ints, rest, c.plus-more.ensures, c.negated.ensures, c.at.ensures, c.at-in-Some-next_different.ensures)

small : (c : After-of_one-moves) (w : Portfolio) → IsNet (value_at (nets_in w c.loop-i.lists) c.in-Some-next_different.i +ℤ quantity_of w c.of_one-moves.result)
small c w =
    let i = c.in-Some-next_different.i in
    ⊎_elim
    (λ (own : w ≡ c.args.portfolio).
    let net = c.requires.nets i (pos 0) c.in-Some-next_different.ensures.found.1 in
    subst (λ (x : Portfolio). IsNet (value_at (nets_in x c.loop-i.lists) i +ℤ quantity_of x c.of_one-moves.result)) (sym own) (rw (more_is c, brought c) net))
    (λ (other : w ≢ c.args.portfolio).
    let totals = (parts c w).1.totals in
    let net = totals.small i (pos 0) (omega (arith, totals.one_each, c.requires.one_each, c.in-Some-next_different.ensures.found.1)) in
    rw (still c w other) (omega (arith, ints, net)))
    (same_or_apart w c.args.portfolio)

pub bring_net-behind-requires-clause-nets : goal.bring_net-behind-requires-clause-nets
bring_net-behind-requires-clause-nets c =
    λ w.
    let at = (goal.at.bring_net-behind-requires-clause-nets c).After-of_one-moves in
    subst (λ (k : ℕ). IsNet (value_at (nets_in w c.loop-i.lists) k +ℤ quantity_of w c.of_one-moves.result)) (sym (contract_is at)) (small at w)

pub bring_net-behind-requires-clause-parts : goal.bring_net-behind-requires-clause-parts
bring_net-behind-requires-clause-parts c = λ w. parts (goal.at.bring_net-behind-requires-clause-parts c).After-of_one-moves w

pub loop-i-preserved : goal.loop-i-preserved
loop-i-preserved c =
    let at = (goal.at.loop-i-preserved c).After-of_one-moves in
    let p = c.args.portfolio in
    let i = c.in-Some-next_different.i in
    let q = c.plus-more.result in
    let found = c.in-Some-next_different.ensures in
    let inv = c.loop-i.invariant in
    let done = c.bring_net-behind.ensures in
    let old = nets_in p c.loop-i.lists in
    let new = nets_in p c.bring_net-behind.new.lists in
    let inside : i < length old = omega (arith, nets_long p c.loop-i.lists.nets, inv.lists.nets, c.requires.one_each, found.found.1) in
    let is : new ≡ more_of old i q = (done.followed p).nets ∙ (λ j. more_of old (contract_is at j) (more_is at j)) in
    record {
      lists = done.lists;
      commodity = done.commodity;
      behind = done.behind;
      rows = done.rows;
      others = λ w other f. followed_none c.args.set.now w c.loop-i.lists c.bring_net-behind.new.lists f c.of_one-moves.result.contract (quantity_of w c.of_one-moves.result) (done.followed w) (still at w other) ∙ inv.others w other f;
      together = λ w other was. done.together w (inv.together w other was) (still at w other ∙ sym (still at Lots (λ e. c.requires.branch (sym e))));
      done = λ k less.
          ⊎_elim
          (λ (here : k ≡ i). ap (value_at new) here ∙ brought_here old new i q is inside ∙ brought at ∙ ap (value_at c.args.nets.now) (sym here))
          (λ (other : k ≢ i).
          brought_other old new i k q is other ∙
          ⊎_elim
          (λ (before : k < c.loop-i.from). inv.done k before)
          (λ (after : c.loop-i.from ≤ k). inv.rest k after ∙ sym (found.before k after (omega (arith, less, other))))
          (cases_lt k c.loop-i.from))
          (cases_eq k i);
      rest = λ k low. brought_other old new i k q is (λ here. absurd (omega (arith, here, low))) ∙ inv.rest k (omega (arith, low, found.found.0));
    }

pub returns-clause-nets : goal.returns-clause-nets
returns-clause-nets c =
    let inv = c.loop-i.invariant in
    let p = c.args.portfolio in
    let own = nets_in p c.loop-i.lists in
    let long : length own ≡ length c.args.nets.now = nets_long p c.loop-i.lists.nets ∙ inv.lists.nets ∙ sym c.requires.one_each in
    ext_get_or (pos 0) own c.args.nets.now long
    (λ k h.
    ⊎_elim
    (λ (before : k < c.loop-i.from). inv.done k before)
    (λ (after : c.loop-i.from ≤ k). inv.rest k after ∙ sym (c.next_different-in-loop-i.ensures.none (search rules) k after))
    (cases_lt k c.loop-i.from))

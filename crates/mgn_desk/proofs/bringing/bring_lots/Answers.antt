use Rattle.std.proofs.Common.{◌≡◌, ◌≢◌, ◌<◌, ◌≤◌, ◌∙◌, ap, arith, length, pos, rules, subst, sym, ⊎_elim}
use Rattle.std.specs.Prelude.{◌+ℤ◌}
use Rattle.std.proofs.lemmas.Bool.{cases_eq, cases_lt}
use Rattle.std.proofs.lemmas.Int.{ints}
use Rattle.std.proofs.lemmas.List.{ext_get_or}
use Rattle.mgn_params.specs.Tables.{no_contract}
use Rattle.mgn_span.specs.Scan.{value_at}
use Rattle.mgn_desk.specs.declared.moves.Moves.{Moves}
use Rattle.mgn_desk.specs.declared.portfolio.Portfolio.{Portfolio}
use Rattle.mgn_desk.specs.declared.portfolio.Portfolio.TheVariants.{Lots}
use Rattle.mgn_desk.specs.declared.unit_lists.UnitLists.{UnitLists}
use Rattle.mgn_desk.specs.Moved.{more_of}
use Rattle.mgn_desk.specs.UnitLists.{AreLists, IsTogether, nets_in, quantity_of}
use Rattle.mgn_desk.specs.WorkedPortfolios.{IsPortfolio, worked}
use Rattle.mgn_desk.proofs.BranchLemmas.{figures_are}
use Rattle.mgn_desk.proofs.BringLemmas.{brought_here, brought_other, flat_value, together_parts}
use Rattle.mgn_desk.proofs.ShownLemmas.{alike_moves, nets_long}
use Rattle.mgn_desk.proofs.StartLemmas.{flat_are, flat_together, flat_worked}
use Rattle.mgn_desk.proofs.WorkedLemmas.{behind_none}
use Rattle.mgn_desk.proofs.bringing.bring_lots.Goals as goal
use Rattle.mgn_desk.proofs.bringing.bring_lots.Goals.{Start}

-- nothing is held at the start
flat : (c : Start) → IsPortfolio c.args.set.now (worked Lots c.args.lists.now c.args.figures.now)
flat c = subst (λ (l : UnitLists). IsPortfolio c.args.set.now (worked Lots l c.args.figures.now)) (sym c.requires.flat) (flat_worked c.args.set.now Lots c.args.figures.now c.requires.figures)

together : (c : Start) (w : Portfolio) → IsTogether w c.args.lists.now
together c w = subst (λ (l : UnitLists). IsTogether w l) (sym c.requires.flat) (flat_together c.args.set.now w)

lists : (c : Start) → AreLists c.args.set.now c.args.lists.now
lists c = subst (λ (l : UnitLists). AreLists c.args.set.now l) (sym c.requires.flat) (flat_are c.args.set.now)

pub returns-in_default-clause-portfolio : goal.returns-in_default-clause-portfolio
returns-in_default-clause-portfolio c = flat (goal.at.returns-in_default-clause-portfolio c).Start

pub returns-in_default-clause-rows : goal.returns-in_default-clause-rows
returns-in_default-clause-rows c = figures_are c.args.set.now Lots c.args.lists.now c.args.figures.now (flat (goal.at.returns-in_default-clause-rows c).Start)

pub returns-in_default-clause-together : goal.returns-in_default-clause-together
returns-in_default-clause-together c = λ w. together (goal.at.returns-in_default-clause-together c).Start w

pub returns-in_default-clause-nets : goal.returns-in_default-clause-nets
returns-in_default-clause-nets c =
    let own = nets_in Lots c.args.lists.now in
    let long : length own ≡ length c.args.nets.now = nets_long Lots c.args.lists.now.nets ∙ (lists (goal.at.returns-in_default-clause-nets c).Start).nets ∙ sym c.requires.one_each in
    ext_get_or (pos 0) own c.args.nets.now long
    (λ k h. flat_value c.args.set.now c.args.lists.now k c.requires.flat ∙ sym (c.next_held.ensures.none (search rules) k (omega arith)))

pub loop-i-init : goal.loop-i-init
loop-i-init c =
    let t = c.args.set.now in
    let at = (goal.at.loop-i-init c).Start in
    let found = c.in-Some.ensures in
    let inside : c.in-Some.first < length t.contracts = omega (arith, c.requires.one_each, found.found.1) in
    record {
      lists = lists at;
      commodity = rw c.contract_at.ensures (c.limits.ensures.contracts c.in-Some.first no_contract inside).commodity;
      behind = behind_none t c.contract_at.result.now.commodity (worked Lots c.args.lists.now c.args.figures.now) (flat at);
      rows = figures_are t Lots c.args.lists.now c.args.figures.now (flat at);
      together = together at;
      done = λ k h. flat_value t c.args.lists.now k c.requires.flat ∙ sym (found.before k (omega arith) h);
      rest = λ k h. flat_value t c.args.lists.now k c.requires.flat;
    }

pub bring_net-behind-requires-clause-parts : goal.bring_net-behind-requires-clause-parts
bring_net-behind-requires-clause-parts c =
    λ w. (c.loop-i.figures, together_parts c.args.set.now w c.loop-i.lists c.loop-i.figures (c.loop-i.invariant.together w) c.loop-i.invariant.behind.parts)

pub bring_net-behind-requires-clause-together : goal.bring_net-behind-requires-clause-together
bring_net-behind-requires-clause-together c =
    λ w known.
    (c.loop-i.invariant.together w, ap (quantity_of w) c.alike-moves.ensures ∙ alike_moves w c.in-Some-next_held.i c.at.result ∙ sym (ap (λ (m : Moves). m.lots) c.alike-moves.ensures))

pub loop-i-preserved : goal.loop-i-preserved
loop-i-preserved c =
    let i = c.in-Some-next_held.i in
    let q = c.at.result in
    let held = c.in-Some-next_held.ensures in
    let inv = c.loop-i.invariant in
    let done = c.bring_net-behind.ensures in
    let old = nets_in Lots c.loop-i.lists in
    let new = nets_in Lots c.bring_net-behind.new.lists in
    let inside : i < length old = omega (arith, nets_long Lots c.loop-i.lists.nets, inv.lists.nets, c.requires.one_each, held.found.1) in
    let brought : new ≡ more_of old i q = (done.followed Lots).nets ∙ ap (λ (m : Moves). more_of old m.contract m.lots) c.alike-moves.ensures in
    record {
      lists = done.lists;
      commodity = done.commodity;
      behind = done.behind;
      rows = done.rows;
      together = λ w. done.together w (inv.together w) (ap (quantity_of w) c.alike-moves.ensures ∙ alike_moves w i q ∙ sym (ap (λ (m : Moves). m.lots) c.alike-moves.ensures));
      done = λ k less.
          ⊎_elim
          (λ (here : k ≡ i).
          let none = inv.rest i (omega (arith, held.found.0)) in
          let sum : value_at old i +ℤ q ≡ q = omega (arith, ints, none) in
          ap (value_at new) here ∙ brought_here old new i q brought inside ∙ sum ∙ c.at.ensures ∙ ap (value_at c.args.nets.now) (sym here))
          (λ (other : k ≢ i).
          brought_other old new i k q brought other ∙
          ⊎_elim
          (λ (before : k < c.loop-i.from). inv.done k before)
          (λ (after : c.loop-i.from ≤ k). inv.rest k after ∙ sym (held.before k after (omega (arith, less, other))))
          (cases_lt k c.loop-i.from))
          (cases_eq k i);
      rest = λ k low. brought_other old new i k q brought (λ here. absurd (omega (arith, here, low))) ∙ inv.rest k (omega (arith, low, held.found.0));
    }

pub returns-clause-nets : goal.returns-clause-nets
returns-clause-nets c =
    let inv = c.loop-i.invariant in
    let own = nets_in Lots c.loop-i.lists in
    let long : length own ≡ length c.args.nets.now = nets_long Lots c.loop-i.lists.nets ∙ inv.lists.nets ∙ sym c.requires.one_each in
    ext_get_or (pos 0) own c.args.nets.now long
    (λ k h.
    ⊎_elim
    (λ (before : k < c.loop-i.from). inv.done k before)
    (λ (after : c.loop-i.from ≤ k). inv.rest k after ∙ sym (c.next_held-in-loop-i.ensures.none (search rules) k after))
    (cases_lt k c.loop-i.from))

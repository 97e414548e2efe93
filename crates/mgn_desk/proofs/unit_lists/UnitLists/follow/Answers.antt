use Rattle.std.proofs.Common.{◌≡◌, ◌≢◌, ◌∙◌, ◌+◌, ℕ, ap, arith, refl, sym, subst}
use Rattle.mgn_params.specs.declared.tables.Contract.{Contract}
use Rattle.mgn_nets.specs.declared.portfolios.Portfolios.{Portfolios}
use Rattle.mgn_desk.specs.declared.portfolio.Portfolio.{Portfolio}
use Rattle.mgn_desk.specs.declared.portfolio.Portfolio.TheVariants.{Lots, WithBuys, WithSales, WithAll}
use Rattle.mgn_desk.specs.declared.step.Step.{Step}
use Rattle.mgn_desk.specs.KeptRows.{HasRowRoom, IsRowStepped, KeptRow}
use Rattle.mgn_desk.specs.Moved.{arrays_of_quantity, counted}
use Rattle.mgn_desk.specs.Steps.{steps_of}
use Rattle.mgn_desk.specs.UnitLists.{IsFollowed, IsTogether, either_row, four_at, one_of, own_at, own_of, quantity_of, row_before}
use Rattle.mgn_desk.proofs.AddLemmas.{own, own_low}
use Rattle.mgn_desk.proofs.FollowedLemmas.{AreStepped, AreWritten, delta_room, followed_by, net_room, row_kept, step_alike, step_room, stepped, steps, still_none, together_after, written}
use Rattle.mgn_desk.proofs.MovedLemmas.{counted_more}
use Rattle.mgn_desk.proofs.ShownLemmas.{apart}
use Rattle.mgn_desk.proofs.unit_lists.UnitLists.follow.Goals as goal
use Rattle.mgn_desk.proofs.unit_lists.UnitLists.follow.Goals.{After-steps-steps, After-follow_branch, After-follow_branch-2, After-follow_branch-3, After-write}

-- the contract and the steps
commodity_is : (c : After-steps-steps) → c.contract_at-contract.result.now.commodity ≡ own c.args.set.now c.args.moves.now.contract
commodity_is c = ap (λ (k : Contract). k.commodity) c.contract_at-contract.ensures

steps_are : (c : After-steps-steps) → c.steps-steps.result ≡ steps c.args.set.now c.args.self.now c.args.moves.now
steps_are c =
    c.steps-steps.ensures ∙ ap (λ (k : Contract). steps_of c.args.moves.now (four_at c.args.self.now.nets c.args.moves.now.contract) (four_at c.args.self.now.deltas k.month)) c.contract_at-contract.ensures

-- there is room for the step of a portfolio, and one that is together with the lots steps as they do
room : (c : After-steps-steps) (w : Portfolio) → HasRowRoom c.args.set.now c.args.moves.now.contract (row_before w c.args.self.now c.contract_at-contract.result.now.commodity) (one_of w c.steps-steps.result)
room c w =
    rw (steps_are c, commodity_is c) (step_room c.args.set.now w c.args.self.now (c.requires.parts w).0 c.args.moves.now c.limits.ensures c.requires.lists c.requires.contract (c.requires.parts w).1 (c.requires.nets w))

alike : (c : After-steps-steps) (w : Portfolio) → IsTogether w c.args.self.now → quantity_of w c.args.moves.now ≡ c.args.moves.now.lots → one_of w c.steps-steps.result ≡ c.steps-steps.result.lots
alike c w is same =
    ap (one_of w) (steps_are c) ∙ step_alike c.args.set.now w c.args.self.now c.args.moves.now is same ∙ sym (ap (λ (s : Portfolios Step). s.lots) (steps_are c))

-- rows before the steps of others
sales_before : (c : After-follow_branch) (w : Portfolio) → w ≢ WithBuys → row_before w c.follow_branch.new.self c.contract_at-contract.result.now.commodity ≡ row_before w c.args.self.now c.contract_at-contract.result.now.commodity
sales_before c w other = row_kept w c.args.self.now c.follow_branch.new.self _ _ c.follow_branch.ensures.kept (c.follow_branch.ensures.others w other)

all_before : (c : After-follow_branch-2) (w : Portfolio) → w ≢ WithBuys → w ≢ WithSales → row_before w c.follow_branch-2.new.self c.contract_at-contract.result.now.commodity ≡ row_before w c.args.self.now c.contract_at-contract.result.now.commodity
all_before c w first second =
    row_kept w c.follow_branch.new.self c.follow_branch-2.new.self _ _ c.follow_branch-2.ensures.kept (c.follow_branch-2.ensures.others w second)
    ∙ row_kept w c.args.self.now c.follow_branch.new.self _ _ c.follow_branch.ensures.kept (c.follow_branch.ensures.others w first)

lots_before : (c : After-follow_branch-3) → row_before Lots c.follow_branch-3.new.self c.contract_at-contract.result.now.commodity ≡ row_before Lots c.args.self.now c.contract_at-contract.result.now.commodity
lots_before c =
    row_kept Lots c.follow_branch-2.new.self c.follow_branch-3.new.self _ _ c.follow_branch-3.ensures.kept refl
    ∙ row_kept Lots c.follow_branch.new.self c.follow_branch-2.new.self _ _ c.follow_branch-2.ensures.kept refl
    ∙ row_kept Lots c.args.self.now c.follow_branch.new.self _ _ c.follow_branch.ensures.kept refl

pub follow_branch-requires-clause-room : goal.follow_branch-requires-clause-room
follow_branch-requires-clause-room c =
    λ some. room (goal.at.follow_branch-requires-clause-room c).After-steps-steps WithBuys

pub follow_branch-requires-clause-together : goal.follow_branch-requires-clause-together
follow_branch-requires-clause-together c =
    λ known.
    let is = c.requires.together WithBuys known in
    (is.0.none c.contract_at-contract.result.now.commodity, alike (goal.at.follow_branch-requires-clause-together c).After-steps-steps WithBuys is.0 is.1)

pub follow_branch-requires-2-clause-room : goal.follow_branch-requires-2-clause-room
follow_branch-requires-2-clause-room c =
    λ some.
    let at = goal.at.follow_branch-requires-2-clause-room c in
    subst (λ (r : KeptRow). HasRowRoom c.args.set.now c.args.moves.now.contract r c.steps-steps.result.sales) (sym (sales_before at.After-follow_branch WithSales (apart WithSales WithBuys (λ e. omega (arith, e))))) (room at.After-steps-steps WithSales)

pub follow_branch-requires-2-clause-together : goal.follow_branch-requires-2-clause-together
follow_branch-requires-2-clause-together c =
    λ known.
    let is = c.requires.together WithSales known in
    (c.follow_branch.ensures.others WithSales (apart WithSales WithBuys (λ e. omega (arith, e))) ∙ is.0.none c.contract_at-contract.result.now.commodity, alike (goal.at.follow_branch-requires-2-clause-together c).After-steps-steps WithSales is.0 is.1)

pub follow_branch-requires-3-clause-room : goal.follow_branch-requires-3-clause-room
follow_branch-requires-3-clause-room c =
    λ some.
    let at = goal.at.follow_branch-requires-3-clause-room c in
    subst (λ (r : KeptRow). HasRowRoom c.args.set.now c.args.moves.now.contract r c.steps-steps.result.all) (sym (all_before at.After-follow_branch-2 WithAll (apart WithAll WithBuys (λ e. omega (arith, e))) (apart WithAll WithSales (λ e. omega (arith, e))))) (room at.After-steps-steps WithAll)

pub follow_branch-requires-3-clause-together : goal.follow_branch-requires-3-clause-together
follow_branch-requires-3-clause-together c =
    λ known.
    let is = c.requires.together WithAll known in
    (c.follow_branch-2.ensures.others WithAll (apart WithAll WithSales (λ e. omega (arith, e))) ∙ c.follow_branch.ensures.others WithAll (apart WithAll WithBuys (λ e. omega (arith, e))) ∙ is.0.none c.contract_at-contract.result.now.commodity, alike (goal.at.follow_branch-requires-3-clause-together c).After-steps-steps WithAll is.0 is.1)

pub follow_lots-requires-clause-room : goal.follow_lots-requires-clause-room
follow_lots-requires-clause-room c =
    λ some.
    let at = goal.at.follow_lots-requires-clause-room c in
    subst (λ (r : KeptRow). HasRowRoom c.args.set.now c.args.moves.now.contract r c.steps-steps.result.lots) (sym (lots_before at.After-follow_branch-3)) (room at.After-steps-steps Lots)

pub write-requires-clause-nets : goal.write-requires-clause-nets
write-requires-clause-nets c =
    let at = goal.at.write-requires-clause-nets c in
    let net = λ (w : Portfolio). net_room c.args.set.now w c.args.self.now c.args.moves.now (c.requires.nets w) in
    rw (steps_are at.After-steps-steps) (record { lots = net Lots; buys = net WithBuys; sales = net WithSales; all = net WithAll })

pub write-requires-clause-deltas : goal.write-requires-clause-deltas
write-requires-clause-deltas c =
    let at = goal.at.write-requires-clause-deltas c in
    let delta = λ (w : Portfolio). delta_room c.args.set.now w c.args.self.now (c.requires.parts w).0 c.args.moves.now c.limits.ensures c.requires.contract (c.requires.parts w).1 (c.requires.nets w) in
    rw (steps_are at.After-steps-steps, c.contract_at-contract.ensures) (record { lots = delta Lots; buys = delta WithBuys; sales = delta WithSales; all = delta WithAll })

-- all of the steps
are_stepped : (c : After-write) → AreStepped c.args.set.now c.args.moves.now c.contract_at-contract.result.now.commodity c.steps-steps.result c.args.self.now c.follow_branch.new.self c.follow_branch-2.new.self c.follow_branch-3.new.self c.follow_lots.new.self
are_stepped c = record {
  buys_kept = c.follow_branch.ensures.kept;
  buys_others = c.follow_branch.ensures.others;
  buys_row = c.follow_branch.ensures.row;
  buys_none = c.follow_branch.ensures.together;
  sales_kept = c.follow_branch-2.ensures.kept;
  sales_others = c.follow_branch-2.ensures.others;
  sales_row = c.follow_branch-2.ensures.row;
  sales_none = c.follow_branch-2.ensures.together;
  all_kept = c.follow_branch-3.ensures.kept;
  all_others = c.follow_branch-3.ensures.others;
  all_row = c.follow_branch-3.ensures.row;
  all_none = c.follow_branch-3.ensures.together;
  lots_kept = c.follow_lots.ensures.kept;
  lots_row = c.follow_lots.ensures.row;
}

are_written : (c : After-write) → c.contract_at-contract.result.now.commodity ≡ own c.args.set.now c.args.moves.now.contract → c.steps-steps.result ≡ steps c.args.set.now c.args.self.now c.args.moves.now → AreWritten c.args.set.now c.args.moves.now c.args.self.now c.write.new.self (row_before Lots c.follow_lots.new.self c.contract_at-contract.result.now.commodity) (own_at c.follow_branch-3.new.self c.contract_at-contract.result.now.commodity)
are_written c here is =
    written c.args.set.now c.args.moves.now c.contract_at-contract.result.now.commodity c.steps-steps.result c.contract_at-contract.result.now c.args.self.now _ _ _ _ c.write.new.self (are_stepped c) c.contract_at-contract.ensures here is c.write.ensures

followed : (c : After-write) → c.contract_at-contract.result.now.commodity ≡ own c.args.set.now c.args.moves.now.contract → c.steps-steps.result ≡ steps c.args.set.now c.args.self.now c.args.moves.now → (w : Portfolio) → IsFollowed c.args.set.now c.args.moves.now.contract (quantity_of w c.args.moves.now) w c.args.self.now c.write.new.self
followed c here is w =
    let i = c.args.moves.now.contract in
    let after = row_before Lots c.follow_lots.new.self c.contract_at-contract.result.now.commodity in
    let own_row = own_of w (own_at c.follow_branch-3.new.self c.contract_at-contract.result.now.commodity) in
    let step = stepped c.args.set.now c.args.moves.now c.contract_at-contract.result.now.commodity c.steps-steps.result c.args.self.now _ _ _ _ w (are_stepped c) in
    let here_step = subst (λ (g : ℕ). IsRowStepped c.args.set.now i (row_before w c.args.self.now g) (either_row after own_row) (one_of w c.steps-steps.result)) here step in
    followed_by c.args.set.now w c.args.self.now c.write.new.self c.args.moves.now (row_before Lots c.follow_lots.new.self c.contract_at-contract.result.now.commodity) (own_at c.follow_branch-3.new.self c.contract_at-contract.result.now.commodity) c.limits.ensures c.requires.lists c.requires.contract (are_written c here is)
    (subst (λ (s : Portfolios Step). IsRowStepped c.args.set.now i (row_before w c.args.self.now (own c.args.set.now i)) (either_row after own_row) (one_of w s)) is here_step)

pub returns-clause-followed : goal.returns-clause-followed
returns-clause-followed c =
    let at = goal.at.returns-clause-followed c in
    followed at.After-write (commodity_is at.After-steps-steps) (steps_are at.After-steps-steps)

pub returns-clause-together : goal.returns-clause-together
returns-clause-together c =
    λ w is same.
    let at = goal.at.returns-clause-together c in
    let here = commodity_is at.After-steps-steps in
    let steps_is = steps_are at.After-steps-steps in
    let none = still_none c.args.set.now c.args.moves.now c.contract_at-contract.result.now.commodity c.steps-steps.result c.args.self.now _ _ _ _ w (are_stepped at.After-write) (is.none c.contract_at-contract.result.now.commodity) (alike at.After-steps-steps w is same) in
    let all = followed at.After-write here steps_is in
    together_after c.args.set.now w c.args.self.now c.write.new.self c.args.moves.now (row_before Lots c.follow_lots.new.self c.contract_at-contract.result.now.commodity) (own_at c.follow_branch-3.new.self c.contract_at-contract.result.now.commodity) (all w) (all Lots) c.requires.lists (own_low c.args.set.now c.args.moves.now.contract c.limits.ensures c.requires.contract) (are_written at.After-write here steps_is) is same none

pub returns-clause-counted : goal.returns-clause-counted
returns-clause-counted c =
    let m = c.args.moves.now in
    let at = goal.at.returns-clause-counted c in
    let is = steps_are at.After-steps-steps in
    let of = λ (w : Portfolio). ap (λ (s : Portfolios Step). arrays_of_quantity (one_of w s).quantity) is in
    let a = arrays_of_quantity m.lots in
    let b = arrays_of_quantity m.buys in
    let d = arrays_of_quantity m.sales in
    let e = arrays_of_quantity m.all in
    let order : b + d + e + a ≡ a + b + d + e = omega arith in
    let first = c.follow_branch.ensures.counted ∙ ap (λ (n : ℕ). counted c.args.work.now n) (of WithBuys) in
    let second = c.follow_branch-2.ensures.counted ∙ (λ i. counted (first i) (of WithSales i)) ∙ counted_more c.args.work.now b d in
    let third = c.follow_branch-3.ensures.counted ∙ (λ i. counted (second i) (of WithAll i)) ∙ counted_more c.args.work.now (b + d) e in
    c.follow_lots.ensures.counted ∙ (λ i. counted (third i) (of Lots i)) ∙ counted_more c.args.work.now (b + d + e) a ∙ ap (λ (n : ℕ). counted c.args.work.now n) order

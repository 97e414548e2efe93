use Rattle.std.proofs.Common.{◌≡◌, ◌<◌, ◌∙◌, ℕ, ℤ, List, ap, arith, length, refl, set}
use Rattle.std.specs.Prelude.{◌+ℤ◌, slice_index}
use Rattle.std.proofs.lemmas.List.{get_or_read}
use Rattle.mgn_params.specs.declared.tables.Contract.{Contract}
use Rattle.mgn_span.specs.Scan.{value_at}
use Rattle.mgn_params.specs.Tables.{Tables, contract_at, no_contract}
use Rattle.mgn_option.specs.Sums.{AreSums, Sums}
use Rattle.mgn_option.proofs.SumsLemmas.{AreSums-changed, changed_minimum_small, changed_value_small, counted_minimum}
use Rattle.mgn_option.proofs.sums.OptionSums.add.Goals as goal
use Rattle.mgn_option.proofs.sums.OptionSums.add.Goals.{After-at}

-- the contract's commodity is one of the set's
low : (c : After-at) → (contract_at c.args.set.now.contracts c.args.i).commodity < length c.args.set.now.commodities
low c = (c.limits.ensures.contracts c.args.i no_contract c.requires.contract).commodity

commodity_is : (c : After-at) → c.contract_at.result.now.commodity ≡ (contract_at c.args.set.now.contracts c.args.i).commodity
commodity_is c = ap (λ (k : Contract). k.commodity) c.contract_at.ensures

minimums_are : (c : After-at) → c.self.inside.minimums.items ≡ c.args.self.now.minimums
minimums_are c = ap (λ (s : Sums). s.minimums) c.self.view_is

-- the minimum that was lent is its own
read : (c : After-at) → c.index_mut.result.now ≡ slice_index c.args.self.now.minimums (contract_at c.args.set.now.contracts c.args.i).commodity
read c =
    let here : c.contract_at.result.now.commodity < length c.self.inside.minimums.items = omega (arith, low c, commodity_is c, c.requires.sums.one_minimum_each, ap (λ (xs : List ℕ). length xs) (minimums_are c)) in
    get_or_read c.self.inside.minimums.items c.contract_at.result.now.commodity c.index_mut.result.now here c.index_mut.ensures.value 0
    ∙ ap (λ (xs : List ℕ). slice_index xs c.contract_at.result.now.commodity) (minimums_are c)
    ∙ ap (λ (g : ℕ). slice_index c.args.self.now.minimums g) (commodity_is c)

value_was : (c : After-at) → c.self.inside.value ≡ c.args.self.now.value
value_was c = ap (λ (s : Sums). s.value) c.self.view_is

pub follow-requires-clause-counted : goal.follow-requires-clause-counted
follow-requires-clause-counted c =
    let at = (goal.at.follow-requires-clause-counted c).After-at in
    let g = (contract_at c.args.set.now.contracts c.args.i).commodity in
    rw (read at, c.at.ensures) (counted_minimum c.args.set.now c.args.nets.now c.args.self.now c.args.i g c.requires.sums c.requires.contract (low at))

pub follow-requires-clause-small : goal.follow-requires-clause-small
follow-requires-clause-small c =
    let at = (goal.at.follow-requires-clause-small c).After-at in
    let g = (contract_at c.args.set.now.contracts c.args.i).commodity in
    rw (read at, c.at.ensures) (changed_minimum_small c.args.set.now c.args.nets.now c.args.self.now c.args.i g (value_at c.args.nets.now c.args.i +ℤ c.args.quantity) c.limits.ensures c.requires.sums c.requires.contract (low at) c.requires.net)

pub follow-requires-2-clause-small : goal.follow-requires-2-clause-small
follow-requires-2-clause-small c =
    let at = (goal.at.follow-requires-2-clause-small c).After-at in
    rw (value_was at) (changed_value_small c.args.set.now c.args.nets.now c.args.self.now c.args.i c.args.quantity c.limits.ensures c.requires.sums c.requires.contract c.requires.net)

AreSums-along : (t : Tables) (nets : List ℤ) (minimums least : List ℕ) (value : ℤ) → minimums ≡ least → (let sums : Sums = record { minimums = least; value = value } in AreSums t nets sums) → (let sums : Sums = record { minimums = minimums; value = value } in AreSums t nets sums)
AreSums-along t nets minimums least value e are = rw e are

pub returns : goal.returns
returns c =
    let at = (goal.at.returns c).After-at in
    let g = (contract_at c.args.set.now.contracts c.args.i).commodity in
    let minimums = ap (λ (xs : List ℕ). set xs c.contract_at.result.now.commodity c.follow.new.self) (minimums_are at) ∙ ap (λ (k : ℕ). set c.args.self.now.minimums k c.follow.new.self) (commodity_is at) in
    let least = rw (read at, c.at.ensures) at c.follow.ensures in
    let value = rw (value_was at) at c.follow-2.ensures in
    AreSums-along c.args.set.now _ _ _ _ minimums (AreSums-changed c.args.set.now c.args.nets.now c.args.self.now c.args.i g c.args.quantity c.follow.new.self c.follow-2.new.self c.requires.sums c.requires.contract c.requires.net refl (low at) least value)

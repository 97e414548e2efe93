use Rattle.std.proofs.Common.{◌≡◌, ◌<◌, ◌^◌, length, ap, ◌∙◌, sym, rules, false}
use Rattle.std.specs.Prelude.{pos, ◌==◌, ◌+ℤ◌, if◌then◌else◌, int_lt, unsigned_abs}
use Rattle.std.proofs.lemmas.List.{get_or_default}
use Rattle.mgn_machine.specs.State.{account_at, no_account}
use Rattle.mgn_machine.specs.Transfers.{quantity_in_unit}
use Rattle.mgn_register.specs.BookStates.{BookState}
use Rattle.mgn_register.proofs.register.Register.move_places.Goals as goal
use Rattle.mgn_register.proofs.register.Register.move_places.Goals.{After-passes_limit-2}

-- what was counted toward the limits is what the definition counts
counted : (c : After-passes_limit-2) → c.quantity_in_unit-more.result ≡ quantity_in_unit c.args.self.now.state c.in_ok-from.from c.in_ok-from.to c.args.transfer.now.quantity
counted c =
    let accounts = c.self.inside.accounts.items in
    let from = c.in_ok-from.from in
    let to = c.in_ok-from.to in
    let inside_from : from < length accounts = search rules in
    let inside_to : to < length accounts = search rules in
    let giver : c.index-giver.result.now ≡ account_at c.args.self.now.state.accounts from =
    c.index-giver.ensures ∙ get_or_default accounts from c.index-giver.result.now no_account inside_from ∙ ap (λ (f : BookState). account_at f.state.accounts from) c.self.view_is
    in
    let taker : c.index-taker.result.now ≡ account_at c.args.self.now.state.accounts to =
    c.index-taker.ensures ∙ get_or_default accounts to c.index-taker.result.now no_account inside_to ∙ ap (λ (f : BookState). account_at f.state.accounts to) c.self.view_is
    in
    let q = c.args.transfer.now.quantity in
    c.quantity_in_unit-more.ensures.quantity ∙ (λ i. if (giver i).unit == (taker i).unit then q +ℤ q else q)

pub returns-clause-giver_room : goal.returns-clause-giver_room
returns-clause-giver_room c =
    let passed : c.passes_limit.result ≡ false = search rules in
    sym (c.passes_limit.ensures ∙ (λ i. int_lt (pos (10 ^ 7)) (c.unit_size-size.ensures.size i +ℤ pos (unsigned_abs (counted (goal.at.returns-clause-giver_room c).After-passes_limit-2 i))))) ∙ passed

pub returns-clause-taker_room : goal.returns-clause-taker_room
returns-clause-taker_room c =
    let passed : c.passes_limit-2.result ≡ false = search rules in
    sym (c.passes_limit-2.ensures ∙ (λ i. int_lt (pos (10 ^ 7)) (c.unit_size-size-2.ensures.size i +ℤ pos (unsigned_abs (counted (goal.at.returns-clause-taker_room c).After-passes_limit-2 i))))) ∙ passed

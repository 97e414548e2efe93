use Rattle.std.proofs.Common.{ℕ, List, [], ◌++◌, ◌∙◌, ap, sym}
use Rattle.std.proofs.lemmas.List.{append_assoc, append-nil}
use Rattle.mgn_book.proofs.stored.store_transfer.Goals as goal

pub returns-clause-kept : goal.returns-clause-kept
returns-clause-kept c =
    let first = c.place_of_account.ensures in
    let second = c.place_of_account-2.ensures in
    let third = c.place_of_contract.ensures in
    let names = c.args.names.now in (
      (first.accounts.0 ++ second.accounts.0, third.accounts ∙ second.accounts.1 ∙ ap (λ (xs : List (List ℕ)). xs ++ second.accounts.0) first.accounts.1 ∙ append_assoc names.accounts first.accounts.0 second.accounts.0),
      (
        (third.contracts.0, third.contracts.1 ∙ ap (λ (xs : List (List ℕ)). xs ++ third.contracts.0) (second.contracts ∙ first.contracts)),
        ([], third.classes ∙ second.classes ∙ first.classes ∙ sym (append-nil names.classes)),
      ),
    )

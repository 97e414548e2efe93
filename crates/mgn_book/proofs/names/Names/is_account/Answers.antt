use Rattle.std.proofs.Common.{◌∙◌, ap, [], sym}
use Rattle.std.proofs.lemmas.Option.{get_or_from_slice_get}
use Rattle.std.proofs.lemmas.Slice.Eq.{bytes_eq-Decides}
use Rattle.mgn_book.specs.History.{NameLists, name_at}
use Rattle.mgn_book.proofs.names.Names.is_account.Goals as goal

pub returns-in-Some-clause-name : goal.returns-in-Some-clause-name
returns-in-Some-clause-name c = λ yes.
    ap (λ (n : NameLists). name_at n.accounts c.args.place) (sym c.self.view_is)
    ∙ get_or_from_slice_get c.self.inside.accounts.keys c.args.place c.in-Some.there.now [] (sym c.in-Some.ensures.key)
    ∙ (bytes_eq-Decides c.in-Some.there.now c.args.name).0 (sym c.eq.ensures ∙ yes)

use Rattle.std.proofs.Common.{◌∙◌, ap, [], sym}
use Rattle.std.proofs.lemmas.Option.{get_or_from_slice_get}
use Rattle.std.proofs.lemmas.Slice.Eq.{bytes_eq-Decides}
use Rattle.mgn_book.specs.History.{NameLists, name_at}
use Rattle.mgn_book.proofs.names.Names.found_before.Goals as goal

pub returns-in-Some-clause-name : goal.returns-in-Some-clause-name
returns-in-Some-clause-name c =
    ap (λ (n : NameLists). name_at n.contracts c.in_ok-before.field-0.now) (sym c.self.view_is)
    ∙ get_or_from_slice_get c.self.inside.contracts.keys c.in_ok-before.field-0.now c.in-Some.there.now [] (sym c.in-Some.ensures.key)
    ∙ (bytes_eq-Decides c.in-Some.there.now c.args.name).0 (sym c.eq.ensures ∙ c.if-eq.true)

use Rattle.std.proofs.Common.{◌∙◌, [], sym}
use Rattle.std.proofs.lemmas.Option.{get_or_from_slice_get}
use Rattle.std.proofs.lemmas.Slice.Eq.{bytes_eq-Decides}
use Rattle.mgn_book.proofs.names.Names.place_of_class.Goals as goal

pub returns-clause-name : goal.returns-clause-name
returns-clause-name c =
    let kept = c.in-Ok.ensures.stored in
    get_or_from_slice_get c.insert_full.new.self.keys c.in-Ok.place kept.0 [] kept.1 ∙ sym ((bytes_eq-Decides c.args.name kept.0).0 kept.2)

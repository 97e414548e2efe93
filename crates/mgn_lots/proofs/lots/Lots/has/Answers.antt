use Rattle.std.proofs.Common.{ap, ◌∙◌, nat_eq}
use Rattle.std.specs.Option.{is_some}
use Rattle.mgn_lots.specs.Lots.{numbers_of}
use Rattle.mgn_lots.proofs.Rising.{is_some-position}
use Rattle.mgn_lots.proofs.lots.Lots.has.Goals as goal

pub returns : goal.returns
returns c = c.is_some.ensures ∙ ap is_some c.place.ensures.place ∙ is_some-position (nat_eq c.args.number) (numbers_of c.args.self.now.lots)

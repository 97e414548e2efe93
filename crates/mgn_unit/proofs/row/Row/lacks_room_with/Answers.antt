use Rattle.std.proofs.Common.{◌∙◌, sym}
use Rattle.mgn_unit.specs.Rows.{row_with_worth}
use Rattle.mgn_unit.proofs.Short.{lacks_room, any-same}
use Rattle.mgn_unit.proofs.row.Row.lacks_room_with.Goals as goal

pub returns : goal.returns
returns c =
    c.any_of.ensures
    ∙ any-same _ _ _ _ _ _ _ _ c.lacks_room_with-lots.ensures c.lacks_room_with-buys.ensures c.lacks_room_with-sales.ensures c.lacks_room_with-all.ensures
    ∙ sym (lacks_room (row_with_worth c.args.amount c.args.self.now))

-- How a desk is kept.
use Rattle.mgn_desk.specs.declared.desk.Desk.TheInside.{Inside}
use Rattle.mgn_desk.specs.Desks.{DeskRows}

abbrev pub desk_of : Inside → DeskRows
desk_of d = record { unit = d.unit; marked = d.marked }

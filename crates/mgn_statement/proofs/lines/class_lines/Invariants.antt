use Rattle.std.proofs.Common.{◌≡◌, Bool, take, filter, map, count_by, vec_len}
use Rattle.std.specs.Vec.{vec_capacity}
use Rattle.std.specs.Prelude.{nat_lt}
use Rattle.mgn_params.specs.declared.tables.Class.{Class}
use Rattle.mgn_coll.specs.Posted.{units_of}
use Rattle.mgn_machine.specs.Statements.{class_line}
use Rattle.mgn_statement.proofs.lines.class_lines.Given as goal

abbrev pub invariant-loop-class : goal.invariant-loop-class
invariant-loop-class l =
    let posted : Class → Bool = λ c. nat_lt 0 (units_of c.name l.collateral.units) in
    record {
      so_far : l.lines.items ≡ map (class_line l.collateral.units) (filter posted (take l.class-index l.classes));
      len : vec_len l.lines ≡ count_by posted (take l.class-index l.classes);
      room : vec_capacity l.lines ≡ count_by posted l.classes;
    }

use Rattle.std.proofs.Common.{Bool, List, subst, sym}
use Rattle.std.specs.Prelude.{Option}
use Rattle.mgn_unit.specs.NewSets.{ArePrepared, PreparedUnit}
use Rattle.mgn_unit.specs.Prepared.{AreCurrent}
use Rattle.mgn_register.proofs.register.Register.rows_under.Goals as goal

pub rows_of-requires-clause-prepared : goal.rows_of-requires-clause-prepared
rows_of-requires-clause-prepared c =
    subst (λ (units : List (Option PreparedUnit)). ArePrepared c.args.new.now units) (sym c.as_mut_slice-units.ensures.value) c.requires.prepared

pub rows_of-requires-clause-current : goal.rows_of-requires-clause-current
rows_of-requires-clause-current c =
    let rows = c.args.self.now.rows in
    subst (λ (units : List (Option PreparedUnit)). AreCurrent c.args.old.now c.args.new.now rows units c.as_slice-current.result.now) (sym c.as_mut_slice-units.ensures.value)
    (subst (λ (current : List Bool). AreCurrent c.args.old.now c.args.new.now rows c.args.prepared.now.units.items current) (sym c.as_slice-current.ensures.value) c.requires.current)

use Rattle.std.proofs.Common.{subst, sym}
use Rattle.mgn_params.specs.Tables.{Tables}
use Rattle.mgn_unit.specs.NewSets.{ArePrepared}
use Rattle.mgn_unit.specs.Prepared.{AreCurrent}
use Rattle.mgn_register.proofs.register.Register.rows_of.Goals as goal

pub amounts_of-requires-clause-prepared : goal.amounts_of-requires-clause-prepared
amounts_of-requires-clause-prepared c =
    subst (λ (t : Tables). ArePrepared t c.args.prepared.now) (sym c.in_ok-switch.ensures.new) c.requires.prepared

pub amounts_of-requires-clause-current : goal.amounts_of-requires-clause-current
amounts_of-requires-clause-current c =
    let rows = c.args.self.now.rows in
    subst (λ (t : Tables). AreCurrent t c.in_ok-switch.switch.new rows c.args.prepared.now c.args.current.now) (sym c.in_ok-switch.ensures.old)
    (subst (λ (t : Tables). AreCurrent c.args.old.now t rows c.args.prepared.now c.args.current.now) (sym c.in_ok-switch.ensures.new) c.requires.current)

pub rows_anew-requires-clause-prepared : goal.rows_anew-requires-clause-prepared
rows_anew-requires-clause-prepared c =
    subst (λ (t : Tables). ArePrepared t c.args.prepared.now) (sym c.in_ok-switch.ensures.new) c.requires.prepared

pub rows_anew-requires-clause-current : goal.rows_anew-requires-clause-current
rows_anew-requires-clause-current c =
    let rows = c.args.self.now.rows in
    subst (λ (t : Tables). AreCurrent t c.in_ok-switch.switch.new rows c.args.prepared.now c.args.current.now) (sym c.in_ok-switch.ensures.old)
    (subst (λ (t : Tables). AreCurrent c.args.old.now t rows c.args.prepared.now c.args.current.now) (sym c.in_ok-switch.ensures.new) c.requires.current)

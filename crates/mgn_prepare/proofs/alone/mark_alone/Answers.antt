use Rattle.std.proofs.Common.{◌∙◌, rules, subst}
use Rattle.mgn_params.specs.Tables.{Tables}
use Rattle.mgn_unit.specs.NewSets.{ArePrepared}
use Rattle.mgn_prepare.proofs.Whole.{more-marks, more-prepared}
use Rattle.mgn_prepare.proofs.alone.mark_alone.Goals as goal

pub loop-unit-preserved : goal.loop-unit-preserved
loop-unit-preserved g c = record {
  marks = c.push_reserved.ensures.items ∙ more-marks c.in_ok-marker.marker.old.now c.in_ok-marker.marker.new.now c.args.nets.now c.loop-unit.unit c.index-nets-unit.result c.loop-unit.marks.items c.in_ok-mark.field-0 (search rules) c.index-nets-unit.is c.loop-unit.invariant.marks c.in_ok-mark.ensures.mark;
  prepared = rw c.push_reserved.ensures.items (more-prepared c.in_ok-marker.marker.new.now c.loop-unit.marks.items c.in_ok-mark.field-0 c.loop-unit.invariant.prepared c.in_ok-mark.ensures.prepared);
  old_is = search rules;
  new_is = search rules;
  long = search rules;
  room = search rules;
}

pub returns-clause-prepared : goal.returns-clause-prepared
returns-clause-prepared g c = subst (λ (t : Tables). ArePrepared t c.loop-unit.marks.items) c.loop-unit.invariant.new_is c.loop-unit.invariant.prepared

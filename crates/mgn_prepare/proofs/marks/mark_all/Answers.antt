use Rattle.std.proofs.Common.{rules}
use Rattle.mgn_prepare.proofs.Whole.{jobs-copied, whole, whole-prepared}
use Rattle.mgn_prepare.proofs.marks.mark_all.Goals as goal

pub do_list-requires-clause-nets : goal.do_list-requires-clause-nets
do_list-requires-clause-nets g c κs within = jobs-copied c.in_ok-marker.marker.old.now c.args.nets.items c.in_ok-jobs.jobs.items (search rules) (search rules)

pub returns-clause-marks : goal.returns-clause-marks
returns-clause-marks g c =
    let marker = c.in_ok-marker.marker in
    whole (λ v. v.items) c.marks_of.result c.args.old.now c.args.new.now marker.old.now marker.new.now c.args.nets.items c.in_ok-jobs.jobs.items c.do_list.new.jobs.items
    c.in_ok-marker.ensures.old c.in_ok-marker.ensures.new (search rules) c.do_list.ensures.long c.do_list.ensures.done c.marks_of.ensures

pub returns-clause-prepared : goal.returns-clause-prepared
returns-clause-prepared g c =
    let marker = c.in_ok-marker.marker in
    whole-prepared (λ v. v.items) c.marks_of.result c.args.new.now marker.old.now marker.new.now c.in_ok-jobs.jobs.items c.do_list.new.jobs.items
    c.in_ok-marker.ensures.new c.do_list.ensures.long c.do_list.ensures.done c.marks_of.ensures

use Rattle.std.proofs.Common.{◌≡◌, rules, sym}
use Rattle.mgn_desk.specs.Desks.{IsMarkedBy, marked_with, shown}
use Rattle.mgn_unit.specs.Rows.{nets_in}
use Rattle.mgn_pricing.proofs.Marked.{required-by}
use Rattle.mgn_pricing.proofs.Moved.{of-version-shown, ready-shown}
use Rattle.mgn_pricing.proofs.desks.mark_again.Goals as goal

pub requirements-requires : goal.requirements-requires
requirements-requires c = (c.args.set.now, search rules)

pub returns-clause-known : goal.returns-clause-known
returns-clause-known c =
    let now = c.mark.new.self in
    let of_set : IsMarkedBy c.args.set.now now.marked = search rules in
    let is : shown now ≡ marked_with c.args.desk.now.unit c.args.version (nets_in c.args.row.now) = search rules in
    let ready = ready-shown c.args.set.now c.args.version c.args.desk.now.unit (nets_in c.args.row.now) now of_set is in
    required-by c.args.set.now c.args.version c.args.row.now now.marked c.requirements.result ready (c.requirements.ensures.requirements c.args.set.now of_set) c.requirements.ensures.small

pub returns-clause-told : goal.returns-clause-told
returns-clause-told c =
    let now = c.mark.new.self in
    let is : shown now ≡ marked_with c.args.desk.now.unit c.args.version (nets_in c.args.row.now) = search rules in
    sym (of-version-shown c.args.version c.args.desk.now.unit (nets_in c.args.row.now) now is)

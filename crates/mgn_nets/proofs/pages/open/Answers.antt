use Rattle.std.proofs.Common.{◌≡◌, ◌+◌, ◌≤◌, arith, length, rules, vec_len}
use Rattle.std.specs.Vec.{vec_capacity}
use Rattle.mgn_nets.proofs.Paged.{page-room}
use Rattle.mgn_nets.proofs.pages.open.Goals as goal

pub loop-init : goal.loop-init
loop-init c =
    let enough : length c.args.cells.now.items + 16 ≤ vec_capacity c.args.cells.now = page-room c.requires.pages.0 c.args.starts.now.items c.args.cells.now.items (vec_capacity c.args.cells.now) c.args.page c.requires.pages.1 c.requires.page c.requires.closed in
    let len : vec_len c.args.cells.now ≡ length c.args.cells.now.items = search rules in
    record { items = search rules; room = omega (arith, enough, len); same = search rules }

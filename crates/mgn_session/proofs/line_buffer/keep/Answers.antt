use Rattle.std.proofs.Common.{arith, ◌≡◌, ◌-◌, length, min}
use Rattle.mgn_session.proofs.LineFacts.{kept}
use Rattle.mgn_session.proofs.line_buffer.keep.Goals as goal

pub returns-in-Ok : goal.returns-in-Ok
returns-in-Ok c =
    let room : c.min-room.result ≡ min (257 - length c.args.line.now.items) (length c.args.piece.now) = omega (arith, c.args.line.now.ok.0) in
    rw c.in-Ok.ensures.items (kept c.args.line.now.items c.args.piece.now c.min-room.result room)

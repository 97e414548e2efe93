use Rattle.std.proofs.Common.{arith, rules, ◌≡◌, ◌-◌, ◌<◌, length, take, drop, length-drop}
use Rattle.std.proofs.lemmas.List.{take_all}
use Rattle.mgn_session.proofs.DeviceFacts.{writes_on}
use Rattle.mgn_session.proofs.conversation.put.Goals as goal

pub loop-at-preserved : goal.loop-at-preserved
loop-at-preserved g c =
    let inv = c.loop-at.invariant in
    let left : take (length c.args.text.now - c.loop-at.at) (drop c.loop-at.at c.args.text.now) ≡ drop c.loop-at.at c.args.text.now =
    take_all (length c.args.text.now - c.loop-at.at) (drop c.loop-at.at c.args.text.now) (omega (arith, length-drop c.loop-at.at c.args.text.now)) in
    let bytes = rw (c.in-Ok.is, left) at c.write.ensures.bytes in
    let bound = rw (c.in-Ok.is, left) at c.write.ensures.bound in
    let failed = rw (c.in-Ok.is, left) at c.write.ensures.failed in
    let some : 0 < c.in-Ok.taken = omega arith in
    let same = failed.1 some in
    record {
      within = omega (arith, length-drop c.loop-at.at c.args.text.now);
      written = writes_on _ _ _ c.loop-at.at c.in-Ok.taken c.args.text.now inv.written bytes;
      healthy = search (rules, same, inv.healthy);
    }

use Rattle.std.proofs.Common.{◌≡◌, length, rules, vec_len}
use Rattle.std.proofs.lemmas.List.Elements.{All-push}
use Rattle.mgn_machine.specs.StoredLines.{IsPlaced}
use Rattle.mgn_machine.proofs.StoredLines.{wide_pushed}
use Rattle.mgn_machine.proofs.commodity_lines.CommodityLines.push.Goals as goal

pub invariant_of-self-in-Some : goal.invariant_of-self-in-Some
invariant_of-self-in-Some c =
    let wide = c.self.inside.wide.items in
    let placed = All-push (IsPlaced wide) c.self.inside.stored.items c.in-Some.stored c.self.invariant.0 (c.in-Some.ensures.placed wide) in
    rw (c.push_reserved.ensures.items, c.in_ok-reserve.ensures.items) (placed, c.self.invariant.1)

pub returns-in_ok-reserve-in-None-clause-ok : goal.returns-in_ok-reserve-in-None-clause-ok
returns-in_ok-reserve-in-None-clause-ok c =
    let long : vec_len c.self.inside.wide ≡ length c.self.inside.wide.items = search rules in
    rw (c.push_reserved-in-None-2.ensures.items, c.in_ok-reserve-in-None.ensures.items, c.push_reserved-in-None.ensures.items, c.in_ok-reserve.ensures.items, c.len.ensures, c.in_ok-reserve-in-None.ensures.len, long, ← c.self.view_is)
    (wide_pushed c.self.inside.wide.items c.self.inside.stored.items c.args.line.now c.self.invariant.0)

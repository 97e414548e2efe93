use Rattle.std.proofs.Common.{◌≡◌, ◌∙◌, ℕ, List, ap, false, length, replicate, slice_set, true}
use Rattle.mgn_inter.specs.Credited.{IsAtTurn}
use Rattle.mgn_inter.specs.Rows.{Credited}
use Rattle.mgn_inter.specs.declared.spread_state.SpreadState.{SpreadState}
use Rattle.mgn_inter.specs.Told.{credits_at, told_of}
use Rattle.mgn_inter.proofs.ToldLemmas.{told_alike, told_are, told_once}
use Rattle.mgn_inter.proofs.TurnLemmas.{turn_first}
use Rattle.mgn_inter.proofs.inter.InterCredits.refresh.Goals as goal
use Rattle.mgn_inter.proofs.inter.InterCredits.refresh.Goals.{After-rework_reached, After-write_numbers}

-- the numbers are written, and no spread is formed again
at_first : (c : After-write_numbers) → IsAtTurn c.args.set.now c.args.g c.args.self.now (slice_set (replicate 256 false) c.args.g true) 0 c.write_numbers.new.self
at_first c =
    rw c.write_numbers.ensures (turn_first c.args.set.now c.args.g c.args.self.now c.new-delta.result c.size.result c.limits.ensures c.requires.of_set c.requires.commodity (rw c.new-delta.ensures c.requires.net_delta) (rw c.size.ensures.value c.requires.price_risk2))

pub pass_all-requires-clause-quiet : goal.pass_all-requires-clause-quiet
pass_all-requires-clause-quiet c =
    (c.args.self.now, at_first (goal.at.pass_all-requires-clause-quiet c).After-write_numbers, c.is_quiet-is_quiet.ensures.alike c.if-is_quiet.true, c.is_quiet-is_quiet.ensures.none c.if-is_quiet.true)

pub rework_reached-requires-clause-turn : goal.rework_reached-requires-clause-turn
rework_reached-requires-clause-turn c = (c.args.self.now, at_first (goal.at.rework_reached-requires-clause-turn c).After-write_numbers)

-- the places are those that are told of what was kept before
are_told : (c : After-rework_reached) → c.rework_reached.result ≡ told_of c.args.self.now.kept c.rework_reached.new.self.kept (length c.args.set.now.credits)
are_told c =
    c.rework_reached.ensures.told
    ∙ ap (λ (kept : List SpreadState). told_of kept c.rework_reached.new.self.kept (length c.args.set.now.credits)) (ap (λ (r : Credited). r.kept) c.write_numbers.ensures)

pub returns-clause-told : goal.returns-clause-told
returns-clause-told c =
    told_are c.args.self.now.kept c.rework_reached.new.self.kept (length c.args.set.now.credits) c.rework_reached.result (are_told c)

pub returns-clause-once : goal.returns-clause-once
returns-clause-once c =
    told_once c.args.self.now.kept c.rework_reached.new.self.kept (length c.args.set.now.credits) c.rework_reached.result (are_told c)

pub returns-then-is_quiet-clause-told : goal.returns-then-is_quiet-clause-told
returns-then-is_quiet-clause-told c =
    let was = c.args.self.now.kept in
    let now = c.pass_all.new.self.kept in
    let count = length c.args.set.now.credits in
    let same : (j : ℕ) → credits_at now j ≡ credits_at was j = λ j. c.pass_all.ensures.same j ∙ ap (λ (r : Credited). credits_at r.kept j) c.write_numbers.ensures in
    told_are was now count c.none.result (c.none.ensures ∙ told_alike was now count same)

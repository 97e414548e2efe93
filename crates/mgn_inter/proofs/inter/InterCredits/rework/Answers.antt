use Rattle.std.proofs.Common.{◌≡◌, ◌∙◌, ℤ, List, ap, arith, length, slice_index, subst, sym}
use Rattle.std.proofs.lemmas.List.{get_or_default, length-map}
use Rattle.mgn_params.specs.declared.tables.CreditSpread.{CreditSpread}
use Rattle.mgn_params.specs.Tables.{credit_spread_at, legs_of}
use Rattle.mgn_inter.specs.declared.commodity_numbers.CommodityNumbers.{CommodityNumbers}
use Rattle.mgn_inter.specs.declared.spread_state.SpreadState.{SpreadState}
use Rattle.mgn_inter.specs.Columns.{credits_in, deltas_in, rests_in, risks_in}
use Rattle.mgn_inter.specs.CreditRows.{credited_of}
use Rattle.mgn_inter.specs.Credited.{IsAtTurn}
use Rattle.mgn_inter.specs.Rows.{AreRestsOf, Credited, IsKept, kept_at, nothing_kept, rests_at}
use Rattle.mgn_inter.proofs.TurnLemmas.{turn_covers, turn_long, turn_near, turn_others, turn_own_small, turn_rests, turn_reworked, turn_room}
use Rattle.mgn_inter.proofs.inter.InterCredits.rework.Goals as goal
use Rattle.mgn_inter.proofs.inter.InterCredits.rework.Goals.{After-bring_rests, After-form_spread-credits}

-- what is kept at the turn, by the fields
were : (c : After-bring_rests) → IsAtTurn c.args.set.now c.requires.turn.0 c.requires.turn.1 c.args.moved.now c.args.i (credited_of c.self.inside)
were c =
    subst (λ (r : Credited). IsAtTurn c.args.set.now c.requires.turn.0 c.requires.turn.1 c.args.moved.now c.args.i r) (sym c.self.view_is) c.requires.turn.2

spread_is : (c : After-bring_rests) → c.spread_at-spread.result.now ≡ credit_spread_at c.args.set.now.credits c.args.i
spread_is c =
    c.spread_at-spread.ensures ∙ ap (λ (ss : List CreditSpread). credit_spread_at ss c.args.i) c.credits.ensures

kept_is : (c : After-bring_rests) → c.row_mut-kept.result.now ≡ kept_at c.self.inside.kept c.args.i
kept_is c =
    c.row_mut-kept.ensures.value
    ∙ get_or_default c.self.inside.kept c.args.i c.row_mut-kept.result.now nothing_kept (omega (arith, c.requires.inside, (were c).one_kept_each))

-- the rests at the turn, of which the spread is formed
abbrev turn : After-bring_rests → List ℤ
turn c = rests_at (deltas_in c.self.inside.numbers) (risks_in c.self.inside.numbers) c.args.set.now.credits c.args.i

rests_are : (c : After-bring_rests) → AreRestsOf (legs_of (credit_spread_at c.args.set.now.credits c.args.i)) (turn c) c.bring_rests.new.kept
rests_are c =
    turn_rests c.args.set.now c.requires.turn.0 c.requires.turn.1 c.args.moved.now c.args.i (credited_of c.self.inside) c.bring_rests.new.kept (were c) c.requires.inside c.bring_rests.ensures.long (rw (spread_is c, kept_is c) at c.bring_rests.ensures.rests)

-- what is kept of the spread from now on
abbrev own : After-form_spread-credits → SpreadState
own c = record { rests = c.bring_rests.new.kept; after = c.form_spread-credits.new.rests; credits = c.form_spread-credits.result }

own_is : (c : After-form_spread-credits) → let all = rests_at (deltas_in c.self.inside.numbers) (risks_in c.self.inside.numbers) c.args.set.now.credits c.args.i in let s = credit_spread_at c.args.set.now.credits c.args.i in length all ≡ length c.self.inside.numbers → AreRestsOf (legs_of s) all c.bring_rests.new.kept → c.spread_at-spread.result.now ≡ s → IsKept (deltas_in c.self.inside.numbers) (risks_in c.self.inside.numbers) all s (own c)
own_is c long rests spread =
    let all = rests_at (deltas_in c.self.inside.numbers) (risks_in c.self.inside.numbers) c.args.set.now.credits c.args.i in
    rw spread at (c.form_spread-credits.ensures all long (rw spread rests))

long : (c : After-bring_rests) → length (turn c) ≡ length c.self.inside.numbers
long c =
    turn_long c.args.set.now c.requires.turn.0 c.requires.turn.1 c.args.moved.now c.args.i (credited_of c.self.inside) (were c) ∙ length-map c.self.inside.numbers (λ (n : CommodityNumbers). n.delta)

pub form_spread-credits-requires-clause-near : goal.form_spread-credits-requires-clause-near
form_spread-credits-requires-clause-near c =
    let at = (goal.at.form_spread-credits-requires-clause-near c).After-bring_rests in
    rw (spread_is at) (turn at, rests_are at, turn_near c.args.set.now c.requires.turn.0 c.requires.turn.1 c.args.moved.now c.args.i (credited_of c.self.inside) (were at))

pub change_credits-requires-clause-old : goal.change_credits-requires-clause-old
change_credits-requires-clause-old c =
    let at = (goal.at.change_credits-requires-clause-old c).After-bring_rests in
    rw (c.write_rests.ensures.credits, spread_is at, kept_is at) (λ g. turn_covers c.args.set.now c.requires.turn.0 c.requires.turn.1 c.args.moved.now c.args.i (credited_of c.self.inside) g (were at) c.requires.inside)

pub change_credits-requires-clause-new : goal.change_credits-requires-clause-new
change_credits-requires-clause-new c =
    λ g.
    let at = (goal.at.change_credits-requires-clause-new c).After-bring_rests in
    let formed = (goal.at.change_credits-requires-clause-new c).After-form_spread-credits in
    let small = turn_own_small c.args.set.now c.requires.turn.0 c.requires.turn.1 c.args.moved.now c.args.i (credited_of c.self.inside) (own formed) g c.limits.ensures (were at) c.requires.inside (own_is formed (long at) (rests_are at) (spread_is at)) in
    rw (spread_is at) (omega (arith, small))

pub change_credits-requires-clause-room : goal.change_credits-requires-clause-room
change_credits-requires-clause-room c =
    let at = (goal.at.change_credits-requires-clause-room c).After-bring_rests in
    rw c.write_rests.ensures.credits (λ g.
    let room = turn_room c.args.set.now c.requires.turn.0 c.requires.turn.1 c.args.moved.now c.args.i (credited_of c.self.inside) g c.limits.ensures (were at) in
    omega (arith, room))

pub returns-clause-turn : goal.returns-clause-turn
returns-clause-turn c =
    λ g was now.
    let at = (goal.at.returns-clause-turn c).After-bring_rests in
    let formed = (goal.at.returns-clause-turn c).After-form_spread-credits in
    let set' = c.args.set.now in
    let rows = c.self.inside.numbers in
    let written = c.write_rests.new.numbers in
    let changed = c.change_credits.new.numbers in
    let are = subst (λ (r : Credited). IsAtTurn set' g was c.args.moved.now c.args.i r) (sym c.self.view_is) now in
    let marks = rw (spread_is at, kept_is at) at c.mark_moved.ensures in
    let rests_long : length (rests_in written) ≡ length (rests_in rows) = length-map written (λ (n : CommodityNumbers). n.rest) ∙ c.write_rests.ensures.long ∙ sym (length-map rows (λ (n : CommodityNumbers). n.rest)) in
    let credits_long : length (credits_in changed) ≡ length (credits_in rows) = length-map changed (λ (n : CommodityNumbers). n.credit) ∙ c.change_credits.ensures.long ∙ c.write_rests.ensures.long ∙ sym (length-map rows (λ (n : CommodityNumbers). n.credit)) in
    let rests = rw (spread_is at) at c.write_rests.ensures.rests in
    let moved = rw (c.write_rests.ensures.credits, spread_is at, kept_is at) at c.change_credits.ensures.moved in
    rw (c.change_credits.ensures.numbers.0 ∙ c.write_rests.ensures.numbers.0, c.change_credits.ensures.numbers.1 ∙ c.write_rests.ensures.numbers.1, c.change_credits.ensures.rests, c.change_credits.ensures.kept) (turn_reworked set' g was c.args.moved.now c.mark_moved.new.moved c.args.i (credited_of c.self.inside) (rests_in written) (credits_in changed) (own formed) are c.requires.inside (own_is formed (long at) (rests_are at) (spread_is at)) marks rests_long rests credits_long moved)

pub returns-clause-others : goal.returns-clause-others
returns-clause-others c =
    λ k out.
    let at = (goal.at.returns-clause-others c).After-bring_rests in
    let moved = rw (c.write_rests.ensures.credits, spread_is at, kept_is at) at c.change_credits.ensures.moved in
    let legs = legs_of (credit_spread_at c.args.set.now.credits c.args.i) in
    let same = turn_others legs (kept_at c.self.inside.kept c.args.i).credits c.form_spread-credits.result (credits_in c.change_credits.new.numbers) (credits_in c.self.inside.numbers) k (moved k) out in
    subst (λ (r : Credited). slice_index (credits_in c.change_credits.new.numbers) k ≡ slice_index r.credits k) c.self.view_is same

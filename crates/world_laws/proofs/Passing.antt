-- The worked example, by computation of the definitions.
use Rattle.std.proofs.Common.{◌≡◌, pos, None, Some, [], ◌∷◌, length, map, refl, replicate, true, false}
use Rattle.mgn_machine.specs.declared.reply.Refusal.TheVariants.{NoRoom}
use Rattle.mgn_machine.specs.declared.reply.Reply.TheVariants.{Done, NewSet, Refused}
use Rattle.mgn_machine.specs.Holding.{hold_places}
use Rattle.mgn_machine.specs.NewSet.{covers, is_on_call, set_fits}
use Rattle.mgn_machine.specs.Refusals.{contract_of, home_of, open_home, origin_fits, place_of, post_place, refuse_if}
use Rattle.mgn_machine.specs.Room.{least, requirement_of, worth_of}
use Rattle.mgn_unit.specs.Rows.{portfolio_of}
use Rattle.mgn_span.specs.Deltas.{starts_from}
use Rattle.mgn_span.specs.Requirement.{credits, intra_charge, requirement, risk, spot_charge}
use Rattle.mgn_span.specs.Scan.{active}
use Rattle.mgn_world.specs.declared.phases.Phase.TheVariants.{Failed, Idle, Looked}
use Rattle.mgn_world.specs.World.{World, lock_at, opening, phase_at, run}
use Rattle.world_laws.specs.Example.{call, future, looked_again, over, passed, refused, set_of, stale, view}

-- the commit is stale: the call keeps its unit, and has no answer
pub is_stale : (phase_at (run (opening (set_of 300)) stale) 0 ≡ Failed (call 0 1) (view 0) true) × (length (run (opening (set_of 300)) stale).history ≡ 4) × (lock_at (run (opening (set_of 300)) stale) 0 ≡ Some 0)
unfolding future set_of passed stale looked_again refused over hold_places covers is_on_call set_fits contract_of home_of open_home origin_fits place_of post_place refuse_if least requirement_of worth_of portfolio_of starts_from credits intra_charge requirement risk spot_charge active
is_stale = (refl, refl, refl)

pub looks_again : phase_at (run (opening (set_of 300)) looked_again) 0 ≡ Looked (call 0 2) (view 1)
unfolding future set_of passed stale looked_again refused over hold_places covers is_on_call set_fits contract_of home_of open_home origin_fits place_of post_place refuse_if least requirement_of worth_of portfolio_of starts_from credits intra_charge requirement risk spot_charge active
looks_again = refl

pub is_refused : phase_at (run (opening (set_of 300)) refused) 0 ≡ Failed (call 0 2) (view 1) false
unfolding future set_of passed stale looked_again refused over hold_places covers is_on_call set_fits contract_of home_of open_home origin_fits place_of post_place refuse_if least requirement_of worth_of portfolio_of starts_from credits intra_charge requirement risk spot_charge active
is_refused = refl

-- all that is left
abbrev pub Left : World → Type 0
Left w = (w.phases ≡ replicate 16 Idle) × (w.locks ≡ None ∷ [])
    × (map (λ e. e.reply) w.history ≡ Done ∷ Done ∷ Done ∷ NewSet record { version = 1; on_call = 0 } ∷ Refused NoRoom ∷ [])
    × (map (λ e. e.session) w.history ≡ 1 ∷ 1 ∷ 1 ∷ 2 ∷ 1 ∷ [])
    × (w.desks ≡ Some record { version = 1; nets = record { lots = pos 0 ∷ []; buys = pos 0 ∷ []; sales = pos 0 ∷ []; all = pos 0 ∷ [] } } ∷ [])

pub is_over : Left (run (opening (set_of 300)) over)
unfolding future set_of passed stale looked_again refused over hold_places covers is_on_call set_fits contract_of home_of open_home origin_fits place_of post_place refuse_if least requirement_of worth_of portfolio_of starts_from credits intra_charge requirement risk spot_charge active
is_over = (refl, refl, refl, refl, refl)

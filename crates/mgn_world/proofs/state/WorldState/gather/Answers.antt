use Rattle.std.proofs.Common.{◌<◌, ◌∙◌, arith, ap, length, false, List, map, replicate, refl}
use Rattle.mgn_unit.specs.declared.row.Row.{Row}
use Rattle.mgn_unit.specs.Rows.{nets_in}
use Rattle.mgn_world.specs.declared.phases.Phase.TheVariants.{Gathered, Idle}
use Rattle.mgn_world.proofs.Entered.{gathered_sound, gathers_is, gathers_not}
use Rattle.mgn_world.specs.World.{phase_at}
use Rattle.mgn_world.specs.Worlds.{shown}
use Rattle.mgn_world.proofs.Sounds.{after_sound, at_phase}
use Rattle.mgn_world.proofs.state.WorldState.gather.Goals as goal

pub returns-clause-step : goal.returns-clause-step
returns-clause-step c =
    let inside : c.args.place < length c.args.self.now.phases.items = omega (arith, c.requires.place, c.requires.sound.sixteen) in
    let is = at_phase c.args.self.now.phases.items c.args.place c.index.result.now Idle inside c.index.ensures c.in-Idle.is in
    let of = c.in_ok-gathering.ensures ∙ ap (λ (rows : List Row). record { set = c.args.set; version = c.version.result; nets = map nets_in rows; prepared = replicate (length rows) false }) c.rows.ensures in
    gathers_is c.args.self.now c.args.place c.args.set c.version.result c.in_ok-gathering.gathering c.set_phase.new.phases.items c.requires.sound is c.version.ensures of c.set_phase.ensures

pub returns-clause-sound : goal.returns-clause-sound
returns-clause-sound c =
    let of = c.in_ok-gathering.ensures ∙ ap (λ (rows : List Row). record { set = c.args.set; version = c.version.result; nets = map nets_in rows; prepared = replicate (length rows) false }) c.rows.ensures in
    after_sound c.args.self.now record { shelf = c.args.self.now.shelf; book = c.args.self.now.book; desks = c.args.self.now.desks; locks = c.args.self.now.locks; phases = c.set_phase.new.phases } c.args.place (Gathered c.in_ok-gathering.gathering)
    c.requires.sound refl c.requires.sound.book refl (gathered_sound c.args.self.now c.args.set c.version.result c.in_ok-gathering.gathering c.requires.sound c.version.ensures of) c.set_phase.ensures

pub returns-in_default : goal.returns-in_default
returns-in_default c =
    let inside : c.args.place < length c.args.self.now.phases.items = omega (arith, c.requires.place, c.requires.sound.sixteen) in
    let is = at_phase c.args.self.now.phases.items c.args.place c.index.result.now c.index.result.now inside c.index.ensures refl in
    record {
      step = gathers_not (shown c.args.self.now) c.args.place c.args.set c.index.result.now (phase_at (shown c.args.self.now) c.args.place) is c.in_default.not-Idle;
      sound = c.requires.sound;
    }

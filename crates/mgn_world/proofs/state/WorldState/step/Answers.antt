use Rattle.std.proofs.Common.{◌≡◌, ◌<◌, ◌≤◌, ◌∙◌, suc, ap, arith, length}
use Rattle.std.proofs.lemmas.Result.{on_ok_weaker}
use Rattle.mgn_world.specs.declared.phases.Deed.TheVariants.{Gather}
use Rattle.mgn_params.specs.Tables.{Tables}
use Rattle.mgn_world.specs.World.{does}
use Rattle.mgn_world.specs.Worlds.{shown}
use Rattle.mgn_world.proofs.Ran.{stays_out, stepped_as}
use Rattle.mgn_world.proofs.state.WorldState.step.Goals as goal

pub returns-in-Gather-clause-next : goal.returns-in-Gather-clause-next
returns-in-Gather-clause-next c =
    let session : c.args.step.session ≡ suc c.in-Some.place = omega (arith, c.in-Some.ensures) in
    let inside : c.in-Some.place < length c.args.self.now.phases.items = omega (arith, c.if-place-len.false, c.len.ensures, c.args.self.now.phases.ok) in
    on_ok_weaker c.gather.result
    (λ is. stepped_as (shown c.args.self.now) (shown c.gather.new.self) c.args.step c.in-Some.place (Gather c.in-Gather.set) session c.in-Gather.is inside
    (is ∙ ap (λ (t : Tables). does (shown c.args.self.now) c.in-Some.place (Gather t)) c.in-Gather.set-is))
    c.gather.ensures.step

pub returns-then-place-len-clause-next : goal.returns-then-place-len-clause-next
returns-then-place-len-clause-next c =
    let session : c.args.step.session ≡ suc c.in-Some.place = omega (arith, c.in-Some.ensures) in
    let outside : length c.args.self.now.phases.items ≤ c.in-Some.place = omega (arith, c.if-place-len.true, c.len.ensures, c.args.self.now.phases.ok) in
    stays_out (shown c.args.self.now) c.args.step c.in-Some.place session outside

use Rattle.std.proofs.Common.{◌≡◌, ◌<◌, ◌∙◌, arith, ap, List, length, subst, sym, true}
use Rattle.std.specs.Prelude.{nat_lt, slice_index_or}
use Rattle.std.proofs.lemmas.Bool.Decides.{nat_tests}
use Rattle.mgn_params.specs.Tables.{Tables}
use Rattle.mgn_nets.specs.Portfolios.{AreUnitNets, UnitNets}
use Rattle.mgn_unit.specs.NewSets.{IsPrepared, is_unit_covered}
use Rattle.mgn_world.specs.Phases.{Gathering}
use Rattle.mgn_world.specs.World.{prepared_more}
use Rattle.mgn_world.proofs.Gathered.{copied_of, one_more, prepared_is}
use Rattle.mgn_world.proofs.phases.Gathering.prepare.Goals as goal

pub is_unit_covered-requires : goal.is_unit_covered-requires
is_unit_covered-requires c =
    copied_of c.args.old.now c.deref.result.now c.args.self.now.nets c.args.unit c.in-Some.nets.now c.in-Some.ensures.lookup.0 c.in-Some.ensures.lookup.1 (c.deref.ensures.value ∙ ap (λ (g : Gathering). g.nets) c.self.view_is) c.requires.nets

pub prepare-requires : goal.prepare-requires
prepare-requires c =
    subst (λ (t : Tables). AreUnitNets t c.in-Some.nets.now) (sym c.in_ok-switch.ensures.old)
    (copied_of c.args.old.now c.deref.result.now c.args.self.now.nets c.args.unit c.in-Some.nets.now c.in-Some.ensures.lookup.0 c.in-Some.ensures.lookup.1 (c.deref.ensures.value ∙ ap (λ (g : Gathering). g.nets) c.self.view_is) c.requires.nets)

pub invariant_of-self : goal.invariant_of-self
invariant_of-self c =
    let there : true ≡ nat_lt c.args.unit (length c.self.inside.nets.items) = c.in-Some.ensures.lookup.0 ∙ ap (λ (xs : List UnitNets). nat_lt c.args.unit (length xs)) c.deref.ensures.value in
    let inside : c.args.unit < length c.self.inside.nets.items = grind (arith, nat_tests) in
    one_more c.self.inside.set c.self.inside.nets.items c.self.inside.prepared.items c.args.unit c.in_ok-prepared.prepared c.self.invariant
    (subst (λ (t : Tables). IsPrepared t c.in_ok-prepared.prepared) c.in_ok-switch.ensures.new c.in_ok-prepared.ensures.prepared) inside

pub returns : goal.returns
returns c =
    let there : true ≡ nat_lt c.args.unit (length c.self.inside.nets.items) = c.in-Some.ensures.lookup.0 ∙ ap (λ (xs : List UnitNets). nat_lt c.args.unit (length xs)) c.deref.ensures.value in
    let inside : c.args.unit < length c.self.inside.nets.items = grind (arith, nat_tests) in
    let own : c.in-Some.nets.now ≡ slice_index_or c.self.inside.nets.items c.args.unit c.in-Some.nets.now = c.in-Some.ensures.lookup.1 ∙ ap (λ (xs : List UnitNets). slice_index_or xs c.args.unit c.in-Some.nets.now) c.deref.ensures.value in
    prepared_is c.args.old.now c.self.inside.set c.self.inside.version c.args.unit c.self.inside.nets.items c.self.inside.prepared.items c.in-Some.nets.now c.in_ok-prepared.prepared there inside
    (c.if-not-is_unit_covered.ensures ∙ ap (is_unit_covered c.args.old.now c.self.inside.set) own)
    ∙ ap (prepared_more c.args.old.now c.args.unit) c.self.view_is

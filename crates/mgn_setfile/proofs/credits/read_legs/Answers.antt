use Rattle.std.proofs.Common.{arith, rules, refl, sym, length, map, ◌≡◌, ◌-◌, ◌++◌, [], ◌∷◌, ◌∙◌, Bor, List, ℕ}
use Rattle.std.proofs.lemmas.List.{length-map}
use Rattle.mgn_setfile.proofs.LegLemmas.{legs_end, legs_step}
use Rattle.mgn_setfile.proofs.credits.read_legs.Goals as goal

pub returns-clause-ok : goal.returns-clause-ok
returns-clause-ok c =
    c.loop-rest.invariant.so_far ∙ legs_end c.args.set.now c.loop-rest.before c.loop-rest.legs.items (map (λ (s : Bor (List ℕ)). s.now) c.loop-rest.rest.now) (omega (arith, c.in_default.len_below, length-map c.loop-rest.rest.now (λ (s : Bor (List ℕ)). s.now)))

pub loop-rest-preserved : goal.loop-rest-preserved
loop-rest-preserved c =
    let pushed : c.push.new.self.items ≡ c.loop-rest.legs.items ++ c.in_ok-leg.leg ∷ [] = search rules in
    let leg = sym c.read_leg.ensures.value ∙ c.in_ok-leg.was in
    let step = legs_step c.args.set.now c.loop-rest.before (length c.loop-rest.rest.now - 3) c.loop-rest.legs.items c.loop-rest.rest.now _ c.in_ok-leg.leg (omega arith) refl leg in
    record {
      so_far = c.loop-rest.invariant.so_far ∙ rw pushed step;
      bound = search rules;
      before = search rules;
      count = search rules;
    }

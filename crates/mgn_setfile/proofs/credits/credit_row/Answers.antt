use Rattle.std.proofs.Common.{rules, [], map, ◌∙◌, sym}
use Rattle.mgn_params.specs.declared.tables.Leg.{Leg}
use Rattle.mgn_params.specs.Tables.{legs_of}
use Rattle.mgn_setfile.proofs.LegLemmas.{all_differ}
use Rattle.mgn_setfile.proofs.credits.credit_row.Goals as goal

pub returns-clause-next : goal.returns-clause-next
returns-clause-next c =
    let apart = all_differ [] (map (λ (leg : Leg). leg.commodity) (legs_of c.args.spread.now)) (sym c.repeat_place.ensures.place ∙ c.in_default.is) in
    record {
      limits = record {
        rate = c.requires.rate;
        some = c.requires.some;
        few = c.requires.few;
        legs = c.requires.legs;
        apart = apart;
        side_a = c.requires.side_a;
        side_b = c.requires.side_b;
      };
      few = search rules;
    }

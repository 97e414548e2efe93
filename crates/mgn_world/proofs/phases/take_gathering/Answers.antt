use Rattle.std.proofs.Common.{◌∙◌, ap}
use Rattle.std.specs.Prelude.{slice_set}
use Rattle.std.proofs.lemmas.List.{set-get_or, set-set}
use Rattle.mgn_pricing.proofs.Fitting.{default-is}
use Rattle.mgn_world.specs.declared.phases.Phase.{Phase}
use Rattle.mgn_world.specs.declared.phases.Phase.TheVariants.{Idle}
use Rattle.mgn_world.proofs.phases.take_gathering.Goals as goal

pub returns-in_default : goal.returns-in_default
returns-in_default c =
    let own = c.replace.ensures.value ∙ c.index_mut.ensures.value in
    record {
      taken = λ g e. absurd (c.in_default.not-Gathered g (own ∙ default-is c.args.phases.now.items c.args.place c.index_mut.result.now Idle c.requires ∙ e));
      other = λ none.
          c.set_phase.ensures ∙ set-set c.args.phases.now.items c.args.place c.replace.new.dest c.replace.result
          ∙ ap (λ (st : Phase). slice_set c.args.phases.now.items c.args.place st) own
          ∙ set-get_or c.args.phases.now.items c.args.place c.index_mut.result.now;
      found = tt;
    }

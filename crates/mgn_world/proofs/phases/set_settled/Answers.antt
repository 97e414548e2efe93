use Rattle.std.proofs.Common.{◌∙◌, ap}
use Rattle.std.specs.Prelude.{slice_set}
use Rattle.mgn_pricing.proofs.Fitting.{default-is}
use Rattle.mgn_world.specs.declared.phases.Phase.{Phase}
use Rattle.mgn_world.specs.declared.phases.Phase.TheVariants.{Idle}
use Rattle.std.proofs.lemmas.List.{set-set}
use Rattle.mgn_world.proofs.phases.set_settled.Goals as goal

pub returns : goal.returns
returns c = λ k l is.
    c.set_phase.ensures ∙ set-set c.args.phases.now.items c.args.place c.replace-phase.new.dest c.settled.result
    ∙ ap (λ (x : Phase). slice_set c.args.phases.now.items c.args.place x) (c.settled.ensures k l (c.replace-phase.ensures.value ∙ c.index_mut.ensures.value ∙ default-is c.args.phases.now.items c.args.place c.index_mut.result.now Idle c.requires ∙ is))

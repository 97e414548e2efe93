use Rattle.std.proofs.Common.{arith}
use Rattle.mgn_params.specs.declared.tables.Class.{Class}
use Rattle.mgn_params.proofs.NameLemmas.{new_at}
use Rattle.mgn_params.proofs.set.copies.places_of_classes.Goals as goal

pub push-requires : goal.push-requires
push-requires c =
    let new = new_at (λ (x : Class). x.name) c.args.classes.now c.loop-row.row-index c.row-item.result (omega arith) c.requires in
    rw c.loop-row.invariant (rw (← c.row-item.is) at new)

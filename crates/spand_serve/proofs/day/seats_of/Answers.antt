use Rattle.std.proofs.Common.{arith, ◌∙◌}
use Rattle.std.proofs.lemmas.List.{length_push}
use Rattle.std.proofs.lemmas.List.Elements.{All-push}
use Rattle.spand_serve.specs.Served.{IsFresh}
use Rattle.spand_serve.proofs.day.seats_of.Goals as goal

pub loop-source-preserved : goal.loop-source-preserved
loop-source-preserved g c =
    let push = c.push_reserved.ensures in let fresh = c.in-Some-pass.ensures in (
      rw push.items (All-push (λ seat. IsFresh seat.0) c.loop-source.seats.items (c.new-seat.result, c.in-Some.source) c.loop-source.invariant.0
          (fresh.0, c.new-seat.ensures ∙ fresh.1)),
      omega (arith, push.len, c.loop-source.invariant.1, length_push c.loop-source.yielded c.in-Some.source),
      omega (arith, push.capacity, c.loop-source.invariant.2),
    )

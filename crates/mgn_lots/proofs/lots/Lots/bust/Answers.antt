use Rattle.std.proofs.Common.{◌≡◌, ◌<◌, List, sym, ap, subst, rules, arith, length, get_or, set, length-set}
use Rattle.std.proofs.lemmas.List.Elements.{All-set}
use Rattle.std.proofs.Math.Seq.{map-set_same}
use Rattle.mgn_lots.specs.declared.lot.Lot.{Lot}
use Rattle.mgn_lots.specs.Lots.{IsLot, busted, numbers_of}
use Rattle.mgn_lots.specs.Kept.{KeepsNumbers}
use Rattle.mgn_lots.proofs.lots.Lots.bust.Goals as goal

pub invariant_of-self : goal.invariant_of-self
invariant_of-self c =
    let lots : List Lot = c.self.inside.lots.items in
    let lot : Lot = c.index_mut.result.now in
    let inside : c.args.place < length lots = search rules in
    let at : lot ≡ get_or lots c.args.place lot = c.index_mut.ensures.value in
    let limits : IsLot lot = subst IsLot (sym at) (c.self.invariant.limits c.args.place lot inside) in
    let same : numbers_of (set lots c.args.place (busted lot)) ≡ numbers_of lots =
    map-set_same (λ (x : Lot). x.number) lots c.args.place (busted lot) lot (ap (λ (x : Lot). x.number) at)
    in
    record {
      numbers = subst (λ all. KeepsNumbers all c.self.inside.rising c.self.inside.numbers.keys) (sym same) c.self.invariant.numbers;
      limits = All-set IsLot lots c.args.place (busted lot) record { some = limits.some; most = limits.most; premium = limits.premium } c.self.invariant.limits;
      few = omega (arith, c.self.invariant.few, length-set {A = Lot});
      room = λ reserved.
          let free = c.self.invariant.room reserved in
          record { lots_fit = omega (arith, free.lots_fit, length-set {A = Lot}); numbers_fit = free.numbers_fit };
    }

use Rattle.std.proofs.Common.{◌≡◌, ◌<◌, ℕ, List, [], ◌∷◌, ◌++◌, sym, ap, ◌∙◌, subst, rules, arith, false, true≢false, length, length-append, nat_eq, nat_le, All}
use Rattle.std.proofs.lemmas.List.Elements.{All-push}
use Rattle.std.proofs.lemmas.Bool.Decides.{nat_tests}
use Rattle.indexmap.specs.IndexSet.{spare, insert_key}
use Rattle.mgn_lots.specs.declared.lot.Lot.{Lot}
use Rattle.mgn_lots.specs.declared.lots.Lots.TheInside.{Inside}
use Rattle.mgn_lots.specs.Lots.{IsLot, numbers_of, has_number}
use Rattle.mgn_lots.specs.Kept.{KeepsNumbers}
use Rattle.mgn_lots.proofs.Rising.{more-rises, more-behind}
use Rattle.mgn_lots.proofs.lots.Lots.add_reserved.Goals.{then-self-len+then-is_above, else-self-len}
use Rattle.mgn_lots.proofs.lots.Lots.add_reserved.Goals as goal

pub invariant_of-self : goal.invariant_of-self
invariant_of-self c =
    let lots : List Lot = c.self.inside.lots.items in
    let lot : Lot = c.args.lot.now in
    let rising : ℕ = c.self.inside.rising in
    let behind : List ℕ = c.self.inside.numbers.keys in
    let items : Inside → List Lot = λ s. s.lots.items in
    let same : c.if-self-len.self-inside.lots.items ≡ lots =
    elim c.if-self-len.branch [ then-self-len+then-is_above w ↦ ap items w.self-inside-is | else-self-len w ↦ ap items w.self-inside-is ]
    in
    let spent : c.if-self-len.self-inside.reserved ≡ false =
    elim c.if-self-len.branch [
      | then-self-len+then-is_above w ↦ ap (λ (s : Inside). s.reserved) w.self-inside-is
      | else-self-len w ↦ ap (λ (s : Inside). s.reserved) w.self-inside-is
    ]
    in
    let pushed : c.push_reserved.new.self.items ≡ lots ++ lot ∷ [] = c.push_reserved.ensures.items ∙ ap (λ (xs : List Lot). xs ++ lot ∷ []) same in
    let short : nat_le 65536 (length lots) ≡ false = search rules in
    let below : length lots < 65536 = grind (arith, nat_tests) in
    let fresh : has_number lots lot.number ≡ false = search rules in
    let room : 0 < spare c.self.inside.numbers = search rules in
    let kept : KeepsNumbers (numbers_of (lots ++ lot ∷ [])) c.if-self-len.self-inside.rising c.if-self-len.self-inside.numbers.keys =
    elim c.if-self-len.branch [
      | then-self-len+then-is_above w ↦
          let full : rising ≡ length lots = search rules in
          let above : All (λ n. n < lot.number) (numbers_of lots) =
          subst (λ (xs : List Lot). All (λ n. n < lot.number) (numbers_of xs)) w.deref.ensures.value (rw w.lot.ensures at (w.is_above.ensures.0 (search rules)))
          in
          rw w.self-inside-is (more-rises lots rising behind c.self.invariant.numbers lot full above)
      | else-self-len w ↦
          let inserted : w.insert.new.self.keys ≡ insert_key nat_eq behind lot.number = search (rules, w.insert.ensures.succeeds room) in
          rw (w.self-inside-is, inserted) (more-behind lots rising behind c.self.invariant.numbers lot fresh)
    ]
    in
    record {
      numbers = subst (λ (xs : List Lot). KeepsNumbers (numbers_of xs) c.if-self-len.self-inside.rising c.if-self-len.self-inside.numbers.keys) (sym pushed) kept;
      limits = subst (All IsLot) (sym pushed) (All-push IsLot lots lot c.self.invariant.limits c.requires.limits);
      few = omega (arith, below, ap (length {A = Lot}) pushed, length-append lots (lot ∷ []));
      room = λ reserved. absurd (true≢false (sym reserved ∙ spent));
    }

use Rattle.std.proofs.Common.{◌≡◌, ◌+◌, ◌<◌, ◌≤◌, ◌/◌, ◌∙◌, ap, arith, get_or, length, subst, sym, List, ℤ, ℕ}
use Rattle.std.specs.Vec.{vec_capacity}
use Rattle.std.proofs.lemmas.Bool.Decides.{Decides-eqb}
use Rattle.mgn_nets.specs.Pages.{ArePages, cell, listed}
use Rattle.mgn_nets.proofs.Paged.{cell-as, cells-same, lists-same, page-inside, row-long}
use Rattle.mgn_nets.proofs.nets.Nets.is_same.Goals as goal

pub are_same-requires-clause-owned : goal.are_same-requires-clause-owned
are_same-requires-clause-owned c = λ i past within.
    subst (λ (xs : List ℕ). (page : ℕ) × (get_or xs page 0 ≤ i) × (i < get_or xs page 0 + 16)) (sym c.deref.ensures.value)
    (c.self.invariant.pages.owned i past (omega (arith, within, ap length c.deref-then-self-other.ensures.value)))

pub returns-then-self-other : goal.returns-then-self-other
returns-then-self-other c = (
  λ is.
      sym c.self.view_is
      ∙ lists-same c.self.inside.count c.self.inside.starts.items c.self.inside.cells.items c.other.inside.starts.items c.other.inside.cells.items (λ k within. each k (c.are_same.ensures.0 is k (lent k within)))
      ∙ other
      ∙ c.other.view_is,
  λ same.
      c.are_same.ensures.1 (λ k inside.
      cell-as c.self.inside.starts.items c.deref.result.now c.self.inside.cells.items c.deref-then-self-other.result.now c.deref.ensures.value c.deref-then-self-other.ensures.value k
      ∙ cells-same c.self.inside.count c.self.inside.starts.items c.self.inside.cells.items c.other.inside.starts.items c.other.inside.cells.items (vec_capacity c.self.inside.cells) (vec_capacity c.other.inside.cells) c.self.invariant.pages (subst (λ (n : ℕ). ArePages n c.other.inside.starts.items c.other.inside.cells.items (vec_capacity c.other.inside.cells)) (sym c.if-self-other.true) c.other.invariant.pages) (c.self.view_is ∙ same ∙ sym c.other.view_is ∙ sym other) k
      ∙ sym (there k)),
)
  where
    other : listed c.self.inside.count c.other.inside.starts.items c.other.inside.cells.items ≡ listed c.other.inside.count c.other.inside.starts.items c.other.inside.cells.items
    other = ap (λ (n : ℕ). listed n c.other.inside.starts.items c.other.inside.cells.items) c.if-self-other.true

    there : (k : ℕ) → cell c.deref-then-self-other-2.result.now c.deref-then-self-other-3.result.now k ≡ cell c.other.inside.starts.items c.other.inside.cells.items k
    there k = cell-as c.other.inside.starts.items c.deref-then-self-other-2.result.now c.other.inside.cells.items c.deref-then-self-other-3.result.now c.deref-then-self-other-2.ensures.value c.deref-then-self-other-3.ensures.value k

    each : (k : ℕ) → cell c.deref.result.now c.deref-then-self-other.result.now k ≡ cell c.deref-then-self-other-2.result.now c.deref-then-self-other-3.result.now k → cell c.self.inside.starts.items c.self.inside.cells.items k ≡ cell c.other.inside.starts.items c.other.inside.cells.items k
    each k is =
        sym (cell-as c.self.inside.starts.items c.deref.result.now c.self.inside.cells.items c.deref-then-self-other.result.now c.deref.ensures.value c.deref-then-self-other.ensures.value k) ∙ is ∙ there k

    lent : (k : ℕ) → k < c.self.inside.count → k / 16 < length c.deref.result.now
    lent k within =
        omega (arith, ap length c.deref.ensures.value, page-inside c.self.inside.count c.self.inside.starts.items c.self.invariant.pages.pages k within)

pub returns-else-self-other : goal.returns-else-self-other
returns-else-self-other c = (
  λ is. absurd (c.if-self-other.false ((Decides-eqb c.self.inside.count c.other.inside.count).0 is)),
  λ same.
      absurd (c.if-self-other.false (
      sym (row-long c.self.inside.count c.self.inside.starts.items c.self.inside.cells.items c.args.self.now c.self.view_is)
      ∙ ap (λ (xs : List ℤ). length xs) same
      ∙ row-long c.other.inside.count c.other.inside.starts.items c.other.inside.cells.items c.args.other.now c.other.view_is
      )),
)

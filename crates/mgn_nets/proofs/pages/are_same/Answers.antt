use Rattle.std.proofs.Common.{◌≡◌, ◌≢◌, ◌*◌, ◌+◌, ◌<◌, ◌≤◌, ◌/◌, ◌%◌, ◌∙◌, ap, arith, get_or, refl, sym, length, ℕ, ⊎_elim}
use Rattle.std.proofs.lemmas.Bool.{cases_eq, cases_lt}
use Rattle.std.proofs.lemmas.Nat.{div-mul-add}
use Rattle.mgn_span.specs.Scan.{value_at}
use Rattle.mgn_nets.specs.Pages.{cell}
use Rattle.mgn_nets.specs.PageSets.{has_page}
use Rattle.mgn_nets.proofs.Paged.{cell-as, cell-in, cells-one, offset}
use Rattle.mgn_nets.proofs.pages.are_same.Goals as goal
use Rattle.mgn_nets.proofs.pages.are_same.Goals.{After-next-page}

pub returns-then-are_same_starts : goal.returns-then-are_same_starts
returns-then-are_same_starts c = (
  λ is k within.
      cell-as c.args.other_starts.now c.args.starts.now c.args.others.now c.args.cells.now starts (c.are_same_cells.ensures.0 is) k,
  λ each.
      c.are_same_cells.ensures.1
      (cells-one c.args.starts.now c.args.cells.now c.args.others.now c.if-cells-others.true c.requires.zero c.requires.owned
      (λ k within. each k within ∙ cell-as c.args.starts.now c.args.other_starts.now c.args.others.now c.args.others.now (sym starts) refl k)),
)
  where
    starts : c.args.starts.now ≡ c.args.other_starts.now
    starts = c.are_same_starts.ensures.0 c.if-are_same_starts.true

pub returns-then-not-is_same_page : goal.returns-then-not-is_same_page
returns-then-not-is_same_page c = (
  λ no. cc,
  λ each. sym c.if-not-is_same_page.true ∙ c.is_same_page.ensures.1 (λ i small. same each i small),
)
  where
    same : ((k : ℕ) → k / 16 < length c.args.starts.now → cell c.args.starts.now c.args.cells.now k ≡ cell c.args.other_starts.now c.args.others.now k)
        → (i : ℕ) → i < 16 → value_at c.args.cells.now (c.from-start.result + i) ≡ value_at c.args.others.now (c.from-other.result + i)
    same each i small =
        ap (λ (s : ℕ). value_at c.args.cells.now (s + i)) c.from-start.ensures
        ∙ sym (cell-in c.args.starts.now c.args.cells.now c.loop-page.page i small)
        ∙ each (c.loop-page.page * 16 + i) (omega (arith, div-mul-add c.loop-page.page 16 i small, c.loop-page-test.true))
        ∙ cell-in c.args.other_starts.now c.args.others.now c.loop-page.page i small
        ∙ ap (λ (s : ℕ). value_at c.args.others.now (s + i)) (sym c.from-other.ensures)

-- a page that neither keeps
passed : (c : After-next-page) → (k : ℕ) → has_page c.args.kept.now.words (k / 16) ≡ 0 → cell c.args.starts.now c.args.cells.now k ≡ cell c.args.other_starts.now c.args.others.now k
passed c k none =
    ap (value_at c.args.cells.now) (omega (arith, c.requires.kept (k / 16) none))
    ∙ c.requires.zero (k % 16) (offset k)
    ∙ ap (value_at c.args.others.now) (omega (arith, c.requires.other_kept (k / 16) none))

pub loop-page-init : goal.loop-page-init
loop-page-init c = record {
  few = c.next-page.ensures.few;
  same = λ k less. passed c k (c.next-page.ensures.passed (k / 16) (omega arith) less);
}

pub loop-page-preserved : goal.loop-page-preserved
loop-page-preserved c = record {
  few = c.next-page-in-loop-page.ensures.few;
  same = λ k less.
      ⊎_elim
      (λ (before : k / 16 < c.loop-page.page). c.loop-page.invariant.same k before)
      (λ (from : c.loop-page.page ≤ k / 16).
      ⊎_elim
      (λ (own : k / 16 ≡ c.loop-page.page).
      ap (λ (s : ℕ). value_at c.args.cells.now (s + k % 16)) (ap (λ (p : ℕ). get_or c.args.starts.now p 0) own ∙ sym c.from-start.ensures)
      ∙ c.is_same_page.ensures.0 c.if-not-is_same_page.false (k % 16) (offset k)
      ∙ ap (λ (s : ℕ). value_at c.args.others.now (s + k % 16)) (c.from-other.ensures ∙ ap (λ (p : ℕ). get_or c.args.other_starts.now p 0) (sym own)))
      (λ (behind : k / 16 ≢ c.loop-page.page).
      passed (goal.at.loop-page-preserved c).After-next-page k (c.next-page-in-loop-page.ensures.passed (k / 16) (omega (arith, from, behind)) less))
      (cases_eq (k / 16) c.loop-page.page))
      (cases_lt (k / 16) c.loop-page.page);
}

use Rattle.std.proofs.Common.{◌≡◌, ◌∙◌, ◌+◌, ◌-◌, ◌/◌, ◌%◌, ◌^◌, ◌<◌, ◌≤◌, ℕ, ap, arith, get_or, rules, ⊎_elim}
use Rattle.std.specs.Int.{bit_at}
use Rattle.std.proofs.lemmas.Bool.{cases_lt}
use Rattle.std.proofs.lemmas.Nat.{div-add-mod'}
use Rattle.std.proofs.lemmas.Nat.Bits.{bit_at-zero}
use Rattle.mgn_nets.specs.PageSets.{has_page}
use Rattle.mgn_nets.proofs.PageSetBits.{bit-behind, bit-inside, bit-small}
use Rattle.mgn_nets.proofs.page_set.PageSet.next.Goals as goal
use Rattle.mgn_nets.proofs.page_set.PageSet.next.Goals.{After-lowest_bit}

-- the page found is of the same word
inside : (c : After-lowest_bit) → c.loop-page.page % 64 + c.lowest_bit.result < 64
inside c =
    let fits : get_or c.args.self.now.words (c.loop-page.page / 64) 0 < 2 ^ 64 = search rules in
    bit-inside (get_or c.args.self.now.words (c.loop-page.page / 64) 0) (c.loop-page.page % 64) c.lowest_bit.result fits c.lowest_bit.ensures.own

pub returns-then-rest-ne0-clause-few : goal.returns-then-rest-ne0-clause-few
returns-then-rest-ne0-clause-few c =
    omega (arith, inside (goal.at.returns-then-rest-ne0-clause-few c).After-lowest_bit, c.loop-page-test.true, div-add-mod' c.loop-page.page 64)

pub returns-then-rest-ne0-clause-has : goal.returns-then-rest-ne0-clause-has
returns-then-rest-ne0-clause-has c = λ low.
    bit-behind c.args.self.now.words c.loop-page.page c.lowest_bit.result (inside (goal.at.returns-then-rest-ne0-clause-has c).After-lowest_bit)
    ∙ c.lowest_bit.ensures.own

pub returns-then-rest-ne0-clause-passed : goal.returns-then-rest-ne0-clause-passed
returns-then-rest-ne0-clause-passed c = λ page low less.
    ⊎_elim
    (λ (before : page < c.loop-page.page). c.loop-page.invariant.passed page low before)
    (λ (behind : c.loop-page.page ≤ page).
    let i = page - c.loop-page.page in
    let there : page ≡ c.loop-page.page + i = omega (arith, behind) in
    let lower : i < c.lowest_bit.result = omega (arith, behind, less) in
    ap (has_page c.args.self.now.words) there
    ∙ bit-behind c.args.self.now.words c.loop-page.page i (omega (arith, lower, inside (goal.at.returns-then-rest-ne0-clause-passed c).After-lowest_bit))
    ∙ c.lowest_bit.ensures.lower i lower)
    (cases_lt page c.loop-page.page)

pub loop-page-preserved : goal.loop-page-preserved
loop-page-preserved c =
    let whole = div-add-mod' c.loop-page.page 64 in
    let small = bit-small c.loop-page.page in
    record {
      from = omega (arith, c.loop-page.invariant.from, whole, small);
      few = omega (arith, c.loop-page-test.true, whole);
      passed = λ page low less.
          ⊎_elim
          (λ (before : page < c.loop-page.page). c.loop-page.invariant.passed page low before)
          (λ (behind : c.loop-page.page ≤ page).
          let i = page - c.loop-page.page in
          let there : page ≡ c.loop-page.page + i = omega (arith, behind) in
          ap (has_page c.args.self.now.words) there
          ∙ bit-behind c.args.self.now.words c.loop-page.page i (omega (arith, behind, less, whole))
          ∙ ap (λ (n : ℕ). bit_at n i) c.if-rest-ne0.false
          ∙ bit_at-zero i)
          (cases_lt page c.loop-page.page);
    }

use Rattle.std.proofs.Common.{◌≡◌, ◌∙◌, ◌<◌, ap, arith, length, slice_index, subst, sym}
use Rattle.std.proofs.lemmas.List.{length-map}
use Rattle.mgn_inter.specs.declared.commodity_numbers.CommodityNumbers.{CommodityNumbers}
use Rattle.mgn_inter.specs.Columns.{credits_in}
use Rattle.mgn_inter.specs.CreditRows.{credited_of}
use Rattle.mgn_inter.specs.Credited.{AreCreditsOf}
use Rattle.mgn_inter.specs.Rows.{Credited}
use Rattle.mgn_inter.proofs.ColumnLemmas.{credit_at}
use Rattle.mgn_inter.proofs.inter.InterCredits.credited.Goals as goal
use Rattle.mgn_inter.proofs.inter.InterCredits.credited.Goals.{After-numbers_at, After-self}

are_credits : (c : After-self) → AreCreditsOf c.requires.0 (credited_of c.self.inside)
are_credits c = subst (λ (r : Credited). AreCreditsOf c.requires.0 r) (sym c.self.view_is) c.requires.1

inside : (c : After-self) → c.args.g < length c.self.inside.numbers
inside c =
    omega (arith, c.requires.2, (are_credits c).one_each, length-map c.self.inside.numbers (λ (n : CommodityNumbers). n.delta))

read : (c : After-numbers_at) → c.args.g < length c.self.inside.numbers → c.numbers_at.result.now.credit ≡ slice_index (credits_in c.self.inside.numbers) c.args.g
read c low = ap (λ (n : CommodityNumbers). n.credit) c.numbers_at.ensures ∙ credit_at c.self.inside.numbers c.args.g low

pub numbers_at-requires : goal.numbers_at-requires
numbers_at-requires c = inside c

pub returns-clause-small : goal.returns-clause-small
returns-clause-small c =
    let at = (goal.at.returns-clause-small c).After-self in
    omega (arith, read c (inside at), (are_credits at).small c.args.g)

pub returns-clause-value : goal.returns-clause-value
returns-clause-value c =
    let at = (goal.at.returns-clause-value c).After-self in
    subst (λ (r : Credited). c.numbers_at.result.now.credit ≡ slice_index r.credits c.args.g) c.self.view_is (read c (inside at))

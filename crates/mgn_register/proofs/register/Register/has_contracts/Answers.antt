use Rattle.std.proofs.Common.{ap, arith, get_or, length, sym}
use Rattle.std.proofs.lemmas.List.Sums.{list_all-from_AllPass}
use Rattle.mgn_unit.specs.NewSets.{is_covered}
use Rattle.mgn_unit.specs.declared.row.Row.{Row as UnitRow}
use Rattle.mgn_register.specs.BookStates.{BookState}
use Rattle.mgn_register.proofs.register.Register.has_contracts.Goals as goal

pub returns-then-has_all_contracts : goal.returns-then-has_all_contracts
returns-then-has_all_contracts c =
    sym (list_all-from_AllPass (λ (row : UnitRow). is_covered c.args.old.now c.args.new.now row.sizes) c.args.self.now.rows (λ k d h. c.has_all_contracts.ensures c.if-has_all_contracts.true (get_or c.args.self.now.rows k d).sizes))

pub returns : goal.returns
returns c = sym (list_all-from_AllPass (λ (row : UnitRow). is_covered c.args.old.now c.args.new.now row.sizes) c.args.self.now.rows (λ k d h. c.loop-unit.invariant k (omega (arith, h, ap (λ (f : BookState). length f.rows) c.self.view_is)) d))

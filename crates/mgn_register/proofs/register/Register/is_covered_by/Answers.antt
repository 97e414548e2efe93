use Rattle.std.proofs.Common.{◌∙◌, ap, refl, sym}
use Rattle.std.specs.List.{list_all}
use Rattle.std.specs.Prelude.{Bool, ◌&&◌}
use Rattle.mgn_coll.specs.Posted.{is_priced_by}
use Rattle.mgn_machine.specs.State.{AccountState}
use Rattle.mgn_register.proofs.Switches.{covered-by_parts}
use Rattle.mgn_register.proofs.register.Register.is_covered_by.Goals as goal

pub returns-then-has_contracts : goal.returns-then-has_contracts
returns-then-has_contracts c =
    ap (λ (b : Bool). b && c.has_classes.result) (sym c.if-has_contracts.true)
    ∙ covered-by_parts c.args.old.now c.args.new.now c.args.self.now c.has_contracts.result c.has_classes.result c.requires.kept c.has_contracts.ensures c.has_classes.ensures

pub returns-else-has_contracts : goal.returns-else-has_contracts
returns-else-has_contracts c =
    let priced : Bool = list_all (λ (a : AccountState). is_priced_by c.args.new.now.classes a.collateral) c.args.self.now.state.accounts in
    c.if-has_contracts.false
    ∙ ap (λ (b : Bool). b && priced) (sym c.if-has_contracts.false)
    ∙ covered-by_parts c.args.old.now c.args.new.now c.args.self.now c.has_contracts.result priced c.requires.kept c.has_contracts.ensures refl

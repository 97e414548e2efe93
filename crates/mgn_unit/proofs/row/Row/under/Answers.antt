use Rattle.std.proofs.Common.{◌∙◌, ap, subst, sym}
use Rattle.std.specs.Prelude.{IfSome, Option}
use Rattle.mgn_nets.specs.declared.portfolios.Portfolios.{Portfolios}
use Rattle.mgn_unit.specs.declared.row.PreparedPortfolio.{PreparedPortfolio}
use Rattle.mgn_unit.specs.NewSets.{IsPreparedPortfolio, PreparedUnit}
use Rattle.mgn_unit.proofs.Parts.{all-prepared, part-carried}
use Rattle.mgn_unit.proofs.row.Row.under.Goals as goal

pub returns-in_err-lots-clause-idle : goal.returns-in_err-lots-clause-idle
returns-in_err-lots-clause-idle c = λ ready.
    let lots = c.under.ensures.idle (part-carried (λ (it : PreparedUnit). it.lots) c.args.switch.now.old c.args.switch.now.new c.args.self.now c.args.self.now.lots.nets c.args.prepared c.parts_of-ready.result.lots (λ it are. are.lots) (ap (λ (parts : Portfolios (Option PreparedPortfolio)). parts.lots) c.parts_of-ready.ensures) ready) in
    lots

pub returns-in_err-buys-clause-idle : goal.returns-in_err-buys-clause-idle
returns-in_err-buys-clause-idle c = λ ready.
    let lots = c.under.ensures.idle (part-carried (λ (it : PreparedUnit). it.lots) c.args.switch.now.old c.args.switch.now.new c.args.self.now c.args.self.now.lots.nets c.args.prepared c.parts_of-ready.result.lots (λ it are. are.lots) (ap (λ (parts : Portfolios (Option PreparedPortfolio)). parts.lots) c.parts_of-ready.ensures) ready) in
    let buys = c.under_beside.ensures.idle (part-carried (λ (it : PreparedUnit). it.buys) c.args.switch.now.old c.args.switch.now.new c.args.self.now c.args.self.now.buys.nets c.args.prepared c.parts_of-ready.result.buys (λ it are. are.buys) (ap (λ (parts : Portfolios (Option PreparedPortfolio)). parts.buys) c.parts_of-ready.ensures) ready) in
    buys ∙ lots

pub returns-in_err-sales-clause-idle : goal.returns-in_err-sales-clause-idle
returns-in_err-sales-clause-idle c = λ ready.
    let lots = c.under.ensures.idle (part-carried (λ (it : PreparedUnit). it.lots) c.args.switch.now.old c.args.switch.now.new c.args.self.now c.args.self.now.lots.nets c.args.prepared c.parts_of-ready.result.lots (λ it are. are.lots) (ap (λ (parts : Portfolios (Option PreparedPortfolio)). parts.lots) c.parts_of-ready.ensures) ready) in
    let buys = c.under_beside.ensures.idle (part-carried (λ (it : PreparedUnit). it.buys) c.args.switch.now.old c.args.switch.now.new c.args.self.now c.args.self.now.buys.nets c.args.prepared c.parts_of-ready.result.buys (λ it are. are.buys) (ap (λ (parts : Portfolios (Option PreparedPortfolio)). parts.buys) c.parts_of-ready.ensures) ready) in
    let sales = c.under_beside-2.ensures.idle (part-carried (λ (it : PreparedUnit). it.sales) c.args.switch.now.old c.args.switch.now.new c.args.self.now c.args.self.now.sales.nets c.args.prepared c.parts_of-ready.result.sales (λ it are. are.sales) (ap (λ (parts : Portfolios (Option PreparedPortfolio)). parts.sales) c.parts_of-ready.ensures) ready) in
    sales ∙ buys ∙ lots

-- what was prepared of the last portfolio
pub under_beside-requires-3-clause-prepared : goal.under_beside-requires-3-clause-prepared
under_beside-requires-3-clause-prepared c =
    subst (λ (it : Option PreparedPortfolio). IfSome it (IsPreparedPortfolio c.args.switch.now.new)) (sym (ap (λ (parts : Portfolios (Option PreparedPortfolio)). parts.all) c.parts_of-ready.ensures)) (all-prepared c.args.switch.now.new c.args.prepared c.requires.prepared)

pub returns-in_err-all-clause-idle : goal.returns-in_err-all-clause-idle
returns-in_err-all-clause-idle c = λ ready.
    let lots = c.under.ensures.idle (part-carried (λ (it : PreparedUnit). it.lots) c.args.switch.now.old c.args.switch.now.new c.args.self.now c.args.self.now.lots.nets c.args.prepared c.parts_of-ready.result.lots (λ it are. are.lots) (ap (λ (parts : Portfolios (Option PreparedPortfolio)). parts.lots) c.parts_of-ready.ensures) ready) in
    let buys = c.under_beside.ensures.idle (part-carried (λ (it : PreparedUnit). it.buys) c.args.switch.now.old c.args.switch.now.new c.args.self.now c.args.self.now.buys.nets c.args.prepared c.parts_of-ready.result.buys (λ it are. are.buys) (ap (λ (parts : Portfolios (Option PreparedPortfolio)). parts.buys) c.parts_of-ready.ensures) ready) in
    let sales = c.under_beside-2.ensures.idle (part-carried (λ (it : PreparedUnit). it.sales) c.args.switch.now.old c.args.switch.now.new c.args.self.now c.args.self.now.sales.nets c.args.prepared c.parts_of-ready.result.sales (λ it are. are.sales) (ap (λ (parts : Portfolios (Option PreparedPortfolio)). parts.sales) c.parts_of-ready.ensures) ready) in
    let all = c.under_beside-3.ensures.idle (part-carried (λ (it : PreparedUnit). it.all) c.args.switch.now.old c.args.switch.now.new c.args.self.now c.args.self.now.all.nets c.args.prepared c.parts_of-ready.result.all (λ it are. are.all) (ap (λ (parts : Portfolios (Option PreparedPortfolio)). parts.all) c.parts_of-ready.ensures) ready) in
    all ∙ sales ∙ buys ∙ lots

pub returns-clause-idle : goal.returns-clause-idle
returns-clause-idle c = λ ready.
    let lots = c.under.ensures.idle (part-carried (λ (it : PreparedUnit). it.lots) c.args.switch.now.old c.args.switch.now.new c.args.self.now c.args.self.now.lots.nets c.args.prepared c.parts_of-ready.result.lots (λ it are. are.lots) (ap (λ (parts : Portfolios (Option PreparedPortfolio)). parts.lots) c.parts_of-ready.ensures) ready) in
    let buys = c.under_beside.ensures.idle (part-carried (λ (it : PreparedUnit). it.buys) c.args.switch.now.old c.args.switch.now.new c.args.self.now c.args.self.now.buys.nets c.args.prepared c.parts_of-ready.result.buys (λ it are. are.buys) (ap (λ (parts : Portfolios (Option PreparedPortfolio)). parts.buys) c.parts_of-ready.ensures) ready) in
    let sales = c.under_beside-2.ensures.idle (part-carried (λ (it : PreparedUnit). it.sales) c.args.switch.now.old c.args.switch.now.new c.args.self.now c.args.self.now.sales.nets c.args.prepared c.parts_of-ready.result.sales (λ it are. are.sales) (ap (λ (parts : Portfolios (Option PreparedPortfolio)). parts.sales) c.parts_of-ready.ensures) ready) in
    let all = c.under_beside-3.ensures.idle (part-carried (λ (it : PreparedUnit). it.all) c.args.switch.now.old c.args.switch.now.new c.args.self.now c.args.self.now.all.nets c.args.prepared c.parts_of-ready.result.all (λ it are. are.all) (ap (λ (parts : Portfolios (Option PreparedPortfolio)). parts.all) c.parts_of-ready.ensures) ready) in
    all ∙ sales ∙ buys ∙ lots

use Rattle.std.proofs.Common.{◌≡◌, ◌∙◌, ap, sym, rules, false, get_or, take}
use Rattle.std.specs.Prelude.{◌==◌}
use Rattle.std.specs.List.{list_any}
use Rattle.mgn_ledger.specs.Passes.{PassView}
use Rattle.mgn_ledger.proofs.Apart.{apart-more, apart-none}
use Rattle.mgn_ledger.proofs.ledger.Ledger.are_all.Goals as goal

pub loop-i-init : goal.loop-i-init
loop-i-init g c = apart-none

pub loop-i-preserved : goal.loop-i-preserved
loop-i-preserved g c =
    let passes = c.args.passes.now.items in
    let p = c.index.result.now in
    let same : p.session ≡ c.behind-passes.inside.session = ap (λ (q : PassView). q.session) (sym c.behind-passes.view_is) in
    let is : get_or passes c.loop-i.i p ≡ p = search rules in
    let told : list_any (λ (q : PassView). c.behind-passes.inside.session == q.session) (take c.loop-i.i passes) ≡ false = rw (← c.deref.ensures.value) (sym c.is_one_of.ensures ∙ c.if-is_one_of.false) in
    apart-more passes c.loop-i.i p (search rules) is c.loop-i.invariant (rw same told)

use Rattle.std.proofs.Common.{◌∙◌, ap, get_or, pos, set, sym, subst, List, ℤ}
use Rattle.std.specs.Prelude.{◌+ℤ◌}
use Rattle.mgn_num.specs.Amount.{IsQuantity}
use Rattle.mgn_nets.proofs.Paged.{listed-set, row-at, row-within}
use Rattle.mgn_nets.proofs.nets.Nets.add.Goals as goal

pub add_to-requires-clause-pages : goal.add_to-requires-clause-pages
add_to-requires-clause-pages c = (
  c.self.inside.count,
  row-within c.self.inside.count c.self.inside.starts.items c.self.inside.cells.items c.args.self.now c.self.view_is c.args.contract c.requires.contract,
  c.self.invariant.pages,
)

pub add_to-requires-clause-small : goal.add_to-requires-clause-small
add_to-requires-clause-small c =
    let was = row-at c.self.inside.count c.self.inside.starts.items c.self.inside.cells.items c.args.self.now c.self.view_is c.args.contract c.requires.contract in
    subst (λ (z : ℤ). IsQuantity (z +ℤ c.args.quantity)) (sym was) c.requires.small

pub invariant_of-self : goal.invariant_of-self
invariant_of-self c =
    let within = row-within c.self.inside.count c.self.inside.starts.items c.self.inside.cells.items c.args.self.now c.self.view_is c.args.contract c.requires.contract in
    record {
      pages = c.add_to.ensures.pages c.self.inside.count within c.self.invariant.pages;
      among = c.add_to.ensures.among c.self.invariant.among;
    }

pub returns : goal.returns
returns c =
    let within = row-within c.self.inside.count c.self.inside.starts.items c.self.inside.cells.items c.args.self.now c.self.view_is c.args.contract c.requires.contract in
    let was = row-at c.self.inside.count c.self.inside.starts.items c.self.inside.cells.items c.args.self.now c.self.view_is c.args.contract c.requires.contract in
    listed-set c.self.inside.count c.self.inside.starts.items c.self.inside.cells.items c.add_to.new.starts.items c.add_to.new.cells.items c.args.contract (get_or c.args.self.now c.args.contract (pos 0) +ℤ c.args.quantity) within (c.add_to.ensures.here ∙ ap (λ (z : ℤ). z +ℤ c.args.quantity) was) c.add_to.ensures.others
    ∙ ap (λ (xs : List ℤ). set xs c.args.contract (get_or c.args.self.now c.args.contract (pos 0) +ℤ c.args.quantity)) c.self.view_is

use Rattle.std.proofs.Common.{◌≡◌, ◌∙◌, ◌+◌, ◌*◌, ◌≤◌, ap, arith, get_or, length, refl, rules, subst, sym, vec_len, List, ℕ}
use Rattle.std.specs.Int.{div_ceil}
use Rattle.std.specs.Prelude.{not}
use Rattle.std.specs.Vec.{vec_capacity}
use Rattle.mgn_nets.specs.Pages.{ArePages, listed}
use Rattle.mgn_nets.proofs.Paged.{pages-as, pages-with, row-long}
use Rattle.mgn_nets.proofs.nets.Nets.copy_from.Goals as goal
use Rattle.mgn_nets.proofs.nets.Nets.copy_from.Goals.{After-deref, Else-is_err}

-- both lists are as long
counts : (c : After-deref) → c.self.inside.count ≡ c.other.inside.count
counts c =
    sym (row-long c.self.inside.count c.self.inside.starts.items c.self.inside.cells.items c.args.self.now c.self.view_is)
    ∙ c.requires
    ∙ row-long c.other.inside.count c.other.inside.starts.items c.other.inside.cells.items c.args.other.now c.other.view_is

pub copy_from_slice-requires : goal.copy_from_slice-requires
copy_from_slice-requires c =
    let own : vec_len c.self.inside.starts ≡ length c.self.inside.starts.items = search rules in
    let same = counts (goal.at.copy_from_slice-requires c).After-deref in
    own ∙ c.self.invariant.pages.pages ∙ ap (λ (n : ℕ). div_ceil n 16) same ∙ sym c.other.invariant.pages.pages ∙ ap length (sym c.deref.ensures.value)

starts : (c : Else-is_err) → c.copy_from_slice.new.self.items ≡ c.other.inside.starts.items
starts c = c.copy_from_slice.ensures.items ∙ c.deref.ensures.value

cells : (c : Else-is_err) → c.extend_from_slice.new.self.items ≡ c.other.inside.cells.items
cells c =
    let ok = c.is_err.ensures.negation ∙ ap not c.if-is_err.false in
    let none = c.clear.ensures.items in
    let taken = c.deref-2.ensures.value in
    rw (ok, none, taken) at c.extend_from_slice.ensures.items

pub invariant_of-self : goal.invariant_of-self
invariant_of-self c =
    let same : c.self.inside.count ≡ c.other.inside.count = counts (goal.at.invariant_of-self c).After-deref in
    let kept : vec_capacity c.clear.new.self ≡ vec_capacity c.self.inside.cells = search rules in
    let room : vec_capacity c.self.inside.cells ≤ vec_capacity c.extend_from_slice.new.self = omega (arith, kept, c.extend_from_slice.ensures.capacity) in
    let from = starts (goal.at.invariant_of-self c).Else-is_err in
    let are = pages-as c.other.inside.count c.other.inside.starts.items c.copy_from_slice.new.self.items c.other.inside.cells.items c.extend_from_slice.new.self.items _ _ from (cells (goal.at.invariant_of-self c).Else-is_err) refl c.other.invariant.pages in
    let long : length c.copy_from_slice.new.self.items ≡ length c.self.inside.starts.items = are.pages ∙ ap (λ (n : ℕ). div_ceil n 16) (sym same) ∙ sym c.self.invariant.pages.pages in
    let enough : 16 * length c.copy_from_slice.new.self.items + 16 ≤ vec_capacity c.extend_from_slice.new.self = omega (arith, long, room, c.self.invariant.pages.room) in
    record {
      pages =
          subst (λ (n : ℕ). ArePages n c.copy_from_slice.new.self.items c.extend_from_slice.new.self.items (vec_capacity c.extend_from_slice.new.self)) (sym same) (
          pages-with c.other.inside.count c.copy_from_slice.new.self.items c.extend_from_slice.new.self.items _ (vec_capacity c.extend_from_slice.new.self) are enough
          );
      among = λ page none. ap (λ (xs : List ℕ). get_or xs page 0) from ∙ c.other.invariant.among page none;
    }

pub returns : goal.returns
returns c =
    let same : c.self.inside.count ≡ c.other.inside.count = counts (goal.at.returns c).After-deref in
    let s = starts (goal.at.returns c).Else-is_err in
    let k = cells (goal.at.returns c).Else-is_err in
    (λ i. listed (same i) (s i) (k i)) ∙ c.other.view_is

use Rattle.std.proofs.Common.{◌≡◌, ◌∙◌, ap, length, rules, sym, vec_len, ℕ}
use Rattle.std.specs.Int.{div_ceil}
use Rattle.std.specs.Prelude.{not}
use Rattle.mgn_rows.specs.Pages.{paged}
use Rattle.mgn_rows.proofs.Paged.{list-long}
use Rattle.mgn_rows.proofs.list.SparseList.copy_from.Goals as goal

pub copy_from_slice-requires : goal.copy_from_slice-requires
copy_from_slice-requires g c =
    let own : vec_len c.self.inside.places ≡ length c.self.inside.places.items = search rules in
    let ours = list-long c.self.inside.count c.self.inside.places.items c.self.inside.cells.items _ c.args.self.now c.self.invariant c.self.view_is in
    let others = list-long c.other.inside.count c.other.inside.places.items c.other.inside.cells.items _ c.args.other.now c.other.invariant c.other.view_is in
    let same : c.self.inside.count ≡ c.other.inside.count = sym ours ∙ c.requires ∙ others in
    own ∙ c.self.invariant.pages ∙ ap (λ (n : ℕ). div_ceil n 16) same ∙ sym c.other.invariant.pages ∙ ap length (sym c.deref.ensures.value)

pub returns : goal.returns
returns g c =
    let ours = list-long c.self.inside.count c.self.inside.places.items c.self.inside.cells.items _ c.args.self.now c.self.invariant c.self.view_is in
    let others = list-long c.other.inside.count c.other.inside.places.items c.other.inside.cells.items _ c.args.other.now c.other.invariant c.other.view_is in
    let same : c.self.inside.count ≡ c.other.inside.count = sym ours ∙ c.requires ∙ others in
    let places = c.copy_from_slice.ensures.items ∙ c.deref.ensures.value in
    let ok = c.is_err.ensures.negation ∙ ap not c.if-is_err.false in
    let none = c.clear.ensures.items in
    let taken = c.deref-2.ensures.value in
    let cells : c.extend_from_slice.new.self.items ≡ c.other.inside.cells.items = rw (ok, none, taken) at c.extend_from_slice.ensures.items in
    (λ i. paged (same i) (places i) (cells i)) ∙ c.other.view_is

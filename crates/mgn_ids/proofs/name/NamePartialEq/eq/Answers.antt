use Rattle.std.proofs.Common.{◌≡◌, ◌∙◌, ap, sym, take}
use Rattle.std.specs.Bool.{Decides}
use Rattle.std.specs.Str.{bytes_eq}
use Rattle.std.proofs.lemmas.Bool.Decides.{Decides-like, same_from_decides}
use Rattle.std.proofs.lemmas.Slice.Eq.{bytes_eq-Decides}
use Rattle.mgn_ids.specs.NameRow.{inside_is, inside_of}
use Rattle.mgn_ids.specs.declared.name.Name.TheInside.{Inside}
use Rattle.mgn_ids.proofs.name.NamePartialEq.eq.Goals as goal

pub returns-then-self-other : goal.returns-then-self-other
returns-then-self-other c =
    let a = c.self.inside in
    let b = c.other.inside in
    let rows : take a.len a.bytes ≡ take b.len b.bytes → a.bytes ≡ b.bytes =
    λ e. ap (λ (i : Inside). i.bytes) (sym (inside_is a c.self.invariant) ∙ ap inside_of e ∙ inside_is b c.other.invariant) in
    let same : Decides (bytes_eq a.bytes b.bytes) (take a.len a.bytes ≡ take b.len b.bytes) =
    Decides-like (bytes_eq a.bytes b.bytes) (λ e j. take (c.if-self-other.true j) (e j)) rows (bytes_eq-Decides a.bytes b.bytes) in
    let names = same_from_decides (bytes_eq a.bytes b.bytes) (bytes_eq (take a.len a.bytes) (take b.len b.bytes)) same (bytes_eq-Decides (take a.len a.bytes) (take b.len b.bytes)) in
    c.are_same.ensures ∙ names ∙ (λ j. bytes_eq (c.self.view_is j) (c.other.view_is j))

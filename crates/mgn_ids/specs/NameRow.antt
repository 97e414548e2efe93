-- A name tells the row that it is kept in.
use Rattle.std.proofs.Common.{◌≡◌, ℕ, ◌-◌, ◌++◌, List, length, take, replicate, arith, refl, ap, ◌∙◌, sym}
use Rattle.std.proofs.lemmas.List.{length-take-le}
use Rattle.std.proofs.Math.ListN.{take-append-drop}
use Rattle.mgn_ids.specs.Name.{IsNameRow, row_of}
use Rattle.mgn_ids.specs.declared.name.Name.TheInside.{Inside}

abbrev pub inside_of : List ℕ → Inside
inside_of name = record { bytes = row_of name; len = length name }

pub inside_is : (n : Inside) → IsNameRow n.bytes n.len → inside_of (take n.len n.bytes) ≡ n
inside_is n row =
    let few = row.few in
    let len : length (take n.len n.bytes) ≡ n.len = length-take-le n.len n.bytes (omega (arith, row.all)) in
    let bytes : take n.len n.bytes ++ replicate (16 - n.len) 0 ≡ n.bytes =
    ap (λ (rest : List ℕ). take n.len n.bytes ++ rest) (sym row.zeros) ∙ take-append-drop n.len n.bytes
    in
    rw (len, bytes) refl

use Rattle.std.proofs.Common.{◌≡◌, ◌<◌, [], ◌∷◌, Err, length, ℕ, true, false, nat_le, List, arith, refl, sym, ◌∙◌}
use Rattle.std.specs.List.{list_all}
use Rattle.std.proofs.lemmas.Bool.Decides.{nat_tests}
use Rattle.mgn_ids.specs.Name.{is_name_byte, name_in}
use Rattle.mgn_ids.specs.declared.fault.IdFault.TheVariants.{Range, Syntax}
use Rattle.mgn_ids.proofs.name.fault_of_long.Goals as goal

long_name : (word : List ℕ) → 16 < length word → list_all is_name_byte word ≡ true → Err Range ≡ name_in word
unfolding name_in
long_name [] long right = absurd (omega (arith, long))
long_name (b ∷ bs) long right =
    let over : nat_le (length (b ∷ bs)) 16 ≡ false = grind (arith, nat_tests) in
    rw (right, over) refl

no_name : (word : List ℕ) → 16 < length word → list_all is_name_byte word ≡ false → Err Syntax ≡ name_in word
unfolding name_in
no_name [] long wrong = absurd (omega (arith, long))
no_name (b ∷ bs) long wrong = rw wrong refl

pub returns-then-are_name_bytes : goal.returns-then-are_name_bytes
returns-then-are_name_bytes c = long_name c.args.word.now c.requires (sym c.are_name_bytes.ensures ∙ c.if-are_name_bytes.true)

pub returns-else-are_name_bytes : goal.returns-else-are_name_bytes
returns-else-are_name_bytes c = no_name c.args.word.now c.requires (sym c.are_name_bytes.ensures ∙ c.if-are_name_bytes.false)

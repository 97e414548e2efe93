-- Reading a record's words one after another, for contracts and for spreads between commodities.
use Rattle.std.proofs.Common.{◌≡◌, ℕ, ◌+◌, ◌<◌, ◌≤◌, List, [], ◌∷◌, ◌++◌, length, take, drop, set, get_or, Result, Ok, Err, refl, sym, ap, arith, append_assoc, add-one, take_all, Bor, map}
use Rattle.std.specs.Prelude.{ℤ, ◌^◌}
use Rattle.std.proofs.Math.Seq.{drop-cons}
use Rattle.std.proofs.lemmas.List.{append-nil, drop_all, get_or-map, take_more_set}
use Rattle.mgn_setfile.specs.Fields.{◌>>=◌, Fields, Flaw, field_signed, in_field, whole}
use Rattle.mgn_setfile.specs.declared.place.Field.TheVariants as field
use Rattle.mgn_setfile.specs.declared.fault.Cause.TheVariants.{Fields as WrongFields}
use Rattle.mgn_setfile.specs.Records.{contract_after_names, values_from}
use Rattle.mgn_params.specs.Tables.{Tables}

-- a read that is fronted by what was read before
abbrev pub fronted : {X : Type 0} → List X → Result (List X) Flaw → Result (List X) Flaw
fronted front r = r >>= λ xs. Ok (front ++ xs)

pub fronted-more : {X : Type 0} (front : List X) (x : X) (r : Result (List X) Flaw) → fronted front (r >>= λ xs. Ok (x ∷ xs)) ≡ fronted (front ++ x ∷ []) r
fronted-more front x (Ok xs) = ap Ok (sym (append_assoc front (x ∷ []) xs))
fronted-more front x (Err e) = refl

-- a word that is a value, and one that is none
pub values_more : (words : List (List ℕ)) (i n m : ℕ) (v : ℤ) (array : List ℤ) → m ≡ n + 1 → i < length words → i < length array → in_field (field.Contract n) (field_signed (10 ^ 8) (get_or words i [])) ≡ Ok v
    → fronted (take i array) (values_from n (drop i words)) ≡ fronted (take (i + 1) (set array i v)) (values_from m (drop (i + 1) words))
values_more words i n m v array next h k e =
    let here : drop i words ≡ get_or words i [] ∷ drop (i + 1) words = rw add-one (drop-cons words i [] h) in
    rw (next, here, e, take_more_set array i v k) (fronted-more (take i array) v (values_from (n + 1) (drop (i + 1) words)))

pub values_fail : (words : List (List ℕ)) (i n : ℕ) (c : Flaw) (array : List ℤ) → i < length words → in_field (field.Contract n) (field_signed (10 ^ 8) (get_or words i [])) ≡ Err c → fronted (take i array) (values_from n (drop i words)) ≡ Err c
values_fail words i n c array h e =
    let here : drop i words ≡ get_or words i [] ∷ drop (i + 1) words = rw add-one (drop-cons words i [] h) in
    rw (here, e) refl

-- all words were values
pub values_end : (words : List (List ℕ)) (i n : ℕ) (array : List ℤ) → length words ≤ i → length array ≤ i → fronted (take i array) (values_from n (drop i words)) ≡ Ok array
values_end words i n array h k =
    rw (drop_all i words h, take_all i array k, append-nil array) refl

-- a word of a record
pub now_at : (words : List (Bor (List ℕ))) (i : ℕ) (d : Bor (List ℕ)) → i < length words → (get_or words i d).now ≡ get_or (map (λ s. s.now) words) i []
now_at words i d h = sym (get_or-map (λ (s : Bor (List ℕ)). s.now) words i d [] h)

-- a contract's record that ends before its array
pub after_names_short : (t : Tables) (names : Result (List ℕ × List ℕ × ℕ) Flaw) (fields : Fields) → length fields < 4 → contract_after_names t names fields ≡ Err (whole WrongFields)
unfolding contract_after_names
after_names_short t names [] h = refl
after_names_short t names (a ∷ []) h = refl
after_names_short t names (a ∷ b ∷ []) h = refl
after_names_short t names (a ∷ b ∷ c ∷ []) h = refl
after_names_short t names (a ∷ b ∷ c ∷ d ∷ rest) h = absurd (omega arith)

-- What the devices tell, one call after another: for what a session reads and writes.
use Rattle.std.proofs.Common.{◌+◌, ℕ, List, [], ◌++◌, take, take-add, drop, Option, Some, None, refl, sym, append_assoc}
use Rattle.std.proofs.lemmas.List.{append-nil}
use Rattle.std.specs.Io.KnownBytes.{Appends, Consumes, Keeps}

pub writes_on : (old mid new : Option (List ℕ)) (n k : ℕ) (text : List ℕ) → Appends old mid (take n text) → Appends mid new (take k (drop n text))
    → Appends old new (take (n + k) text)
writes_on None mid new n k text a b = tt
writes_on (Some xs) None new n k text a b = absurd a
writes_on (Some xs) (Some ys) None n k text a b = absurd b
writes_on (Some xs) (Some ys) (Some zs) n k text a b = rw (b, a, take-add n k text, append_assoc) refl

pub writes_none : (old : Option (List ℕ)) → Appends old old []
writes_none None = tt
writes_none (Some xs) = sym (append-nil xs)

pub kept_none : (l0 l1 : Option (List ℕ)) → Keeps l0 l1 → Consumes l0 l1 []
kept_none None l1 k = tt
kept_none (Some xs) None k = absurd k
kept_none (Some xs) (Some ys) k = sym k

pub reads_none : (l : Option (List ℕ)) → Consumes l l []
reads_none None = tt
reads_none (Some xs) = refl

pub reads_on : (a b c : Option (List ℕ)) (x y : List ℕ) → Consumes a b x → Consumes b c y → Consumes a c (x ++ y)
reads_on None b c x y h k = tt
reads_on (Some xs) None c x y h k = absurd h
reads_on (Some xs) (Some ys) None x y h k = absurd k
reads_on (Some xs) (Some ys) (Some zs) x y h k = rw (h, k, append_assoc) refl

pub appends_on : (a b c : Option (List ℕ)) (x y : List ℕ) → Appends a b x → Appends b c y → Appends a c (x ++ y)
appends_on None b c x y h k = tt
appends_on (Some xs) None c x y h k = absurd h
appends_on (Some xs) (Some ys) None x y h k = absurd k
appends_on (Some xs) (Some ys) (Some zs) x y h k = rw (k, h, append_assoc) refl

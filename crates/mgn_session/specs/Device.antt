-- A device that counts its failures (own profile).
use Rattle.std.specs.Prelude.{◌≡◌, ◌==◌, ◌&&◌, ◌+◌, ◌-◌, ◌^◌, ◌<◌, min, nat_lt, ℕ, Bool, false, Result, Ok, Err, MatchResult}
use Rattle.mgn_session.specs.declared.counted.Counted.{Counted}

abbrev pub device_of : {T : Type 0} → Counted T → T
device_of c = c.device

-- how many calls failed
abbrev pub failed_of : {T : Type 0} → Counted T → ℕ
failed_of c = c.failed

-- whether bytes were written that no flush followed
abbrev pub is_dirty : {T : Type 0} → Counted T → Bool
is_dirty c = c.dirty

-- whether the last read had room and gave nothing
abbrev pub has_ended : {T : Type 0} → Counted T → Bool
has_ended c = c.ended

-- whether a read into so much room gave nothing
abbrev pub gave_nothing : {E : Type 0} → Result ℕ E → ℕ → Bool
gave_nothing (Ok taken) room = (taken == 0) && nat_lt 0 room
gave_nothing (Err error) room = false

-- one failure more, up to the greatest number
abbrev pub one_more : ℕ → ℕ
one_more n = min (n + 1) (2 ^ 64 - 1)

-- the count after a read or a flush
abbrev pub Counts : {X E : Type 0} → ℕ → ℕ → Result X E → Type 0
Counts old new result = MatchResult result (λ _. new ≡ old) (λ _. new ≡ one_more old)

-- the count after a write of `len` bytes
abbrev pub CountsWrite : {E : Type 0} → ℕ → ℕ → Result ℕ E → ℕ → Type 0
CountsWrite old new result len =
    MatchResult result
    (λ taken. (taken ≡ 0 → 0 < len → new ≡ one_more old) × (0 < taken → new ≡ old) × (len ≡ 0 → new ≡ old))
    (λ _. new ≡ one_more old)

-- after a flush nothing is unflushed, unless it failed
abbrev pub dirty_after : {X E : Type 0} → Bool → Result X E → Bool
dirty_after dirty (Ok x) = false
dirty_after dirty (Err error) = dirty

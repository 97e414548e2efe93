-- The lines of a file, and the record of one line.
use Rattle.std.specs.Prelude.{ℕ, ◌==◌, Bool, List, [], Option, Some, None}
use Rattle.std.specs.List.{list_all, slice_split}
use Rattle.csv.specs.Reading.{default_config, records, strip_bom}
use Rattle.mgn_setfile.specs.Fields.{Fields}

-- the lines that follow
abbrev pub lines_left : Option (List ℕ) → List (List ℕ)
lines_left None = []
lines_left (Some rest) = slice_split (λ b. b == 10) rest

-- the records that the grammar of csv gives for the bytes of one line alone, without a byte order mark at its start
abbrev pub line_records : List ℕ → List Fields
line_records line = records default_config (strip_bom line)

-- nothing, or carriage returns alone, after a byte order mark or without one
abbrev pub is_blank : List ℕ → Bool
is_blank line = list_all (λ b. b == 13) (strip_bom line)

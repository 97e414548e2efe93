-- The words of a line (own format).
use Rattle.std.specs.Prelude.{ℕ, ◌==◌, List, if◌then◌else◌, Result, Ok, Err, codes}
use Rattle.std.specs.List.{slice_split}
use Rattle.std.specs.Str.{bytes_eq}
use Rattle.mgn_ids.specs.declared.fault.IdFault.{IdFault}
use Rattle.mgn_ids.specs.declared.fault.IdFault.TheVariants.{Syntax}
use Rattle.mgn_machine.specs.declared.command.Mode.{Mode}
use Rattle.mgn_machine.specs.declared.command.Mode.TheVariants.{Gross, Net}

-- the words of a line: its parts between spaces
abbrev pub words_of : List ℕ → List (List ℕ)
words_of line = slice_split (λ b. b == 32) line

-- how an origin is margined
unfoldable pub mode_in : List ℕ → Result Mode IdFault
mode_in word = if bytes_eq word (codes "GROSS") then Ok Gross else if bytes_eq word (codes "NET") then Ok Net else Err Syntax

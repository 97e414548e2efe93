use Rattle.std.proofs.Common.{◌≡◌, ℤ, List, take, true}
use Rattle.std.specs.List.{list_all}
use Rattle.mgn_span.specs.Credits.{fits}
use Rattle.mgn_inter.specs.Rows.{AreRestsOf}
use Rattle.mgn_inter.proofs.rows.all_kept_fit.Given as goal

abbrev pub invariant-loop-k : goal.invariant-loop-k
invariant-loop-k l =
    (rests : List ℤ) → AreRestsOf l.legs rests l.kept → list_all (fits l.a_long rests) (take l.k l.legs) ≡ true

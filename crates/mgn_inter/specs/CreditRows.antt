-- How credits are kept.
use Rattle.mgn_inter.specs.declared.inter.InterCredits.TheInside.{Inside}
use Rattle.mgn_inter.specs.Columns.{credits_in, deltas_in, rests_in, risks_in}
use Rattle.mgn_inter.specs.Rows.{Credited}

abbrev pub credited_of : Inside → Credited
credited_of c = record {
  deltas = deltas_in c.numbers;
  risks = risks_in c.numbers;
  rests = rests_in c.numbers;
  credits = credits_in c.numbers;
  kept = c.kept;
}

use Rattle.std.proofs.Common.{arith, map, sym, Bor, List, ℕ}
use Rattle.std.proofs.lemmas.List.{length-map}
use Rattle.mgn_setfile.proofs.RecordLemmas.{after_names_short}
use Rattle.mgn_setfile.proofs.contracts.contract_after_names.Goals as goal

pub returns-in_default-clause-value : goal.returns-in_default-clause-value
returns-in_default-clause-value c =
    rw c.whole.ensures (sym (after_names_short c.args.rows.now c.args.names (map (λ (s : Bor (List ℕ)). s.now) c.args.args.now) (omega (arith, c.in_default.len_below, length-map c.args.args.now (λ (s : Bor (List ℕ)). s.now)))))

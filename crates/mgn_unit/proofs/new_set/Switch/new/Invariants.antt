use Rattle.std.proofs.Common.{◌≡◌, map, position, take, vec_len}
use Rattle.std.specs.Str.{bytes_eq}
use Rattle.std.specs.Vec.{vec_capacity}
use Rattle.mgn_params.specs.declared.tables.Contract.{Contract}
use Rattle.mgn_params.specs.Limits.{contract_names}
use Rattle.mgn_unit.proofs.new_set.Switch.new.Given as goal

abbrev pub invariant-loop-i : goal.invariant-loop-i
invariant-loop-i l = record {
  so_far : l.places.items ≡ map (λ (c : Contract). position (bytes_eq c.name) (contract_names l.old.contracts)) (take l.i l.new.contracts);
  len : vec_len l.places ≡ l.i;
  room : vec_capacity l.places ≡ l.count;
}

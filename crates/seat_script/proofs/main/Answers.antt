use Rattle.std.proofs.Common.{◌≡◌, ◌⊎◌, inl, inr, map}
use Rattle.std.specs.Result.{ForOk}
use Rattle.mgn_unit.specs.NewSets.{ArePrepared}
use Rattle.mgn_prepare.specs.Marks.{mark_of}
use denote.Param.Callables.{held_fn}
use Rattle.seat_script.proofs.main.OwnLists as own
use Rattle.seat_script.proofs.main.Goals as goal

-- the box holds the one marking that the program makes, so what is known of a call is that marking's contract
pub new-requires-in-Ok-new-clause-gives : goal.new-requires-in-Ok-new-clause-gives
new-requires-in-Ok-new-clause-gives g c session old new nets result h =
    let Told : Unit {0} ⊎ ⊥ → Type 0 = λ v. (x : _) → (held_fn (own.own-1 g.bound-1-dict g.bound-2-dict)).post (v, x) (session, (old, (new, (nets, tt {0})))) result → ForOk result (λ units. ArePrepared new.now units.items) in
    let told : (v : Unit {0} ⊎ ⊥) → Told v = λ v. elim v as Told [ inl i ↦ λ x p. p.2.1 | inr j ↦ absurd j ] in
    told c.into_dyn_box.result.vtable c.into_dyn_box.result.value h

pub new-requires-in-Ok-new-clause-marks : goal.new-requires-in-Ok-new-clause-marks
new-requires-in-Ok-new-clause-marks g c session old new nets result h =
    let Told : Unit {0} ⊎ ⊥ → Type 0 = λ v. (x : _) → (held_fn (own.own-1 g.bound-1-dict g.bound-2-dict)).post (v, x) (session, (old, (new, (nets, tt {0})))) result → ForOk result (λ units. units.items ≡ map (mark_of old.now new.now) nets.items) in
    let told : (v : Unit {0} ⊎ ⊥) → Told v = λ v. elim v as Told [ inl i ↦ λ x p. p.2.0 | inr j ↦ absurd j ] in
    told c.into_dyn_box.result.vtable c.into_dyn_box.result.value h

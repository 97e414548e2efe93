use Rattle.std.proofs.Common.{◌≡◌, ◌<◌, ◌≤◌, ◌+◌, ◌*◌, ◌^◌, ◌∙◌, ℕ, ap, arith, get_or, length, set, subst, sym}
use Rattle.std.specs.Prelude.{◌+ℤ◌, ℤ, List, pos, unsigned_abs}
use Rattle.std.proofs.lemmas.List.{length-set}
use Rattle.mgn_machine.specs.State.{AccountState}
use Rattle.mgn_unit.specs.NewSets.{value_gain}
use Rattle.mgn_unit.proofs.Gains.{gains-more, gains-small}
use Rattle.mgn_unit.proofs.new_set.Switch.add_gains.Goals as goal

pub loop-account-preserved : goal.loop-account-preserved
loop-account-preserved c =
    let gains = c.loop-account.gains in
    let accounts = c.args.accounts.now in
    let a = c.account-item.result in
    let k = c.loop-account.account-index in
    let old = c.args.self.now.old in
    let new = c.args.self.now.new in
    let long : length gains ≡ length c.args.gains.now = c.loop-account.invariant.long in
    let there : k < length accounts = omega arith in
    let inside : a.unit < length gains =
    subst (λ (n : ℕ). a.unit < n) (sym long) (subst (λ (x : AccountState). x.unit < length c.args.gains.now) (sym c.account-item.is) (c.requires.within k a there))
    in
    let added : c.add_gain.new.gains ≡ set gains a.unit (get_or gains a.unit (pos 0) +ℤ value_gain old new a) = c.add_gain.ensures.added in
    record {
      long = ap length added ∙ length-set gains a.unit (get_or gains a.unit (pos 0) +ℤ value_gain old new a) ∙ long;
      so_far = λ u less. ap (λ (x : List ℤ). get_or x u (pos 0)) added
          ∙ gains-more old new accounts gains k a there c.account-item.is inside (λ v h. c.loop-account.invariant.so_far v (omega (arith, h, long))) u (omega (arith, less, long));
      size = λ u less. subst (λ (x : List ℤ). unsigned_abs (get_or x u (pos 0)) ≤ (k + 1) * (2 * 10 ^ 18)) (sym added)
          (gains-small gains a.unit k (2 * 10 ^ 18) (value_gain old new a) inside c.add_gain.ensures.small (λ v h. c.loop-account.invariant.size v (omega (arith, h, long))) u (omega (arith, less, long)));
    }

use Rattle.std.proofs.Common.{rules, ◌≡◌, ◌∙◌, ◌<◌, ℕ, ℤ, Bool, ap, arith, false, get_or, length, length-set, pos, sym}
use Rattle.std.specs.Prelude.{not}
use Rattle.std.specs.Ordering.{int_eq}
use Rattle.std.proofs.lemmas.List.{get_or_read}
use Rattle.mgn_span.specs.Scan.{value_at}
use Rattle.mgn_span.specs.Words.{leg_at}
use Rattle.mgn_inter.proofs.LegLemmas.{each_so_far, out_so_far}
use Rattle.mgn_inter.proofs.rows.mark_moved.Goals as goal

pub loop-k-preserved : goal.loop-k-preserved
loop-k-preserved c =
    let legs = c.args.legs.now in
    let old = c.args.old.now in
    let new = c.args.new.now in
    let k = c.loop-k.k in
    let moved = c.loop-k.moved in
    let leg = leg_at legs k in
    let old_long : length old ≡ 4 = search rules in
    let new_long : length new ≡ 4 = search rules in
    let inside = c.loop-k-test.true in
    let there : leg.commodity < length moved = omega (arith, c.requires.marks k leg inside, c.loop-k.invariant.long) in
    let mine = get_or new k c.index-new-k.result in
    let was = get_or old k c.index-old-k.result in
    let mine_is : mine ≡ value_at new k = sym c.index-new-k.is ∙ get_or_read new k c.index-new-k.result (omega (arith, new_long, c.requires.few, inside)) c.index-new-k.is (pos 0) in
    let was_is : was ≡ value_at old k = sym c.index-old-k.is ∙ get_or_read old k c.index-old-k.result (omega (arith, old_long, c.requires.few, inside)) c.index-old-k.is (pos 0) in
    let given : c.differs.result ≡ not (int_eq mine was) = c.differs.ensures in
    let is : c.differs.result ≡ not (int_eq (value_at new k) (value_at old k)) = given ∙ ap (λ (z : ℤ). not (int_eq z was)) mine_is ∙ ap (λ (z : ℤ). not (int_eq (value_at new k) z)) was_is in
    record {
      long = length-set moved leg.commodity c.differs.result ∙ c.loop-k.invariant.long;
      out = λ g out. out_so_far moved legs k g c.differs.result false inside out ∙ c.loop-k.invariant.out g out;
      so_far = each_so_far (λ (j : ℕ) (b : Bool). b ≡ not (int_eq (value_at new j) (value_at old j))) moved legs k c.differs.result false c.requires.apart inside there c.loop-k.invariant.so_far is;
    }

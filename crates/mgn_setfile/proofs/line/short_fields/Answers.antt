use Rattle.std.proofs.Common.{arith, sym, refl, [], ◌∙◌}
use Rattle.std.proofs.lemmas.List.{take_more, take_more_set, length-set, map-append}
use Rattle.csv.proofs.RecordFacts.{field-get, field-there}
use Rattle.csv.specs.Records.{fields_of}
use Rattle.mgn_setfile.proofs.line.short_fields.Goals.{in-Some, in_default}
use Rattle.mgn_setfile.proofs.line.short_fields.Goals as goal

pub loop-i-preserved : goal.loop-i-preserved
loop-i-preserved c =
    let all = fields_of c.args.row.now in
    elim c.match-get.branch [
      | in-Some w ↦
          let g = field-get all c.loop-i.i w.in-Some.word.now (sym (rw w.in-Some.is at c.get.ensures.value)) in
          let t = take_more all c.loop-i.i [] (omega arith) in
          record {
            so_far = rw (w.words-is, take_more_set c.loop-i.words c.loop-i.i w.in-Some.word (omega (arith, c.loop-i.invariant.len)), map-append, t, g, c.loop-i.invariant.so_far) refl;
            len = rw (w.words-is) (length-set c.loop-i.words c.loop-i.i w.in-Some.word ∙ c.loop-i.invariant.len);
          }
      | in_default w ↦ absurd (field-there all c.loop-i.i (omega arith) (sym (rw w.in_default.is at c.get.ensures.value)))
    ]

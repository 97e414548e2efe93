use Rattle.std.proofs.Common.{arith, sym, refl, [], ◌∙◌}
use Rattle.std.proofs.lemmas.List.{take_all, take_more, map-append}
use Rattle.csv.proofs.RecordFacts.{field-get, field-there}
use Rattle.csv.specs.Records.{fields_of}
use Rattle.mgn_setfile.proofs.line.fields.Goals.{in-Some, in_default}
use Rattle.mgn_setfile.proofs.line.fields.Goals as goal

pub loop-i-preserved : goal.loop-i-preserved
loop-i-preserved c =
    let all = fields_of c.args.row.now in
    elim c.match-get.branch [
      | in-Some w ↦
          let g = field-get all c.loop-i.i w.in-Some.word.now (sym (rw w.in-Some.is at c.get.ensures.value)) in
          let t = take_more all c.loop-i.i [] (omega arith) in
          let p = w.push_reserved.ensures in
          record {
            so_far = rw (w.words-is, p.items, map-append, t, g, c.loop-i.invariant.so_far) refl;
            len = rw (w.words-is, p.len, c.loop-i.invariant.len) refl;
            room = rw (w.words-is, p.capacity, c.loop-i.invariant.room) refl;
          }
      | in_default w ↦ absurd (field-there all c.loop-i.i (omega arith) (sym (rw w.in_default.is at c.get.ensures.value)))
    ]

pub returns : goal.returns
returns c = c.loop-i.invariant.so_far ∙ take_all c.loop-i.i (fields_of c.args.row.now) (omega arith)

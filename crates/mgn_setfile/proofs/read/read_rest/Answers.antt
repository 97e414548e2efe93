use Rattle.std.proofs.Common.{rules, ◌≡◌, Some, Err}
use Rattle.csv.specs.Records.{fields_of}
use Rattle.mgn_setfile.specs.Plain.{ending}
use Rattle.mgn_setfile.proofs.ReadLemmas.{all_given, less_left, reads_on, stops_on, stops_twice}
use Rattle.mgn_setfile.proofs.read.read_rest.Goals as goal

pub records-smaller : goal.records-smaller
records-smaller c =
    let last = ending c.args.is_cut c.records.invariant.0 in
    let has = c.records.invariant.1 in
    let read = rw c.in-Ok-true.field-0-test at c.in-Ok-true.ensures.reads has.trim has.ready in
    less_left c.args.text.now last c.records.reader c.read_byte_record.new.self (Some c.records.draft) c.records.count (fields_of c.read_byte_record.new.row) has read

pub records-preserved : goal.records-preserved
records-preserved c =
    let last = ending c.args.is_cut c.records.invariant.0 in
    let has = c.records.invariant.1 in
    let read = rw c.in-Ok-true.field-0-test at c.in-Ok-true.ensures.reads has.trim has.ready in
    let on = c.in-Ok-true.ensures.reads_on c.in-Ok-true.field-0-test in
    (c.records.invariant.0, reads_on c.args.text.now last c.records.reader c.read_byte_record.new.self (Some c.records.draft) c.add_numbered.new.draft c.records.count (fields_of c.read_byte_record.new.row) has read on c.in_ok-add_numbered-in-Ok-true.ensures.ok)

pub returns-in_err-add_numbered-in-Ok-true-clause-err : goal.returns-in_err-add_numbered-in-Ok-true-clause-err
returns-in_err-add_numbered-in-Ok-true-clause-err c =
    let last = ending c.args.is_cut c.records.invariant.0 in
    let has = c.records.invariant.1 in
    let read = rw c.in-Ok-true.field-0-test at c.in-Ok-true.ensures.reads has.trim has.ready in
    let fault = c.in_err-add_numbered-in-Ok-true.field-0.0 in
    let err : c.from_residual.result ≡ Err fault = search rules in
    let is = c.in_err-add_numbered-in-Ok-true.ensures in
    rw err (stops_on c.args.text.now last c.records.reader c.read_byte_record.new.self (Some c.records.draft) c.records.count (fields_of c.read_byte_record.new.row) fault has read is.err is.place.0 is.place.1 is.place.2)

pub returns-in-Ok-false-clause-err : goal.returns-in-Ok-false-clause-err
returns-in-Ok-false-clause-err c =
    let more = c.records.invariant.0 in
    let has = c.records.invariant.1 in
    let read = rw c.in-Ok-false.field-0-test at c.in-Ok-false.ensures.reads has.trim has.ready in
    let all = all_given c.args.text.now (ending c.args.is_cut more) c.records.reader c.read_byte_record.new.self (Some c.records.draft) c.records.count (fields_of c.read_byte_record.new.row) has read in
    let cut = rw c.if-is_cut.true at all in
    rw c.second_at.ensures (stops_twice c.args.text.now more (Some c.records.draft) c.records.count cut)

pub returns-in-Ok-false-2-clause-ok : goal.returns-in-Ok-false-2-clause-ok
returns-in-Ok-false-2-clause-ok c =
    let more = c.records.invariant.0 in
    let has = c.records.invariant.1 in
    let read = rw c.in-Ok-false.field-0-test at c.in-Ok-false.ensures.reads has.trim has.ready in
    let all = all_given c.args.text.now (ending c.args.is_cut more) c.records.reader c.read_byte_record.new.self (Some c.records.draft) c.records.count (fields_of c.read_byte_record.new.row) has read in
    let whole = rw c.if-is_cut.false at all in
    (c.records.count, whole)

use Rattle.std.proofs.Common.{rules, ◌≡◌, None, Err, refl}
use Rattle.std.proofs.lemmas.Result.{err_from_is_err_and}
use Rattle.csv.specs.Records.{fields_of}
use Rattle.mgn_setfile.specs.Plain.{ending}
use Rattle.mgn_setfile.proofs.ReadLemmas.{all_given, reads_on, stops_on, stops_twice}
use Rattle.mgn_setfile.proofs.read.read_records.Goals as goal

pub returns-in_err-draft-clause-err : goal.returns-in_err-draft-clause-err
returns-in_err-draft-clause-err c =
    let last = ending c.args.is_cut c.requires.start.0 in
    let has = c.requires.start.1 in
    let read = rw c.in-Ok-true.field-0-test at c.in-Ok-true.ensures.reads has.trim has.ready in
    let fault = c.in_err-draft.field-0.0 in
    let err : c.from_residual.result ≡ Err fault = search rules in
    let is = c.in_err-draft.ensures in
    rw err (stops_on c.args.text.now last c.args.reader.now c.read_byte_record.new.self None 0 (fields_of c.read_byte_record.new.row) fault has read is.err is.place.0 is.place.1 is.place.2)

pub read_rest-requires : goal.read_rest-requires
read_rest-requires c =
    let last = ending c.args.is_cut c.requires.start.0 in
    let has = c.requires.start.1 in
    let read = rw c.in-Ok-true.field-0-test at c.in-Ok-true.ensures.reads has.trim has.ready in
    let on = c.in-Ok-true.ensures.reads_on c.in-Ok-true.field-0-test in
    record { so_far = (c.requires.start.0, reads_on c.args.text.now last c.args.reader.now c.read_byte_record.new.self None c.in_ok-draft.draft 0 (fields_of c.read_byte_record.new.row) has read on c.in_ok-draft.ensures.ok) }

pub returns-in_err-read_rest-clause-err : goal.returns-in_err-read_rest-clause-err
returns-in_err-read_rest-clause-err c =
    let residual = c.from_residual-in_err-read_rest in
    let exit = err_from_is_err_and residual.result residual.ensures.1 in
    rw (exit.1, exit.2) c.in_err-read_rest.ensures.err

pub returns-in-Ok-false-clause-err : goal.returns-in-Ok-false-clause-err
returns-in-Ok-false-clause-err c =
    let more = c.requires.start.0 in
    let has = c.requires.start.1 in
    let read = rw c.in-Ok-false.field-0-test at c.in-Ok-false.ensures.reads has.trim has.ready in
    let all = all_given c.args.text.now (ending c.args.is_cut more) c.args.reader.now c.read_byte_record.new.self None 0 (fields_of c.read_byte_record.new.row) has read in
    let cut = rw c.if-is_cut.true at all in
    rw c.second_at.ensures (stops_twice c.args.text.now more None 0 cut)

pub returns-in-Ok-false-2-clause-ok : goal.returns-in-Ok-false-2-clause-ok
returns-in-Ok-false-2-clause-ok c =
    let more = c.requires.start.0 in
    let has = c.requires.start.1 in
    let read = rw c.in-Ok-false.field-0-test at c.in-Ok-false.ensures.reads has.trim has.ready in
    let all = all_given c.args.text.now (ending c.args.is_cut more) c.args.reader.now c.read_byte_record.new.self None 0 (fields_of c.read_byte_record.new.row) has read in
    let whole = rw c.if-is_cut.false at all in
    (0, whole, refl)

use Rattle.std.proofs.Common.{◌∙◌, inr, arith}
use Rattle.csv.specs.Reading.{strip_bom}
use Rattle.mgn_setfile.specs.Plain.{ending}
use Rattle.mgn_setfile.proofs.ReadLemmas.{line_of_no_record, starts, strip_less}
use Rattle.mgn_setfile.proofs.read.read_body.Goals as goal

pub read_records-requires : goal.read_records-requires
read_records-requires c =
    let made = c.from_reader-reader.ensures in
    let config = rw (c.flexible.ensures, c.has_headers.ensures) at made.config ∙ c.new.ensures.config in
    let untrimmed = rw (c.flexible.ensures, c.has_headers.ensures) at made.trim ∙ c.new.ensures.trim in
    let headers = rw (c.flexible.ensures, c.has_headers.ensures) at made.has_headers in
    let body = c.args.body.now in
    let less = strip_less body in
    let begins = c.requires in
    record { start = (begins.0, starts c.args.text.now (strip_bom body) (ending c.args.is_cut begins.0) c.from_reader-reader.result (omega (arith, less)) begins.1 (record { config = config; state = made.state; source = made.source }) untrimmed (inr (inr (headers, made.headers)))) }

pub returns-clause-line : goal.returns-clause-line
returns-clause-line c =
    let all = c.in_ok-draft.ensures.ok in
    line_of_no_record c.file_of.result c.args.text.now c.in_ok-draft.draft all.0 all.1 all.2 c.file_of.ensures.none

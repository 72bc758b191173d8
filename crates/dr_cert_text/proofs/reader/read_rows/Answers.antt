use Rattle.std.proofs.lemmas.Result.{err_from_is_err_and}
use Rattle.dr_cert_text.proofs.Rows.{no_lf, rows_fault}
use Rattle.dr_cert_text.proofs.reader.read_rows.Goals as goal

pub returns-in_default-split_at_byte : goal.returns-in_default-split_at_byte
returns-in_default-split_at_byte g c =
    let start = rw c.row_start.ensures at c.in-Some.ensures in
    no_lf g.P.Printed.word g.P.Printed.printed g.P.Printed.printable c.requires c.loop-behind.items.items c.args.text.now c.loop-behind.rest.now c.in-Some.behind.now
    c.loop-behind.invariant.0 c.loop-behind.invariant.1 start c.in_default-split_at_byte.ensures

pub returns-in_err-read : goal.returns-in_err-read
returns-in_err-read g c =
    let p = err_from_is_err_and c.from_residual.result c.from_residual.ensures.1 in
    let start = rw c.row_start.ensures at c.in-Some.ensures in
    rw (p.1, p.2)
    (rows_fault g.P.Printed.word g.P.Printed.printed g.P.Printed.printable c.requires c.loop-behind.items.items c.args.text.now c.loop-behind.rest.now c.in-Some.behind.now
    c.in-Some-split_at_byte.fields.now c.in-Some-split_at_byte.later.now c.loop-behind.invariant.0 c.loop-behind.invariant.1 start c.in-Some-split_at_byte.ensures c.in_err-read.field-0.0 c.in_err-read.ensures)

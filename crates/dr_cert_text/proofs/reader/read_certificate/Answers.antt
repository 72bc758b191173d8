use Rattle.std.proofs.Common.{◌++◌, ◌∷◌, sym, ◌∙◌, arith}
use Rattle.std.proofs.lemmas.Result.{err_from_is_err_and}
use Rattle.hex.specs.Hex.{encode_lower}
use Rattle.dr_cert_text.proofs.Injective.{line_plain, hop_plain}
use Rattle.dr_base.proofs.Numerals.{differ_from, same_from}
use Rattle.dr_cert_text.proofs.Whole.{text_is, behind_digest, no_lf_here, no_digest, hops_fault, lines_fault, all_lines, too_many, whole_read}
use Rattle.dr_cert_text.proofs.reader.read_certificate.Goals as goal

pub returns-in_default : goal.returns-in_default
returns-in_default c = λ certificate p e. c.in_default.ensures certificate.format (encode_lower certificate.digest ++ 10 ∷ behind_digest certificate) (sym e ∙ text_is certificate)

pub returns-in_default-split_at_byte : goal.returns-in_default-split_at_byte
returns-in_default-split_at_byte c = no_lf_here c.in-Some.format c.args.text.now c.in-Some.behind.now c.in-Some.ensures c.in_default-split_at_byte.ensures

pub returns-in_default-read_digest : goal.returns-in_default-read_digest
returns-in_default-read_digest c = no_digest c.in-Some.format c.args.text.now c.in-Some.behind.now _ _ c.in-Some.ensures c.in-Some-split_at_byte.ensures c.in_default-read_digest.ensures

pub read_rows-requires : goal.read_rows-requires
read_rows-requires c = hop_plain

pub read_rows-requires-2 : goal.read_rows-requires-2
read_rows-requires-2 c = line_plain

pub returns-in_err-hops : goal.returns-in_err-hops
returns-in_err-hops c =
    let p = err_from_is_err_and c.from_residual.result c.from_residual.ensures.1 in
    rw (p.1, p.2)
    (hops_fault c.in-Some.format c.args.text.now c.in-Some.behind.now c.in-Some-split_at_byte.digits.now c.in-Some-split_at_byte.rows.now c.in-Some.ensures c.in-Some-split_at_byte.ensures
    c.in_err-hops.field-0.0 c.in_err-hops.ensures)

pub returns-in_err-lines : goal.returns-in_err-lines
returns-in_err-lines c =
    let p = err_from_is_err_and c.from_residual-in_err-lines.result c.from_residual-in_err-lines.ensures.1 in
    rw (p.1, p.2)
    (lines_fault c.in-Some.format c.args.text.now c.in-Some.behind.now c.in-Some-split_at_byte.digits.now c.in-Some-split_at_byte.rows.now c.in_ok-hops.after_hops.now c.in_ok-hops.hops
    c.in-Some.ensures c.in-Some-split_at_byte.ensures c.in_ok-hops.ensures c.in_err-lines.field-0.0 c.in_err-lines.ensures)

pub returns-then-ne : goal.returns-then-ne
returns-then-ne c = λ certificate p e.
    let found = all_lines c.in-Some.format c.args.text.now c.in-Some.behind.now c.in-Some-split_at_byte.digits.now c.in-Some-split_at_byte.rows.now c.in_ok-hops.after_hops.now c.in_ok-lines.after_lines.now
    c.in_ok-hops.hops c.in_ok-lines.lines c.in-Some.ensures c.in-Some-split_at_byte.ensures c.in_ok-hops.ensures c.in_ok-lines.ensures certificate p e in
    differ_from c.ne.result _ _ c.ne.ensures c.if-ne.true (found.1 ∙ sym c.as_slice.ensures)

pub returns-then-len-gt-MAX_LINES : goal.returns-then-len-gt-MAX_LINES
returns-then-len-gt-MAX_LINES c =
    too_many c.in-Some.format c.args.text.now c.in-Some.behind.now c.in-Some-split_at_byte.digits.now c.in-Some-split_at_byte.rows.now c.in_ok-hops.after_hops.now c.in_ok-lines.after_lines.now
    c.in_ok-hops.hops c.in_ok-lines.lines c.in-Some.ensures c.in-Some-split_at_byte.ensures c.in_ok-hops.ensures c.in_ok-lines.ensures (omega (arith, c.len.ensures))

pub returns : goal.returns
returns c =
    whole_read c.args.text.now c.in-Some.behind.now c.in-Some-split_at_byte.digits.now c.in-Some-split_at_byte.rows.now c.in_ok-hops.after_hops.now c.in_ok-lines.after_lines.now
    (record { format = c.in-Some.format; digest = c.in-Some-read_digest.digest; hops = c.in_ok-hops.hops; lines = c.in_ok-lines.lines }) c.in-Some.ensures c.in-Some-split_at_byte.ensures c.in-Some-read_digest.ensures
    c.in_ok-hops.ensures c.in_ok-lines.ensures (same_from c.ne.result _ _ c.ne.ensures c.if-ne.false ∙ c.as_slice.ensures) (omega (arith, c.len.ensures))

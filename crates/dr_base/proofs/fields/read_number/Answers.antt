use Rattle.std.proofs.Common.{decimal, ◌∙◌, arith}
use Rattle.std.proofs.lemmas.Fmt.{IsAscii-decimal}
use Rattle.std.proofs.lemmas.Str.{IsUtf8-from_ascii}
use Rattle.dr_base.proofs.Numerals.{differ_from, not_a_number, not_this_number}
use Rattle.dr_base.proofs.fields.read_number.Goals as goal

pub returns-in_default : goal.returns-in_default
returns-in_default c = λ n is. c.in_default.ensures.cases.0 (rw (← is.0) (IsUtf8-from_ascii (decimal n) (IsAscii-decimal n (omega arith))))

pub returns-in_default-parse : goal.returns-in_default-parse
returns-in_default-parse c = not_a_number c.args.field.now c.in-Ok.text.now c.in-Ok.ensures.cases.0 c.in_default-parse.ensures.value.0

pub returns-then-ne : goal.returns-then-ne
returns-then-ne c =
    not_this_number c.args.field.now c.in-Ok.text.now c.as_bytes.result.now c.in-Ok-parse.number c.in-Ok.ensures.cases.0 c.in-Ok-parse.ensures.value.0 (c.as_bytes.ensures.value ∙ c.format.ensures.text)
    (differ_from c.ne.result _ _ c.ne.ensures c.if-ne.true)

use Rattle.std.proofs.Common.{◌≡◌, ap, sym, ◌∙◌}
use Rattle.hex.specs.Hex.{encode_lower}
use Rattle.dr_base.proofs.Numerals.{differ_from, same_from}
use Rattle.dr_cert_text.proofs.Numerals.{decoded, is_digest, same_digest}
use Rattle.dr_ledger_balance.proofs.fields.digest_of.Goals as goal

pub returns-in_default : goal.returns-in_default
returns-in_default c = λ digest is e. c.in_default.not-Ok digest (c.from_hex.ensures ∙ decoded digest c.args.digits.now is e)

pub returns-then-ne : goal.returns-then-ne
returns-then-ne c = λ digest is e.
    let one = same_digest c.in-Ok.digest digest c.from_hex.result c.in-Ok.is (c.from_hex.ensures ∙ decoded digest c.args.digits.now is e) in
    let again : c.as_slice-2.result.now ≡ encode_lower c.in-Ok.digest = c.as_slice-2.ensures ∙ c.in-Ok-encode_to_slice.ensures.written ∙ ap encode_lower c.as_slice.ensures in
    differ_from c.ne.result _ _ c.ne.ensures c.if-ne.true (again ∙ ap encode_lower one ∙ e)

pub returns : goal.returns
returns c =
    let again : c.as_slice-2.result.now ≡ encode_lower c.in-Ok.digest = c.as_slice-2.ensures ∙ c.in-Ok-encode_to_slice.ensures.written ∙ ap encode_lower c.as_slice.ensures in
    (is_digest c.in-Ok.digest c.args.digits.now c.from_hex.result c.in-Ok.is c.from_hex.ensures, sym again ∙ same_from c.ne.result _ _ c.ne.ensures c.if-ne.false)

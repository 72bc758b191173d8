use Rattle.std.proofs.Common.{◌∙◌, ◌++◌, ◌∷◌}
use Rattle.hex.specs.Hex.{encode_lower}
use Rattle.dr_ledger_read.proofs.Digests.{digest_cut, digest_then_is, no_digest, too_short, unended}
use Rattle.dr_ledger_read.proofs.digest.cut_digest.Goals as goal

pub returns-in_err-behind : goal.returns-in_err-behind
returns-in_err-behind c = rw c.from_residual.ensures (λ digest rest is. c.in_err-behind.ensures (encode_lower digest ++ 34 ∷ rest) (is.1 ∙ digest_then_is digest rest is.0.bytes))

pub returns-in_err-digits : goal.returns-in_err-digits
returns-in_err-digits c = rw c.from_residual-in_err-digits.ensures (too_short c.args.text.now c.in_ok-behind.behind.now c.in_ok-behind.ensures c.in_err-digits.ensures)

pub returns-in_err-rest : goal.returns-in_err-rest
returns-in_err-rest c =
    rw c.from_residual-in_err-rest.ensures
    (unended c.args.text.now c.in_ok-behind.behind.now c.in_ok-behind.ensures c.in_ok-digits.digits.now c.in_ok-digits.later.now c.in_ok-digits.ensures c.in_err-rest.ensures)

pub returns-in_err-digest : goal.returns-in_err-digest
returns-in_err-digest c =
    rw c.from_residual-in_err-digest.ensures
    (no_digest c.args.text.now c.in_ok-behind.behind.now c.in_ok-behind.ensures c.in_ok-digits.digits.now c.in_ok-digits.later.now c.in_ok-digits.ensures c.in_err-digest.ensures)

pub returns : goal.returns
returns c =
    digest_cut c.args.text.now c.in_ok-behind.behind.now c.in_ok-behind.ensures c.in_ok-digits.digits.now c.in_ok-digits.later.now c.in_ok-digits.ensures c.in_ok-digest.digest c.in_ok-rest.rest
    c.in_ok-rest.ensures c.in_ok-digest.ensures

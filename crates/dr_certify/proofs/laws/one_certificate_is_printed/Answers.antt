use Rattle.std.proofs.Common.{sym, ◌∙◌}
use Rattle.dr_cert_text.proofs.Whole.{same_certificate}
use Rattle.dr_certify.proofs.laws.one_certificate_is_printed.Goals as goal

pub returns : goal.returns
returns c = λ a b output one other.
    same_certificate one.certificate other.certificate one.printable other.printable (sym one.printed ∙ other.printed)

use Rattle.std.proofs.Common.{◌≤◌, length}
use Rattle.dr_plan_sound.specs.Soundness.{IsSound}
use Rattle.dr_plan_sound.specs.Certificates.{IsCertificateOf}
use Rattle.dr_cert_text.specs.Printable.{IsPrintable, IsDigest}
use Rattle.dr_certify.proofs.certificate.certify.Goals as goal

pub returns-in_ok-write_certificate-in-Ok-Yes : goal.returns-in_ok-write_certificate-in-Ok-Yes
returns-in_ok-write_certificate-in-Ok-Yes c = λ digest.
    let plan = c.args.plan.now in
    let judged : IsSound plan × IsCertificateOf plan c.in-Ok-Yes.certificate × (length c.in-Ok-Yes.certificate.lines ≤ 65536)
    × (IsDigest plan.digest → IsPrintable c.in-Ok-Yes.certificate) = rw c.in-Ok-Yes.field-0-is at c.in-Ok-Yes.ensures in
    record {
      certificate = c.in-Ok-Yes.certificate;
      sound = judged.0;
      own = judged.1;
      printable = judged.3 digest;
      printed = c.in_ok-write_certificate-in-Ok-Yes.ensures;
    }

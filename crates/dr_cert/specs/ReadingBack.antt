-- What is read of the text of a certificate.
use Rattle.std.specs.Prelude.{Result, Ok, Err}
use Rattle.dr_base.specs.Texts.{Text as Words}
use Rattle.dr_plan_sound.specs.declared.certificate.Certificate.{Certificate}
use Rattle.dr_cert_text.specs.CertificateText.{certificate_text}
use Rattle.dr_cert_text.specs.Printable.{IsPrintable}
use Rattle.dr_cert_text.specs.Reading.{IsReadBack, HasNone}
use Rattle.dr_cert.specs.declared.fault.CertFault.{CertFault}
use Rattle.dr_cert.specs.declared.fault.CertFault.TheVariants.{Text, Memory}

-- what reading a text answers: the certificate that is written so, or that none is
abbrev pub ReadsCertificate : Words → Result Certificate CertFault → Type 0
ReadsCertificate text (Ok certificate) = IsReadBack certificate_text IsPrintable text certificate
ReadsCertificate text (Err Text) = HasNone certificate_text IsPrintable text
ReadsCertificate text (Err Memory) = Unit {0}
ReadsCertificate text (Err other) = ⊥

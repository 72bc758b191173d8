-- What can be told from a text.
use Rattle.std.specs.Prelude.{◌≡◌, ◌≢◌, ◌⊎◌, [], ◌∷◌, ◌++◌, codes, Result, Ok, Err}
use Rattle.dr_base.specs.declared.syntax.Syntax.TheVariants.{Explicit}
use Rattle.dr_route.specs.declared.cell.OwnedField.TheVariants.{Literal, Prefix, Rest}
use Rattle.dr_plan_model.specs.declared.plan.Format.TheVariants.{One, Two}
use Rattle.dr_plan_sound.specs.declared.certificate.Line.{Line}
use Rattle.dr_plan_sound.specs.declared.certificate.Hop.{Hop}
use Rattle.dr_plan_sound.specs.declared.certificate.Certificate.{Certificate}
use Rattle.dr_plan_sound.specs.Printed.{printed_field, printed_line, printed_hop}
use Rattle.dr_cert_text.specs.declared.fault.CertificateFault.{CertificateFault}
use Rattle.dr_cert_text.specs.declared.fault.CertificateFault.TheVariants.{Memory}
use Rattle.dr_cert_text.specs.Reading.{Reads}
use Rattle.dr_cert_text.specs.CertificateText.{front, certificate_text}
use Rattle.dr_cert_text.specs.Printable.{IsPrintable, IsPrintableLine, IsPrintableHop}

-- two certificates that can be read back and have one text are one certificate
abbrev pub OneCertificateForAText : Type 0
OneCertificateForAText =
    (a b : Certificate) → IsPrintable a → IsPrintable b
    → certificate_text a ≡ certificate_text b
    → a ≡ b

-- two lines that can be read back and are printed alike are one line
abbrev pub OneLineForAText : Type 0
OneLineForAText =
    (a b : Line) → IsPrintableLine a → IsPrintableLine b → printed_line a ≡ printed_line b → a ≡ b

-- two hops that can be read back and are printed alike are one hop
abbrev pub OneHopForAText : Type 0
OneHopForAText =
    (a b : Hop) → IsPrintableHop a → IsPrintableHop b → printed_hop a ≡ printed_hop b → a ≡ b

-- two lines that can be read back, of different stops, are printed differently, whatever their
-- ranks are
abbrev pub StopsAreToldApart : Type 0
StopsAreToldApart =
    (a b : Line) → IsPrintableLine a → IsPrintableLine b → a.stop ≢ b.stop
    → printed_line a ≢ printed_line b

-- two lines that would be printed alike with one rank are of one stop
abbrev pub OneStopForATextUpToTheRank : Type 0
OneStopForATextUpToTheRank =
    (a b : Line) → IsPrintableLine a → IsPrintableLine b
    → printed_line (record a { rank = b.rank }) ≡ printed_line b
    → a.stop ≡ b.stop

-- reading the text of a certificate gives that certificate, or memory runs out
abbrev pub WhatIsWrittenIsRead : Type 0
WhatIsWrittenIsRead =
    (certificate : Certificate)
    → IsPrintable certificate
    → (answer : Result Certificate CertificateFault)
    → Reads certificate_text IsPrintable (certificate_text certificate) answer
    → (answer ≡ Ok certificate) ⊎ (answer ≡ Err Memory)

-- the certificate of the empty plan, whose digest is the SHA-256 of no bytes
abbrev pub empty_plan : Certificate
empty_plan = record {
  format = One;
  digest =
      0xe3 ∷ 0xb0 ∷ 0xc4 ∷ 0x42 ∷ 0x98 ∷ 0xfc ∷ 0x1c ∷ 0x14 ∷ 0x9a ∷ 0xfb ∷ 0xf4 ∷ 0xc8 ∷ 0x99
      ∷ 0x6f ∷ 0xb9 ∷ 0x24 ∷ 0x27 ∷ 0xae ∷ 0x41 ∷ 0xe4 ∷ 0x64 ∷ 0x9b ∷ 0x93 ∷ 0x4c ∷ 0xa4 ∷ 0x95
      ∷ 0x99 ∷ 0x1b ∷ 0x78 ∷ 0x52 ∷ 0xb8 ∷ 0x55 ∷ [];
  hops = [];
  lines = [];
}

-- the text of the empty plan's certificate: three rows, `certificate` 1, `plan` with the digest in
-- hex, and `end`
abbrev pub TextOfTheEmptyPlan : Type 0
TextOfTheEmptyPlan =
    certificate_text empty_plan
    ≡ codes "certificate" ++ (9 ∷ codes "1") ++ (10 ∷ codes "plan")
    ++ (9 ∷ codes "e3b0c44298fc1c149afbf4c8996fb92427ae41e4649b934ca495991b7852b855")
    ++ (10 ∷ codes "end") ++ (10 ∷ [])

-- a hop from `A tab B` to `C`, which no plan has, as a title has no tab
abbrev pub tab_in_the_sender : Hop
tab_in_the_sender = record {
  «from» = codes "A" ++ (9 ∷ codes "B");
  «to» = codes "C";
  id = 1;
  class = [];
  syntax = Explicit;
}

-- a hop from `A` to `B tab C`, which no plan has, as a title has no tab
abbrev pub tab_in_the_receiver : Hop
tab_in_the_receiver = record {
  «from» = codes "A";
  «to» = codes "B" ++ (9 ∷ codes "C");
  id = 1;
  class = [];
  syntax = Explicit;
}

-- with a tab in a title two hops would be printed alike, so titles without tabs are asked for
abbrev pub TabsAreNotToldApart : Type 0
TabsAreNotToldApart = printed_hop tab_in_the_sender ≡ printed_hop tab_in_the_receiver

-- a literal that is an asterisk would be printed as none of what the plan names, so there is none
abbrev pub AnAsteriskIsNotTold : Type 0
AnAsteriskIsNotTold = printed_field (Literal (codes "*")) ≡ printed_field Rest

-- a literal with an asterisk at its end would be printed as a prefix, so there is none
abbrev pub APrefixIsNotALiteral : Type 0
APrefixIsNotALiteral =
    printed_field (Prefix (codes "CT")) ≡ printed_field (Literal (codes "CT*"))

-- the text of a certificate for a plan of format 2 begins with `certificate`, a tab and 2
abbrev pub FormatTwoIsVersionTwo : Type 0
FormatTwoIsVersionTwo =
    front Two ≡ codes "certificate" ++ (9 ∷ codes "2") ++ (10 ∷ codes "plan") ++ (9 ∷ [])

use Rattle.std.proofs.Common.{subst}
use Rattle.std.specs.declared.option.Option.{Option}
use Rattle.dr_base.specs.Texts.{Text}
use Rattle.std.specs.Io.KnownBytes.{Appends}
use Rattle.dr_certify.specs.Certified.{FindsCertificate, HasNoCertificate, IsCertifiedCore}
use Rattle.dr_certify.proofs.Moved.{moved, printed}
use Rattle.dr_certify.proofs.certificate.print_certificate.Goals as goal

pub returns-clause-none : goal.returns-clause-none
returns-clause-none g c = λ is.
    let P : Option Text → Type 0 = λ found. FindsCertificate c.as_slice.result.now found in
    let none : HasNoCertificate c.as_slice.result.now = subst P c.in-None.is c.in_ok-certificate.ensures in
    let Q : Text → Type 0 = λ text. HasNoCertificate text in
    moved (g.R.Read.remaining c.args.input.now) c.in_ok-text.text.items c.in_ok-text.ensures (subst Q c.as_slice.ensures.value none)

pub returns-in-Some-clause-printed : goal.returns-in-Some-clause-printed
returns-in-Some-clause-printed g c = λ is.
    let P : Option Text → Type 0 = λ found. FindsCertificate c.as_slice.result.now found in
    let certified : IsCertifiedCore c.as_slice.result.now c.in-Some.certificate = subst P c.in-Some.is c.in_ok-certificate.ensures in
    let Q : Text → Type 0 = λ text. IsCertifiedCore text c.in-Some.certificate in
    let R : Text → Type 0 = λ out. Appends (g.W.Write.contents c.args.output.now) (g.W.Write.contents c.write_all.new.self) out in
    printed (g.R.Read.remaining c.args.input.now) c.in_ok-text.text.items (g.W.Write.contents c.args.output.now) (g.W.Write.contents c.write_all.new.self) c.in_ok-text.ensures
    (c.in-Some.certificate, subst Q c.as_slice.ensures.value certified, subst R c.as_bytes.ensures c.in_ok-write_all-in-Some.ensures.bytes)

use Rattle.std.proofs.Common.{◌≡◌, sym, ◌∙◌}
use Rattle.std.specs.Cmp.Lexicographic.{nat_list_cmp_total}
use Rattle.std.proofs.lemmas.Cmp.{on_total}
use Rattle.dr_base.specs.Texts.{text_cmp}
use Rattle.dr_plan_model.specs.Networks.{Network}
use Rattle.dr_plan_sound.specs.declared.certificate.Line.{Line}
use Rattle.dr_plan_sound.specs.declared.certificate.Hop.{Hop}
use Rattle.dr_plan_sound.specs.declared.certificate.Certificate.{Certificate}
use Rattle.dr_plan_sound.specs.Certificates.{IsCertificateOf}
use Rattle.dr_plan_sound.specs.Printed.{printed_line, printed_hop}
use Rattle.dr_cert_hops.proofs.Rows.{same_sorted}
use Rattle.dr_cert.proofs.laws.a_plan_has_one_certificate.Goals as goal

same_parts : (a b : Certificate) → a.format ≡ b.format → a.digest ≡ b.digest → a.hops ≡ b.hops → a.lines ≡ b.lines → a ≡ b
same_parts a b format digest hops lines =
    λ i. record { format = format i; digest = digest i; hops = hops i; lines = lines i }

one : (plan : Network) (a b : Certificate) → IsCertificateOf plan a → IsCertificateOf plan b → a ≡ b
one plan a b x y = same_parts a b
    (x.format ∙ sym y.format)
    (x.digest ∙ sym y.digest)
    (same_sorted (λ (p q : Hop). text_cmp (printed_hop p) (printed_hop q)) (on_total (λ (p : Hop). printed_hop p) nat_list_cmp_total) a.hops b.hops x.hops_ordered y.hops_ordered
    (λ hop. (λ h. (y.hops hop).1 ((x.hops hop).0 h), λ h. (x.hops hop).1 ((y.hops hop).0 h))))
    (same_sorted (λ (p q : Line). text_cmp (printed_line p) (printed_line q)) (on_total (λ (p : Line). printed_line p) nat_list_cmp_total) a.lines b.lines x.lines_ordered y.lines_ordered
    (λ line. (λ h. (y.lines line).1 ((x.lines line).0 h), λ h. (x.lines line).1 ((y.lines line).0 h))))

pub returns : goal.returns
returns c = one

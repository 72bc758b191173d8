use Rattle.std.proofs.Common.{◌≡◌, ℕ, ◌≤◌, ◌∙◌, ap, List, length, arith}
use Rattle.std.specs.Cmp.Lexicographic.{nat_list_cmp_total}
use Rattle.std.specs.List.Sorted.{IsStrictlySortedBy}
use Rattle.std.proofs.lemmas.Cmp.{on_total}
use Rattle.dr_base.specs.Texts.{Text, text_cmp}
use Rattle.dr_plan_model.specs.Networks.{Network}
use Rattle.dr_route.specs.declared.key.Key.{Key}
use Rattle.dr_plan_sound.specs.declared.certificate.Hop.{Hop}
use Rattle.dr_plan_sound.specs.Printed.{printed_hop}
use Rattle.dr_cert_hops.proofs.Rows.{same_sorted}
use Rattle.dr_cert_trace.specs.declared.tracing.Journey.{Journey}
use Rattle.dr_cert_trace.specs.Traces.{IsJourney}
use Rattle.dr_cert_trace.proofs.TwoNodes.{in_order}
use Rattle.dr_cert_trace.proofs.laws.a_key_has_one_journey.Goals as goal

one : (plan : Network) (site : Text) (key : Key) (a b : Journey) → IsJourney plan site key a → IsJourney plan site key b → a ≡ b
one plan site key a b x y =
    let mk : ℕ → List Hop → List Text → Journey = λ r hs ks. record { rank = r; hops = hs; keeps = ks } in
    let l = x.rank.longest in
    let m = y.rank.longest in
    let up : length l.0 ≤ b.rank = y.rank.greatest l.0 l.1 in
    let down : length m.0 ≤ a.rank = x.rank.greatest m.0 m.1 in
    let at : length l.0 ≡ a.rank = l.2 in
    let bt : length m.0 ≡ b.rank = m.2 in
    let rank : a.rank ≡ b.rank = omega arith in
    let hops : a.hops ≡ b.hops = same_sorted (λ (p q : Hop). text_cmp (printed_hop p) (printed_hop q)) (on_total (λ (p : Hop). printed_hop p) nat_list_cmp_total) a.hops b.hops x.hops_ordered y.hops_ordered
    (λ hop. (λ h. (y.hops hop).1 ((x.hops hop).0 h), λ h. (x.hops hop).1 ((y.hops hop).0 h))) in
    let keeps : a.keeps ≡ b.keeps = same_sorted text_cmp nat_list_cmp_total a.keeps b.keeps (in_order a.keeps x.keeps_ordered) (in_order b.keeps y.keeps_ordered)
    (λ name. (λ h. (y.keeps name).1 ((x.keeps name).0 h), λ h. (x.keeps name).1 ((y.keeps name).0 h))) in
    ap (λ (r : ℕ). mk r a.hops a.keeps) rank ∙ (ap (λ (hs : List Hop). mk b.rank hs a.keeps) hops ∙ ap (λ (ks : List Text). mk b.rank b.hops ks) keeps)

pub returns : goal.returns
returns c = one

-- What was found of a key's way, with the contexts of its hops.
use Rattle.std.proofs.Common.{ℕ, ◌↔◌, List, Contains}
use Rattle.std.specs.BTreeSet.{BTreeSet}
use Rattle.dr_base.specs.Texts.{Text, IsInByteOrder}
use Rattle.dr_route.specs.Names.{HasName}
use Rattle.dr_route.specs.Routes.{local}
use Rattle.dr_route.specs.declared.key.Key.{Key}
use Rattle.dr_plan_model.specs.Networks.{Network}
use Rattle.dr_plan_model.specs.Walks.{IsEntry}
use Rattle.dr_plan_sound.specs.declared.certificate.Certificate.{Certificate}
use Rattle.dr_plan_sound.specs.declared.certificate.Hop.{Hop}
use Rattle.dr_plan_sound.specs.Certificates.{IsCertificateOf}
use Rattle.dr_plan_sound.specs.Soundness.{IsRank}
use Rattle.dr_cert.specs.Conditions.{AreHopsInOrder}
use Rattle.dr_cert_trace.specs.Found.{AreFound, Carries}
use Rattle.dr_cert_trace.specs.Traces.{IsJourney}

module _ (plan : Network) (certificate : Certificate) (site : Text) (key : Key) (own : IsCertificateOf plan certificate) where
  pub is_journey : (pairs : BTreeSet (Text × Text)) (found_keeps : BTreeSet Text) → AreFound plan site key pairs found_keeps → (rank : ℕ) (hops : List Hop) (keeps : List Text) →
      IsEntry plan site key → IsRank plan key local site rank →
      ((hop : Hop) → Contains hops hop ↔ (Contains certificate.hops hop × Carries key pairs hop)) → AreHopsInOrder hops →
      ((name : Text) → Contains keeps name ↔ HasName found_keeps name) → IsInByteOrder keeps →
      IsJourney plan site key (record { rank = rank; hops = hops; keeps = keeps })
  is_journey pairs found_keeps found rank hops keeps entry is_rank each ordered kept kept_ordered = record {
    enters = entry;
    rank = is_rank;
    hops = λ hop. (
      λ h. (let e = (each hop).0 h in ((own.hops hop).0 e.0, e.1.0, e.1.1, (found.goes hop.from hop.to).0 e.1.2)),
      λ h. (each hop).1 ((own.hops hop).1 h.0, (h.1, h.2, (found.goes hop.from hop.to).1 h.3)),
    );
    hops_ordered = ordered;
    keeps = λ dest. (λ h. (found.ends dest).0 ((kept dest).0 h), λ h. (kept dest).1 ((found.ends dest).1 h));
    keeps_ordered = kept_ordered;
  }

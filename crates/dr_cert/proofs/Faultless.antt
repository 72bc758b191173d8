-- A sound plan with its certificate meets no fault.
use Rattle.std.proofs.Common.{◌≡◌, inl, inr, refl}
use Rattle.dr_plan_model.specs.Networks.{Network}
use Rattle.dr_plan_sound.specs.declared.certificate.Certificate.{Certificate}
use Rattle.dr_plan_sound.specs.Soundness.{IsSound}
use Rattle.dr_plan_sound.specs.Certificates.{IsCertificateOf}
use Rattle.dr_plan_sound.proofs.Ranks.{sound_has_rank}
use Rattle.dr_cert.specs.declared.fault.CertFault.{CertFault}
use Rattle.dr_cert.specs.declared.fault.CertFault.TheVariants.{Text, OtherPlan, Order, MissingLine, NoContext, DeadEnd, WrongRank, HopList, Memory}
use Rattle.dr_cert.specs.Conditions.{HasRightHops, UpToRanks}
use Rattle.dr_cert.specs.Refusing.{IsRefused}

meets_all : (plan : Network) (certificate : Certificate) → IsSound plan → IsCertificateOf plan certificate → UpToRanks plan certificate × HasRightHops plan certificate.hops
meets_all plan certificate sound own = (
  (
    (
      (
        (
          (
            ((own.format, own.digest), (own.lines_ordered, own.hops_ordered)),
            (λ stop r.
                let rank = sound_has_rank plan sound r.0 stop.caller stop.node r.2 in
                (rank.0, (own.lines (record { stop = stop; rank = rank.0 })).1 (r.0, r.1, r.2, rank.1))),
          ),
          sound.accepted,
        ),
        sound.goes_on,
      ),
      (λ line among. let has = (own.lines line).0 among in (has.0, has.1, has.2)),
    ),
    (λ line among. (own.lines line).0 among),
  ),
  (sound.few_pairs, own.hops),
)

refused : (plan : Network) (certificate : Certificate) → UpToRanks plan certificate × HasRightHops plan certificate.hops → (fault : CertFault) → IsRefused plan certificate fault → fault ≡ Memory
refused plan certificate all Text h = absurd h
refused plan certificate all OtherPlan h = absurd (h all.0.0.0.0.0.0.0)
refused plan certificate all Order (inl h) = absurd (h.1 all.0.0.0.0.0.0.1)
refused plan certificate all Order (inr h) = absurd (h.1 all.0.0.1)
refused plan certificate all MissingLine h = absurd (h.1 all.0.0.0.0.0.1)
refused plan certificate all NoContext h = absurd (h.1 all.0.0.0.0.1)
refused plan certificate all DeadEnd h = absurd (h.1 all.0.0.0.1)
refused plan certificate all WrongRank h = absurd (h.1 all.0.1)
refused plan certificate all HopList h = absurd (h.1 all.1)
refused plan certificate all Memory h = refl

pub own_is_taken : (plan : Network) (certificate : Certificate) → IsSound plan → IsCertificateOf plan certificate → (fault : CertFault) → IsRefused plan certificate fault → fault ≡ Memory
own_is_taken plan certificate sound own = refused plan certificate (meets_all plan certificate sound own)

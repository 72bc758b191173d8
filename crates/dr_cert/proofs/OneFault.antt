-- The first condition that fails is one, so that a plan and a certificate have one fault at most.
use Rattle.std.proofs.Common.{◌≡◌, ◌≢◌, ℕ, zero, suc, ◌<◌, inl, inr, refl, sym, ◌∙◌, ap, subst, arith}
use Rattle.std.proofs.lemmas.Bool.{cases_lt, cases_eq}
use Rattle.dr_plan_model.specs.Networks.{Network}
use Rattle.dr_plan_sound.specs.declared.certificate.Certificate.{Certificate}
use Rattle.dr_cert.specs.declared.fault.CertFault.{CertFault}
use Rattle.dr_cert.specs.declared.fault.CertFault.TheVariants.{Text, OtherPlan, Order, MissingLine, NoContext, DeadEnd, WrongRank, HopList, Memory}
use Rattle.dr_cert.specs.Conditions.{IsOfPlan, IsInOrder, HasEachLine, AcceptsEachHop, GoesOnEverywhere, ReachesEachLine, HasRightRanks, HasRightHops}
use Rattle.dr_cert.specs.Refusing.{IsRefused}

-- the conditions by number
abbrev Meets : Network → Certificate → ℕ → Type 0
Meets plan certificate zero = IsOfPlan plan certificate
Meets plan certificate (suc zero) = IsInOrder certificate
Meets plan certificate (suc (suc zero)) = HasEachLine plan certificate.lines
Meets plan certificate (suc (suc (suc zero))) = AcceptsEachHop plan
Meets plan certificate (suc (suc (suc (suc zero)))) = GoesOnEverywhere plan
Meets plan certificate (suc (suc (suc (suc (suc zero))))) = ReachesEachLine plan certificate.lines
Meets plan certificate (suc (suc (suc (suc (suc (suc zero)))))) = HasRightRanks plan certificate.lines
Meets plan certificate (suc (suc (suc (suc (suc (suc (suc n))))))) = HasRightHops plan certificate.hops

abbrev fault_of : ℕ → CertFault
fault_of zero = OtherPlan
fault_of (suc zero) = Order
fault_of (suc (suc zero)) = MissingLine
fault_of (suc (suc (suc zero))) = NoContext
fault_of (suc (suc (suc (suc zero)))) = DeadEnd
fault_of (suc (suc (suc (suc (suc zero))))) = Order
fault_of (suc (suc (suc (suc (suc (suc zero)))))) = WrongRank
fault_of (suc (suc (suc (suc (suc (suc (suc n))))))) = HopList

-- the first conditions, so many of them
abbrev UpTo : Network → Certificate → ℕ → Type 0
UpTo plan certificate zero = Unit {0}
UpTo plan certificate (suc n) = UpTo plan certificate n × Meets plan certificate n

below : (plan : Network) (certificate : Certificate) (n k : ℕ) → UpTo plan certificate n → k < n → Meets plan certificate k
below plan certificate zero k h lt = absurd (omega arith)
below plan certificate (suc n) k h lt = elim (cases_lt k n) [
  | inl earlier ↦ below plan certificate n k h.0 earlier
  | inr here ↦ (let same : n ≡ k = omega arith in let P : ℕ → Type 0 = λ m. Meets plan certificate m in subst P same h.1)
]

record FirstFails (plan : Network) (certificate : Certificate) (fault : CertFault) : Type 0 where
  number : ℕ
  before : UpTo plan certificate number
  fails : Meets plan certificate number → ⊥
  named : fault ≡ fault_of number

first_fails : (plan : Network) (certificate : Certificate) (fault : CertFault) → fault ≢ Memory → IsRefused plan certificate fault → FirstFails plan certificate fault
first_fails plan certificate Text other h = absurd h
first_fails plan certificate OtherPlan other h = record { number = 0; before = tt; fails = h; named = refl }
first_fails plan certificate Order other (inl h) = record { number = 1; before = (tt, h.0); fails = h.1; named = refl }
first_fails plan certificate Order other (inr h) = record { number = 5; before = (((((tt, h.0.0.0.0.0), h.0.0.0.0.1), h.0.0.0.1), h.0.0.1), h.0.1); fails = h.1; named = refl }
first_fails plan certificate MissingLine other h = record { number = 2; before = ((tt, h.0.0), h.0.1); fails = h.1; named = refl }
first_fails plan certificate NoContext other h = record { number = 3; before = (((tt, h.0.0.0), h.0.0.1), h.0.1); fails = h.1; named = refl }
first_fails plan certificate DeadEnd other h = record { number = 4; before = ((((tt, h.0.0.0.0), h.0.0.0.1), h.0.0.1), h.0.1); fails = h.1; named = refl }
first_fails plan certificate WrongRank other h = record { number = 6; before = ((((((tt, h.0.0.0.0.0.0), h.0.0.0.0.0.1), h.0.0.0.0.1), h.0.0.0.1), h.0.0.1), h.0.1); fails = h.1; named = refl }
first_fails plan certificate HopList other h = record { number = 7; before = (((((((tt, h.0.0.0.0.0.0.0), h.0.0.0.0.0.0.1), h.0.0.0.0.0.1), h.0.0.0.0.1), h.0.0.0.1), h.0.0.1), h.0.1); fails = h.1; named = refl }
first_fails plan certificate Memory other h = absurd (other refl)

pub one_fault : (plan : Network) (certificate : Certificate) (f g : CertFault) → f ≢ Memory → g ≢ Memory → IsRefused plan certificate f → IsRefused plan certificate g → f ≡ g
one_fault plan certificate f g other_f other_g refused_f refused_g =
    let a = first_fails plan certificate f other_f refused_f in
    let b = first_fails plan certificate g other_g refused_g in
    elim (cases_lt a.number b.number) [
      | inl before ↦ absurd (a.fails (below plan certificate b.number a.number b.before before))
      | inr not_before ↦ elim (cases_eq a.number b.number) [
        | inl same ↦ a.named ∙ (ap fault_of same ∙ sym b.named)
        | inr apart ↦ (let after : b.number < a.number = omega arith in absurd (b.fails (below plan certificate a.number b.number a.before after)))
      ]
    ]

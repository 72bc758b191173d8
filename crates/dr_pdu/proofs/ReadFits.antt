-- What was read under some limit has a spelling.
use Rattle.std.proofs.Common.{◌≡◌, ℕ, ◌≤◌, Bool, true, false, cond, eqb, ltb, List, length, Some, None, refl, sym, ap, subst, arith, inl, inr}
use Rattle.std.proofs.lemmas.Bool.{ltb-false}
use Rattle.dr_pdu.specs.declared.pdu.Pdu.{Pdu}
use Rattle.dr_pdu.specs.declared.pdu.Pdu.TheVariants.{AssociateRq, AssociateAc, AssociateRj, Transfer, ReleaseRq, ReleaseRp, Abort}
use Rattle.dr_pdu.specs.declared.fault.PduFault.TheVariants.{TooLong}
use Rattle.dr_pdu.specs.Grammar.{header_fault, Spells}
use Rattle.dr_pdu.specs.Written.{Fits, MeetsLimit}
use Rattle.dr_pdu.proofs.FitLemmas.{values_are}
use Rattle.dr_pdu.proofs.WrittenLemmas.{no_data_fault}

-- another type than that of a P-DATA-TF shows the same under each limit
moved : (limit kind k n : ℕ) → kind ≡ k → (header_fault limit k n ≡ None → header_fault 0 k n ≡ None) → header_fault limit kind n ≡ None → header_fault 0 kind n ≡ None
moved limit kind k n is on h = subst (λ (x : ℕ). header_fault 0 x n ≡ None) (sym is) (on (subst (λ (x : ℕ). header_fault limit x n ≡ None) is h))

zero_no_more : ◌≡◌ {A = ℕ} 134217728 0 → ⊥
zero_no_more e = omega (arith, e)

pub read_fits : (limit : ℕ) (text : List ℕ) (p : Pdu) → MeetsLimit 134217728 p → Spells limit text p → Fits p
read_fits limit text (AssociateRq rq) m (kind, body, whole, is, ids) = (text, (kind, body, (whole.0, moved limit kind 1 (length body) is.0 (λ h. h) whole.1), is, ids))
read_fits limit text (AssociateAc ac) m (kind, body, whole, is, ids) = (text, (kind, body, (whole.0, moved limit kind 2 (length body) is.0 (λ h. h) whole.1), is, ids))
read_fits limit text (AssociateRj rj) m (kind, body, whole, is, ids) = (text, (kind, body, (whole.0, moved limit kind 3 (length body) is.0 (λ h. h) whole.1), is, ids))
read_fits limit text ReleaseRq m (kind, body, whole, is, ids) = (text, (kind, body, (whole.0, moved limit kind 5 (length body) is.0 (λ h. h) whole.1), is, ids))
read_fits limit text ReleaseRp m (kind, body, whole, is, ids) = (text, (kind, body, (whole.0, moved limit kind 6 (length body) is.0 (λ h. h) whole.1), is, ids))
read_fits limit text (Abort a) m (kind, body, whole, is, ids) = (text, (kind, body, (whole.0, moved limit kind 7 (length body) is.0 (λ h. h) whole.1), is, ids))
read_fits limit text (Transfer pdvs) (inl zero') s = absurd (zero_no_more zero')
read_fits limit text (Transfer pdvs) (inr most) (kind, body, whole, is, ids) =
    let same = ap (λ (t : List ℕ). length t) (values_are pdvs body is.1) in
    (text, (kind, body, (whole.0, moved limit kind 4 (length body) is.0 (λ h. no_data_fault 0 (length body) (omega (arith, same, most)) (inl refl)) whole.1), is, ids))

-- a limit that is no greater than the greatest length holds the length below that
below_greatest : (limit n : ℕ) → limit ≤ 134217728 → header_fault limit 4 n ≡ None → n ≤ 134217728
below_greatest limit n most h = by_limit (eqb limit 0) refl
  where
    by_test : (m : ℕ) (t : Bool) → m ≤ 134217728 → ltb m n ≡ t → cond t (Some TooLong) None ≡ None → n ≤ 134217728
    by_test m true small e k = absurd (cc)
    by_test m false small e k = omega (arith, small, ltb-false m n e)

    by_limit : (b : Bool) → eqb limit 0 ≡ b → n ≤ 134217728
    by_limit true e = by_test 134217728 (ltb 134217728 n) (omega arith) refl (subst (λ (t : Bool). cond (ltb (cond t 134217728 limit) n) (Some TooLong) None ≡ None) e h)
    by_limit false e = by_test limit (ltb limit n) most refl (subst (λ (t : Bool). cond (ltb (cond t 134217728 limit) n) (Some TooLong) None ≡ None) e h)

meets_greatest : (limit : ℕ) (text : List ℕ) (p : Pdu) → limit ≤ 134217728 → Spells limit text p → MeetsLimit 134217728 p
meets_greatest limit text (Transfer pdvs) most (kind, body, whole, is, ids) =
    let same = ap (λ (t : List ℕ). length t) (values_are pdvs body is.1) in
    inr (omega (arith, same, below_greatest limit (length body) most (subst (λ (k : ℕ). header_fault limit k (length body) ≡ None) is.0 whole.1)))
meets_greatest limit text (AssociateRq rq) most s = tt
meets_greatest limit text (AssociateAc ac) most s = tt
meets_greatest limit text (AssociateRj rj) most s = tt
meets_greatest limit text ReleaseRq most s = tt
meets_greatest limit text ReleaseRp most s = tt
meets_greatest limit text (Abort a) most s = tt

pub read_within_fits : (limit : ℕ) (text : List ℕ) (p : Pdu) → limit ≤ 134217728 → Spells limit text p → Fits p
read_within_fits limit text p most s = read_fits limit text p (meets_greatest limit text p most s) s

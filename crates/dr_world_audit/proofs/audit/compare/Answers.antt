use Rattle.std.proofs.Common.{inl, inr, subst, sym, Contains}
use Rattle.dr_world_audit.proofs.audit.compare.Goals as goal

pub returns-in-Some : goal.returns-in-Some
returns-in-Some c =
    let hop = c.in-Some.hop.now in
    let u = c.in-Some.ensures in
    inl (
      hop,
      subst (λ hs. Contains hs hop) c.as_slice.ensures.value u.0,
      (u.1.0, u.1.1, λ h. u.1.2 (subst (λ hs. Contains hs hop) (sym c.as_slice-2.ensures.value) ((c.in_order-sent.ensures.same hop).1 h))),
      c.in_ok-mismatch.ensures,
    )

pub returns-in-Some-first_unanswered : goal.returns-in-Some-first_unanswered
returns-in-Some-first_unanswered c =
    let hop = c.in-Some-first_unanswered.hop.now in
    let u = c.in-Some-first_unanswered.ensures in
    inr (
      hop,
      subst (λ hs. Contains hs hop) c.as_slice-3.ensures.value u.0,
      (u.1.0, λ h. u.1.1 (subst (λ hs. Contains hs hop) (sym c.as_slice-4.ensures.value) ((c.in_order-came.ensures.same hop).1 h))),
      c.in_ok-mismatch-2.ensures,
    )

pub returns : goal.returns
returns c = (
  λ hop among u. c.in_default.ensures hop (subst (λ hs. Contains hs hop) (sym c.as_slice.ensures.value) among)
      (u.0, u.1, λ h. u.2 ((c.in_order-sent.ensures.same hop).0 (subst (λ hs. Contains hs hop) c.as_slice-2.ensures.value h))),
  λ hop among u. c.in_default-first_unanswered.ensures hop (subst (λ hs. Contains hs hop) (sym c.as_slice-3.ensures.value) among)
      (u.0, λ h. u.1 ((c.in_order-came.ensures.same hop).0 (subst (λ hs. Contains hs hop) c.as_slice-4.ensures.value h))),
)

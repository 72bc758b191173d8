use Rattle.std.proofs.Common.{inr}
use Rattle.dr_cert.specs.Conditions.{UpToEnds}
use Rattle.dr_cert.specs.Finding.{AreWalked}
use Rattle.dr_cert.proofs.Verified.{each_from, each_to, reaches_all_from, reaches_all_to, on, off}
use Rattle.dr_cert.proofs.verify.test_walk.Goals as goal

pub returns-in_default : goal.returns-in_default
returns-in_default c = (
  c.requires.begun,
  (λ each. (rw c.in_default.is at c.in_ok-walked.ensures) (each_to c.args.plan.now c.args.certificate.now.lines c.args.index.now c.requires.indexed each)),
)

pub returns-then-not-walked : goal.returns-then-not-walked
returns-then-not-walked c =
    let w : AreWalked c.args.plan.now c.args.index.now c.in-Some.walked = rw c.in-Some.is at c.in_ok-walked.ensures in (
      (c.requires.begun, each_from c.args.plan.now c.args.certificate.now.lines c.args.index.now c.requires.indexed w.whole),
      (λ accepts. off c.in-Some.walked.survey.accepted c.if-not-walked.true (w.accepted.1 accepts)),
    )

pub returns-then-not-walked-2 : goal.returns-then-not-walked-2
returns-then-not-walked-2 c =
    let w : AreWalked c.args.plan.now c.args.index.now c.in-Some.walked = rw c.in-Some.is at c.in_ok-walked.ensures in (
      ((c.requires.begun, each_from c.args.plan.now c.args.certificate.now.lines c.args.index.now c.requires.indexed w.whole), w.accepted.0 (on c.in-Some.walked.survey.accepted c.if-not-walked.false)),
      (λ goes. off c.in-Some.walked.survey.goes_on c.if-not-walked-2.true (w.goes_on.1 goes)),
    )

pub returns-then-not-walked-3 : goal.returns-then-not-walked-3
returns-then-not-walked-3 c =
    let w : AreWalked c.args.plan.now c.args.index.now c.in-Some.walked = rw c.in-Some.is at c.in_ok-walked.ensures in
    inr (
      (((c.requires.begun, each_from c.args.plan.now c.args.certificate.now.lines c.args.index.now c.requires.indexed w.whole), w.accepted.0 (on c.in-Some.walked.survey.accepted c.if-not-walked.false)), w.goes_on.0 (on c.in-Some.walked.survey.goes_on c.if-not-walked-2.false)),
      (λ reaches. off c.in-Some.walked.reached c.if-not-walked-3.true (w.reached.1 (reaches_all_to c.args.plan.now c.args.certificate.now.lines c.args.index.now c.requires.indexed reaches))),
    )

pub returns : goal.returns
returns c =
    let w : AreWalked c.args.plan.now c.args.index.now c.in-Some.walked = rw c.in-Some.is at c.in_ok-walked.ensures in
    let to_ends : UpToEnds c.args.plan.now c.args.certificate.now = (((c.requires.begun, each_from c.args.plan.now c.args.certificate.now.lines c.args.index.now c.requires.indexed w.whole), w.accepted.0 (on c.in-Some.walked.survey.accepted c.if-not-walked.false)), w.goes_on.0 (on c.in-Some.walked.survey.goes_on c.if-not-walked-2.false)) in (
      w.formed,
      (to_ends, reaches_all_from c.args.plan.now c.args.certificate.now.lines c.args.index.now c.requires.indexed (w.reached.0 (on c.in-Some.walked.reached c.if-not-walked-3.false))),
      ((λ ranked. w.ranked (on c.in-Some.walked.survey.accepted c.if-not-walked.false) (on c.in-Some.walked.survey.goes_on c.if-not-walked-2.false) (on c.in-Some.walked.reached c.if-not-walked-3.false) ranked), w.wrong),
    )

use Rattle.std.proofs.Common.{sym, ◌∙◌, subst, List, Contains}
use Rattle.std.specs.Prelude.{IsTrue, ◌↔◌}
use Rattle.std.proofs.lemmas.Bool.{false≢true}
use Rattle.dr_plan_sound.specs.declared.certificate.Line.{Line}
use Rattle.dr_plan_sound.specs.declared.certificate.Hop.{Hop}
use Rattle.dr_plan_sound.specs.Ranked.{AreRanked}
use Rattle.dr_cert.specs.Conditions.{HasRightHops}
use Rattle.dr_cert.proofs.Verified.{right_to, right_are_indexed, indexed_are_right, sealed}
use Rattle.dr_cert.proofs.verify.test_lines.Goals as goal

pub returns-then-not-ranked : goal.returns-then-not-ranked
returns-then-not-ranked c = (
  c.in_ok-ranked.ensures.1,
  (λ right. c.in_ok-ranked.ensures.2.1 c.if-not-ranked.true (right_to c.args.plan.now c.args.certificate.now.lines c.args.index.now c.requires.indexed right)),
)

pub returns-then-not-are_indexed : goal.returns-then-not-are_indexed
returns-then-not-are_indexed c =
    let P : List Line → Type 0 = λ ls. ((line : Line) → Contains ls line → Contains c.args.index.now line) → IsTrue c.are_indexed.result in
    let test : P c.args.certificate.now.lines = subst P c.as_slice.ensures c.are_indexed.ensures.1 in (
      c.in_ok-ranked.ensures.1,
      (λ right. false≢true (sym c.if-not-are_indexed.true ∙ test (right_are_indexed c.args.plan.now c.args.certificate.now.lines c.args.index.now c.requires.indexed c.in_ok-ranked.ensures.0 right))),
    )

pub returns-then-not-branch : goal.returns-then-not-branch
returns-then-not-branch c =
    let P : List Line → Type 0 = λ ls. IsTrue c.are_indexed.result → (line : Line) → Contains ls line → Contains c.args.index.now line in
    let all : (line : Line) → Contains c.args.certificate.now.lines line → Contains c.args.index.now line = (let test : P c.args.certificate.now.lines = subst P c.as_slice.ensures c.are_indexed.ensures.0 in test c.if-not-are_indexed.false) in
    let ranked : AreRanked c.args.plan.now c.args.index.now = c.in_ok-ranked.ensures.2.0 c.if-not-ranked.false in
    let lines = indexed_are_right c.args.plan.now c.args.certificate.now.lines c.args.index.now c.requires.indexed c.in_ok-ranked.ensures.0 ranked all in
    let H : List Hop → Type 0 = λ hs. IsTrue c.in_ok-are_right_hops.field-0 ↔ HasRightHops c.args.plan.now hs in
    let test : H c.args.certificate.now.hops = subst H c.as_slice-2.ensures (c.in_ok-are_right_hops.ensures c.args.plan.now c.in_ok-ranked.ensures.0 ranked) in (
      (c.in_ok-ranked.ensures.1, λ line among. (lines line).0 among),
      (λ right. false≢true (sym c.if-not-branch.true ∙ test.1 right)),
    )

pub returns : goal.returns
returns c =
    let P : List Line → Type 0 = λ ls. IsTrue c.are_indexed.result → (line : Line) → Contains ls line → Contains c.args.index.now line in
    let all : (line : Line) → Contains c.args.certificate.now.lines line → Contains c.args.index.now line = (let test : P c.args.certificate.now.lines = subst P c.as_slice.ensures c.are_indexed.ensures.0 in test c.if-not-are_indexed.false) in
    let ranked : AreRanked c.args.plan.now c.args.index.now = c.in_ok-ranked.ensures.2.0 c.if-not-ranked.false in
    let lines = indexed_are_right c.args.plan.now c.args.certificate.now.lines c.args.index.now c.requires.indexed c.in_ok-ranked.ensures.0 ranked all in
    let H : List Hop → Type 0 = λ hs. IsTrue c.in_ok-are_right_hops.field-0 ↔ HasRightHops c.args.plan.now hs in
    let test : H c.args.certificate.now.hops = subst H c.as_slice-2.ensures (c.in_ok-are_right_hops.ensures c.args.plan.now c.in_ok-ranked.ensures.0 ranked) in
    let both = sealed c.args.plan.now c.args.certificate.now c.args.index.now c.in_ok-ranked.ensures.0 c.in_ok-ranked.ensures.1 ranked lines (test.0 c.if-not-branch.false) in
    (c.in_ok-ranked.ensures.0, both.0, both.1, ranked)

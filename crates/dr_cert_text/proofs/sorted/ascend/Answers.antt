use Rattle.std.proofs.Common.{refl, sym, ◌∙◌, arith}
use Rattle.std.proofs.lemmas.Bool.{false≢true}
use Rattle.dr_cert_text.proofs.Ascending.{not_ge, ge_not_less, ascend_more, all_ascend, pair_ascends}
use Rattle.dr_cert_text.proofs.sorted.ascend.Goals as goal

pub loop-i-init : goal.loop-i-init
loop-i-init c = λ k d below. absurd (omega arith)

pub returns-then-ge : goal.returns-then-ge
returns-then-ge c = (
  (λ h. absurd (false≢true h)),
  (λ all. absurd (ge_not_less _ (sym c.ge.ensures ∙ c.if-ge.true)
      (pair_ascends c.args.texts.now c.loop-i.i c.index-texts-i.result c.index-texts-i-in-loop-i.result c.loop-i.auto.i c.loop-i-test.true c.index-texts-i.is c.index-texts-i-in-loop-i.is all))),
)

pub loop-i-preserved : goal.loop-i-preserved
loop-i-preserved c =
    ascend_more c.args.texts.now c.loop-i.i c.index-texts-i.result c.index-texts-i-in-loop-i.result c.loop-i.auto.i c.loop-i-test.true c.index-texts-i.is c.index-texts-i-in-loop-i.is
    (not_ge _ (sym c.ge.ensures ∙ c.if-ge.false)) c.loop-i.invariant

pub returns : goal.returns
returns c = ((λ h. all_ascend c.args.texts.now c.loop-i.i (omega (arith, c.loop-i-test.false)) c.loop-i.invariant), (λ all. refl))

use Rattle.std.proofs.Common.{◌≡◌, ◌∙◌, sym, ap, take, arith, List, ◌++◌}
use Rattle.std.proofs.lemmas.List.{take_all}
use Rattle.dr_base.specs.Texts.{Text}
use Rattle.dr_plan_model.specs.Naming.{literal_of, prefix_of}
use Rattle.dr_plan_model.proofs.Gathered.{flat_map-one_more}
use Rattle.dr_plan_text.proofs.values.values_of.Goals as goal

pub loop-pattern-preserved : goal.loop-pattern-preserved
loop-pattern-preserved c =
    let told = c.in_ok-add_named.ensures in (
      told.0 ∙ (ap (λ (before : List Text). before ++ literal_of c.pattern-item.result) c.loop-pattern.invariant.0
          ∙ sym (flat_map-one_more literal_of c.args.patterns.now c.loop-pattern.pattern-index c.pattern-item.result c.loop-pattern-test.true c.pattern-item.is)),
      told.1 ∙ (ap (λ (before : List Text). before ++ prefix_of c.pattern-item.result) c.loop-pattern.invariant.1
          ∙ sym (flat_map-one_more prefix_of c.args.patterns.now c.loop-pattern.pattern-index c.pattern-item.result c.loop-pattern-test.true c.pattern-item.is)),
    )

pub returns : goal.returns
returns c =
    let all : take c.loop-pattern.pattern-index c.args.patterns.now ≡ c.args.patterns.now = take_all _ _ (omega arith) in
    (rw all at c.loop-pattern.invariant.0, rw all at c.loop-pattern.invariant.1)

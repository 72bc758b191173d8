use Rattle.std.proofs.Common.{List}
use Rattle.dr_base.specs.Texts.{Text}
use Rattle.dr_plan_places.proofs.Unknowing.{in_words}
use Rattle.dr_plan_places.proofs.strangers.among_words.Goals as goal

pub returns-in-Listed : goal.returns-in-Listed
returns-in-Listed g c =
    in_words (λ (w : Text). (things : List Text) → g.Y.Yielding.yields c.args.way.now w things → ⊥) c.args.key c.args.words.now _ _ c.in-Listed.is c.as_slice.ensures c.stranger_among.result c.stranger_among.ensures

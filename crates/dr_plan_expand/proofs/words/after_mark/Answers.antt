use Rattle.std.proofs.lemmas.Slice.Eq.{strip_prefix_is}
use Rattle.std.proofs.lemmas.Bool.Decides.{Decides-eqb}
use Rattle.dr_plan_expand.proofs.words.after_mark.Goals as goal

pub returns : goal.returns
returns c = rw c.as_slice.ensures at (strip_prefix_is Decides-eqb c.args.word.now c.as_slice.result.now c.strip_prefix.result c.strip_prefix.ensures.cases)

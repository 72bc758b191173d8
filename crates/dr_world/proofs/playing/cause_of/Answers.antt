use Rattle.std.proofs.Common.{sym, ◌∙◌}
use Rattle.std.proofs.lemmas.Bool.{false≢true}
use Rattle.dr_world.proofs.Orders.{told_early}
use Rattle.dr_world.proofs.playing.cause_of.Goals as goal

pub returns-then-has_refusal-clause-early : goal.returns-then-has_refusal-clause-early
returns-then-has_refusal-clause-early c = told_early c.args.orders.now c.args.fault c.requires (c.has_refusal.ensures.0 c.if-has_refusal.true)

pub returns-clause-told : goal.returns-clause-told
returns-clause-told c = λ told. absurd (false≢true (sym c.if-has_refusal.false ∙ c.has_refusal.ensures.1 told))

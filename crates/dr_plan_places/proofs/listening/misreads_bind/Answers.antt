use Rattle.std.proofs.Common.{refl}
use Rattle.std.proofs.lemmas.Bool.{false≢true}
use Rattle.toml.specs.View.{table_view}
use Rattle.dr_plan_places.proofs.ListenFlawed.{bound, bound_before, misbound}
use Rattle.dr_plan_places.proofs.listening.misreads_bind.Goals as goal

pub returns-then-calls_only : goal.returns-then-calls_only
returns-then-calls_only c = λ wrong may.
    bound may c.args.format (table_view c.args.table.now) (c.if-calls_only.ensures.0 refl) (λ none. false≢true (c.if-is_absent.ensures.1 none))

pub returns-then-is_before_third : goal.returns-then-is_before_third
returns-then-is_before_third c = λ wrong may.
    bound_before may c.args.format (table_view c.args.table.now) (c.if-is_before_third.ensures refl) (λ none. false≢true (c.if-is_absent.ensures.1 none))

pub returns : goal.returns
returns c = λ wrong may.
    misbound may c.args.format (table_view c.args.table.now) (λ calls. false≢true (c.if-calls_only.ensures.1 calls)) (c.in_ok-wrong.ensures wrong)

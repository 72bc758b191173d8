use Rattle.std.proofs.Common.{refl}
use Rattle.std.proofs.lemmas.Bool.{false≢true}
use Rattle.toml.specs.View.{table_view}
use Rattle.dr_plan_places.proofs.FieldsFlawed.{not_both}
use Rattle.dr_plan_places.proofs.ListenFlawed.{addressed, unaddressed}
use Rattle.dr_plan_places.proofs.listening.misreads_address.Goals as goal

pub returns-then-calls_only : goal.returns-then-calls_only
returns-then-calls_only c = λ wrong may format.
    addressed may format (table_view c.args.table.now) (c.if-calls_only.ensures.0 refl) (λ none. not_both c.is_absent.result wrong (c.is_absent.ensures.1 none))

pub returns : goal.returns
returns c = λ wrong may format.
    unaddressed may format (table_view c.args.table.now) (λ calls. false≢true (c.if-calls_only.ensures.1 calls)) (c.in_ok-wrong.ensures wrong)

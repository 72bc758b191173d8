use Rattle.std.proofs.Common.{refl}
use Rattle.std.proofs.lemmas.Bool.{false≢true}
use Rattle.toml.specs.View.{table_view}
use Rattle.dr_plan_places.proofs.FieldsFlawed.{not_both}
use Rattle.dr_plan_places.proofs.ListenFlawed.{nowhere_unfit, said_wrongly}
use Rattle.dr_plan_places.proofs.listening.misreads_listens.Goals as goal

pub returns-then-calls_only : goal.returns-then-calls_only
returns-then-calls_only c = λ wrong.
    nowhere_unfit c.args.may_say c.args.format (table_view c.args.table.now) (c.if-calls_only.ensures.0 refl) (λ fits. not_both c.listens_fits.result wrong (c.listens_fits.ensures.1 fits))

pub returns : goal.returns
returns c = λ wrong.
    said_wrongly c.args.may_say c.args.format (table_view c.args.table.now) (λ calls. false≢true (c.if-calls_only.ensures.1 calls)) (λ says. not_both c.says_listens.result wrong (c.says_listens.ensures.1 says))

use Rattle.std.proofs.lemmas.Bool.{false≢true}
use Rattle.std.proofs.lemmas.Result.{err_from_is_err_and}
use Rattle.toml.specs.View.{table_view}
use Rattle.dr_plan_text.proofs.Listened.{calls_and_gives, neither, no_address, no_bind}
use Rattle.dr_plan_text.proofs.listening.listens_in.Goals as goal

pub returns-then-not-says_listens-clause-field : goal.returns-then-not-says_listens-clause-field
returns-then-not-says_listens-clause-field c = λ e. neither c.args.may_say (table_view c.args.table.now) (λ calls. false≢true (c.if-calls_only.ensures.1 calls)) (λ says. false≢true (c.if-not-says_listens.ensures.1 says))

pub returns-in_err-address-clause-field : goal.returns-in_err-address-clause-field
returns-in_err-address-clause-field c =
    let p = err_from_is_err_and c.from_residual.result c.from_residual.ensures.1 in
    rw (p.1, p.2) (λ e. no_address c.args.may_say (table_view c.args.table.now) (λ calls. false≢true (c.if-calls_only.ensures.1 calls)) (c.in_err-address.ensures.field e))

pub returns-in_err-bind-clause-field : goal.returns-in_err-bind-clause-field
returns-in_err-bind-clause-field c =
    let p = err_from_is_err_and c.from_residual-in_err-bind.result c.from_residual-in_err-bind.ensures.1 in
    rw (p.1, p.2) (λ e. no_bind c.args.may_say (table_view c.args.table.now) (λ calls. false≢true (c.if-calls_only.ensures.1 calls)) (c.in_err-bind.ensures.field e))

use Rattle.std.proofs.Common.{refl}
use Rattle.std.proofs.lemmas.Result.{err_from_is_err_and}
use Rattle.toml.specs.View.{table_view}
use Rattle.dr_plan_text.proofs.Refusals.{blank, refused}
use Rattle.dr_plan_text.proofs.text.read_text.Goals as goal

pub returns-in-Err : goal.returns-in-Err
returns-in-Err c = λ e. c.in-Err.ensures.memory (c.if-is_memory.ensures.0 refl) (blank c.args.text.now e)

pub returns-in_err-read_root : goal.returns-in_err-read_root
returns-in_err-read_root c =
    let p = err_from_is_err_and c.from_residual.result c.from_residual.ensures.1 in
    rw (p.1, p.2) (refused c.args.text.now (table_view c.in-Ok.root) c.in_err-read_root.field-0.0 c.in-Ok.ensures.ok c.in_err-read_root.ensures.field c.in_err-read_root.ensures.memory)

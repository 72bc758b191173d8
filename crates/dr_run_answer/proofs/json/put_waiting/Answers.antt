use Rattle.std.proofs.Common.{◌++◌}
use Rattle.std.specs.Prelude.{codes}
use Rattle.dr_ledger_text.specs.Members.{number, word}
use Rattle.dr_run_answer.proofs.Chained.{chained}
use Rattle.dr_run_answer.proofs.json.put_waiting.Goals as goal

pub returns : goal.returns
returns c =
    let old = c.args.out.now.items in
    let state = word (codes "state") (codes "waiting") in
    let tries = number (codes "tries") c.args.tries in
    chained old (state ++ tries) (number (codes "due") c.args.due) c.put_number.new.out.items c.put_number-2.new.out.items
    (chained old state tries c.put_word.new.out.items c.put_number.new.out.items c.in_ok-put_word.ensures c.in_ok-put_number.ensures) c.in_ok-put_number-2.ensures

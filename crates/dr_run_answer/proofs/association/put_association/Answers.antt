use Rattle.std.proofs.Common.{◌++◌}
use Rattle.std.specs.Prelude.{codes}
use Rattle.dr_base_quoted.specs.Quoting.{quoted}
use Rattle.dr_ledger_text.specs.Members.{number, word}
use Rattle.dr_run_answer.specs.Answers.{ended}
use Rattle.dr_run_answer.proofs.Chained.{chained}
use Rattle.dr_run_answer.proofs.association.put_association.Goals as goal

pub returns : goal.returns
returns c =
    let old = c.args.out.now.items in
    let association = c.args.association.now in
    let who = codes "{\"caller\":" ++ quoted association.caller in
    let address = word (codes "address") association.address in
    let session = number (codes "session") association.session in
    let since = number (codes "since") association.since in
    let stored = number (codes "stored") association.stored in
    let again = number (codes "again") association.again in
    let refused = number (codes "refused") association.refused in
    let one = chained old (codes "{\"caller\":") (quoted association.caller)
    c.extend_from_slice.new.self.items c.put_text.new.out.items
    c.in_ok-extend_from_slice.ensures.items c.in_ok-put_text.ensures in
    let from = chained old who address c.put_text.new.out.items c.put_named.new.out.items
    one c.in_ok-put_named.ensures in
    let two = chained old (who ++ address) session
    c.put_named.new.out.items c.put_number.new.out.items from c.in_ok-put_number.ensures in
    let three = chained old (who ++ address ++ session) since
    c.put_number.new.out.items c.put_number-2.new.out.items two c.in_ok-put_number-2.ensures in
    let four = chained old (who ++ address ++ session ++ since) stored
    c.put_number-2.new.out.items c.put_number-3.new.out.items three c.in_ok-put_number-3.ensures in
    let five = chained old (who ++ address ++ session ++ since ++ stored) again
    c.put_number-3.new.out.items c.put_number-4.new.out.items four c.in_ok-put_number-4.ensures in
    let six = chained old (who ++ address ++ session ++ since ++ stored ++ again) refused
    c.put_number-4.new.out.items c.put_number-5.new.out.items five c.in_ok-put_number-5.ensures in
    chained old (who ++ address ++ session ++ since ++ stored ++ again ++ refused) ended
    c.put_number-5.new.out.items c.extend_from_slice-2.new.self.items six
    c.in_ok-extend_from_slice-2.ensures.items

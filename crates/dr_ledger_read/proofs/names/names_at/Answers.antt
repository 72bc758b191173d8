use Rattle.std.proofs.Common.{arith}
use Rattle.dr_ledger_read.proofs.Listed.{all_so_far, behind_name, none_so_far, one_more_so_far}
use Rattle.dr_ledger_read.proofs.names.names_at.Goals as goal

pub loop-name-init : goal.loop-name-init
loop-name-init c = none_so_far c.args.place.now c.new-names.result c.new-names.ensures

pub loop-name-preserved : goal.loop-name-preserved
loop-name-preserved c =
    one_more_so_far c.args.place.now c.loop-name.rest.now c.behind_comma-rest.result.now c.in_ok-text.text c.loop-name.names c.push.new.self c.in-Some.name c.in-Some.later c.loop-name.invariant c.in-Some.ensures
    c.in_ok-text.ensures c.in_ok-push.ensures.ok c.behind_comma-rest.ensures.names

pub loop-name-smaller : goal.loop-name-smaller
loop-name-smaller c =
    let more = behind_name c.loop-name.rest.now c.in-Some.later.now c.in-Some.ensures.value c.in-Some.ensures.is.1 in
    omega (arith, more, c.behind_comma-rest.ensures.shorter)

pub returns : goal.returns
returns c = all_so_far c.args.place.now c.loop-name.rest.now c.loop-name.names c.loop-name.invariant c.in_default.ensures

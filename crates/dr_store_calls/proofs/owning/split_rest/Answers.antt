use Rattle.dr_store_calls.proofs.Owners.{both_there, never, no_room, no_such_mark, no_such_seal}
use Rattle.dr_store_calls.proofs.owning.split_rest.Goals as goal

pub returns-in_default : goal.returns-in_default
returns-in_default c = no_room c.args.rest.now c.in_default.ensures.cases

pub returns-then-not-is_mark : goal.returns-then-not-is_mark
returns-then-not-is_mark c = no_such_mark c.args.rest.now c.in-Some.mark.now c.in-Some.seal.now c.in-Some.ensures.cases (never _ c.is_mark.ensures c.if-not-is_mark.true)

pub returns-then-not-is_seal_text : goal.returns-then-not-is_seal_text
returns-then-not-is_seal_text c = no_such_seal c.args.rest.now c.in-Some.mark.now c.in-Some.seal.now c.in-Some.ensures.cases (never _ c.is_seal_text.ensures c.if-not-is_seal_text.true)

pub returns : goal.returns
returns c =
    both_there c.args.rest.now c.in-Some.mark.now c.in-Some.seal.now c.in-Some.ensures.cases
    (c.is_mark.ensures.0 c.if-not-is_mark.false) (c.is_seal_text.ensures.0 c.if-not-is_seal_text.false)

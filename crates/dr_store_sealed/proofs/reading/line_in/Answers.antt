use Rattle.std.proofs.Common.{rules, ◌≡◌}
use Rattle.dr_store_sealed.specs.Lines.{mark_of, next_chain}
use Rattle.dr_store_sealed.proofs.Prefixes.{no_entry, other_mark, too_short}
use Rattle.dr_store_sealed.proofs.reading.line_in.Goals as goal

pub returns-in_default-clause-why : goal.returns-in_default-clause-why
returns-in_default-clause-why c = too_short c.args.seal.now c.args.entry.now c.in_default.ensures

pub returns-in-Err-clause-why : goal.returns-in-Err-clause-why
returns-in-Err-clause-why c =
    no_entry c.args.seal.now c.args.entry.now c.in-Some.line.now c.in-Some.tail.now c.in-Err.fault
    c.in-Some.ensures.0 c.in-Some.ensures.1 c.in-Err.ensures.why

pub returns-then-not-are_alike-clause-why : goal.returns-then-not-are_alike-clause-why
returns-then-not-are_alike-clause-why c =
    let behind = c.deref.result.now in
    let is : behind ≡ mark_of (next_chain c.args.seal.now.chain c.in-Some.line.now) = search rules in
    other_mark c.args.seal.now c.args.entry.now c.in-Some.line.now c.in-Some.tail.now behind
    c.in-Some.ensures.0 c.in-Some.ensures.1 is (λ same. search rules)

use Rattle.std.proofs.Common.{rules, ◌≡◌, ◌++◌, List, ℕ, All, length, sym, ◌∙◌, ap, subst}
use Rattle.dr_store_sealed.specs.Files.{Spans}
use Rattle.dr_store_sealed.specs.Lines.{IsOneLine, bytes_of}
use Rattle.dr_store_sealed.proofs.FileLemmas.{holds_front}
use Rattle.dr_store_sealed.proofs.LawLemmas.{IsPlain}
use Rattle.dr_store_sealed.proofs.Prefixes.{empty_is, no_first, refused_line}
use Rattle.dr_store_sealed.proofs.SealLemmas.{line_pushed}
use Rattle.dr_store_sealed.proofs.reading.lines_in.Goals as goal

pub loop-entry-preserved : goal.loop-entry-preserved
loop-entry-preserved c =
    let from = c.args.from.now in
    let piece = c.args.piece.now in
    let done = c.loop-entry.lines.items in
    let line = c.in-Ok.line in
    let next = c.in-Ok.next in
    let later = c.in-Some.later.now in
    let before = c.loop-entry.invariant in
    let P : List (List ℕ) → Type 0 = λ ls.
    (piece ≡ bytes_of from.chain ls ++ later) × Spans from ls next × All IsOneLine ls in
    subst P (sym c.in_ok-push-in-Ok.ensures.items)
    (line_pushed from c.loop-entry.last next done line piece c.loop-entry.rest.now c.in-Some.entry.now later
    before.0 before.1 before.2 c.in-Some.ensures.whole
    c.in-Ok.ensures.entry c.in-Ok.ensures.seal c.in-Ok.ensures.one_file c.in-Ok.ensures.line)

pub returns-clause-bytes : goal.returns-clause-bytes
returns-clause-bytes c = holds_front _ _ _ c.loop-entry.invariant.0

pub returns-in-Err-clause-why : goal.returns-in-Err-clause-why
returns-in-Err-clause-why c =
    let before = c.loop-entry.invariant in
    let (body, ends, plain) = c.in-Some.ensures.ends in
    refused_line c.args.from.now c.loop-entry.last c.loop-entry.lines.items c.args.piece.now c.loop-entry.rest.now
    c.in-Some.entry.now c.in-Some.later.now body c.in-Err.fault before.0 before.1 before.2
    c.in-Some.ensures.whole ends plain c.in-Err.ensures.why

pub returns-then-is_empty-clause-why : goal.returns-then-is_empty-clause-why
returns-then-is_empty-clause-why c =
    let from = c.args.from.now in
    let rest = c.loop-entry.rest.now in
    let none : length c.loop-entry.lines.items ≡ 0 = search rules in
    let same : c.args.piece.now ≡ rest =
    c.loop-entry.invariant.0 ∙ ap (λ ls. bytes_of from.chain ls ++ rest) (empty_is c.loop-entry.lines.items none) in
    no_first from c.args.piece.now (subst (λ t. All IsPlain t) (sym same) c.in_default.ensures.none)

use Rattle.std.proofs.Common.{rules, ◌≡◌, ◌+◌, ◌<◌, ◌++◌, List, ℕ, All, take, slice_index_or, sym, ◌∙◌, subst}
use Rattle.std.proofs.lemmas.List.{take_more}
use Rattle.dr_store_sealed.specs.Lines.{IsOneLine, bytes_of, entry_of}
use Rattle.dr_store_sealed.specs.Seals.{full, next_seal, seal_after}
use Rattle.dr_store_sealed.proofs.SealLemmas.{entry_pushed, placed}
use Rattle.dr_store_sealed.proofs.entries.entries_of.Goals as goal

pub loop-line-preserved : goal.loop-line-preserved
loop-line-preserved c =
    let s = c.args.seal.now in
    let lines = c.args.lines.now in
    let i = c.loop-line.line-index in
    let line = slice_index_or lines i c.line-item.result in
    let new = c.in_ok-last.last in
    let bytes = c.push_entry.new.bytes.items in
    let is : c.as_bytes.result.now ≡ line = c.as_bytes.ensures ∙ c.line-item.is in
    let room : c.loop-line.last.offset < full = search rules in
    let before = c.loop-line.invariant in
    let P : List (List ℕ) → Type 0 = λ done.
    (new ≡ seal_after s done) × (new.number ≡ s.number) × (new.count ≡ s.count + (i + 1))
    × (bytes ≡ bytes_of s.chain done) × All IsOneLine done in
    subst P (sym (take_more lines i c.line-item.result c.loop-line-test.true))
    (entry_pushed s c.loop-line.last new (take i lines) i line c.loop-line.bytes.items bytes
    before.0 before.1 before.2 before.3 before.4 room
    (subst (λ t. new ≡ next_seal c.loop-line.last t) is c.in_ok-last.ensures.seal)
    (subst (λ t. bytes ≡ c.loop-line.bytes.items ++ entry_of c.loop-line.last.chain t) is c.in_ok-last.ensures.bytes)
    (subst IsOneLine is c.in_ok-last.ensures.line))

pub returns-clause-place : goal.returns-clause-place
returns-clause-place c =
    let s = c.args.seal.now in
    let done = take c.loop-line.line-index c.args.lines.now in
    placed s c.loop-line.last done c.loop-line.bytes.items
    c.loop-line.invariant.0 c.loop-line.invariant.1 c.loop-line.invariant.3

pub returns-then-is_full-clause-place : goal.returns-then-is_full-clause-place
returns-then-is_full-clause-place c =
    let s = c.args.seal.now in
    let done = take c.loop-line.line-index c.args.lines.now in
    placed s c.loop-line.last done c.loop-line.bytes.items
    c.loop-line.invariant.0 c.loop-line.invariant.1 c.loop-line.invariant.3

use Rattle.std.proofs.Common.{◌≡◌, ◌≤◌, ◌↔◌, ◌+◌, ◌-◌, ◌*◌, length, min, take, drop, rules}
use Rattle.std.proofs.Common.{IsTrue, false, subst, ap, ◌∙◌, sym, inl, inr, arith}
use Rattle.std.proofs.lemmas.Bool.{cases_lt}
use Rattle.sqlite_disk.specs.Digest.{digest}
use Rattle.dr_store_bodies.specs.Sums.{piece_of}
use Rattle.dr_store_shelf.specs.Cells.{sum_in}
use Rattle.dr_store_shelf.proofs.CellLemmas.{piece_at}
use Rattle.dr_store_shelf.proofs.cell.have_digests.Goals as goal

pub returns-then-not-has_digest : goal.returns-then-not-has_digest
returns-then-not-has_digest c =
    let bytes = c.args.bytes.now in
    let cell = c.args.cell.now in
    let from = c.loop-from.from in
    let index = c.loop-from.index in
    let at : from ≡ index * 262144 =
    omega (arith, c.loop-from.invariant.0, c.loop-from-test.true) in
    let shown : IsTrue c.has_digest.result
    ↔ ((24 + index * 8 ≤ length cell)
    × (sum_in cell index
    ≡ digest c.args.key (take (min 262144 (length bytes - from)) (drop from bytes)))) =
    search rules in
    let no : c.has_digest.result ≡ false = search rules in (
      λ yes. absurd (search rules),
      λ all.
          let one = all index (omega (arith, at, c.loop-from-test.true)) in
          let yes : IsTrue c.has_digest.result = shown.1 (
            one.0,
            one.1 ∙ ap (digest c.args.key) (sym (piece_at 262144 bytes from index at)),
          ) in
          absurd (search rules),
    )

pub loop-from-preserved : goal.loop-from-preserved
loop-from-preserved c =
    let bytes = c.args.bytes.now in
    let cell = c.args.cell.now in
    let from = c.loop-from.from in
    let index = c.loop-from.index in
    let at : from ≡ index * 262144 =
    omega (arith, c.loop-from.invariant.0, c.loop-from-test.true) in
    let size : c.min.result ≡ min 262144 (length bytes - from) = search rules in
    let shown : IsTrue c.has_digest.result
    ↔ ((24 + index * 8 ≤ length cell)
    × (sum_in cell index
    ≡ digest c.args.key (take (min 262144 (length bytes - from)) (drop from bytes)))) =
    search rules in
    let yes : IsTrue c.has_digest.result = search rules in
    let one = shown.0 yes in (
      omega (arith, at, size, c.loop-from-test.true),
      λ i low.
          elim (cases_lt i index) [
            | inl before ↦ c.loop-from.invariant.1 i before
            | inr over ↦
                let last : index ≡ i = omega (arith, low, over) in
                subst (λ n. (24 + n * 8 ≤ length cell)
                × (sum_in cell n ≡ digest c.args.key (piece_of 262144 bytes n))) last (
                  one.0,
                  one.1 ∙ ap (digest c.args.key) (piece_at 262144 bytes from index at),
                )
          ],
    )

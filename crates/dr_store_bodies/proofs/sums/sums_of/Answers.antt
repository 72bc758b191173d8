use Rattle.std.proofs.Common.{rules, ◌≡◌, ◌+◌, ◌-◌, ◌*◌, length, min, take, drop, arith}
use Rattle.std.proofs.Common.{◌++◌, ◌∷◌, [], subst, sym, inl, inr, slice_index}
use Rattle.std.proofs.lemmas.Bool.{cases_lt}
use Rattle.sqlite_disk.specs.Digest.{digest}
use Rattle.dr_store_bodies.specs.Sums.{piece_of}
use Rattle.dr_store_bodies.proofs.SumLemmas.{each_more}
use Rattle.dr_store_bodies.proofs.sums.sums_of.Goals as goal

pub loop-from-preserved : goal.loop-from-preserved
loop-from-preserved c =
    let body = c.args.body.now in
    let old = c.loop-from.sums.items in
    let at : c.loop-from.from ≡ length old * 262144 =
    omega (arith, c.loop-from.invariant.0, c.loop-from-test.true) in
    let size : c.min.result ≡ min 262144 (length body - c.loop-from.from) = search rules in
    let sum : c.digest_of.result
    ≡ digest c.args.key (take (min 262144 (length body - c.loop-from.from))
    (drop c.loop-from.from body)) = search rules in
    let items : c.push.new.self.items ≡ old ++ c.digest_of.result ∷ [] = search rules in
    let count : length c.push.new.self.items ≡ length old + 1 = search rules in (
      omega (arith, at, size, count, c.loop-from-test.true),
      λ i low.
          elim (cases_lt i (length old)) [
            | inl before ↦ c.loop-from.invariant.1 i before
            | inr over ↦ omega (arith, at, count, low, over, c.loop-from-test.true)
          ],
      λ i low.
          subst (λ xs. slice_index xs i ≡ digest c.args.key (piece_of 262144 body i)) (sym items)
          (each_more c.args.key 262144 body old c.loop-from.from at c.digest_of.result sum
          c.loop-from.invariant.2 i (omega (arith, count, low))),
    )

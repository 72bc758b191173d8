-- Entries of the same numbers, whatever they have for each (`dr_store_calls` has the same for itself).
use Rattle.std.proofs.Common.{◌≡◌, ℕ, List, [], ◌∷◌, map as mapped, refl, sym, ap, ◌∙◌}
use Rattle.std.specs.Cmp.{nat_cmp_total}
use Rattle.std.specs.declared.cmp.Ordering.{Ordering}
use Rattle.std.specs.declared.cmp.Ordering.TheVariants.{Less, Equal, Greater}
use Rattle.std.specs.FinMap as map
use Rattle.std.specs.FinMap.Entries.{by_order, put}
use Rattle.std.specs.Ordering.{nat_cmp}
use Rattle.sqlite.specs.Order.{Row}
use Rattle.sqlite.specs.Tree.{rowid}
use Rattle.dr_store_schema.specs.Cells.{number_in}
use Rattle.dr_store_schema.proofs.WhatIsWritten.{no_entries}

module _ {V W : Type 0} where
  -- entries with the same numbers have them still with one more
  put_alike : (k : ℕ) (v : V) (w : W) (es : List (ℕ × V)) (fs : List (ℕ × W))
      → mapped (λ (e : ℕ × V). e.0) es ≡ mapped (λ (f : ℕ × W). f.0) fs
      → mapped (λ (e : ℕ × V). e.0) (put nat_cmp k v es)
      ≡ mapped (λ (f : ℕ × W). f.0) (put nat_cmp k w fs)
  put_alike k v w [] [] same = refl
  put_alike k v w [] (f ∷ fs) same = absurd cc
  put_alike k v w (e ∷ es) [] same = absurd cc
  put_alike k v w (e ∷ es) (f ∷ fs) same =
      let head : e.0 ≡ f.0 = cc in
      let rest : mapped (λ (x : ℕ × V). x.0) es ≡ mapped (λ (x : ℕ × W). x.0) fs = cc in
      go head rest (put_alike k v w es fs rest) (nat_cmp k e.0)
      ∙ ap (λ o. mapped (λ (x : ℕ × W). x.0) (by_order o ((k, w) ∷ f ∷ fs) ((f.0, w) ∷ fs) (f ∷ put nat_cmp k w fs))) (ap (nat_cmp k) head)
    where
      go : e.0 ≡ f.0 → mapped (λ (x : ℕ × V). x.0) es ≡ mapped (λ (x : ℕ × W). x.0) fs
          → mapped (λ (x : ℕ × V). x.0) (put nat_cmp k v es) ≡ mapped (λ (x : ℕ × W). x.0) (put nat_cmp k w fs)
          → (o : Ordering)
          → mapped (λ (x : ℕ × V). x.0) (by_order o ((k, v) ∷ e ∷ es) ((e.0, v) ∷ es) (e ∷ put nat_cmp k v es))
          ≡ mapped (λ (x : ℕ × W). x.0) (by_order o ((k, w) ∷ f ∷ fs) ((f.0, w) ∷ fs) (f ∷ put nat_cmp k w fs))
      go head rest later Less = λ i. k ∷ head i ∷ rest i
      go head rest later Equal = λ i. head i ∷ rest i
      go head rest later Greater = λ i. head i ∷ later i

  pub numbers_alike : (v : Row → V) (w : Row → W) (rows : List Row)
      → map.keys (map.from_entries {R = nat_cmp} (mapped (λ (r : Row). (number_in (rowid r), v r)) rows))
      ≡ map.keys (map.from_entries {R = nat_cmp} (mapped (λ (r : Row). (number_in (rowid r), w r)) rows))
  numbers_alike v w [] =
      ap (mapped (λ (e : ℕ × V). e.0)) (no_entries nat_cmp V)
      ∙ sym (ap (mapped (λ (e : ℕ × W). e.0)) (no_entries nat_cmp W))
  numbers_alike v w (r ∷ rows) =
      let k = number_in (rowid r) in
      let ones = map.from_entries {R = nat_cmp} (mapped (λ (x : Row). (number_in (rowid x), v x)) rows) in
      let others = map.from_entries {R = nat_cmp} (mapped (λ (x : Row). (number_in (rowid x), w x)) rows) in
      ap (mapped (λ (e : ℕ × V). e.0)) (map.entries-insert nat_cmp_total ones k (v r))
      ∙ put_alike k (v r) (w r) (map.entries ones) (map.entries others) (numbers_alike v w rows)
      ∙ sym (ap (mapped (λ (e : ℕ × W). e.0)) (map.entries-insert nat_cmp_total others k (w r)))

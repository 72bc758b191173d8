-- Pages of the lines that are behind a number.
use Rattle.std.proofs.Common.{◌≡◌, ◌+◌, ◌-◌, ◌^◌, ◌<◌, ◌≤◌, min, ℕ, zero, suc, List, [], ◌∷◌, ◌++◌, length, take, drop, All, refl, sym, ◌∙◌, ap, inl, inr, arith}
use Rattle.std.proofs.Common.{length-take, length-drop}
use Rattle.std.proofs.lemmas.Bool.{cases_lt}
use Rattle.std.proofs.lemmas.List.{drop-take, drop_all, length-map, take-append-drop, take-append-le, take-take, take_min}
use Rattle.std.proofs.lemmas.List.Elements.{All-drop, All-take}
use Rattle.dr_base.specs.Texts.{Text}
use Rattle.dr_ledger.specs.Books.{Line}
use Rattle.dr_ledger_history.specs.declared.line.JournalLine.{JournalLine}
use Rattle.dr_ledger_history.specs.Lines.{line_of, lines_of}
use Rattle.dr_store_sealed.specs.declared.fault.SealFault.TheVariants as fault
use Rattle.dr_store_past.specs.declared.fault.PastFault.{PastFault}
use Rattle.dr_store_past.specs.declared.fault.PastFault.TheVariants as reason
use Rattle.dr_store_past.specs.declared.lines.PastLine.{PastLine}
use Rattle.dr_store_past.specs.Counted.{texts_size}
use Rattle.dr_store_past.specs.Lines.{IsHeldPast, all_said, said_by, texts_behind}
use Rattle.dr_store_past.specs.Paging.{IsPage, IsWhyNoPage}
use Rattle.dr_store_past.proofs.Told.{said_drop, said_take, texts_drop, texts_take}

module _ {X : Type 0} where
  pub take_none : (n : ℕ) → take n (let e : List X = [] in e) ≡ []
  take_none zero = refl
  take_none (suc n) = refl

  pub drop_none : (n : ℕ) → drop n (let e : List X = [] in e) ≡ []
  drop_none zero = refl
  drop_none (suc n) = refl

  take_both : (n : ℕ) (xs ys : List X) → take n (xs ++ ys) ≡ take n xs ++ take (n - length xs) ys
  take_both zero xs ys = ap (λ k. take k ys) (let e : 0 ≡ 0 - length xs = omega arith in e)
  take_both (suc n) [] ys = ap (λ k. take k ys) (let e : suc n ≡ suc n - 0 = omega arith in e)
  take_both (suc n) (x ∷ xs) ys =
      ap (λ l. x ∷ l) (take_both n xs ys ∙ ap (λ k. take n xs ++ take k ys) (let e : n - length xs ≡ suc n - suc (length xs) = omega arith in e))

  drop_both : (n : ℕ) (xs ys : List X) → drop n (xs ++ ys) ≡ drop n xs ++ drop (n - length xs) ys
  drop_both zero xs ys = ap (λ k. xs ++ drop k ys) (let e : 0 ≡ 0 - length xs = omega arith in e)
  drop_both (suc n) [] ys = ap (λ k. drop k ys) (let e : suc n ≡ suc n - 0 = omega arith in e)
  drop_both (suc n) (x ∷ xs) ys =
      drop_both n xs ys ∙ ap (λ k. drop n xs ++ drop k ys) (let e : n - length xs ≡ suc n - suc (length xs) = omega arith in e)

  -- how many of some more lines are left out, and how many of the rest are taken
  pub paged : (xs ys : List X) (after limit skip more : ℕ)
      → skip ≡ min (after - length xs) (length ys)
      → more ≡ min (length ys - skip) (limit - length (take limit (drop after xs)))
      → take limit (drop after xs) ++ take more (drop skip ys) ≡ take limit (drop after (xs ++ ys))
  paged xs ys after limit skip more is_skip is_more =
      let p = drop after xs in
      let q = drop skip ys in
      let k = after - length xs in
      let cut : drop k ys ≡ q =
      elim (cases_lt k (length ys)) [
        | inl low ↦ ap (λ n. drop n ys) (omega (arith, is_skip, low))
        | inr over ↦ drop_all k ys over ∙ sym (drop_all skip ys (omega (arith, is_skip, over)))
      ] in
      let size = length-drop skip ys in
      let room = length-take limit p in
      let n : more ≡ min (limit - length p) (length q) = omega (arith, is_more, size, room) in
      ap (λ l. take limit p ++ l) (ap (λ i. take i q) n ∙ take_min (limit - length p) q)
      ∙ sym (take_both limit p q)
      ∙ ap (λ l. take limit (p ++ l)) (sym cut)
      ∙ ap (take limit) (sym (drop_both after xs ys))

  pub both_taken : (n m : ℕ) (xs : List X) → take n xs ++ take m (drop n xs) ≡ take (n + m) xs
  both_taken n m xs =
      sym (ap (λ ls. take n xs ++ ls) (drop-take n m xs))
      ∙ ap (λ ls. ls ++ drop n (take (n + m) xs)) (sym (take-take n (n + m) xs (omega arith)))
      ∙ take-append-drop n (take (n + m) xs)

  -- where so many are found, no more come
  pub all_found : (n m after limit : ℕ) (xs : List X) → n ≤ m → limit ≤ length (take limit (drop after (take n xs)))
      → take limit (drop after (take n xs)) ≡ take limit (drop after (take m xs))
  all_found n m after limit xs low full =
      let p = drop after (take n xs) in
      let rest = drop n (take m xs) in
      let whole : take n xs ++ rest ≡ take m xs =
      ap (λ l. l ++ rest) (sym (take-take n m xs low)) ∙ take-append-drop n (take m xs) in
      let room = length-take limit p in
      let q = drop (after - length (take n xs)) rest in
      sym (take-append-le limit p q (omega (arith, room, full)))
      ∙ ap (take limit) (sym (drop_both after (take n xs) rest) ∙ ap (drop after) whole)

module _ (texts : List Text) (skip more : ℕ) where
  -- a part of texts in a row
  part_is : (n : ℕ) (lines : List PastLine) → texts ≡ texts_behind n lines
      → take more (drop skip texts) ≡ texts_behind (n + skip) (take more (drop skip lines))
  part_is n lines is =
      ap (λ l. take more (drop skip l)) is ∙ ap (take more) (texts_drop n skip lines) ∙ texts_take (n + skip) more (drop skip lines)

  part_size : (n : ℕ) (lines : List PastLine) → n + length lines < 2 ^ 64 → skip ≤ length lines → n + skip + length (take more (drop skip lines)) < 2 ^ 64
  part_size n lines low within =
      let cut = length-take more (drop skip lines) in
      let left = length-drop skip lines in
      omega (arith, low, within, cut, left)

  pub part_refused : skip ≤ length texts → (why : PastFault) → IsWhyNoPage (take more (drop skip texts)) why → IsWhyNoPage texts why
  part_refused within (reason.File fault) told = absurd told
  part_refused within (reason.Sealed (fault.Io error)) told = absurd told
  part_refused within (reason.Sealed fault.Memory) told = tt
  part_refused within (reason.Sealed fault.Unusable) told = absurd told
  part_refused within (reason.Sealed fault.Short) told = absurd told
  part_refused within (reason.Sealed fault.OtherChain) told = absurd told
  part_refused within (reason.Sealed fault.Broken) told = absurd told
  part_refused within (reason.Sealed fault.Unfit) told = absurd told
  part_refused within (reason.Sealed fault.Full) told = absurd told
  part_refused within (reason.Sealed fault.Uncounted) told = absurd told
  part_refused within reason.Later told = absurd told
  part_refused within reason.Nowhere told = absurd told
  part_refused within reason.NoLine told =
      λ n lines held low is.
      let size : length texts ≡ length (texts_behind n lines) = ap (λ (l : List Text). length l) is in
      let own = texts_size n lines in
      told (n + skip) (take more (drop skip lines))
      (All-take IsHeldPast more (drop skip lines) (All-drop IsHeldPast skip lines held))
      (part_size n lines low (omega (arith, within, size, own)))
      (part_is n lines is)

  -- the lines that are picked of a page
  pub picked : (count after limit : ℕ) (all : List PastLine) (old new : List JournalLine)
      → skip ≡ min (after - count) (length texts)
      → more ≡ min (length texts - skip) (limit - length old)
      → ((n : ℕ) (lines : List PastLine) → All IsHeldPast lines → n + length lines < 2 ^ 64
      → take more (drop skip texts) ≡ texts_behind n lines → lines_of new ≡ lines_of old ++ all_said lines)
      → IsPage texts count all
      → lines_of old ≡ take limit (drop after (take count (all_said all)))
      → lines_of new ≡ take limit (drop after (take (count + length texts) (all_said all)))
  picked count after limit all old new is_skip is_more pushed page was =
      let m = length texts in
      let lines = take m (drop count all) in
      let said = all_said all in
      let size : length lines ≡ m =
      (let cut = length-take m (drop count all) in let left = length-drop count all in let low = page.within in omega (arith, cut, left, low)) in
      let part = take more (drop skip lines) in
      let added : lines_of new ≡ lines_of old ++ all_said part =
      pushed (count + skip) part
      (All-take IsHeldPast more (drop skip lines) (All-drop IsHeldPast skip lines (All-take IsHeldPast m (drop count all) (All-drop IsHeldPast count all page.held))))
      (part_size count lines (let up = page.counted in let low = page.within in omega (arith, up, low, size)) (omega (arith, is_skip, size)))
      (part_is count lines page.are) in
      let ys = take m (drop count said) in
      let part_said : all_said part ≡ take more (drop skip ys) =
      said_take more (drop skip lines) ∙ ap (take more) (said_drop skip lines ∙ ap (drop skip) (said_take m (drop count all) ∙ ap (take m) (said_drop count all))) in
      let whole = length-map all said_by in
      let xs = take count said in
      let xs_size : length xs ≡ count =
      (let cut = length-take count said in let low = page.within in omega (arith, cut, whole, low)) in
      let ys_size : length ys ≡ m =
      (let cut = length-take m (drop count said) in let left = length-drop count said in let low = page.within in omega (arith, cut, left, whole, low)) in
      let old_size : length old ≡ length (take limit (drop after xs)) =
      sym (length-map old line_of) ∙ ap (λ (l : List Line). length l) was in
      added ∙ ap (λ l. lines_of old ++ l) part_said ∙ ap (λ l. l ++ take more (drop skip ys)) was
      ∙ paged xs ys after limit skip more
      (omega (arith, is_skip, xs_size, ys_size)) (omega (arith, is_more, ys_size, old_size))
      ∙ ap (λ l. take limit (drop after l)) (both_taken count m said)

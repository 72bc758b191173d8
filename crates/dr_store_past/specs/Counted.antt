-- A past that is shown has no more lines than there are.
use Rattle.std.proofs.Common.{◌≡◌, ◌+◌, ◌≤◌, ℕ, suc, List, [], ◌∷◌, length, take}
use Rattle.std.proofs.Common.{refl, ◌∙◌, ap, arith}
use Rattle.std.proofs.Common.{length-take}
use Rattle.std.proofs.lemmas.List.{length-map}
use Rattle.dr_ledger.specs.Books.{Line}
use Rattle.dr_store_sealed.specs.declared.seal.Seal.{Seal}
use Rattle.dr_store_sealed.specs.Seals.{first_seal}
use Rattle.dr_store_sealed.proofs.SealLemmas.{count_after}
use Rattle.dr_store_past.specs.declared.lines.PastLine.{PastLine}
use Rattle.dr_store_past.specs.Lines.{all_said, said_by, texts_behind}
use Rattle.dr_store_past.specs.Shown.{ShowsPast}

pub texts_size : (n : ℕ) (xs : List PastLine) → length (texts_behind n xs) ≡ length xs
texts_size n [] = refl
texts_size n (x ∷ xs) = ap suc (texts_size (n + 1) xs)

-- the seal counts the lines
pub shown_count : (all : List Line) (files : List (List ℕ)) (seal : Seal)
    → (it : ShowsPast all files seal) → seal.count ≡ length it.lines
shown_count all files seal it =
    let count : seal.count ≡ 0 + length (texts_behind 0 it.lines) =
    ap (λ (s : Seal). s.count) it.has.after ∙ count_after first_seal (texts_behind 0 it.lines) in
    let size = texts_size 0 it.lines in
    omega (arith, count, size)

pub reaches_no_more : (all : List Line) (files : List (List ℕ)) (seal : Seal)
    → ShowsPast all files seal → seal.count ≤ length all
reaches_no_more all files seal it =
    let count = shown_count all files seal it in
    let said : length (all_said it.lines) ≡ length (take seal.count all) =
    ap (λ (l : List Line). length l) it.said in
    let size = length-map it.lines said_by in
    let cut = length-take seal.count all in omega (arith, count, said, size, cut)

pub none_reached : 0 ≤ 0
none_reached = omega arith

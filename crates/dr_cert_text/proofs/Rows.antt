-- Rows one after the other.
use Rattle.std.proofs.Common.{◌≡◌, ◌≢◌, ℕ, List, [], ◌∷◌, ◌++◌, codes, append_assoc, refl, sym, ap, ◌∙◌, Err}
use Rattle.std.specs.Prelude.{All, flat_map}
use Rattle.std.proofs.lemmas.List.{append_cancel_left, append-nil}
use Rattle.std.proofs.lemmas.List.Concat.{flat_map-append}
use Rattle.std.proofs.lemmas.List.Elements.{All-head, All-tail}
use Rattle.dr_cert_text.specs.declared.fault.CertificateFault.{CertificateFault}
use Rattle.dr_cert_text.specs.declared.fault.CertificateFault.TheVariants.{Text, Memory}
use Rattle.dr_cert_text.specs.CertificateText.{row}
use Rattle.dr_cert_text.specs.Cuts.{Lacks, SplitsAt}
use Rattle.dr_cert_text.specs.Reading.{HasNone, Reads, BeginsWithField, AreRowsOf, ReadsRows}
use Rattle.dr_cert_text.proofs.Splits.{unsplit, All-back}

pub ended : (front : List ℕ) → front ++ codes "end" ++ 10 ∷ [] ≡ front ++ (101 ∷ 110 ∷ 100 ∷ 10 ∷ [])
ended front = append_assoc front (codes "end") (10 ∷ [])

four_flat : (a b c d : List ℕ) → ((a ++ b) ++ c) ++ d ≡ a ++ (b ++ (c ++ d))
four_flat a b c d = simp append_assoc

module _ {X : Type 0} (word : List ℕ) (written : X → List ℕ) where
  -- the row of an item
  abbrev pub R : X → List ℕ
  R item = row word (written item)

  pub row_is : (item : X) (rest : List ℕ) → R item ++ rest ≡ (word ++ 9 ∷ []) ++ (written item ++ 10 ∷ rest)
  row_is item rest = four_flat word (9 ∷ written item) (10 ∷ []) rest ∙ sym (append_assoc word (9 ∷ []) (written item ++ 10 ∷ rest))

  -- the first of some rows, and what follows it
  pub first_row : (item : X) (items : List X) (rest : List ℕ) → flat_map R (item ∷ items) ++ rest ≡ (word ++ 9 ∷ []) ++ (written item ++ 10 ∷ (flat_map R items ++ rest))
  first_row item items rest = append_assoc (R item) (flat_map R items) rest ∙ row_is item (flat_map R items ++ rest)

  -- one more row
  pub rows_more : (items : List X) (item : X) (text rest behind later : List ℕ) → text ≡ flat_map R items ++ rest → rest ≡ (word ++ 9 ∷ []) ++ behind → behind ≡ written item ++ 10 ∷ later →
      text ≡ flat_map R (items ++ item ∷ []) ++ later
  rows_more items item text rest behind later so_far starts splits =
      let next : rest ≡ R item ++ later = starts ∙ ap (λ t. (word ++ 9 ∷ []) ++ t) splits ∙ sym (row_is item later) in
      let one : flat_map R (item ∷ []) ≡ R item = append-nil (R item) in
      so_far ∙ ap (λ t. flat_map R items ++ t) next ∙ sym (append_assoc (flat_map R items) (R item) later) ∙ ap (λ t. t ++ later) (sym (flat_map-append R items (item ∷ []) ∙ ap (λ t. flat_map R items ++ t) one))

  module _ (Can : X → Type 0) (plain : (x : X) → Can x → Lacks 10 (written x)) where
    -- of two lists of rows with one text, where no row follows the second, the second goes on
    pub go_on : (xs ys : List X) (rest end : List ℕ) → All Can xs → All Can ys → (BeginsWithField word end → ⊥) → flat_map R xs ++ rest ≡ flat_map R ys ++ end →
        (more : List X) × All Can more × (rest ≡ flat_map R more ++ end)
    go_on [] ys rest end all_x all_y ends e = (ys, all_y, e)
    go_on (x ∷ xs) [] rest end all_x all_y ends e = absurd (ends (written x ++ 10 ∷ (flat_map R xs ++ rest), sym e ∙ first_row x xs rest))
    go_on (x ∷ xs) (y ∷ ys) rest end all_x all_y ends e =
        let both : (word ++ 9 ∷ []) ++ (written x ++ 10 ∷ (flat_map R xs ++ rest)) ≡ (word ++ 9 ∷ []) ++ (written y ++ 10 ∷ (flat_map R ys ++ end)) = sym (first_row x xs rest) ∙ e ∙ first_row y ys end in
        let parts = unsplit 10 (written x) (written y) (flat_map R xs ++ rest) (flat_map R ys ++ end) (plain x (All-head Can x xs all_x)) (plain y (All-head Can y ys all_y))
        (append_cancel_left (word ++ 9 ∷ []) _ _ both) in
        go_on xs ys rest end (All-tail Can x xs all_x) (All-tail Can y ys all_y) ends parts.1

    -- a text has one list of rows at its front
    pub rows_same : ((x y : X) → Can x → Can y → written x ≡ written y → x ≡ y) → (xs ys : List X) (a b : List ℕ) → All Can xs → All Can ys → (BeginsWithField word a → ⊥) → (BeginsWithField word b → ⊥) →
        flat_map R xs ++ a ≡ flat_map R ys ++ b → (xs ≡ ys) × (a ≡ b)
    rows_same one [] [] a b all_x all_y ends_a ends_b e = (refl, e)
    rows_same one [] (y ∷ ys) a b all_x all_y ends_a ends_b e = absurd (ends_a (written y ++ 10 ∷ (flat_map R ys ++ b), e ∙ first_row y ys b))
    rows_same one (x ∷ xs) [] a b all_x all_y ends_a ends_b e = absurd (ends_b (written x ++ 10 ∷ (flat_map R xs ++ a), sym e ∙ first_row x xs a))
    rows_same one (x ∷ xs) (y ∷ ys) a b all_x all_y ends_a ends_b e =
        let both : (word ++ 9 ∷ []) ++ (written x ++ 10 ∷ (flat_map R xs ++ a)) ≡ (word ++ 9 ∷ []) ++ (written y ++ 10 ∷ (flat_map R ys ++ b)) = sym (first_row x xs a) ∙ e ∙ first_row y ys b in
        let can_x = All-head Can x xs all_x in
        let can_y = All-head Can y ys all_y in
        let parts = unsplit 10 (written x) (written y) (flat_map R xs ++ a) (flat_map R ys ++ b) (plain x can_x) (plain y can_y) (append_cancel_left (word ++ 9 ∷ []) _ _ both) in
        let same : x ≡ y = one x y can_x can_y parts.0 in
        let others = rows_same one xs ys a b (All-tail Can x xs all_x) (All-tail Can y ys all_y) ends_a ends_b parts.1 in
        (cc (same, others.0), others.1)

    -- where no row can stand, none of these lists has the text
    pub no_row : (items : List X) (text rest behind : List ℕ) → text ≡ flat_map R items ++ rest → All Can items → rest ≡ (word ++ 9 ∷ []) ++ behind →
        ((y : X) (more : List ℕ) → Can y → behind ≡ written y ++ 10 ∷ more → ⊥) → (ys : List X) (end : List ℕ) → AreRowsOf word written Can text ys end → ⊥
    no_row items text rest behind so_far all starts none ys end h = let l = go_on items ys rest end all h.1 h.2 (sym so_far ∙ h.0) in first l.0 l.1 l.2
      where
        first : (more : List X) → All Can more → rest ≡ flat_map R more ++ end → ⊥
        first [] all_more e = h.2 (behind, sym e ∙ starts)
        first (y ∷ more) all_more e =
            none y (flat_map R more ++ end) (All-head Can y more all_more) (append_cancel_left (word ++ 9 ∷ []) _ _ (sym starts ∙ e ∙ first_row y more end))

    pub no_lf : (items : List X) (text rest behind : List ℕ) → text ≡ flat_map R items ++ rest → All Can items → rest ≡ (word ++ 9 ∷ []) ++ behind → Lacks 10 behind →
        (ys : List X) (end : List ℕ) → AreRowsOf word written Can text ys end → ⊥
    no_lf items text rest behind so_far all starts lacks =
        no_row items text rest behind so_far all starts
        (λ y more can e. let l : Lacks 10 (written y ++ 10 ∷ more) = rw e at lacks in All-head (λ b. b ≢ 10) 10 more (All-back (λ b. b ≢ 10) (written y) (10 ∷ more) l) refl)

    pub no_item : (items : List X) (text rest behind fields later : List ℕ) → text ≡ flat_map R items ++ rest → All Can items → rest ≡ (word ++ 9 ∷ []) ++ behind → SplitsAt 10 behind fields later →
        HasNone written Can fields → (ys : List X) (end : List ℕ) → AreRowsOf word written Can text ys end → ⊥
    no_item items text rest behind fields later so_far all starts split none =
        no_row items text rest behind so_far all starts
        (λ y more can e. none y can (sym (unsplit 10 fields (written y) later more split.1 (plain y can) (sym split.0 ∙ e)).0))

    pub rows_fault : (items : List X) (text rest behind fields later : List ℕ) → text ≡ flat_map R items ++ rest → All Can items → rest ≡ (word ++ 9 ∷ []) ++ behind → SplitsAt 10 behind fields later →
        (fault : CertificateFault) → Reads written Can fields (Err fault) → ReadsRows word written Can text (Err fault)
    rows_fault items text rest behind fields later so_far all starts split Text none = no_item items text rest behind fields later so_far all starts split none
    rows_fault items text rest behind fields later so_far all starts split Memory none = tt

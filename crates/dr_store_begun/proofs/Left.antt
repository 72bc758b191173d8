-- Lines of a page that are told one after another.
use Rattle.std.proofs.Common.{◌≡◌, ℕ, List, [], ◌∷◌, ◌++◌, length, refl, sym, ap, subst, ◌∙◌, arith}
use Rattle.std.proofs.lemmas.List.{append-nil, append_assoc}
use Rattle.dr_ledger.specs.Books.{Book, Fold, Line, after, empty_book}
use Rattle.dr_ledger.specs.Histories.{IsJournalled, IsPast}
use Rattle.dr_ledger.specs.Routings.{Routing}
use Rattle.dr_ledger_history.specs.Contents.{Content}
use Rattle.dr_ledger_history.specs.Told.{IsTold}

-- some of these lines are told behind what made the first content, and those are left
pub record AreLeft (first : Content) (all : List Line) (now : Content) (left : List Line) : Type 0 where
  pub done : List Line
  pub whole : all ≡ done ++ left
  pub told : (before : List Line) → IsTold before first → IsTold (before ++ done) now

-- the beginning of a past is one
pub past_front : (lines more : List Line) (b : Book) → IsPast (lines ++ more) b → IsPast lines b
past_front [] more b h = tt
past_front (line ∷ lines) more b h = (h.0, past_front lines more (after line b) h.1)

pub told_as : (lines others : List Line) (c : Content) → lines ≡ others → IsTold others c → IsTold lines c
told_as lines others c same told = subst (λ all. IsTold all c) (sym same) told

pub all_left : (first : Content) (all left : List Line) → left ≡ all → AreLeft first all first left
all_left first all left same = record {
  done = [];
  whole = sym same;
  told = λ before told. told_as (before ++ []) before first (append-nil before) told;
}

module _ (first : Content) (all : List Line) (now : Content) (left : List Line) (are : AreLeft first all now left) where
  pub one_less : (line : Line) (rest : List Line) (new : Content) → left ≡ line ∷ rest
      → ((lines : List Line) → IsTold lines now → IsTold (lines ++ line ∷ []) new)
      → AreLeft first all new rest
  one_less line rest new is goes = record {
    done = are.done ++ line ∷ [];
    whole = are.whole ∙ ap (λ ls. are.done ++ ls) is ∙ sym (append_assoc are.done (line ∷ []) rest);
    told = λ before told. told_as (before ++ (are.done ++ line ∷ [])) ((before ++ are.done) ++ line ∷ []) new (sym (append_assoc before are.done (line ∷ [])))
        (goes (before ++ are.done) (are.told before told));
  }

  pub none_left : left ≡ [] → (before : List Line) → IsTold before first → IsTold (before ++ all) now
  none_left none before told =
      told_as (before ++ all) (before ++ are.done) now (ap (λ ls. before ++ ls) (are.whole ∙ ap (λ ls. are.done ++ ls) none ∙ append-nil are.done)) (are.told before told)

  pub one_refused : (line : Line) (rest : List Line) → left ≡ line ∷ rest
      → ((lines : List Line) → IsTold lines now → IsPast (lines ++ line ∷ []) empty_book → ⊥)
      → (before : List Line) → IsTold before first → IsPast (before ++ all) empty_book → ⊥
  one_refused line rest is fails before told past =
      let same : before ++ all ≡ ((before ++ are.done) ++ line ∷ []) ++ rest =
      ap (λ ls. before ++ ls) (are.whole ∙ ap (λ ls. are.done ++ ls) is)
      ∙ sym (append_assoc before are.done (line ∷ rest))
      ∙ sym (append_assoc (before ++ are.done) (line ∷ []) rest) in
      fails (before ++ are.done) (are.told before told)
      (past_front ((before ++ are.done) ++ line ∷ []) rest empty_book (subst (λ (ls : List Line). IsPast ls empty_book) same past))

pub no_items : {X : Type 0} (items : List X) (n : ℕ) → n ≡ length items → n ≡ 0 → items ≡ []
no_items [] n e zero = refl
no_items (x ∷ items) n e zero = absurd (let l : length (x ∷ items) ≡ 0 = sym e ∙ zero in omega (arith, l))

pub journal_as : (routing : Routing) (lines : List Line) → IsJournalled routing (Fold (lines ++ [])) → IsJournalled routing (Fold lines)
journal_as routing lines is = subst (λ ls. IsJournalled routing (Fold ls)) (append-nil lines) is

-- Successes in a journal, and one line more.
use Rattle.std.proofs.Common.{◌≡◌, refl, sym, ap, subst, ◌⊎◌, inl, inr, ℕ, true, List, [], ◌∷◌, ◌++◌, Contains, Some}
use Rattle.std.proofs.lemmas.List.Elements.{Contains-append_left, Contains-append_right}
use Rattle.std.specs.FinMap as map
use Rattle.dr_base.specs.Texts.{Text}
use Rattle.dr_plan_model.proofs.Gathered.{Contains-here}
use Rattle.dr_ledger.specs.declared.item.Instance.{Instance}
use Rattle.dr_ledger.specs.declared.item.Outcome.{Outcome}
use Rattle.dr_ledger.specs.declared.item.Outcome.TheVariants.{Status}
use Rattle.dr_ledger.specs.Books.{Line, Settling, Adoption, is_success, Fold}
use Rattle.dr_ledger.specs.OneNode.{HasSucceededSince}

-- ---- where a line stands in a list with one more at its end
pub record IsLast (before later lines : List Line) (line last : Line) : Type 0 where
  pub none : later ≡ []
  pub same : line ≡ last
  pub all : before ≡ lines

pub record IsEarlier (before later lines : List Line) (line last : Line) : Type 0 where
  pub rest : List Line
  pub later_is : later ≡ rest ++ last ∷ []
  pub lines_are : lines ≡ before ++ line ∷ rest

head_of : (x y : Line) (xs ys : List Line) → ◌≡◌ {A = List Line} (x ∷ xs) (y ∷ ys) → x ≡ y
head_of x y xs ys e = cc

tail_of : (x y : Line) (xs ys : List Line) → ◌≡◌ {A = List Line} (x ∷ xs) (y ∷ ys) → xs ≡ ys
tail_of x y xs ys e = cc

pub not_empty : (before later : List Line) (line : Line) → before ++ line ∷ later ≡ [] → ⊥
not_empty [] later line e = cc
not_empty (first ∷ before) later line e = cc

pub at_end : (before later lines : List Line) (line last : Line) → before ++ line ∷ later ≡ lines ++ last ∷ [] → IsLast before later lines line last ⊎ IsEarlier before later lines line last
at_end [] later [] line last e = inl (record { none = tail_of line last later [] e; same = head_of line last later [] e; all = refl })
at_end (first ∷ before) later [] line last e = absurd (not_empty before later line (tail_of first last (before ++ line ∷ later) [] e))
at_end [] later (one ∷ lines) line last e = inr (record {
  rest = lines;
  later_is = tail_of line one later (lines ++ last ∷ []) e;
  lines_are = ap (λ (x : Line). x ∷ lines) (sym (head_of line one later (lines ++ last ∷ []) e));
})
at_end (first ∷ before) later (one ∷ lines) line last e =
    let same : first ≡ one = head_of first one (before ++ line ∷ later) (lines ++ last ∷ []) e in
    elim (at_end before later lines line last (tail_of first one (before ++ line ∷ later) (lines ++ last ∷ []) e)) [
      | inl l ↦ inl (record { none = l.none; same = l.same; all = (λ j. same j ∷ l.all j) })
      | inr r ↦ inr (record { rest = r.rest; later_is = r.later_is; lines_are = (λ j. sym same j ∷ r.lines_are j) })
    ]

-- the line notes the destination's success of the item
pub record NotesSuccess (lines : List Line) (line : Line) (item : Instance) (dest : Text) : Type 0 where
  pub status : ℕ
  pub now : ℕ
  pub is : line ≡ Settling item.uid dest (Status status) now
  pub success : is_success status ≡ true
  pub had : map.get (Fold lines).items item.uid ≡ Some item

-- a success was noted before, or is by the last line
pub succeeded_from : (lines : List Line) (line : Line) (item : Instance) (dest : Text) → HasSucceededSince (lines ++ line ∷ []) item dest → HasSucceededSince lines item dest ⊎ NotesSuccess lines line item dest
succeeded_from lines line item dest h =
    let s = h.success in
    elim (at_end s.before s.later lines (Settling item.uid dest (Status s.status) s.now) line (sym s.at)) [
      | inl l ↦ inr (record {
        status = s.status;
        now = s.now;
        is = sym l.same;
        success = s.success;
        had = (let P : List Line → Type 0 = λ ls. map.get (Fold ls).items item.uid ≡ Some item in subst P l.all s.had);
      })
      | inr r ↦ inl (record {
        success = record { before = s.before; status = s.status; now = s.now; later = r.rest; at = r.lines_are; success = s.success; had = s.had };
        since = λ c. h.since (let P : List Line → Type 0 = λ ls. Contains ls Adoption in subst P (sym r.later_is) (Contains-append_left r.rest (line ∷ []) Adoption c));
      })
    ]

-- none was noted since an adoption that is the last line
pub none_since : (lines : List Line) (item : Instance) (dest : Text) → HasSucceededSince (lines ++ Adoption ∷ []) item dest → ⊥
none_since lines item dest h =
    let s = h.success in
    elim (at_end s.before s.later lines (Settling item.uid dest (Status s.status) s.now) Adoption (sym s.at)) [
      | inl l ↦ (let e : Settling item.uid dest (Status s.status) s.now ≡ Adoption = l.same in let f : ⊥ = cc in f)
      | inr r ↦ h.since (let P : List Line → Type 0 = λ ls. Contains ls Adoption in subst P (sym r.later_is) (Contains-append_right r.rest (Adoption ∷ []) Adoption (Contains-here Adoption [])))
    ]

pub none_yet : (item : Instance) (dest : Text) → HasSucceededSince [] item dest → ⊥
none_yet item dest h = not_empty h.success.before h.success.later _ (sym h.success.at)

-- a line that is no settling notes nothing
pub succeeded_before : (lines : List Line) (line : Line) → ((uid dest : Text) (outcome : Outcome) (now : ℕ) → line ≡ Settling uid dest outcome now → ⊥) →
    (item : Instance) (dest : Text) → HasSucceededSince (lines ++ line ∷ []) item dest → HasSucceededSince lines item dest
succeeded_before lines line silent item dest h = elim (succeeded_from lines line item dest h) [ inl was ↦ was | inr now ↦ absurd (silent item.uid dest (Status now.status) now.now now.is) ]

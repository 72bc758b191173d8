-- Lists that are put together in two ways, and what a whole history says of its parts.
use Rattle.std.proofs.Common.{◌≡◌, refl, sym, ◌⊎◌, inl, inr, List, [], ◌∷◌, ◌++◌}
use Rattle.dr_ledger.specs.Books.{Book, Line, Adoption, after, folded}
use Rattle.dr_ledger.specs.Histories.{IsBeforeAdoption, IsHistory, IsPast}
use Rattle.dr_ledger.specs.Routings.{Routing}

-- ---- lists

first_is : {X : Type 0} (x y : X) (xs ys : List X) → x ∷ xs ≡ y ∷ ys → x ≡ y
first_is x y xs ys e = cc

rest_is : {X : Type 0} (x y : X) (xs ys : List X) → x ∷ xs ≡ y ∷ ys → xs ≡ ys
rest_is x y xs ys e = cc

pub none_is : {X : Type 0} (x : X) (xs : List X) → x ∷ xs ≡ [] → ⊥
none_is x xs e = cc

-- the second of two wholes is cut behind the first cut of the other, or before it
abbrev pub IsCutAt : (first last other end : List Line) → Type 0
IsCutAt first last other end =
    ((mid : List Line) × (other ≡ first ++ mid) × (last ≡ mid ++ end))
    ⊎ ((mid : List Line) × (first ≡ other ++ mid) × (end ≡ mid ++ last))

pub cut_at : (first last other end : List Line)
    → first ++ last ≡ other ++ end → IsCutAt first last other end
cut_at [] last other end same = inl (other, refl, same)
cut_at (x ∷ first) last [] end same = inr (x ∷ first, refl, sym same)
cut_at (x ∷ first) last (y ∷ other) end same =
    let head : x ≡ y = first_is x y (first ++ last) (other ++ end) same in
    elim (cut_at first last other end (rest_is x y (first ++ last) (other ++ end) same)) [
      | inl c ↦ inl (c.0, (λ i. sym head i ∷ c.1 i), c.2)
      | inr c ↦ inr (c.0, (λ i. head i ∷ c.1 i), c.2)
    ]

-- where something ends with an adoption, so does what is not empty at its end
only_one : (x : Line) (before rest : List Line)
    → Adoption ∷ [] ≡ before ++ x ∷ rest → x ∷ rest ≡ Adoption ∷ []
only_one x [] rest same = sym same
only_one x (y ∷ before) rest same =
    absurd (none_at before x rest (sym (rest_is Adoption y [] (before ++ x ∷ rest) same)))
  where
    none_at : (before : List Line) (x : Line) (rest : List Line) → before ++ x ∷ rest ≡ [] → ⊥
    none_at [] x rest e = none_is x rest e
    none_at (z ∷ before) x rest e = none_is z (before ++ x ∷ rest) e

pub ends_adopting : (past : List Line) (x : Line) (rest : List Line)
    → IsBeforeAdoption (past ++ x ∷ rest)
    → (earlier : List Line) × (x ∷ rest ≡ earlier ++ Adoption ∷ [])
ends_adopting past x rest (inl none) = absurd (none_at past none)
  where
    none_at : (before : List Line) → before ++ x ∷ rest ≡ [] → ⊥
    none_at [] e = none_is x rest e
    none_at (z ∷ before) e = none_is z (before ++ x ∷ rest) e
ends_adopting past x rest (inr ends) =
    elim (cut_at past (x ∷ rest) ends.0 (Adoption ∷ []) ends.1) [
      | inl c ↦ (c.0, c.2)
      | inr c ↦ ([], only_one x c.0 rest c.2)
    ]

-- ---- histories

pub past_front : (lines more : List Line) (b : Book) → IsPast (lines ++ more) b → IsPast lines b
past_front [] more b h = tt
past_front (line ∷ lines) more b h = (h.0, past_front lines more (after line b) h.1)

pub past_behind : (lines more : List Line) (b : Book)
    → IsPast (lines ++ more) b → IsPast more (folded b lines)
past_behind [] more b h = h
past_behind (line ∷ lines) more b h = past_behind lines more (after line b) h.1

pub past_both : (lines more : List Line) (b : Book)
    → IsPast lines b → IsPast more (folded b lines) → IsPast (lines ++ more) b
past_both [] more b h g = g
past_both (line ∷ lines) more b h g = (h.0, past_both lines more (after line b) h.1 g)

pub history_front : (routing : Routing) (lines more : List Line) (b : Book)
    → IsHistory routing (lines ++ more) b → IsHistory routing lines b
history_front routing [] more b h = tt
history_front routing (line ∷ lines) more b h =
    (h.0, history_front routing lines more (after line b) h.1)

pub history_behind : (routing : Routing) (lines more : List Line) (b : Book)
    → IsHistory routing (lines ++ more) b → IsHistory routing more (folded b lines)
history_behind routing [] more b h = h
history_behind routing (line ∷ lines) more b h =
    history_behind routing lines more (after line b) h.1

pub history_both : (routing : Routing) (lines more : List Line) (b : Book)
    → IsHistory routing lines b → IsHistory routing more (folded b lines)
    → IsHistory routing (lines ++ more) b
history_both routing [] more b h g = g
history_both routing (line ∷ lines) more b h g =
    (h.0, history_both routing lines more (after line b) h.1 g)

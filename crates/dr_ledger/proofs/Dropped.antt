-- Droppings in a journal, and one line more.
use Rattle.std.proofs.Common.{◌≡◌, refl, sym, ap, subst, ◌∙◌, ◌⊎◌, inl, inr, ℕ, Bool, List, [], ◌∷◌, ◌++◌, Contains, Some}
use Rattle.std.specs.FinMap as map
use Rattle.std.proofs.lemmas.List.{append_assoc}
use Rattle.std.proofs.lemmas.List.Elements.{Contains-append_left, Contains-append_right, Contains-append_cases}
use Rattle.dr_base.specs.Texts.{Text}
use Rattle.dr_plan_model.proofs.Gathered.{nothing_in_nil, Contains-cons_cases, Contains-here, Contains-there, only_one}
use Rattle.dr_ledger.specs.declared.item.Instance.{Instance}
use Rattle.dr_ledger.specs.Books.{Book, Line, Arrival, Dropping, Adoption, Fold}
use Rattle.dr_ledger.specs.OneNode.{BroughtAgainIsNotDropped, DroppingsCount, WasDropped, WasDroppedSince}
use Rattle.dr_ledger.proofs.Ones.{texts_or_not, items_or_not}
use Rattle.dr_ledger.proofs.Succeeded.{at_end, not_empty}

-- ---- arrivals that go to a destination
-- the line is an arrival of this very item that goes to the destination
abbrev pub Brings : Line → Instance → Text → Type 0
Brings line item dest = (caller : Text) × (to : List Text) × (keep : Bool) × (line ≡ Arrival caller item to keep) × Contains to dest

-- the line is no arrival of this very item that goes to the destination
abbrev pub IsSilent : Line → Instance → Text → Type 0
IsSilent line item dest = (caller : Text) (to : List Text) (keep : Bool) → line ≡ Arrival caller item to keep → Contains to dest → ⊥

-- the line is no arrival
abbrev pub IsNoArrival : Line → Type 0
IsNoArrival line = (caller : Text) (item : Instance) (to : List Text) (keep : Bool) → line ≡ Arrival caller item to keep → ⊥

pub is_silent : (line : Line) → IsNoArrival line → (item : Instance) (dest : Text) → IsSilent line item dest
is_silent line none item dest caller to keep is goes = none caller item to keep is

pub same_item : (c d : Text) (i j : Instance) (to ts : List Text) (keep k : Bool) → Arrival c i to keep ≡ Arrival d j ts k → i ≡ j
same_item c d i j to ts keep k e = cc

pub same_targets : (c d : Text) (i j : Instance) (to ts : List Text) (keep k : Bool) → Arrival c i to keep ≡ Arrival d j ts k → to ≡ ts
same_targets c d i j to ts keep k e = cc

pub among_or_not : (all : List Text) (x : Text) → Contains all x ⊎ (Contains all x → ⊥)
among_or_not [] x = inr (λ h. nothing_in_nil x h)
among_or_not (first ∷ all) x = elim (texts_or_not first x) [
  | inl same ↦ inl (let P : Text → Type 0 = λ t. Contains (first ∷ all) t in subst P same (Contains-here first all))
  | inr other ↦ elim (among_or_not all x) [
    | inl later ↦ inl (Contains-there first all x later)
    | inr none ↦ inr (λ h. elim (Contains-cons_cases first all x h) [ inl same ↦ other same | inr later ↦ none later ])
  ]
]

-- an arrival is of the very item and goes to the destination, or is silent of it
pub brings_or_not : (caller : Text) (i : Instance) (to : List Text) (keep : Bool) (item : Instance) (dest : Text) → Brings (Arrival caller i to keep) item dest ⊎ IsSilent (Arrival caller i to keep) item dest
brings_or_not caller i to keep item dest = elim (items_or_not i item) [
  | inr other ↦ inr (λ c ts k is goes. other (same_item caller c i item to ts keep k is))
  | inl same ↦ elim (among_or_not to dest) [
    | inl goes ↦ inl (caller, to, keep, ap (λ (x : Instance). Arrival caller x to keep) same, goes)
    | inr none ↦ inr (λ c ts k is goes. none (let P : List Text → Type 0 = λ x. Contains x dest in subst P (sym (same_targets caller c i item to ts keep k is)) goes))
  ]
]

-- ---- one line more
-- what was dropped was so still after a line that is silent of it
pub still_dropped : (lines : List Line) (line : Line) (item : Instance) (dest : Text) → IsSilent line item dest → WasDropped lines item dest → WasDropped (lines ++ line ∷ []) item dest
still_dropped lines line item dest silent h = record {
  before = h.before;
  now = h.now;
  later = h.later ++ line ∷ [];
  at = ap (λ (ls : List Line). ls ++ line ∷ []) h.at ∙ append_assoc h.before (Dropping item.uid dest h.now ∷ h.later) (line ∷ []);
  had = h.had;
  last = λ caller to keep among goes. elim (Contains-append_cases h.later (line ∷ []) (Arrival caller item to keep) among) [
    | inl was ↦ h.last caller to keep was goes
    | inr now ↦ silent caller to keep (only_one line (Arrival caller item to keep) now) goes
  ];
}

-- the last line drops a row of an item that the book has
pub dropped_now : (lines : List Line) (b : Book) → b ≡ Fold lines → (item : Instance) (dest : Text) (now : ℕ) → map.get b.items item.uid ≡ Some item → WasDropped (lines ++ Dropping item.uid dest now ∷ []) item dest
dropped_now lines b is item dest now has =
    let P : Book → Type 0 = λ x. map.get x.items item.uid ≡ Some item in
    record { before = lines; now = now; later = []; at = refl; had = subst P is has; last = λ caller to keep among goes. nothing_in_nil (Arrival caller item to keep) among }

-- the same under the plan in force
pub still_dropped_since : (lines : List Line) (line : Line) (item : Instance) (dest : Text) → IsSilent line item dest → (line ≡ Adoption → ⊥) → WasDroppedSince lines item dest → WasDroppedSince (lines ++ line ∷ []) item dest
unfolding still_dropped
still_dropped_since lines line item dest silent plain h = record {
  dropped = still_dropped lines line item dest silent h.dropped;
  since = λ among. elim (Contains-append_cases h.dropped.later (line ∷ []) Adoption among) [
    | inl was ↦ h.since was
    | inr now ↦ plain (only_one line Adoption now)
  ];
}

pub dropped_now_since : (lines : List Line) (b : Book) → b ≡ Fold lines → (item : Instance) (dest : Text) (now : ℕ) → map.get b.items item.uid ≡ Some item → WasDroppedSince (lines ++ Dropping item.uid dest now ∷ []) item dest
unfolding dropped_now
dropped_now_since lines b is item dest now has = record { dropped = dropped_now lines b is item dest now has; since = λ among. nothing_in_nil Adoption among }

-- the line notes the dropping of the item by name
pub record NotesDropping (lines : List Line) (line : Line) (item : Instance) (dest : Text) : Type 0 where
  pub now : ℕ
  pub is : line ≡ Dropping item.uid dest now
  pub had : map.get (Fold lines).items item.uid ≡ Some item

-- a dropping was noted before, or is by the last line
pub dropped_from : (lines : List Line) (line : Line) (item : Instance) (dest : Text) → WasDroppedSince (lines ++ line ∷ []) item dest → WasDroppedSince lines item dest ⊎ NotesDropping lines line item dest
dropped_from lines line item dest h =
    let d = h.dropped in
    elim (at_end d.before d.later lines (Dropping item.uid dest d.now) line (sym d.at)) [
      | inl l ↦ inr (record {
        now = d.now;
        is = sym l.same;
        had = (let P : List Line → Type 0 = λ ls. map.get (Fold ls).items item.uid ≡ Some item in subst P l.all d.had);
      })
      | inr r ↦ inl (record {
        dropped = record {
          before = d.before;
          now = d.now;
          later = r.rest;
          at = r.lines_are;
          had = d.had;
          last = λ caller to keep among goes. d.last caller to keep (let P : List Line → Type 0 = λ ls. Contains ls (Arrival caller item to keep) in subst P (sym r.later_is) (Contains-append_left r.rest (line ∷ []) (Arrival caller item to keep) among)) goes;
        };
        since = λ c. h.since (let P : List Line → Type 0 = λ ls. Contains ls Adoption in subst P (sym r.later_is) (Contains-append_left r.rest (line ∷ []) Adoption c));
      })
    ]

-- none was noted since an adoption that is the last line
pub none_dropped_since : (lines : List Line) (item : Instance) (dest : Text) → WasDroppedSince (lines ++ Adoption ∷ []) item dest → ⊥
none_dropped_since lines item dest h =
    let d = h.dropped in
    elim (at_end d.before d.later lines (Dropping item.uid dest d.now) Adoption (sym d.at)) [
      | inl l ↦ (let e : Dropping item.uid dest d.now ≡ Adoption = l.same in let f : ⊥ = cc in f)
      | inr r ↦ h.since (let P : List Line → Type 0 = λ ls. Contains ls Adoption in subst P (sym r.later_is) (Contains-append_right r.rest (Adoption ∷ []) Adoption (Contains-here Adoption [])))
    ]

pub none_dropped_yet : (item : Instance) (dest : Text) → WasDroppedSince [] item dest → ⊥
none_dropped_yet item dest h = not_empty h.dropped.before h.dropped.later _ (sym h.dropped.at)

-- ---- laws
pub droppings_count : DroppingsCount
droppings_count lines item dest now has = dropped_now_since lines (Fold lines) refl item dest now has

pub brought_again : BroughtAgainIsNotDropped
brought_again lines caller item to keep dest goes d =
    let line : Line = Arrival caller item to keep in
    elim (at_end d.before d.later lines (Dropping item.uid dest d.now) line (sym d.at)) [
      | inl l ↦ (let e : Dropping item.uid dest d.now ≡ Arrival caller item to keep = l.same in let f : ⊥ = cc in f)
      | inr r ↦ d.last caller to keep (let P : List Line → Type 0 = λ ls. Contains ls line in subst P (sym r.later_is) (Contains-append_right r.rest (line ∷ []) line (Contains-here line []))) goes
    ]

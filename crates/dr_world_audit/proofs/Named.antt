-- Nodes by name.
use Rattle.std.specs.Prelude.{◌≡◌, Bool, true, false, cond, List, [], ◌∷◌, ◌++◌, Contains}
use Rattle.std.proofs.Common.{refl, sym, ap, subst, ◌∙◌}
use Rattle.std.proofs.lemmas.List.Elements.{Contains-append_right, Contains-push_cases}
use mathlib.Core.Logic.{inl, inr}
use Rattle.dr_base.specs.Texts.{Text}
use Rattle.dr_plan_model.proofs.Gathered.{nothing_in_nil, Contains-cons_cases, Contains-here, Contains-there}
use Rattle.dr_ledger.specs.Books.{Fold, empty_book}
use Rattle.dr_ledger.proofs.Maps.{cases_of, texts, same_or_not, ties_itself}
use Rattle.dr_world_model.specs.Worlds.{same_text}
use Rattle.dr_world_audit.specs.declared.audit.NodeJournal.{NodeJournal}
use Rattle.dr_world_audit.specs.Sites.{AreApart, books_of, lines_at, names, ours_of}

pub names_push : (nodes : List NodeJournal) (one : NodeJournal) → names (nodes ++ one ∷ []) ≡ names nodes ++ one.name ∷ []
names_push [] one = refl
names_push (node ∷ nodes) one = ap (λ ns. node.name ∷ ns) (names_push nodes one)

pub apart_push : (nodes : List NodeJournal) (one : NodeJournal) → AreApart nodes → (Contains (names nodes) one.name → ⊥) → AreApart (nodes ++ one ∷ [])
apart_push [] one apart fresh = (λ h. nothing_in_nil one.name h, tt)
apart_push (node ∷ nodes) one apart fresh = (
  λ h. elim (Contains-push_cases (names nodes) one.name node.name (subst (λ ns. Contains ns node.name) (names_push nodes one) h)) [
    | inl was ↦ apart.0 was
    | inr same ↦ fresh (subst (Contains (node.name ∷ names nodes)) (sym same) (Contains-here node.name (names nodes)))
  ],
  apart_push nodes one apart.1 (λ h. fresh (Contains-there node.name (names nodes) one.name h)),
)

pub named_in : (nodes : List NodeJournal) (node : NodeJournal) → Contains nodes node → Contains (names nodes) node.name
named_in [] node h = absurd (nothing_in_nil node h)
named_in (first ∷ nodes) node h = elim (Contains-cons_cases first nodes node h) [
  | inl same ↦ (let P : NodeJournal → Type 0 = λ n. Contains (names (first ∷ nodes)) n.name in subst P same (Contains-here first.name (names nodes)))
  | inr later ↦ Contains-there first.name (names nodes) node.name (named_in nodes node later)
]

-- the node of one of ours
pub ours_found : (nodes : List NodeJournal) (name : Text) → ours_of nodes name ≡ true → (node : NodeJournal) × Contains nodes node × (node.name ≡ name)
ours_found [] name h = absurd (let e : ⊥ = cc in e)
ours_found (first ∷ nodes) name h = elim (same_or_not texts name first.name) [
  | inl same ↦ (first, Contains-here first nodes, sym same)
  | inr other ↦ (
      let later : ours_of nodes name ≡ true = ap (λ (b : Bool). cond b true (ours_of nodes name)) (sym other) ∙ h in
      let found = ours_found nodes name later in
      (found.0, Contains-there first nodes found.0 found.1, found.2)
      )
]

pub ours_in : (nodes : List NodeJournal) (name : Text) → Contains (names nodes) name → ours_of nodes name ≡ true
ours_in [] name h = absurd (nothing_in_nil name h)
ours_in (first ∷ nodes) name h = elim (same_or_not texts name first.name) [
  | inl same ↦ (let P : Text → Type 0 = λ n. cond (same_text name n) true (ours_of nodes name) ≡ true in subst P same (ap (λ (b : Bool). cond b true (ours_of nodes name)) (ties_itself texts name)))
  | inr other ↦ elim (Contains-cons_cases first.name (names nodes) name h) [
    | inl here ↦ (let P : Text → Type 0 = λ n. cond (same_text n first.name) true (ours_of nodes n) ≡ true in subst P here (ap (λ (b : Bool). cond b true (ours_of nodes first.name)) (ties_itself texts first.name)))
    | inr later ↦ ap (λ (b : Bool). cond b true (ours_of nodes name)) other ∙ ours_in nodes name later
  ]
]

pub others_are_empty : (nodes : List NodeJournal) (name : Text) → ours_of nodes name ≡ false → books_of nodes name ≡ empty_book
others_are_empty [] name h = refl
others_are_empty (first ∷ nodes) name h = elim (cases_of (same_text name first.name)) [
  | inl same ↦ absurd (let e : true ≡ false = ap (λ (b : Bool). cond b true (ours_of nodes name)) (sym same) ∙ h in cc e)
  | inr other ↦ ap (λ (b : Bool). cond b (Fold (lines_at first)) (books_of nodes name)) other ∙ others_are_empty nodes name (ap (λ (b : Bool). cond b true (ours_of nodes name)) (sym other) ∙ h)
]

-- the book of a node
pub book_is : (nodes : List NodeJournal) → AreApart nodes → (node : NodeJournal) → Contains nodes node → books_of nodes node.name ≡ Fold (lines_at node)
book_is [] apart node h = absurd (nothing_in_nil node h)
book_is (first ∷ nodes) apart node h = elim (Contains-cons_cases first nodes node h) [
  | inl same ↦ (
      let P : NodeJournal → Type 0 = λ n. books_of (first ∷ nodes) n.name ≡ Fold (lines_at n) in
      subst P same (ap (λ (b : Bool). cond b (Fold (lines_at first)) (books_of nodes first.name)) (ties_itself texts first.name))
      )
  | inr later ↦ elim (same_or_not texts node.name first.name) [
    | inl same ↦ absurd (apart.0 (subst (Contains (names nodes)) same (named_in nodes node later)))
    | inr other ↦ ap (λ (b : Bool). cond b (Fold (lines_at first)) (books_of nodes node.name)) other ∙ book_is nodes apart.1 node later
  ]
]

-- the name of a node stands before it
pub named_twice : (before : List NodeJournal) (one : NodeJournal) (after : List NodeJournal) → Contains (names before) one.name → AreApart (before ++ one ∷ after) → ⊥
named_twice [] one after h apart = nothing_in_nil one.name h
named_twice (first ∷ before) one after h apart = elim (Contains-cons_cases first.name (names before) one.name h) [
  | inl same ↦ apart.0 (subst (Contains (names (before ++ one ∷ after))) (sym same) (named_in (before ++ one ∷ after) one (Contains-append_right before (one ∷ after) one (Contains-here one after))))
  | inr later ↦ named_twice before one after later apart.1
]

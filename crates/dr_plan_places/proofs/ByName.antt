-- Nodes by their names.
use Rattle.std.proofs.Common.{◌≡◌, ◌≢◌, ℕ, ◌<◌, ◌≤◌, inl, inr, sym, ◌∙◌, ap, subst, List, map, length, get_or, Contains, arith}
use Rattle.std.specs.Prelude.{All, AllPairs}
use Rattle.std.proofs.lemmas.List.{get_or-map, length-map}
use Rattle.std.proofs.lemmas.Option.{slice_get_cases, slice_get_within, get_or_from_slice_get}
use Rattle.dr_base.specs.Texts.{Text}
use Rattle.dr_plan_text.specs.declared.words.NodeText.{NodeText}
use Rattle.dr_plan_places.specs.Firsts.{IsFirstAt}

abbrev pub name_of_node : NodeText → Text
name_of_node node = node.name

abbrev pub names : List NodeText → List Text
names nodes = map (λ (node : NodeText). node.name) nodes

-- a node of the name stands first among these
abbrev pub IsNamedAt : Text → List NodeText → ℕ → Unit {0} → Type 0
IsNamedAt name nodes index place = IsFirstAt (λ (node : NodeText). node.name ≢ name) (λ (node : NodeText) (_ : Unit {0}). node.name ≡ name) nodes index place

pub named : (nodes : List NodeText) (name : Text) (index : ℕ) (place : Unit {0}) → IsNamedAt name nodes index place → Contains (names nodes) name
named nodes name index place found =
    let h : index < length nodes = slice_get_within nodes index found.value found.stands in
    let f : NodeText → Text = λ node. node.name in (
      index,
      rw (length-map nodes f) h,
      get_or-map f nodes index found.value name h ∙ ap f (get_or_from_slice_get nodes index found.value found.value found.stands) ∙ found.at,
    )

-- a node at an index of the list
some_node : (nodes : List NodeText) (i : ℕ) → i < length nodes → NodeText
some_node nodes i h = elim ((slice_get_cases nodes i).1) [ inl x ↦ x.0 | inr past ↦ absurd (omega arith) ]

pub unnamed : (nodes : List NodeText) (name : Text) → All (λ (node : NodeText). node.name ≢ name) nodes → Contains (names nodes) name → ⊥
unnamed nodes name none among =
    let f : NodeText → Text = λ node. node.name in
    let h : among.0 < length nodes = subst (λ n. among.0 < n) (length-map nodes f) among.1 in
    let x : NodeText = some_node nodes among.0 h in
    none among.0 x h (sym (get_or-map f nodes among.0 x name h) ∙ among.2)

-- no two of the first nodes have one name
abbrev pub Apart : List NodeText → ℕ → Type 0
Apart nodes bound = (i j : ℕ) (d : NodeText) → i < j → j < bound → (get_or nodes i d).name ≢ (get_or nodes j d).name

pub all_apart : (nodes : List NodeText) (bound : ℕ) → length nodes ≤ bound → Apart nodes bound → AllPairs (λ a b. a ≢ b) (names nodes)
all_apart nodes bound long apart i j d ij h same =
    let f : NodeText → Text = λ node. node.name in
    let jl : j < length nodes = subst (λ n. j < n) (length-map nodes f) h in
    let il : i < length nodes = omega arith in
    let x : NodeText = some_node nodes j jl in
    apart i j x ij (omega arith) (sym (get_or-map f nodes i x d il) ∙ same ∙ get_or-map f nodes j x d jl)

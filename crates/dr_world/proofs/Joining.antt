-- The names of the nodes that join are those of all nodes, in their order, without those that are there.
use Rattle.std.proofs.Common.{◌≡◌, ℕ, ◌+◌, ◌<◌, ◌≤◌, Bool, List, [], ◌∷◌, ◌++◌, length, get_or, take}
use Rattle.std.proofs.Common.{Option, None, Some, is_some, sym, ap, ◌∙◌}
use Rattle.std.specs.Prelude.{cond, not}
use Rattle.std.specs.BTreeMap as tree
use Rattle.std.specs.BTreeMap.{BTreeMap}
use Rattle.std.specs.List.{filter}
use Rattle.std.proofs.lemmas.List.{append-nil, take_all}
use Rattle.std.proofs.lemmas.List.Elements.{filter-append}
use Rattle.dr_base.specs.Texts.{Text, text_cmp}
use Rattle.dr_ledger.specs.declared.ledger.Ledger.{Ghosts}
use Rattle.dr_node.specs.declared.node.Node.{Node}
use Rattle.dr_plan_model.specs.Networks.{Network}
use Rattle.dr_plan_model.specs.Plans.{AreNames}
use Rattle.dr_world.specs.Adopted.{AddsAbsent, AddsIn, JoinInOrder, is_absent}
use Rattle.dr_world.proofs.Adopting.{so_far}

module _ {L : Type 0} {l : Ghosts L} where
  one_more : (o : Option (Node L l)) (name : Text) (old new : List Text)
      → AddsIn o name old new
      → new ≡ old ++ cond (not (is_some o)) (name ∷ []) []
  one_more None name old new h = h
  one_more (Some n) name old new h = h ∙ sym (append-nil old)

  pub absent_more : (nodes : BTreeMap Text (Node L l)) (all old new : List Text) (i : ℕ)
      (name : Text)
      → i < length all
      → name ≡ get_or all i name
      → old ≡ filter (is_absent nodes) (take i all)
      → AddsAbsent nodes name old new
      → new ≡ filter (is_absent nodes) (take (i + 1) all)
  absent_more nodes all old new i name less is before adds =
      let p : Text → Bool = is_absent nodes in
      let more : new ≡ old ++ filter p (name ∷ []) =
      one_more (tree.get text_cmp nodes name) name old new adds in
      let both : new ≡ filter p (take i all) ++ filter p (name ∷ []) =
      more ∙ ap (λ (xs : List Text). xs ++ filter p (name ∷ [])) before in
      both ∙ (sym (filter-append p (take i all) (name ∷ []))
      ∙ ap (filter p) (sym (so_far all i name less is)))

  pub absent_all : (nodes : BTreeMap Text (Node L l)) (plan : Network) (all names : List Text) (i : ℕ)
      → AreNames plan all
      → length all ≤ i
      → names ≡ filter (is_absent nodes) (take i all)
      → JoinInOrder plan nodes names
  absent_all nodes plan all names i are end is =
      (all, are, is ∙ ap (filter (is_absent nodes)) (take_all i all end))

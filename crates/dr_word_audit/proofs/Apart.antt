-- The nodes of a plan have names of their own.
use Rattle.std.proofs.Common.{◌≡◌, ◌≢◌, ◌∙◌, ◌+◌, ◌<◌, inl, inr, ◌∷◌, [], ℕ, zero, suc, Bool, List, get_or, length, drop, map as mapped, refl, sym, ap, subst, arith}
use Rattle.std.specs.Prelude.{AllPairs, Contains, filter}
use Rattle.std.proofs.lemmas.List.Kept.{AllPairs-filter}
use Rattle.dr_base.specs.Texts.{Text}
use Rattle.dr_plan_model.proofs.Gathered.{Contains-cons_cases, Contains-here, Contains-there, nothing_in_nil}
use Rattle.dr_plan_model.specs.Networks.{Network}
use Rattle.dr_plan_model.specs.Plans.{IsWellFormed, NamesNoNode}
use Rattle.dr_plan_model.specs.declared.plan.Node.{Node}
use Rattle.dr_site.proofs.AsPlanned.{kept_by}
use Rattle.dr_world_audit.specs.Sites.{AreApart, names}
use Rattle.dr_world_audit.specs.declared.audit.NodeJournal.{NodeJournal}
use Rattle.dr_word_audit.specs.Audits.{AreOfNodes}
use Rattle.dr_word_adopt.specs.Names.{AreNodes}
use Rattle.dr_word_audit.specs.Names.{is_ours, our_names}

abbrev name_of : Node → Text
name_of node = node.name

-- what is shown of an element shows one of them
unmapped : {X Y : Type 0} (f : X → Y) (xs : List X) (y : Y) → Contains (mapped f xs) y → (x : X) × Contains xs x × (f x ≡ y)
unmapped f [] y among = absurd (nothing_in_nil y among)
unmapped f (x ∷ xs) y among = elim (Contains-cons_cases (f x) (mapped f xs) y among) [
  | inl same ↦ (x, Contains-here x xs, same)
  | inr later ↦ (let found = unmapped f xs y later in (found.0, Contains-there x xs found.0 found.1, found.2))
]

-- our names are names of nodes of the plan
pub ours_known : (plan : Network) (others : List Text) → AreNodes plan (our_names others plan.nodes)
ours_known plan others name among none =
    let found = unmapped name_of (filter (is_ours others) plan.nodes) name among in
    none found.0 ((kept_by (is_ours others) plan.nodes found.0 found.1).0, found.2)

later_apart : (node : Node) (nodes : List Node) → AllPairs (λ (a b : Node). a.name ≢ b.name) (node ∷ nodes) → AllPairs (λ (a b : Node). a.name ≢ b.name) nodes
later_apart node nodes h = λ i j d lt within. h (suc i) (suc j) d (omega (arith, lt)) (omega (arith, within))

first_apart : (node : Node) (nodes : List Node) → AllPairs (λ (a b : Node). a.name ≢ b.name) (node ∷ nodes) → (other : Node) → Contains nodes other → node.name ≢ other.name
first_apart node nodes h other (k, within, is) =
    let P : Node → Type 0 = λ n. node.name ≢ n.name in
    subst P is (h 0 (suc k) other (omega arith) (omega (arith, within)))

-- so are the journals of such nodes
journals_apart : (nodes : List Node) (journals : List NodeJournal) → names journals ≡ mapped name_of nodes → AllPairs (λ (a b : Node). a.name ≢ b.name) nodes → AreApart journals
journals_apart nodes [] same apart = tt
journals_apart [] (journal ∷ journals) same apart = absurd (let e : suc (length (names journals)) ≡ 0 = ap length same in omega (arith, e))
journals_apart (node ∷ nodes) (journal ∷ journals) same apart =
    let rest : names journals ≡ mapped name_of nodes = ap (drop 1) same in
    let here : journal.name ≡ node.name = ap (λ (ns : List Text). get_or ns 0 journal.name) same in (
      λ among.
          let P : List Text → Type 0 = λ ns. Contains ns journal.name in
          let found = unmapped name_of nodes journal.name (subst P rest among) in
          first_apart node nodes apart found.0 found.1 (sym here ∙ sym found.2),
      journals_apart nodes journals rest (later_apart node nodes apart),
    )

-- the journals of our nodes are of nodes of the plan, each of another one
pub of_nodes : (plan : Network) (others : List Text) (journals : List NodeJournal) → IsWellFormed plan → names journals ≡ our_names others plan.nodes → AreOfNodes plan journals
of_nodes plan others journals formed same = record {
  apart = journals_apart (filter (is_ours others) plan.nodes) journals same (AllPairs-filter (λ (a b : Node). a.name ≢ b.name) (is_ours others) plan.nodes formed.apart);
  known = (let P : List Text → Type 0 = λ ns. AreNodes plan ns in subst P (sym same) (ours_known plan others));
}

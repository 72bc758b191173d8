-- Each place that a key comes to in a sound plan has a rank: no pair stands in a walk twice, and there are finitely many
-- pairs, so the walks end.
use Rattle.std.proofs.Common.{◌≡◌, ℕ, zero, suc, ◌+◌, ◌<◌, ◌≤◌, ◌⊎◌, inl, inr, refl, sym, ap, subst, List, [], ◌∷◌, ◌++◌, length, Contains, arith}
use Rattle.std.specs.Prelude.{All, flat_map}
use Rattle.std.proofs.lemmas.List.{length-append}
use Rattle.std.proofs.lemmas.List.Elements.{All-nil, All-cons, Contains-append_left, Contains-append_right}
use Rattle.dr_base.specs.Texts.{Text}
use Rattle.dr_route.specs.Routes.{local, SendsBy}
use Rattle.dr_route.specs.declared.key.Key.{Key}
use Rattle.dr_route.specs.declared.rule.Rule.{Rule}
use Rattle.dr_plan_model.specs.declared.plan.Node.{Node}
use Rattle.dr_plan_model.specs.declared.plan.Flow.{Flow}
use Rattle.dr_plan_model.specs.Networks.{Network}
use Rattle.dr_plan_model.specs.Walks.{Sends, IsWalk, places, last_place, IsReached}
use Rattle.dr_plan_model.proofs.Gathered.{nothing_in_nil, Contains-flat_map, Contains-cons_cases, Contains-there, Contains-here}
use Rattle.dr_plan_sound.specs.Soundness.{IsSound, IsRank}
use Rattle.dr_plan_sound.proofs.Pigeons.{no_more_than}
use Rattle.dr_plan_sound.proofs.Listed.{targets_listed}

-- from a place on the walks are no longer than this
abbrev Ends : Network → Key → Text → Text → ℕ → Type 0
Ends plan key caller name bound = (over : List Text) → IsWalk plan key caller name over → length over ≤ bound

-- the longest walk of those that go on to one of these nodes, if there is one
record Onward (plan : Network) (key : Key) (caller name : Text) (all : List Text) : Type 0 where
  rank : ℕ
  longest : (over : List Text) × IsWalk plan key caller name over × (length over ≡ rank)
  greatest : (to : Text) (rest : List Text) → Contains all to → IsWalk plan key name to rest → suc (length rest) ≤ rank

either_order : (a b : ℕ) → (a ≤ b) ⊎ (b ≤ a)
either_order zero b = inl (omega arith)
either_order (suc a) zero = inr (omega arith)
either_order (suc a) (suc b) = elim (either_order a b) [ inl h ↦ inl (omega (arith, h)) | inr h ↦ inr (omega (arith, h)) ]

module _ (plan : Network) (key : Key) where
  onward : (caller name : Text) → ((to : Text) → Sends plan name caller key to → (rank : ℕ) × IsRank plan key name to rank) →
      (all : List Text) → ((to : Text) → Contains all to → Sends plan name caller key to) → Onward plan key caller name all
  onward caller name ranks [] each = record { rank = 0; longest = ([], tt, refl); greatest = λ to rest h walk. let lt : h.0 < 0 = h.1 in absurd (omega arith) }
  onward caller name ranks (to ∷ others) each =
      let sent = each to (Contains-here to others) in
      let r = ranks to sent in
      let so_far = onward caller name ranks others (λ t h. each t (Contains-there to others t h)) in
      let l = r.1.longest in
      elim (either_order (suc r.0) so_far.rank) [
        | inl least ↦ record {
          rank = so_far.rank;
          longest = so_far.longest;
          greatest = λ t rest h walk. elim (Contains-cons_cases to others t h) [
            | inl same ↦ (
                let P : Text → Type 0 = λ x. IsWalk plan key name x rest in
                let b : length rest ≤ r.0 = r.1.greatest rest (subst P (sym same) walk) in
                let a : suc r.0 ≤ so_far.rank = least in
                omega arith)
            | inr later ↦ so_far.greatest t rest later walk
          ];
        }
        | inr most ↦ record {
          rank = suc r.0;
          longest = (to ∷ l.0, (sent, l.1), ap suc l.2);
          greatest = λ t rest h walk. elim (Contains-cons_cases to others t h) [
            | inl same ↦ (
                let P : Text → Type 0 = λ x. IsWalk plan key name x rest in
                let b : length rest ≤ r.0 = r.1.greatest rest (subst P (sym same) walk) in
                omega arith)
            | inr later ↦ (let b : suc (length rest) ≤ so_far.rank = so_far.greatest t rest later walk in let a : so_far.rank ≤ suc r.0 = most in omega arith)
          ];
        }
      ]

  at_most : (caller name : Text) (all : List Text) → ((to : Text) → Sends plan name caller key to → Contains all to) → (o : Onward plan key caller name all) →
      (over : List Text) → IsWalk plan key caller name over → length over ≤ o.rank
  at_most caller name all each o [] walk = omega arith
  at_most caller name all each o (next ∷ rest) walk = o.greatest next rest (each next walk.0) walk.1

  -- where the walks end, there is a rank
  ranked_by : (bound : ℕ) (caller name : Text) → Ends plan key caller name bound → (rank : ℕ) × IsRank plan key caller name rank
  ranked_by zero caller name ends = (0, record { longest = ([], tt, refl); greatest = ends })
  ranked_by (suc n) caller name ends =
      let targets = targets_listed plan name caller key in
      let o = onward caller name
      (λ to sent. ranked_by n name to (λ over walk. let h : length (to ∷ over) ≤ suc n = ends (to ∷ over) (sent, walk) in omega (arith, h)))
      targets.0 (λ to h. (targets.1 to).1 h) in
      (o.rank, record { longest = o.longest; greatest = λ over walk. at_most caller name targets.0 (λ to sent. (targets.1 to).0 sent) o over walk })

  -- one walk after another
  joined : (caller name : Text) (before over : List Text) → IsWalk plan key caller name before →
      IsWalk plan key (last_place caller name before).0 (last_place caller name before).1 over → IsWalk plan key caller name (before ++ over)
  joined caller name [] over walk later = later
  joined caller name (next ∷ rest) over walk later = (walk.0, joined name next rest over walk.1 later)

-- a walk has one place more than it has hops
places_long : (caller name : Text) (over : List Text) → length (places caller name over) ≡ suc (length over)
places_long caller name [] = refl
places_long caller name (next ∷ rest) = ap suc (places_long name next rest)

-- all pairs of two lists of names
abbrev with_first : Text → List Text → List (Text × Text)
with_first a [] = []
with_first a (b ∷ bs) = (a, b) ∷ with_first a bs

abbrev products : List Text → List Text → List (Text × Text)
products [] bs = []
products (a ∷ rest) bs = with_first a bs ++ products rest bs

in_with_first : (a : Text) (bs : List Text) (b : Text) → Contains bs b → Contains (with_first a bs) (a, b)
in_with_first a [] b h = absurd (nothing_in_nil b h)
in_with_first a (x ∷ bs) b h = elim (Contains-cons_cases x bs b h) [
  | inl same ↦ (let P : Text → Type 0 = λ t. Contains ((a, x) ∷ with_first a bs) (a, t) in subst P same (Contains-here (a, x) (with_first a bs)))
  | inr later ↦ Contains-there (a, x) (with_first a bs) (a, b) (in_with_first a bs b later)
]

in_products : (firsts bs : List Text) (a b : Text) → Contains firsts a → Contains bs b → Contains (products firsts bs) (a, b)
in_products [] bs a b h k = absurd (nothing_in_nil a h)
in_products (x ∷ rest) bs a b h k = elim (Contains-cons_cases x rest a h) [
  | inl same ↦ (let P : Text → Type 0 = λ t. Contains (with_first x bs ++ products rest bs) (t, b) in
      subst P same (Contains-append_left (with_first x bs) (products rest bs) (x, b) (in_with_first x bs b k)))
  | inr later ↦ Contains-append_right (with_first x bs) (products rest bs) (a, b) (in_products rest bs a b later k)
]

-- the nodes that flows and rules name
abbrev of_rules : List Rule → List Text
of_rules rules = flat_map (λ (rule : Rule). rule.to) rules

abbrev of_nodes : List Node → List Text
of_nodes nodes = flat_map (λ (node : Node). of_rules node.rules) nodes

abbrev of_flows : List Flow → List Text
of_flows flows = flat_map (λ (flow : Flow). flow.to ∷ []) flows

by_rules : (rules : List Rule) (caller : Text) (key : Key) (to : Text) → SendsBy rules caller key to → Contains (of_rules rules) to
by_rules [] caller key to sent = absurd sent
by_rules (rule ∷ rules) caller key to sent = elim sent [
  | inl here ↦ Contains-append_left rule.to (of_rules rules) to here.1
  | inr later ↦ Contains-append_right rule.to (of_rules rules) to (by_rules rules caller key to later)
]

is_named : (plan : Network) (name caller : Text) (key : Key) (to : Text) → Sends plan name caller key to → Contains (of_flows plan.flows ++ of_nodes plan.nodes) to
is_named plan name caller key to sent = elim sent [
  | inl flow ↦ (
      let f = flow.1 in
      let P : Text → Type 0 = λ t. Contains (f.0.to ∷ []) t in
      Contains-append_left (of_flows plan.flows) (of_nodes plan.nodes) to
      (Contains-flat_map (λ (flow : Flow). flow.to ∷ []) plan.flows f.0 to f.1 (subst P f.3 (Contains-here f.0.to []))))
  | inr node ↦ Contains-append_right (of_flows plan.flows) (of_nodes plan.nodes) to
      (Contains-flat_map (λ (node : Node). of_rules node.rules) plan.nodes node.0 to node.1.0 (by_rules node.0.rules caller key to node.2))
]

places_among : (plan : Network) (key : Key) (names : List Text) → ((to : Text) → Contains (of_flows plan.flows ++ of_nodes plan.nodes) to → Contains names to) →
    (caller name : Text) (over : List Text) → Contains names caller → Contains names name → IsWalk plan key caller name over →
    All (Contains (products names names)) (places caller name over)
places_among plan key names all caller name [] a b walk = All-cons (Contains (products names names)) (caller, name) [] (in_products names names caller name a b) (All-nil _)
places_among plan key names all caller name (next ∷ rest) a b walk =
    All-cons (Contains (products names names)) (caller, name) (places name next rest) (in_products names names caller name a b)
    (places_among plan key names all name next rest b (all next (is_named plan name caller key next walk.0)) walk.1)

-- the rank of each place that a key comes to in a sound plan
pub sound_has_rank : (plan : Network) → IsSound plan → (key : Key) (caller name : Text) → IsReached plan key caller name → (rank : ℕ) × IsRank plan key caller name rank
sound_has_rank plan sound key caller name r =
    let named = of_flows plan.flows ++ of_nodes plan.nodes in
    let names = local ∷ r.0 ∷ named in
    let more : (to : Text) → Contains named to → Contains names to = λ to h. Contains-there local (r.0 ∷ named) to (Contains-there r.0 named to h) in
    let P : Text × Text → Type 0 = λ p. (over : List Text) → IsWalk plan key p.0 p.1 over → IsWalk plan key local r.0 (r.1 ++ over) in
    let join : (over : List Text) → IsWalk plan key caller name over → IsWalk plan key local r.0 (r.1 ++ over) =
    subst P r.4 (λ over walk. joined plan key local r.0 r.1 over r.3 walk) in
    ranked_by plan key (length (products names names)) caller name
    (λ over walk.
    let whole = join over walk in
    let few : length (places local r.0 (r.1 ++ over)) ≤ length (products names names) =
    no_more_than (products names names) (places local r.0 (r.1 ++ over)) (sound.no_pair_twice key r.0 (r.1 ++ over) r.2 whole)
    (places_among plan key names more local r.0 (r.1 ++ over) (Contains-here local (r.0 ∷ named))
    (Contains-there local (r.0 ∷ named) r.0 (Contains-here r.0 named)) whole) in
    let long : length (places local r.0 (r.1 ++ over)) ≡ suc (length (r.1 ++ over)) = places_long local r.0 (r.1 ++ over) in
    let sum : length (r.1 ++ over) ≡ length r.1 + length over = length-append r.1 over in
    omega arith)

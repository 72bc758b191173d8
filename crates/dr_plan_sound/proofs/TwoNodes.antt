-- The plans of two nodes: walks have one hop at most.
use Rattle.std.proofs.Common.{◌≡◌, ◌≢◌, ◌≤◌, ◌⊎◌, inl, inr, refl, sym, ◌∙◌, ap, subst, List, [], ◌∷◌, length, get_or, Contains, arith}
use Rattle.std.specs.Prelude.{AllPairs}
use Rattle.std.proofs.lemmas.List.Kept.{AllPairs-cons}
use Rattle.std.proofs.lemmas.List.Elements.{All-nil, All-cons}
use Rattle.dr_base.specs.Texts.{Text}
use Rattle.dr_base.specs.declared.syntax.Syntax.{Syntax}
use Rattle.dr_base.specs.declared.syntax.Syntax.TheVariants.{Explicit}
use Rattle.dr_route.specs.Routes.{local, SendsBy, KeepsBy}
use Rattle.dr_route.specs.declared.key.Key.{Key}
use Rattle.dr_route.specs.declared.rule.Rule.{Rule}
use Rattle.dr_plan_model.specs.declared.plan.Node.{Node}
use Rattle.dr_plan_model.specs.declared.plan.Flow.{Flow}
use Rattle.dr_plan_model.specs.Plans.{IsNode}
use Rattle.dr_plan_model.specs.Walks.{FlowBrings, Flows, Sends, Keeps, Accepts, IsWalk, places, last_place, IsEntry, IsReached, Goes}
use Rattle.dr_plan_model.proofs.Gathered.{only_one, nothing_in_nil, Contains-here, Contains-there, Contains-cons_cases}
use Rattle.dr_plan_sound.specs.Soundness.{IsSound}
use Rattle.dr_plan_sound.specs.Samples.{scanner, archive, keep_all, the_scanner, the_archive, the_flow, two_nodes}
use Rattle.dr_base.specs.Standard.{image}
use Rattle.dr_plan_sound.proofs.Pigeons.{no_more_than}

-- the keys that the flow takes in
abbrev pub IsImage : Key → Type 0
IsImage key = (key.class ≡ image) × (key.syntax ≡ Explicit)

flow_only : (site : Text) (key : Key) (to : Text) → Flows (two_nodes []) site key to → (site ≡ scanner) × (to ≡ archive) × IsImage key
flow_only site key to f =
    let same : the_flow ≡ f.0 = only_one the_flow f.0 f.1 in
    let Q : Flow → Type 0 = λ x. (x.at ≡ site) × (x.to ≡ to) × FlowBrings x key in
    let g : Q the_flow = subst Q (sym same) (f.2, f.3, f.4) in
    (sym g.0, sym g.1, (sym (only_one image key.class g.2.class), sym (only_one Explicit key.syntax g.2.syntax)))

module _ (rules : List Rule) (stays : (caller : Text) (key : Key) (to : Text) → SendsBy rules caller key to → ⊥) where
  ruled_only : (name caller : Text) (key : Key) (to : Text) (node : Node) → IsNode (two_nodes rules) name node → SendsBy node.rules caller key to → ⊥
  ruled_only name caller key to node is sent =
      let P : Node → Type 0 = λ x. SendsBy x.rules caller key to in
      elim (Contains-cons_cases the_scanner (the_archive rules ∷ []) node is.0) [
        | inl first ↦ subst P (sym first) sent
        | inr later ↦ stays caller key to (subst P (sym (only_one (the_archive rules) node later)) sent)
      ]

  -- nothing is sent but by the flow
  sent_only : (name caller : Text) (key : Key) (to : Text) → Sends (two_nodes rules) name caller key to → (caller ≡ local) × (name ≡ scanner) × (to ≡ archive) × IsImage key
  sent_only name caller key to (inl entered) = let f = flow_only name key to entered.1 in (entered.0, f.0, f.1, f.2)
  sent_only name caller key to (inr ruled) = absurd (ruled_only name caller key to ruled.0 ruled.1 ruled.2)

  -- an image enters at the scanner, and its walks end there or at the archive
  abbrev AtScanner : List Text → Type 0
  AtScanner over = over ≡ []

  abbrev AtArchive : List Text → Type 0
  AtArchive over = over ≡ archive ∷ []

  walk_only : (key : Key) (site : Text) (over : List Text) → IsWalk (two_nodes rules) key local site over → AtScanner over ⊎ AtArchive over
  walk_only key site [] walk = inl refl
  walk_only key site (next ∷ []) walk = inr (ap (λ (t : Text). t ∷ []) (sent_only site local key next walk.0).2)
  walk_only key site (next ∷ then ∷ rest) walk =
      let first = sent_only site local key next walk.0 in
      let second = sent_only next site key then walk.1.0 in
      let e : scanner ≡ local = sym first.1 ∙ second.0 in
      absurd (scanner_is_no_local e)
    where
      scanner_is_no_local : scanner ≡ local → ⊥
      scanner_is_no_local e = let l : length scanner ≡ length local = ap (λ (t : Text). length t) e in omega arith

  entry_only : (key : Key) (site : Text) → IsEntry (two_nodes rules) site key → (site ≡ scanner) × IsImage key
  entry_only key site entry = let f = flow_only site key entry.0 entry.1 in (f.0, f.2)

  reached_only : (key : Key) (caller name : Text) → IsReached (two_nodes rules) key caller name →
      IsImage key × (((caller ≡ local) × (name ≡ scanner)) ⊎ ((caller ≡ scanner) × (name ≡ archive)))
  reached_only key caller name r =
      let entry = entry_only key r.0 r.2 in
      let P : List Text → Type 0 = λ over. last_place local r.0 over ≡ (caller, name) in (
        entry.1,
        elim (walk_only key r.0 r.1 r.3) [
          | inl none ↦ (let last : (let p : Text × Text = (local, r.0) in p) ≡ (caller, name) = subst P none r.4 in
              inl (sym (ap (λ (p : Text × Text). p.0) last), sym (ap (λ (p : Text × Text). p.1) last) ∙ entry.0))
          | inr one ↦ (let last : (let p : Text × Text = (r.0, archive) in p) ≡ (caller, name) = subst P one r.4 in
              inr (sym (ap (λ (p : Text × Text). p.0) last) ∙ entry.0, sym (ap (λ (p : Text × Text). p.1) last)))
        ],
      )

  pub goes_only : (key : Key) (from to : Text) → Goes (two_nodes rules) key from to → (from ≡ scanner) × (to ≡ archive) × IsImage key
  goes_only key from to goes = let s = sent_only from goes.0 key to goes.2 in (s.1, s.2, s.3)

pub keeps_stay : (caller : Text) (key : Key) (to : Text) → SendsBy (keep_all ∷ []) caller key to → ⊥
keeps_stay caller key to (inl here) = nothing_in_nil to here.1
keeps_stay caller key to (inr later) = later

none_stay : (caller : Text) (key : Key) (to : Text) → SendsBy [] caller key to → ⊥
none_stay caller key to sent = sent

archive_stands : (rules : List Rule) → Contains (two_nodes rules).nodes (the_archive rules)
archive_stands rules = Contains-there the_scanner (the_archive rules ∷ []) (the_archive rules) (Contains-here (the_archive rules) [])

pub archive_accepts : (rules : List Rule) (class : Text) (syntax : Syntax) → class ≡ image → syntax ≡ Explicit → Accepts (two_nodes rules) archive scanner class syntax
archive_accepts rules class syntax c s = (
  the_archive rules,
  (archive_stands rules, refl),
  inl (tt, sym c, (let P : Syntax → Type 0 = λ x. Contains (Explicit ∷ []) x in subst P (sym s) (Contains-here Explicit []))),
)

scanner_is_no_caller : scanner ≢ local
scanner_is_no_caller e = let l : length scanner ≡ length local = ap (λ (t : Text). length t) e in omega arith

pub two_nodes_are_sound : IsSound (two_nodes (keep_all ∷ []))
two_nodes_are_sound = record {
  accepted = λ key from to goes.
      let g = goes_only (keep_all ∷ []) keeps_stay key from to goes in
      let P : Text → Type 0 = λ t. Accepts (two_nodes (keep_all ∷ [])) t from key.class key.syntax in
      let Q : Text → Type 0 = λ t. Accepts (two_nodes (keep_all ∷ [])) archive t key.class key.syntax in
      subst P (sym g.1) (subst Q (sym g.0) (archive_accepts (keep_all ∷ []) key.class key.syntax g.2.0 g.2.1));
  no_pair_twice = λ key site over entry walk.
      let P : List Text → Type 0 = λ o. AllPairs (λ p q. p ≢ q) (places local site o) in
      elim (walk_only (keep_all ∷ []) keeps_stay key site over walk) [
        | inl none ↦ subst P (sym none) (AllPairs-cons (λ (p q : Text × Text). p ≢ q) (local, site) [] (All-nil _) (λ i j d a b. absurd (omega arith)))
        | inr one ↦
            (let at : site ≡ scanner = (entry_only (keep_all ∷ []) keeps_stay key site entry).0 in
            subst P (sym one) (AllPairs-cons (λ (p q : Text × Text). p ≢ q) (local, site) ((site, archive) ∷ [])
            (All-cons (λ (q : Text × Text). (let p : Text × Text = (local, site) in p) ≢ q) (site, archive) [] (λ e. scanner_is_no_caller (sym at ∙ sym (ap (λ (p : Text × Text). p.0) e))) (All-nil _))
            (AllPairs-cons (λ (p q : Text × Text). p ≢ q) (site, archive) [] (All-nil _) (λ i j d a b. absurd (omega arith)))))
      ];
  goes_on = λ key caller name r.
      let r_only = reached_only (keep_all ∷ []) keeps_stay key caller name r in
      elim r_only.1 [
        | inl first ↦ (let entry = r.2 in
            let at : r.0 ≡ name = (entry_only (keep_all ∷ []) keeps_stay key r.0 r.2).0 ∙ sym first.1 in
            let P : Text → Type 0 = λ n. Flows (two_nodes (keep_all ∷ [])) n key r.2.0 in
            inr (r.2.0, inl (first.0, subst P at r.2.1)))
        | inr last ↦
            (let P : Text → Type 0 = λ n. Keeps (two_nodes (keep_all ∷ [])) n caller key in
            let other : caller ≢ local = λ e. scanner_is_no_caller (sym last.0 ∙ e) in
            inl (subst P (sym last.1) (the_archive (keep_all ∷ []), (archive_stands (keep_all ∷ []), refl), inl ((other, tt, tt, tt, (tt, λ among. nothing_in_nil key.station among)), refl))))
      ];
  few_pairs = λ from to apart distinct each.
      let less : length apart ≤ 1 = no_more_than ((image, Explicit) ∷ []) apart distinct
      (λ k d h.
      let over = each k d h in
      let g = goes_only (keep_all ∷ []) keeps_stay over.0 from to over.2 in
      let is : get_or apart k d ≡ (image, Explicit) = over.1 ∙ (ap (λ (c : Text). let p : Text × Syntax = (c, over.0.syntax) in p) g.2.0 ∙ ap (λ (s : Syntax). let p : Text × Syntax = (image, s) in p) g.2.1) in
      let P : Text × Syntax → Type 0 = λ p. Contains ((image, Explicit) ∷ []) p in
      subst P (sym is) (Contains-here (let p : Text × Syntax = (image, Explicit) in p) [])) in
      omega arith;
}

-- ---- without keep the archive does nothing
the_image : Key
the_image = record { class = image; syntax = Explicit; modality = []; station = [] }

image_enters : Flows (two_nodes []) scanner the_image archive
unfolding the_image
image_enters = (the_flow, Contains-here the_flow [], refl, refl, record { class = Contains-here image []; syntax = Contains-here Explicit []; modality = tt; station = tt })

image_arrives : IsReached (two_nodes []) the_image scanner archive
image_arrives = (scanner, archive ∷ [], (archive, image_enters), (inl (refl, image_enters), tt), refl)

keeps_nothing : (node : Node) → Contains (two_nodes []).nodes node → (caller : Text) (key : Key) → KeepsBy node.rules caller key → ⊥
keeps_nothing node among caller key kept =
    let P : Node → Type 0 = λ x. KeepsBy x.rules caller key in
    elim (Contains-cons_cases the_scanner (the_archive [] ∷ []) node among) [
      | inl first ↦ subst P (sym first) kept
      | inr later ↦ subst P (sym (only_one (the_archive []) node later)) kept
    ]

pub without_keep_they_are_not : IsSound (two_nodes []) → ⊥
without_keep_they_are_not sound = elim (sound.goes_on the_image scanner archive image_arrives) [
  | inl kept ↦ keeps_nothing kept.0 kept.1.0 scanner the_image kept.2
  | inr sent ↦ scanner_is_no_caller (sent_only [] none_stay archive scanner the_image sent.0 sent.1).0
]

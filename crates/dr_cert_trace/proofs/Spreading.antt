-- Walks hop by hop: what those of one hop more find.
use Rattle.std.proofs.Common.{◌≡◌, ℕ, zero, suc, ◌+◌, ◌<◌, ◌≤◌, ◌⊎◌, ◌↔◌, inl, inr, refl, sym, ap, subst, ◌∙◌, List, [], ◌∷◌, ◌++◌, length, get_or, take, Contains, arith, length-append}
use Rattle.std.specs.BTreeSet.{BTreeSet}
use Rattle.std.proofs.lemmas.List.{take_more}
use Rattle.std.proofs.lemmas.List.Elements.{Contains-push_cases, Contains-push, Contains-append_left}
use Rattle.dr_base.specs.Texts.{Text}
use Rattle.dr_route.specs.Names.{HasName}
use Rattle.dr_route.specs.Routes.{local}
use Rattle.dr_route.specs.declared.key.Key.{Key}
use Rattle.dr_plan_model.specs.Networks.{Network}
use Rattle.dr_plan_model.specs.Walks.{Sends, Keeps, IsEntry, IsWalk, IsDestination, last_place}
use Rattle.dr_plan_model.proofs.Gathered.{nothing_in_nil, only_one, Contains-here}
use Rattle.dr_plan_sound.specs.Soundness.{IsRank}
use Rattle.dr_plan_sound.proofs.Hopping.{walk_push, last_push, last_hop}
use Rattle.dr_cert_trace.specs.Found.{HasPair, FindsOnward}
use Rattle.dr_cert_trace.specs.Reaches.{Gathers, SendsFrom, IsAt, KeepsAt, PassesAll, AreWithin, ComesToNode}

-- ---- what is gathered from a list, one element after another
pub gathers_none : {X Y : Type 0} (Gives : X → Y → Type 0) (Old : Y → Type 0) → Gathers Gives [] Old Old
gathers_none Gives Old y = (λ h. inl h, λ h. elim h [ inl o ↦ o | inr m ↦ absurd (nothing_in_nil m.0 m.1) ])

pub gathers_more : {X Y : Type 0} (Gives : X → Y → Type 0) (all : List X) (i : ℕ) (x : X) (Old Mid New : Y → Type 0) → i < length all → x ≡ get_or all i x →
    Gathers Gives (take i all) Old Mid → ((y : Y) → New y ↔ (Mid y ⊎ Gives x y)) → Gathers Gives (take (i + 1) all) Old New
gathers_more {X} Gives all i x Old Mid New lt at so_far step y =
    let pushed : take (i + 1) all ≡ take i all ++ x ∷ [] = take_more all i x lt ∙ ap (λ (e : X). take i all ++ e ∷ []) (sym at) in (
      λ h. elim ((step y).0 h) [
        | inl before ↦ elim ((so_far y).0 before) [
          | inl o ↦ inl o
          | inr m ↦ inr (m.0, subst (λ (xs : List X). Contains xs m.0) (sym pushed) (Contains-append_left (take i all) (x ∷ []) m.0 m.1), m.2)
        ]
        | inr g ↦ inr (x, subst (λ (xs : List X). Contains xs x) (sym pushed) (Contains-push (take i all) x), g)
      ],
      λ h. elim h [
        | inl o ↦ (step y).1 (inl ((so_far y).1 (inl o)))
        | inr m ↦ elim (Contains-push_cases (take i all) x m.0 (subst (λ (xs : List X). Contains xs m.0) pushed m.1)) [
          | inl earlier ↦ (step y).1 (inl ((so_far y).1 (inr (m.0, earlier, m.2))))
          | inr same ↦ (step y).1 (inr (subst (λ (e : X). Gives e y) (sym same) m.2))
        ]
      ],
    )

-- ---- walks of so many hops
-- what is known when all walks of fewer hops were passed: the places to which those of just so many come, the nodes of the others, and those of them that keep
pub record AreAfter (plan : Network) (site : Text) (key : Key) (hops : ℕ) (front : List (Text × Text)) (nodes keeps : BTreeSet Text) : Type 0 where
  pub here : (place : Text × Text) → Contains front place ↔ ((over : List Text) × IsWalk plan key local site over × (length over ≡ hops) × (last_place local site over ≡ place))
  pub comes : (name : Text) → HasName nodes name ↔ ((over : List Text) × IsWalk plan key local site over × (length over < hops) × IsAt (last_place local site over) name)
  pub ends : (name : Text) → HasName keeps name ↔ ((over : List Text) × IsWalk plan key local site over × (length over < hops) × KeepsAt plan key (last_place local site over) name)

no_hops : (over : List Text) → length over ≡ 0 → over ≡ []
no_hops [] none = refl
no_hops (next ∷ rest) none = absurd (omega (arith, none))

either : (a b : ℕ) → a < b + 1 → (a < b) ⊎ (a ≡ b)
either zero zero lt = inr refl
either zero (suc b) lt = inl (omega arith)
either (suc a) zero lt = absurd (omega (arith, lt))
either (suc a) (suc b) lt = elim (either a b (omega (arith, lt))) [ inl h ↦ inl (omega (arith, h)) | inr h ↦ inr (ap suc h) ]

-- a walk of a hop more is a walk and that hop
some_hop : (over : List Text) (n : ℕ) → length over ≡ n + 1 → (before : List Text) × (to : Text) × (over ≡ before ++ to ∷ []) × (length before ≡ n)
some_hop [] n long = absurd (omega (arith, long))
some_hop (next ∷ []) n long = ([], next, refl, (let l : 1 ≡ n + 1 = long in omega (arith, l)))
some_hop (next ∷ second ∷ rest) zero long = absurd (let l : suc (suc (length rest)) ≡ 1 = long in omega (arith, l))
some_hop (next ∷ second ∷ rest) (suc n) long =
    let more = some_hop (second ∷ rest) n (let l : suc (suc (length rest)) ≡ suc n + 1 = long in let g : suc (length rest) ≡ n + 1 = omega (arith, l) in g) in
    (next ∷ more.0, more.1, ap (λ (xs : List Text). next ∷ xs) more.2, ap suc more.3)

-- a walk without its last hop, and that hop
split : (plan : Network) (key : Key) (over : List Text) (to caller name : Text) → IsWalk plan key caller name (over ++ to ∷ []) →
    IsWalk plan key caller name over × Sends plan (last_place caller name over).1 (last_place caller name over).0 key to
split plan key [] to caller name walk = (tt, walk.0)
split plan key (n ∷ rest) to caller name walk = let more = split plan key rest to name n walk.1 in ((walk.0, more.0), more.1)

module _ (plan : Network) (site : Text) (key : Key) where
  -- at the start just the site is known, where the key is
  pub at_start : (nodes keeps : BTreeSet Text) → nodes.keys ≡ [] → keeps.keys ≡ [] → AreAfter plan site key 0 ((local, site) ∷ []) nodes keeps
  at_start nodes keeps no_nodes no_keeps = record {
    here = λ place. (
      λ h. ([], tt, refl, only_one (let p : Text × Text = (local, site) in p) place h),
      λ w. (let P : List Text → Type 0 = λ over. last_place local site over ≡ place in
          let same : (let p : Text × Text = (local, site) in p) ≡ place = subst P (no_hops w.0 w.2) w.3 in
          subst (λ (p : Text × Text). Contains ((let q : Text × Text = (local, site) in q) ∷ []) p) same (Contains-here (let q : Text × Text = (local, site) in q) [])),
    );
    comes = λ name. (
      λ h. absurd (nothing_in_nil name (subst (λ (keys : List Text). Contains keys name) no_nodes h)),
      λ w. absurd (let lt : length w.0 < 0 = w.2 in omega (arith, lt)),
    );
    ends = λ name. (
      λ h. absurd (nothing_in_nil name (subst (λ (keys : List Text). Contains keys name) no_keeps h)),
      λ w. absurd (let lt : length w.0 < 0 = w.2 in omega (arith, lt)),
    );
  }

  module _ (hops : ℕ) (front : List (Text × Text)) (next : BTreeSet (Text × Text)) (nodes now_nodes keeps now_keeps : BTreeSet Text)
      (so_far : AreAfter plan site key hops front nodes keeps) (step : PassesAll plan key front next nodes now_nodes keeps now_keeps) where
    -- the places that come next are those of the walks of a hop more
    next_front : (place : Text × Text) → HasPair next place ↔ ((over : List Text) × IsWalk plan key local site over × (length over ≡ hops + 1) × (last_place local site over ≡ place))
    next_front place = (
      λ h. elim ((step.behind place).0 h) [
        | inl none ↦ absurd none
        | inr m ↦ (
            let w = (so_far.here m.0).0 m.1 in
            let P : Text × Text → Type 0 = λ p. Sends plan p.1 p.0 key place.1 in
            let pushed : last_place local site (w.0 ++ place.1 ∷ []) ≡ ((last_place local site w.0).1, place.1) = last_push local site w.0 place.1 in
            let name : (last_place local site w.0).1 ≡ place.0 = ap (λ (p : Text × Text). p.1) w.3 ∙ sym m.2.0 in
            let long : length (w.0 ++ place.1 ∷ []) ≡ length w.0 + 1 = length-append w.0 (place.1 ∷ []) in (
              w.0 ++ place.1 ∷ [],
              walk_push plan key local site w.0 place.1 w.1 (subst P (sym w.3) m.2.1),
              long ∙ ap (λ n. n + 1) w.2,
              pushed ∙ ap (λ (t : Text). let p : Text × Text = (t, place.1) in p) name,
            ))
      ],
      λ w. (
          let parts = some_hop w.0 hops w.2 in
          let L : List Text → Type 0 = λ over. last_place local site over ≡ place in
          let ends : last_place local site (parts.0 ++ parts.1 ∷ []) ≡ place = subst L parts.2 w.3 in
          let pair : (let p : Text × Text = ((last_place local site parts.0).1, parts.1) in p) ≡ place = sym (last_push local site parts.0 parts.1) ∙ ends in
          let W : List Text → Type 0 = λ over. IsWalk plan key local site over in
          let cut = split plan key parts.0 parts.1 local site (subst W parts.2 w.1) in
          let here : Contains front (last_place local site parts.0) = (so_far.here (last_place local site parts.0)).1 (parts.0, cut.0, parts.3, refl) in
          let S : Text → Type 0 = λ to. Sends plan (last_place local site parts.0).1 (last_place local site parts.0).0 key to in
          (step.behind place).1 (inr (last_place local site parts.0, here, (sym (ap (λ (p : Text × Text). p.0) pair), subst S (ap (λ (p : Text × Text). p.1) pair) cut.1)))),
    )

    -- what is noted of the walks of so many hops is added to what the shorter ones gave
    pub noted : (Gives : Text × Text → Text → Type 0) (Old New : Text → Type 0) →
        ((name : Text) → Old name ↔ ((over : List Text) × IsWalk plan key local site over × (length over < hops) × Gives (last_place local site over) name)) →
        Gathers Gives front Old New →
        (name : Text) → New name ↔ ((over : List Text) × IsWalk plan key local site over × (length over < hops + 1) × Gives (last_place local site over) name)
    noted Gives Old New before more name = (
      λ h. elim ((more name).0 h) [
        | inl earlier ↦ (let w = (before name).0 earlier in (w.0, w.1, (let lt : length w.0 < hops = w.2 in omega (arith, lt)), w.3))
        | inr m ↦ (
            let w = (so_far.here m.0).0 m.1 in
            (w.0, w.1, (let is : length w.0 ≡ hops = w.2 in omega (arith, is)), subst (λ (p : Text × Text). Gives p name) (sym w.3) m.2))
      ],
      λ w. elim (either (length w.0) hops w.2) [
        | inl fewer ↦ (more name).1 (inl ((before name).1 (w.0, w.1, fewer, w.3)))
        | inr just ↦ (more name).1 (inr (last_place local site w.0, (so_far.here (last_place local site w.0)).1 (w.0, w.1, just, refl), w.3))
      ],
    )

    pub one_more : (places : List (Text × Text)) → ((pair : Text × Text) → Contains places pair ↔ HasPair next pair) → AreAfter plan site key (hops + 1) places now_nodes now_keeps
    one_more places same = record {
      here = λ place. (λ h. (next_front place).0 ((same place).0 h), λ w. (same place).1 ((next_front place).1 w));
      comes = noted IsAt (HasName nodes) (HasName now_nodes) so_far.comes step.comes;
      ends = noted (KeepsAt plan key) (HasName keeps) (HasName now_keeps) so_far.ends step.ends;
    }

    pub all_within : AreWithin plan site key hops now_nodes now_keeps
    all_within = record {
      comes = λ name. (let n = noted IsAt (HasName nodes) (HasName now_nodes) so_far.comes step.comes name in (
        λ h. (let w = n.0 h in (w.0, w.1, (let lt : length w.0 < hops + 1 = w.2 in omega (arith, lt)), w.3)),
        λ w. n.1 (w.0, w.1, (let le : length w.0 ≤ hops = w.2 in omega (arith, le)), w.3),
      ));
      ends = λ name. (let n = noted (KeepsAt plan key) (HasName keeps) (HasName now_keeps) so_far.ends step.ends name in (
        λ h. (let w = n.0 h in (w.0, w.1, (let lt : length w.0 < hops + 1 = w.2 in omega (arith, lt)), w.3)),
        λ w. n.1 (w.0, w.1, (let le : length w.0 ≤ hops = w.2 in omega (arith, le)), w.3),
      ));
    }

  -- all walks are within the rank of where the key enters
  module _ (rank : ℕ) (is_rank : IsRank plan key local site rank) (nodes keeps : BTreeSet Text) (within : AreWithin plan site key rank nodes keeps) where
    pub all_nodes : (name : Text) → HasName nodes name ↔ ComesToNode plan site key name
    all_nodes name = (
      λ h. (let w = (within.comes name).0 h in (w.0, w.1, w.3)),
      λ w. (within.comes name).1 (w.0, w.1, is_rank.greatest w.0 w.1, w.2),
    )

    pub all_keeps : (name : Text) → HasName keeps name ↔ IsDestination plan local site key name
    all_keeps name = (
      λ h. (let w = (within.ends name).0 h in
          (w.0, w.1, sym w.3.0, subst (λ (n : Text). Keeps plan n (last_place local site w.0).0 key) (sym w.3.0) w.3.1)),
      λ d. (within.ends name).1 (d.0, d.1, is_rank.greatest d.0 d.1, (sym d.2, subst (λ (n : Text). Keeps plan n (last_place local site d.0).0 key) (sym d.2) d.3)),
    )

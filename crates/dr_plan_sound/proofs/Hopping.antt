-- The pairs that lines show for a hop are those that go over it; and what follows for soundness.
use Rattle.std.proofs.Common.{◌≡◌, ◌≢◌, ◌≤◌, ◌⊎◌, inl, inr, refl, sym, ◌∙◌, ap, subst, List, [], ◌∷◌, ◌++◌, length, get_or, arith}
use Rattle.std.proofs.lemmas.List.Elements.{All-contains}
use Rattle.dr_base.specs.Texts.{Text}
use Rattle.dr_base.specs.declared.syntax.Syntax.{Syntax}
use Rattle.dr_route.specs.Routes.{local}
use Rattle.dr_route.specs.Laws.{key_of}
use Rattle.dr_route.specs.declared.key.Key.{Key}
use Rattle.dr_plan_model.specs.Networks.{Network}
use Rattle.dr_plan_model.specs.Formed.{IsKnownName, IsWellFormedFlow}
use Rattle.dr_plan_model.specs.Plans.{IsWellFormed}
use Rattle.dr_plan_model.specs.Walks.{Sends, IsWalk, last_place, IsEntry, IsReached, Goes, GoesOver}
use Rattle.dr_plan_model.proofs.WalksAlike.{sent_to_a_node, not_known_local}
use Rattle.dr_plan_sound.specs.declared.certificate.Stop.{Stop}
use Rattle.dr_plan_sound.specs.declared.certificate.Line.{Line}
use Rattle.dr_plan_sound.specs.Soundness.{IsSound}
use Rattle.dr_plan_sound.specs.Certificates.{AreHopPairs}
use Rattle.dr_plan_sound.specs.Ranked.{AreRanked}
use Rattle.dr_plan_sound.specs.HopPairs.{OverHop, AreOverHop}
use Rattle.dr_plan_sound.proofs.RankedLines.{some_cell, reached_has_line, no_pair_twice, accepted_on, goes_on}
use Rattle.dr_plan_sound.proofs.Pigeons.{no_more_than}

-- ---- walks that go on
pub walk_push : (plan : Network) (key : Key) (caller name : Text) (over : List Text) (to : Text) → IsWalk plan key caller name over →
    Sends plan (last_place caller name over).1 (last_place caller name over).0 key to → IsWalk plan key caller name (over ++ to ∷ [])
walk_push plan key caller name [] to walk sent = (sent, tt)
walk_push plan key caller name (next ∷ rest) to walk sent = (walk.0, walk_push plan key name next rest to walk.1 sent)

pub last_push : (caller name : Text) (over : List Text) (to : Text) → last_place caller name (over ++ to ∷ []) ≡ ((last_place caller name over).1, to)
last_push caller name [] to = refl
last_push caller name (next ∷ rest) to = last_push name next rest to

-- a place to which a key is sent is reached
pub reached_next : (plan : Network) (key : Key) (caller name to : Text) → IsReached plan key caller name → Sends plan name caller key to → IsReached plan key name to
reached_next plan key caller name to r sent =
    let P : Text × Text → Type 0 = λ p. Sends plan p.1 p.0 key to in
    let here : Sends plan (last_place local r.0 r.1).1 (last_place local r.0 r.1).0 key to = subst P (sym r.4) sent in
    let end : (last_place local r.0 r.1).1 ≡ name = ap (λ (p : Text × Text). p.1) r.4 in (
      r.0,
      r.1 ++ to ∷ [],
      r.2,
      walk_push plan key local r.0 r.1 to r.3 here,
      last_push local r.0 r.1 to ∙ ap (λ (n : Text). let p : Text × Text = (n, to) in p) end,
    )

-- an entry is a place of a walk of no hop
pub reached_entry : (plan : Network) (key : Key) (site : Text) → IsEntry plan site key → IsReached plan key local site
reached_entry plan key site entry = (site, [], entry, tt, refl)

-- a walk is empty, or its last hop is sent
pub last_hop : (plan : Network) (key : Key) (caller name : Text) (over : List Text) (from to : Text) → IsWalk plan key caller name over → last_place caller name over ≡ (from, to) →
    ((over ≡ []) × (caller ≡ from)) ⊎ ((before : List Text) × (c : Text) × IsWalk plan key caller name before × (last_place caller name before ≡ (c, from)) × Sends plan from c key to)
last_hop plan key caller name [] from to walk last = inl (refl, ap (λ (p : Text × Text). p.0) last)
last_hop plan key caller name (next ∷ rest) from to walk last =
    elim (last_hop plan key name next rest from to walk.1 last) [
      | inl none ↦
          let P : List Text → Type 0 = λ xs. last_place name next xs ≡ (from, to) in
          let pair : (let p : Text × Text = (name, next) in p) ≡ (from, to) = subst P none.0 last in
          let same_from : name ≡ from = none.1 in
          let same_to : next ≡ to = ap (λ (p : Text × Text). p.1) pair in
          inr (
            [],
            caller,
            tt,
            ap (λ (n : Text). let p : Text × Text = (caller, n) in p) same_from,
            let Q : Text → Type 0 = λ n. Sends plan n caller key to in
                let R : Text → Type 0 = λ n. Sends plan name caller key n in
                subst Q same_from (subst R same_to walk.0),
          )
      | inr more ↦ inr (next ∷ more.0, more.1, (walk.0, more.2), more.3, more.4)
    ]

-- each place that a key comes to is a node of the plan
pub reached_is_known : (plan : Network) → IsWellFormed plan → (key : Key) (caller name : Text) → IsReached plan key caller name → IsKnownName plan.nodes name
reached_is_known plan formed key caller name r =
    elim (last_hop plan key local r.0 r.1 caller name r.3 r.4) [
      | inl none ↦
          let P : List Text → Type 0 = λ xs. last_place local r.0 xs ≡ (caller, name) in
          let here : r.0 ≡ name = ap (λ (p : Text × Text). p.1) (subst P none.0 r.4) in
          let entered = r.2.1 in
          let flow : IsWellFormedFlow plan.nodes entered.0 = All-contains (IsWellFormedFlow plan.nodes) plan.flows entered.0 formed.each_flow entered.1 in
          let Q : Text → Type 0 = λ n. IsKnownName plan.nodes n in
          subst Q (entered.2 ∙ here) flow.at
      | inr more ↦ sent_to_a_node plan formed caller more.1 key name more.4
    ]

pub reached_not_local : (plan : Network) → IsWellFormed plan → (key : Key) (caller name : Text) → IsReached plan key caller name → name ≢ local
reached_not_local plan formed key caller name r same =
    let Q : Text → Type 0 = λ n. IsKnownName plan.nodes n in
    not_known_local plan formed (subst Q same (reached_is_known plan formed key caller name r))

-- a place whose caller is a node is reached over a hop
pub goes_to : (plan : Network) (key : Key) (from to : Text) → from ≢ local → IsReached plan key from to → Goes plan key from to
goes_to plan key from to other r =
    elim (last_hop plan key local r.0 r.1 from to r.3 r.4) [
      | inl none ↦ absurd (other (sym none.1))
      | inr more ↦ (more.1, (r.0, more.0, r.2, more.2, more.3), more.4)
    ]

-- ---- lines and hops
pub over_goes : (plan : Network) → IsWellFormed plan → (lines : List Line) → AreRanked plan lines → (from to : Text) (pair : Text × Syntax) → OverHop lines from to pair → GoesOver plan from to pair
over_goes plan formed lines all from to pair over =
    let stop : Stop = over.0 in
    let r : IsReached plan (key_of stop.cell) stop.caller stop.node = all.reached stop over.1 over.2 in
    let P : Text → Type 0 = λ n. IsReached plan (key_of stop.cell) n stop.node in
    let Q : Text → Type 0 = λ n. IsReached plan (key_of stop.cell) from n in
    (key_of stop.cell, over.6, goes_to plan (key_of stop.cell) from to over.5 (subst Q over.4 (subst P over.3 r)))

pub goes_over : (plan : Network) → IsWellFormed plan → (lines : List Line) → AreRanked plan lines → (from to : Text) (pair : Text × Syntax) → GoesOver plan from to pair → OverHop lines from to pair
goes_over plan formed lines all from to pair goes =
    let key : Key = goes.0 in
    let cell = some_cell plan key in
    let r : IsReached plan key from to = reached_next plan key goes.2.0 from to goes.2.1 goes.2.2 in
    let line = reached_has_line plan formed lines all key cell.0 cell.1 from to r in (
      record { caller = from; node = to; cell = cell.0 },
      line.0,
      line.1,
      refl,
      refl,
      reached_not_local plan formed key goes.2.0 from goes.2.1,
      goes.1 ∙ ap (λ (c : Text). let p : Text × Syntax = (c, key.syntax) in p) (sym cell.1.class) ∙ ap (λ (x : Syntax). let p : Text × Syntax = (cell.0.class, x) in p) (sym cell.1.syntax),
    )

pub hop_pairs : (plan : Network) → IsWellFormed plan → (lines : List Line) → AreRanked plan lines → (from to : Text) (pairs : List (Text × Syntax)) → AreOverHop lines from to pairs → AreHopPairs plan from to pairs
hop_pairs plan formed lines all from to pairs over = record {
  ordered = over.ordered;
  each = λ pair. (λ among. over_goes plan formed lines all from to pair ((over.each pair).0 among), λ goes. (over.each pair).1 (goes_over plan formed lines all from to pair goes));
}

pub over_hop : (plan : Network) → IsWellFormed plan → (lines : List Line) → AreRanked plan lines → (from to : Text) (pairs : List (Text × Syntax)) → AreHopPairs plan from to pairs → AreOverHop lines from to pairs
over_hop plan formed lines all from to pairs over = record {
  ordered = over.ordered;
  each = λ pair. (λ among. goes_over plan formed lines all from to pair ((over.each pair).0 among), λ goes. (over.each pair).1 (over_goes plan formed lines all from to pair goes));
}

-- a plan with such lines, and few pairs over each hop, is sound
pub sound_by_lines : (plan : Network) → IsWellFormed plan → (lines : List Line) → AreRanked plan lines →
    ((from to : Text) → (pairs : List (Text × Syntax)) × AreOverHop lines from to pairs × (length pairs ≤ 128)) → IsSound plan
sound_by_lines plan formed lines all few = record {
  accepted = λ key from to goes.
      let cell = some_cell plan key in
      accepted_on plan formed lines all key cell.0 cell.1 goes.0 from goes.1 to goes.2;
  no_pair_twice = λ key site over entry walk.
      let cell = some_cell plan key in
      let line = all.entries key cell.0 site cell.1 entry in
      no_pair_twice plan formed lines all key cell.0 cell.1 local site over line.0 line.1 walk;
  goes_on = λ key caller name r.
      let cell = some_cell plan key in
      goes_on plan formed lines all key cell.0 cell.1 caller name r;
  few_pairs = λ from to apart distinct each.
      let found = few from to in
      let less : length apart ≤ length found.0 = no_more_than found.0 apart distinct
      (λ k d h. (found.1.each (get_or apart k d)).1 (goes_over plan formed lines all from to (get_or apart k d) (each k d h))) in
      let small : length found.0 ≤ 128 = found.2 in
      omega arith;
}

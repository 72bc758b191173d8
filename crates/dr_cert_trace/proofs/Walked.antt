-- The walk over a key's stages, from those from which it may go farthest on: a place is known before it is passed.
use Rattle.std.proofs.Common.{◌≡◌, ℕ, zero, suc, ◌+◌, ◌<◌, ◌≤◌, ◌⊎◌, inl, inr, refl, sym, ap, subst, ◌∙◌, List, [], ◌∷◌, ◌++◌, length, get_or, take, Contains, arith}
use Rattle.std.specs.Prelude.{◌-◌, ◌^◌}
use Rattle.std.specs.BTreeSet.{BTreeSet}
use Rattle.std.proofs.lemmas.List.{take_more, get_or-take, length-take-le, get_or_default}
use Rattle.std.proofs.lemmas.List.Elements.{Contains-push_cases}
use Rattle.dr_base.specs.Texts.{Text}
use Rattle.dr_route.specs.Names.{HasName}
use Rattle.dr_route.specs.Routes.{local}
use Rattle.dr_route.specs.declared.key.Key.{Key}
use Rattle.dr_plan_model.specs.Networks.{Network}
use Rattle.dr_plan_model.specs.Walks.{Sends, Keeps, IsEntry, IsReached, IsDestination, last_place}
use Rattle.dr_plan_model.proofs.Gathered.{nothing_in_nil}
use Rattle.dr_plan_sound.specs.Soundness.{IsRank}
use Rattle.dr_plan_sound.proofs.Hopping.{walk_push, last_push, last_hop}
use Rattle.dr_cert_trace.specs.declared.stages.TraceStage.{TraceStage}
use Rattle.dr_cert_trace.specs.Traces.{ComesTo, GoesOnTo}
use Rattle.dr_cert_trace.specs.Stages.{AreOrdered}
use Rattle.dr_cert_trace.specs.Found.{AreFound, HasPair, IsKnownPlace, PassesPlace}

-- What was found is right, and of the stages that were passed all is found.
pub record IsSoFar (plan : Network) (site : Text) (key : Key) (passed : List TraceStage) (pairs : BTreeSet (Text × Text)) (keeps : BTreeSet Text) : Type 0 where
  pub goes : (pair : Text × Text) → HasPair pairs pair → GoesOnTo plan site key pair.0 pair.1
  pub ends : (name : Text) → HasName keeps name → IsDestination plan local site key name
  pub whole : (stage : TraceStage) → Contains passed stage → ComesTo plan site key stage.place →
      ((to : Text) → Sends plan stage.place.1 stage.place.0 key to → HasPair pairs (stage.place.1, to)) × (Keeps plan stage.place.1 stage.place.0 key → HasName keeps stage.place.1)

either : (a b : ℕ) → (a < b) ⊎ (b ≤ a)
either zero zero = inr (omega arith)
either zero (suc b) = inl (omega arith)
either (suc a) zero = inr (omega arith)
either (suc a) (suc b) = elim (either a b) [ inl h ↦ inl (omega (arith, h)) | inr h ↦ inr (omega (arith, h)) ]

module _ (plan : Network) (site : Text) (key : Key) where
  -- the place behind one that the key comes to
  comes_next : (caller name to : Text) → ComesTo plan site key (caller, name) → Sends plan name caller key to → ComesTo plan site key (name, to)
  comes_next caller name to comes sent =
      let P : Text × Text → Type 0 = λ p. Sends plan p.1 p.0 key to in
      let here = subst P (sym comes.2) sent in
      let end : (last_place local site comes.0).1 ≡ name = ap (λ (p : Text × Text). p.1) comes.2 in
      (comes.0 ++ to ∷ [], walk_push plan key local site comes.0 to comes.1 here, last_push local site comes.0 to ∙ ap (λ (n : Text). let p : Text × Text = (n, to) in p) end)

  goes_comes : (from to : Text) → GoesOnTo plan site key from to → ComesTo plan site key (from, to)
  goes_comes from to goes = comes_next goes.0 from to goes.1 goes.2

  -- the key is where it enters, or it came there from another node
  before : (caller name : Text) → ComesTo plan site key (caller, name) → (◌≡◌ {A = Text × Text} (caller, name) (local, site)) ⊎ GoesOnTo plan site key caller name
  before caller name comes = elim (last_hop plan key local site comes.0 caller name comes.1 comes.2) [
    | inl none ↦ inl (sym comes.2 ∙ ap (λ (over : List Text). last_place local site over) none.0)
    | inr more ↦ inr (more.1, (more.0, more.2, more.3), more.4)
  ]

  reached : IsEntry plan site key → (caller name : Text) → ComesTo plan site key (caller, name) → IsReached plan key caller name
  reached entry caller name comes = (site, comes.0, entry, comes.1, comes.2)

  -- what is known is so
  pub known_comes : (passed : List TraceStage) (pairs : BTreeSet (Text × Text)) (keeps : BTreeSet Text) → IsSoFar plan site key passed pairs keeps →
      (place : Text × Text) → IsKnownPlace pairs site place → ComesTo plan site key place
  known_comes passed pairs keeps so_far place known = elim known [
    | inl entry ↦ ([], tt, sym entry)
    | inr found ↦ goes_comes place.0 place.1 (so_far.goes place found)
  ]

  -- from a node of a walk more hops may be left than from the one behind it
  longer : (caller name to : Text) (r s : ℕ) → Sends plan name caller key to → IsRank plan key caller name r → IsRank plan key name to s → s < r
  longer caller name to r s sent here there =
      let l = there.longest in
      let long : length (to ∷ l.0) ≤ r = here.greatest (to ∷ l.0) (sent, l.1) in
      let same : length l.0 ≡ s = l.2 in
      omega arith

  module _ (stages : List TraceStage) (ordered : AreOrdered plan key stages) (entry : IsEntry plan site key) where
    -- the stage of a place is in front of those with fewer hops left
    in_front : (front stage : TraceStage) (i : ℕ) → i < length stages → get_or stages i stage ≡ stage → Contains stages front → front.depth < stage.depth → Contains (take i stages) front
    in_front front stage i lt at among less =
        let k = among.0 in
        let within : k < length stages = among.1 in
        elim (either k i) [
          | inl less_far ↦ (k, (let few : length (take i stages) ≡ i = length-take-le i stages (omega arith) in let l : k < length (take i stages) = omega arith in l), get_or-take i stages k front less_far ∙ among.2)
          | inr behind ↦ absurd ((
              let not_less = ordered.1 i k stage behind within in
              let a : (get_or stages i stage).depth ≡ stage.depth = ap (λ (s : TraceStage). s.depth) at in
              let b : (get_or stages k stage).depth ≡ front.depth = ap (λ (s : TraceStage). s.depth) (get_or_default stages k stage front within ∙ among.2) in
              let n : (get_or stages i stage).depth ≤ (get_or stages k stage).depth = not_less in
              omega arith))
        ]

    -- the stage that is passed next is known, if the key comes there
    pub is_known_by_then : (i : ℕ) (stage : TraceStage) → i < length stages → get_or stages i stage ≡ stage → (pairs : BTreeSet (Text × Text)) (keeps : BTreeSet Text) →
        IsSoFar plan site key (take i stages) pairs keeps → ComesTo plan site key stage.place → IsKnownPlace pairs site stage.place
    is_known_by_then i stage lt at pairs keeps so_far comes = elim (before stage.place.0 stage.place.1 comes) [
      | inl entry_place ↦ inl entry_place
      | inr goes ↦ inr ((
          let there = ordered.0.all goes.0 stage.place.0 (reached entry goes.0 stage.place.0 goes.1) in
          let front = there.0 in
          let of_front = ordered.0.each front there.1 in
          let of_stage = ordered.0.each stage (i, lt, at) in
          let R : Text × Text → Type 0 = λ p. IsRank plan key p.0 p.1 of_front.0 in
          let less : of_stage.0 < of_front.0 = longer goes.0 stage.place.0 stage.place.1 of_front.0 of_stage.0 goes.2 (subst R there.2 of_front.1) of_stage.1 in
          let a : front.depth + of_front.0 ≡ 2 ^ 32 - 1 = of_front.2 in
          let b : stage.depth + of_stage.0 ≡ 2 ^ 32 - 1 = of_stage.2 in
          let deeper : front.depth < stage.depth = omega arith in
          let comes_there : ComesTo plan site key front.place = subst (ComesTo plan site key) (sym there.2) goes.1 in
          let passed = so_far.whole front (in_front front stage i lt at there.1 deeper) comes_there in
          let Q : Text × Text → Type 0 = λ p. Sends plan p.1 p.0 key stage.place.1 in
          let found : HasPair pairs (front.place.1, stage.place.1) = passed.0 stage.place.1 (subst Q (sym there.2) goes.2) in
          subst (λ (n : Text). HasPair pairs (n, stage.place.1)) (ap (λ (p : Text × Text). p.1) there.2) found))
    ]

    -- one stage more is passed
    pub passes : (i : ℕ) (stage : TraceStage) → i < length stages → get_or stages i stage ≡ stage → (pairs more : BTreeSet (Text × Text)) (keeps kept : BTreeSet Text) →
        PassesPlace plan site key stage.place pairs more keeps kept → IsSoFar plan site key (take i stages) pairs keeps → IsSoFar plan site key (take (i + 1) stages) more kept
    passes i stage lt at pairs more keeps kept step so_far =
        let pushed : take (i + 1) stages ≡ take i stages ++ stage ∷ [] = take_more stages i stage lt ∙ ap (λ (s : TraceStage). take i stages ++ s ∷ []) at in
        elim step [
          | inl un ↦ record {
            goes = λ pair h. so_far.goes pair (subst (λ (keys : List (Text × Text)). Contains keys pair) un.1 h);
            ends = λ name h. so_far.ends name (subst (λ (keys : List Text). Contains keys name) un.2 h);
            whole = λ other h comes. elim (Contains-push_cases (take i stages) stage other (subst (λ (xs : List TraceStage). Contains xs other) pushed h)) [
              | inl earlier ↦ (let w = so_far.whole other earlier comes in (
                λ to sent. subst (λ (keys : List (Text × Text)). Contains keys (other.place.1, to)) (sym un.1) (w.0 to sent),
                λ keep. subst (λ (keys : List Text). Contains keys other.place.1) (sym un.2) (w.1 keep),
              ))
              | inr same ↦ absurd (un.0 (is_known_by_then i stage lt at pairs keeps so_far (subst (λ (s : TraceStage). ComesTo plan site key s.place) (sym same) comes)))
            ];
          }
          | inr on ↦ (let here = known_comes (take i stages) pairs keeps so_far stage.place on.0 in record {
            goes = λ pair h. elim ((on.1.pairs pair).0 h) [
              | inl earlier ↦ so_far.goes pair earlier
              | inr new ↦ (stage.place.0, subst (λ (n : Text). ComesTo plan site key (stage.place.0, n)) (sym new.0) here, subst (λ (n : Text). Sends plan n stage.place.0 key pair.1) (sym new.0) new.1)
            ];
            ends = λ name h. elim ((on.1.keeps name).0 h) [
              | inl earlier ↦ so_far.ends name earlier
              | inr new ↦ (
                here.0,
                here.1,
                ap (λ (p : Text × Text). p.1) here.2 ∙ sym new.0,
                (let K : Text × Text → Type 0 = λ p. Keeps plan p.1 p.0 key in
                    let k : Keeps plan (last_place local site here.0).1 (last_place local site here.0).0 key = subst K (sym here.2) new.1 in
                    subst (λ (n : Text). Keeps plan n (last_place local site here.0).0 key) (ap (λ (p : Text × Text). p.1) here.2 ∙ sym new.0) k),
              )
            ];
            whole = λ other h comes. elim (Contains-push_cases (take i stages) stage other (subst (λ (xs : List TraceStage). Contains xs other) pushed h)) [
              | inl earlier ↦ (let w = so_far.whole other earlier comes in (
                λ to sent. (on.1.pairs (other.place.1, to)).1 (inl (w.0 to sent)),
                λ keep. (on.1.keeps other.place.1).1 (inl (w.1 keep)),
              ))
              | inr same ↦ subst (λ (s : TraceStage). ((to : Text) → Sends plan s.place.1 s.place.0 key to → HasPair more (s.place.1, to)) × (Keeps plan s.place.1 s.place.0 key → HasName kept s.place.1)) same
                  (λ to sent. (on.1.pairs (stage.place.1, to)).1 (inr (refl, sent)), λ keep. (on.1.keeps stage.place.1).1 (inr (refl, keep)))
            ];
          })
        ]

    -- all are passed
    pub all_found : (pairs : BTreeSet (Text × Text)) (keeps : BTreeSet Text) → IsSoFar plan site key stages pairs keeps → AreFound plan site key pairs keeps
    all_found pairs keeps so_far = record {
      goes = λ from to. (
        λ h. so_far.goes (from, to) h,
        λ goes. (
            let s = ordered.0.all goes.0 from (reached entry goes.0 from goes.1) in
            let w = so_far.whole s.0 s.1 (subst (ComesTo plan site key) (sym s.2) goes.1) in
            let Q : Text × Text → Type 0 = λ p. Sends plan p.1 p.0 key to in
            subst (λ (n : Text). HasPair pairs (n, to)) (ap (λ (p : Text × Text). p.1) s.2) (w.0 to (subst Q (sym s.2) goes.2))),
      );
      ends = λ dest. (
        λ h. so_far.ends dest h,
        λ d. (
            let place = last_place local site d.0 in
            let comes : ComesTo plan site key place = (d.0, d.1, refl) in
            let s = ordered.0.all place.0 place.1 (reached entry place.0 place.1 comes) in
            let w = so_far.whole s.0 s.1 (subst (ComesTo plan site key) (sym s.2) comes) in
            let K : Text × Text → Type 0 = λ p. Keeps plan p.1 p.0 key in
            let k : Keeps plan place.1 place.0 key = subst (λ (n : Text). Keeps plan n place.0 key) (sym d.2) d.3 in
            subst (HasName keeps) (ap (λ (p : Text × Text). p.1) s.2 ∙ d.2) (w.1 (subst K (sym s.2) k))),
      );
    }

pub none : (plan : Network) (site : Text) (key : Key) (pairs : BTreeSet (Text × Text)) (keeps : BTreeSet Text) → pairs.keys ≡ [] → keeps.keys ≡ [] → IsSoFar plan site key [] pairs keeps
none plan site key pairs keeps no_pairs no_keeps = record {
  goes = λ pair h. absurd (nothing_in_nil pair (subst (λ (keys : List (Text × Text)). Contains keys pair) no_pairs h));
  ends = λ name h. absurd (nothing_in_nil name (subst (λ (keys : List Text). Contains keys name) no_keeps h));
  whole = λ stage h comes. absurd (nothing_in_nil stage h);
}

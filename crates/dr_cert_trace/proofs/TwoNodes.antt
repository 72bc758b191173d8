-- The journey of an image in the plan of two nodes.
use Rattle.std.proofs.Common.{◌≡◌, ◌≢◌, ℕ, zero, suc, ◌+◌, ◌*◌, ◌≤◌, ◌⊎◌, inl, inr, refl, sym, ap, subst, ◌∙◌, List, [], ◌∷◌, length, get_or, Contains, Some, arith}
use Rattle.std.specs.Prelude.{◌↔◌, AllPairs, slice_get}
use Rattle.std.specs.declared.cmp.Ordering.TheVariants.{Less}
use Rattle.std.specs.List.Sorted.{IsStrictlySortedBy}
use Rattle.std.proofs.lemmas.List.Kept.{AllPairs-cons}
use Rattle.std.proofs.lemmas.List.Elements.{All-nil}
use Rattle.std.proofs.lemmas.Map.Keys.{Less-from_sorted}
use Rattle.dr_base.specs.Texts.{Text, text_cmp, IsInByteOrder}
use Rattle.dr_base.specs.declared.syntax.Syntax.{Syntax}
use Rattle.dr_base.specs.declared.syntax.Syntax.TheVariants.{Explicit}
use Rattle.dr_route.specs.Routes.{local}
use Rattle.dr_route.specs.declared.key.Key.{Key}
use Rattle.dr_plan_model.specs.Networks.{Network}
use Rattle.dr_plan_model.specs.Walks.{Flows, GoesOver, IsDestination, IsEntry, IsReached, IsWalk, Keeps, Sends, last_place}
use Rattle.dr_plan_model.proofs.Gathered.{only_one, Contains-here, Contains-there, nothing_in_nil}
use Rattle.dr_plan_model.proofs.WalksAlike.{no_rule_keeps}
use Rattle.dr_plan_sound.specs.Certificates.{AreHopPairs, HasHop, pair_cmp}
use Rattle.dr_plan_sound.specs.Samples.{scanner, archive, keep_all, the_scanner, the_archive, the_flow, two_nodes}
use Rattle.dr_base.specs.Standard.{image}
use Rattle.dr_plan_sound.specs.Soundness.{IsRank}
use Rattle.dr_plan_sound.specs.declared.certificate.Hop.{Hop}
use Rattle.dr_plan_sound.proofs.Hopping.{reached_entry, reached_next}
use Rattle.dr_plan_sound.proofs.PairLists.{pair_total}
use Rattle.dr_plan_sound.proofs.TwoNodes.{goes_only, keeps_stay}
use Rattle.dr_cert_hops.proofs.Rows.{same_sorted}
use Rattle.dr_cert_trace.specs.Laws.{an_image, the_hop, to_the_archive}
use Rattle.dr_cert_trace.specs.Traces.{GoesOnTo, IsHopOf, IsJourney}

-- texts in byte order, pair by pair
pub in_order : (xs : List Text) → IsInByteOrder xs → AllPairs (λ p q. text_cmp p q ≡ Less) xs
in_order xs ordered = λ i j d before within. Less-from_sorted text_cmp xs i j d ordered before within

one_sorted : (t : Text) → IsInByteOrder (t ∷ [])
unfolding IsStrictlySortedBy
one_sorted t = (tt, tt)

abbrev plan : Network
plan = two_nodes (keep_all ∷ [])

abbrev the_pair : Text × Syntax
the_pair = (image, Explicit)

they_differ : scanner ≢ archive
they_differ e = let l : length scanner ≡ length archive = ap (λ (t : Text). length t) e in omega (arith, l)

scanner_is_somebody : scanner ≢ local
scanner_is_somebody e = let l : length scanner ≡ length local = ap (λ (t : Text). length t) e in omega (arith, l)

module _ (modality station : Text) where
  abbrev key : Key
  key = an_image modality station

  flows : Flows plan scanner key archive
  flows = (the_flow, Contains-here the_flow [], refl, refl, record { class = Contains-here image []; syntax = Contains-here Explicit []; modality = tt; station = tt })

  entry : IsEntry plan scanner key
  entry = (archive, flows)

  sent : Sends plan scanner local key archive
  sent = inl (refl, flows)

  -- an image stays at the scanner or goes to the archive
  walk_only : (over : List Text) → IsWalk plan key local scanner over → (over ≡ []) ⊎ (over ≡ archive ∷ [])
  walk_only [] walk = inl refl
  walk_only (next ∷ []) walk = inr (ap (λ (t : Text). t ∷ []) (goes_only (keep_all ∷ []) keeps_stay key scanner next (local, reached_entry plan key scanner entry, walk.0)).1)
  walk_only (next ∷ then ∷ rest) walk =
      let here = reached_entry plan key scanner entry in
      let first = goes_only (keep_all ∷ []) keeps_stay key scanner next (local, here, walk.0) in
      let second = goes_only (keep_all ∷ []) keeps_stay key next then (scanner, reached_next plan key local scanner next here walk.0, walk.1.0) in
      absurd (they_differ (sym second.0 ∙ first.1))

  is_rank : IsRank plan key local scanner 1
  is_rank = record {
    longest = (archive ∷ [], (sent, tt), refl);
    greatest = λ over walk. elim (walk_only over walk) [
      | inl none ↦ (let l : length over ≡ 0 = ap (λ (xs : List Text). length xs) none in omega (arith, l))
      | inr one ↦ (let l : length over ≡ 1 = ap (λ (xs : List Text). length xs) one in omega (arith, l))
    ];
  }

  over_hop : GoesOver plan scanner archive the_pair
  over_hop = (key, refl, (local, reached_entry plan key scanner entry, sent))

  pairs : AreHopPairs plan scanner archive (the_pair ∷ [])
  pairs = record {
    ordered = AllPairs-cons (λ (p q : Text × Syntax). pair_cmp p q ≡ Less) the_pair [] (All-nil _) (λ i j d a b. absurd (omega arith));
    each = λ pair. (
      λ among. (let P : Text × Syntax → Type 0 = λ p. GoesOver plan scanner archive p in subst P (only_one the_pair pair among) over_hop),
      λ over. (let g = goes_only (keep_all ∷ []) keeps_stay over.0 scanner archive over.2 in
          let is : pair ≡ the_pair = over.1 ∙ (ap (λ (c : Text). let p : Text × Syntax = (c, over.0.syntax) in p) g.2.0 ∙ ap (λ (s : Syntax). let p : Text × Syntax = (image, s) in p) g.2.1) in
          let P : Text × Syntax → Type 0 = λ p. Contains (the_pair ∷ []) p in
          subst P (sym is) (Contains-here the_pair [])),
    );
  }

  on_its_way : GoesOnTo plan scanner key scanner archive
  on_its_way = (local, ([], tt, refl), sent)

  is_hop : IsHopOf plan scanner key the_hop
  is_hop = ((the_pair ∷ [], 0, pairs, refl, refl), refl, refl, on_its_way)

  only_first : (k : ℕ) (pair : Text × Syntax) → slice_get (the_pair ∷ []) k ≡ Some pair → k ≡ 0
  only_first zero pair at = refl
  only_first (suc k) pair at = absurd (cc at)

  only_hop : (hop : Hop) → IsHopOf plan scanner key hop → the_hop ≡ hop
  only_hop hop is =
      let goes = is.3 in
      let reached : IsReached plan key goes.0 hop.from = (scanner, goes.1.0, entry, goes.1.1, goes.1.2) in
      let ends = goes_only (keep_all ∷ []) keeps_stay key hop.from hop.to (goes.0, reached, goes.2) in
      let has = is.0 in
      let F : Text → Type 0 = λ f. AreHopPairs plan f hop.to has.0 in
      let T : Text → Type 0 = λ t. AreHopPairs plan scanner t has.0 in
      let its : AreHopPairs plan scanner archive has.0 = subst T ends.1 (subst F ends.0 has.2) in
      let lists : has.0 ≡ the_pair ∷ [] = same_sorted pair_cmp pair_total has.0 (the_pair ∷ []) its.ordered pairs.ordered (λ p. (λ h. (pairs.each p).1 ((its.each p).0 h), λ h. (its.each p).1 ((pairs.each p).0 h))) in
      let at : slice_get (the_pair ∷ []) has.1 ≡ Some (hop.class, hop.syntax) = ap (λ (l : List (Text × Syntax)). slice_get l has.1) (sym lists) ∙ has.3 in
      let first : has.1 ≡ 0 = only_first has.1 (hop.class, hop.syntax) at in
      let id : 1 ≡ hop.id = omega (arith, has.4, first) in
      let mk : Text → Text → ℕ → Text → Syntax → Hop = λ f t n c s. record { «from» = f; «to» = t; id = n; class = c; syntax = s } in
      ap (λ (f : Text). mk f archive 1 image Explicit) (sym ends.0) ∙ (ap (λ (t : Text). mk hop.from t 1 image Explicit) (sym ends.1) ∙ (ap (λ (n : ℕ). mk hop.from hop.to n image Explicit) id
      ∙ (ap (λ (c : Text). mk hop.from hop.to hop.id c Explicit) (sym is.1) ∙ ap (λ (s : Syntax). mk hop.from hop.to hop.id hop.class s) (sym is.2))))

  kept : Keeps plan archive scanner key
  kept = (the_archive (keep_all ∷ []), (Contains-there the_scanner (the_archive (keep_all ∷ []) ∷ []) (the_archive (keep_all ∷ [])) (Contains-here (the_archive (keep_all ∷ [])) []), refl), inl ((scanner_is_somebody, tt, tt, tt, (tt, λ among. nothing_in_nil station among)), refl))

  is_kept : IsDestination plan local scanner key archive
  is_kept = (archive ∷ [], (sent, tt), refl, kept)

  only_keeper : (dest : Text) → IsDestination plan local scanner key dest → archive ≡ dest
  only_keeper dest d = elim (walk_only d.0 d.1) [
    | inl none ↦ (let K : List Text → Type 0 = λ over. Keeps plan dest (last_place local scanner over).0 key in
        let at_entry : Keeps plan dest local key = subst K none d.3 in
        absurd (no_rule_keeps at_entry.0.rules key at_entry.2))
    | inr one ↦ ap (λ (over : List Text). (last_place local scanner over).1) (sym one) ∙ d.2
  ]

  pub goes_there : IsJourney plan scanner key to_the_archive
  goes_there = record {
    enters = entry;
    rank = is_rank;
    hops = λ hop. (
      λ among. (let P : Hop → Type 0 = λ h. IsHopOf plan scanner key h in subst P (only_one the_hop hop among) is_hop),
      λ is. (let P : Hop → Type 0 = λ h. Contains (the_hop ∷ []) h in subst P (only_hop hop is) (Contains-here the_hop [])),
    );
    hops_ordered = λ i j d before within. absurd (omega arith);
    keeps = λ dest. (
      λ among. (let P : Text → Type 0 = λ t. IsDestination plan local scanner key t in subst P (only_one archive dest among) is_kept),
      λ is. (let P : Text → Type 0 = λ t. Contains (archive ∷ []) t in subst P (only_keeper dest is) (Contains-here archive [])),
    );
    keeps_ordered = one_sorted archive;
  }

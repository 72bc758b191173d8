-- What an adoption carries over.
use Rattle.std.proofs.Common.{◌≡◌, ◌+◌, ◌-◌, ℕ, zero, suc, Bool, true, false, not}
use Rattle.std.proofs.Common.{cond, ◌&&◌, T, List, [], ◌∷◌, ◌++◌, filter, length, map as mapped}
use Rattle.std.proofs.Common.{Option, None, Some, slice_get, inl, inr, refl, sym, ap}
use Rattle.std.proofs.Common.{subst, ◌∙◌, arith, length-append}
use mathlib.Core.List.{map-append}
use Rattle.std.specs.declared.cmp.Ordering.{Ordering}
use Rattle.std.specs.declared.cmp.Ordering.TheVariants.{Less, Equal, Greater}
use Rattle.std.specs.Ordering.{eq_by_cmp, is_lt}
use Rattle.std.specs.FinMap as map
use Rattle.std.specs.FinMap.{FinMap, find, is_sorted}
use Rattle.std.specs.FinMap.Entries.{below_all, find-where_key, is_sorted-where_key, same_entries}
use Rattle.std.specs.FinSet as set
use Rattle.std.specs.List.{AllByRecursion}
use Rattle.std.specs.List.Sorted.{IsStrictlySortedBy}
use Rattle.std.proofs.lemmas.Bool.{false≢true}
use Rattle.std.proofs.lemmas.Cmp.{tied_itself}
use Rattle.std.proofs.lemmas.List.{length-map}
use Rattle.std.proofs.lemmas.List.Elements.{filter_agree}
use Rattle.dr_base.specs.Texts.{Text}
use Rattle.dr_plan_model.specs.Plans.{IsNode}
use Rattle.dr_plan_model.proofs.Gathered.{nothing_in_nil}
use Rattle.dr_ledger.specs.declared.item.Entry.{Entry}
use Rattle.dr_ledger.specs.declared.item.Entry.TheVariants as entry
use Rattle.dr_ledger.specs.declared.item.Progress.{Progress}
use Rattle.dr_ledger.specs.Adopting.{IsFit}
use Rattle.dr_ledger.specs.Bodies.{Bodies}
use Rattle.dr_ledger.specs.Books.{Adoption, Book, after, is_over_row, is_queued, not_over}
use Rattle.dr_ledger.specs.Pairs.{Pair, pair_cmp}
use Rattle.dr_ledger.specs.Replies.{Lists, entry_of}
use Rattle.dr_ledger.proofs.Maps.{IsExact, same_or_not, text_pairs, ties_itself}
use Rattle.dr_ledger.proofs.Unfits.{unfit_is_one}
use Rattle.dr_site.specs.Parts.{Part}
use Rattle.dr_desk.specs.declared.adopting.AdoptFault.TheVariants as fault
use Rattle.dr_desk.specs.declared.holdings.Holdings.{Holdings}
use Rattle.dr_desk.specs.AdoptionLaws.{AdoptionsAreNoted, AdoptionsCarryOver}
use Rattle.dr_desk.specs.AdoptionLaws.{AdoptionsHaveNoReceipt, NoNodeComesFirst, ReceiptsStay}
use Rattle.dr_desk.specs.AdoptionLaws.{RefusalsLeaveTheHoldings, TakenPlansAreFit, UnfitRowsAreOne}
use Rattle.dr_desk.specs.AdoptionLaws.{carried_over, stays}
use Rattle.dr_desk.specs.Reading.{AreHoldings}
use Rattle.dr_desk.specs.Receipts.{Records}

-- ---- rows

first_T : (a b : Bool) → T (a && b) → T a
first_T true b h = tt
first_T false b h = absurd h

second_T : (a b : Bool) → T (a && b) → T b
second_T true b h = h
second_T false b h = absurd h

its_less : (o : Ordering) → T (is_lt o) → o ≡ Less
its_less Less h = refl
its_less Equal h = absurd h
its_less Greater h = absurd h

module _ {K : Type 0} {R : K → K → Ordering} (x : IsExact R) where
  apart : (k q : K) → R k q ≡ Less → eq_by_cmp R q k ≡ false
  apart k q less = elim (same_or_not x q k) [
    | inl same ↦ absurd
        (let here : R k k ≡ Less = sym (ap (R k) same) ∙ less in
        let equal : Less ≡ Equal = sym here ∙ tied_itself x.total k in
        cc)
    | inr other ↦ other
  ]

module _ {K V : Type 0} {R : K → K → Ordering} (x : IsExact R) where
  -- what is found in a list is found behind a key that is less than all of it
  found_behind : (e : K × V) (es all : List (K × V)) → T (below_all R e.0 es)
      → AllByRecursion (λ f. find R f.0 all ≡ Some f.1) es
      → AllByRecursion (λ f. find R f.0 (e ∷ all) ≡ Some f.1) es
  found_behind e [] all low h = tt
  found_behind e (f ∷ es) all low h = (
    ap
        (λ b. cond b (Some e.1) (find R f.0 all))
        (apart x e.0 f.0 (its_less _ (first_T (is_lt (R e.0 f.0)) _ low))) ∙ h.0,
    found_behind e es all (second_T (is_lt (R e.0 f.0)) _ low) h.1,
  )

  -- in a list whose keys rise each entry is found at its key
  each_found : (es : List (K × V)) → T (is_sorted R es)
      → AllByRecursion (λ e. find R e.0 es ≡ Some e.1) es
  each_found [] sorted = tt
  each_found (e ∷ es) sorted = (
    ap (λ b. cond b (Some e.1) (find R e.0 es)) (ties_itself x e.0),
    found_behind e es es (first_T (below_all R e.0 es) _ sorted)
        (each_found es (second_T (below_all R e.0 es) _ sorted)),
  )

  -- a test of what is found at the keys is one of the entries
  same_test : (all es : List (K × V)) (p : Option V → Bool) (q : V → Bool)
      → ((v : V) → p (Some v) ≡ q v)
      → AllByRecursion (λ e. find R e.0 all ≡ Some e.1) es
      → filter (λ e. p (find R e.0 all)) es ≡ filter (λ e. q e.1) es
  same_test all [] p q alike h = refl
  same_test all (e ∷ es) p q alike h =
      rw (ap p h.0 ∙ alike e.1, same_test all es p q alike h.1) refl

  retained : (m : FinMap R V) (p : K → Bool)
      → map.entries (map.retain_keys m p) ≡ filter (λ e. p e.0) (map.entries m)
  retained m p =
      let alike : (q : K) → (y : K) → R q y ≡ Equal → p y ≡ p q =
      λ q y tie. ap p (sym (x.exact q y tie)) in
      same_entries R x.total x.exact (map.entries (map.retain_keys m p))
      (filter (λ e. p e.0) (map.entries m)) (map.entries_sorted (map.retain_keys m p))
      (is_sorted-where_key R p (map.entries m) (map.entries_sorted m)) (λ q. sym
      (map.get-entries (map.retain_keys m p) q)
      ∙ (map.get-retain_keys m p q (alike q)
      ∙ (ap (λ o. cond (p q) o None) (map.get-entries m q)
      ∙ sym (find-where_key R p q (alike q) (map.entries m)))))

not_not : (b : Bool) → not (not b) ≡ b
not_not true = refl
not_not false = refl

queued_rows : (rows : FinMap pair_cmp Progress)
    → map.entries (not_over rows) ≡ filter stays (map.entries rows)
queued_rows rows =
    retained text_pairs rows (λ at. not (is_over_row (map.get rows at)))
    ∙ (filter_agree
    (λ e. not (is_over_row (map.get rows e.0)))
    (λ e. not (is_over_row (find pair_cmp e.0 (map.entries rows))))
    (λ e. ap (λ o. not (is_over_row o)) (map.get-entries rows e.0)) (map.entries rows)
    ∙ same_test text_pairs (map.entries rows) (map.entries rows)
    (λ o. not (is_over_row o)) is_queued
    (λ v. not_not (is_queued v))
    (each_found text_pairs (map.entries rows) (map.entries_sorted rows)))

-- ---- what is listed

none_listed : Lists pair_cmp set.empty []
unfolding IsStrictlySortedBy
none_listed = record {
  ordered = tt;
  each = λ p. (
    λ there. absurd (nothing_in_nil p there),
    λ there. absurd (false≢true (sym (set.contains-empty pair_cmp p) ∙ there)),
  );
}

listed : (b : Book) (held : Holdings)
    → AreHoldings b held
    → AreHoldings (after Adoption b) (carried_over held)
listed b held h = record {
  arrivals = none_listed;
  kept = h.kept;
  rows = ap (filter stays) h.rows ∙ sym (queued_rows b.rows);
  lines = (let e = h.lines in let l = length-append b.lines (Adoption ∷ []) in omega arith);
}

inside : {X : Type 0} (x y : X) → Some x ≡ Some y → x ≡ y
inside x y e = cc

module _ {L : Type 0} (site_of : L → Part) (book : L → Book) (bodies : L → Bodies)
    (stands : L → Type 0) (failed : L → ℕ) where
  pub refusals_leave : RefusalsLeaveTheHoldings site_of book bodies stands failed
  refusals_leave next why old new held h s are =
      subst (λ (b : Book). AreHoldings b held) (sym (h.1.same s)) are

  pub adoptions_carry_over : AdoptionsCarryOver site_of book bodies stands failed
  adoptions_carry_over next own old new held h s are = subst
      (λ (b : Book). AreHoldings b (carried_over held)) (sym (h.adopted s))
      (listed (book old) held are)

  pub adoptions_are_noted : AdoptionsAreNoted site_of book bodies stands failed
  adoptions_are_noted next own old new h s = ap (λ (b : Book). b.lines) (h.adopted s)

  pub no_node_first : NoNodeComesFirst site_of book bodies stands failed
  no_node_first next fault.NoNode old new other none h = refl
  no_node_first next (fault.Unfit uid dest) old new other none h = absurd (h.0.0 none.0.0)
  no_node_first next fault.Store old new other none h = absurd (h.0.0 none.0.0)
  no_node_first next fault.Memory old new other none h = absurd (h.0 none.0.0)

  pub taken_are_fit : TakenPlansAreFit site_of book bodies stands failed
  taken_are_fit next own old new other h = (
    λ none.
        (let node = h.part.node in
        none.0.0 node.0 (subst (λ (t : Text). IsNode next.plan t node.0) h.named node.1.0)),
    λ uid dest unfit s t. (
        let row = (unfit.0.1 t).0 in
        let fit = subst (λ (name : Text). IsFit next.plan name (book old)) h.named (h.fit s) in
        row.5 (fit (uid, dest) row.0 row.1 row.2 row.3 row.4)),
  )

  pub unfit_rows_are_one : UnfitRowsAreOne site_of book bodies stands failed
  unfit_rows_are_one next uid dest id to old new other h k s t =
      let same : Some (uid, dest) ≡ Some (id, to) =
      unfit_is_one next.plan (site_of old).name (book old) _ _ (h.0.1 s) (k.0.1 t) in
      let pairs : (uid, dest) ≡ (id, to) = inside _ _ same in
      (ap (λ (p : Pair). p.0) pairs, ap (λ (p : Pair). p.1) pairs)

-- ---- receipts

still_there : {X : Type 0} (xs ys : List X) (i : ℕ) (x : X)
    → slice_get xs i ≡ Some x
    → slice_get (xs ++ ys) i ≡ Some x
still_there [] ys i x h = absurd (let e : None ≡ Some x = h in cc)
still_there (y ∷ xs) ys zero x h = h
still_there (y ∷ xs) ys (suc i) x h = still_there xs ys i x h

at_end : {X : Type 0} (xs : List X) (y : X) → slice_get (xs ++ y ∷ []) (length xs) ≡ Some y
at_end [] y = refl
at_end (x ∷ xs) y = at_end xs y

shown_after : (b : Book)
    → mapped entry_of (after Adoption b).lines ≡ mapped entry_of b.lines ++ entry.Adoption ∷ []
shown_after b = map-append entry_of b.lines (Adoption ∷ [])

pub receipts_stay : ReceiptsStay
receipts_stay b receipt h = record {
  line = h.line;
  counted = h.counted;
  stands =
      ap (λ (es : List Entry). slice_get es (receipt.number - 1)) (shown_after b)
      ∙ still_there (mapped entry_of b.lines) (entry.Adoption ∷ []) (receipt.number - 1) h.line
      h.stands;
  records = h.records;
}

pub adoptions_have_no_receipt : AdoptionsHaveNoReceipt
adoptions_have_no_receipt b receipt last h =
    let place : receipt.number - 1 ≡ length (mapped entry_of b.lines) =
    (let l = length-append b.lines (Adoption ∷ []) in
    let m = length-map b.lines entry_of in omega arith) in
    let here : slice_get (mapped entry_of (after Adoption b).lines) (receipt.number - 1)
    ≡ Some entry.Adoption =
    ap (λ (es : List Entry). slice_get es (receipt.number - 1)) (shown_after b)
    ∙ (ap (λ n. slice_get (mapped entry_of b.lines ++ entry.Adoption ∷ []) n) place
    ∙ at_end (mapped entry_of b.lines) entry.Adoption) in
    let same : h.line ≡ entry.Adoption = inside _ _ (sym h.stands ∙ here) in
    subst (λ (line : Entry). Records line receipt.call receipt.reply) same h.records

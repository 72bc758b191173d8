-- What is noted of a journal's lines, one after the other.
use Rattle.std.proofs.Common.{◌≡◌, ◌∙◌, ap, sym, subst, refl, ℕ, ◌++◌, List, [], ◌∷◌, Bool, true, false, cond, Option, None, Some, Contains, ◌<◌, ◌↔◌, length, map, get_or}
use Rattle.std.proofs.lemmas.Cmp.{nat_list_cmp_total}
use Rattle.std.proofs.lemmas.List.{length-map}
use Rattle.std.proofs.Math.ListN.{get_or-map}
use Rattle.std.proofs.lemmas.List.Sorted.{Contains-permutation, IsPermutation-sym}
use Rattle.std.proofs.lemmas.Map.Lookups.{exact_bytes}
use Rattle.std.proofs.lemmas.Map.Views.{btree_map_get_iff, tells_apart}
use Rattle.std.specs.List.Sorted.{IsNonDecreasingBy, IsPermutation}
use Rattle.std.specs.BTreeMap as tree
use Rattle.std.specs.BTreeSet as set
use Rattle.std.specs.Map.{lookup}
use Rattle.dr_base.specs.Texts.{Text, text_cmp}
use Rattle.dr_ledger_history.specs.declared.line.JournalLine.{JournalLine}
use Rattle.dr_run_answer.specs.Journals.{next_number}
use Rattle.dr_run_serve.specs.Pasts.{HasNoted, IsFoundIn, IsQueueOf, KnownEnd, counted_from, ended_by, is_uid, known_after, known_by, known_in, later, nothing}
use Rattle.dr_run_serve.specs.declared.past.Past.{Past}
use Rattle.dr_run_serve.specs.declared.sweep.OverInstance.{OverInstance}

pub both : (b c d e : Bool) (x y z : Option ℕ) → c ≡ cond b d e → x ≡ cond b y z → ◌≡◌ {A = KnownEnd} (c, x) (cond b (d, y) (e, z))
both true c d e x y z p q = λ i. (p i, q i)
both false c d e x y z p q = λ i. (p i, q i)

tied : (uid q : Text) → is_uid uid q ≡ true → uid ≡ q
tied uid q h = tells_apart exact_bytes uid q h

-- of one that is kept nothing is noted
pub stays_kept : (known : Text → KnownEnd) (uid : Text) (now : ℕ) → (known uid).0 ≡ true → (q : Text) → known q ≡ cond (is_uid uid q) (ended_by (known q) now) (known q)
stays_kept known uid now kept q = go (is_uid uid q) refl
  where
    go : (b : Bool) → is_uid uid q ≡ b → known q ≡ cond b (ended_by (known q) now) (known q)
    go false other = refl
    go true same =
        let there : (known q).0 ≡ true = ap (λ (t : Text). (known t).0) (sym (tied uid q same)) ∙ kept in
        ap (λ (b : Bool). ((known q).0, cond b (known q).1 (later (known q).1 now))) (sym there)

-- and of another one the later moment is
pub ends_then : (known : Text → KnownEnd) (after : Text → Option ℕ) (uid : Text) (now end : ℕ) → (known uid).0 ≡ false → Some end ≡ later (known uid).1 now
    → ((q : Text) → after q ≡ cond (is_uid uid q) (Some end) (known q).1) → (q : Text) → ◌≡◌ {A = KnownEnd} ((known q).0, after q) (cond (is_uid uid q) (ended_by (known q) now) (known q))
ends_then known after uid now end free is updates q = go (is_uid uid q) refl (updates q)
  where
    go : (b : Bool) → is_uid uid q ≡ b → after q ≡ cond b (Some end) (known q).1 → ◌≡◌ {A = KnownEnd} ((known q).0, after q) (cond b (ended_by (known q) now) (known q))
    go false other e = ap (λ (o : Option ℕ). ((known q).0, o)) e
    go true same e =
        let at : uid ≡ q = tied uid q same in
        let there : (known q).0 ≡ false = ap (λ (t : Text). (known t).0) (sym at) ∙ free in
        let moment : Some end ≡ later (known q).1 now = is ∙ ap (λ (t : Text). later (known t).1 now) at in
        ap (λ (o : Option ℕ). ((known q).0, o)) (e ∙ moment)
        ∙ ap (λ (b : Bool). ((known q).0, cond b (known q).1 (later (known q).1 now))) (sym there)

-- ---- lines

known_more : (q : Text) (known : KnownEnd) (xs ys : List JournalLine) → known_after q known (xs ++ ys) ≡ known_after q (known_after q known xs) ys
known_more q known [] ys = refl
known_more q known (x ∷ xs) ys = known_more q (known_by q known x) xs ys

pub counted_more : (n : ℕ) (xs ys : List JournalLine) → counted_from n (xs ++ ys) ≡ counted_from (counted_from n xs) ys
counted_more n [] ys = refl
counted_more n (x ∷ xs) ys = counted_more (next_number n) xs ys

-- one line more is noted, and counted
pub one_noted : (lines : List JournalLine) (line : JournalLine) (old mid new : Past) → HasNoted lines old → mid.after ≡ old.after → ((q : Text) → known_in mid q ≡ known_by q (known_in old q) line)
    → new.after ≡ next_number mid.after → ((q : Text) → known_in new q ≡ known_in mid q) → HasNoted (lines ++ line ∷ []) new
one_noted lines line old mid new had stays known counts same = record {
  count = counts ∙ ap next_number (stays ∙ had.count) ∙ sym (counted_more 0 lines (line ∷ []));
  known = λ q. same q ∙ known q ∙ ap (λ (k : KnownEnd). known_by q k line) (had.known q) ∙ sym (known_more q nothing lines (line ∷ []));
}

-- what is found of these lines, where what they say is noted
pub found_in : (lines : List JournalLine) (past : Past) (queue : List OverInstance) → HasNoted lines past → IsQueueOf past.ends queue → IsFoundIn lines queue
found_in lines past queue had is = record {
  ordered = is.ordered;
  just = λ uid at.
      let e : tree.get text_cmp past.ends uid ≡ (known_after uid nothing lines).1 = ap (λ (k : KnownEnd). k.1) (had.known uid) in
      (λ there. sym e ∙ (is.just uid at).0 there, λ said. (is.just uid at).1 (e ∙ said));
}

-- an entry of the tree, as the queue has it
abbrev pub over_of : Text × ℕ → OverInstance
over_of e = record { uid = e.0; at = e.1 }

at_place : (es : List (Text × ℕ)) (i : ℕ) (e : Text × ℕ) → get_or (map over_of es) i (over_of e) ≡ over_of (get_or es i e)
at_place es i e = get_or-map over_of es i e

mapped_there : (es : List (Text × ℕ)) (e : Text × ℕ) → Contains es e ↔ Contains (map over_of es) (over_of e)
mapped_there es e = (
  λ h.
      let long : h.0 < length (map over_of es) = subst (λ n. h.0 < n) (sym (length-map es over_of)) h.1 in
      let at : get_or (map over_of es) h.0 (over_of e) ≡ over_of e = at_place es h.0 e ∙ ap over_of h.2 in
      (h.0, long, at),
  λ h.
      let short : h.0 < length es = subst (λ n. h.0 < n) (length-map es over_of) h.1 in
      let same : over_of (get_or es h.0 e) ≡ over_of e = sym (at_place es h.0 e) ∙ h.2 in
      let at : get_or es h.0 e ≡ e = ap (λ (o : OverInstance). (o.uid, o.at)) same in
      (h.0, short, at),
)

-- the entries of the tree, in another order
pub queue_of : (ends : tree.BTreeMap Text ℕ) (all queue : List OverInstance) → tree.IsOrdered text_cmp ends → all ≡ map over_of ends.entries → IsPermutation all queue
    → IsNonDecreasingBy (λ (over : OverInstance). over.at) queue → IsQueueOf ends queue
queue_of ends all queue ordered is permuted sorted = record {
  ordered = sorted;
  just = λ uid at.
      let here = btree_map_get_iff nat_list_cmp_total exact_bytes ends ordered uid at in
      let there = mapped_there ends.entries (uid, at) in
      let one : OverInstance = record { uid = uid; at = at } in (
        λ had. here.1 (there.1 (subst (λ (xs : List OverInstance). Contains xs one) is (Contains-permutation queue all one (IsPermutation-sym all queue permuted) had))),
        λ said. Contains-permutation all queue one permuted (subst (λ (xs : List OverInstance). Contains xs one) (sym is) (there.0 (here.0 said))),
      );
}

same_entries : (m n : tree.BTreeMap Text ℕ) → n.entries ≡ m.entries → (q : Text) → tree.get text_cmp n q ≡ tree.get text_cmp m q
same_entries m n e q = ap (λ (es : List (Text × ℕ)). lookup (tree.is_at (text_cmp q)) es) e

-- nothing more is known where the tree has what it had
pub as_before : (s : set.BTreeSet Text) (m n : tree.BTreeMap Text ℕ) → n.entries ≡ m.entries → (q : Text) → ◌≡◌ {A = KnownEnd} (set.contains text_cmp s q, tree.get text_cmp n q) (set.contains text_cmp s q, tree.get text_cmp m q)
as_before s m n e q = ap (λ (o : Option ℕ). (set.contains text_cmp s q, o)) (same_entries m n e q)

pub still_noted : (lines : List JournalLine) (old new : Past) → HasNoted lines old → new.after ≡ old.after → ((q : Text) → known_in new q ≡ known_in old q) → HasNoted lines new
still_noted lines old new had count known = record { count = count ∙ had.count; known = λ q. known q ∙ had.known q }

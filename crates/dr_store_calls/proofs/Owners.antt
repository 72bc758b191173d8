-- What site has for a plan says one SHA-256, one mark and one seal.
use Rattle.std.proofs.Common.{◌≡◌, ◌∙◌, ◌<◌, ◌+◌, ◌%◌, inl, inr, ℕ, Bool, false, true≢false, IsTrue, [], ◌∷◌, List, ◌++◌, length, take, drop, refl, sym, ap, subst, arith}
use Rattle.std.proofs.Common.{length-append, take_at, drop_at}
use Rattle.std.proofs.lemmas.List.{append_assoc, take-append-drop}
use Rattle.std.specs.Prelude.{◌↔◌}
use Rattle.std.specs.List.{IsSplitAt}
use Rattle.sqlite.specs.Order.{Row}
use Rattle.sqlite.specs.Tree.{Trees}
use Rattle.dr_site.specs.Parts.{Part}
use Rattle.dr_store_writes.specs.Effects.{IsSiteOf, site_row}
use Rattle.dr_store_sealed.specs.declared.seal.Seal.{Seal}
use Rattle.dr_store_sealed.specs.InTables.{IsSealText, seal_said}
use Rattle.dr_store_calls.specs.Owners.{IsMark, IsMarkAndSeal, IsOwnedSo, IsOwnedWith, IsPlanWith, behind_mark, cell_in, seal_in}
use Rattle.dr_store_calls.specs.AdoptionLaws.{AdoptionsKeepMarkAndSeal, AdoptionsKeepTheSeal, EmptyTablesAreOwnedByNone, OwnersAreOne}
use Rattle.dr_store_calls.specs.SealLaws.{CellsAreOfOneSeal, SealsAreRead}

-- a test that fails where it can't
pub never : {P : Type 0} (b : Bool) → (IsTrue b ↔ P) → b ≡ false → P → ⊥
never b says failed holds = true≢false (sym (says.1 holds) ∙ failed)

-- ---- a mark and a seal

both_long : (mark seal bytes : List ℕ) → IsMarkAndSeal mark seal bytes → length bytes ≡ length mark + length seal
both_long mark seal bytes it = ap length it.is ∙ length-append mark seal

-- how long the mark is
mark_at : (mark seal bytes : List ℕ) → IsMarkAndSeal mark seal bytes → length bytes % 56 ≡ length mark
mark_at mark seal bytes it = go it.marked it.sealed
  where
    go : IsMark mark → IsSealText seal → length bytes % 56 ≡ length mark
    go (inl m) (inl s) = let l : length bytes ≡ 0 = omega (arith, both_long mark seal bytes it, ap length m, ap length s) in ap (λ n. n % 56) l ∙ sym (ap length m)
    go (inl m) (inr s) = let l : length bytes ≡ 56 = omega (arith, both_long mark seal bytes it, ap length m, s) in ap (λ n. n % 56) l ∙ sym (ap length m)
    go (inr m) (inl s) = let l : length bytes ≡ 24 = omega (arith, both_long mark seal bytes it, m, ap length s) in ap (λ n. n % 56) l ∙ sym m
    go (inr m) (inr s) = let l : length bytes ≡ 80 = omega (arith, both_long mark seal bytes it, m, s) in ap (λ n. n % 56) l ∙ sym m

pub no_room : (bytes : List ℕ) → length bytes < length bytes % 56 → (mark seal : List ℕ) → IsMarkAndSeal mark seal bytes → ⊥
no_room bytes short mark seal it =
    let low : length bytes < length mark = subst (λ n. length bytes < n) (mark_at mark seal bytes it) short in
    omega (arith, low, both_long mark seal bytes it)

module _ (bytes front back : List ℕ) (split : IsSplitAt bytes (length bytes % 56) front back) where
  front_is : (mark seal : List ℕ) → IsMarkAndSeal mark seal bytes → front ≡ mark
  front_is mark seal it = split.1 ∙ ap (λ n. take n bytes) (mark_at mark seal bytes it) ∙ ap (take (length mark)) it.is ∙ take_at mark seal (length mark) refl

  back_is : (mark seal : List ℕ) → IsMarkAndSeal mark seal bytes → back ≡ seal
  back_is mark seal it = split.2 ∙ ap (λ n. drop n bytes) (mark_at mark seal bytes it) ∙ ap (drop (length mark)) it.is ∙ drop_at mark seal (length mark) refl

  pub no_such_mark : (IsMark front → ⊥) → (mark seal : List ℕ) → IsMarkAndSeal mark seal bytes → ⊥
  no_such_mark other mark seal it = other (subst IsMark (sym (front_is mark seal it)) it.marked)

  pub no_such_seal : (IsSealText back → ⊥) → (mark seal : List ℕ) → IsMarkAndSeal mark seal bytes → ⊥
  no_such_seal other mark seal it = other (subst IsSealText (sym (back_is mark seal it)) it.sealed)

  pub both_there : IsMark front → IsSealText back → IsMarkAndSeal front back bytes
  both_there marked sealed = record {
    marked = marked;
    sealed = sealed;
    is = sym (take-append-drop (length bytes % 56) bytes) ∙ ap (λ x. x ++ drop (length bytes % 56) bytes) (sym split.1) ∙ ap (λ x. front ++ x) (sym split.2);
  }

-- what is behind the mark
pub seal_behind : (mark seal bytes : List ℕ) → IsMarkAndSeal mark seal bytes → behind_mark bytes ≡ seal
seal_behind mark seal bytes it = ap (λ n. drop n bytes) (mark_at mark seal bytes it) ∙ ap (drop (length mark)) it.is ∙ drop_at mark seal (length mark) refl

-- two of them are the same
both_one : (bytes mark seal last end : List ℕ) → IsMarkAndSeal mark seal bytes → IsMarkAndSeal last end bytes → (mark ≡ last) × (seal ≡ end)
both_one bytes mark seal last end one two =
    let same : length mark ≡ length last = sym (mark_at mark seal bytes one) ∙ mark_at last end bytes two in
    let joined : mark ++ seal ≡ last ++ end = sym one.is ∙ two.is in (
      sym (take_at mark seal (length mark) refl) ∙ ap (take (length mark)) joined ∙ take_at last end (length mark) (sym same),
      sym (drop_at mark seal (length mark) refl) ∙ ap (drop (length mark)) joined ∙ drop_at last end (length mark) (sym same),
    )

-- ---- a cell

pub digest_of : (mark seal digest cell : List ℕ) → IsPlanWith mark seal digest cell → take 32 cell ≡ digest
digest_of mark seal digest cell it = ap (take 32) it.is ∙ take_at digest (mark ++ seal) 32 it.long

pub behind_of : (mark seal digest cell : List ℕ) → IsPlanWith mark seal digest cell → IsMarkAndSeal mark seal (drop 32 cell)
behind_of mark seal digest cell it = record { marked = it.marked; sealed = it.sealed; is = ap (drop 32) it.is ∙ drop_at digest (mark ++ seal) 32 it.long }

pub too_short : (cell : List ℕ) → length cell < 32 → (mark seal digest : List ℕ) → IsPlanWith mark seal digest cell → ⊥
too_short cell short mark seal digest it = omega (arith, short, ap length it.is ∙ length-append digest (mark ++ seal), it.long)

module _ (cell front rest : List ℕ) (split : IsSplitAt cell 32 front rest) where
  pub other_digest : (digest : List ℕ) → (front ≡ digest → ⊥) → (mark seal : List ℕ) → IsPlanWith mark seal digest cell → ⊥
  other_digest digest other mark seal it = other (split.1 ∙ digest_of mark seal digest cell it)

  pub none_behind : ((mark seal : List ℕ) → IsMarkAndSeal mark seal rest → ⊥) → (mark seal digest : List ℕ) → IsPlanWith mark seal digest cell → ⊥
  none_behind none mark seal digest it = none mark seal (subst (IsMarkAndSeal mark seal) (sym split.2) (behind_of mark seal digest cell it))

  pub both_behind : (mark seal : List ℕ) → IsMarkAndSeal mark seal rest → IsPlanWith mark seal front cell
  both_behind mark seal it = record {
    long = split.3;
    marked = it.marked;
    sealed = it.sealed;
    is = sym (take-append-drop 32 cell) ∙ ap (λ x. x ++ drop 32 cell) (sym split.1) ∙ ap (λ x. front ++ x) (sym split.2 ∙ it.is);
  }

-- two texts behind one another
pub two_pushed : (none one two a b : List ℕ) → none ≡ [] → one ≡ none ++ a → two ≡ one ++ b → two ≡ a ++ b
two_pushed none one two a b first second third = third ∙ ap (λ x. x ++ b) (second ∙ ap (λ x. x ++ a) first)

-- three of them
pub three_pushed : (none one two three a b c : List ℕ) → none ≡ [] → one ≡ none ++ a → two ≡ one ++ b → three ≡ two ++ c → three ≡ a ++ (b ++ c)
three_pushed none one two three a b c first second third fourth = fourth ∙ ap (λ x. x ++ c) (two_pushed none one two a b first second third) ∙ append_assoc a b c

pub cells_are_of_one_seal : CellsAreOfOneSeal
cells_are_of_one_seal mark seal digest last end other cell one two =
    let both = both_one (drop 32 cell) mark seal last end (behind_of mark seal digest cell one) (behind_of last end other cell two) in
    (sym (digest_of mark seal digest cell one) ∙ digest_of last end other cell two, both.0, both.1)

-- ---- an owner

pub one_owner : (db : Trees) (node other cell last : List ℕ) → IsSiteOf node cell db → IsSiteOf other last db → (node ≡ other) × (cell ≡ last)
one_owner db node other cell last one two =
    let same : site_row node cell ∷ [] ≡ site_row other last ∷ [] = sym one ∙ two in
    (cc, cc)

nobody : (row : Row) → [] ≡ row ∷ [] → ⊥
nobody row e = cc

pub owners_are_one : OwnersAreOne
owners_are_one mark seal last end part other db one two =
    let same = one_owner db part.name other.name one.0 two.0 one.2 two.2 in
    let plan : IsPlanWith last end other.digest one.0 = subst (IsPlanWith last end other.digest) (sym same.1) two.1 in
    let both = both_one (drop 32 one.0) mark seal last end (behind_of mark seal part.digest one.0 one.1) (behind_of last end other.digest one.0 plan) in (
      same.0,
      sym (digest_of mark seal part.digest one.0 one.1) ∙ digest_of last end other.digest one.0 plan,
      both.0,
      both.1,
    )

pub seals_are_read : SealsAreRead
seals_are_read mark seal part db owned =
    ap (λ (rows : List Row). seal_said (behind_mark (drop 32 (cell_in rows)))) owned.2
    ∙ ap seal_said (seal_behind mark seal (drop 32 owned.0) (behind_of mark seal part.digest owned.0 owned.1))

-- where site says no seal, no line has left
pub none_has_left : (mark : List ℕ) (part : Part) (db : Trees) → IsOwnedSo mark [] part db → 0 ≡ (seal_in db).count
none_has_left mark part db owned = ap (λ (s : Seal). s.count) (sym (seals_are_read mark [] part db owned))

pub marks_are_one : (mark last : List ℕ) (part other : Part) (db : Trees) → IsOwnedWith mark part db → IsOwnedWith last other db → (part.name ≡ other.name) × (part.digest ≡ other.digest) × (mark ≡ last)
marks_are_one mark last part other db one two = let same = owners_are_one mark one.0 last two.0 part other db one.1 two.1 in (same.0, same.1, same.2)

pub owned_by_none : EmptyTablesAreOwnedByNone
owned_by_none part db none owned = nobody (site_row part.name owned.1.1.0) (sym none ∙ owned.1.1.2)

pub mark_and_seal_are_kept : AdoptionsKeepMarkAndSeal
mark_and_seal_are_kept part next mark seal base db it owned =
    let same = owners_are_one mark seal it.owner.mark it.owner.seal part it.owner.was base owned it.owner.owned in
    subst (λ m. IsOwnedSo m seal next db) (sym same.2) (subst (λ s. IsOwnedSo it.owner.mark s next db) (sym same.3) it.owner.owns)

pub the_seal_is_kept : AdoptionsKeepTheSeal
the_seal_is_kept next base db it =
    seals_are_read it.owner.mark it.owner.seal next db it.owner.owns ∙ sym (seals_are_read it.owner.mark it.owner.seal it.owner.was base it.owner.owned)

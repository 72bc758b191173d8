-- What a write, a cut and a sync leave of the bytes before them.
use Rattle.std.proofs.Common.{◌≡◌, ℕ, ◌+◌, ◌-◌, ◌<◌, ◌≤◌, List, [], ◌++◌, length, take, slice_index, Result, Ok, Err, OnOk, refl, sym, ◌∙◌, ap, subst, inl, inr, arith, length-take, get_or-take}
use Rattle.std.proofs.lemmas.Bool.{cases_lt}
use Rattle.std.proofs.lemmas.List.{ext_get_or, get_or_append_left, get_or-append-add, get_or-append_right, length-append}
use Rattle.sqlite_disk.specs.Disk.{Cut, Follows, Holds, Only, Torn}
use Rattle.dr_store_sealed.specs.Files.{EndsAs, Endures, Spans}
use Rattle.dr_store_sealed.specs.declared.seal.Seal.{Seal}
use Rattle.dr_store_sealed.specs.Lines.{bytes_of, mark_of}
use Rattle.dr_store_sealed.specs.Seals.{seal_after}
use Rattle.dr_store_sealed.proofs.SealLemmas.{bytes_more, reaches}

pub holds_torn : (n size from : ℕ) (old new bytes : List ℕ) → from + length bytes ≤ n → Torn n size old new → Holds old from bytes → Holds new from bytes
holds_torn n size from old new bytes before torn holds =
    record {
      within = omega (arith, holds.within, torn.no_shorter);
      each = λ i low. torn.below (from + i) (omega (arith, holds.within, low)) (omega (arith, before, low)) ∙ holds.each i low;
    }

pub holds_cut : (n from : ℕ) (old new bytes : List ℕ) → from + length bytes ≤ n → Cut n old new → Holds old from bytes → Holds new from bytes
holds_cut n from old new bytes before cut holds =
    record {
      within = omega (arith, holds.within, cut.no_shorter, before);
      each = λ i low. cut.below (from + i) (omega (arith, holds.within, low)) (omega (arith, before, low)) ∙ holds.each i low;
    }

pub endures_torn : (n size from : ℕ) (old new bytes : List ℕ) (was is : List ℕ → Type 0) → from + length bytes ≤ n → Torn n size old new → Follows (Torn n size) was is → Endures old was from bytes → Endures new is from bytes
endures_torn n size from old new bytes was is before torn follows old_part =
    record {
      now = holds_torn n size from old new bytes before torn old_part.now;
      after_crash = λ left may.
          let (there, may_there, step) = follows left may in
          holds_torn n size from there left bytes before step (old_part.after_crash there may_there);
    }

pub endures_cut : (n from : ℕ) (old new bytes : List ℕ) (was is : List ℕ → Type 0) → from + length bytes ≤ n → Cut n old new → Follows (Cut n) was is → Endures old was from bytes → Endures new is from bytes
endures_cut n from old new bytes was is before cut follows old_part =
    record {
      now = holds_cut n from old new bytes before cut old_part.now;
      after_crash = λ left may.
          let (there, may_there, step) = follows left may in
          holds_cut n from there left bytes before step (old_part.after_crash there may_there);
    }

pub endures_fewer : (from : ℕ) (old new bytes : List ℕ) (was is : List ℕ → Type 0) → new ≡ old → ((left : List ℕ) → is left → was left) → Endures old was from bytes → Endures new is from bytes
endures_fewer from old new bytes was is same fewer old_part =
    record {
      now = subst (λ file. Holds file from bytes) (sym same) old_part.now;
      after_crash = λ left may. old_part.after_crash left (fewer left may);
    }

pub endures_synced : (from : ℕ) (seen bytes : List ℕ) (is : List ℕ → Type 0) → Only seen is → Holds seen from bytes → Endures seen is from bytes
endures_synced from seen bytes is only holds =
    record { now = holds; after_crash = λ left may. subst (λ file. Holds file from bytes) (sym (only left may)) holds }

-- All before the place of a write, and before both ends of a cut, stays.
pub same_torn : (at n : ℕ) (old new : List ℕ) → Torn at n old new → at ≤ length old → take at new ≡ take at old
same_torn at n old new torn low =
    let was = length-take at old in
    let is = length-take at new in
    let more = torn.no_shorter in
    ext_get_or 0 (take at new) (take at old) (omega (arith, was, is, more, low)) (λ i less.
    get_or-take at new i 0 (omega (arith, less, is))
    ∙ torn.below i (omega (arith, less, is, low)) (omega (arith, less, is))
    ∙ sym (get_or-take at old i 0 (omega (arith, less, is))))

pub same_cut : (n at : ℕ) (old new : List ℕ) → at ≤ n → Cut n old new → at ≤ length old → take at new ≡ take at old
same_cut n at old new before cut low =
    let was = length-take at old in
    let is = length-take at new in
    let more = cut.no_shorter in
    ext_get_or 0 (take at new) (take at old) (omega (arith, was, is, more, before, low)) (λ i less.
    get_or-take at new i 0 (omega (arith, less, is))
    ∙ cut.below i (omega (arith, less, is, low)) (omega (arith, less, is, before))
    ∙ sym (get_or-take at old i 0 (omega (arith, less, is))))

pub same_put : (at n end : ℕ) (old mid new : List ℕ) → Torn at n old mid → Cut end mid new → end ≡ at + n → at ≤ length old → take at new ≡ take at old
same_put at n end old mid new torn cut is low =
    let more = torn.no_shorter in
    same_cut end at mid new (omega (arith, is)) cut (omega (arith, more, low)) ∙ same_torn at n old mid torn low

-- what stands behind other bytes is there with them
pub holds_both : (file : List ℕ) (from : ℕ) (xs ys : List ℕ) → Holds file from xs → Holds file (from + length xs) ys → Holds file from (xs ++ ys)
holds_both file from xs ys first later =
    let size = length-append xs ys in
    record {
      within = omega (arith, later.within, size);
      each = λ i low.
          elim (cases_lt i (length xs)) [
            | inl before ↦ first.each i before ∙ sym (get_or_append_left xs ys 0 i before)
            | inr over ↦
                let place : from + length xs + (i - length xs) ≡ from + i = omega (arith, over) in
                ap (slice_index file) (sym place)
                ∙ later.each (i - length xs) (omega (arith, over, low, size))
                ∙ sym (get_or-append_right xs ys (length xs) i 0 refl over)
          ];
    }

pub holds_right : (file : List ℕ) (from : ℕ) (xs ys : List ℕ) → Holds file from (xs ++ ys) → Holds file (from + length xs) ys
holds_right file from xs ys both =
    let size = length-append xs ys in
    record {
      within = omega (arith, both.within, size);
      each = λ i low.
          let place : from + (length xs + i) ≡ from + length xs + i = omega arith in
          ap (slice_index file) (sym place)
          ∙ both.each (length xs + i) (omega (arith, low, size))
          ∙ get_or-append-add xs ys i 0;
    }

-- what bytes begin with that a file has
pub holds_start : (file : List ℕ) (from : ℕ) (piece bytes : List ℕ) → Holds file from piece → Holds piece 0 bytes → Holds file from bytes
holds_start file from piece bytes outer inner =
    record {
      within = omega (arith, outer.within, inner.within);
      each = λ i low. outer.each i (omega (arith, low, inner.within))
          ∙ ap (slice_index piece) (let e : i ≡ 0 + i = omega arith in e) ∙ inner.each i low;
    }

pub holds_front : (file xs ys : List ℕ) → file ≡ xs ++ ys → Holds file 0 xs
holds_front file xs ys is =
    let P : List ℕ → Type 0 = λ t. Holds t 0 xs in
    subst P (sym is) (record {
      within = omega (arith, length-append xs ys);
      each = λ i low. ap (slice_index (xs ++ ys)) (let e : 0 + i ≡ i = omega arith in e) ∙ get_or_append_left xs ys 0 i low;
    })

pub endures_both : (seen : List ℕ) (is : List ℕ → Type 0) (from : ℕ) (xs ys : List ℕ) → Endures seen is from xs → Endures seen is (from + length xs) ys → Endures seen is from (xs ++ ys)
endures_both seen is from xs ys first later =
    record {
      now = holds_both seen from xs ys first.now later.now;
      after_crash = λ left may. holds_both left from xs ys (first.after_crash left may) (later.after_crash left may);
    }

pub on_ok : {A E P : Type 0} (r : Result A E) → P → OnOk r P
on_ok (Ok value) h = h
on_ok (Err e) h = tt

pub holds_none : (file : List ℕ) (from : ℕ) → from ≤ length file → Holds file from []
holds_none file from within = record { within = omega (arith, within); each = λ i low. absurd (omega (arith, low)) }

pub same_held : (file : List ℕ) (at there : ℕ) (xs ys : List ℕ) → at ≡ there → length xs ≡ length ys → Holds file at xs → Holds file there ys → xs ≡ ys
same_held file at there xs ys place size first other =
    ext_get_or 0 xs ys size (λ i low.
    sym (first.each i low) ∙ ap (λ n. slice_index file (n + i)) place ∙ other.each i (omega (arith, low, size)))

-- a seal's last chain, read where it is to be
pub ends_read : (seen found : List ℕ) (seal : Seal) (at : ℕ) → at + length found ≡ seal.offset → found ≡ mark_of seal.chain → (0 < length found → Holds seen at found) → EndsAs seen seal
ends_read seen found seal at place is read some =
    let size : length found ≡ length (mark_of seal.chain) = ap (λ (t : List ℕ). length t) is in
    let filled : 0 < length (mark_of seal.chain) = omega arith in (
      at,
      (let e : at + length (mark_of seal.chain) ≡ seal.offset = omega (arith, place, size) in e),
      subst (λ t. Holds seen at t) is (read (omega (arith, size, filled))),
    )

-- another one
pub ends_otherwise : (seen found : List ℕ) (seal : Seal) (at : ℕ) → at + length (mark_of seal.chain) ≡ seal.offset → 0 < seal.offset → length found ≡ length (mark_of seal.chain) → (found ≡ mark_of seal.chain → ⊥) → Holds seen at found → EndsAs seen seal → ⊥
ends_otherwise seen found seal at place some size differs read ends =
    let (there, other, holds) = ends some in
    differs (same_held seen at there found (mark_of seal.chain) (let e : at ≡ there = omega (arith, place, other) in e) size read holds)

-- lines behind those that a file has
pub endures_more : (seen : List ℕ) (is : List ℕ → Type 0) (start s : Seal) (before more : List (List ℕ)) → Spans start before s
    → Endures seen is start.offset (bytes_of start.chain before) → Endures seen is s.offset (bytes_of s.chain more)
    → Endures seen is start.offset (bytes_of start.chain (before ++ more))
endures_more seen is start s before more spans first later =
    let place : start.offset + length (bytes_of start.chain before) ≡ s.offset = reaches start s before spans in
    let chain : s.chain ≡ (seal_after start before).chain = ap (λ (a : Seal). a.chain) spans.after in
    let there = subst (λ n. Endures seen is n (bytes_of (seal_after start before).chain more)) (sym place)
    (subst (λ t. Endures seen is s.offset (bytes_of t more)) chain later) in
    subst (λ t. Endures seen is start.offset t) (sym (bytes_more start before more))
    (endures_both seen is start.offset (bytes_of start.chain before) (bytes_of (seal_after start before).chain more) first there)

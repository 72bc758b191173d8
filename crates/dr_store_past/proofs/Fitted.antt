-- What files show of a past once the last of them was cut behind its seal.
use Rattle.std.proofs.Common.{◌≡◌, ◌+◌, ◌<◌, ◌≤◌, ℕ, List, [], ◌∷◌, length, slice_index_or, slice_set as set}
use Rattle.std.proofs.Common.{sym, ◌∙◌, ap, subst, inl, inr, arith}
use Rattle.std.proofs.lemmas.List.{get_or-map, get_or-set_other, get_or-set_same, length-map, map-set}
use Rattle.sqlite_disk.specs.declared.Disk.{Ghosts}
use Rattle.sqlite_disk.specs.Disk.{Holds}
use Rattle.dr_ledger.specs.Books.{Line}
use Rattle.dr_store_sealed.specs.declared.seal.Seal.{Seal}
use Rattle.dr_store_sealed.specs.Seals.{first_seal, next_seal, seal_after}
use Rattle.dr_store_line_files.specs.Filed.{AreFiled, HasEntryAt, HaveLines, InFiles}
use Rattle.dr_store_line_files.specs.Several.{all_shown}
use Rattle.dr_store_line_files.proofs.Filing.{IsUpTo, filed_kept}
use Rattle.dr_store_past.specs.Lines.{texts_behind}
use Rattle.dr_store_past.specs.Shown.{ShowsPast}

-- the last line ends in its file
last_shown : (files : List (List ℕ)) (s last : Seal) (x : List ℕ) (xs : List (List ℕ)) → last ≡ seal_after s (x ∷ xs) → AreFiled (InFiles files) s (x ∷ xs)
    → last.offset ≤ length (slice_index_or files last.number [])
last_shown files s last x [] after filed =
    let next = next_seal s x in
    let within = filed.0.bytes.within in
    let n : last.number ≡ next.number = ap (λ (a : Seal). a.number) after in
    let o : last.offset ≡ next.offset = ap (λ (a : Seal). a.offset) after in
    subst (λ k. last.offset ≤ length (slice_index_or files k [])) (sym n)
    (let e : last.offset ≤ length (slice_index_or files next.number []) = omega (arith, within, o) in e)
last_shown files s last x (y ∷ ys) after filed = last_shown files (next_seal s x) last y ys after filed.1

pub reaches_seal : (files : List (List ℕ)) (seal : Seal) (lines : List (List ℕ)) → HaveLines files first_seal lines seal
    → seal.offset ≤ length (slice_index_or files seal.number [])
reaches_seal files seal [] has = (let e : seal.offset ≡ 0 = ap (λ (s : Seal). s.offset) has.after in omega (arith, e))
reaches_seal files seal (x ∷ xs) has = last_shown files first_seal seal x xs has.after has.filed

module _ (files : List (List ℕ)) (seal : Seal) (cut : List ℕ) (there : seal.number < length files)
    (shows : (from : ℕ) (kept : List ℕ) → from + length kept ≤ seal.offset → Holds (slice_index_or files seal.number []) from kept → Holds cut from kept)
    (ends : length cut ≡ seal.offset) where
  entry_cut : seal.offset ≤ length (slice_index_or files seal.number []) → (n at : ℕ) (entry : List ℕ) → IsUpTo n (at + length entry) seal
      → InFiles files n at entry → InFiles (set files seal.number cut) n at entry
  entry_cut reach n at entry up has =
      elim up [
        | inl less ↦
            subst (λ f. HasEntryAt f at entry) (sym (get_or-set_other files seal.number n cut [] (λ same. omega (arith, less, same)))) has
        | inr here ↦
            let was : HasEntryAt (slice_index_or files seal.number []) at entry = subst (λ k. HasEntryAt (slice_index_or files k []) at entry) here.0 has in
            let low = here.1 in
            let is : HasEntryAt cut at entry =
            record {
              bytes = shows at entry low was.bytes;
              closed = λ over. (let size = was.closed over in omega (arith, ends, size, low, reach));
            } in
            subst (λ k. HasEntryAt (slice_index_or (set files seal.number cut) k []) at entry) (sym here.0)
            (subst (λ f. HasEntryAt f at entry) (sym (get_or-set_same files seal.number cut [] there)) is)
      ]

  cut_shown : (all : List Line) → ShowsPast all files seal → ShowsPast all (set files seal.number cut) seal
  cut_shown all it =
      let reach = reaches_seal files seal (texts_behind 0 it.lines) it.has in
      record {
        lines = it.lines;
        held = it.held;
        one = it.one;
        has = record {
          after = it.has.after;
          filed = filed_kept (InFiles files) (InFiles (set files seal.number cut)) first_seal seal (texts_behind 0 it.lines) it.has.after (entry_cut reach)
              it.has.filed;
        };
        said = it.said;
        counted = it.counted;
      }

pub fitted : {D : Type 0} (g : Ghosts D) (all : List Line) (disks : List D) (seal : Seal) (there : seal.number < length disks) (old new : D)
    → old ≡ slice_index_or disks seal.number old
    → ((from : ℕ) (kept : List ℕ) → from + length kept ≤ seal.offset → Holds (g.seen old) from kept → Holds (g.seen new) from kept)
    → length (g.seen new) ≡ seal.offset
    → ShowsPast all (all_shown g disks) seal → ShowsPast all (all_shown g (set disks seal.number new)) seal
fitted {D} g all disks seal there old new was shows ends it =
    let f : D → List ℕ = λ d. g.seen d in
    let files = all_shown g disks in
    let size = length-map disks f in
    let shown : slice_index_or files seal.number [] ≡ g.seen old = get_or-map f disks seal.number old [] there ∙ ap f (sym was) in
    subst (λ fs. ShowsPast all fs seal) (sym (map-set f disks seal.number new))
    (cut_shown files seal (g.seen new) (omega (arith, size, there))
    (λ from kept low holds. shows from kept low (subst (λ file. Holds file from kept) shown holds)) ends all it)

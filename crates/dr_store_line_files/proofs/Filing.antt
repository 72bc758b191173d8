-- Lines in several files.
use Rattle.std.proofs.Common.{◌≡◌, ℕ, ◌+◌, ◌<◌, ◌≤◌, ◌⊎◌, nat_le, Bool, true, false, suc, if◌then◌else◌}
use Rattle.std.proofs.Common.{List, [], ◌∷◌, ◌++◌, length, take, drop, All, slice_index_or}
use Rattle.std.proofs.Common.{refl, sym, ◌∙◌, ap, subst, inl, inr, arith}
use Rattle.std.proofs.lemmas.Bool.{cases_lt, le-leb, lt-leb}
use Rattle.std.proofs.lemmas.List.{append-nil, get_or_append_left, length-append, take_all}
use Rattle.std.proofs.lemmas.List.Elements.{All-cons, All-head, All-nil, All-tail}
use Rattle.sqlite_disk.specs.declared.Disk.{Ghosts}
use Rattle.sqlite_disk.specs.Disk.{Holds}
use Rattle.dr_store_sealed.specs.declared.seal.Seal.{Seal}
use Rattle.dr_store_line_files.specs.Filed.{AreFiled, HasEntryAt, InDisks, InFiles, MayLeave, next_offset, place_behind}
use Rattle.dr_store_sealed.specs.Files.{HasLines, Spans}
use Rattle.dr_store_line_files.specs.Laws.{CrashLeavesLines, FileIsOneOfThem, FilesGoOn, FilesHaveOneList}
use Rattle.dr_store_sealed.specs.Lines.{IsOneLine, bytes_of, entry_of}
use Rattle.dr_store_sealed.specs.Seals.{full, next_seal, seal_after, turned}
use Rattle.dr_store_sealed.proofs.FileLemmas.{holds_right}
use Rattle.dr_store_sealed.proofs.LawLemmas.{cons_same, lines_more, next_file}
use Rattle.dr_store_sealed.proofs.Prefixes.{piece_of, prefix, room}
use Rattle.dr_store_sealed.proofs.SealLemmas.{after_more, count_after, in_step, number_rises}

-- ---- the order of places

-- it ends no later than the seal
abbrev pub IsUpTo : ℕ → ℕ → Seal → Type 0
IsUpTo number end last = (number < last.number) ⊎ ((number ≡ last.number) × (end ≤ last.offset))

up_by : (b : Bool) (n offset size : ℕ) → (n < (if b then n + 1 else n)) ⊎ ((n ≡ (if b then n + 1 else n)) × (offset ≤ (if b then 0 else offset) + size))
up_by true n offset size = inl (omega arith)
up_by false n offset size = inr (refl, omega arith)

up_step : (s : Seal) (x : List ℕ) → IsUpTo s.number s.offset (next_seal s x)
up_step s x = up_by (nat_le full s.offset) s.number s.offset (length (entry_of s.chain x))

pub up_on : (n end : ℕ) (mid last : Seal) → IsUpTo n end mid → IsUpTo mid.number mid.offset last → IsUpTo n end last
up_on n end mid last first later =
    elim first [
      | inl low ↦ elim later [
        | inl less ↦ inl (omega (arith, low, less))
        | inr same ↦ inl (let e = same.0 in omega (arith, low, e))
      ]
      | inr here ↦ elim later [
        | inl less ↦ inl (let e = here.0 in omega (arith, e, less))
        | inr same ↦ inr ((let e = here.0 in let f = same.0 in omega (arith, e, f)), (let e = here.1 in let f = same.1 in omega (arith, e, f)))
      ]
    ]

pub up_after : (s : Seal) (xs : List (List ℕ)) → IsUpTo s.number s.offset (seal_after s xs)
up_after s [] = inr (refl, omega arith)
up_after s (x ∷ xs) = up_on s.number s.offset (next_seal s x) (seal_after (next_seal s x) xs) (up_step s x) (up_after (next_seal s x) xs)

-- ---- where the next line begins

behind_by : (b : Bool) (s : Seal) → b ≡ true → (if b then turned s else s) ≡ turned s
behind_by b s on = ap (λ (c : Bool). if c then turned s else s) on

here_by : (b : Bool) (s : Seal) → b ≡ false → (if b then turned s else s) ≡ s
here_by b s off = ap (λ (c : Bool). if c then turned s else s) off

pub behind_full : (s : Seal) → full ≤ s.offset → place_behind s ≡ turned s
behind_full s over = behind_by (nat_le full s.offset) s (le-leb full s.offset over)

pub behind_other : (s : Seal) → s.offset < full → place_behind s ≡ s
behind_other s low = here_by (nat_le full s.offset) s (lt-leb full s.offset low)

number_by : (b : Bool) (n : ℕ) → b ≡ false → (if b then n + 1 else n) ≡ n
number_by b n off = ap (λ (c : Bool). if c then n + 1 else n) off

offset_by : (b : Bool) (offset : ℕ) → b ≡ false → (if b then 0 else offset) ≡ offset
offset_by b offset off = ap (λ (c : Bool). if c then 0 else offset) off

turned_by : (b : Bool) (n : ℕ) → b ≡ true → (if b then n + 1 else n) ≡ n + 1
turned_by b n on = ap (λ (c : Bool). if c then n + 1 else n) on

begun_by : (b : Bool) (offset : ℕ) → b ≡ true → (if b then 0 else offset) ≡ 0
begun_by b offset on = ap (λ (c : Bool). if c then 0 else offset) on

pub same_number : (s : Seal) (x : List ℕ) → s.offset < full → (next_seal s x).number ≡ s.number
same_number s x low = number_by (nat_le full s.offset) s.number (lt-leb full s.offset low)

pub same_offset : (s : Seal) → s.offset < full → next_offset s ≡ s.offset
same_offset s low = offset_by (nat_le full s.offset) s.offset (lt-leb full s.offset low)

more_number : (s : Seal) (x : List ℕ) → full ≤ s.offset → (next_seal s x).number ≡ s.number + 1
more_number s x over = turned_by (nat_le full s.offset) s.number (le-leb full s.offset over)

module _ (Has : ℕ → ℕ → List ℕ → Type 0) where
  -- ---- parts of what is filed

  pub filed_more : (s : Seal) (xs ys : List (List ℕ)) → AreFiled Has s xs → AreFiled Has (seal_after s xs) ys → AreFiled Has s (xs ++ ys)
  filed_more s [] ys first later = later
  filed_more s (x ∷ xs) ys first later = (first.0, filed_more (next_seal s x) xs ys first.1 later)

  pub filed_first : (s : Seal) (xs ys : List (List ℕ)) → AreFiled Has s (xs ++ ys) → AreFiled Has s xs
  filed_first s [] ys both = tt
  filed_first s (x ∷ xs) ys both = (both.0, filed_first (next_seal s x) xs ys both.1)

  pub filed_rest : (s : Seal) (xs ys : List (List ℕ)) → AreFiled Has s (xs ++ ys) → AreFiled Has (seal_after s xs) ys
  filed_rest s [] ys both = both
  filed_rest s (x ∷ xs) ys both = filed_rest (next_seal s x) xs ys both.1

  -- where the next file begins
  pub filed_turned : (s : Seal) (x : List ℕ) (xs : List (List ℕ)) → full ≤ s.offset → AreFiled Has s (x ∷ xs) → AreFiled Has (turned s) (x ∷ xs)
  filed_turned s x xs over filed =
      let same : next_seal s x ≡ next_seal (turned s) x = next_file s x over in
      let place : next_offset s ≡ 0 = begun_by (nat_le full s.offset) s.offset (le-leb full s.offset over) in
      let there = subst (λ n. Has (next_seal s x).number n (entry_of s.chain x)) place filed.0 in (
        subst (λ (a : Seal). Has a.number 0 (entry_of s.chain x)) same there,
        subst (λ a. AreFiled Has a xs) same filed.1,
      )

  pub filed_unturned : (s : Seal) (x : List ℕ) (xs : List (List ℕ)) → full ≤ s.offset → AreFiled Has (turned s) (x ∷ xs) → AreFiled Has s (x ∷ xs)
  filed_unturned s x xs over filed =
      let same : next_seal s x ≡ next_seal (turned s) x = next_file s x over in
      let place : next_offset s ≡ 0 = begun_by (nat_le full s.offset) s.offset (le-leb full s.offset over) in
      let there : Has (next_seal (turned s) x).number 0 (entry_of s.chain x) = filed.0 in
      let here = subst (λ (a : Seal). Has a.number 0 (entry_of s.chain x)) (sym same) there in (
        subst (λ n. Has (next_seal s x).number n (entry_of s.chain x)) (sym place) here,
        subst (λ a. AreFiled Has a xs) (sym same) filed.1,
      )

-- what keeps all that ends up to a seal keeps the lines up to it
pub filed_kept : (Has Keeps : ℕ → ℕ → List ℕ → Type 0) (s last : Seal) (xs : List (List ℕ)) → last ≡ seal_after s xs
    → ((n at : ℕ) (entry : List ℕ) → IsUpTo n (at + length entry) last → Has n at entry → Keeps n at entry)
    → AreFiled Has s xs → AreFiled Keeps s xs
filed_kept Has Keeps s last [] after keeps filed = tt
filed_kept Has Keeps s last (x ∷ xs) after keeps filed =
    let next = next_seal s x in (
      keeps next.number (next_offset s) (entry_of s.chain x) (subst (IsUpTo next.number next.offset) (sym after) (up_after next xs)) filed.0,
      filed_kept Has Keeps next last xs after keeps filed.1,
    )

pub filed_map : (Has Keeps : ℕ → ℕ → List ℕ → Type 0) (s : Seal) (xs : List (List ℕ))
    → ((n at : ℕ) (entry : List ℕ) → Has n at entry → Keeps n at entry) → AreFiled Has s xs → AreFiled Keeps s xs
filed_map Has Keeps s xs keeps filed = filed_kept Has Keeps s (seal_after s xs) xs refl (λ n at entry up has. keeps n at entry has) filed

-- ---- files have one list of lines

same_entry : (s : Seal) (file : List ℕ) (at : ℕ) (x y : List ℕ) → IsOneLine x → IsOneLine y → length (entry_of s.chain x) ≤ length (entry_of s.chain y)
    → Holds file at (entry_of s.chain x) → Holds file at (entry_of s.chain y) → y ≡ x
same_entry s file at x y one other low first second =
    let a = entry_of s.chain x in
    let b = entry_of s.chain y in
    let whole : b ≡ a ++ drop (length a) b = piece_of file at a b low first second in
    let same : bytes_of s.chain (y ∷ []) ≡ bytes_of s.chain (x ∷ []) ++ drop (length a) b =
    append-nil b ∙ whole ∙ ap (λ t. t ++ drop (length a) b) (sym (append-nil a)) in
    let (rest, is, all, left) = prefix s (x ∷ []) (y ∷ []) (drop (length a) b)
    (All-cons IsOneLine x [] one (All-nil IsOneLine)) (All-cons IsOneLine y [] other (All-nil IsOneLine)) same in
    ap (λ (l : List (List ℕ)). slice_index_or l 0 []) is

one_entry : (s : Seal) (file : List ℕ) (at : ℕ) (x y : List ℕ) → IsOneLine x → IsOneLine y
    → Holds file at (entry_of s.chain x) → Holds file at (entry_of s.chain y) → x ≡ y
one_entry s file at x y one other first second =
    elim (cases_lt (length (entry_of s.chain x)) (length (entry_of s.chain y))) [
      | inl low ↦ sym (same_entry s file at x y one other (omega (arith, low)) first second)
      | inr over ↦ same_entry s file at y x other one over second first
    ]

abbrev pub Held : (ℕ → List ℕ) → ℕ → ℕ → List ℕ → Type 0
Held file n at entry = Holds (file n) at entry

pub one_list : (file : ℕ → List ℕ) (s : Seal) (xs ys : List (List ℕ)) → All IsOneLine xs → All IsOneLine ys
    → AreFiled (Held file) s xs → AreFiled (Held file) s ys → length xs ≤ length ys → xs ≡ take (length xs) ys
one_list file s [] ys one other first second low = refl
one_list file s (x ∷ xs) [] one other first second low = absurd (omega (arith, low))
one_list file s (x ∷ xs) (y ∷ ys) one other first second low =
    let line : x ≡ y =
    one_entry s (file (next_seal s x).number) (next_offset s) x y (All-head IsOneLine x xs one) (All-head IsOneLine y ys other) first.0 second.0 in
    let later : AreFiled (Held file) (next_seal s x) ys = subst (λ z. AreFiled (Held file) (next_seal s z) ys) (sym line) second.1 in
    let rest : xs ≡ take (length xs) ys =
    one_list file (next_seal s x) xs ys (All-tail IsOneLine x xs one) (All-tail IsOneLine y ys other) first.1 later (omega (arith, low)) in
    cons_same x y xs (take (length xs) ys) line rest

-- ---- one file among them

pub holds_left : (file : List ℕ) (from : ℕ) (xs ys : List ℕ) → Holds file from (xs ++ ys) → Holds file from xs
holds_left file from xs ys both =
    let size = length-append xs ys in
    record {
      within = omega (arith, both.within, size);
      each = λ i low. both.each i (omega (arith, low, size)) ∙ get_or_append_left xs ys 0 i low;
    }

closed_at : (seen : List ℕ) (next last : Seal) (xs : List (List ℕ)) → Spans next xs last → (full ≤ last.offset → length seen ≡ last.offset)
    → full ≤ next.offset → length seen ≡ next.offset
closed_at seen next last [] spans ends over =
    let same : last.offset ≡ next.offset = ap (λ (s : Seal). s.offset) spans.after in
    ends (omega (arith, same, over)) ∙ same
closed_at seen next last (y ∷ ys) spans ends over = let low = room next last y ys spans in absurd (omega (arith, low, over))

-- the lines of one file are filed in it
pub file_filed : (Has : ℕ → ℕ → List ℕ → Type 0) (seen : List ℕ) (s last : Seal) (xs : List (List ℕ))
    → Spans s xs last → Holds seen s.offset (bytes_of s.chain xs) → (full ≤ last.offset → length seen ≡ last.offset)
    → ((at : ℕ) (entry : List ℕ) → HasEntryAt seen at entry → Has s.number at entry) → AreFiled Has s xs
file_filed Has seen s last [] spans holds ends give = tt
file_filed Has seen s last (x ∷ xs) spans holds ends give =
    let next = next_seal s x in
    let entry = entry_of s.chain x in
    let same : (seal_after s (x ∷ xs)).number ≡ s.number = sym (ap (λ (a : Seal). a.number) spans.after) ∙ spans.one_file in
    let step = in_step s x xs same in
    let place : next_offset s ≡ s.offset = same_offset s (room s last x xs spans) in
    let later : Spans next xs last = record { after = spans.after; one_file = spans.one_file ∙ sym step.0 } in
    let first : HasEntryAt seen (next_offset s) entry =
    record {
      bytes = subst (λ n. Holds seen n entry) (sym place) (holds_left seen s.offset entry (bytes_of next.chain xs) holds);
      closed = λ over. closed_at seen next last xs later ends over;
    } in (
      subst (λ n. Has n (next_offset s) entry) (sym step.0) (give (next_offset s) entry first),
      file_filed Has seen next last xs later
          (subst (λ n. Holds seen n (bytes_of next.chain xs)) (sym step.1) (holds_right seen s.offset entry (bytes_of next.chain xs) holds))
          ends (λ at e has. subst (λ n. Has n at e) (sym step.0) (give at e has)),
    )

-- the first of some lines, as many as are in one file
pub record FirstPart (files : List (List ℕ)) (s last : Seal) (lines : List (List ℕ)) : Type 0 where
  pub count : ℕ
  pub mid : Seal
  pub some : 0 < count
  pub within : count ≤ length lines
  pub has : HasLines (slice_index_or files s.number []) s (take count lines) mid
  pub ends : (mid ≡ last) ⊎ ((full ≤ mid.offset) × (length (slice_index_or files s.number []) ≡ mid.offset) × (s.number < last.number))

module _ (files : List (List ℕ)) (s : Seal) (x : List ℕ) (low : s.offset < full) where
  abbrev next : Seal
  next = next_seal s x

  number : next.number ≡ s.number
  number = same_number s x low

  first_line : (xs : List (List ℕ)) → AreFiled (InFiles files) s (x ∷ xs) → HasLines (slice_index_or files s.number []) s (x ∷ []) next
  first_line xs filed =
      let here = subst (λ n. Holds (slice_index_or files n []) (next_offset s) (entry_of s.chain x)) number filed.0.bytes in
      let there = subst (λ n. Holds (slice_index_or files s.number []) n (entry_of s.chain x)) (same_offset s low) here in
      record {
        spans = record { after = refl; one_file = number };
        bytes = subst (λ t. Holds (slice_index_or files s.number []) s.offset t) (sym (append-nil (entry_of s.chain x))) there;
      }

pub first_part : (files : List (List ℕ)) (s last : Seal) (x : List ℕ) (xs : List (List ℕ)) → s.offset < full → last ≡ seal_after s (x ∷ xs)
    → AreFiled (InFiles files) s (x ∷ xs) → FirstPart files s last (x ∷ xs)
first_part files s last x [] low after filed =
    record { count = 1; mid = next_seal s x; some = omega arith; within = omega arith; has = first_line files s x low [] filed; ends = inl (sym after) }
first_part files s last x (y ∷ ys) low after filed =
    let next = next_seal s x in
    let number : next.number ≡ s.number = same_number s x low in
    elim (cases_lt next.offset full) [
      | inl room ↦
          let p = first_part files next last y ys room after filed.1 in
          let there : HasLines (slice_index_or files s.number []) next (take p.count (y ∷ ys)) p.mid =
          subst (λ n. HasLines (slice_index_or files n []) next (take p.count (y ∷ ys)) p.mid) number p.has in
          record {
            count = suc p.count;
            mid = p.mid;
            some = omega arith;
            within = (let w = p.within in omega (arith, w));
            has = lines_more (slice_index_or files s.number []) s next p.mid (x ∷ []) (take p.count (y ∷ ys)) (first_line files s x low (y ∷ ys) filed) there;
            ends = elim (p.ends) [
              | inl is ↦ inl is
              | inr full_there ↦ inr (
                full_there.0,
                subst (λ n. length (slice_index_or files n []) ≡ p.mid.offset) number full_there.1,
                (let less = full_there.2 in omega (arith, less, number)),
              )
            ];
          }
      | inr over ↦
          let more = more_number next y over in
          let up = number_rises (next_seal next y) ys in
          let last_number : last.number ≡ (seal_after (next_seal next y) ys).number = ap (λ (a : Seal). a.number) after in
          record {
            count = 1;
            mid = next;
            some = omega arith;
            within = omega arith;
            has = first_line files s x low (y ∷ ys) filed;
            ends = inr (
              over,
              subst (λ n. length (slice_index_or files n []) ≡ next.offset) number (filed.0.closed over),
              omega (arith, number, more, up, last_number),
            );
          }
    ]

-- ---- what disks show, and what a crash leaves of them

module _ {D : Type 0} (g : Ghosts D) where
  pub shown_filed : (disks : List D) (s : Seal) (xs : List (List ℕ)) → (d : D) → AreFiled (InDisks g disks) s xs
      → AreFiled (λ n at entry. (n < length disks) × HasEntryAt (g.seen (slice_index_or disks n d)) at entry) s xs
  shown_filed disks s xs d filed =
      filed_map (InDisks g disks) (λ n at entry. (n < length disks) × HasEntryAt (g.seen (slice_index_or disks n d)) at entry) s xs
      (λ n at entry has. (has.0, (has.1 d).now)) filed

  pub left_filed : (disks : List D) (left : List (List ℕ)) → MayLeave g disks left → (s : Seal) (xs : List (List ℕ))
      → AreFiled (InDisks g disks) s xs → (d : D) → AreFiled (InFiles left) s xs
  left_filed disks left may s xs filed d =
      filed_map (InDisks g disks) (InFiles left) s xs
      (λ n at entry has. (has.1 d).after_crash (slice_index_or left n []) (may.each n d [] has.0)) filed

-- ---- laws

pub files_go_on : FilesGoOn
files_go_on files first second third lines more one other =
    record {
      after = other.after ∙ ap (λ s. seal_after s more) one.after ∙ sym (after_more first lines more);
      filed = filed_more (InFiles files) first lines more one.filed (subst (λ s. AreFiled (InFiles files) s more) one.after other.filed);
    }

pub held_filed : (files : List (List ℕ)) (s : Seal) (xs : List (List ℕ)) → AreFiled (InFiles files) s xs → AreFiled (Held (λ n. slice_index_or files n [])) s xs
held_filed files s xs filed =
    filed_map (InFiles files) (Held (λ n. slice_index_or files n [])) s xs (λ n at entry has. has.bytes) filed

pub files_have_one : FilesHaveOneList
files_have_one files start a b lines others are theirs first second count =
    let n : a.count ≡ start.count + length lines = ap (λ (s : Seal). s.count) first.after ∙ count_after start lines in
    let m : b.count ≡ start.count + length others = ap (λ (s : Seal). s.count) second.after ∙ count_after start others in
    one_list (λ k. slice_index_or files k []) start lines others are theirs (held_filed files start lines first.filed) (held_filed files start others second.filed)
    (omega (arith, n, m, count))
    ∙ take_all (length lines) others (omega (arith, n, m, count))

pub file_is_one : FileIsOneOfThem
file_is_one files start last lines has ends =
    record {
      after = has.spans.after;
      filed = file_filed (InFiles files) (slice_index_or files start.number []) start last lines has.spans has.bytes (λ over. ends) (λ at entry there. there);
    }

pub crash_leaves : {D : Type 0} (g : Ghosts D) → CrashLeavesLines g
crash_leaves g [] left start last lines keeps may =
    record {
      after = keeps.after;
      filed = filed_map (InDisks g []) (InFiles left) start lines (λ n at entry has. absurd (let e = has.0 in omega (arith, e))) keeps.filed;
    }
crash_leaves g (d ∷ ds) left start last lines keeps may =
    record { after = keeps.after; filed = left_filed g (d ∷ ds) left may start lines keeps.filed d }

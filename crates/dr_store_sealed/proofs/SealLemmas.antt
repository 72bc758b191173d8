-- Seals after more lines, and the bytes of the lines between two seals.
use Rattle.std.proofs.Common.{◌≡◌, ℕ, ◌+◌, ◌-◌, ◌<◌, ◌≤◌, nat_le, Bool, true, false, if◌then◌else◌}
use Rattle.std.proofs.Common.{List, [], ◌∷◌, ◌++◌, length, take, All, refl, sym, ◌∙◌, ap, arith}
use Rattle.std.proofs.Common.{inl, inr}
use Rattle.std.proofs.lemmas.Bool.{cases_lt, lt-leb}
use Rattle.std.proofs.lemmas.List.{append_assoc, append-nil, length-append}
use Rattle.std.proofs.lemmas.List.Elements.{All-push}
use Rattle.dr_store_sealed.specs.declared.seal.Seal.{Seal}
use Rattle.dr_store_sealed.specs.Lines.{bytes_of, entry_of, IsOneLine, mark_of, next_chain}
use Rattle.dr_store_sealed.specs.Seals.{first_seal, full, lines_between, next_seal, seal_after, TakesLines}
use Rattle.dr_store_sealed.specs.Files.{Spans}

pub after_more : (s : Seal) (xs ys : List (List ℕ)) → seal_after s (xs ++ ys) ≡ seal_after (seal_after s xs) ys
after_more s [] ys = refl
after_more s (x ∷ xs) ys = after_more (next_seal s x) xs ys

pub bytes_more : (s : Seal) (xs ys : List (List ℕ)) → bytes_of s.chain (xs ++ ys) ≡ bytes_of s.chain xs ++ bytes_of (seal_after s xs).chain ys
bytes_more s [] ys = refl
bytes_more s (x ∷ xs) ys =
    ap (λ t. entry_of s.chain x ++ t) (bytes_more (next_seal s x) xs ys)
    ∙ sym (append_assoc (entry_of s.chain x) (bytes_of (next_chain s.chain x) xs) (bytes_of (seal_after (next_seal s x) xs).chain ys))

pub count_after : (s : Seal) (xs : List (List ℕ)) → (seal_after s xs).count ≡ s.count + length xs
count_after s [] = omega arith
count_after s (x ∷ xs) = omega (arith, count_after (next_seal s x) xs)

rises : (b : Bool) (n : ℕ) → n ≤ (if b then n + 1 else n)
rises true n = omega arith
rises false n = omega arith

pub number_rises : (s : Seal) (xs : List (List ℕ)) → s.number ≤ (seal_after s xs).number
number_rises s [] = omega arith
number_rises s (x ∷ xs) = omega (arith, rises (nat_le full s.offset) s.number, number_rises (next_seal s x) xs)

stays : (b : Bool) (n offset size last : ℕ) → (if b then n + 1 else n) ≤ last → last ≡ n → (if b then 0 else offset) + size ≡ offset + size
stays true n offset size last low same = absurd (omega (arith, low, same))
stays false n offset size last low same = refl

-- one line on in the same file
pub in_step : (s : Seal) (x : List ℕ) (xs : List (List ℕ)) → (seal_after s (x ∷ xs)).number ≡ s.number
    → ((next_seal s x).number ≡ s.number) × ((next_seal s x).offset ≡ s.offset + length (entry_of s.chain x))
in_step s x xs same =
    let next = next_seal s x in
    let up = number_rises next xs in
    let low = rises (nat_le full s.offset) s.number in (
      (let e : next.number ≡ s.number = omega (arith, same, up, low) in e),
      stays (nat_le full s.offset) s.number s.offset (length (entry_of s.chain x)) (seal_after next xs).number up same,
    )

-- in one file the bytes are as many as lie between the two places
pub offset_after : (s : Seal) (xs : List (List ℕ)) → (seal_after s xs).number ≡ s.number → (seal_after s xs).offset ≡ s.offset + length (bytes_of s.chain xs)
offset_after s [] same = omega arith
offset_after s (x ∷ xs) same =
    let step = in_step s x xs same in
    let next = next_seal s x in
    let later : (seal_after next xs).offset ≡ next.offset + length (bytes_of next.chain xs) = offset_after next xs (same ∙ sym step.0) in
    let all = length-append (entry_of s.chain x) (bytes_of next.chain xs) in
    omega (arith, step.1, later, all)

pub reaches : (a b : Seal) (xs : List (List ℕ)) → Spans a xs b → a.offset + length (bytes_of a.chain xs) ≡ b.offset
reaches a b xs spans =
    let same : (seal_after a xs).number ≡ a.number = sym (ap (λ (s : Seal). s.number) spans.after) ∙ spans.one_file in
    sym (offset_after a xs same) ∙ sym (ap (λ (s : Seal). s.offset) spans.after)

pub spans_more : (a b c : Seal) (xs ys : List (List ℕ)) → Spans a xs b → Spans b ys c → Spans a (xs ++ ys) c
spans_more a b c xs ys first later =
    record {
      after = later.after ∙ ap (λ s. seal_after s ys) first.after ∙ sym (after_more a xs ys);
      one_file = later.one_file ∙ first.one_file;
    }

module _ (s last : Seal) (lines : List (List ℕ)) (i : ℕ) (count : last.count ≡ s.count + i) where
  pub between : lines_between s last lines ≡ take i lines
  between = ap (λ n. take n lines) (let e : last.count - s.count ≡ i = omega arith in e)

  pub takes_at :
      last ≡ seal_after s (take i lines) → last.number ≡ s.number
      → (i < length lines → full ≤ last.offset) → TakesLines s lines last
  takes_at after one stops =
      record {
        after = after ∙ ap (seal_after s) (sym between);
        one_file = one;
        full = λ low. stops (omega (arith, low));
      }

same_file : (b : Bool) (n : ℕ) → b ≡ false → (if b then n + 1 else n) ≡ n
same_file b n off = ap (λ (c : Bool). if c then n + 1 else n) off

-- one more line in the same file
pub entry_pushed :
    (s last new : Seal) (done : List (List ℕ)) (i : ℕ) (line bytes more : List ℕ)
    → last ≡ seal_after s done → last.number ≡ s.number → last.count ≡ s.count + i → bytes ≡ bytes_of s.chain done → All IsOneLine done
    → last.offset < full → new ≡ next_seal last line → more ≡ bytes ++ entry_of last.chain line → IsOneLine line
    → (new ≡ seal_after s (done ++ line ∷ [])) × (new.number ≡ s.number) × (new.count ≡ s.count + (i + 1))
    × (more ≡ bytes_of s.chain (done ++ line ∷ [])) × All IsOneLine (done ++ line ∷ [])
entry_pushed s last new done i line bytes more at one count has lines room next pushed is =
    let is_last : next_seal last line ≡ seal_after s (done ++ line ∷ []) =
    ap (λ (a : Seal). next_seal a line) at ∙ sym (after_more s done (line ∷ [])) in
    let room' : nat_le full last.offset ≡ false = lt-leb full last.offset room in
    let number : (next_seal last line).number ≡ last.number = same_file (nat_le full last.offset) last.number room' in
    let added : bytes_of s.chain done ++ entry_of last.chain line ≡ bytes_of s.chain (done ++ line ∷ []) =
    ap (λ (a : Seal). bytes_of s.chain done ++ entry_of a.chain line) at
    ∙ ap (λ t. bytes_of s.chain done ++ t) (sym (append-nil (entry_of (seal_after s done).chain line)))
    ∙ sym (bytes_more s done (line ∷ [])) in (
      next ∙ is_last,
      ap (λ (a : Seal). a.number) next ∙ number ∙ one,
      (let e : new.count ≡ last.count + 1 = ap (λ (a : Seal). a.count) next in omega (arith, e, count)),
      pushed ∙ ap (λ t. t ++ entry_of last.chain line) has ∙ added,
      All-push IsOneLine done line lines is,
    )

-- where bytes end that were made for a file
pub placed :
    (s last : Seal) (done : List (List ℕ)) (bytes : List ℕ)
    → last ≡ seal_after s done → last.number ≡ s.number → bytes ≡ bytes_of s.chain done
    → last.offset ≡ s.offset + length bytes
placed s last done bytes at one has =
    let same : (seal_after s done).number ≡ s.number = sym (ap (λ (a : Seal). a.number) at) ∙ one in
    ap (λ (a : Seal). a.offset) at ∙ offset_after s done same ∙ ap (λ t. s.offset + length t) (sym has)

-- one more line of a piece
pub line_pushed :
    (from last next : Seal) (done : List (List ℕ)) (line piece rest entry later : List ℕ)
    → piece ≡ bytes_of from.chain done ++ rest → Spans from done last → All IsOneLine done
    → rest ≡ entry ++ later → entry ≡ entry_of last.chain line → next ≡ next_seal last line → next.number ≡ last.number → IsOneLine line
    → (piece ≡ bytes_of from.chain (done ++ line ∷ []) ++ later) × Spans from (done ++ line ∷ []) next × All IsOneLine (done ++ line ∷ [])
line_pushed from last next done line piece rest entry later whole spans lines parts is after one is_line =
    let chain : (seal_after from done).chain ≡ last.chain = sym (ap (λ (s : Seal). s.chain) spans.after) in
    let more : bytes_of from.chain (done ++ line ∷ []) ≡ bytes_of from.chain done ++ entry =
    bytes_more from done (line ∷ [])
    ∙ ap (λ t. bytes_of from.chain done ++ t) (append-nil (entry_of (seal_after from done).chain line) ∙ ap (λ t. entry_of t line) chain ∙ sym is) in (
      whole ∙ ap (λ t. bytes_of from.chain done ++ t) parts
          ∙ sym (append_assoc (bytes_of from.chain done) entry later)
          ∙ ap (λ t. t ++ later) (sym more),
      spans_more from last next done (line ∷ []) spans (record { after = after; one_file = one }),
      All-push IsOneLine done line lines is_line,
    )

pub grows : (a b : Seal) (xs : List (List ℕ)) → Spans a xs b → 0 < length xs → a.offset < b.offset
grows a b [] spans some = absurd (omega (arith, some))
grows a b (x ∷ xs) spans some =
    let place = reaches a b (x ∷ xs) spans in
    let all = length-append (entry_of a.chain x) (bytes_of (next_chain a.chain x) xs) in
    let one = length-append x (mark_of (next_chain a.chain x)) in
    omega (arith, place, all, one)

kept : (b : Bool) (offset : ℕ) → b ≡ false → (if b then 0 else offset) ≡ offset
kept b offset off = ap (λ (c : Bool). if c then 0 else offset) off

-- two lines in the first file
pub offset_in_first : (x y : List ℕ) → length (entry_of first_seal.chain x) < full
    → length (entry_of first_seal.chain x) + length (entry_of (next_chain first_seal.chain x) y) ≡ 135 → (seal_after first_seal (x ∷ y ∷ [])).offset ≡ 135
offset_in_first x y small size =
    let next = next_seal first_seal x in
    let one = length (entry_of first_seal.chain x) in
    let place : next.offset ≡ one = omega arith in
    let room : nat_le full next.offset ≡ false = lt-leb full next.offset (omega (arith, small)) in
    ap (λ n. n + length (entry_of (next_chain first_seal.chain x) y)) (kept (nat_le full next.offset) next.offset room ∙ place) ∙ size

-- a file that isn't full takes a line, if there is one
pub takes_some : (s last : Seal) (lines : List (List ℕ)) → TakesLines s lines last → s.offset < full → 0 < length lines → s.count < last.count
takes_some s last lines takes room some =
    elim (cases_lt s.count last.count) [
      | inl more ↦ more
      | inr none ↦
          let n : last.count - s.count ≡ 0 = omega (arith, none) in
          let same : last ≡ s = takes.after ∙ ap (λ k. seal_after s (take k lines)) n in
          let place : last.offset ≡ s.offset = ap (λ (a : Seal). a.offset) same in
          absurd (omega (arith, room, place, takes.full (omega (arith, none, some))))
    ]

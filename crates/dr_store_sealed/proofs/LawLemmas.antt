-- Lines and bytes, and lines and their last chain.
use Rattle.std.proofs.Common.{◌≡◌, ◌≢◌, ℕ, ◌+◌, ◌/◌, ◌%◌, ◌≤◌, nat_le, Bool, true, if◌then◌else◌}
use Rattle.std.proofs.Common.{List, [], ◌∷◌, ◌++◌, length, drop, All, slice_index, slice_index_or}
use Rattle.std.proofs.Common.{refl, sym, ◌∙◌, ap, subst, inl, inr, arith}
use Rattle.std.proofs.lemmas.Bool.{cases_lt, le-leb}
use Rattle.std.proofs.lemmas.List.{append_assoc, append-nil, length-append, get_or_past}
use Rattle.std.proofs.lemmas.List.Elements.{All-append, All-cons, All-from_recursion, All-head, All-nil, All-tail}
use Rattle.hex.specs.Hex.{encode_lower, encode_with, lower_digits}
use Rattle.hex.proofs.HexLemmas.{length-encode_with}
use Rattle.sha2.specs.Sha256.{sha256}
use Rattle.sha2.proofs.Facts256.{length-sha256}
use Rattle.sqlite_disk.specs.Disk.{Holds}
use Rattle.dr_store_sealed.specs.declared.seal.Seal.{Seal}
use Rattle.dr_store_sealed.specs.Files.{EndsAs, HasLines}
use Rattle.dr_store_sealed.specs.Laws.{AreOfOneText}
use Rattle.dr_store_sealed.specs.Lines.{IsOneLine, bytes_of, entry_of, mark_of, next_chain}
use Rattle.dr_store_sealed.specs.Seals.{first_seal, full, next_seal, seal_after, turned}
use Rattle.dr_store_sealed.proofs.FileLemmas.{holds_both, holds_none, holds_right}
use Rattle.dr_store_sealed.proofs.SealLemmas.{bytes_more, count_after, in_step, reaches, spans_more}

abbrev pub IsPlain : ℕ → Type 0
IsPlain byte = byte ≢ 10

pub head_same : (x y : ℕ) (xs ys : List ℕ) → x ∷ xs ≡ y ∷ ys → x ≡ y
head_same x y xs ys same = ap (λ (l : List ℕ). slice_index_or l 0 0) same

tail_same : (x y : ℕ) (xs ys : List ℕ) → x ∷ xs ≡ y ∷ ys → xs ≡ ys
tail_same x y xs ys same = ap (λ (l : List ℕ). drop 1 l) same

pub cons_same : {X : Type 0} (x y : X) (xs ys : List X) → x ≡ y → xs ≡ ys → x ∷ xs ≡ y ∷ ys
cons_same x y xs ys first rest = ap (λ z. z ∷ xs) first ∙ ap (λ zs. y ∷ zs) rest

-- texts with parts of one length in front
pub same_front : (xs ys r q : List ℕ) → length xs ≡ length ys → xs ++ r ≡ ys ++ q → (xs ≡ ys) × (r ≡ q)
same_front [] [] r q size same = (refl, same)
same_front [] (y ∷ ys) r q size same = absurd (omega (arith, size))
same_front (x ∷ xs) [] r q size same = absurd (omega (arith, size))
same_front (x ∷ xs) (y ∷ ys) r q size same =
    let rest = same_front xs ys r q (omega (arith, size)) (tail_same x y (xs ++ r) (ys ++ q) same) in
    (cons_same x y xs ys (head_same x y (xs ++ r) (ys ++ q) same) rest.0, rest.1)

-- texts up to the first end of a line
pub same_line : (xs ys r q : List ℕ) → All IsPlain xs → All IsPlain ys → xs ++ 10 ∷ r ≡ ys ++ 10 ∷ q → (xs ≡ ys) × (r ≡ q)
same_line [] [] r q first other same = (refl, tail_same 10 10 r q same)
same_line [] (y ∷ ys) r q first other same = absurd (All-head IsPlain y ys other (sym (head_same 10 y r (ys ++ 10 ∷ q) same)))
same_line (x ∷ xs) [] r q first other same = absurd (All-head IsPlain x xs first (head_same x 10 (xs ++ 10 ∷ r) q same))
same_line (x ∷ xs) (y ∷ ys) r q first other same =
    let rest = same_line xs ys r q (All-tail IsPlain x xs first) (All-tail IsPlain y ys other) (tail_same x y (xs ++ 10 ∷ r) (ys ++ 10 ∷ q) same) in
    (cons_same x y xs ys (head_same x y (xs ++ 10 ∷ r) (ys ++ 10 ∷ q) same) rest.0, rest.1)

plain_digits : All IsPlain lower_digits
plain_digits = All-from_recursion IsPlain lower_digits (omega arith)

plain_digit : (k : ℕ) → IsPlain (slice_index lower_digits k)
plain_digit k =
    elim (cases_lt k (length lower_digits)) [
      | inl low ↦ plain_digits k 0 low
      | inr over ↦ λ is. (let past = get_or_past lower_digits k 0 over in absurd (omega (arith, is, past)))
    ]

pub plain_hex : (bytes : List ℕ) → All IsPlain (encode_lower bytes)
unfolding encode_with
plain_hex [] = All-nil IsPlain
plain_hex (b ∷ rest) =
    All-cons IsPlain (slice_index lower_digits (b / 16)) (slice_index lower_digits (b % 16) ∷ encode_lower rest) (plain_digit (b / 16))
    (All-cons IsPlain (slice_index lower_digits (b % 16)) (encode_lower rest) (plain_digit (b % 16)) (plain_hex rest))

-- a line and what is behind it but for its end
abbrev pub body_of : List ℕ → List ℕ → List ℕ
body_of chain line = line ++ 32 ∷ encode_lower chain

pub plain_body : (chain line : List ℕ) → IsOneLine line → All IsPlain (body_of chain line)
plain_body chain line is =
    All-append IsPlain line (32 ∷ encode_lower chain) is.one (All-cons IsPlain 32 (encode_lower chain) (omega arith) (plain_hex chain))

-- where the end of an entry is
pub entry_ends : (chain line rest : List ℕ) → line ++ mark_of chain ++ rest ≡ body_of chain line ++ 10 ∷ rest
entry_ends chain line rest =
    append_assoc line (mark_of chain) rest
    ∙ ap (λ t. line ++ t) (append_assoc (32 ∷ encode_lower chain) (10 ∷ []) rest)
    ∙ sym (append_assoc line (32 ∷ encode_lower chain) (10 ∷ rest))

pub hex_size : (text : List ℕ) → length (encode_lower (sha256 text)) ≡ 64
hex_size text = omega (arith, length-encode_with lower_digits (sha256 text), length-sha256 text)

-- lines with one body are one
pub same_body : (a b line other : List ℕ) → body_of (sha256 a) line ≡ body_of (sha256 b) other → line ≡ other
same_body a b line other same =
    let size : length line ≡ length other =
    omega (
      arith,
      (let e : length (body_of (sha256 a) line) ≡ length (body_of (sha256 b) other) = ap (λ (t : List ℕ). length t) same in e),
      length-append line (32 ∷ encode_lower (sha256 a)),
      length-append other (32 ∷ encode_lower (sha256 b)),
      hex_size a,
      hex_size b,
    ) in
    (same_front line other (32 ∷ encode_lower (sha256 a)) (32 ∷ encode_lower (sha256 b)) size same).0

pub never_empty : (chain line rest : List ℕ) → [] ≡ entry_of chain line ++ rest → ⊥
never_empty chain line rest same =
    let all = length-append (entry_of chain line) rest in
    let mark = length-append line (mark_of (next_chain chain line)) in
    omega (arith, all, mark, (let e : 0 ≡ length (entry_of chain line ++ rest) = ap (λ (t : List ℕ). length t) same in e))

pub one_list : (chain : List ℕ) (lines others : List (List ℕ)) → All IsOneLine lines → All IsOneLine others → bytes_of chain lines ≡ bytes_of chain others → lines ≡ others
one_list chain [] [] are are' same = refl
one_list chain [] (y ∷ ys) are are' same = absurd (never_empty chain y (bytes_of (next_chain chain y) ys) same)
one_list chain (x ∷ xs) [] are are' same = absurd (never_empty chain x (bytes_of (next_chain chain x) xs) (sym same))
one_list chain (x ∷ xs) (y ∷ ys) are are' same =
    let cx = next_chain chain x in
    let cy = next_chain chain y in
    let parts = same_line (body_of cx x) (body_of cy y) (bytes_of cx xs) (bytes_of cy ys)
    (plain_body cx x (All-head IsOneLine x xs are)) (plain_body cy y (All-head IsOneLine y ys are'))
    (sym (entry_ends cx x (bytes_of cx xs)) ∙ same ∙ entry_ends cy y (bytes_of cy ys)) in
    let line : x ≡ y = same_body (chain ++ x) (chain ++ y) x y parts.0 in
    let rest : bytes_of cx xs ≡ bytes_of cx ys = parts.1 ∙ ap (λ t. bytes_of (next_chain chain t) ys) (sym line) in
    cons_same x y xs ys line (one_list cx xs ys (All-tail IsOneLine x xs are) (All-tail IsOneLine y ys are') rest)

-- lines that lead from chains of one length to one chain
pub one_past :
    (content : List ℕ → List ℕ) (s t : Seal) (xs ys : List (List ℕ))
    → length s.chain ≡ length t.chain → AreOfOneText content s.chain xs → AreOfOneText content t.chain ys
    → length xs ≡ length ys → (seal_after s xs).chain ≡ (seal_after t ys).chain
    → (s.chain ≡ t.chain) × (xs ≡ ys)
one_past content s t [] [] size known known' count same = (same, refl)
one_past content s t [] (y ∷ ys) size known known' count same = absurd (omega (arith, count))
one_past content s t (x ∷ xs) [] size known known' count same = absurd (omega (arith, count))
one_past content s t (x ∷ xs) (y ∷ ys) size known known' count same =
    let sizes : length (next_chain s.chain x) ≡ length (next_chain t.chain y) = length-sha256 (s.chain ++ x) ∙ sym (length-sha256 (t.chain ++ y)) in
    let later = one_past content (next_seal s x) (next_seal t y) xs ys sizes known.1 known'.1 (omega (arith, count)) same in
    let texts : s.chain ++ x ≡ t.chain ++ y = sym known.0 ∙ ap content later.0 ∙ known'.0 in
    let parts = same_front s.chain t.chain x y size texts in
    (parts.0, cons_same x y xs ys parts.1 later.1)

pub one_sealed : (content : List ℕ → List ℕ) (lines others : List (List ℕ)) (seal : Seal)
    → AreOfOneText content first_seal.chain lines → AreOfOneText content first_seal.chain others
    → seal ≡ seal_after first_seal lines → seal ≡ seal_after first_seal others → lines ≡ others
one_sealed content lines others seal known known' is is' =
    let same : seal_after first_seal lines ≡ seal_after first_seal others = sym is ∙ is' in
    let count : length lines ≡ length others =
    omega (
      arith,
      count_after first_seal lines,
      count_after first_seal others,
      (let e : (seal_after first_seal lines).count ≡ (seal_after first_seal others).count = ap (λ (s : Seal). s.count) same in e),
    ) in
    (one_past content first_seal first_seal lines others refl known known' count (ap (λ (s : Seal). s.chain) same)).1

pub lines_more : (seen : List ℕ) (a b c : Seal) (xs ys : List (List ℕ)) → HasLines seen a xs b → HasLines seen b ys c → HasLines seen a (xs ++ ys) c
lines_more seen a b c xs ys first later =
    let place : a.offset + length (bytes_of a.chain xs) ≡ b.offset = reaches a b xs first.spans in
    let chain : b.chain ≡ (seal_after a xs).chain = ap (λ (s : Seal). s.chain) first.spans.after in
    record {
      spans = spans_more a b c xs ys first.spans later.spans;
      bytes =
          subst (λ t. Holds seen a.offset t) (sym (bytes_more a xs ys))
          (holds_both seen a.offset (bytes_of a.chain xs) (bytes_of (seal_after a xs).chain ys) first.bytes
          (subst (λ n. Holds seen n (bytes_of (seal_after a xs).chain ys)) (sym place)
          (subst (λ t. Holds seen b.offset (bytes_of t ys)) chain later.bytes)));
    }

pub turns : (b : Bool) (n offset : ℕ) → b ≡ true → ((if b then n + 1 else n) ≡ n + 1) × ((if b then 0 else offset) ≡ 0)
turns b n offset on = (ap (λ (c : Bool). if c then n + 1 else n) on, ap (λ (c : Bool). if c then 0 else offset) on)

pub next_file : (seal : Seal) (line : List ℕ) → full ≤ seal.offset → next_seal seal line ≡ next_seal (turned seal) line
next_file seal line over =
    let both = turns (nat_le full seal.offset) seal.number seal.offset (le-leb full seal.offset over) in
    let make = λ (n p : ℕ). (let s : Seal = record { count = seal.count + 1; chain = next_chain seal.chain line; number = n; offset = p + length (entry_of seal.chain line) } in s) in
    ap (λ n. make n (if nat_le full seal.offset then 0 else seal.offset)) both.0 ∙ ap (λ p. make (seal.number + 1) p) both.1

-- a file has the lines behind the first, too
rest_of : (seen : List ℕ) (s last : Seal) (x : List ℕ) (xs : List (List ℕ)) → HasLines seen s (x ∷ xs) last → HasLines seen (next_seal s x) xs last
rest_of seen s last x xs has =
    let same : (seal_after s (x ∷ xs)).number ≡ s.number = sym (ap (λ (a : Seal). a.number) has.spans.after) ∙ has.spans.one_file in
    let step = in_step s x xs same in
    record {
      spans = record { after = has.spans.after; one_file = has.spans.one_file ∙ sym step.0 };
      bytes =
          subst (λ n. Holds seen n (bytes_of (next_chain s.chain x) xs)) (sym step.1)
          (holds_right seen s.offset (entry_of s.chain x) (bytes_of (next_chain s.chain x) xs) has.bytes);
    }

-- the last of some lines ends with the seal's mark
last_mark : (seen : List ℕ) (s last : Seal) (x : List ℕ) (xs : List (List ℕ))
    → HasLines seen s (x ∷ xs) last → (at : ℕ) × (at + length (mark_of last.chain) ≡ last.offset) × Holds seen at (mark_of last.chain)
last_mark seen s last x [] has =
    let mark = mark_of (next_chain s.chain x) in
    let chain : last.chain ≡ next_chain s.chain x = ap (λ (a : Seal). a.chain) has.spans.after in
    let place = reaches s last (x ∷ []) has.spans in
    let whole : bytes_of s.chain (x ∷ []) ≡ x ++ mark = append-nil (entry_of s.chain x) in
    let size = length-append x mark in
    let holds : Holds seen (s.offset + length x) mark = holds_right seen s.offset x mark (subst (λ t. Holds seen s.offset t) whole has.bytes) in
    let P : List ℕ → Type 0 = λ c. (at : ℕ) × (at + length (mark_of c) ≡ last.offset) × Holds seen at (mark_of c) in
    subst P (sym chain) (
      s.offset + length x,
      (let e : s.offset + length x + length mark ≡ last.offset = omega (arith, place, size, (let w : length (bytes_of s.chain (x ∷ [])) ≡ length (x ++ mark) = ap (λ (t : List ℕ). length t) whole in w)) in e),
      holds,
    )
last_mark seen s last x (y ∷ ys) has = last_mark seen (next_seal s x) last y ys (rest_of seen s last x (y ∷ ys) has)

pub ends_in_seal : (seen : List ℕ) (start last : Seal) (lines : List (List ℕ)) → start.offset ≡ 0 → HasLines seen start lines last → EndsAs seen last
ends_in_seal seen start last [] begins has some = absurd (omega (arith, begins, some, (let e : last.offset ≡ start.offset = ap (λ (s : Seal). s.offset) has.spans.after in e)))
ends_in_seal seen start last (x ∷ xs) begins has some = last_mark seen start last x xs has

pub entry_size : (chain line : List ℕ) → length (entry_of chain line) ≡ length line + 66
entry_size chain line =
    let text = chain ++ line in
    omega (
      arith,
      length-append line (mark_of (sha256 text)),
      length-append (32 ∷ encode_lower (sha256 text)) (10 ∷ []),
      hex_size text,
    )

pub no_lines : (seen : List ℕ) (start : Seal) → start.offset ≡ 0 → HasLines seen start [] start
no_lines seen start begins =
    record {
      spans = record { after = refl; one_file = refl };
      bytes = holds_none seen start.offset (omega (arith, begins));
    }

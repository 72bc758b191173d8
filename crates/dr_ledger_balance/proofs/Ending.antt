-- The line of a SHA-256 at the end of a text.
use Rattle.std.proofs.Common.{◌≡◌, ◌∙◌, ◌-◌, ◌<◌, ◌≤◌, ℕ, List, [], ◌∷◌, ◌++◌, sym, ap, arith, append_assoc, drop, length, codes}
use Rattle.std.proofs.lemmas.List.{length-append}
use Rattle.hex.specs.Hex.{encode_lower, lower_digits}
use Rattle.hex.proofs.HexLemmas.{length-encode_with}
use Rattle.sha2.specs.Sha256.{sha256}
use Rattle.sha2.proofs.Facts256.{length-sha256}
use Rattle.dr_base.specs.Texts.{Text}
use Rattle.dr_ledger_balance.specs.Sealing.{EndsWithDigits, IsCut, sealed, with_digits}
use Rattle.dr_ledger_balance.proofs.Apart.{same_front}
use Rattle.dr_ledger_balance.proofs.Lines.{said}

abbrev word : Text
word = codes "sha256 "

-- the line with these digits
abbrev line_of : Text → Text
line_of digits = word ++ (digits ++ 10 ∷ [])

line_long : (digits : Text) → length digits ≡ 64 → length (line_of digits) ≡ 72
line_long digits long = let l = length-append digits (10 ∷ []) in omega (arith, l, long)

pub digits_long : (body : Text) → length (encode_lower (sha256 body)) ≡ 64
digits_long body = omega (arith, length-encode_with lower_digits (sha256 body), length-sha256 body)

-- texts with a last line of as many digits that are the same
pub same_ends : (a b x y : Text) → length x ≡ 64 → length y ≡ 64 → with_digits a x ≡ with_digits b y → (a ≡ b) × (x ≡ y)
same_ends a b x y lx ly e =
    let all : length (with_digits a x) ≡ length (with_digits b y) = ap (λ (l : List ℕ). length l) e in
    let la = length-append a (line_of x) in
    let lb = length-append b (line_of y) in
    let r = same_front a b (line_of x) (line_of y) (omega (arith, all, la, lb, line_long x lx, line_long y ly)) e in
    (r.0, (same_front x y (10 ∷ []) (10 ∷ []) (omega (arith, lx, ly)) (ap (λ (l : List ℕ). drop 7 l) r.1)).0)

pub one_body : (a b : Text) → sealed a ≡ sealed b → a ≡ b
one_body a b e = (same_ends a b (encode_lower (sha256 a)) (encode_lower (sha256 b)) (digits_long a) (digits_long b) e).0

pub too_few : (bytes : Text) → length bytes < 72 → IsCut bytes
too_few bytes short body digits is =
    let all : length bytes ≡ length (with_digits body digits) = ap (λ (l : List ℕ). length l) is.1 in
    let l = length-append body (line_of digits) in
    omega (arith, all, l, short, line_long digits is.0)

pub as_long : (bytes body line : Text) → bytes ≡ body ++ line → length body ≡ length bytes - 72 → 72 ≤ length bytes → length line ≡ 72
as_long bytes body line whole front long =
    let all : length bytes ≡ length (body ++ line) = ap (λ (l : List ℕ). length l) whole in
    let l = length-append body line in
    omega (arith, all, l, front, long)

module _ (bytes body line : Text) (whole : bytes ≡ body ++ line) (long : length line ≡ 72) where
  line_is : (b d : Text) → EndsWithDigits bytes b d → line ≡ line_of d
  line_is b d is =
      let e : body ++ line ≡ b ++ line_of d = sym whole ∙ is.1 in
      let all : length (body ++ line) ≡ length (b ++ line_of d) = ap (λ (l : List ℕ). length l) e in
      let la = length-append body line in
      let lb = length-append b (line_of d) in
      (same_front body b line (line_of d) (omega (arith, all, la, lb, long, line_long d is.0)) e).1

  pub no_word : ((rest : Text) → line ≡ word ++ rest → ⊥) → IsCut bytes
  no_word none b d is = none (d ++ 10 ∷ []) (line_is b d is)

  module _ (rest : Text) (opens : line ≡ word ++ rest) where
    pub no_feed : ((front : Text) → rest ≡ front ++ 10 ∷ [] → ⊥) → IsCut bytes
    no_feed none b d is = none d (said word line rest (d ++ 10 ∷ []) opens (line_is b d is))

    pub ends_so : (digits : Text) → rest ≡ digits ++ 10 ∷ [] → EndsWithDigits bytes body digits
    ends_so digits closes =
        let all : length line ≡ length (word ++ rest) = ap (λ (l : List ℕ). length l) opens in
        let l = length-append digits (10 ∷ []) in
        let some : length rest ≡ length (digits ++ 10 ∷ []) = ap (λ (t : List ℕ). length t) closes in
        (omega (arith, all, l, some, long), whole ∙ ap (λ (t : Text). body ++ t) (opens ∙ ap (λ (t : Text). word ++ t) closes))

pub right_body : (bytes body digits : Text) → EndsWithDigits bytes body digits → digits ≡ encode_lower (sha256 body) → bytes ≡ sealed body
right_body bytes body digits is e = is.1 ∙ ap (λ (d : Text). with_digits body d) e

pub sealed_so : (body digits a b c : Text) → digits ≡ encode_lower (sha256 body) → a ≡ body ++ word → b ≡ a ++ digits → c ≡ b ++ 10 ∷ [] → c ≡ sealed body
sealed_so body digits a b c e p q r =
    r ∙ ap (λ (t : Text). t ++ 10 ∷ []) (q ∙ ap (λ (t : Text). t ++ digits) p) ∙ append_assoc (body ++ word) digits (10 ∷ []) ∙ append_assoc body word (digits ++ 10 ∷ [])
    ∙ ap (λ (d : Text). with_digits body d) e

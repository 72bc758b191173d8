-- No byte of a line's text ends a line.
use Rattle.std.proofs.Common.{◌≡◌, ◌≢◌, ◌∙◌, ◌<◌, ◌≤◌, ◌+◌, ◌/◌, ◌%◌, ◌^◌, ◌==◌, ◌||◌, ◌&&◌, ◌⊎◌, inl, inr, ℕ, Bool, true, false, not, List, [], ◌∷◌, ◌++◌, Option, None, Some, refl, sym, ap, arith, flat_map, codes, decimal, All, nat_le, if◌then◌else◌}
use Rattle.std.proofs.lemmas.Bool.{and_from, and_parts, cases_lt, eqb-false, leb-true, le-ltb, lt-ltb, ne_eqb, not-true, not_from_false, true≢false}
use Rattle.std.proofs.lemmas.Fmt.{decimal_is_IsNumeral}
use Rattle.std.proofs.lemmas.List.Elements.{All-cons, All-nil}
use Rattle.std.proofs.lemmas.Str.Parse.{digit_from_value}
use Rattle.std.specs.Str.Parse.{AllDigits}
use Rattle.hex.specs.Hex.{encode_lower}
use Rattle.dr_base.specs.Syntaxes.{syntax_uid}
use Rattle.dr_base.specs.Texts.{Text}
use Rattle.dr_base_quoted.specs.Quoting.{hex_digit, hex_escape, is_plain, quoted, quoted_byte}
use Rattle.dr_ledger.specs.declared.item.Instance.{Instance}
use Rattle.dr_ledger_history.specs.declared.line.JournalLine.{JournalLine}
use Rattle.dr_ledger_history.specs.declared.line.JournalLine.TheVariants as told
use Rattle.dr_ledger_text.specs.Members.{flag, member, number, word}
use Rattle.dr_ledger_text.specs.Lines.{arrived_part, begun_line, content_part, further_name, goals_part, item_part, key_part, kind_part, line_part, moment_part, names_text, outcome_text, row_part, sealed_text}
use Rattle.dr_ledger_text.specs.Laws.{FitsLine, FitsMoment, IsSealable}

-- no byte of it is 10
abbrev no_feed : List ℕ → Bool
no_feed [] = true
no_feed (c ∷ cs) = not (c == 10) && no_feed cs

join : (xs ys : List ℕ) → no_feed xs ≡ true → no_feed ys ≡ true → no_feed (xs ++ ys) ≡ true
join [] ys p q = q
join (c ∷ cs) ys p q = let both = and_parts (not (c == 10)) (no_feed cs) p in and_from (not (c == 10)) (no_feed (cs ++ ys)) both.0 (join cs ys both.1 q)

one : (c : ℕ) (cs : List ℕ) → c ≢ 10 → no_feed cs ≡ true → no_feed (c ∷ cs) ≡ true
one c cs ne p = and_from (not (c == 10)) (no_feed cs) (not_from_false (c == 10) (ne_eqb c 10 ne)) p

pub none_ends : (xs : List ℕ) → no_feed xs ≡ true → All (λ byte. byte ≢ 10) xs
none_ends [] p = All-nil (λ (byte : ℕ). byte ≢ 10)
none_ends (c ∷ cs) p =
    let both = and_parts (not (c == 10)) (no_feed cs) p in
    All-cons (λ (byte : ℕ). byte ≢ 10) c cs (eqb-false c 10 (not-true (c == 10) both.0)) (none_ends cs both.1)

-- ---- texts in quotes

digit_free : (n : ℕ) → hex_digit n ≢ 10
digit_free n e = by_size (cases_lt n 10)
  where
    by_size : (n < 10) ⊎ (10 ≤ n) → ⊥
    by_size (inl low) = let f : hex_digit n ≡ 48 + n = ap (λ (t : Bool). if t then 48 + n else 87 + n) (lt-ltb n 10 low) in omega (arith, e, f)
    by_size (inr high) = let f : hex_digit n ≡ 87 + n = ap (λ (t : Bool). if t then 48 + n else 87 + n) (le-ltb n 10 high) in omega (arith, e, f)

abbrev third : ℕ → List ℕ
third c = if (c == 34) || (c == 92) then 92 ∷ c ∷ [] else hex_escape c

abbrev other : ℕ → List ℕ
other c = if c == 10 then 92 ∷ 110 ∷ [] else third c

byte_free : (c : ℕ) → no_feed (quoted_byte c) ≡ true
byte_free c = by_plain (is_plain c) refl
  where
    hex : no_feed (hex_escape c) ≡ true
    hex = one (hex_digit (c / 16)) (hex_digit (c % 16) ∷ []) (digit_free (c / 16)) (one (hex_digit (c % 16)) [] (digit_free (c % 16)) refl)

    by_pair : (t : Bool) → ((c == 34) || (c == 92)) ≡ t → no_feed (third c) ≡ true
    by_pair true e =
        let ne : c ≢ 10 = λ f. true≢false (sym e ∙ ap (λ (b : ℕ). (b == 34) || (b == 92)) f) in
        ap (λ (s : Bool). no_feed (if s then 92 ∷ c ∷ [] else hex_escape c)) e ∙ one c [] ne refl
    by_pair false e = ap (λ (s : Bool). no_feed (if s then 92 ∷ c ∷ [] else hex_escape c)) e ∙ hex

    by_feed : (t : Bool) → (c == 10) ≡ t → no_feed (other c) ≡ true
    by_feed true e = ap (λ (s : Bool). no_feed (if s then 92 ∷ 110 ∷ [] else third c)) e
    by_feed false e = ap (λ (s : Bool). no_feed (if s then 92 ∷ 110 ∷ [] else third c)) e ∙ by_pair ((c == 34) || (c == 92)) refl

    by_plain : (t : Bool) → is_plain c ≡ t → no_feed (quoted_byte c) ≡ true
    by_plain true e =
        let a = and_parts (nat_le 32 c && nat_le c 126 && not (c == 34)) (not (c == 92)) e in
        let b = and_parts (nat_le 32 c && nat_le c 126) (not (c == 34)) a.0 in
        let d = and_parts (nat_le 32 c) (nat_le c 126) b.0 in
        let low : 32 ≤ c = leb-true 32 c d.0 in
        ap (λ (s : Bool). no_feed (if s then c ∷ [] else other c)) e ∙ one c [] (λ f. omega (arith, low, f)) refl
    by_plain false e = ap (λ (s : Bool). no_feed (if s then c ∷ [] else other c)) e ∙ by_feed (c == 10) refl

between_free : (t : List ℕ) → no_feed (flat_map quoted_byte t) ≡ true
between_free [] = refl
between_free (c ∷ cs) = join (quoted_byte c) (flat_map quoted_byte cs) (byte_free c) (between_free cs)

quoted_free : (t : List ℕ) → no_feed (quoted t) ≡ true
quoted_free t = join (34 ∷ flat_map quoted_byte t) (34 ∷ []) (between_free t) refl

-- ---- numbers and members

digits_free : (ds : List ℕ) → AllDigits 10 ds → no_feed ds ≡ true
digits_free [] d = refl
digits_free (c ∷ cs) d = one c cs (λ e. omega (arith, (digit_from_value c d.0).0, e)) (digits_free cs d.1)

decimal_free : (n : ℕ) → n < 2 ^ 64 → no_feed (decimal n) ≡ true
decimal_free n low = digits_free (decimal n) (decimal_is_IsNumeral n low).0.1

value_free : (name v : List ℕ) → no_feed name ≡ true → no_feed v ≡ true → no_feed (member name v) ≡ true
value_free name v p q = join (codes ",\"" ++ name ++ codes "\":") v (join (codes ",\"" ++ name) (codes "\":") (join (codes ",\"") name refl p) refl) q

word_free : (name v : List ℕ) → no_feed name ≡ true → no_feed (word name v) ≡ true
word_free name v p = value_free name (quoted v) p (quoted_free v)

number_free : (name : List ℕ) (n : ℕ) → no_feed name ≡ true → n < 2 ^ 64 → no_feed (number name n) ≡ true
number_free name n p low = value_free name (decimal n) p (decimal_free n low)

flag_free : (name : List ℕ) (b : Bool) → no_feed name ≡ true → no_feed (flag name b) ≡ true
flag_free name true p = value_free name (codes "true") p refl
flag_free name false p = value_free name (codes "false") p refl

further_free : (names : List Text) → no_feed (flat_map further_name names) ≡ true
further_free [] = refl
further_free (n ∷ ns) = join (further_name n) (flat_map further_name ns) (join (codes ",") (quoted n) refl (quoted_free n)) (further_free ns)

names_free : (names : List Text) → no_feed (names_text names) ≡ true
names_free [] = refl
names_free (n ∷ ns) = join (quoted n) (flat_map further_name ns) (quoted_free n) (further_free ns)

goals_free : (to : List Text) (keep : Bool) → no_feed (goals_part to keep) ≡ true
goals_free to keep =
    let list : no_feed (codes "[" ++ names_text to ++ codes "]") ≡ true = join (codes "[" ++ names_text to) (codes "]") (join (codes "[") (names_text to) refl (names_free to)) refl in
    join (member (codes "to") (codes "[" ++ names_text to ++ codes "]")) (flag (codes "keep") keep) (value_free (codes "to") (codes "[" ++ names_text to ++ codes "]") refl list) (flag_free (codes "keep") keep refl)

-- ---- lines

key_free : (item : Instance) → no_feed (key_part item) ≡ true
key_free item =
    let c = word (codes "class") item.key.class in
    let s = word (codes "syntax") (syntax_uid item.key.syntax) in
    let m = word (codes "modality") item.key.modality in
    let t = word (codes "station") item.key.station in
    join (c ++ s ++ m) t (join (c ++ s) m (join c s (word_free (codes "class") item.key.class refl) (word_free (codes "syntax") (syntax_uid item.key.syntax) refl)) (word_free (codes "modality") item.key.modality refl)) (word_free (codes "station") item.key.station refl)

item_free : (item : Instance) → item.size < 2 ^ 64 → no_feed (item_part item) ≡ true
item_free item low =
    let u = word (codes "uid") item.uid in
    let l = number (codes "length") item.size in
    let d = word (codes "sha256") (encode_lower item.digest) in
    join (u ++ key_part item) (content_part item) (join u (key_part item) (word_free (codes "uid") item.uid refl) (key_free item))
    (join l d (number_free (codes "length") item.size refl low) (word_free (codes "sha256") (encode_lower item.digest) refl))

arrived_free : (kind caller : Text) (item : Instance) → item.size < 2 ^ 64 → no_feed (arrived_part kind caller item) ≡ true
arrived_free kind caller item low =
    let c = word (codes "caller") caller in
    join (kind_part kind ++ c) (item_part item) (join (kind_part kind) c (word_free (codes "kind") kind refl) (word_free (codes "caller") caller refl)) (item_free item low)

row_free : (uid dest : Text) → no_feed (row_part uid dest) ≡ true
row_free uid dest = join (word (codes "uid") uid) (word (codes "dest") dest) (word_free (codes "uid") uid refl) (word_free (codes "dest") dest refl)

kind_row_free : (kind uid dest : Text) → no_feed (kind_part kind ++ row_part uid dest) ≡ true
kind_row_free kind uid dest = join (kind_part kind) (row_part uid dest) (word_free (codes "kind") kind refl) (row_free uid dest)

line_free : (line : JournalLine) → FitsLine line → no_feed (line_part line) ≡ true
line_free (told.Arrival caller item to keep) p = join (arrived_part (codes "arrival") caller item) (goals_part to keep) (arrived_free (codes "arrival") caller item p.0) (goals_free to keep)
line_free (told.Repeat caller item) p = arrived_free (codes "repeat") caller item p.0
line_free (told.Settling uid dest came now) p =
    let k = kind_part (codes "settling") ++ row_part uid dest in
    let o = word (codes "outcome") (outcome_text came) in
    join (k ++ o) (number (codes "moment") now) (join k o (kind_row_free (codes "settling") uid dest) (word_free (codes "outcome") (outcome_text came) refl)) (number_free (codes "moment") now refl p.1)
line_free (told.Requeuing uid dest) p = kind_row_free (codes "requeuing") uid dest
line_free (told.Dropping uid dest now) p = join (kind_part (codes "dropping") ++ row_part uid dest) (number (codes "moment") now) (kind_row_free (codes "dropping") uid dest) (number_free (codes "moment") now refl p)
line_free (told.Forgetting uid) p = join (kind_part (codes "forgetting")) (word (codes "uid") uid) (word_free (codes "kind") (codes "forgetting") refl) (word_free (codes "uid") uid refl)
line_free told.Adoption p = word_free (codes "kind") (codes "adoption") refl

moment_free : (moment : Option ℕ) → FitsMoment moment → no_feed (moment_part moment) ≡ true
moment_free None p = refl
moment_free (Some moment) p = number_free (codes "at") moment refl p

pub is_one_line : (n : ℕ) (line : JournalLine) (moment : Option ℕ) → IsSealable n line moment → All (λ byte. byte ≢ 10) (sealed_text n line moment)
is_one_line n line moment p =
    let b : no_feed (begun_line n line) ≡ true = join (codes "{\"line\":" ++ decimal n) (line_part line) (join (codes "{\"line\":") (decimal n) refl (decimal_free n p.number)) (line_free line p.said) in
    none_ends (sealed_text n line moment) (join (begun_line n line ++ moment_part moment) (codes "}") (join (begun_line n line) (moment_part moment) b (moment_free moment p.written)) refl)

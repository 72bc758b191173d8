-- The text of a line is that of one line.
use Rattle.std.proofs.Common.{◌≡◌, ◌∙◌, ◌<◌, ◌+◌, ◌*◌, ◌/◌, ◌%◌, ◌^◌, inl, inr, ℕ, zero, suc, Bool, List, [], ◌∷◌, ◌++◌, Option, None, Some, Result, Ok, Err, refl, sym, ap, arith, append_assoc, drop, get_or, length, flat_map, codes, decimal}
use Rattle.hex.specs.Hex.{IsBytes, decode_of, encode_lower, encode_upper, upper_digits}
use Rattle.hex.proofs.HexLemmas.{decode_of-encode_lower, decode_of-encode_upper, length-encode_with}
use Rattle.dr_base.specs.Texts.{Text}
use Rattle.dr_base.specs.Syntaxes.{syntax_uid}
use Rattle.dr_base.specs.declared.syntax.Syntax.{Syntax}
use Rattle.dr_base.specs.declared.syntax.Syntax.TheVariants.{Implicit, Explicit}
use Rattle.dr_base_quoted.specs.Quoting.{quoted}
use Rattle.dr_route.specs.declared.key.Key.{Key}
use Rattle.dr_ledger.specs.declared.item.Instance.{Instance}
use Rattle.dr_ledger.specs.declared.item.Outcome.{Outcome}
use Rattle.dr_ledger.specs.declared.item.Outcome.TheVariants as outcome
use Rattle.dr_ledger_history.specs.declared.line.JournalLine.{JournalLine}
use Rattle.dr_ledger_history.specs.declared.line.JournalLine.TheVariants as told
use Rattle.dr_ledger_text.specs.Members.{flag, member, number, word}
use Rattle.dr_ledger_text.specs.Lines.{arrived_part, begun_line, further_name, goals_part, item_part, key_part, kind_part, line_part, moment_part, names_text, outcome_text, row_part, sealed_text}
use Rattle.dr_ledger_text.specs.Laws.{AreSame, FitsInstance, FitsLine, FitsMoment, FitsOutcome, IsSealable}
use Rattle.dr_ledger_text.proofs.Pieces.{Stops, behind_same, same_decimal, same_flag, same_number, same_quoted, same_value, same_word}

-- ---- names

same_further : (a b : List Text) (x y : List ℕ) → flat_map further_name a ++ 93 ∷ x ≡ flat_map further_name b ++ 93 ∷ y → (a ≡ b) × (x ≡ y)
same_further [] [] x y e = (refl, ap (λ (l : List ℕ). drop 1 l) e)
same_further [] (d ∷ ds) x y e = let f : 93 ≡ 44 = ap (λ (l : List ℕ). get_or l 0 0) e in absurd (omega (arith, f))
same_further (c ∷ cs) [] x y e = let f : 44 ≡ 93 = ap (λ (l : List ℕ). get_or l 0 0) e in absurd (omega (arith, f))
same_further (c ∷ cs) (d ∷ ds) x y e =
    let p = flat_map further_name cs in
    let q = flat_map further_name ds in
    let f : quoted c ++ (p ++ 93 ∷ x) ≡ quoted d ++ (q ++ 93 ∷ y) = ap (λ (l : List ℕ). drop 1 l) (sym (append_assoc (further_name c) p (93 ∷ x)) ∙ e ∙ append_assoc (further_name d) q (93 ∷ y)) in
    let r = same_quoted c d (p ++ 93 ∷ x) (q ++ 93 ∷ y) f in
    let on = same_further cs ds x y r.1 in
    (ap (λ (n : Text). n ∷ cs) r.0 ∙ ap (λ (ns : List Text). d ∷ ns) on.0, on.1)

same_names : (a b : List Text) (x y : List ℕ) → names_text a ++ 93 ∷ x ≡ names_text b ++ 93 ∷ y → (a ≡ b) × (x ≡ y)
same_names [] [] x y e = (refl, ap (λ (l : List ℕ). drop 1 l) e)
same_names [] (d ∷ ds) x y e = let f : 93 ≡ 34 = ap (λ (l : List ℕ). get_or l 0 0) e in absurd (omega (arith, f))
same_names (c ∷ cs) [] x y e = let f : 34 ≡ 93 = ap (λ (l : List ℕ). get_or l 0 0) e in absurd (omega (arith, f))
same_names (c ∷ cs) (d ∷ ds) x y e =
    let p = flat_map further_name cs in
    let q = flat_map further_name ds in
    let f : quoted c ++ (p ++ 93 ∷ x) ≡ quoted d ++ (q ++ 93 ∷ y) = sym (append_assoc (quoted c) p (93 ∷ x)) ∙ e ∙ append_assoc (quoted d) q (93 ∷ y) in
    let r = same_quoted c d (p ++ 93 ∷ x) (q ++ 93 ∷ y) f in
    let on = same_further cs ds x y r.1 in
    (ap (λ (n : Text). n ∷ cs) r.0 ∙ ap (λ (ns : List Text). d ∷ ns) on.0, on.1)

-- a list of names in its brackets
abbrev bracketed : List Text → Text
bracketed names = codes "[" ++ names_text names ++ codes "]"

same_goals : (to go : List Text) (keep hold : Bool) (x y : List ℕ) → goals_part to keep ++ x ≡ goals_part go hold ++ y → (to ≡ go) × (keep ≡ hold) × (x ≡ y)
same_goals to go keep hold x y e =
    let k = flag (codes "keep") keep ++ x in
    let h = flag (codes "keep") hold ++ y in
    let e1 : member (codes "to") (bracketed to) ++ k ≡ member (codes "to") (bracketed go) ++ h = sym (append_assoc (member (codes "to") (bracketed to)) (flag (codes "keep") keep) x) ∙ e ∙ append_assoc (member (codes "to") (bracketed go)) (flag (codes "keep") hold) y in
    let e2 : (names_text to ++ 93 ∷ []) ++ k ≡ (names_text go ++ 93 ∷ []) ++ h = ap (λ (l : List ℕ). drop 1 l) (same_value (codes "to") (bracketed to) (bracketed go) k h e1) in
    let r = same_names to go k h (sym (append_assoc (names_text to) (93 ∷ []) k) ∙ e2 ∙ append_assoc (names_text go) (93 ∷ []) h) in
    let s = same_flag (codes "keep") keep hold x y r.1 in
    (r.0, s.0, s.1)

-- ---- an instance

same_syntax : (s t : Syntax) → syntax_uid s ≡ syntax_uid t → s ≡ t
same_syntax Implicit Implicit e = refl
same_syntax Explicit Explicit e = refl
same_syntax Implicit Explicit e = let f : 17 ≡ 19 = ap (λ (l : List ℕ). length l) e in absurd (omega (arith, f))
same_syntax Explicit Implicit e = let f : 19 ≡ 17 = ap (λ (l : List ℕ). length l) e in absurd (omega (arith, f))

abbrev key_of : Text → Syntax → Text → Text → Key
key_of class syntax modality station = record { class = class; syntax = syntax; modality = modality; station = station }

same_key : (a b : Instance) (x y : List ℕ) → key_part a ++ x ≡ key_part b ++ y → (a.key ≡ b.key) × (x ≡ y)
same_key a b x y e =
    let c = word (codes "class") a.key.class in
    let s = word (codes "syntax") (syntax_uid a.key.syntax) in
    let m = word (codes "modality") a.key.modality in
    let t = word (codes "station") a.key.station in
    let c' = word (codes "class") b.key.class in
    let s' = word (codes "syntax") (syntax_uid b.key.syntax) in
    let m' = word (codes "modality") b.key.modality in
    let t' = word (codes "station") b.key.station in
    let f : c ++ (s ++ (m ++ (t ++ x))) ≡ c' ++ (s' ++ (m' ++ (t' ++ y))) =
    sym (append_assoc (c ++ s ++ m) t x ∙ append_assoc (c ++ s) m (t ++ x) ∙ append_assoc c s (m ++ (t ++ x))) ∙ e
    ∙ (append_assoc (c' ++ s' ++ m') t' y ∙ append_assoc (c' ++ s') m' (t' ++ y) ∙ append_assoc c' s' (m' ++ (t' ++ y))) in
    let r = same_word (codes "class") a.key.class b.key.class _ _ f in
    let u = same_word (codes "syntax") (syntax_uid a.key.syntax) (syntax_uid b.key.syntax) _ _ r.1 in
    let v = same_word (codes "modality") a.key.modality b.key.modality _ _ u.1 in
    let w = same_word (codes "station") a.key.station b.key.station x y v.1 in
    let is : key_of a.key.class a.key.syntax a.key.modality a.key.station ≡ key_of b.key.class b.key.syntax b.key.modality b.key.station =
    ap (λ (k : Text). key_of k a.key.syntax a.key.modality a.key.station) r.0
    ∙ ap (λ (k : Syntax). key_of b.key.class k a.key.modality a.key.station) (same_syntax a.key.syntax b.key.syntax u.0)
    ∙ ap (λ (k : Text). key_of b.key.class b.key.syntax k a.key.station) v.0
    ∙ ap (λ (k : Text). key_of b.key.class b.key.syntax b.key.modality k) w.0 in
    (is, w.1)

abbrev bytes_in : {E : Type 0} → Result (List ℕ) E → List ℕ
bytes_in (Ok bytes) = bytes
bytes_in (Err why) = []

same_digits_lower : (a b : List ℕ) → IsBytes a → IsBytes b → encode_lower a ≡ encode_lower b → a ≡ b
same_digits_lower a b p q e = ap bytes_in (sym (decode_of-encode_lower a p) ∙ ap decode_of e ∙ decode_of-encode_lower b q)

same_digits_upper : (a b : List ℕ) → IsBytes a → IsBytes b → encode_upper a ≡ encode_upper b → a ≡ b
same_digits_upper a b p q e = ap bytes_in (sym (decode_of-encode_upper a p) ∙ ap decode_of e ∙ decode_of-encode_upper b q)

comma : (x : List ℕ) → get_or x 0 0 ≡ 44 → Stops x
comma x e = record { it = inl (omega (arith, e)) }

abbrev instance_of : Text → Key → ℕ → List ℕ → Instance
instance_of uid key size digest = record { uid = uid; key = key; size = size; digest = digest }

same_item : (a b : Instance) → FitsInstance a → FitsInstance b → (x y : List ℕ) → item_part a ++ x ≡ item_part b ++ y → (a ≡ b) × (x ≡ y)
same_item a b p q x y e =
    let u = word (codes "uid") a.uid in
    let l = number (codes "length") a.size in
    let d = word (codes "sha256") (encode_lower a.digest) in
    let u' = word (codes "uid") b.uid in
    let l' = number (codes "length") b.size in
    let d' = word (codes "sha256") (encode_lower b.digest) in
    let f : u ++ (key_part a ++ (l ++ (d ++ x))) ≡ u' ++ (key_part b ++ (l' ++ (d' ++ y))) =
    sym (append_assoc (u ++ key_part a) (l ++ d) x ∙ append_assoc u (key_part a) ((l ++ d) ++ x) ∙ ap (λ (t : List ℕ). u ++ (key_part a ++ t)) (append_assoc l d x)) ∙ e
    ∙ (append_assoc (u' ++ key_part b) (l' ++ d') y ∙ append_assoc u' (key_part b) ((l' ++ d') ++ y) ∙ ap (λ (t : List ℕ). u' ++ (key_part b ++ t)) (append_assoc l' d' y)) in
    let r = same_word (codes "uid") a.uid b.uid _ _ f in
    let k = same_key a b _ _ r.1 in
    let s = same_number (codes "length") a.size b.size (d ++ x) (d' ++ y) p.0 q.0 (comma (d ++ x) refl) (comma (d' ++ y) refl) k.1 in
    let w = same_word (codes "sha256") (encode_lower a.digest) (encode_lower b.digest) x y s.1 in
    let is : instance_of a.uid a.key a.size a.digest ≡ instance_of b.uid b.key b.size b.digest =
    ap (λ (t : Text). instance_of t a.key a.size a.digest) r.0
    ∙ ap (λ (t : Key). instance_of b.uid t a.size a.digest) k.0
    ∙ ap (λ (t : ℕ). instance_of b.uid b.key t a.digest) s.0
    ∙ ap (λ (t : List ℕ). instance_of b.uid b.key b.size t) (same_digits_lower a.digest b.digest p.1 q.1 w.0) in
    (is, w.1)

-- ---- what came of a try

two_bytes : (h l : ℕ) → h < 256 → l < 256 → IsBytes (h ∷ l ∷ [])
two_bytes h l p q zero = p
two_bytes h l p q (suc zero) = q
two_bytes h l p q (suc (suc i)) = omega arith

abbrev halves : ℕ → List ℕ
halves status = status / 256 ∷ status % 256 ∷ []

are_bytes : (status : ℕ) → status < 2 ^ 16 → IsBytes (halves status)
are_bytes status low = two_bytes (status / 256) (status % 256) (omega (arith, low)) (omega arith)

four_digits : (status : ℕ) → length (encode_upper (halves status)) ≡ 4
four_digits status = length-encode_with upper_digits (halves status)

same_status : (s t : ℕ) → s < 2 ^ 16 → t < 2 ^ 16 → encode_upper (halves s) ≡ encode_upper (halves t) → s ≡ t
same_status s t p q e =
    let f : halves s ≡ halves t = same_digits_upper (halves s) (halves t) (are_bytes s p) (are_bytes t q) e in
    let h : s / 256 ≡ t / 256 = ap (λ (l : List ℕ). get_or l 0 0) f in
    let l : s % 256 ≡ t % 256 = ap (λ (l : List ℕ). get_or l 1 0) f in
    omega (arith, h, l)

same_outcome : (a b : Outcome) → FitsOutcome a → FitsOutcome b → outcome_text a ≡ outcome_text b → a ≡ b
same_outcome (outcome.Status s) (outcome.Status t) p q e = ap outcome.Status (same_status s t p q e)
same_outcome outcome.Broken outcome.Broken p q e = refl
same_outcome outcome.NoContext outcome.NoContext p q e = refl
same_outcome (outcome.Status s) outcome.Broken p q e = let f : length (encode_upper (halves s)) ≡ 6 = ap (λ (l : List ℕ). length l) e in absurd (omega (arith, f, four_digits s))
same_outcome (outcome.Status s) outcome.NoContext p q e = let f : length (encode_upper (halves s)) ≡ 10 = ap (λ (l : List ℕ). length l) e in absurd (omega (arith, f, four_digits s))
same_outcome outcome.Broken (outcome.Status t) p q e = let f : 6 ≡ length (encode_upper (halves t)) = ap (λ (l : List ℕ). length l) e in absurd (omega (arith, f, four_digits t))
same_outcome outcome.NoContext (outcome.Status t) p q e = let f : 10 ≡ length (encode_upper (halves t)) = ap (λ (l : List ℕ). length l) e in absurd (omega (arith, f, four_digits t))
same_outcome outcome.Broken outcome.NoContext p q e = let f : 6 ≡ 10 = ap (λ (l : List ℕ). length l) e in absurd (omega (arith, f))
same_outcome outcome.NoContext outcome.Broken p q e = let f : 10 ≡ 6 = ap (λ (l : List ℕ). length l) e in absurd (omega (arith, f))
same_outcome outcome.Unreadable outcome.Unreadable p q e = refl
same_outcome (outcome.Status s) outcome.Unreadable p q e = let f : length (encode_upper (halves s)) ≡ 10 = ap (λ (l : List ℕ). length l) e in absurd (omega (arith, f, four_digits s))
same_outcome outcome.Unreadable (outcome.Status t) p q e = let f : 10 ≡ length (encode_upper (halves t)) = ap (λ (l : List ℕ). length l) e in absurd (omega (arith, f, four_digits t))
same_outcome outcome.Broken outcome.Unreadable p q e = let f : 6 ≡ 10 = ap (λ (l : List ℕ). length l) e in absurd (omega (arith, f))
same_outcome outcome.Unreadable outcome.Broken p q e = let f : 10 ≡ 6 = ap (λ (l : List ℕ). length l) e in absurd (omega (arith, f))
same_outcome outcome.NoContext outcome.Unreadable p q e = let f : 110 ≡ 117 = ap (λ (l : List ℕ). get_or l 0 0) e in absurd (omega (arith, f))
same_outcome outcome.Unreadable outcome.NoContext p q e = let f : 117 ≡ 110 = ap (λ (l : List ℕ). get_or l 0 0) e in absurd (omega (arith, f))

-- ---- a row, and an arrival

same_row : (u v d f : Text) (x y : List ℕ) → row_part u d ++ x ≡ row_part v f ++ y → (u ≡ v) × (d ≡ f) × (x ≡ y)
same_row u v d f x y e =
    let g = sym (append_assoc (word (codes "uid") u) (word (codes "dest") d) x) ∙ e ∙ append_assoc (word (codes "uid") v) (word (codes "dest") f) y in
    let r = same_word (codes "uid") u v (word (codes "dest") d ++ x) (word (codes "dest") f ++ y) g in
    let s = same_word (codes "dest") d f x y r.1 in
    (r.0, s.0, s.1)

abbrev brought : Text → Instance → List ℕ → List ℕ
brought caller item x = word (codes "caller") caller ++ (item_part item ++ x)

same_brought : (c d : Text) (a b : Instance) → FitsInstance a → FitsInstance b → (x y : List ℕ) → brought c a x ≡ brought d b y → (c ≡ d) × (a ≡ b) × (x ≡ y)
same_brought c d a b p q x y e =
    let r = same_word (codes "caller") c d (item_part a ++ x) (item_part b ++ y) e in
    let s = same_item a b p q x y r.1 in
    (r.0, s.0, s.1)

-- ---- a line behind its number

abbrev kind_of : JournalLine → Text
kind_of (told.Arrival caller item to keep) = codes "arrival"
kind_of (told.Repeat caller item) = codes "repeat"
kind_of (told.Settling uid dest came now) = codes "settling"
kind_of (told.Requeuing uid dest) = codes "requeuing"
kind_of (told.Dropping uid dest now) = codes "dropping"
kind_of (told.Forgetting uid) = codes "forgetting"
kind_of told.Adoption = codes "adoption"

-- a number by which kinds are told apart: their length, and their first letter
abbrev kind_number : Text → ℕ
kind_number kind = length kind * 256 + get_or kind 0 0

-- what is behind the kind
abbrev said : JournalLine → List ℕ → List ℕ
said (told.Arrival caller item to keep) x = brought caller item (goals_part to keep ++ x)
said (told.Repeat caller item) x = brought caller item x
said (told.Settling uid dest came now) x = row_part uid dest ++ (word (codes "outcome") (outcome_text came) ++ (number (codes "moment") now ++ x))
said (told.Requeuing uid dest) x = row_part uid dest ++ x
said (told.Dropping uid dest now) x = row_part uid dest ++ (number (codes "moment") now ++ x)
said (told.Forgetting uid) x = word (codes "uid") uid ++ x
said told.Adoption x = x

arrived_then : (kind caller : Text) (item : Instance) (x : List ℕ) → arrived_part kind caller item ++ x ≡ kind_part kind ++ brought caller item x
arrived_then kind caller item x =
    append_assoc (kind_part kind ++ word (codes "caller") caller) (item_part item) x ∙ append_assoc (kind_part kind) (word (codes "caller") caller) (item_part item ++ x)

line_then : (line : JournalLine) (x : List ℕ) → line_part line ++ x ≡ kind_part (kind_of line) ++ said line x
line_then (told.Arrival caller item to keep) x =
    append_assoc (arrived_part (codes "arrival") caller item) (goals_part to keep) x ∙ arrived_then (codes "arrival") caller item (goals_part to keep ++ x)
line_then (told.Repeat caller item) x = arrived_then (codes "repeat") caller item x
line_then (told.Settling uid dest came now) x =
    let k = kind_part (codes "settling") in
    let r = row_part uid dest in
    let o = word (codes "outcome") (outcome_text came) in
    let m = number (codes "moment") now in
    append_assoc (k ++ r ++ o) m x ∙ append_assoc (k ++ r) o (m ++ x) ∙ append_assoc k r (o ++ (m ++ x))
line_then (told.Requeuing uid dest) x = append_assoc (kind_part (codes "requeuing")) (row_part uid dest) x
line_then (told.Dropping uid dest now) x =
    let k = kind_part (codes "dropping") in
    let r = row_part uid dest in
    let m = number (codes "moment") now in
    append_assoc (k ++ r) m x ∙ append_assoc k r (m ++ x)
line_then (told.Forgetting uid) x = append_assoc (kind_part (codes "forgetting")) (word (codes "uid") uid) x
line_then told.Adoption x = refl

same_said : (a b : JournalLine) (x y : List ℕ) → FitsLine a → FitsLine b → Stops x → Stops y → kind_of a ≡ kind_of b → said a x ≡ said b y → (a ≡ b) × (x ≡ y)
same_said (told.Arrival c a to keep) (told.Arrival d b go hold) x y p q s t k e =
    let r = same_brought c d a b p q (goals_part to keep ++ x) (goals_part go hold ++ y) e in
    let g = same_goals to go keep hold x y r.2 in (
      ap (λ (z : Text). told.Arrival z a to keep) r.0 ∙ ap (λ (z : Instance). told.Arrival d z to keep) r.1
          ∙ ap (λ (z : List Text). told.Arrival d b z keep) g.0 ∙ ap (λ (z : Bool). told.Arrival d b go z) g.1,
      g.2,
    )
same_said (told.Repeat c a) (told.Repeat d b) x y p q s t k e =
    let r = same_brought c d a b p q x y e in
    (ap (λ (z : Text). told.Repeat z a) r.0 ∙ ap (λ (z : Instance). told.Repeat d z) r.1, r.2)
same_said (told.Settling u d o n) (told.Settling v f i m) x y p q s t k e =
    let w = number (codes "moment") n ++ x in
    let z = number (codes "moment") m ++ y in
    let r = same_row u v d f (word (codes "outcome") (outcome_text o) ++ w) (word (codes "outcome") (outcome_text i) ++ z) e in
    let c = same_word (codes "outcome") (outcome_text o) (outcome_text i) w z r.2 in
    let l = same_number (codes "moment") n m x y p.1 q.1 s t c.1 in (
      ap (λ (g : Text). told.Settling g d o n) r.0 ∙ ap (λ (g : Text). told.Settling v g o n) r.1
          ∙ ap (λ (g : Outcome). told.Settling v f g n) (same_outcome o i p.0 q.0 c.0) ∙ ap (λ (g : ℕ). told.Settling v f i g) l.0,
      l.1,
    )
same_said (told.Requeuing u d) (told.Requeuing v f) x y p q s t k e =
    let r = same_row u v d f x y e in
    (ap (λ (g : Text). told.Requeuing g d) r.0 ∙ ap (λ (g : Text). told.Requeuing v g) r.1, r.2)
same_said (told.Dropping u d n) (told.Dropping v f m) x y p q s t k e =
    let r = same_row u v d f (number (codes "moment") n ++ x) (number (codes "moment") m ++ y) e in
    let l = same_number (codes "moment") n m x y p q s t r.2 in
    (ap (λ (g : Text). told.Dropping g d n) r.0 ∙ ap (λ (g : Text). told.Dropping v g n) r.1 ∙ ap (λ (g : ℕ). told.Dropping v f g) l.0, l.1)
same_said (told.Forgetting u) (told.Forgetting v) x y p q s t k e =
    let r = same_word (codes "uid") u v x y e in
    (ap told.Forgetting r.0, r.1)
same_said told.Adoption told.Adoption x y p q s t k e = (refl, e)
same_said a b x y p q s t k e = absurd (omega (arith, ap kind_number k))

same_line : (a b : JournalLine) (x y : List ℕ) → FitsLine a → FitsLine b → Stops x → Stops y → line_part a ++ x ≡ line_part b ++ y → (a ≡ b) × (x ≡ y)
same_line a b x y p q s t e =
    let f : kind_part (kind_of a) ++ said a x ≡ kind_part (kind_of b) ++ said b y = sym (line_then a x) ∙ e ∙ line_then b y in
    let r = same_word (codes "kind") (kind_of a) (kind_of b) (said a x) (said b y) f in
    same_said a b x y p q s t r.0 r.1

-- ---- the whole text

abbrev ended : Option ℕ → List ℕ
ended moment = moment_part moment ++ codes "}"

ended_stops : (moment : Option ℕ) → Stops (ended moment)
ended_stops None = record { it = inr (omega arith) }
ended_stops (Some moment) = comma (ended (Some moment)) refl

same_moment : (a b : Option ℕ) → FitsMoment a → FitsMoment b → ended a ≡ ended b → a ≡ b
same_moment None None p q e = refl
same_moment None (Some m) p q e = let f : 125 ≡ 44 = ap (λ (l : List ℕ). get_or l 0 0) e in absurd (omega (arith, f))
same_moment (Some n) None p q e = let f : 44 ≡ 125 = ap (λ (l : List ℕ). get_or l 0 0) e in absurd (omega (arith, f))
same_moment (Some n) (Some m) p q e =
    let stops : Stops (codes "}") = record { it = inr (omega arith) } in
    ap (λ (k : ℕ). Some k) (same_number (codes "at") n m (codes "}") (codes "}") p q stops stops e).0

abbrev opened : List ℕ
opened = codes "{\"line\":"

sealed_then : (n : ℕ) (line : JournalLine) (moment : Option ℕ) → sealed_text n line moment ≡ opened ++ (decimal n ++ (line_part line ++ ended moment))
sealed_then n line moment =
    append_assoc (begun_line n line) (moment_part moment) (codes "}") ∙ append_assoc (opened ++ decimal n) (line_part line) (ended moment) ∙ append_assoc opened (decimal n) (line_part line ++ ended moment)

line_stops : (line : JournalLine) (x : List ℕ) → Stops (line_part line ++ x)
line_stops line x = comma (line_part line ++ x) (ap (λ (l : List ℕ). get_or l 0 0) (line_then line x))

pub of_one_line : (n m : ℕ) (line other : JournalLine) (moment since : Option ℕ) → IsSealable n line moment → IsSealable m other since → sealed_text n line moment ≡ sealed_text m other since → AreSame n m line other moment since
of_one_line n m line other moment since p q e =
    let a = line_part line ++ ended moment in
    let b = line_part other ++ ended since in
    let f : decimal n ++ a ≡ decimal m ++ b = behind_same opened (decimal n ++ a) (decimal m ++ b) (sym (sealed_then n line moment) ∙ e ∙ sealed_then m other since) in
    let r = same_decimal n m a b p.number q.number (line_stops line (ended moment)) (line_stops other (ended since)) f in
    let s = same_line line other (ended moment) (ended since) p.said q.said (ended_stops moment) (ended_stops since) r.1 in
    record { numbers = r.0; lines = s.0; moments = same_moment moment since p.written q.written s.1 }

-- The digits of a port, and the one split of a text at its last mark.
use Rattle.std.proofs.Common.{◌≡◌, ℕ, ◌+◌, ◌-◌, ◌*◌, ◌<◌, ◌≤◌, ◌^◌, refl, sym, ◌∙◌, true, [], ◌∷◌, ◌++◌, length, get_or, take, Contains, add-one, false, ◌==◌, arith}
use Rattle.std.specs.Prelude.{All}
use Rattle.std.proofs.Math.Nat.{pow-suc}
use Rattle.std.specs.Char.{digit_value, is_ascii_digit}
use Rattle.std.specs.Str.Parse.{digits_value}
use Rattle.std.proofs.lemmas.Bool.Decides.{nat_tests}
use Rattle.std.proofs.lemmas.Int.Digits.{digits_value_more}
use Rattle.std.proofs.lemmas.List.{take_more}
use Rattle.std.proofs.lemmas.List.Elements.{All-push, All-contains, Contains-append_left, Contains-append_right, Contains-push}
use Rattle.dr_base.specs.Texts.{Text}
use Rattle.dr_plan_model.specs.Formed.{IsDigit, IsAddress}
use Rattle.dr_plan_text.specs.Splits.{SplitsAtLast, IsPort}

pub digit_is : (b : ℕ) → true ≡ is_ascii_digit b → IsDigit b
digit_is b e = (grind (arith, nat_tests), grind (arith, nat_tests))

digit_counts : (b : ℕ) → IsDigit b → digit_value b ≡ b - 48
digit_counts b is = grind (arith, nat_tests)

-- what the loop over the digits keeps
pub record Counted (text : Text) (i port : ℕ) : Type 0 where
  pub value : port ≡ digits_value 10 (take i text)
  pub small : port < 10 ^ i
  pub digits : All IsDigit (take i text)
  pub few : length text ≤ 5

pub one_digit_more : (digits : Text) (i port digit : ℕ) → i < length digits → IsDigit (get_or digits i 0) → digit ≡ get_or digits i 0 - 48 →
    Counted digits i port → Counted digits (i + 1) (port * 10 + digit)
one_digit_more digits i port digit h is e counted = record {
  value = rw (digits_value_more 10 digits i h, ← counted.value, digit_counts (get_or digits i 0) is, ← e);
  small = (let more : 10 ^ (i + 1) ≡ 10 ^ i * 10 = power i in omega (arith, counted.small, more, is.0, is.1, e));
  digits = rw (take_more digits i 0 h) (All-push IsDigit (take i digits) (get_or digits i 0) counted.digits is);
  few = counted.few;
}
  where
    power : (i : ℕ) → 10 ^ (i + 1) ≡ 10 ^ i * 10
    power i = rw (add-one, pow-suc) refl

pub no_colon : (digits : Text) → All IsDigit digits → Contains digits 58 → ⊥
no_colon digits each among = let is : IsDigit 58 = All-contains IsDigit digits 58 each among in omega arith

has_mark : (mark : ℕ) (before behind : Text) → Contains (before ++ mark ∷ behind) mark
has_mark mark before behind = Contains-append_right before (mark ∷ behind) mark (Contains-append_left (mark ∷ []) behind mark (Contains-push [] mark))

-- a text has one last mark
split_same : (mark : ℕ) (a b c d : Text) → a ++ mark ∷ b ≡ c ++ mark ∷ d → (Contains b mark → ⊥) → (Contains d mark → ⊥) → (a ≡ c) × (b ≡ d)
split_same mark [] b [] d e none_b none_d = (refl, cc)
split_same mark [] b (y ∷ c) d e none_b none_d = absurd (none_b (let later : b ≡ c ++ mark ∷ d = cc in rw later (has_mark mark c d)))
split_same mark (x ∷ a) b [] d e none_b none_d = absurd (none_d (let later : d ≡ a ++ mark ∷ b = cc in rw later (has_mark mark a b)))
split_same mark (x ∷ a) b (y ∷ c) d e none_b none_d =
    let tails : a ++ mark ∷ b ≡ c ++ mark ∷ d = cc in
    let (before, behind) = split_same mark a b c d tails none_b none_d in
    (let head : x ≡ y = cc in cc, behind)

-- an address splits at its last colon
pub splits : (text host port : Text) → SplitsAtLast 58 text host port → (is : IsAddress text) → (is.host ≡ host) × (is.port ≡ port)
splits text host port at is = split_same 58 is.host is.port host port (sym is.parts ∙ at.0) (no_colon is.port is.digits) at.1

pub no_address_without_colon : (text : Text) → (Contains text 58 → ⊥) → IsAddress text → ⊥
no_address_without_colon text none is = none (rw is.parts (has_mark 58 is.host is.port))

pub has_port : (text host port : Text) → SplitsAtLast 58 text host port → IsAddress text → IsPort port
has_port text host port at is = let e = (splits text host port at is).1 in rw (← e) (record { each = is.digits; some = is.few.0; few = is.few.1 })

pub has_host : (text host port : Text) → SplitsAtLast 58 text host port → IsAddress text → host ≡ [] → ⊥
has_host text host port at is none = is.some ((splits text host port at is).0 ∙ none)

pub small_port : (text host port : Text) → SplitsAtLast 58 text host port → IsAddress text → digits_value 10 port ≤ 65535
small_port text host port at is = let e = (splits text host port at is).1 in rw (← e) is.small

pub address : (text host port : Text) → SplitsAtLast 58 text host port → IsPort port → (host ≡ [] → ⊥) → digits_value 10 port ≤ 65535 →
    All (λ byte. (33 ≤ byte) × (byte < 127)) text → length text ≤ 255 → IsAddress text
address text host port at digits some small printable short = record {
  host = host;
  port = port;
  parts = at.0;
  some = some;
  digits = digits.each;
  few = (digits.some, digits.few);
  small = small;
  printable = printable;
  short = short;
}

pub not_nil : (text : Text) → false ≡ (length text == 0) → text ≡ [] → ⊥
not_nil [] e h = cc
not_nil (x ∷ text) e h = cc

pub is_nil : (text : Text) → true ≡ (length text == 0) → text ≡ []
is_nil [] e = refl
is_nil (x ∷ text) e = absurd (let n : length (x ∷ text) ≡ 0 = grind (arith, nat_tests) in omega arith)

-- A text with its SHA-256 behind it.
use Rattle.std.specs.Prelude.{◌≡◌, [], ◌∷◌, ◌++◌, Result, Ok, Err, length, codes}
use Rattle.std.specs.Borrow.{Bor}
use Rattle.hex.specs.Hex.{encode_lower}
use Rattle.sha2.specs.Sha256.{sha256}
use Rattle.dr_base.specs.Texts.{Text}
use Rattle.dr_ledger_balance.specs.declared.fault.BalanceFault.{BalanceFault}
use Rattle.dr_ledger_balance.specs.declared.fault.BalanceFault.TheVariants as fault

-- a last line with these digits
abbrev pub with_digits : Text → Text → Text
with_digits body digits = body ++ (codes "sha256 " ++ (digits ++ 10 ∷ []))

-- a last line with the SHA-256 of all before it
abbrev pub sealed : Text → Text
sealed body = with_digits body (encode_lower (sha256 body))

-- the bytes end with a line of as many digits as a SHA-256 has, behind this body
abbrev pub EndsWithDigits : Text → Text → Text → Type 0
EndsWithDigits bytes body digits = (length digits ≡ 64) × (bytes ≡ with_digits body digits)

-- they end with no such line
abbrev pub IsCut : Text → Type 0
IsCut bytes = (body digits : Text) → EndsWithDigits bytes body digits → ⊥

-- they end with one of other digits than those of the SHA-256 of what is before it
abbrev pub IsChanged : Text → Type 0
IsChanged bytes =
    (body : Text) × (digits : Text)
    × EndsWithDigits bytes body digits
    × (digits ≡ encode_lower (sha256 body) → ⊥)

-- what taking the last line away answers
abbrev pub AnswersBody : Text → Result (Bor Text) BalanceFault → Type 0
AnswersBody bytes (Ok body) = bytes ≡ sealed body.now
AnswersBody bytes (Err fault.Cut) = IsCut bytes
AnswersBody bytes (Err fault.Changed) = IsChanged bytes
AnswersBody bytes (Err fault.Memory) = Unit {0}
AnswersBody bytes (Err other) = ⊥

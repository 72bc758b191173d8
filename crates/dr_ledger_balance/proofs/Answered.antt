-- What reading answers, by what its steps do.
use Rattle.std.proofs.Common.{◌≡◌, ◌∙◌, ◌≤◌, ℕ, Option, Some, Err, ap, subst}
use Rattle.std.specs.Prelude.{MatchOption}
use Rattle.dr_base.specs.Texts.{Text}
use Rattle.dr_ledger_balance.specs.Balances.{FitsBalance, body_of}
use Rattle.dr_ledger_balance.specs.Reading.{AnswersOrders, HasNoBody, IsTextOf, Reads}
use Rattle.dr_ledger_balance.specs.Sealing.{AnswersBody, sealed}
use Rattle.dr_ledger_balance.specs.declared.balance.Balance.{Balance}
use Rattle.dr_ledger_balance.specs.declared.fault.BalanceFault.{BalanceFault}
use Rattle.dr_ledger_balance.specs.declared.fault.BalanceFault.TheVariants as fault

pub not_sealed : (bytes : Text) (most : ℕ) (e : BalanceFault) → AnswersBody bytes (Err e) → Reads bytes most (Err e)
not_sealed bytes most fault.Cut is = is
not_sealed bytes most fault.Changed is = is
not_sealed bytes most fault.Memory is = is
not_sealed bytes most fault.NoBalance is = absurd is
not_sealed bytes most fault.MoreThanSaid is = absurd is
not_sealed bytes most fault.OutOfOrder is = absurd is
not_sealed bytes most fault.Twice is = absurd is

pub text_of : (bytes body : Text) (b : Balance) → bytes ≡ sealed body → FitsBalance b × (body ≡ body_of b) → IsTextOf bytes b
text_of bytes body b e is = (is.0, e ∙ ap sealed is.1)

-- what was found
pub some_body : (body : Text) (found : Option Balance) (b : Balance) → MatchOption found (HasNoBody body) (λ c. FitsBalance c × (body ≡ body_of c)) → found ≡ Some b → FitsBalance b × (body ≡ body_of b)
some_body body found b h e = subst (λ (o : Option Balance). MatchOption o (HasNoBody body) (λ c. FitsBalance c × (body ≡ body_of c))) e h

pub not_ordered : (bytes : Text) (most : ℕ) (b : Balance) → IsTextOf bytes b → b.count ≤ most → (e : BalanceFault) → AnswersOrders b (Err e) → Reads bytes most (Err e)
not_ordered bytes most b text low fault.Twice is = (b, text, low, is)
not_ordered bytes most b text low fault.OutOfOrder is = (b, text, low, is)
not_ordered bytes most b text low fault.Cut is = absurd is
not_ordered bytes most b text low fault.Changed is = absurd is
not_ordered bytes most b text low fault.NoBalance is = absurd is
not_ordered bytes most b text low fault.MoreThanSaid is = absurd is
not_ordered bytes most b text low fault.Memory is = absurd is

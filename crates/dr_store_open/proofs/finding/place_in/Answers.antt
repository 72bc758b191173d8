use Rattle.std.proofs.Common.{◌≡◌, ◌∙◌, ℕ, List, [], length, inl, inr, ap, rules, arith}
use Rattle.dr_store_calls.specs.Owners.{IsMark}
use Rattle.dr_store_open.proofs.finding.place_in.Goals as goal

-- bytes that are neither nothing nor 24 are no mark
pub returns-in-None : goal.returns-in-None
returns-in-None c = λ is. elim is [
  | inl none ↦ absurd (let n : length c.args.mark.now ≡ 0 = ap length none in search rules)
  | inr long ↦ c.in-None.ensures long
]

use Rattle.std.proofs.Common.{ℕ, List, Option, subst, arith}
use Rattle.dr_desk.specs.Paging.{IsLeastFrom}
use Rattle.dr_desk.proofs.Paged.{first_one, less_one, no_less, passed_over}
use Rattle.dr_desk.proofs.paging.lesser.Goals as goal

pub returns-then-number-from : goal.returns-then-number-from
returns-then-number-from c = λ all least. passed_over c.args.from c.args.number all c.args.least (let low = c.if-number-from.true in omega (arith, low)) least

pub returns-in_default : goal.returns-in_default
returns-in_default c = λ all least.
    first_one c.args.from c.args.number all (let high = c.if-number-from.false in omega (arith, high))
    (subst (λ (o : Option ℕ). IsLeastFrom c.args.from all o) c.in_default.is least)

pub returns-then-number-other : goal.returns-then-number-other
returns-then-number-other c = λ all least.
    less_one c.args.from c.args.number c.in-Some.other all (let high = c.if-number-from.false in omega (arith, high)) (let less = c.if-number-other.true in omega (arith, less))
    (subst (λ (o : Option ℕ). IsLeastFrom c.args.from all o) c.in-Some.is least)

pub returns : goal.returns
returns c = λ all least.
    no_less c.args.from c.args.number c.in-Some.other all (let less = c.if-number-other.false in omega (arith, less))
    (subst (λ (o : Option ℕ). IsLeastFrom c.args.from all o) c.in-Some.is least)

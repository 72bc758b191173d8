use Rattle.std.proofs.Common.{◌≡◌, Option, sym, subst, ap, arith}
use Rattle.std.specs.Option.{option_map_or}
use Rattle.dr_nego.specs.declared.agreed.Agreed.{Agreed}
use Rattle.dr_session.proofs.react.acceptor.limit_of.Goals as goal

pub returns-clause-limit : goal.returns-clause-limit
returns-clause-limit c =
    let P : Option Agreed → Type 0 = λ o. c.as_agreed.result.now.limit ≡ option_map_or (λ (a : Agreed). a.limit) o 0 in
    subst P (sym c.in-Some.is) (ap (λ (a : Agreed). a.limit) c.as_agreed.ensures.same)

pub returns-in_default-clause-serves : goal.returns-in_default-clause-serves
returns-in_default-clause-serves c = λ small. absurd (omega (arith, small.0))

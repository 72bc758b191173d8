use Rattle.std.proofs.Common.{◌≡◌, Option, Some, subst, ap}
use Rattle.dr_session.specs.declared.ends.Core.{Core}
use Rattle.dr_session.specs.Ends.{Terminal, TakesCore}
use Rattle.dr_session.proofs.Ending.{crowds_live, crowds_over}
use Rattle.dr_session.proofs.end.End.let_data_go.Goals as goal

pub returns-in_default : goal.returns-in_default
returns-in_default c = crowds_over c.args.self.now c.take_core.new.self c.new.result c.in_default.ensures c.new.ensures

pub put-requires : goal.put-requires
put-requires c =
    let T : Option Core → Type 0 = λ o. TakesCore c.args.self.now o c.take_core.new.self in
    let taken : TakesCore c.args.self.now (Some c.in-Some.core) c.take_core.new.self = subst T c.in-Some.is c.take_core.ensures in
    ap (λ (x : Terminal). x.core) taken.2

pub returns : goal.returns
returns c =
    let T : Option Core → Type 0 = λ o. TakesCore c.args.self.now o c.take_core.new.self in
    let P : Core → Type 0 = λ d. c.put.new.self ≡ record { ear = c.take_core.new.self.ear; core = Some d } in
    crowds_live c.in-Some.core c.args.self.now c.take_core.new.self c.put.new.self c.new-2.result (subst T c.in-Some.is c.take_core.ensures) (subst P c.let_data_go.ensures c.put.ensures) c.new-2.ensures

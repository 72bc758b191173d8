use Rattle.std.proofs.Common.{ℕ, List, Ok, refl, sym, subst}
use Rattle.dr_session.specs.declared.ends.Heard.{Heard}
use Rattle.dr_session.specs.declared.ends.Heard.TheVariants as heard
use Rattle.dr_session.specs.declared.ends.Input.{Input}
use Rattle.dr_session.specs.Ends.{HearsOf, Meets}
use Rattle.dr_session.proofs.end.End.hear.Goals as goal

pub returns-in-Bytes : goal.returns-in-Bytes
returns-in-Bytes g c =
    let P : Heard → Type 0 = λ h. HearsOf g.P.DeskPort.step h c.args.at c.args.self.now c.args.port.now c.hear_bytes.result c.hear_bytes.new.self c.hear_bytes.new.port in
    let Q : List ℕ → Type 0 = λ l. P (heard.Bytes l) in
    subst P (sym c.in-Bytes.is) (subst Q c.as_bytes.ensures c.hear_bytes.ensures)

pub returns-in-End : goal.returns-in-End
returns-in-End g c =
    let P : Heard → Type 0 = λ h. HearsOf g.P.DeskPort.step h c.args.at c.args.self.now c.args.port.now c.meet.result c.meet.new.self c.meet.new.port in
    subst P (sym c.in-End.is) c.meet.ensures

pub returns-in-Fault : goal.returns-in-Fault
returns-in-Fault g c =
    let P : Heard → Type 0 = λ h. HearsOf g.P.DeskPort.step h c.args.at c.args.self.now c.args.port.now c.meet-in-Fault.result c.meet-in-Fault.new.self c.meet-in-Fault.new.port in
    subst P (sym c.in-Fault.is) c.meet-in-Fault.ensures

pub returns-in-Late : goal.returns-in-Late
returns-in-Late g c =
    let P : Heard → Type 0 = λ h. HearsOf g.P.DeskPort.step h c.args.at c.args.self.now c.args.port.now c.meet-in-Late.result c.meet-in-Late.new.self c.meet-in-Late.new.port in
    subst P (sym c.in-Late.is) c.meet-in-Late.ensures

pub returns-in-Idle : goal.returns-in-Idle
returns-in-Idle g c =
    let P : Heard → Type 0 = λ h. HearsOf g.P.DeskPort.step h c.args.at c.args.self.now c.args.port.now c.meet-in-Idle.result c.meet-in-Idle.new.self c.meet-in-Idle.new.port in
    let Q : Input → Type 0 = λ i. Meets g.P.DeskPort.step c.args.at i c.args.self.now c.args.port.now c.meet-in-Idle.result c.meet-in-Idle.new.self c.meet-in-Idle.new.port in
    subst P (sym c.in-Idle.is) (subst Q c.idle_input.ensures c.meet-in-Idle.ensures)

pub returns-in-Crowded : goal.returns-in-Crowded
returns-in-Crowded g c =
    let P : Heard → Type 0 = λ h. HearsOf g.P.DeskPort.step h c.args.at c.args.self.now c.args.port.now (Ok c.let_data_go.result) c.let_data_go.new.self c.args.port.now in
    subst P (sym c.in-Crowded.is) (refl, c.let_data_go.ensures)

pub returns-in-Memory : goal.returns-in-Memory
returns-in-Memory g c =
    let P : Heard → Type 0 = λ h. HearsOf g.P.DeskPort.step h c.args.at c.args.self.now c.args.port.now c.lose.result c.lose.new.self c.args.port.now in
    subst P (sym c.in-Memory.is) (refl, c.lose.ensures)

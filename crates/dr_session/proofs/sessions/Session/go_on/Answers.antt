use Rattle.std.proofs.Common.{sym, subst}
use Rattle.dr_session.specs.declared.wishes.Wish.{Wish}
use Rattle.dr_session.specs.Sessions.{place_of}
use Rattle.dr_session.specs.Links.{GoesOn, IsWished}
use Rattle.dr_session.proofs.sessions.Session.go_on.Goals as goal

pub returns-in-Listen-clause-does : goal.returns-in-Listen-clause-does
returns-in-Listen-clause-does g c =
    let P : Wish → Type 0 = λ w. GoesOn g.L.Link.hears g.L.Link.sends g.L.Link.closes g.P.DeskPort.step (g.C.Clock.tells c.args.self.now.clock.now) c.args.self.now.others (IsWished w) c.hear_next.result
    (place_of c.args.self.now c.args.end.now) (place_of c.hear_next.new.self c.hear_next.new.end) in
    subst P (sym c.in-Listen.is) c.hear_next.ensures.does

pub returns-in-Listen-clause-counts : goal.returns-in-Listen-clause-counts
returns-in-Listen-clause-counts g c = c.hear_next.ensures.counts

pub returns-in-Push-clause-does : goal.returns-in-Push-clause-does
returns-in-Push-clause-does g c =
    let P : Wish → Type 0 = λ w. GoesOn g.L.Link.hears g.L.Link.sends g.L.Link.closes g.P.DeskPort.step (g.C.Clock.tells c.args.self.now.clock.now) c.args.self.now.others (IsWished w) c.push_next.result
    (place_of c.args.self.now c.args.end.now) (place_of c.push_next.new.self c.push_next.new.end) in
    subst P (sym c.in-Push.is) c.push_next.ensures.does

pub returns-in-Push-clause-counts : goal.returns-in-Push-clause-counts
returns-in-Push-clause-counts g c = c.push_next.ensures.counts

pub returns-in-Release-clause-does : goal.returns-in-Release-clause-does
returns-in-Release-clause-does g c =
    let P : Wish → Type 0 = λ w. GoesOn g.L.Link.hears g.L.Link.sends g.L.Link.closes g.P.DeskPort.step (g.C.Clock.tells c.args.self.now.clock.now) c.args.self.now.others (IsWished w) c.ask_release.result
    (place_of c.args.self.now c.args.end.now) (place_of c.ask_release.new.self c.ask_release.new.end) in
    subst P (sym c.in-Release.is) c.ask_release.ensures.does

pub returns-in-Release-clause-counts : goal.returns-in-Release-clause-counts
returns-in-Release-clause-counts g c = c.ask_release.ensures.counts

pub returns-in-Echo-clause-does : goal.returns-in-Echo-clause-does
returns-in-Echo-clause-does g c =
    let P : Wish → Type 0 = λ w. GoesOn g.L.Link.hears g.L.Link.sends g.L.Link.closes g.P.DeskPort.step (g.C.Clock.tells c.args.self.now.clock.now) c.args.self.now.others (IsWished w) c.ask_echo.result
    (place_of c.args.self.now c.args.end.now) (place_of c.ask_echo.new.self c.ask_echo.new.end) in
    subst P (sym c.in-Echo.is) c.ask_echo.ensures.does

pub returns-in-Echo-clause-counts : goal.returns-in-Echo-clause-counts
returns-in-Echo-clause-counts g c = c.ask_echo.ensures.counts

pub returns-in-Listen-clause-keeps : goal.returns-in-Listen-clause-keeps
returns-in-Listen-clause-keeps g c = c.hear_next.ensures.keeps

pub returns-in-Push-clause-keeps : goal.returns-in-Push-clause-keeps
returns-in-Push-clause-keeps g c = c.push_next.ensures.keeps

pub returns-in-Release-clause-keeps : goal.returns-in-Release-clause-keeps
returns-in-Release-clause-keeps g c = c.ask_release.ensures.keeps

pub returns-in-Echo-clause-keeps : goal.returns-in-Echo-clause-keeps
returns-in-Echo-clause-keeps g c = c.ask_echo.ensures.keeps

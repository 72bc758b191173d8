use Rattle.std.proofs.Common.{◌≡◌, List, rules, subst, ℕ}
use Rattle.http.specs.Request.{body_of}
use Rattle.dr_run_control.specs.Consoles.{TellsCopy}
use Rattle.dr_run_control.proofs.console.Console.look.Goals as goal

pub returns-in-Backup-clause-copied : goal.returns-in-Backup-clause-copied
returns-in-Backup-clause-copied g c =
    let same : c.as_slice.result.now ≡ body_of c.args.request.now = search rules in
    λ is. subst (λ (form : List ℕ). TellsCopy (g.H.House.copies c.args.self.now.house.now) form c.back_up.result.status c.back_up.result.text.items) same c.back_up.ensures

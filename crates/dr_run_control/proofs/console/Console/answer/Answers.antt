use Rattle.std.proofs.Common.{◌≡◌, inl, inr, List, Ok, refl, rules, subst, sym, ◌∙◌, ℕ}
use Rattle.http.specs.Request.{body_of, head_of}
use Rattle.dr_run_control.specs.Consoles.{Tells}
use Rattle.dr_run_control.proofs.console.Console.answer.Goals as goal

pub returns-in-Err-clause-answers : goal.returns-in-Err-clause-answers
returns-in-Err-clause-answers g c =
    inl (record { why = c.in-Err.why; admits = c.in-Err.ensures; status_is = c.refusal.ensures.status; told = c.refusal.ensures.text; leaves = (refl, refl) })

pub returns-then-gives_order-clause-answers : goal.returns-then-gives_order-clause-answers
returns-then-gives_order-clause-answers g c =
    let old = c.args.self.now.pass.now in
    let new = c.obey.new.self.pass.now in
    let same : c.as_slice.result.now ≡ body_of c.args.request.now = search rules in
    inr (inl (
      c.in-Ok.route,
      sym c.gives_order.ensures ∙ c.if-gives_order.true,
      c.in-Ok.ensures,
      subst (λ (form : List ℕ). Tells g.L.Ledger.site g.L.Ledger.book g.L.Ledger.stands g.L.Ledger.failed g.B.Sharing.site g.B.Sharing.first c.args.self.now.hops.now c.in-Ok.route form c.obey.result.status c.obey.result.text.items old.made.count old.receipts.items new.made.count new.receipts.items) same c.obey.ensures.tells,
    ))

pub returns-then-gives_order-clause-access : goal.returns-then-gives_order-clause-access
returns-then-gives_order-clause-access g c = c.obey.ensures.access

pub returns-clause-answers : goal.returns-clause-answers
returns-clause-answers g c =
    inr (inr (record { asked = c.in-Ok.route; admits = c.in-Ok.ensures; other = sym c.gives_order.ensures ∙ c.if-gives_order.false; stops = c.look.ensures.stops; copied = c.look.ensures.copied; leaves = (refl, refl) }))

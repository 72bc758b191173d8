-- What is told of a request.
use Rattle.std.proofs.Common.{◌≡◌, inl, inr, ℕ, List, refl, sym, ◌∙◌, ap, arith, Result, Ok, Err}
use Rattle.http.specs.Request.{body_of}
use Rattle.http.specs.declared.request.Request.{Request}
use Rattle.dr_base.specs.Texts.{Text}
use Rattle.dr_desk.specs.Receipts.{LeavesReceipts, Notes}
use Rattle.dr_desk.specs.declared.receipt.Call.{Call}
use Rattle.dr_desk.specs.declared.receipt.Receipt.{Receipt}
use Rattle.dr_desk.specs.declared.receipt.Reply.TheVariants.{Done}
use Rattle.dr_ledger.specs.Books.{Book, Line}
use Rattle.dr_ledger.specs.declared.fault.LedgerFault.{LedgerFault}
use Rattle.dr_ledger.specs.declared.fault.LedgerFault.TheVariants as ledger
use Rattle.dr_run_answer.specs.Answers.{done_line, fault_line}
use Rattle.dr_run_control.specs.Consoles.{Acts, Answers, Copying, Misreads, NotesIf, Tells, TellsCopy}
use Rattle.dr_run_control.specs.Laws.{Does, DoneWasDone, ElseNothing}
use Rattle.dr_run_control.specs.Replies.{IsToldIn, line_of_answer, line_of_backup, name_of_form, name_of_refusal, status_of_answer, status_of_fault, status_of_form}
use Rattle.dr_run_open.specs.declared.hops.NextHop.{NextHop}
use Rattle.dr_run_request.specs.Orders.{IsAsked}
use Rattle.dr_run_request.specs.declared.admission.Access.{Access}
use Rattle.dr_run_request.specs.declared.browser.Browser.{Browser}
use Rattle.dr_run_request.specs.declared.order.Order.{Order}
use Rattle.dr_run_request.specs.declared.order.Order.TheVariants as order
use Rattle.dr_run_request.specs.declared.route.Route.{Route}
use Rattle.dr_run_request.specs.declared.wanted.FormFault.{FormFault}
use Rattle.dr_run_request.specs.declared.wanted.FormFault.TheVariants as form
use Rattle.dr_site.specs.Parts.{Part}
use Rattle.std.specs.Prelude.{Option, codes}

-- a form that isn't understood
pub misreads : (asked : Route) (text : Text) (why : FormFault) → (why ≡ form.Field → (one : Order) → IsAsked one asked text → ⊥) → Misreads asked text why
misreads asked text form.Field h = h refl
misreads asked text form.Memory h = tt

-- what is told of a text is told of what stands for it
pub told_on : (line text body : Text) → IsToldIn line text → IsToldIn text body → IsToldIn line body
told_on line text body t (inr none) = inr none
told_on line text body (inl is) (inl same) = inl (same ∙ is)
told_on line text body (inr is) (inl same) = inr (same ∙ is)

no_fault_is_200 : (why : LedgerFault) → status_of_fault why ≡ 200 → ⊥
no_fault_is_200 ledger.NoLine e = omega (arith, e)
no_fault_is_200 ledger.Conflict e = omega (arith, e)
no_fault_is_200 ledger.NotWaiting e = omega (arith, e)
no_fault_is_200 ledger.NotHeld e = omega (arith, e)
no_fault_is_200 ledger.NotOver e = omega (arith, e)
no_fault_is_200 ledger.Store e = omega (arith, e)
no_fault_is_200 ledger.Memory e = omega (arith, e)

no_form_is_200 : (why : FormFault) → status_of_form why ≡ 200 → ⊥
no_form_is_200 form.Field e = omega (arith, e)
no_form_is_200 form.Memory e = omega (arith, e)

noted : (call : Call) (answer : Result (Unit {0}) LedgerFault) (status count now : ℕ) (receipts kept : List Receipt) → NotesIf call answer count receipts now kept → status ≡ status_of_answer answer → status ≡ 200
    → Notes call Done count receipts now kept
noted call (Ok done) status count now receipts kept n s e = n
noted call (Err why) status count now receipts kept n s e = absurd (no_fault_is_200 why (sym s ∙ e))

left : (call : Call) (answer : Result (Unit {0}) LedgerFault) (status count now : ℕ) (receipts kept : List Receipt) → NotesIf call answer count receipts now kept → status ≡ status_of_answer answer → (status ≡ 200 → ⊥)
    → LeavesReceipts count receipts now kept
left call (Ok done) status count now receipts kept n s e = absurd (e s)
left call (Err why) status count now receipts kept n s e = n

module _ {L : Type 0} (site_of : L → Part) (book : L → Book) (stands : L → Type 0) (failed : L → ℕ) (own : Part) (first : List Line) where
  tells_on : (hops : List NextHop) (asked : Route) (given : Text) (status written : ℕ) (text body : Text) (count now : ℕ) (receipts kept : List Receipt) → written ≡ status → IsToldIn text body
      → Tells site_of book stands failed own first hops asked given status text count receipts now kept → Tells site_of book stands failed own first hops asked given written body count receipts now kept
  tells_on hops asked given status written text body count now receipts kept w t (inl (one, is, inl d)) =
      inl (one, is, inl (record { answer = d.answer; goes = d.goes; acts = d.acts; status_is = w ∙ d.status_is; told = told_on (line_of_answer d.answer) text body d.told t }))
  tells_on hops asked given status written text body count now receipts kept w t (inl (one, is, inr n)) =
      inl (one, is, inr (record { unknown = n.unknown; status_is = w ∙ n.status_is; told = told_on (fault_line (codes "Hop")) text body n.told t; leaves = n.leaves }))
  tells_on hops asked given status written text body count now receipts kept w t (inr m) =
      inr (record { why = m.why; misreads = m.misreads; status_is = w ∙ m.status_is; told = told_on (fault_line (name_of_form m.why)) text body m.told t; leaves = m.leaves })

  copied_on : (copies : Copying) (given : Text) (status written : ℕ) (text body : Text) → written ≡ status → IsToldIn text body → TellsCopy copies given status text → TellsCopy copies given written body
  copied_on copies given status written text body w t (inl (path, came, names, is, status_is, told)) =
      inl (path, came, names, is, w ∙ status_is, told_on (line_of_backup came) text body told t)
  copied_on copies given status written text body w t (inr (why, none, status_is, told)) =
      inr (why, none, w ∙ status_is, told_on (fault_line (name_of_form why)) text body told t)

  -- the answer as it is written
  pub answers_on : (copies : Copying) (access : Access) (browser : Option Browser) (hops : List NextHop) (request : Request (List ℕ)) (status written : ℕ) (text body : Text) (count now : ℕ) (receipts kept : List Receipt) → written ≡ status → IsToldIn text body
      → Answers site_of book stands failed own first copies access browser hops request status text count receipts now kept → Answers site_of book stands failed own first copies access browser hops request written body count receipts now kept
  answers_on copies access browser hops request status written text body count now receipts kept w t (inl h) =
      inl (record { why = h.why; admits = h.admits; status_is = w ∙ h.status_is; told = told_on (fault_line (name_of_refusal h.why)) text body h.told t; leaves = h.leaves })
  answers_on copies access browser hops request status written text body count now receipts kept w t (inr (inl (asked, gives, admits, tells))) =
      inr (inl (asked, gives, admits, tells_on hops asked _ status written text body count now receipts kept w t tells))
  answers_on copies access browser hops request status written text body count now receipts kept w t (inr (inr h)) = inr (inr (record {
    asked = h.asked;
    admits = h.admits;
    other = h.other;
    stops = λ stop. (w ∙ (h.stops stop).0, told_on done_line text body (h.stops stop).1 t);
    copied = λ copy. copied_on copies (body_of request) status written text body w t (h.copied copy);
    leaves = h.leaves;
  }))

  does : (one : Order) (answer : Result (Unit {0}) LedgerFault) (status count now : ℕ) (receipts kept : List Receipt) → Acts site_of book stands failed own first one answer count receipts now kept → status ≡ status_of_answer answer → status ≡ 200
      → Does site_of book stands failed own first one count receipts now kept
  does (order.Requeue row) answer status count now receipts kept acts s e = noted _ answer status count now receipts kept acts.1 s e
  does (order.RequeueAll dest) (Err why) status count now receipts kept acts s e = absurd (no_fault_is_200 why (sym s ∙ e))
  does (order.RequeueAll dest) (Ok done) status count now receipts kept (inl (why, err, leaves)) s e = absurd (no_fault_is_200 why (sym (ap status_of_answer err)))
  does (order.RequeueAll dest) (Ok done) status count now receipts kept (inr (rows, each)) s e = (rows, each)
  does (order.GiveUp row) answer status count now receipts kept acts s e = (acts.0, noted _ answer status count now receipts kept acts.1.1 s e)
  does (order.Forget uid) answer status count now receipts kept acts s e = noted _ answer status count now receipts kept acts.1 s e
  does (order.Visit dest) answer status count now receipts kept acts s e = acts.1

  nothing : (one : Order) (asked : Route) (given : Text) (answer : Result (Unit {0}) LedgerFault) (status count now : ℕ) (receipts kept : List Receipt) → ((dest : Text) → IsAsked (order.RequeueAll dest) asked given → ⊥) → IsAsked one asked given
      → Acts site_of book stands failed own first one answer count receipts now kept → status ≡ status_of_answer answer → (status ≡ 200 → ⊥)
      → LeavesReceipts count receipts now kept
  nothing (order.Requeue row) asked given answer status count now receipts kept many is acts s e = left _ answer status count now receipts kept acts.1 s e
  nothing (order.RequeueAll dest) asked given answer status count now receipts kept many is acts s e = absurd (many dest is)
  nothing (order.GiveUp row) asked given answer status count now receipts kept many is acts s e = left _ answer status count now receipts kept acts.1.1 s e
  nothing (order.Forget uid) asked given answer status count now receipts kept many is acts s e = left _ answer status count now receipts kept acts.1 s e
  nothing (order.Visit dest) asked given answer status count now receipts kept many is acts s e = acts.1

  pub done_was_done : DoneWasDone site_of book stands failed own first
  done_was_done hops asked given text status count now receipts kept (inl (one, is, inl d)) e = (one, is, d.goes, does one d.answer status count now receipts kept d.acts d.status_is e)
  done_was_done hops asked given text status count now receipts kept (inl (one, is, inr n)) e = absurd (omega (arith, n.status_is, e))
  done_was_done hops asked given text status count now receipts kept (inr m) e = absurd (no_form_is_200 m.why (sym m.status_is ∙ e))

  pub else_nothing : ElseNothing site_of book stands failed own first
  else_nothing hops asked given text status count now receipts kept many (inl (one, is, inl d)) e = nothing one asked given d.answer status count now receipts kept many is d.acts d.status_is e
  else_nothing hops asked given text status count now receipts kept many (inl (one, is, inr n)) e = n.leaves
  else_nothing hops asked given text status count now receipts kept many (inr m) e = m.leaves

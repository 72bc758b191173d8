use Rattle.std.proofs.Common.{◌≡◌, ◌∙◌, ap, sym, ℕ, cond, Option, Some, Ok, Err, Result}
use Rattle.std.specs.Result.{OnErr}
use Rattle.std.specs.BTreeMap as tree
use Rattle.std.specs.BTreeMap.{is_at}
use Rattle.dr_base.specs.Texts.{Text, text_cmp}
use Rattle.dr_run_serve.specs.Pasts.{is_uid, known_in, later}
use Rattle.dr_run_serve.proofs.Noting.{as_before, ends_then, stays_kept}
use Rattle.dr_run_serve.proofs.past.Past.note_end.Goals as goal

pub returns-then-contains-clause-known : goal.returns-then-contains-clause-known
returns-then-contains-clause-known c = λ q. stays_kept (known_in c.args.self.now) c.args.uid.now c.args.now (sym c.contains.ensures ∙ c.if-contains.true) q

pub returns-clause-known : goal.returns-clause-known
returns-clause-known c = λ q.
    let uid = c.args.uid.now in
    let old = c.args.self.now in
    let updates : (r : Text) → tree.get text_cmp c.insert.new.self r ≡ cond (is_uid uid r) (Some c.later-end.result) (tree.get text_cmp old.ends r) = λ r.
    c.in_ok-_known.ensures.updates.0 r ∙ ap (λ (t : Text). cond (is_at (text_cmp t) r) (Some c.later-end.result) (tree.get text_cmp old.ends r)) c.in_ok-copy.ensures in
    let end : Some c.later-end.result ≡ later (tree.get text_cmp old.ends uid) c.args.now = c.later-end.ensures ∙ ap (λ (o : Option ℕ). later o c.args.now) c.get.ensures.value in
    ends_then (known_in old) (λ r. tree.get text_cmp c.insert.new.self r) uid c.args.now c.later-end.result (sym c.contains.ensures ∙ c.if-contains.false) end updates q

-- what holds anyhow holds where an error is answered
on_err : {A E P : Type 0} (r : Result A E) → P → OnErr r P
on_err (Ok x) p = tt
on_err (Err e) p = p

pub returns-in_err-_known-clause-same : goal.returns-in_err-_known-clause-same
returns-in_err-_known-clause-same c = on_err c.from_residual-in_err-_known.result (as_before c.args.self.now.kept c.args.self.now.ends c.insert.new.self c.in_err-_known.ensures.err)

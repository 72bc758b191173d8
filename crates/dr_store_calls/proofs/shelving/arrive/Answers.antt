use Rattle.std.proofs.Common.{◌≡◌, ◌<◌, ◌∙◌, ℕ, List, length, ap, subst, sym, Option, refl, true≢false}
use Rattle.sqlite.specs.Held.{state}
use Rattle.dr_route.specs.declared.key.Key.{Key}
use Rattle.dr_site.specs.Routing.{HasLineFor}
use Rattle.dr_ledger.specs.declared.content.Job.{Job}
use Rattle.dr_ledger.specs.declared.item.Instance.{Instance}
use Rattle.dr_ledger.specs.Items.{IsItem, instance_of}
use Rattle.dr_store_calls.specs.Shelving.{IsPut}
use Rattle.dr_store_calls.proofs.Shelved.{has_bytes, no_line, received_item}
use Rattle.dr_store_calls.proofs.Takings.{is_small}
use Rattle.dr_store_calls.proofs.shelving.arrive.Goals as goal

pub receive-requires-clause-delivered : goal.receive-requires-clause-delivered
receive-requires-clause-delivered g c =
    let P : Key → Type 0 = λ key. HasLineFor c.args.site.now c.args.caller.now key in
    let key = c.key.ensures ∙ sym (ap (λ (i : Instance). i.key) c.in-Ok.ensures) in
    let Some : List ℕ → Type 0 = λ bytes. 0 < length bytes in
    record {
      line = subst P key (c.has_line.ensures.0 c.if-not-has_line.false);
      size = is_small c.into_job-job.result c.in-Ok.instance c.into_job-job.ensures.item (c.in-Ok.ensures ∙ sym (ap (λ (j : Job). instance_of j) c.into_job-job.ensures.same));
      some = subst Some (sym c.as_bytes.ensures) (has_bytes c.into_job-job.result c.into_job-job.ensures.item);
    }

pub returns-in-Ok-clause-called : goal.returns-in-Ok-clause-called
returns-in-Ok-clause-called g c =
    let Is : Job → Type 0 = λ job. IsItem job in
    let shelf = c.receive.new.shelf in
    let Comes : List ℕ → Option (List ℕ) → Type 0 = IsPut (shelf ≡ c.args.shelf.now) (g.B.Shelf.uses c.args.shelf.now) (g.B.Shelf.uses shelf) (g.B.Shelf.stands shelf) (g.B.Shelf.apart (g.B.Shelf.named c.args.shelf.now)) in
    let own = c.as_bytes.ensures ∙ ap (λ (j : Job). j.body) c.into_job-job.ensures.same in
    received_item Comes c.args.line.n c.args.site.now c.args.caller.now c.args.item c.in-Ok.instance _ c.receive.result (state g.S.Store c.args.conn.now) (state g.S.Store c.receive.new.conn)
    (subst Is c.into_job-job.ensures.same c.into_job-job.ensures.item) c.in-Ok.ensures own c.receive.ensures.called

pub returns-then-not-has_line-clause-called : goal.returns-then-not-has_line-clause-called
returns-then-not-has_line-clause-called g c =
    let shelf = c.args.shelf.now in
    let Uses = g.B.Shelf.uses shelf in
    let Comes : List ℕ → Option (List ℕ) → Type 0 = IsPut (shelf ≡ shelf) Uses Uses (g.B.Shelf.stands shelf) (g.B.Shelf.apart (g.B.Shelf.named c.args.shelf.now)) in
    let P : Key → Type 0 = λ key. HasLineFor c.args.site.now c.args.caller.now key → ⊥ in
    no_line Comes c.args.line.n c.args.site.now c.args.caller.now c.args.item (state g.S.Store c.args.conn.now) refl
    (subst P c.key.ensures (λ line. true≢false (sym (c.has_line.ensures.1 line) ∙ c.if-not-has_line.true)))

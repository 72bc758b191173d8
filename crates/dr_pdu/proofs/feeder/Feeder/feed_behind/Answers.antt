use Rattle.std.proofs.Common.{◌≡◌, ◌∙◌, sym, ap, subst, refl, List, ℕ, true, false, Ok, Err, drop}
use Rattle.dr_pdu.specs.Feeding.{Feeding, Gathers, Feeds}
use Rattle.dr_pdu.proofs.FeedLemmas.{units_feed, refused_feed}
use Rattle.dr_pdu.proofs.feeder.Feeder.feed_behind.Goals as goal

pub returns-in-Ok : goal.returns-in-Ok
returns-in-Ok c =
    let old : Feeding = record { limit = c.self.inside.limit; failed = c.self.inside.failed; kept = c.self.inside.kept.items } in
    let new : Feeding = record { limit = c.self.inside.limit; failed = c.self.inside.failed; kept = c.drop_front.new.kept.items } in
    let works : c.self.inside.failed ≡ false = ap (λ (f : Feeding). f.failed) c.self.view_is ∙ c.requires in
    subst (λ (f : Feeding). Feeds f c.args.piece.now (Ok c.in-Ok.pdus) new) c.self.view_is
    (units_feed old c.args.piece.now c.as_slice.result.now c.in-Ok.pdus c.in-Ok.used new works
    (c.as_slice.ensures ∙ c.in_ok-extend_from_slice.ensures.ok) c.in-Ok.ensures refl works (c.drop_front.ensures ∙ ap (λ (t : List ℕ). drop c.in-Ok.used t) (sym c.as_slice.ensures)))

pub returns-in_default : goal.returns-in_default
returns-in_default c =
    let old : Feeding = record { limit = c.self.inside.limit; failed = c.self.inside.failed; kept = c.self.inside.kept.items } in
    let new : Feeding = record { limit = c.self.inside.limit; failed = true; kept = c.clear.new.self.items } in
    let works : c.self.inside.failed ≡ false = ap (λ (f : Feeding). f.failed) c.self.view_is ∙ c.requires in
    let whole = c.as_slice.ensures ∙ c.in_ok-extend_from_slice.ensures.ok in
    subst (λ (f : Feeding). Feeds f c.args.piece.now (Err c.in-Err.fault) new) c.self.view_is
    (refused_feed old c.args.piece.now c.in-Err.fault new works c.in_default.not-Memory
    (subst (λ (t : List ℕ). Gathers c.self.inside.limit t (Err c.in-Err.fault)) whole c.in-Err.ensures)
    (ap (λ (k : List ℕ). let f : Feeding = record { limit = c.self.inside.limit; failed = true; kept = k } in f) c.clear.ensures.items))

use Rattle.std.proofs.Common.{◌≡◌, ◌++◌, [], ◌∙◌, sym, ap, subst, refl, List, ℕ, true, false, Ok, Err, take, drop, length, ◌-◌}
use Rattle.std.proofs.lemmas.List.{take_rest}
use Rattle.dr_pdu.specs.Feeding.{Feeding, Gathers, Feeds}
use Rattle.dr_pdu.proofs.FeedLemmas.{units_feed, refused_feed}
use Rattle.dr_pdu.proofs.feeder.Feeder.feed_alone.Goals as goal

pub returns-in_ok-extend_from_slice-in-Ok : goal.returns-in_ok-extend_from_slice-in-Ok
returns-in_ok-extend_from_slice-in-Ok c =
    let kept = c.extend_from_slice.new.self.items in
    let old : Feeding = record { limit = c.self.inside.limit; failed = c.self.inside.failed; kept = c.self.inside.kept.items } in
    let new : Feeding = record { limit = c.self.inside.limit; failed = c.self.inside.failed; kept = kept } in
    let works : c.self.inside.failed ≡ false = ap (λ (f : Feeding). f.failed) c.self.view_is ∙ c.requires.works in
    let none : c.self.inside.kept.items ≡ [] = ap (λ (f : Feeding). f.kept) c.self.view_is ∙ c.requires.nothing_kept in
    let whole : c.args.piece.now ≡ c.self.inside.kept.items ++ c.args.piece.now = ap (λ (t : List ℕ). t ++ c.args.piece.now) (sym none) in
    let behind : List ℕ = take (length c.args.piece.now - c.in-Ok.used) (drop c.in-Ok.used c.args.piece.now) in
    let rest : kept ≡ drop c.in-Ok.used c.args.piece.now =
    c.in_ok-extend_from_slice-in-Ok.ensures.ok ∙ ap (λ (t : List ℕ). t ++ behind) none ∙ take_rest c.args.piece.now c.in-Ok.used in
    subst (λ (f : Feeding). Feeds f c.args.piece.now (Ok c.in-Ok.pdus) new) c.self.view_is
    (units_feed old c.args.piece.now c.args.piece.now c.in-Ok.pdus c.in-Ok.used new works whole c.in-Ok.ensures refl works rest)

pub returns-in_default : goal.returns-in_default
returns-in_default c =
    let old : Feeding = record { limit = c.self.inside.limit; failed = c.self.inside.failed; kept = c.self.inside.kept.items } in
    let new : Feeding = record { limit = c.self.inside.limit; failed = true; kept = c.self.inside.kept.items } in
    let works : c.self.inside.failed ≡ false = ap (λ (f : Feeding). f.failed) c.self.view_is ∙ c.requires.works in
    let none : c.self.inside.kept.items ≡ [] = ap (λ (f : Feeding). f.kept) c.self.view_is ∙ c.requires.nothing_kept in
    subst (λ (f : Feeding). Feeds f c.args.piece.now (Err c.in-Err.fault) new) c.self.view_is
    (refused_feed old c.args.piece.now c.in-Err.fault new works c.in_default.not-Memory
    (subst (λ (t : List ℕ). Gathers c.self.inside.limit (t ++ c.args.piece.now) (Err c.in-Err.fault)) (sym none) c.in-Err.ensures)
    (ap (λ (k : List ℕ). let f : Feeding = record { limit = c.self.inside.limit; failed = true; kept = k } in f) none))

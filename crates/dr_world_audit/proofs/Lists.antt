-- Lists of hops as they grow.
use Rattle.std.specs.Prelude.{◌≡◌, List, [], ◌∷◌, ◌++◌}
use Rattle.std.proofs.Common.{refl, sym, ap, ◌∙◌}
use Rattle.std.proofs.lemmas.List.{append-nil, append_assoc}
use Rattle.dr_world_audit.specs.declared.hop.AuditHop.{AuditHop as Held}
use Rattle.dr_world_audit.specs.declared.trail.Trail.{Trail}
use Rattle.dr_world_audit.specs.Hops.{Notes, grows_by, held, hop_of}
use Rattle.dr_world_journals.specs.Hops.{Hop}

pub held_append : (a b : List Hop) → held (a ++ b) ≡ held a ++ held b
held_append [] b = refl
held_append (hop ∷ a) b = ap (λ hs. hop_of hop ∷ hs) (held_append a b)

-- one after the other
pub grown : (old : List Held) (a : List Hop) (mid : List Held) (b : List Hop) (new : List Held) → grows_by old a mid → grows_by mid b new → grows_by old (a ++ b) new
grown old a mid b new f g = g ∙ (ap (λ hs. hs ++ held b) f ∙ (append_assoc old (held a) (held b) ∙ ap (λ hs. old ++ hs) (sym (held_append a b))))

pub same : (old new : List Held) → new ≡ old → grows_by old [] new
same old new is = is ∙ sym (append-nil old)

pub notes_nothing : (t : Trail) → Notes t [] [] [] t
notes_nothing t = record { arrivals = same t.came.items t.came.items refl; reasons = same t.sent.items t.sent.items refl; successes = same t.done.items t.done.items refl }

pub notes_on : (a : Trail) (came sent done : List Hop) (b : Trail) (came' sent' done' : List Hop) (c : Trail) → Notes a came sent done b → Notes b came' sent' done' c → Notes a (came ++ came') (sent ++ sent') (done ++ done') c
notes_on a came sent done b came' sent' done' c f g = record {
  arrivals = grown a.came.items came b.came.items came' c.came.items f.arrivals g.arrivals;
  reasons = grown a.sent.items sent b.sent.items sent' c.sent.items f.reasons g.reasons;
  successes = grown a.done.items done b.done.items done' c.done.items f.successes g.successes;
}

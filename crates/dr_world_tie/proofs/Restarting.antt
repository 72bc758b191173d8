-- A restart: the callers of the node leave, one after the other.
use Rattle.std.proofs.Common.{◌≡◌, ◌≢◌, ℕ, Bool, List, [], ◌∷◌, Option, refl, sym, subst, ◌∙◌, inl, inr}
use Rattle.std.specs.Prelude.{if◌then◌else◌}
use Rattle.std.specs.List.{AllByRecursion}
use Rattle.dr_base.specs.Texts.{Text}
use Rattle.dr_plan_model.specs.Networks.{Network}
use Rattle.dr_plan_sound.specs.declared.certificate.Certificate.{Certificate}
use Rattle.dr_ledger.proofs.Maps.{texts, same_or_not, ties_itself}
use Rattle.dr_world_model.specs.Worlds.{World, Link, with_links}
use Rattle.dr_world_model.specs.Calls.{Answer}
use Rattle.dr_world_model.specs.Steps.{LeaveAll, callers_of, links_without}
use Rattle.dr_session.specs.declared.ends.Input.TheVariants.{Ended}
use Rattle.dr_session.specs.declared.ends.Moment.{Moment}
use Rattle.dr_world_tie.specs.Desks.{Desk}
use Rattle.dr_world_tie.specs.Channels.{Channel}
use Rattle.dr_world_tie.specs.Ties.{IsDeskOf, OnlyHere, with_desk, EndAll, AreCallers, RestartLeaves}
use Rattle.dr_world_tie.proofs.CallerLeaving.{caller_leaves}

abbrev AreDesks : World → (Text → Desk) → Type 0
AreDesks w desks = (name : Text) → IsDeskOf w name (desks name)

-- the desks after one node's call
pub desks_after : (w v : World) (number : ℕ) (caller : Text) (desks : Text → Desk) (t : Desk) → AreDesks w desks → IsDeskOf v caller t → OnlyHere w v number caller → AreDesks v (with_desk desks caller t)
desks_after w v number caller desks t all here only name = elim (same_or_not texts name caller) [
  | inl same ↦ subst (λ (n : Text). IsDeskOf v n (with_desk desks caller t n)) (sym same)
      (subst (λ (b : Bool). IsDeskOf v caller (if b then t else desks caller)) (sym (ties_itself texts caller)) here)
  | inr apart ↦ subst (λ (b : Bool). IsDeskOf v name (if b then t else desks name)) (sym apart)
      ((all name).0 ∙ sym (only.books name apart), (all name).1 ∙ sym (only.armed name apart))
]

callers_still : (plan : Network) (certificate : Certificate) (w v : World) (number : ℕ) (name : Text) (links : ℕ → Link) (channels : ℕ → Channel) (more : List ℕ) → OnlyHere w v number name
    → AllByRecursion (λ other. other ≢ number) more → AreCallers plan certificate w links channels more → AreCallers plan certificate v links channels more
callers_still plan certificate w v number name links channels [] only apart h = tt
callers_still plan certificate w v number name links channels (other ∷ more) only apart (at, on, shows, distinct, rest) =
    (only.links other apart.0 ∙ at, on, shows, distinct, callers_still plan certificate w v number name links channels more only apart.1 rest)

end_all : (plan : Network) (certificate : Certificate) (links : ℕ → Link) (channels : ℕ → Channel) (moment : Moment) (ns : List ℕ) (w : World) (desks new : Text → Desk) → AreDesks w desks
    → AreCallers plan certificate w links channels ns → moment.now ≡ w.time → EndAll plan links channels moment ns desks new
    → (mid : World) × (answers : List (Option Answer)) × LeaveAll w ns answers mid × AreDesks mid new
end_all plan certificate links channels moment [] w desks new all callers time e = (w, [], refl, subst (λ (d : Text → Desk). AreDesks w d) (sym e) all)
end_all plan certificate links channels moment (number ∷ more) w desks new all (at, on, shows, distinct, rest) time (x, t, r, later) =
    let one = caller_leaves plan certificate w number (links number) (channels number) (desks (links number).caller) at (all (links number).caller) shows on moment time Ended (inl refl) x t r in
    let h = one.1 in
    let i = end_all plan certificate links channels moment more h.after (with_desk desks (links number).caller t) new
    (desks_after w h.after number (links number).caller desks t all h.desk h.only)
    (callers_still plan certificate w h.after number (links number).caller links channels more h.only distinct rest) (time ∙ sym h.only.rest.0) later in
    (i.0, one.0 ∷ i.1, (h.after, h.step, i.2), i.3)

pub restart_leaves : RestartLeaves
restart_leaves plan certificate w node links channels desks new all callers moment time e =
    let r = end_all plan certificate links channels moment (callers_of w node) w desks new all callers time e in
    (with_links r.0 (links_without r.0.links node), r.1, (r.0, r.2, refl), r.3)

-- A journal of a site's node, by the plan.
use Rattle.std.specs.Prelude.{◌≡◌, List, [], ◌∷◌, ◌++◌, Contains, Err}
use Rattle.std.proofs.Common.{refl, sym, ap, subst, ◌∙◌}
use mathlib.Core.Logic.{inl, inr}
use Rattle.std.specs.FinMap as map
use Rattle.dr_base.specs.Texts.{Text}
use Rattle.dr_route.specs.Routes.{local}
use Rattle.dr_plan_model.specs.Networks.{Network}
use Rattle.dr_plan_model.specs.Walks.{Goes}
use Rattle.dr_plan_model.proofs.WalksAlike.{not_known_local}
use Rattle.dr_plan_sound.specs.declared.certificate.Certificate.{Certificate}
use Rattle.dr_plan_sound.proofs.Hopping.{goes_to}
use Rattle.dr_site.specs.Parts.{Part, IsPartOf}
use Rattle.dr_site.specs.Sites.{IsCertified}
use Rattle.dr_ledger.specs.declared.item.Instance.{Instance}
use Rattle.dr_ledger.specs.Books.{Book, Line, Arrival, Repeat, Settling, Requeuing, Dropping, Forgetting, Adoption, Fold, after, empty_book, since_adoption}
use Rattle.dr_ledger.specs.Histories.{IsHistory, IsSince}
use Rattle.dr_ledger.specs.Pairs.{pair_cmp}
use Rattle.dr_ledger.specs.PlanRoutes.{plan_routing}
use Rattle.dr_ledger.specs.Routings.{Agree, Routing}
use Rattle.dr_ledger.specs.SiteRoutes.{site_routing}
use Rattle.dr_ledger.proofs.Agreeing.{agree_in_histories}
use Rattle.dr_ledger.proofs.Folding.{folds_have_their_lines}
use Rattle.dr_ledger.proofs.Since.{since_is}
use Rattle.dr_ledger.proofs.SiteAgreeing.{sites_agree}
use Rattle.dr_ledger.proofs.Solid.{pasts_make_solid_books}
use Rattle.dr_world_model.specs.Claims.{IsToSend}
use Rattle.dr_world_model.proofs.AdoptionsKept.{no_row}
use Rattle.dr_world_model.proofs.Walking.{goes_reached}
use Rattle.dr_world_audit.specs.declared.audit.NodeJournal.{NodeJournal}
use Rattle.dr_world_audit.specs.declared.audit.AuditStop.{AuditStop}
use Rattle.dr_world_audit.specs.declared.audit.AuditStop.TheVariants as stop
use Rattle.dr_world_audit.specs.declared.fault.JournalFault.{JournalFault}
use Rattle.dr_world_audit.specs.declared.fault.JournalFault.TheVariants as fault
use Rattle.dr_world_audit.specs.declared.trail.Trail.{Trail}
use Rattle.dr_world_audit.specs.Hops.{Notes}
use Rattle.dr_world_audit.specs.Readings.{IsJournal, IsRead, Reads}
use Rattle.dr_world_audit.specs.Sites.{IsUnfair, NotesNode, ShowsNode, TellsNode, lines_at}
use Rattle.dr_world_audit.specs.Stops.{ReadsNode, RefusesNode, StopsFor}
use Rattle.dr_world_audit.specs.Standing.{FitsAt}
use Rattle.dr_world_journals.specs.Hops.{Hop, came_to, done_at, goals, sent_from, standing, to_each, went, went_by}
use Rattle.dr_world_journals.specs.Journals.{until_adoption}
use Rattle.dr_world_journals.proofs.Hopping.{row_goals}

back : (site plan : Routing) → Agree site plan → Agree plan site
back site plan agree = record {
  lines = λ caller key. (let l = agree.lines caller key in (λ h. l.1 h, λ h. l.0 h));
  targets = λ caller key line. sym (agree.targets caller key ((agree.lines caller key).1 line));
  keeps = λ caller key line. sym (agree.keeps caller key ((agree.lines caller key).1 line));
}

went_agree : (site plan : Routing) → Agree site plan → (name : Text) (lines : List Line) (b : Book) → IsHistory site lines b → went site name lines ≡ went plan name lines
went_agree site plan agree name [] b h = refl
went_agree site plan agree name (Arrival caller item to keep ∷ lines) b h = ap (λ hs. went_by plan name (Arrival caller item to keep) ++ hs) (went_agree site plan agree name lines (after (Arrival caller item to keep) b) h.1)
went_agree site plan agree name (Repeat caller item ∷ lines) b h =
    ap (λ (to : List Text). to_each name item to ++ went site name lines) (agree.targets caller item.key h.0.0.line)
    ∙ ap (λ hs. went_by plan name (Repeat caller item) ++ hs) (went_agree site plan agree name lines (after (Repeat caller item) b) h.1)
went_agree site plan agree name (Settling uid dest outcome now ∷ lines) b h = went_agree site plan agree name lines (after (Settling uid dest outcome now) b) h.1
went_agree site plan agree name (Requeuing uid dest ∷ lines) b h = went_agree site plan agree name lines (after (Requeuing uid dest) b) h.1
went_agree site plan agree name (Dropping uid dest now ∷ lines) b h = went_agree site plan agree name lines (after (Dropping uid dest now) b) h.1
went_agree site plan agree name (Forgetting uid ∷ lines) b h = went_agree site plan agree name lines (after (Forgetting uid) b) h.1
went_agree site plan agree name (Adoption ∷ lines) b h = absurd h.0

module _ (plan : Network) (certificate : Certificate) (site : Part) (certified : IsCertified plan certificate) (part : IsPartOf plan certificate site) where
  agree : Agree (site_routing site) (plan_routing plan site.name)
  agree = sites_agree plan certificate site certified part

  not_local : site.name ≡ local → ⊥
  not_local is = (let n = part.node in not_known_local plan certified.formed (n.0, n.1.0.0, n.1.0.1 ∙ is))

  by_plan : (lines : List Line) → IsJournal site lines → IsSince (plan_routing plan site.name) (until_adoption lines) (Fold lines)
  by_plan lines j = agree_in_histories (site_routing site) (plan_routing plan site.name) agree (until_adoption lines) (Fold lines) j

  by_site : (lines : List Line) → IsSince (plan_routing plan site.name) (until_adoption lines) (Fold lines) → IsJournal site lines
  by_site lines j = agree_in_histories (plan_routing plan site.name) (site_routing site) (back (site_routing site) (plan_routing plan site.name) agree) (until_adoption lines) (Fold lines) j

  sent_by_plan : (lines : List Line) → IsJournal site lines → sent_from (site_routing site) site.name lines ≡ sent_from (plan_routing plan site.name) site.name lines
  sent_by_plan lines j =
      let since : since_adoption lines ≡ j.since = ap since_adoption (sym (folds_have_their_lines lines)) ∙ since_is (site_routing site) (until_adoption lines) (Fold lines) j in
      let P : List Line → Type 0 = λ ls. IsHistory (site_routing site) ls (Fold (until_adoption lines)) in
      ap (λ hs. standing site.name (Fold (until_adoption lines)) (goals (until_adoption lines)) ++ hs)
      (went_agree (site_routing site) (plan_routing plan site.name) agree site.name (since_adoption lines) (Fold (until_adoption lines)) (subst P (sym since) j.history))

  fit_by_plan : (lines : List Line) → IsJournal site lines → ((at : Text × Text) → Contains (goals (until_adoption lines)) at → FitsAt plan site.name (Fold (until_adoption lines)) at) →
      (to : Text) (item : Instance) → IsToSend (Fold (until_adoption lines)) item to → Goes plan item.key site.name to
  fit_by_plan lines j fits to item s =
      let goal : Contains (goals (until_adoption lines)) (item.uid, to) = elim (row_goals (until_adoption lines) empty_book (item.uid, to) j.accepted (s.row, s.at)) [
        | inl none ↦ absurd (no_row none.0 (sym (map.get-empty pair_cmp (item.uid, to)) ∙ none.1))
        | inr goal ↦ goal
      ] in
      goes_to plan item.key site.name to not_local (fits (item.uid, to) goal item (record { row = s.row; at_goal = s.at; has = s.has }))

  module _ (ours : List Text) (node : NodeJournal) (named : site.name ≡ node.name) where
    -- the node was read
    pub node_read : (old new : Trail) → IsRead plan site (lines_at node) old new → ((line : Line) → Contains (lines_at node) line → IsUnfair ours line → ⊥) → ShowsNode plan ours node × NotesNode plan node old new
    node_read old new read fair =
        let lines = lines_at node in
        let P : Text → Type 0 = λ n. IsSince (plan_routing plan n) (until_adoption lines) (Fold lines) in
        let G : Text → Type 0 = λ n. (to : Text) (item : Instance) → IsToSend (Fold (until_adoption lines)) item to → Goes plan item.key n to in
        let Q : Text → Type 0 = λ n. Notes old (came_to n lines) (sent_from (plan_routing plan n) n lines) (done_at n lines) new in
        let S : List Hop → Type 0 = λ hs. Notes old (came_to site.name lines) hs (done_at site.name lines) new in (
          record { own = subst P named (by_plan lines read.own); fit = subst G named (fit_by_plan lines read.own read.fit); fair = fair },
          subst Q named (subst S (sent_by_plan lines read.own) read.notes),
        )

    -- the node can't be read
    pub node_stops : (old new : Trail) (why : JournalFault) (s : AuditStop) → StopsFor node why s → Reads plan site (lines_at node) old new (Err why) → ReadsNode plan ours node old new (Err s)
    node_stops old new fault.NoCall (stop.No mismatch) is reads =
        let lines = lines_at node in
        let P : Text → Type 0 = λ n. IsSince (plan_routing plan n) (until_adoption lines) (Fold lines) in
        subst (TellsNode plan ours node) (sym is) (refl, λ own. reads (by_site lines (subst P (sym named) own)))
    node_stops old new (fault.Unfit uid to) (stop.No mismatch) is reads =
        let lines = lines_at node in
        let u = reads.1 in
        let item = u.0 in
        let same : item.uid ≡ uid = (pasts_make_solid_books (until_adoption lines) reads.0).named uid item u.1.has in
        let b = Fold (until_adoption lines) in
        let G : Text → Type 0 = λ n. Goes plan item.key n to in
        subst (TellsNode plan ours node) (sym is) (
          refl,
          record {
            item = item;
            named = same;
            stood = record { row = u.1.row; at = ap (λ t. map.get b.rows (t, to)) same ∙ u.1.at_goal; has = ap (map.get b.items) same ∙ u.1.has };
            nowhere = λ goes. u.2 (goes_reached plan item.key site.name to (subst G (sym named) goes));
          },
        )
    node_stops old new fault.Memory (stop.No mismatch) is reads = absurd is
    node_stops old new fault.NoCall (stop.Fault other) is reads = subst (RefusesNode plan node) (sym is) tt
    node_stops old new (fault.Unfit uid to) (stop.Fault other) is reads = subst (RefusesNode plan node) (sym is) tt
    node_stops old new fault.Memory (stop.Fault other) is reads = subst (RefusesNode plan node) (sym is) tt

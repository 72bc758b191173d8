-- A node that comes to no link.
use Rattle.std.proofs.Common.{◌≡◌, ℕ, Bool, true, false, Option, None, Some, Result, Ok, Err, refl, sym, ap, subst, ◌∙◌, inl, inr}
use Rattle.std.specs.Prelude.{if◌then◌else◌}
use Rattle.dr_base.specs.Texts.{Text}
use Rattle.dr_plan_model.specs.Networks.{Network}
use Rattle.dr_plan_sound.specs.declared.certificate.Certificate.{Certificate}
use Rattle.dr_site.specs.Sites.{IsCertified}
use Rattle.dr_ledger.specs.declared.fault.LedgerFault.{LedgerFault}
use Rattle.dr_ledger.specs.declared.item.Outcome.TheVariants.{Broken}
use Rattle.dr_ledger.specs.Replies.{Dues, Reads}
use Rattle.dr_ledger.proofs.Maps.{texts, same_or_not, ties_itself}
use Rattle.dr_session.specs.Desks.{Settle, Settling}
use Rattle.dr_session.specs.Ledgers.{Desk}
use Rattle.dr_node.specs.Desks.{SettlesDue, told_of}
use Rattle.dr_world_model.specs.Worlds.{same_text}
use Rattle.dr_world_model.specs.Calls.{Answer}
use Rattle.dr_world_tie.specs.Desks.{LedgerStep}
use Rattle.dr_world_tie.specs.Ties.{with_desk}
use Rattle.dr_world_tie.specs.ByteWorlds.{ByteWorld, Away, note_of, with_call}
use Rattle.dr_world_tie.proofs.Sites.{site_steps}
use Rattle.dr_world.specs.Shows.{Contents, Seat, Becomes, IsSeated, ShowsBytes, with_desk_of}
use Rattle.dr_world.specs.Laws.{AwayIsShown, away_note, with_seats}
use Rattle.dr_world.proofs.AtNodes.{called, desk_there, node_named}

-- a desk that is put where it was
still_there : (b : ByteWorld) (name : Text) (t : Desk) → t ≡ b.desks name → (other : Text) → b.desks other ≡ with_desk b.desks name t other
still_there b name t is other = elim (same_or_not texts other name) [
  | inl same ↦ ap b.desks same ∙ (sym is ∙ sym (ap (λ (x : Bool). if x then t else b.desks other) (ties same)))
  | inr apart ↦ sym (ap (λ (x : Bool). if x then t else b.desks other) apart)
]
  where
    ties : other ≡ name → same_text other name ≡ true
    ties same = ap (λ (n : Text). same_text n name) same ∙ ties_itself texts name

-- then nothing has changed
unchanged : (c : Contents) (b : ByteWorld) → ShowsBytes c b → (name : Text) (seat : Seat) → c.seats name ≡ Some seat → (t : Desk) → t ≡ seat.desk → ShowsBytes (with_seats c name (with_desk_of seat t)) b
unchanged c b s name seat is t same =
    let h = called c b s name seat is t in record {
      time = h.time;
      opened = h.opened;
      desks = λ other. still_there b name t (same ∙ sym (desk_there c b s name seat is)) other ∙ h.desks other;
      links = h.links;
      sides = h.sides;
      fresh = h.fresh;
    }

told_note : (uid : Text) (answer : Answer) → away_note (told_of uid answer) ≡ note_of answer
told_note uid (Ok done) = refl
told_note uid (Err why) = refl

module _ (plan : Network) (certificate : Certificate) (certified : IsCertified plan certificate) (c : Contents) (b : ByteWorld) (seated : IsSeated plan certificate c.seats) (s : ShowsBytes c b) (name : Text) (seat : Seat) (is : c.seats name ≡ Some seat)
    (to : Text) (result : Result (Option Text) LedgerFault) (t : Desk) where
  -- what the ledger tells, it tells in the world of bytes
  told_there : (due : Result (Option Text) LedgerFault) → Reads due (Dues seat.desk.book to c.now) → Reads due (Dues (b.desks name).book to b.time)
  told_there due told =
      let P : ℕ × Desk → Type 0 = λ x. Reads due (Dues x.1.book to x.0) in
      subst P (λ j. (sym s.time j, sym (desk_there c b s name seat is) j)) told

  by_due : (due : Result (Option Text) LedgerFault) → Reads due (Dues seat.desk.book to c.now) → SettlesDue to c.now seat.desk due result t →
      Becomes plan certificate b (Away name to) (away_note result) (with_seats c name (with_desk_of seat t))
  by_due (Ok None) told h = (b, inl (node_named plan certificate c seated name seat is, (Ok None, told_there (Ok None) told, (ap away_note h.0, refl))), unchanged c b s name seat is t h.1)
  by_due (Err why) told h = (b, inl (node_named plan certificate c seated name seat is, (Err why, told_there (Err why) told, (ap away_note h.0, refl))), unchanged c b s name seat is t h.1)
  by_due (Ok (Some uid)) told (answer, settles, arms, noted) =
      let e = seated.each name seat is in
      let here : LedgerStep plan seat.site.name seat.desk (Settle uid to Broken c.now) (Settling answer) t =
      site_steps plan certificate seat.site certified e.1 seat.desk t (Settle uid to Broken c.now) (Settling answer) (settles, arms) in
      let P : Text × ℕ × Desk → Type 0 = λ x. LedgerStep plan x.0 x.2 (Settle uid to Broken x.1) (Settling answer) t in
      let there : LedgerStep plan name (b.desks name) (Settle uid to Broken b.time) (Settling answer) t = subst P (λ j. (e.0 j, sym s.time j, sym (desk_there c b s name seat is) j)) here in
      let node = node_named plan certificate c seated name seat is in
      (with_call b name t, inl (node, (Ok (Some uid), told_there (Ok (Some uid)) told, (answer, t, there, ap away_note noted ∙ told_note uid answer, refl))), called c b s name seat is t)

pub stays_away : AwayIsShown
stays_away plan certificate certified c b seated s name seat is to result t (due, told, h) =
    by_due plan certificate certified c b seated s name seat is to result t due told h

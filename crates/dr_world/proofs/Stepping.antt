-- A call on one node of a world is a step of the world of bytes.
use Rattle.std.proofs.Common.{◌≡◌, ℕ, ◌+◌, ◌^◌, Bool, true, false, cond, Option, None, Some, refl, sym, ap, subst, ◌∙◌, inl, inr}
use Rattle.std.specs.Prelude.{min}
use Rattle.std.specs.Option.{option_map}
use Rattle.std.specs.BTreeMap as tree
use Rattle.std.specs.BTreeMap.{BTreeMap}
use Rattle.dr_base.specs.Texts.{Text, text_cmp}
use Rattle.dr_plan_model.specs.Networks.{Network}
use Rattle.dr_plan_sound.specs.declared.certificate.Certificate.{Certificate}
use Rattle.dr_site.specs.Sites.{IsCertified}
use Rattle.dr_ledger.specs.declared.ledger.Ledger.{Ghosts}
use Rattle.dr_ledger.specs.declared.content.Job.{Job}
use Rattle.dr_ledger.proofs.Maps.{texts, same_or_not, ties_itself}
use Rattle.dr_session.specs.Ledgers.{Desk}
use Rattle.dr_node.specs.declared.node.Node.{Node}
use Rattle.dr_world_model.specs.Worlds.{same_text}
use Rattle.dr_world_tie.specs.ByteWorlds.{ByteWorld, WorldStep}
use Rattle.dr_world_tie.specs.ByteWorlds.{Submit, Away, Requeue, Drop, Forget, Refuse, Tick}
use Rattle.dr_world_tie.specs.ByteWorlds as bytes
use Rattle.dr_world.specs.declared.steps.StepNote.{StepNote}
use Rattle.dr_world.specs.declared.steps.StepNote.TheVariants.{Done, UnderWay}
use Rattle.dr_world.specs.declared.world.World.{World}
use Rattle.dr_world.specs.Shows.{Contents, Seat, Seats, ShowsBytes, IsSeated, Becomes, with_seat, with_desk_of}
use Rattle.dr_world.specs.Laws.{IsAtNode, with_seats, with_time}
use Rattle.dr_world.specs.Forgotten.{is_under_way}
use Rattle.dr_world.specs.Nodes.{seat_of}
use Rattle.dr_world.specs.Whole.{AllStand, Calls, CallsIn, GivesUp, HasTicked, IsToldToRefuse, LetsGoOf, Puts}
use Rattle.dr_world.specs.Whole.{StaysAwayFrom, StepsTo, Submits, contents, noted}
use Rattle.dr_world.proofs.AtNodes.{ticks, strangers, submits, requeues, drops, refuses}
use Rattle.dr_world.proofs.StayingAway.{stays_away}
use Rattle.dr_world.proofs.LettingGo.{forgets, none_over, some_over, under_way_stays}

-- a node whose ledger alone has changed is one of the plan still
seated : (plan : Network) (certificate : Certificate) (seats : Seats) (name : Text) (seat : Seat) (t : Desk) → seats name ≡ Some seat → IsSeated plan certificate seats → IsSeated plan certificate (with_seat seats name (with_desk_of seat t))
seated plan certificate seats name seat t is s = record {
  each = λ other x e. elim (same_or_not texts other name) [
    | inl same ↦
        let at_it : with_seat seats name (with_desk_of seat t) other ≡ Some (with_desk_of seat t) =
        ap (λ (b : Bool). cond b (Some (with_desk_of seat t)) (seats other)) (ap (λ (n : Text). same_text n name) same ∙ ties_itself texts name) in
        let both : Some (with_desk_of seat t) ≡ Some x = sym at_it ∙ e in
        let one : with_desk_of seat t ≡ x = cc in
        let was = s.each name seat is in
        subst (λ (y : Seat). (y.site.name ≡ other) × Rattle.dr_site.specs.Parts.IsPartOf plan certificate y.site) one (was.0 ∙ sym same, was.1)
    | inr apart ↦ s.each other x (sym (ap (λ (b : Bool). cond b (Some (with_desk_of seat t)) (seats other)) apart) ∙ e)
  ];
  all = λ other has. (let was = s.all other has in by_name other was.0 was.1 (same_text other name));
}
  where
    by_name : (other : Text) (x : Seat) → seats other ≡ Some x → (b : Bool) → (y : Seat) × (cond b (Some (with_desk_of seat t)) (seats other) ≡ Some y)
    by_name other x e true = (with_desk_of seat t, refl)
    by_name other x e false = (x, e)

module _ {L : Type 0} {l : Ghosts L} (old new : World L l) (note : StepNote) where
  -- the nodes are the same, so are their ledgers' premises
  same_stood : new.nodes ≡ old.nodes → AllStand new → AllStand old
  same_stood same h = let P : BTreeMap Text (Node L l) → Type 0 = λ m. (name : Text) (n : Node L l) → tree.get text_cmp m name ≡ Some n → l.stands n.desk.ledger in subst P same h

  pub ticked : (ms : ℕ) → HasTicked ms old new → StepsTo (Tick ms) old Done new
  ticked ms h = (
    same_stood h.1,
    λ plan certificate certified b s shown all.
        let c : Contents = with_time (contents old) (min (old.time.passed + ms) (2 ^ 62)) in
        (subst (λ (x : Contents). IsSeated plan certificate x.seats) (sym h.0) s, ∣ subst (λ (x : Contents). Becomes plan certificate b (Tick ms) bytes.Done x) (sym h.0) (ticks plan certificate (contents old) b shown ms) ∣₁),
  )

  module _ (does : Seat → StepNote → Desk → Type 0) (step : WorldStep) (name : Text) (at_node : IsAtNode step name)
      (shows : (plan : Network) (certificate : Certificate) → IsCertified plan certificate → (b : ByteWorld) → IsSeated plan certificate (contents old).seats → ShowsBytes (contents old) b →
      (seat : Seat) → (contents old).seats name ≡ Some seat → (t : Desk) → does seat note t → Becomes plan certificate b step (noted note) (with_seats (contents old) name (with_desk_of seat t))) where
    steps_in : (o : Option (Node L l)) → tree.get text_cmp old.nodes name ≡ o → CallsIn does o name old note new → StepsTo step old note new
    steps_in None none h = (
      same_stood h.2,
      λ plan certificate certified b s shown all.
          let b_is : Becomes plan certificate b step bytes.Skipped (contents old) = strangers plan certificate (contents old) b s shown name (ap (option_map seat_of) none) step at_node in (
            subst (λ (x : Contents). IsSeated plan certificate x.seats) (sym h.1) s,
            ∣ subst (λ (n : StepNote). Becomes plan certificate b step (noted n) (contents new)) (sym h.0) (subst (λ (x : Contents). Becomes plan certificate b step bytes.Skipped x) (sym h.1) b_is) ∣₁,
          ),
    )
    steps_in (Some n) has h = (
      h.0,
      λ plan certificate certified b s shown all.
          let d = h.1 all in
          let is : (contents old).seats name ≡ Some (seat_of n) = ap (option_map seat_of) has in (
            subst (λ (x : Contents). IsSeated plan certificate x.seats) (sym d.2) (seated plan certificate (contents old).seats name (seat_of n) d.0 is s),
            ∣ subst (λ (x : Contents). Becomes plan certificate b step (noted note) x) (sym d.2) (shows plan certificate certified b s shown (seat_of n) is d.0 d.1) ∣₁,
          ),
    )

    pub steps : Calls does name old note new → StepsTo step old note new
    steps h = steps_in (tree.get text_cmp old.nodes name) refl h

  pub submitted : (name : Text) (item : Job) → Calls (Submits item) name old note new → StepsTo (Submit name item) old note new
  submitted name item h = steps (Submits item) (Submit name item) name refl
      (λ plan certificate certified b s shown seat is t d. subst (λ (n : bytes.StepNote). Becomes plan certificate b (Submit name item) n (with_seats (contents old) name (with_desk_of seat t))) (sym d.2)
      (submits plan certificate certified (contents old) b s shown name seat is item d.0 t d.1)) h

  pub requeued : (name uid dest : Text) → Calls (Puts uid dest) name old note new → StepsTo (Requeue name uid dest) old note new
  requeued name uid dest h = steps (Puts uid dest) (Requeue name uid dest) name refl
      (λ plan certificate certified b s shown seat is t d. subst (λ (n : bytes.StepNote). Becomes plan certificate b (Requeue name uid dest) n (with_seats (contents old) name (with_desk_of seat t))) (sym d.3)
      (requeues plan certificate (contents old) b s shown name seat is uid dest d.0 t d.1 d.2)) h

  -- the moment that was read is the world's
  pub timely : (name uid dest : Text) (now : ℕ) → now ≡ old.time.passed → Calls (GivesUp uid dest now) name old note new → Calls (GivesUp uid dest old.time.passed) name old note new
  timely name uid dest now same h = subst (λ (n : ℕ). Calls (GivesUp uid dest n) name old note new) same h

  pub timely_away : (name to : Text) (now : ℕ) → now ≡ old.time.passed → Calls (StaysAwayFrom to now) name old note new → Calls (StaysAwayFrom to old.time.passed) name old note new
  timely_away name to now same h = subst (λ (n : ℕ). Calls (StaysAwayFrom to n) name old note new) same h

  pub stayed_away : (name to : Text) → Calls (StaysAwayFrom to old.time.passed) name old note new → StepsTo (Away name to) old note new
  stayed_away name to h = steps (StaysAwayFrom to old.time.passed) (Away name to) name refl
      (λ plan certificate certified b s shown seat is t d. subst (λ (n : bytes.StepNote). Becomes plan certificate b (Away name to) n (with_seats (contents old) name (with_desk_of seat t))) (sym d.2)
      (stays_away plan certificate certified (contents old) b s shown name seat is to d.0 t d.1)) h

  pub given_up : (name uid dest : Text) → Calls (GivesUp uid dest old.time.passed) name old note new → StepsTo (Drop name uid dest) old note new
  given_up name uid dest h = steps (GivesUp uid dest old.time.passed) (Drop name uid dest) name refl
      (λ plan certificate certified b s shown seat is t d. subst (λ (n : bytes.StepNote). Becomes plan certificate b (Drop name uid dest) n (with_seats (contents old) name (with_desk_of seat t))) (sym d.3)
      (drops plan certificate (contents old) b s shown name seat is uid dest d.0 t d.1 d.2)) h

  pub forgot : (name uid : Text) → is_under_way old.nodes old.wires name uid ≡ false →
      Calls (LetsGoOf uid) name old note new → StepsTo (Forget name uid) old note new
  forgot name uid none h = steps (LetsGoOf uid) (Forget name uid) name refl (
      λ plan certificate certified b s shown seat is t d.
      let then = with_seats (contents old) name (with_desk_of seat t) in
      let P : bytes.StepNote → Type 0 = λ n. Becomes plan certificate b (Forget name uid) n then in
      let free = none_over old.nodes old.wires name uid none in
      let c = contents old in
      subst P (sym d.3) (forgets plan certificate c b s shown name seat is uid d.0 t free d.1 d.2)) h

  pub told_to_refuse : (name : Text) → Calls IsToldToRefuse name old note new → StepsTo (Refuse name) old note new
  told_to_refuse name h = steps IsToldToRefuse (Refuse name) name refl
      (λ plan certificate certified b s shown seat is t d. subst (λ (n : StepNote). Becomes plan certificate b (Refuse name) (noted n) (with_seats (contents old) name (with_desk_of seat t))) (sym d.0)
      (subst (λ (u : Desk). Becomes plan certificate b (Refuse name) bytes.Done (with_seats (contents old) name (with_desk_of seat u))) (sym d.1) (refuses plan certificate (contents old) b s shown name seat is))) h

-- what is under way stays
pub stays : {L : Type 0} {l : Ghosts L} (w : World L l) (name uid : Text) →
    is_under_way w.nodes w.wires name uid ≡ true → StepsTo (Forget name uid) w UnderWay w
stays w name uid some =
    let at = some_over w.nodes w.wires name uid some in (
      (λ all. all),
      λ plan certificate certified b seated s all.
          let same = under_way_stays plan certificate (contents w) b seated s name uid at.0 at.1 in
          (seated, ∣ same ∣₁),
    )

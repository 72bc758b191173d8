-- Steps, changes of plan and what other products write, one after the other.
use Rattle.std.proofs.Common.{◌≡◌, ◌⊎◌, ℕ, ◌+◌, ◌<◌, ◌≤◌, List, [], ◌∷◌, ◌++◌, length, get_or, take, append_assoc, map as mapped, Option, None, Some, inl, inr, refl, sym, ap, subst, ◌∙◌}
use Rattle.std.specs.Prelude.{Contains}
use Rattle.std.specs.BTreeMap as tree
use Rattle.std.specs.BTreeMap.{BTreeMap}
use Rattle.std.specs.Ordering.{nat_cmp}
use Rattle.std.proofs.lemmas.List.Sorted.{Contains-permutation, IsPermutation-sym}
use Rattle.dr_base.specs.Texts.{Text}
use Rattle.dr_plan_model.specs.Plans.{AreNames, NamesNoNode}
use Rattle.dr_plan_model.specs.declared.plan.Node.{Node as PlannedNode}
use Rattle.dr_plan_model.proofs.Gathered.{Contains-cons_cases, Contains-here, Contains-there, nothing_in_nil}
use Rattle.std.proofs.Math.Logic.{∥∥₁_map, ∥∥₁_elim, ∥∥₁_prop}
use Rattle.std.proofs.lemmas.List.{append-nil, take_more, take_all}
use Rattle.std.specs.Option.{option_map}
use Rattle.dr_ledger.specs.declared.item.Outcome.TheVariants.{NoContext}
use Rattle.dr_ledger.specs.declared.ledger.Ledger.{Ghosts}
use Rattle.dr_ledger.specs.Books.{Book, Settling}
use Rattle.dr_plan_model.specs.Networks.{Network}
use Rattle.dr_plan_sound.specs.declared.certificate.Certificate.{Certificate}
use Rattle.dr_cert.specs.Sealing.{Certified}
use Rattle.dr_site.specs.Sites.{IsCertified}
use Rattle.dr_session.specs.Ledgers.{Desk}
use Rattle.dr_node.specs.declared.node.Node.{Node}
use Rattle.dr_world_model.specs.Worlds as model
use Rattle.dr_world_model.specs.Worlds.{start}
use Rattle.dr_world_model.specs.Claims.{Headline}
use Rattle.dr_world_model.specs.Events.{Event}
use Rattle.dr_world_model.specs.Runs.{Action, Adopt as Adopting, Occurs, Runs}
use Rattle.dr_world_model.proofs.FromSafety.{headline_holds}
use Rattle.dr_world_tie.specs.ByteWorlds.{ByteWorld, StepNote, WorldStep, beginning}
use Rattle.dr_world_tie.specs.Changes.{TakesPlan}
use Rattle.dr_world_tie.specs.Shown.{Comes, ShowsWorld}
use Rattle.dr_world_tie.proofs.Changes.{plans_are_adopted}
use Rattle.dr_world_tie.proofs.World.{world_steps, beside_beginning}
use Rattle.dr_world_script.specs.declared.step.Side.{Side}
use Rattle.dr_world_script.specs.declared.step.Step.{Step}
use Rattle.dr_world.specs.declared.changing.Change.{Change}
use Rattle.dr_world.specs.declared.changing.Change.TheVariants.{Adopted, Skipped, Unfit}
use Rattle.dr_world.specs.declared.deed.Deed.{Deed}
use Rattle.dr_world.specs.declared.deed.Deed.TheVariants as deed
use Rattle.dr_world.specs.declared.steps.StepNote.{StepNote as Note}
use Rattle.dr_world.specs.declared.wires.Wires.{Wires}
use Rattle.dr_world.specs.declared.world.World.{World}
use Rattle.dr_world.specs.Adopted.{AreJoining, Changes, ChangesTo, ComesTo, certificate_after, plan_after}
use Rattle.dr_world.specs.declared.fault.WorldFault.{WorldFault}
use Rattle.dr_world.specs.declared.fault.WorldFault.TheVariants as fault
use Rattle.dr_world.specs.Answered.{IsAnswered, StepsAnswered, armed_at, armed_in}
use Rattle.dr_world.specs.Nodes.{seat_of}
use Rattle.dr_world.specs.Played.{ChangesGoOn, ClaimsOfCodeCanFail, DeedsKeepTheHeadline, EndsEarly, EventsAloneLead, HasChange, HoldsThrough, IsChange, IsPlayed, IsRunOf, PlaysAll, PlaysOn, PlaysThrough, StepsAloneRun, StepsGoOn, WritesGoOn}
use Rattle.dr_world.specs.Played.{adopted_in, in_force, taken_in}
use Rattle.dr_world.specs.Ends.{named}
use Rattle.dr_world.specs.Others.{NoneWrites, Writes, WritesAt, WritesAtIn}
use Rattle.dr_world.specs.Runs.{IsReached, step_of}
use Rattle.dr_world.specs.Shows.{Contents, IsSeated, ShowsBytes, desk_at}
use Rattle.dr_world.specs.Whole.{AllStand, StepsTo, contents, noted}
use Rattle.dr_world.proofs.Among.{fit_scripts_keep_the_claims, last_in_force}
use Rattle.dr_world.proofs.Answered.{answered_there}
use Rattle.dr_world.proofs.Rewriting.{stood, written_beside}

-- ---- one deed behind others

-- a step
step_behind : (deeds : List Deed) (changes : List Change) (first plan : Network) (its certificate : Certificate) (a b c : ByteWorld) (step : Step) (note : StepNote)
    → PlaysThrough first its a deeds changes plan certificate b → StepsAnswered plan certificate b (step_of step) note c
    → PlaysThrough first its a (deeds ++ deed.Step step ∷ []) (changes ++ []) plan certificate c
step_behind [] changes first plan its certificate a b c step note h s =
    let P : Network × (Certificate × ByteWorld) → Type 0 = λ p. StepsAnswered p.0 p.1.0 p.1.1 (step_of step) note c in
    (note, c, subst P (λ j. (h.1 j, (h.2 j, h.3 j))) s, (append-nil changes ∙ h.0, h.1, h.2, refl))
step_behind (deed.Step other ∷ deeds) changes first plan its certificate a b c step note h s =
    (h.0, h.1, h.2, step_behind deeds changes first plan its certificate h.1 b c step note h.3 s)
step_behind (deed.Bytes link side bytes ∷ deeds) changes first plan its certificate a b c step note h s =
    (h.0, h.1, step_behind deeds changes first plan its certificate h.0 b c step note h.2 s)
step_behind (deed.Adopt next ∷ deeds) [] first plan its certificate a b c step note h s = absurd h
step_behind (deed.Adopt next ∷ deeds) (change ∷ changes) first plan its certificate a b c step note h s =
    (h.0, h.1, step_behind deeds changes (plan_after next.plan change first) plan (certificate_after next.certificate change its) certificate h.0 b c step note h.2 s)

-- what another product writes
write_behind : (deeds : List Deed) (changes : List Change) (first plan : Network) (its certificate : Certificate) (a b c : ByteWorld) (link : ℕ) (side : Side) (bytes : List ℕ)
    → PlaysThrough first its a deeds changes plan certificate b → Writes b link (named side) bytes c
    → PlaysThrough first its a (deeds ++ deed.Bytes link side bytes ∷ []) (changes ++ []) plan certificate c
write_behind [] changes first plan its certificate a b c link side bytes h s =
    let P : ByteWorld → Type 0 = λ z. Writes z link (named side) bytes c in
    (c, subst P h.3 s, (append-nil changes ∙ h.0, h.1, h.2, refl))
write_behind (deed.Step other ∷ deeds) changes first plan its certificate a b c link side bytes h s =
    (h.0, h.1, h.2, write_behind deeds changes first plan its certificate h.1 b c link side bytes h.3 s)
write_behind (deed.Bytes number end others ∷ deeds) changes first plan its certificate a b c link side bytes h s =
    (h.0, h.1, write_behind deeds changes first plan its certificate h.0 b c link side bytes h.2 s)
write_behind (deed.Adopt next ∷ deeds) [] first plan its certificate a b c link side bytes h s = absurd h
write_behind (deed.Adopt next ∷ deeds) (change ∷ changes) first plan its certificate a b c link side bytes h s =
    (h.0, h.1, write_behind deeds changes (plan_after next.plan change first) plan (certificate_after next.certificate change its) certificate h.0 b c link side bytes h.2 s)

-- a change of plan
change_behind : (deeds : List Deed) (changes : List Change) (first plan : Network) (its certificate : Certificate) (a b c : ByteWorld) (next : Certified) (change : Change)
    → PlaysThrough first its a deeds changes plan certificate b → Changes plan b next.plan next.certificate change c
    → PlaysThrough first its a (deeds ++ deed.Adopt next ∷ []) (changes ++ change ∷ []) (plan_after next.plan change plan) (certificate_after next.certificate change certificate) c
change_behind [] changes first plan its certificate a b c next change h s =
    let P : Network × ByteWorld → Type 0 = λ p. Changes p.0 p.1 next.plan next.certificate change c in
    let Q : List Change → Type 0 = λ cs. PlaysThrough first its a (deed.Adopt next ∷ []) (cs ++ change ∷ []) (plan_after next.plan change plan) (certificate_after next.certificate change certificate) c in
    subst Q (sym h.0) (c, subst P (λ j. (h.1 j, h.3 j)) s, (refl, ap (plan_after next.plan change) h.1, ap (certificate_after next.certificate change) h.2, refl))
change_behind (deed.Step other ∷ deeds) changes first plan its certificate a b c next change h s =
    (h.0, h.1, h.2, change_behind deeds changes first plan its certificate h.1 b c next change h.3 s)
change_behind (deed.Bytes link side bytes ∷ deeds) changes first plan its certificate a b c next change h s =
    (h.0, h.1, change_behind deeds changes first plan its certificate h.0 b c next change h.2 s)
change_behind (deed.Adopt another ∷ deeds) [] first plan its certificate a b c next change h s = absurd h
change_behind (deed.Adopt another ∷ deeds) (came ∷ changes) first plan its certificate a b c next change h s =
    (h.0, h.1, change_behind deeds changes (plan_after another.plan came first) plan (certificate_after another.certificate came its) certificate h.0 b c next change h.2 s)

-- the plan in force is one with its certificate
certified_played : (deeds : List Deed) (changes : List Change) (plan last : Network) (certificate its : Certificate) (b new : ByteWorld)
    → IsCertified plan certificate → PlaysThrough plan certificate b deeds changes last its new → IsCertified last its
certified_played [] changes plan last certificate its b new certified h =
    let P : Network × Certificate → Type 0 = λ p. IsCertified p.0 p.1 in
    subst P (λ j. (sym h.1 j, sym h.2 j)) certified
certified_played (deed.Step step ∷ deeds) changes plan last certificate its b new certified h = certified_played deeds changes plan last certificate its h.1 new certified h.3
certified_played (deed.Bytes link side bytes ∷ deeds) changes plan last certificate its b new certified h = certified_played deeds changes plan last certificate its h.0 new certified h.2
certified_played (deed.Adopt next ∷ deeds) [] plan last certificate its b new certified h = absurd h
certified_played (deed.Adopt next ∷ deeds) (Adopted ∷ changes) plan last certificate its b new certified h = certified_played deeds changes next.plan last next.certificate its h.0 new h.1.0 h.2
certified_played (deed.Adopt next ∷ deeds) (Skipped ∷ changes) plan last certificate its b new certified h = certified_played deeds changes plan last certificate its h.0 new certified h.2
certified_played (deed.Adopt next ∷ deeds) (Unfit node uid dest ∷ changes) plan last certificate its b new certified h = certified_played deeds changes plan last certificate its h.0 new certified h.2

-- ---- from world to world

module _ {L : Type 0} {l : Ghosts L} (old new : World L l) where
  pub steps_go_on : StepsGoOn old new
  steps_go_on step note h answer first its certified deeds changes played all = ∥∥₁_elim (played (h.0 all)) ∥∥₁_prop (λ r.
      let proper = certified_played deeds changes first r.0 its r.1 beginning r.3.0 certified r.3.1 in
      let after = h.1 r.0 r.1 proper r.3.0 r.2 r.3.2 all in
      let answered : IsAnswered (armed_at r.3.0) (step_of step) (noted note) = answered_there old r.3.0 r.3.2 (step_of step) (noted note) answer in
      ∥∥₁_map after.1 (λ z. (r.0, r.1, after.0, (z.0, step_behind deeds changes first r.0 its r.1 beginning r.3.0 z.0 step (noted note) r.3.1 (z.1, answered), z.2))))

  pub writes_go_on : WritesGoOn old new
  writes_go_on link side bytes note h first its certified deeds changes played all = ∥∥₁_map (played (stood old new link (named side) bytes note h all)) (λ r.
      let after = written_beside old new link (named side) bytes note h r.0 r.1 r.3.0 r.2 r.3.2 in
      (r.0, r.1, after.0, (after.1.0, write_behind deeds changes first r.0 its r.1 beginning r.3.0 after.1.0 link side bytes r.3.1 after.1.1, after.1.2)))

  -- what a change comes to, beside the bytes
  module _ (next : Certified) (proper : IsCertified next.plan next.certificate) (plan : Network) (certificate : Certificate) (b : ByteWorld) (seated : IsSeated plan certificate (contents old).seats) (shown : ShowsBytes (contents old) b) where
    change_came : (change : Change) → ComesTo plan next.plan next.certificate b change old new
        → (c : ByteWorld) × Changes plan b next.plan next.certificate change c
        × (IsSeated (plan_after next.plan change plan) (certificate_after next.certificate change certificate) (contents new).seats × ShowsBytes (contents new) c)
    change_came Adopted z = (z.1.0, (proper, z.1.1), (z.0, z.1.2))
    change_came Skipped z =
        let P : Contents → Type 0 = λ c. IsSeated plan certificate c.seats × ShowsBytes c b in
        (b, (refl, z.1), subst P (sym z.0) (seated, shown))
    change_came (Unfit node uid dest) z =
        let P : Contents → Type 0 = λ c. IsSeated plan certificate c.seats × ShowsBytes c b in
        (b, (refl, z.1, z.2, z.3), subst P (sym z.0) (seated, shown))

  pub changes_go_on : ChangesGoOn old new
  changes_go_on next proper change h first its certified deeds changes played all = ∥∥₁_elim (played (h.0 all)) ∥∥₁_prop (λ r.
      let now = certified_played deeds changes first r.0 its r.1 beginning r.3.0 certified r.3.1 in
      ∥∥₁_map (h.1 r.0 r.1 now r.3.0 r.2 r.3.2 all) (λ z.
      let c = change_came next proper r.0 r.1 r.3.0 r.2 r.3.2 change z in (
        plan_after next.plan change r.0,
        certificate_after next.certificate change r.1,
        c.2.0,
        (c.0, change_behind deeds changes first r.0 its r.1 beginning r.3.0 c.0 next change r.3.1 c.1, c.2.1),
      )))

-- ---- the headline

runs_then : (actions more : List Action) (first mid last : Network) (w v u : model.World) → Runs first w actions mid v → Runs mid v more last u → Runs first w (actions ++ more) last u
runs_then [] more first mid last w v u h k = subst (λ (p : Network × model.World). Runs p.0 p.1 more last u) (λ j. (h.0 j, h.1 j)) k
runs_then (Occurs event ∷ actions) more first mid last w v u h k = (h.0, h.1, runs_then actions more first mid last h.0 v u h.2 k)
runs_then (Adopting next ∷ actions) more first mid last w v u h k = (h.0, (h.1.0, h.1.1, runs_then actions more next mid last h.1.0 v u h.1.2 k))

adopted_behind : (actions more : List Action) → adopted_in (actions ++ more) ≡ adopted_in actions ++ adopted_in more
adopted_behind [] more = refl
adopted_behind (Occurs event ∷ actions) more = adopted_behind actions more
adopted_behind (Adopting next ∷ actions) more = ap (λ ps. next ∷ ps) (adopted_behind actions more)

-- events, and the adoptions of these plans, lead from the start to a world, under that plan
abbrev Leads : Network → List Network → Network → model.World → Type 0
Leads first taken plan w = (actions : List Action) × (adopted_in actions ≡ taken) × Runs first start actions plan w

-- a world beside the bytes to which they lead
abbrev IsFrom : Network → List Network → Network → Certificate → ByteWorld → Type 0
IsFrom first taken plan certificate b = (w : model.World) × ShowsWorld plan certificate b w × Leads first taken plan w

step_from : (first : Network) (taken : List Network) (plan : Network) (b : ByteWorld) (step : WorldStep) (note : StepNote) (w u : model.World) → Leads first taken plan w → Comes plan b step note w u → Leads first taken plan u
step_from first taken plan b step note w u by (inl same) = subst (λ (z : model.World). Leads first taken plan z) (sym same.0) by
step_from first taken plan b step note w u by (inr (e, named, h)) =
    (by.0 ++ Occurs e ∷ [], adopted_behind by.0 (Occurs e ∷ []) ∙ (append-nil (adopted_in by.0) ∙ by.1), runs_then by.0 (Occurs e ∷ []) first plan plan start w u by.2 (u, h, (refl, refl)))

-- an adoption more
adopted_from : (first : Network) (taken : List Network) (plan : Network) (certificate : Certificate) (b mid : ByteWorld) (next : Certified) → IsCertified next.plan next.certificate → TakesPlan plan b next.plan mid
    → IsFrom first taken plan certificate b → IsFrom first (taken ++ next.plan ∷ []) next.plan next.certificate mid
adopted_from first taken plan certificate b mid next proper h f =
    let a = plans_are_adopted plan next.plan certificate next.certificate proper b mid f.0 f.1 h in
    let by = f.2 in (
      a.0,
      a.2,
      (
        by.0 ++ Adopting next.plan ∷ [],
        adopted_behind by.0 (Adopting next.plan ∷ []) ∙ ap (λ (ps : List Network). ps ++ next.plan ∷ []) by.1,
        runs_then by.0 (Adopting next.plan ∷ []) first plan next.plan start f.0 a.0 by.2 ((proper.formed, proper.sound), (a.0, a.1, (refl, refl))),
      ),
    )

held : (deeds : List Deed) (changes : List Change) (first : Network) (before : List Network) (plan last : Network) (certificate its : Certificate) (b new : ByteWorld)
    → IsCertified plan certificate → NoneWrites deeds → ∥ IsFrom first before plan certificate b ∥₁ → PlaysThrough plan certificate b deeds changes last its new
    → ∥ IsFrom first (before ++ taken_in deeds changes) last its new ∥₁
held [] changes first before plan last certificate its b new certified none from h =
    let P : List Network × (Network × (Certificate × ByteWorld)) → Type 0 = λ p. ∥ IsFrom first p.0 p.1.0 p.1.1.0 p.1.1.1 ∥₁ in
    subst P (λ j. (sym (append-nil before) j, (sym h.1 j, (sym h.2 j, sym h.3 j)))) from
held (deed.Bytes link side bytes ∷ deeds) changes first before plan last certificate its b new certified none from h = absurd none
held (deed.Step step ∷ deeds) changes first before plan last certificate its b new certified none from (note, mid, h, rest) =
    held deeds changes first before plan last certificate its mid new certified none (∥∥₁_elim from ∥∥₁_prop (λ f.
    ∥∥₁_map (world_steps plan certificate certified b mid f.0 (step_of step) note f.1 h.0) (λ r. (r.0, r.2, step_from first before plan b (step_of step) note f.0 r.0 f.2 r.1)))) rest
held (deed.Adopt next ∷ deeds) [] first before plan last certificate its b new certified none from h = absurd h
held (deed.Adopt next ∷ deeds) (Adopted ∷ changes) first before plan last certificate its b new certified none from (mid, (proper, h), rest) =
    let P : List Network → Type 0 = λ taken. ∥ IsFrom first taken last its new ∥₁ in
    subst P (append_assoc before (next.plan ∷ []) (taken_in deeds changes))
    (held deeds changes first (before ++ next.plan ∷ []) next.plan last next.certificate its mid new proper none (∥∥₁_map from (adopted_from first before plan certificate b mid next proper h)) rest)
held (deed.Adopt next ∷ deeds) (Skipped ∷ changes) first before plan last certificate its b new certified none from (mid, h, rest) =
    let P : ByteWorld → Type 0 = λ z. ∥ IsFrom first before plan certificate z ∥₁ in
    held deeds changes first before plan last certificate its mid new certified none (subst P (sym h.0) from) rest
held (deed.Adopt next ∷ deeds) (Unfit node uid dest ∷ changes) first before plan last certificate its b new certified none from (mid, h, rest) =
    let P : ByteWorld → Type 0 = λ z. ∥ IsFrom first before plan certificate z ∥₁ in
    held deeds changes first before plan last certificate its mid new certified none (subst P (sym h.0) from) rest

at_first : (plan : Network) (certificate : Certificate) → IsFrom plan [] plan certificate beginning
at_first plan certificate = (start, beside_beginning plan certificate, ([], refl, (refl, refl)))

module _ {L : Type 0} {l : Ghosts L} where
  pub deeds_keep_the_headline : (w : World L l) → DeedsKeepTheHeadline w
  deeds_keep_the_headline w first its certified deeds changes played none all = ∥∥₁_elim (played all) ∥∥₁_prop (λ r.
      let last = last_in_force deeds changes first r.0 its r.1 beginning r.3.0 r.3.1 in
      ∥∥₁_map (held deeds changes first [] first r.0 its r.1 beginning r.3.0 certified none ∣ at_first first its ∣₁ r.3.1) (λ v. (
        v.0,
        (r.1, r.3.0, r.3.2, subst (λ (p : Network). ShowsWorld p r.1 r.3.0 v.0) last v.1),
        (λ name n is. sym ((v.1.desks name).0) ∙ ap (λ (d : Desk). d.book) (r.3.2.desks name ∙ ap (λ (o : Option (Node L l)). desk_at (option_map seat_of o)) is)),
        (v.2.0, v.2.1, subst (λ (p : Network). Runs first start v.2.0 p v.0) last v.2.2),
        subst (λ (p : Network). Headline p v.0) last (headline_holds first certified.sound v.2.0 r.0 v.0 v.2.2),
      )))

  pub holds_through : (old new : World L l) (done : Deed) (told : List Change) → PlaysOn done told old new → HoldsThrough done told old new
  holds_through old new done told plays first its certified deeds changes played none all =
      deeds_keep_the_headline new first its certified (deeds ++ done ∷ []) (changes ++ told) (plays first its certified deeds changes played) none all

  pub stepped_through : (old new : World L l) (step : Step) (note : Note) → StepsTo (step_of step) old note new → IsAnswered (armed_in old.nodes) (step_of step) (noted note)
      → HoldsThrough (deed.Step step) [] old new
  stepped_through old new step note h answer = holds_through old new (deed.Step step) [] (steps_go_on old new step note h answer)

  pub changed_through : (old new : World L l) (next : Certified) → IsCertified next.plan next.certificate → (change : Change) → ChangesTo next.plan next.certificate old change new → HoldsThrough (deed.Adopt next) (change ∷ []) old new
  changed_through old new next proper change h = holds_through old new (deed.Adopt next) (change ∷ []) (changes_go_on old new next proper change h)

  -- ---- one deed after the other

  pub plays_none : (w : World L l) (deeds : List Deed) → PlaysAll (take 0 deeds) [] w w
  plays_none w deeds first its certified before changes played =
      let P : List Deed × List Change → Type 0 = λ p. IsPlayed first its p.0 p.1 w in
      subst P (λ j. (sym (append-nil before) j, sym (append-nil changes) j)) played

  pub plays_more : (first old new : World L l) (deeds : List Deed) (came told after : List Change) (i : ℕ) (done : Deed) → i < length deeds
      → PlaysAll (take i deeds) came first old → after ≡ came ++ told → PlaysOn done told old new → done ≡ get_or deeds i done
      → PlaysAll (take (i + 1) deeds) after first new
  plays_more first old new deeds came told after i done less h more goes is plan its certified before changes played =
      let P : List Deed × List Change → Type 0 = λ p. IsPlayed plan its p.0 p.1 new in
      let same : (before ++ take i deeds) ++ done ∷ [] ≡ before ++ take (i + 1) deeds =
      append_assoc before (take i deeds) (done ∷ []) ∙ ap (λ (ds : List Deed). before ++ ds) (ap (λ (x : Deed). take i deeds ++ x ∷ []) is ∙ sym (take_more deeds i done less)) in
      let told_so : (changes ++ came) ++ told ≡ changes ++ after = append_assoc changes came told ∙ ap (λ (cs : List Change). changes ++ cs) (sym more) in
      subst P (λ j. (same j, told_so j)) (goes plan its certified (before ++ take i deeds) (changes ++ came) (h plan its certified before changes played))

  pub plays_all : (first new : World L l) (deeds : List Deed) (came : List Change) (i : ℕ) → length deeds ≤ i → PlaysAll (take i deeds) came first new → PlaysAll deeds came first new
  plays_all first new deeds came i all h = (let P : List Deed → Type 0 = λ ds. PlaysAll ds came first new in subst P (take_all i deeds all) h)

  -- ---- from the beginning

  -- a world in which nothing was done yet
  pub begun : (plan : Network) (certificate : Certificate) (w : World L l) → IsReached plan certificate [] w → IsPlayed plan certificate [] [] w
  begun plan certificate w reached all = ∥∥₁_map (reached all) (λ r. (plan, certificate, r.0, (r.1.0, (refl, refl, refl, r.1.1), r.1.2)))

  -- where each ledger's premise stands anyway
  pub run_of : (plan : Network) (certificate : Certificate) → IsCertified plan certificate → (first last : World L l) (deeds : List Deed) (changes : List Change)
      → IsReached plan certificate [] first → PlaysAll deeds changes first last → AllStand last → IsRunOf plan certificate deeds changes last
  run_of plan certificate certified first last deeds changes reached plays all =
      let played : IsPlayed plan certificate deeds changes last = plays plan certificate certified [] [] (begun plan certificate first reached) in (
        played all,
        (λ none. deeds_keep_the_headline last plan certificate certified deeds changes played none all),
        (λ ours fits. fit_scripts_keep_the_claims last ours plan certificate certified deeds changes (played all) fits),
      )

-- ---- a world that keeps no fault

module _ {L : Type 0} {l : Ghosts L} (old new : World L l) where
  -- it shows all that it showed
  abbrev unfailed : World L l
  unfailed = record { alloc = new.alloc; time = new.time; opened = new.opened; nodes = new.nodes; wires = new.wires; lost = None }

  pub writes_unfailed : (link : ℕ) (side : Side) (bytes : List ℕ) (note : Note) → WritesAt link (named side) bytes old note new → WritesAt link (named side) bytes old note unfailed
  writes_unfailed link side bytes note h = by (tree.get nat_cmp old.wires link) h
    where
      by : (o : Option Wires) → WritesAtIn o link (named side) bytes old note new → WritesAtIn o link (named side) bytes old note unfailed
      by None h = h
      by (Some w) h = h

  pub changes_unfailed : (next : Network) (own : Certificate) (change : Change) → ChangesTo next own old change new → ChangesTo next own old change unfailed
  changes_unfailed next own Adopted h = h
  changes_unfailed next own Skipped h = h
  changes_unfailed next own (Unfit node uid dest) h = h

-- ---- why not all is played

memory_early : (HasOne : Type 0) (f : WorldFault) → f ≡ fault.Memory → EndsEarly HasOne f
memory_early HasOne f is = subst (EndsEarly HasOne) (sym is) tt

-- the deed that failed is one of all
pub early_in : (deeds : List Deed) (i : ℕ) (done : Deed) (f : WorldFault) → i < length deeds → done ≡ get_or deeds i done → EndsEarly (IsChange done) f → EndsEarly (HasChange deeds) f
early_in deeds i (deed.Step step) fault.HalfAdopted less is h = absurd h
early_in deeds i (deed.Bytes link side bytes) fault.HalfAdopted less is h = absurd h
early_in deeds i (deed.Adopt next) fault.HalfAdopted less is h = (next, (i, less, sym is))
early_in deeds i done fault.Memory less is h = tt
early_in deeds i done fault.WrongLedgers less is h = absurd h
early_in deeds i done fault.Store less is h = absurd h

-- why there is no ledger for each name
abbrev IsUnmade : Network → List Text → WorldFault → Type 0
IsUnmade plan names f = (f ≡ fault.Memory) ⊎ ((f ≡ fault.WrongLedgers) × (name : Text) × Contains names name × NamesNoNode plan name)

-- each name is a node's
pub unfounded_early : (HasOne : Type 0) (plan : Network) (names : List Text) (f : WorldFault) → AreNames plan names → IsUnmade plan names f → EndsEarly HasOne f
unfounded_early HasOne plan names f are (inl memory) = memory_early HasOne f memory
unfounded_early HasOne plan names f are (inr (is, name, among, none)) =
    let node = a_node plan.nodes name (Contains-permutation names (mapped (λ node. node.name) plan.nodes) name (IsPermutation-sym (mapped (λ node. node.name) plan.nodes) names are.all) among) in
    absurd (none node.0 (node.1, node.2))
  where
    a_node : (nodes : List PlannedNode) (name : Text) → Contains (mapped (λ node. node.name) nodes) name → (node : PlannedNode) × Contains nodes node × (node.name ≡ name)
    a_node [] name among = absurd (nothing_in_nil name among)
    a_node (node ∷ more) name among = elim (Contains-cons_cases node.name (mapped (λ node. node.name) more) name among) [
      | inl same ↦ (node, Contains-here node more, same)
      | inr later ↦ (let found = a_node more name later in (found.0, Contains-there node more found.0 found.1, found.2))
    ]

pub unjoined_early : {L : Type 0} {l : Ghosts L} (plan : Network) (nodes : BTreeMap Text (Node L l)) (names : List Text) (f : WorldFault) → AreJoining plan nodes names → IsUnmade plan names f → EndsEarly (Unit {0}) f
unjoined_early plan nodes names f are (inl memory) = memory_early (Unit {0}) f memory
unjoined_early plan nodes names f are (inr (is, name, among, none)) =
    let node = ((are name).0 among).0 in
    absurd (none node.0 node.1)

-- ---- without a change

pub steps_alone_run : StepsAloneRun
steps_alone_run plan last certificate its b new [] changes h = (h.0, h.1, h.3, refl, tt)
steps_alone_run plan last certificate its b new (step ∷ steps) changes h =
    let r = steps_alone_run plan last certificate its h.1 new steps changes h.3 in
    (r.0, r.1, (h.0, h.1, h.2.0, r.2), r.3, r.4)

cons_nil : (p : Network) (ps : List Network) → p ∷ ps ≡ [] → ⊥
cons_nil p ps e = absurd (cc)

events_of : (actions : List Action) → adopted_in actions ≡ [] → (events : List Event) × (actions ≡ mapped Occurs events)
events_of [] e = ([], refl)
events_of (Occurs event ∷ actions) e = (let r = events_of actions e in (event ∷ r.0, ap (λ (xs : List Action). Occurs event ∷ xs) r.1))
events_of (Adopting next ∷ actions) e = absurd (cons_nil next (adopted_in actions) e)

pub events_alone_lead : EventsAloneLead
events_alone_lead plan v (actions, none, runs) =
    let e = events_of actions none in
    (e.0, subst (λ (xs : List Action). Runs plan start xs plan v) e.1 runs)

-- ---- worlds of which the claims don't hold

module _ {L : Type 0} {l : Ghosts L} where
  pub claims_of_code_can_fail : (w : World L l) → ClaimsOfCodeCanFail w
  claims_of_code_can_fail w plan taken name n uid dest now is among =
      let refused : (p : Network) (v : model.World) → v.books name ≡ l.book n.desk.ledger → Headline p v → ⊥ =
      λ p v same h. h.none_refused.lines name (Settling uid dest NoContext now) (subst (λ (b : Book). Contains b.lines (Settling uid dest NoContext now)) (sym same) among) in (
        (λ h. ∥∥₁_elim h (λ x y. absurd x) (λ v. refused plan v.0 (v.2 name n is) v.4)),
        (λ h. ∥∥₁_elim h (λ x y. absurd x) (λ v. refused (in_force plan taken) v.0 (v.2 name n is) v.4)),
      )

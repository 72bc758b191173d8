-- Orders one after the other, and what is done for them.
use Rattle.std.proofs.Common.{◌≡◌, ◌⊎◌, ℕ, ◌+◌, ◌<◌, ◌≤◌, List, [], ◌∷◌, ◌++◌, length, get_or, take, append_assoc, map as mapped, None, inl, inr, refl, sym, ap, subst, ◌∙◌}
use Rattle.std.proofs.lemmas.List.{append-nil, take_more, take_all}
use Rattle.std.specs.Prelude.{Contains}
use Rattle.std.proofs.lemmas.List.Elements.{Contains-push_cases}
use Rattle.dr_base.specs.Texts.{Text}
use Rattle.dr_ledger.specs.declared.ledger.Ledger.{Ghosts}
use Rattle.dr_plan_model.proofs.Gathered.{nothing_in_nil}
use Rattle.dr_plan_model.specs.Networks.{Network}
use Rattle.dr_plan_sound.specs.declared.certificate.Certificate.{Certificate}
use Rattle.dr_site.specs.Sites.{IsCertified}
use Rattle.dr_world_script.specs.declared.step.Step.TheVariants as step_of
use Rattle.dr_world_tie.specs.ByteWorlds.{Requestor}
use Rattle.dr_world.specs.declared.changing.Change.{Change}
use Rattle.dr_world.specs.declared.deed.Deed.{Deed}
use Rattle.dr_world.specs.declared.deed.Deed.TheVariants as deed
use Rattle.dr_world.specs.declared.fault.WorldFault.{WorldFault}
use Rattle.dr_world.specs.declared.fault.WorldFault.TheVariants as fault
use Rattle.dr_world.specs.declared.order.WorldOrder.{WorldOrder}
use Rattle.dr_world.specs.declared.order.WorldOrder.TheVariants as order
use Rattle.dr_world.specs.declared.order.RefusedForeign.{RefusedForeign}
use Rattle.dr_world.specs.declared.playing.PlayNotes.{PlayNotes}
use Rattle.dr_world.specs.declared.world.World.{World}
use Rattle.dr_world.specs.Ends.{name_at, named}
use Rattle.dr_world.specs.Orders.{AreMeant, AreOrdered, DeedsAloneAreDone, IsChangeOrder, IsOrderDone, IsOrderedRun, IsPassedOver, IsRefusalOrder, NotesOrder, OrdersChange, OrdersRefusal}
use Rattle.dr_world.specs.Played.{EndsEarly, IsPlayed, PlaysAll}
use Rattle.dr_world.specs.Runs.{IsReached}
use Rattle.dr_world.specs.Shows.{Contents}
use Rattle.dr_world.specs.Whole.{AllStand, contents}
use Rattle.dr_world.proofs.Played.{begun, run_of}

module _ {L : Type 0} {l : Ghosts L} where
  -- ---- deeds

  -- nothing is done
  pub plays_nothing : (w : World L l) → PlaysAll [] [] w w
  plays_nothing w first its certified before changes played =
      let P : List Deed × List Change → Type 0 = λ p. IsPlayed first its p.0 p.1 w in
      subst P (λ j. (sym (append-nil before) j, sym (append-nil changes) j)) played

  plays_then : (old mid new : World L l) (deeds done more : List Deed) (changes told later : List Change) → PlaysAll done told old mid → PlaysAll more later mid new
      → deeds ≡ done ++ more → changes ≡ told ++ later → PlaysAll deeds changes old new
  plays_then old mid new deeds done more changes told later f g ed ec first its certified before came played =
      let P : List Deed × List Change → Type 0 = λ p. IsPlayed first its p.0 p.1 new in
      let all : (before ++ done) ++ more ≡ before ++ deeds = append_assoc before done more ∙ ap (λ (ds : List Deed). before ++ ds) (sym ed) in
      let both : (came ++ told) ++ later ≡ came ++ changes = append_assoc came told later ∙ ap (λ (cs : List Change). came ++ cs) (sym ec) in
      subst P (λ j. (all j, both j)) (g first its certified (before ++ done) (came ++ told) (f first its certified before came played))

  -- the deeds of all orders lead from world to world
  pub plays_ordered : (others : List Text) (old : World L l) (orders : List WorldOrder) (deeds : List Deed) (changes : List Change) (refusals : List RefusedForeign) (last : List Text) (new : World L l)
      → AreOrdered others old orders deeds changes refusals last new → PlaysAll deeds changes old new
  plays_ordered others old [] deeds changes refusals last new (d, c, r, o, w) =
      let P : List Deed × (List Change × World L l) → Type 0 = λ p. PlaysAll p.0 p.1.0 old p.1.1 in
      subst P (λ j. (sym d j, (sym c j, sym w j))) (plays_nothing old)
  plays_ordered others old (one ∷ orders) deeds changes refusals last new (done, more, told, later, said, rest, after, mid, ed, ec, er, first, h) =
      plays_then old mid new deeds done more changes told later first.plays (plays_ordered after mid orders more later rest last new h) ed ec

  -- and each is what its order means, where the premise of each ledger stands anyway
  pub meant : ((w : World L l) → AllStand w) → (first : Network) (its : Certificate) → IsCertified first its → (before : List Deed) (came : List Change)
      → (others : List Text) (old : World L l) (orders : List WorldOrder) (deeds : List Deed) (changes : List Change) (refusals : List RefusedForeign) (last : List Text) (new : World L l)
      → IsPlayed first its before came old → AreOrdered others old orders deeds changes refusals last new → AreMeant first its before came others orders deeds changes refusals last
  meant stands first its certified before came others old [] deeds changes refusals last new played (d, c, r, o, w) = (d, c, r, o)
  meant stands first its certified before came others old (one ∷ orders) deeds changes refusals last new played (done, more, told, later, said, rest, after, mid, ed, ec, er, step, h) = (
    contents old,
    done,
    more,
    told,
    later,
    said,
    rest,
    after,
    ed,
    ec,
    er,
    played (stands old),
    step.means,
    meant stands first its certified (before ++ done) (came ++ told) after mid orders more later rest last new (step.plays first its certified before came played) h,
  )

  -- ---- one more

  behind : (others : List Text) (old : World L l) (orders : List WorldOrder) (deeds : List Deed) (changes : List Change) (refusals : List RefusedForeign) (at : List Text) (mid : World L l)
      → AreOrdered others old orders deeds changes refusals at mid
      → (one : WorldOrder) (done : List Deed) (told : List Change) (said : List RefusedForeign) (after : List Text) (new : World L l)
      → IsOrderDone at mid one done told said after new
      → AreOrdered others old (orders ++ one ∷ []) (deeds ++ done) (changes ++ told) (refusals ++ said) after new
  behind others old [] deeds changes refusals at mid (d, c, r, o, w) one done told said after new h =
      let P : List Text × World L l → Type 0 = λ p. IsOrderDone p.0 p.1 one done told said after new in (
        done,
        [],
        told,
        [],
        said,
        [],
        after,
        new,
        ap (λ (ds : List Deed). ds ++ done) d ∙ sym (append-nil done),
        ap (λ (cs : List Change). cs ++ told) c ∙ sym (append-nil told),
        ap (λ (rs : List RefusedForeign). rs ++ said) r ∙ sym (append-nil said),
        subst P (λ j. (o j, w j)) h,
        (refl, refl, refl, refl, refl),
      )
  behind others old (x ∷ orders) deeds changes refusals at mid (its, more, came, later, noted, rest, next, between, ed, ec, er, first, g) one done told said after new h = (
    its,
    more ++ done,
    came,
    later ++ told,
    noted,
    rest ++ said,
    next,
    between,
    ap (λ (ds : List Deed). ds ++ done) ed ∙ append_assoc its more done,
    ap (λ (cs : List Change). cs ++ told) ec ∙ append_assoc came later told,
    ap (λ (rs : List RefusedForeign). rs ++ said) er ∙ append_assoc noted rest said,
    first,
    behind next between orders more later rest at mid g one done told said after new h,
  )

  -- those so far, with what was noted of them
  abbrev pub SoFar : World L l → List WorldOrder → PlayNotes → World L l → Type 0
  SoFar old orders notes new = (deeds : List Deed) × AreOrdered [] old orders deeds notes.changes notes.refusals notes.others new

  pub none_ordered : (w : World L l) (orders : List WorldOrder) (notes : PlayNotes) → notes ≡ record { others = []; changes = []; refusals = [] } → SoFar w (take 0 orders) notes w
  none_ordered w orders notes are = ([], (refl, ap (λ (n : PlayNotes). n.changes) are, ap (λ (n : PlayNotes). n.refusals) are, ap (λ (n : PlayNotes). n.others) are, refl))

  pub one_ordered : (first old new : World L l) (orders : List WorldOrder) (i : ℕ) (one : WorldOrder) (before after : PlayNotes) → i < length orders → one ≡ get_or orders i one
      → SoFar first (take i orders) before old → NotesOrder before old one after new → SoFar first (take (i + 1) orders) after new
  one_ordered first old new orders i one before after less is (deeds, h) (done, told, said, ec, er, g) =
      let more = behind [] first (take i orders) deeds before.changes before.refusals before.others old h one done told said after.others new g in
      let listed : take i orders ++ one ∷ [] ≡ take (i + 1) orders = ap (λ (x : WorldOrder). take i orders ++ x ∷ []) is ∙ sym (take_more orders i one less) in
      let P : List WorldOrder × (List Change × List RefusedForeign) → Type 0 = λ p. AreOrdered [] first p.0 (deeds ++ done) p.1.0 p.1.1 after.others new in
      (deeds ++ done, subst P (λ j. (listed j, (sym ec j, sym er j))) more)

  pub all_ordered : (first new : World L l) (orders : List WorldOrder) (i : ℕ) (notes : PlayNotes) → length orders ≤ i → SoFar first (take i orders) notes new → SoFar first orders notes new
  all_ordered first new orders i notes all h = (let P : List WorldOrder → Type 0 = λ os. SoFar first os notes new in subst P (take_all i orders all) h)

  -- ---- from the beginning

  pub ordered_run : (plan : Network) (certificate : Certificate) → IsCertified plan certificate → (first last : World L l) (orders : List WorldOrder) (notes : PlayNotes)
      → IsReached plan certificate [] first → SoFar first orders notes last → AllStand last → IsOrderedRun plan certificate orders notes.changes notes.refusals notes.others last
  ordered_run plan certificate certified first last orders notes reached (deeds, h) all = (
    certified,
    (
      first,
      deeds,
      reached,
      h,
      run_of plan certificate certified first last deeds notes.changes reached (plays_ordered [] first orders deeds notes.changes notes.refusals notes.others last h) all,
    ),
  )

  -- what the orders of a run mean, from its beginning
  pub run_meant : ((w : World L l) → AllStand w) → (plan : Network) (certificate : Certificate) → IsCertified plan certificate → (orders : List WorldOrder) (deeds : List Deed) (changes : List Change)
      → (refusals : List RefusedForeign) (others : List Text) (first w : World L l) → IsReached plan certificate [] first → AreOrdered [] first orders deeds changes refusals others w
      → AreMeant plan certificate [] [] [] orders deeds changes refusals others
  run_meant stands plan certificate certified orders deeds changes refusals others first w reached h =
      meant stands plan certificate certified [] [] [] first orders deeds changes refusals others w (begun plan certificate first reached) h

-- ---- why not all is done

-- the order that failed is one of all
pub orders_early : (orders : List WorldOrder) (i : ℕ) (one : WorldOrder) (f : WorldFault) → i < length orders → one ≡ get_or orders i one → EndsEarly (IsChangeOrder one) f → EndsEarly (OrdersChange orders) f
orders_early orders i (order.Deed (deed.Step step)) fault.HalfAdopted less is h = absurd h
orders_early orders i (order.Deed (deed.Bytes link side bytes)) fault.HalfAdopted less is h = absurd h
orders_early orders i (order.Deed (deed.Adopt next)) fault.HalfAdopted less is h = (next, (i, less, sym is))
orders_early orders i (order.Foreign what) fault.HalfAdopted less is h = absurd h
orders_early orders i one fault.Memory less is h = tt
orders_early orders i one fault.WrongLedgers less is h = absurd h
orders_early orders i one fault.Store less is h = absurd h

-- the order that tells a store to refuse is one of all
pub one_refuses : (orders : List WorldOrder) (i : ℕ) (one : WorldOrder) → i < length orders → one ≡ get_or orders i one → IsRefusalOrder one → OrdersRefusal orders
one_refuses orders i (order.Deed (deed.Step (step_of.RefuseStore node))) less is h = (node, (i, less, sym is))
one_refuses orders i one less is h = absurd h

-- none does among none
pub none_refuse : (orders : List WorldOrder) → OrdersRefusal (take 0 orders) → ⊥
none_refuse orders (node, among) = nothing_in_nil (order.Deed (deed.Step (step_of.RefuseStore node))) among

-- nor with one more that doesn't
pub one_refuses_not : (orders : List WorldOrder) (i : ℕ) (one : WorldOrder) → i < length orders → one ≡ get_or orders i one → (OrdersRefusal (take i orders) → ⊥) → (IsRefusalOrder one → ⊥)
    → OrdersRefusal (take (i + 1) orders) → ⊥
one_refuses_not orders i one less is before its (node, among) =
    let told : WorldOrder = order.Deed (deed.Step (step_of.RefuseStore node)) in
    let listed : take (i + 1) orders ≡ take i orders ++ one ∷ [] = take_more orders i one less ∙ ap (λ (x : WorldOrder). take i orders ++ x ∷ []) (sym is) in
    elim (Contains-push_cases (take i orders) one told (subst (λ (os : List WorldOrder). Contains os told) listed among)) [
      | inl earlier ↦ before (node, earlier)
      | inr last ↦ its (subst (λ (x : WorldOrder). IsRefusalOrder x) (sym last) tt)
    ]

-- the first of them, as many as there are, are all
pub refuses_all : (orders : List WorldOrder) (i : ℕ) → length orders ≤ i → OrdersRefusal orders → OrdersRefusal (take i orders)
refuses_all orders i all h = subst (λ (os : List WorldOrder). OrdersRefusal os) (sym (take_all i orders all)) h

-- a store that fails in a change was told to
pub told_early : (orders : List WorldOrder) (f : WorldFault) → EndsEarly (OrdersChange orders) f → OrdersRefusal orders → EndsEarly (OrdersChange orders × OrdersRefusal orders) f
told_early orders fault.HalfAdopted h told = (h, told)
told_early orders fault.Memory h told = tt
told_early orders fault.WrongLedgers h told = absurd h
told_early orders fault.Store h told = absurd h

-- ---- where no other product is named

-- nothing is passed over
none_passed : (c : Contents) (d : Deed) → IsPassedOver [] c d → ⊥
none_passed c (deed.Step (step_of.Submit node item)) h = nothing_in_nil node h
none_passed c (deed.Step (step_of.Open from to)) h = h
none_passed c (deed.Step (step_of.Away from to)) h = nothing_in_nil from h
none_passed c (deed.Step (step_of.Push link)) h = nothing_in_nil (name_at Requestor h.0) h.2
none_passed c (deed.Step (step_of.Move link reader most)) h = nothing_in_nil (name_at (named reader) h.0) h.2
none_passed c (deed.Step (step_of.Abort link side)) h = nothing_in_nil (name_at (named side) h.0) h.2
none_passed c (deed.Step (step_of.Release link)) h = nothing_in_nil (name_at Requestor h.0) h.2
none_passed c (deed.Step (step_of.Close link)) h = h
none_passed c (deed.Step (step_of.Late link side)) h = nothing_in_nil (name_at (named side) h.0) h.2
none_passed c (deed.Step (step_of.Restart node)) h = h
none_passed c (deed.Step (step_of.Requeue node uid dest)) h = nothing_in_nil node h
none_passed c (deed.Step (step_of.Drop node uid dest)) h = nothing_in_nil node h
none_passed c (deed.Step (step_of.Forget node uid)) h = nothing_in_nil node h
none_passed c (deed.Step (step_of.Tick ms)) h = h
none_passed c (deed.Step (step_of.RefuseStore node)) h = nothing_in_nil node h
none_passed c (deed.Adopt next) h = h
none_passed c (deed.Bytes link side bytes) h = h

its_deed : (c : Contents) (one : Deed) (done : List Deed) → ((IsPassedOver [] c one → ⊥) × (done ≡ one ∷ [])) ⊎ (IsPassedOver [] c one × (done ≡ [])) → done ≡ one ∷ []
its_deed c one done (inl (own, is)) = is
its_deed c one done (inr (over, is)) = absurd (none_passed c one over)

pub deeds_alone_are_done : DeedsAloneAreDone
deeds_alone_are_done first its before came [] deeds changes refusals last (d, c, r, o) = (d, r, o)
deeds_alone_are_done first its before came (one ∷ ordered) deeds changes refusals last (c, done, more, told, later, said, rest, after, ed, ec, er, lead, means, h) =
    let P : List Text → Type 0 = λ others. AreMeant first its (before ++ done) (came ++ told) others (mapped order.Deed ordered) more later rest last in
    let next = deeds_alone_are_done first its (before ++ done) (came ++ told) ordered more later rest last (subst P means.1 h) in (
      ed ∙ (ap (λ (ds : List Deed). ds ++ more) (its_deed c one done means.2) ∙ ap (λ (ds : List Deed). one ∷ ds) next.0),
      er ∙ (ap (λ (rs : List RefusedForeign). rs ++ rest) means.0 ∙ next.1),
      next.2,
    )

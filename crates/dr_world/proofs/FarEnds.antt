-- The far ends of a node's links hear that their connections have ended, in both worlds.
use Rattle.std.proofs.Common.{◌≡◌, ℕ, Bool, true, false, List, [], ◌∷◌, Option, None, Some, refl, sym, ap, subst, ◌∙◌, inl, inr}
use Rattle.std.specs.Prelude.{AllPairs, Contains}
use Rattle.std.specs.declared.cmp.Ordering.TheVariants.{Less, Equal}
use Rattle.std.specs.Ordering.{nat_cmp}
use Rattle.std.specs.FinMap as map
use Rattle.std.proofs.lemmas.Cmp.{tied_itself}
use Rattle.dr_base.specs.Texts.{Text}
use Rattle.dr_plan_model.specs.Networks.{Network}
use Rattle.dr_plan_model.proofs.Gathered.{Contains-cons_cases, Contains-here, Contains-there, nothing_in_nil}
use Rattle.dr_plan_sound.specs.declared.certificate.Certificate.{Certificate}
use Rattle.dr_site.specs.Sites.{IsCertified}
use Rattle.dr_nego.proofs.Concluded.{tail_pairs, head_pairs}
use Rattle.dr_ulstate.specs.declared.table.State.TheVariants.{Sta1}
use Rattle.dr_ulstate.specs.Phases.{state_of}
use Rattle.dr_ledger.proofs.Maps.{same_or_not, get_new, get_other}
use Rattle.dr_session.specs.declared.ends.Input.TheVariants.{Ended}
use Rattle.dr_session.specs.declared.ends.Heard.TheVariants as heard
use Rattle.dr_session.specs.declared.ends.LinkAction.{LinkAction}
use Rattle.dr_node.specs.declared.event.LinkEvent.TheVariants as event
use Rattle.dr_world_model.proofs.Lookups.{numbers}
use Rattle.dr_world_model.specs.Worlds.{same_text}
use Rattle.dr_world_tie.specs.Desks.{LedgerStep}
use Rattle.dr_world_tie.specs.Channels.{Channel}
use Rattle.dr_world_tie.specs.ByteWorlds.{ByteWorld, FarEnds, FarEndsOf, AllFarEnd, receiver_of, with_done}
use Rattle.dr_world.specs.declared.wires.Wires.{Wires}
use Rattle.dr_world.specs.Shows.{Contents, ShowsBytes, IsSeated}
use Rattle.dr_world.specs.Ends.{IsDoneAtEnd}
use Rattle.dr_world.specs.Nodes.{event_at}
use Rattle.dr_world.specs.Restarted.{far_by, far_of}
use Rattle.dr_world.proofs.Counted.{linked_there}
use Rattle.dr_world.proofs.Linking.{unlinked}
use Rattle.dr_world.proofs.Asking.{MetAt, met_at, seated_after, node_of, did_at}
use Rattle.dr_world.proofs.Ending.{ended_over}

-- one far end, as a world's contents show it
abbrev pub FarDone : Text → Option Wires → Contents → ℕ → Contents → Type 0
FarDone node None c number new = new ≡ c
FarDone node (Some w) c number new = (acts : List LinkAction) × IsDoneAtEnd (event_at (event.Heard heard.End)) 0 c number (far_of node w) acts new

-- one after the other
abbrev pub AllFarDone : Text → Contents → List ℕ → Contents → Type 0
AllFarDone node c [] new = new ≡ c
AllFarDone node c (n ∷ ns) new = (mid : Contents) × FarDone node (c.wires n) c n mid × AllFarDone node mid ns new

pub not_below_itself : (n : ℕ) → nat_cmp n n ≡ Less → ⊥
not_below_itself n h = (let e : Less ≡ Equal = sym h ∙ tied_itself numbers.total n in cc e)

-- the receiver's end of that link is over, where it is the far one
abbrev pub IsLeft : Text → ByteWorld → ℕ → Type 0
IsLeft node b number = (k : Channel) → map.get b.links number ≡ Some k → same_text (receiver_of k) node ≡ false → state_of k.receiver.core.phase ≡ Sta1

module _ (plan : Network) (certificate : Certificate) (certified : IsCertified plan certificate) (node : Text) where
  -- what hearing it comes to, by the links as they were at first
  record OneFar (orig b : ByteWorld) (number : ℕ) (new : Contents) : Type 0 where
    after : ByteWorld
    ends : FarEndsOf plan orig node (map.get orig.links number) b.desks after.desks
    shows : ShowsBytes new after
    seated : IsSeated plan certificate new.seats
    time : after.time ≡ b.time
    opened : after.opened ≡ b.opened
    others : (n : ℕ) → (n ≡ number → ⊥) → map.get after.links n ≡ map.get b.links n
    over : IsLeft node after number

  module _ (b orig : ByteWorld) (time : orig.time ≡ b.time) (number : ℕ) (acts : List LinkAction) (new : Contents) where
    far_ends : (v : Bool) (m : MetAt plan b number (far_by v) Ended acts new) → FarEnds plan orig.time v m.k b.desks ((with_done b (node_of (far_by v) m.k) m.t number (did_at (far_by v) m.k m.x)).desks)
    far_ends true m = (m.at, m.x, m.t, m.moment.0 ∙ sym time, m.happened, refl)
    far_ends false m = (m.at, m.x, m.t, m.moment.0 ∙ sym time, m.happened, refl)

    far_over : (v : Bool) (m : MetAt plan b number (far_by v) Ended acts new) → same_text (receiver_of m.k) node ≡ v → same_text (receiver_of (did_at (far_by v) m.k m.x)) node ≡ false → state_of (did_at (far_by v) m.k m.x).receiver.core.phase ≡ Sta1
    far_over true m is other = (let e : true ≡ false = sym is ∙ other in let f : ⊥ = cc in absurd f)
    far_over false m is other = ended_over (LedgerStep plan (receiver_of m.k)) m.at m.k.receiver.core m.t m.x (b.desks (receiver_of m.k)) m.happened

    far_left : (v : Bool) (m : MetAt plan b number (far_by v) Ended acts new) → same_text (receiver_of m.k) node ≡ v → IsLeft node (with_done b (node_of (far_by v) m.k) m.t number (did_at (far_by v) m.k m.x)) number
    far_left v m is k has apart =
        let e : Some (did_at (far_by v) m.k m.x) ≡ Some k = sym (get_new numbers b.links number (did_at (far_by v) m.k m.x)) ∙ has in
        let one : did_at (far_by v) m.k m.x ≡ k = cc in
        let P : Channel → Type 0 = λ z. same_text (receiver_of z) node ≡ false → state_of z.receiver.core.phase ≡ Sta1 in
        subst P one (far_over v m is) apart

    met_far : (v : Bool) (m : MetAt plan b number (far_by v) Ended acts new) → same_text (receiver_of m.k) node ≡ v → map.get orig.links number ≡ map.get b.links number → IsSeated plan certificate new.seats → OneFar orig b number new
    met_far v m is links seated = record {
      after = with_done b (node_of (far_by v) m.k) m.t number (did_at (far_by v) m.k m.x);
      ends = (let F : Bool → Type 0 = λ z. FarEnds plan orig.time z m.k b.desks ((with_done b (node_of (far_by v) m.k) m.t number (did_at (far_by v) m.k m.x)).desks) in
          let P : Option Channel → Type 0 = λ o. FarEndsOf plan orig node o b.desks ((with_done b (node_of (far_by v) m.k) m.t number (did_at (far_by v) m.k m.x)).desks) in
          subst P (sym (links ∙ m.has)) (subst F (sym is) (far_ends v m)));
      shows = m.shows;
      seated = seated;
      time = refl;
      opened = refl;
      others = λ n apart. elim (same_or_not numbers n number) [ inl same ↦ absurd (apart same) | inr away ↦ get_other numbers b.links number (did_at (far_by v) m.k m.x) n away ];
      over = far_left v m is;
    }

  module _ (c : Contents) (b : ByteWorld) (seated : IsSeated plan certificate c.seats) (s : ShowsBytes c b) (number : ℕ) (new : Contents) (orig : ByteWorld) (time : orig.time ≡ b.time) (links : map.get orig.links number ≡ map.get b.links number) where
    by_wires : (o : Option Wires) → c.wires number ≡ o → FarDone node o c number new → OneFar orig b number new
    by_wires None none same =
        let no_link : map.get b.links number ≡ None = unlinked c b s number none in
        let P : Option Channel → Type 0 = λ o. FarEndsOf plan orig node o b.desks b.desks in
        let S : Contents → Type 0 = λ z. ShowsBytes z b × IsSeated plan certificate z.seats in
        let shown = subst S (sym same) (s, seated) in
        record {
          after = b;
          ends = subst P (sym (links ∙ no_link)) refl;
          shows = shown.0;
          seated = shown.1;
          time = refl;
          opened = refl;
          others = λ n apart. refl;
          over = λ k has apart. (let e : None ≡ Some k = sym no_link ∙ has in let f : ⊥ = cc in absurd f);
        }
    by_wires (Some w) wired (acts, d) =
        let m = met_at plan certificate certified c b seated s (event_at (event.Heard heard.End)) number acts new Ended (λ site at o desk r e t h. h) (far_of node w) d in
        let l = linked_there c b s number w wired in
        let e : Some m.k ≡ Some l.0 = sym m.has ∙ l.1 in
        let one : m.k ≡ l.0 = cc in
        met_far b orig time number acts new (same_text w.receiver node) m (ap (λ (k : Channel). same_text (receiver_of k) node) one ∙ ap (λ (q : Text). same_text q node) l.2.receiver) links
        (seated_after plan certificate certified c b seated s (event_at (event.Heard heard.End)) 0 number acts new (far_of node w) d)

  -- ---- all of them

  pub record AllFar (orig b : ByteWorld) (all : List ℕ) (new : Contents) : Type 0 where
    pub after : ByteWorld
    pub ends : AllFarEnd plan orig node all b.desks after.desks
    pub shows : ShowsBytes new after
    pub seated : IsSeated plan certificate new.seats
    pub time : after.time ≡ b.time
    pub opened : after.opened ≡ b.opened
    pub others : (n : ℕ) → (Contains all n → ⊥) → map.get after.links n ≡ map.get b.links n
    pub over : (n : ℕ) → Contains all n → IsLeft node after n

  pub all_far : (all : List ℕ) (c new : Contents) (b orig : ByteWorld) → AllFarDone node c all new → IsSeated plan certificate c.seats → ShowsBytes c b → orig.time ≡ b.time → ((n : ℕ) → Contains all n → map.get orig.links n ≡ map.get b.links n)
      → AllPairs (λ p q. nat_cmp p q ≡ Less) all → AllFar orig b all new
  all_far [] c new b orig same seated s time links rises =
      let S : Contents → Type 0 = λ z. ShowsBytes z b × IsSeated plan certificate z.seats in
      let shown = subst S (sym same) (s, seated) in
      record { after = b; ends = refl; shows = shown.0; seated = shown.1; time = refl; opened = refl; others = λ n out. refl; over = λ n among. absurd (nothing_in_nil n among) }
  all_far (n ∷ ns) c new b orig (mid, one, more) seated s time links rises =
      let f = by_wires c b seated s n mid orig time (links n (Contains-here n ns)) (c.wires n) refl one in
      let apart : (m : ℕ) → Contains ns m → m ≡ n → ⊥ = λ m among same.
      (let P : ℕ → Type 0 = λ z. nat_cmp n z ≡ Less in not_below_itself n (subst P same (head_pairs (λ p q. nat_cmp p q ≡ Less) n ns rises m among))) in
      let g = all_far ns mid new f.after orig more f.seated f.shows (time ∙ sym f.time) (λ m among. links m (Contains-there n ns m among) ∙ sym (f.others m (apart m among))) (tail_pairs (λ p q. nat_cmp p q ≡ Less) n ns rises) in
      record {
        after = g.after;
        ends = (f.after.desks, f.ends, g.ends);
        shows = g.shows;
        seated = g.seated;
        time = g.time ∙ f.time;
        opened = g.opened ∙ f.opened;
        others = λ m out. g.others m (λ among. out (Contains-there n ns m among)) ∙ f.others m (λ same. out (let P : ℕ → Type 0 = λ z. Contains (n ∷ ns) z in subst P (sym same) (Contains-here n ns)));
        over = λ m among k has left. elim (Contains-cons_cases n ns m among) [
          | inl same ↦
              let P : ℕ → Type 0 = λ z. map.get g.after.links z ≡ Some k in
              f.over k (sym (g.others n (λ later. apart n later refl)) ∙ subst P (sym same) has) left
          | inr later ↦ g.over m later k has left
        ];
      }

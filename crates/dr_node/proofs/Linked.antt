-- What an end did, at its link.
use Rattle.std.proofs.Common.{◌≡◌, ℕ, Bool, true, false, cond, List, Option, None, Some, IsSome, Result, Ok, Err, refl, sym, ap, subst, ◌∙◌}
use Rattle.std.specs.Ordering.{nat_cmp, eq_by_cmp}
use Rattle.std.specs.Cmp.{nat_cmp_total, eq_by_cmp_equiv}
use Rattle.std.specs.declared.alloc.AllocError.{AllocError}
use Rattle.std.specs.FinMap as map
use Rattle.std.specs.BTreeMap as tree
use Rattle.std.specs.BTreeMap.{is_at}
use Rattle.dr_session.specs.declared.ends.LinkAction.{LinkAction}
use Rattle.dr_session.specs.declared.ends.Moment.{Moment}
use Rattle.dr_session.specs.Ends.{Terminal}
use Rattle.dr_node.specs.declared.fault.NodeFault.{NodeFault}
use Rattle.dr_node.specs.declared.fault.NodeFault.TheVariants.{LinkKnown, LinkUnknown, NoHop, Memory}
use Rattle.dr_node.specs.declared.links.LinkSide.{LinkSide}
use Rattle.dr_node.specs.Sides.{Sides, EndDeed, Does, DoesIn, MeetsAt, moment_at, others, with_end}
use Rattle.dr_node.proofs.Mapped.{Tree, seen, seen_at, inserted}

abbrev pub Acts : Type 0
Acts = Result (List LinkAction) AllocError

-- what was done at the end of a link that is there
pub met : {S : Type 0} (does : Terminal → S → Acts → Terminal → S → Type 0) (m n : Tree) (old : Sides) (link : ℕ) (side new : LinkSide) (answer : Acts) (s t : S) →
    seen m ≡ old → Some side ≡ tree.get nat_cmp m link → new.accepted ≡ side.accepted → does side.end s answer new.end t →
    ((q : ℕ) → tree.get nat_cmp n q ≡ cond (is_at (nat_cmp link) q) (Some new) (tree.get nat_cmp m q)) → MeetsAt does link (map.get old link) old s (Some answer) (seen n) t
met does m n old link side new answer s t same there accepted did updates =
    let P : Option LinkSide → Type 0 = λ o. MeetsAt does link o old s (Some answer) (seen n) t in
    let is : new ≡ with_end side new.end = λ i. record { end = new.end; accepted = accepted i } in
    let Q : Sides → Type 0 = λ x. seen n ≡ map.insert x link (with_end side new.end) in
    subst P (there ∙ (sym (seen_at m link) ∙ ap (λ x. map.get x link) same))
    (new.end, did, subst Q same (inserted m n link new updates ∙ ap (map.insert (seen m) link) is))

-- of one that isn't
pub unmet : {S : Type 0} (does : Terminal → S → Acts → Terminal → S → Type 0) (m n : Tree) (old : Sides) (link : ℕ) (s : S) →
    seen m ≡ old → None ≡ tree.get nat_cmp m link → seen n ≡ seen m → MeetsAt does link (map.get old link) old s None (seen n) s
unmet does m n old link s same there unchanged =
    let P : Option LinkSide → Type 0 = λ o. MeetsAt does link o old s None (seen n) s in
    subst P (there ∙ (sym (seen_at m link) ∙ ap (λ x. map.get x link) same)) (unchanged ∙ same, refl)

-- to take out what was just put in
again : (b : Bool) (side : LinkSide) (o : Option LinkSide) → cond b None (cond b (Some side) o) ≡ cond b None o
again true side o = refl
again false side o = refl

pub taken_out : (old : Sides) (link : ℕ) (side : LinkSide) → map.remove (map.insert old link side) link ≡ map.remove old link
taken_out old link side = map.same_map nat_cmp_total map.nat_cmp-IsAntisymmetric _ _
    (λ q. map.get-remove nat_cmp_total (map.insert old link side) link q
    ∙ (ap (cond (eq_by_cmp nat_cmp q link) None) (map.get-insert nat_cmp_total old link side q)
    ∙ (again (eq_by_cmp nat_cmp q link) side (map.get old q) ∙ sym (map.get-remove nat_cmp_total old link q))))

-- ---- the answers of a node

pub done : {S : Type 0} (does : EndDeed S) (now link : ℕ) (known : Option LinkSide) (old new : Sides) (s t : S) (acts : List LinkAction) →
    MeetsAt (does (moment_at link old now)) link known old s (Some (Ok acts)) new t → DoesIn does now link known old s (Ok acts) new t
done does now link (Some side) old new s t acts met = met
done does now link None old new s t acts met = absurd met

pub lost : {S : Type 0} (does : EndDeed S) (now link : ℕ) (known : Option LinkSide) (old new : Sides) (s t : S) (why : AllocError) →
    MeetsAt (does (moment_at link old now)) link known old s (Some (Err why)) new t → DoesIn does now link known old s (Err Memory) (map.remove new link) t
lost does now link (Some side) old new s t why met = (met.0, why, met.1, ap (λ m. map.remove m link) met.2 ∙ taken_out old link (with_end side met.0))
lost does now link None old new s t why met = absurd met

pub unknown : {S : Type 0} (does : EndDeed S) (now link : ℕ) (known : Option LinkSide) (old new : Sides) (s t : S) →
    MeetsAt (does (moment_at link old now)) link known old s None new t → DoesIn does now link known old s (Err LinkUnknown) new t
unknown does now link (Some side) old new s t met = absurd met
unknown does now link None old new s t met = (refl, met.0, met.1)

pub is_there : (m : Tree) (link : ℕ) (side : LinkSide) → Some side ≡ tree.get nat_cmp m link → IsSome (tree.get nat_cmp m link)
is_there m link side e = subst IsSome e refl

-- by the count that was taken and the answer that was found
pub as_met : {S : Type 0} (does : EndDeed S) (now link count : ℕ) (old new : Sides) (s t : S) (found answer : Option Acts) → count ≡ others link old → found ≡ answer →
    MeetsAt (does (record { now = now; others = count })) link (map.get old link) old s found new t → MeetsAt (does (moment_at link old now)) link (map.get old link) old s answer new t
as_met does now link count old new s t found answer same is met =
    let P : ℕ → Type 0 = λ n. MeetsAt (does (record { now = now; others = n })) link (map.get old link) old s answer new t in
    let Q : Option Acts → Type 0 = λ a. MeetsAt (does (record { now = now; others = count })) link (map.get old link) old s a new t in
    subst P same (subst Q is met)

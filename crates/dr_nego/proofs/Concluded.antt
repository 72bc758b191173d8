-- What a caller concludes from an acceptance.
use Rattle.std.proofs.Common.{◌≡◌, ◌≢◌, ℕ, suc, ◌<◌, ◌≤◌, Bool, true, false, List, [], ◌∷◌, ◌++◌, map, Option, Some, None, Ok, Err, Contains, refl, sym, ap, subst, ◌∙◌, inl, inr, arith}
use Rattle.std.specs.Prelude.{option_map, find, ◌==◌, if◌then◌else◌, AllPairs, ◌&&◌}
use Rattle.std.specs.List.{flat_map}
use Rattle.std.proofs.lemmas.Bool.{cases_Bool, false≢true, eqb-true, eqb-false}
use Rattle.std.proofs.lemmas.List.Elements.{Contains-append_left, Contains-append_right, Contains-append_cases}
use Rattle.std.proofs.lemmas.List.Kept.{AllPairs-cons}
use Rattle.dr_base.specs.Texts.{Text}
use Rattle.dr_plan_model.specs.Formed.{IsMaxPdu}
use Rattle.dr_plan_model.proofs.Gathered.{nothing_in_nil, Contains-cons_cases, Contains-there, Contains-here, only_one}
use Rattle.dr_plan_model.proofs.WalksAlike.{all_from_each}
use Rattle.dr_site.specs.Parts.{Part}
use Rattle.dr_site.proofs.FormedSites.{sites_are_formed}
use Rattle.dr_pdu.specs.declared.pdu.ContextProposal.{ContextProposal}
use Rattle.dr_pdu.specs.declared.pdu.ContextAnswer.{ContextAnswer}
use Rattle.dr_nego.specs.declared.agreed.Pair.{Pair}
use Rattle.dr_nego.specs.declared.agreed.Agreed.{Agreed}
use Rattle.dr_nego.specs.declared.fault.NegoFault.TheVariants.{StrangeId, StrangeSyntax, LimitTooSmall, NoHop, Memory}
use Rattle.dr_nego.specs.Agreeing.{AssociateRq, AssociateAc, IsAgreed, HasStrangeId, HasStrangeSyntax, IsTooSmall, pair_of, pair_if, answer_to, agreed_on, is_for}
use Rattle.dr_nego.specs.Answering.{answer_of, acceptance_of, agreed_by}
use Rattle.dr_nego.specs.Laws.{BothSidesAgree, AgreementsAreWhole, OneConclusion, ContextsAreLeast, HasApartIds}
use Rattle.dr_nego.proofs.OneContext.{fair, found_is, same_texts}

-- ---- one conclusion

pub one_conclusion : OneConclusion
one_conclusion rq ac (Ok a) (Ok b) nr ns x y = ap (λ (z : Agreed). Ok z) (x.3 ∙ sym y.3)
one_conclusion rq ac (Ok a) (Err StrangeId) nr ns x y = absurd (x.0 y)
one_conclusion rq ac (Ok a) (Err StrangeSyntax) nr ns x y = absurd (x.1 y.1)
one_conclusion rq ac (Ok a) (Err LimitTooSmall) nr ns x y = absurd (x.2 y.2)
one_conclusion rq ac (Ok a) (Err NoHop) nr ns x y = absurd y
one_conclusion rq ac (Ok a) (Err Memory) nr ns x y = absurd (ns refl)
one_conclusion rq ac (Err StrangeId) (Ok b) nr ns x y = absurd (y.0 x)
one_conclusion rq ac (Err StrangeId) (Err StrangeId) nr ns x y = refl
one_conclusion rq ac (Err StrangeId) (Err StrangeSyntax) nr ns x y = absurd (y.0 x)
one_conclusion rq ac (Err StrangeId) (Err LimitTooSmall) nr ns x y = absurd (y.0 x)
one_conclusion rq ac (Err StrangeId) (Err NoHop) nr ns x y = absurd y
one_conclusion rq ac (Err StrangeId) (Err Memory) nr ns x y = absurd (ns refl)
one_conclusion rq ac (Err StrangeSyntax) (Ok b) nr ns x y = absurd (y.1 x.1)
one_conclusion rq ac (Err StrangeSyntax) (Err StrangeId) nr ns x y = absurd (x.0 y)
one_conclusion rq ac (Err StrangeSyntax) (Err StrangeSyntax) nr ns x y = refl
one_conclusion rq ac (Err StrangeSyntax) (Err LimitTooSmall) nr ns x y = absurd (y.1 x.1)
one_conclusion rq ac (Err StrangeSyntax) (Err NoHop) nr ns x y = absurd y
one_conclusion rq ac (Err StrangeSyntax) (Err Memory) nr ns x y = absurd (ns refl)
one_conclusion rq ac (Err LimitTooSmall) (Ok b) nr ns x y = absurd (y.2 x.2)
one_conclusion rq ac (Err LimitTooSmall) (Err StrangeId) nr ns x y = absurd (x.0 y)
one_conclusion rq ac (Err LimitTooSmall) (Err StrangeSyntax) nr ns x y = absurd (x.1 y.1)
one_conclusion rq ac (Err LimitTooSmall) (Err LimitTooSmall) nr ns x y = refl
one_conclusion rq ac (Err LimitTooSmall) (Err NoHop) nr ns x y = absurd y
one_conclusion rq ac (Err LimitTooSmall) (Err Memory) nr ns x y = absurd (ns refl)
one_conclusion rq ac (Err NoHop) (Ok b) nr ns x y = absurd x
one_conclusion rq ac (Err NoHop) (Err StrangeId) nr ns x y = absurd x
one_conclusion rq ac (Err NoHop) (Err StrangeSyntax) nr ns x y = absurd x
one_conclusion rq ac (Err NoHop) (Err LimitTooSmall) nr ns x y = absurd x
one_conclusion rq ac (Err NoHop) (Err NoHop) nr ns x y = absurd x
one_conclusion rq ac (Err NoHop) (Err Memory) nr ns x y = absurd (ns refl)
one_conclusion rq ac (Err Memory) (Ok b) nr ns x y = absurd (nr refl)
one_conclusion rq ac (Err Memory) (Err StrangeId) nr ns x y = absurd (nr refl)
one_conclusion rq ac (Err Memory) (Err StrangeSyntax) nr ns x y = absurd (nr refl)
one_conclusion rq ac (Err Memory) (Err LimitTooSmall) nr ns x y = absurd (nr refl)
one_conclusion rq ac (Err Memory) (Err NoHop) nr ns x y = absurd (nr refl)
one_conclusion rq ac (Err Memory) (Err Memory) nr ns x y = absurd (nr refl)

-- ---- lists

mapped_from : (f : ContextProposal → ContextAnswer) (cs : List ContextProposal) (a : ContextAnswer) → Contains (map f cs) a → (c : ContextProposal) × Contains cs c × (f c ≡ a)
mapped_from f [] a h = absurd (nothing_in_nil a h)
mapped_from f (c ∷ cs) a h = elim (Contains-cons_cases (f c) (map f cs) a h) [
  | inl same ↦ (c, Contains-here c cs, same)
  | inr later ↦ (let r = mapped_from f cs a later in (r.0, Contains-there c cs r.0 r.1, r.2))
]

-- of a list in which each later one is related to each earlier one: its tail, and its head with what is behind it
pub tail_pairs : {X : Type 0} (R : X → X → Type 0) (x : X) (xs : List X) → AllPairs R (x ∷ xs) → AllPairs R xs
tail_pairs R x xs h i j d before inside = h (suc i) (suc j) d (omega (arith, before)) (omega (arith, inside))

pub head_pairs : {X : Type 0} (R : X → X → Type 0) (x : X) (xs : List X) → AllPairs R (x ∷ xs) → (y : X) → Contains xs y → R x y
head_pairs R x xs h y (j, inside, is) = let P : _ → Type 0 = λ z. R x z in subst P is (h 0 (suc j) y (omega arith) (omega (arith, inside)))

-- what a search for an id finds among different ids
found_at : (as' : List ContextAnswer) (a : ContextAnswer) (id : ℕ) → AllPairs (λ (x y : ContextAnswer). x.id ≢ y.id) as' → Contains as' a → a.id ≡ id → find (λ (x : ContextAnswer). x.id == id) as' ≡ Some a
found_at [] a id apart h e = absurd (nothing_in_nil a h)
found_at (b ∷ bs) a id apart h e = elim (cases_Bool (b.id == id)) [
  | inl here ↦ rw here (elim (Contains-cons_cases b bs a h) [
    | inl same ↦ ap (λ (x : ContextAnswer). Some x) same
    | inr later ↦ absurd (head_pairs (λ (x y : ContextAnswer). x.id ≢ y.id) b bs apart a later (eqb-true b.id id here ∙ sym e))
  ])
  | inr other ↦ rw other (elim (Contains-cons_cases b bs a h) [
    | inl same ↦ absurd (eqb-false b.id id other (ap (λ (x : ContextAnswer). x.id) same ∙ e))
    | inr later ↦ found_at bs a id (tail_pairs (λ (x y : ContextAnswer). x.id ≢ y.id) b bs apart) later e
  ])
]

-- answers of contexts with different ids have different ids
answers_apart : (f : ContextProposal → ContextAnswer) → ((c : ContextProposal) → (f c).id ≡ c.id) → (cs : List ContextProposal) → AllPairs (λ (x y : ContextProposal). x.id ≢ y.id) cs → AllPairs (λ (x y : ContextAnswer). x.id ≢ y.id) (map f cs)
answers_apart f same [] apart = λ i j d lt h. absurd (omega (arith, lt, h))
answers_apart f same (c ∷ cs) apart = AllPairs-cons (λ (x y : ContextAnswer). x.id ≢ y.id) (f c) (map f cs)
    (all_from_each (λ (y : ContextAnswer). (f c).id ≢ y.id) (map f cs) (λ y m e.
    let r = mapped_from f cs y m in
    head_pairs (λ (x y : ContextProposal). x.id ≢ y.id) c cs apart r.0 r.1 (sym (same c) ∙ (e ∙ (ap (λ (z : ContextAnswer). z.id) (sym r.2) ∙ same r.0)))))
    (answers_apart f same cs (tail_pairs (λ (x y : ContextProposal). x.id ≢ y.id) c cs apart))

mapped : (f : ContextProposal → ContextAnswer) (cs : List ContextProposal) (c : ContextProposal) → Contains cs c → Contains (map f cs) (f c)
mapped f [] c h = absurd (nothing_in_nil c h)
mapped f (d ∷ ds) c h = elim (Contains-cons_cases d ds c h) [
  | inl same ↦ (let P : ContextProposal → Type 0 = λ z. Contains (map f (d ∷ ds)) (f z) in subst P same (Contains-here (f d) (map f ds)))
  | inr later ↦ Contains-there (f d) (map f ds) (f c) (mapped f ds c later)
]

-- two functions that agree on a list make the same of it
flat_map_same : (f g : ContextProposal → List Pair) (cs : List ContextProposal) → ((c : ContextProposal) → Contains cs c → f c ≡ g c) → flat_map f cs ≡ flat_map g cs
flat_map_same f g [] same = refl
flat_map_same f g (c ∷ cs) same =
    ap (λ (l : List Pair). l ++ flat_map f cs) (same c (Contains-here c cs)) ∙ ap (λ (l : List Pair). g c ++ l) (flat_map_same f g cs (λ d m. same d (Contains-there c cs d m)))

-- what a function gives of some element
flat_mapped : (f : ContextProposal → List Pair) (cs : List ContextProposal) (c : ContextProposal) (x : Pair) → Contains cs c → Contains (f c) x → Contains (flat_map f cs) x
flat_mapped f [] c x h has = absurd (nothing_in_nil c h)
flat_mapped f (d ∷ ds) c x h has = elim (Contains-cons_cases d ds c h) [
  | inl same ↦ Contains-append_left (f d) (flat_map f ds) x (let P : ContextProposal → Type 0 = λ z. Contains (f z) x in subst P (sym same) has)
  | inr later ↦ Contains-append_right (f d) (flat_map f ds) x (flat_mapped f ds c x later has)
]

flat_mapped_from : (f : ContextProposal → List Pair) (cs : List ContextProposal) (x : Pair) → Contains (flat_map f cs) x → (c : ContextProposal) × Contains cs c × Contains (f c) x
flat_mapped_from f [] x h = absurd (nothing_in_nil x h)
flat_mapped_from f (c ∷ cs) x h = elim (Contains-append_cases (f c) (flat_map f cs) x h) [
  | inl here ↦ (c, Contains-here c cs, here)
  | inr later ↦ (let r = flat_mapped_from f cs x later in (r.0, Contains-there c cs r.0 r.1, r.2))
]

-- ---- one context's pair

abbrev pair_with : ContextProposal → ContextAnswer → Pair
pair_with c a = record { id = c.id; class = c.class; syntax = a.syntax }

pair_zero : (c : ContextProposal) (a : ContextAnswer) → a.result ≡ 0 → pair_of c a ≡ pair_with c a ∷ []
pair_zero c a zero = ap (λ (n : ℕ). if n == 0 then pair_with c a ∷ [] else []) zero

pair_from : (c : ContextProposal) (a : ContextAnswer) (x : Pair) → Contains (pair_of c a) x → (a.result ≡ 0) × (x ≡ pair_with c a)
pair_from c a x h = elim (cases_Bool (a.result == 0)) [
  | inl zero ↦ (eqb-true a.result 0 zero, (let k : Contains (pair_with c a ∷ []) x = rw zero at h in sym (only_one (pair_with c a) x k)))
  | inr not_zero ↦ (let k : Contains [] x = rw not_zero at h in absurd (nothing_in_nil x k))
]

-- ---- both sides

module _ (rq : AssociateRq) (site : Part) (apart : HasApartIds rq) where
  answered : (c : ContextProposal) → Contains rq.contexts c → answer_to (acceptance_of rq site).contexts c ≡ Some (answer_of site.accepts rq.front.calling c)
  answered c h =
      let f : ContextProposal → ContextAnswer = answer_of site.accepts rq.front.calling in
      found_at (map f rq.contexts) (f c) c.id (answers_apart f (λ d. (fair site.accepts rq.front.calling d).id) rq.contexts apart) (mapped f rq.contexts c h) (fair site.accepts rq.front.calling c).id

  same_pairs : (agreed_on rq (acceptance_of rq site)).pairs ≡ (agreed_by rq site).pairs
  same_pairs = flat_map_same (λ (c : ContextProposal). pair_if c (answer_to (acceptance_of rq site).contexts c)) (λ (c : ContextProposal). pair_of c (answer_of site.accepts rq.front.calling c)) rq.contexts
      (λ c h. ap (λ (o : Option ContextAnswer). pair_if c o) (answered c h))

  not_strange : HasStrangeId rq (acceptance_of rq site) → ⊥
  not_strange (a, has, none) =
      let r = mapped_from (answer_of site.accepts rq.front.calling) rq.contexts a has in
      none r.0 r.1 (sym (fair site.accepts rq.front.calling r.0).id ∙ ap (λ (z : ContextAnswer). z.id) r.2)

  not_strange_syntax : HasStrangeSyntax rq (acceptance_of rq site) → ⊥
  not_strange_syntax (a, has, zero, none) =
      let r = mapped_from (answer_of site.accepts rq.front.calling) rq.contexts a has in
      let f = fair site.accepts rq.front.calling r.0 in
      let P : ContextAnswer → Type 0 = λ z. Contains r.0.syntaxes z.syntax in
      none r.0 r.1 (sym f.id ∙ ap (λ (z : ContextAnswer). z.id) r.2) (subst P r.2 (f.proposed (ap (λ (z : ContextAnswer). z.result) r.2 ∙ zero)).2)

not_too_small : (n : ℕ) → IsMaxPdu n → IsTooSmall n → ⊥
not_too_small n (inl none) (some, small) = omega (arith, none, some)
not_too_small n (inr (big, h)) (some, small) = omega (arith, big, small)

pub both_sides_agree : BothSidesAgree
both_sides_agree rq site is apart = (
  not_strange rq site apart,
  not_strange_syntax rq site apart,
  not_too_small site.max_pdu (sites_are_formed site is).max_pdu,
  (let agreed : List Pair → Agreed = λ pairs. record { pairs = pairs; limit = site.max_pdu } in ap agreed (sym (same_pairs rq site apart))),
)

-- ---- the agreement in other words

module _ (rq : AssociateRq) (ac : AssociateAc) (rises : AllPairs (λ (a b : ContextProposal). a.id < b.id) rq.contexts) (apart : AllPairs (λ (a b : ContextAnswer). a.id ≢ b.id) ac.contexts) where
  from_if : (c : ContextProposal) (o : Option ContextAnswer) → answer_to ac.contexts c ≡ o → (x : Pair) → Contains (pair_if c o) x →
      (a : ContextAnswer) × Contains ac.contexts a × (a.id ≡ c.id) × (a.result ≡ 0) × (x ≡ pair_with c a)
  from_if c None e x h = absurd (nothing_in_nil x h)
  from_if c (Some a) e x h =
      let f = found_is (λ (b : ContextAnswer). b.id == c.id) ac.contexts a e in
      let p = pair_from c a x h in
      (a, f.1, eqb-true a.id c.id f.0, p.0, p.1)

  only : (x : Pair) → Contains (agreed_on rq ac).pairs x → IsAgreed rq ac x
  only x h =
      let r = flat_mapped_from (λ (c : ContextProposal). pair_if c (answer_to ac.contexts c)) rq.contexts x h in
      let c = r.0 in
      let f = from_if c (answer_to ac.contexts c) refl x r.2 in
      (c, f.0, r.1, f.1, ap (λ (z : Pair). z.id) (sym f.4), f.2 ∙ ap (λ (z : Pair). z.id) (sym f.4), f.3, ap (λ (z : Pair). z.class) (sym f.4), ap (λ (z : Pair). z.syntax) (sym f.4))

  each : (x : Pair) → IsAgreed rq ac x → Contains (agreed_on rq ac).pairs x
  each x (c, a, has_c, has_a, c_id, a_id, zero, class, syntax) =
      let found : answer_to ac.contexts c ≡ Some a = found_at ac.contexts a c.id apart has_a (a_id ∙ sym c_id) in
      let is : pair_with c a ≡ x = rw (c_id, class, syntax) refl in
      let one : pair_if c (answer_to ac.contexts c) ≡ x ∷ [] = ap (λ (o : Option ContextAnswer). pair_if c o) found ∙ (pair_zero c a zero ∙ ap (λ (y : Pair). y ∷ []) is) in
      let P : List Pair → Type 0 = λ l. Contains l x in
      flat_mapped (λ (c : ContextProposal). pair_if c (answer_to ac.contexts c)) rq.contexts c x has_c (subst P (sym one) (Contains-here x []))

  pairs_rise : (cs : List ContextProposal) → AllPairs (λ (a b : ContextProposal). a.id < b.id) cs → AllPairs (λ (x y : Pair). x.id < y.id) (flat_map (λ (c : ContextProposal). pair_if c (answer_to ac.contexts c)) cs)
  pairs_rise [] h = λ i j d lt inside. absurd (omega (arith, lt, inside))
  pairs_rise (c ∷ cs) h = behind (answer_to ac.contexts c) (pairs_rise cs (tail_pairs (λ (a b : ContextProposal). a.id < b.id) c cs h))
    where
      below : (y : Pair) → Contains (flat_map (λ (c : ContextProposal). pair_if c (answer_to ac.contexts c)) cs) y → c.id < y.id
      below y m =
          let r = flat_mapped_from (λ (c : ContextProposal). pair_if c (answer_to ac.contexts c)) cs y m in
          let f = from_if r.0 (answer_to ac.contexts r.0) refl y r.2 in
          let P : Pair → Type 0 = λ z. c.id < z.id in
          subst P (sym f.4) (head_pairs (λ (a b : ContextProposal). a.id < b.id) c cs h r.0 r.1)

      placed : (a : ContextAnswer) (zero : Bool) → AllPairs (λ (x y : Pair). x.id < y.id) (flat_map (λ (c : ContextProposal). pair_if c (answer_to ac.contexts c)) cs) →
          AllPairs (λ (x y : Pair). x.id < y.id) ((if zero then pair_with c a ∷ [] else []) ++ flat_map (λ (c : ContextProposal). pair_if c (answer_to ac.contexts c)) cs)
      placed a false later = later
      placed a true later = AllPairs-cons (λ (x y : Pair). x.id < y.id) (pair_with c a) (flat_map (λ (c : ContextProposal). pair_if c (answer_to ac.contexts c)) cs)
          (all_from_each (λ (y : Pair). c.id < y.id) (flat_map (λ (c : ContextProposal). pair_if c (answer_to ac.contexts c)) cs) below) later

      behind : (o : Option ContextAnswer) → AllPairs (λ (x y : Pair). x.id < y.id) (flat_map (λ (c : ContextProposal). pair_if c (answer_to ac.contexts c)) cs) →
          AllPairs (λ (x y : Pair). x.id < y.id) (pair_if c o ++ flat_map (λ (c : ContextProposal). pair_if c (answer_to ac.contexts c)) cs)
      behind None later = later
      behind (Some a) later = placed a (a.result == 0) later

pub agreements_are_whole : AgreementsAreWhole
agreements_are_whole rq ac rises apart = record {
  rising = pairs_rise rq ac rises apart rq.contexts rises;
  each = each rq ac rises apart;
  only = all_from_each (IsAgreed rq ac) (agreed_on rq ac).pairs (only rq ac rises apart);
  limit = refl;
}

-- ---- the least id

first_least : (class syntax : Text) (xs : List Pair) → AllPairs (λ (x y : Pair). x.id < y.id) xs → (x : Pair) → Contains xs x → is_for class syntax x ≡ true →
    (y : Pair) × (find (is_for class syntax) xs ≡ Some y) × (y.id ≤ x.id)
first_least class syntax [] rises x h is = absurd (nothing_in_nil x h)
first_least class syntax (z ∷ zs) rises x h is = elim (cases_Bool (is_for class syntax z)) [
  | inl here ↦ rw here (
    z,
    refl,
    elim (Contains-cons_cases z zs x h) [
      | inl same ↦ (let e : z.id ≡ x.id = ap (λ (y : Pair). y.id) same in omega arith)
      | inr later ↦ (let l : z.id < x.id = head_pairs (λ (x y : Pair). x.id < y.id) z zs rises x later in omega arith)
    ],
  )
  | inr other ↦ rw other (elim (Contains-cons_cases z zs x h) [
    | inl same ↦ absurd (false≢true (sym other ∙ (ap (λ (y : Pair). is_for class syntax y) same ∙ is)))
    | inr later ↦ first_least class syntax zs (tail_pairs (λ (x y : Pair). x.id < y.id) z zs rises) x later is
  ])
]

both_true : (a b : Bool) → a ≡ true → b ≡ true → (a && b) ≡ true
both_true true b h e = e
both_true false b h e = absurd (false≢true h)

pub contexts_are_least : ContextsAreLeast
contexts_are_least agreed rises x h =
    let f = first_least x.class x.syntax agreed.pairs rises x h (both_true _ _ (same_texts x.class x.class refl) (same_texts x.syntax x.syntax refl)) in
    (f.0.id, (let id_of : Option Pair → Option ℕ = λ o. option_map (λ (y : Pair). y.id) o in ap id_of f.1), f.2)

-- Each text of bytes has an answer.
use Rattle.std.proofs.Common.{◌≡◌, ◌≢◌, ◌⊎◌, ℕ, zero, suc, ◌+◌, ◌-◌, ◌*◌, ◌%◌, ◌^◌, ◌<◌, ◌≤◌, List, [], ◌∷◌, length, get_or, take, drop, map, filter, Bool, true, false, cond, eqb, Option, Some, None, slice_get, refl, sym, ap, subst, ◌∙◌, arith, inl, inr, Result, Ok, Err}
use Rattle.std.specs.Option.{option_map, MatchOption}
use Rattle.std.specs.Int.{w32, to_be_bytes}
use Rattle.std.specs.List.{AllByRecursion, Contains}
use Rattle.std.proofs.lemmas.List.{length-drop, length-take-le, nil_from_length}
use Rattle.std.proofs.lemmas.Bool.{cases_lt, cases_eq}
use Rattle.dr_base.specs.Runs.{Run}
use Rattle.dr_pdu.specs.declared.pdu.Pdu.{Pdu}
use Rattle.dr_pdu.specs.declared.pdu.Pdu.TheVariants.{AssociateRq, AssociateAc, AssociateRj, Transfer, ReleaseRq, ReleaseRp, Abort}
use Rattle.dr_pdu.specs.declared.pdu.Pdv.{Pdv}
use Rattle.dr_pdu.specs.declared.pdu.Front.{Front}
use Rattle.dr_pdu.specs.declared.pdu.Association.{Association}
use Rattle.dr_pdu.specs.declared.pdu.ContextProposal.{ContextProposal}
use Rattle.dr_pdu.specs.declared.pdu.ContextAnswer.{ContextAnswer}
use Rattle.dr_pdu.specs.declared.fault.PduFault.{PduFault}
use Rattle.dr_pdu.specs.declared.fault.PduFault.TheVariants.{More, BadItem, BadContextId, Memory}
use Rattle.dr_base.specs.Padding.{unpadded, trimmed}
use Rattle.dr_pdu.specs.Items.{Item, AreItems, StartsPdv, bodies, first_body}
use Rattle.dr_pdu.specs.Grammar.{IsProposal, IsAnswer, IsFront, IsGreatestLength, IsAssociation, IsBody, AreContextIds, HasContextIds, header_fault, StartsFrame, HasWholeBody, Decodes}
use Rattle.dr_base.specs.Lists.{Each}
use Rattle.dr_pdu.proofs.Bytes.{IsBytes, four_bytes, front4}
use Rattle.dr_pdu.proofs.DecodeLemmas.{begins, header_shows, whole, spelled, request_of, acceptance_of}
use Rattle.dr_pdu.proofs.FrontTexts.{front_read, front_is_long}
use Rattle.dr_pdu.proofs.ContextLemmas.{length_says, items_behind, association_says}
use Rattle.dr_pdu.proofs.Deciding.{Found, items_found, pdvs_found, proposal_found, answer_found, bytes_drop, bytes_take}

bodies_bytes : (kind : ℕ) (is : List Item) → AllByRecursion (λ (i : Item). IsBytes i.body) is → AllByRecursion IsBytes (bodies kind is)
bodies_bytes kind [] h = tt
bodies_bytes kind (x ∷ xs) h = at_head (eqb x.kind kind) (bodies_bytes kind xs h.1)
  where
    at_head : (t : Bool) → AllByRecursion IsBytes (bodies kind xs) → AllByRecursion IsBytes (map (λ (i : Item). i.body) (cond t (x ∷ filter (λ (i : Item). eqb i.kind kind) xs) (filter (λ (i : Item). eqb i.kind kind) xs)))
    at_head true k = (h.0, k)
    at_head false k = k

first_bytes : (kind : ℕ) (is : List Item) (b : List ℕ) → AllByRecursion (λ (i : Item). IsBytes i.body) is → first_body kind is ≡ Some b → IsBytes b
first_bytes kind is b h e = by_list (bodies kind is) (bodies_bytes kind is h) e
  where
    by_list : (bs : List (List ℕ)) → AllByRecursion IsBytes bs → slice_get bs 0 ≡ Some b → IsBytes b
    by_list [] h e = absurd (cc)
    by_list (c ∷ cs) h e = let same : c ≡ b = cc in subst (λ (t : List ℕ). IsBytes t) same h.0

each_found : {C : Type 0} (R : List ℕ → C → Type 0) → ((b : List ℕ) → IsBytes b → Found (R b)) → (bs : List (List ℕ)) → AllByRecursion IsBytes bs → Found (Each R bs)
each_found R one [] h = inl ([], tt)
each_found {C} R one (b ∷ bs) h = by_parts (one b h.0) (each_found R one bs h.1)
  where
    no_head : ((c : C) → R b c → ⊥) → (cs : List C) → Each R (b ∷ bs) cs → ⊥
    no_head none [] e = e
    no_head none (c ∷ cs) e = none c e.0

    no_tail : ((cs : List C) → Each R bs cs → ⊥) → (cs : List C) → Each R (b ∷ bs) cs → ⊥
    no_tail none [] e = e
    no_tail none (c ∷ cs) e = none cs e.1

    by_parts : Found (R b) → Found (Each R bs) → Found (Each R (b ∷ bs))
    by_parts (inl (c, r)) (inl (cs, rs)) = inl (c ∷ cs, (r, rs))
    by_parts (inl (c, r)) (inr none) = inr (no_tail none)
    by_parts (inr none) rest = inr (no_head none)

-- four bytes are a number
number_of : (v : List ℕ) → length v ≡ 4 → IsBytes v → (n : ℕ) × (n < 2 ^ 32) × (v ≡ to_be_bytes w32 n)
number_of v four b =
    let n = ((get_or v 0 0 * 256 + get_or v 1 0) * 256 + get_or v 2 0) * 256 + get_or v 3 0 in
    let number : to_be_bytes w32 n ≡ get_or v 0 0 ∷ get_or v 1 0 ∷ get_or v 2 0 ∷ get_or v 3 0 ∷ [] = four_bytes _ _ _ _ n (b 0) (b 1) (b 2) (b 3) refl in
    let none : drop 4 v ≡ [] = nil_from_length (drop 4 v) (omega (arith, length-drop 4 v, four)) in
    (n, omega (arith, b 0, b 1, b 2, b 3), front4 v (omega (arith, four)) ∙ ap (λ (t : List ℕ). get_or v 0 0 ∷ get_or v 1 0 ∷ get_or v 2 0 ∷ get_or v 3 0 ∷ t) none ∙ sym number)

length_found : (o : Option (List ℕ)) → ((b : List ℕ) → o ≡ Some b → IsBytes b) → Found (IsGreatestLength o)
length_found None bytes = inl (0, refl)
length_found (Some body) bytes = by_items (items_found body (bytes body refl))
  where
    by_length : (is : List Item) → AreItems is body → (v : List ℕ) → first_body 0x51 is ≡ Some v → IsBytes v → (length v ≡ 4) ⊎ (length v ≡ 4 → ⊥) → Found (IsGreatestLength (Some body))
    by_length is are v e b (inl four) =
        let n = number_of v four b in
        inl (n.0, (is, are, subst (λ (o : Option (List ℕ)). MatchOption o (n.0 ≡ 0) (λ x. (n.0 < 2 ^ 32) × (x ≡ to_be_bytes w32 n.0))) (sym e) (n.1, n.2)))
    by_length is are v e b (inr other) = inr (λ n h.
        let says = length_says (Some body) body is n refl are h in
        let here = subst (λ (o : Option (List ℕ)). MatchOption o (n ≡ 0) (λ x. (n < 2 ^ 32) × (x ≡ to_be_bytes w32 n))) e says in
        other (ap (λ (t : List ℕ). length t) here.1))

    by_first : (is : List Item) → AreItems is body → AllByRecursion (λ (i : Item). IsBytes i.body) is → (o : Option (List ℕ)) → first_body 0x51 is ≡ o → Found (IsGreatestLength (Some body))
    by_first is are good None e = inl (0, (is, are, subst (λ (o : Option (List ℕ)). MatchOption o (◌≡◌ {A = ℕ} 0 0) (λ x. (0 < 2 ^ 32) × (x ≡ to_be_bytes w32 0))) (sym e) refl))
    by_first is are good (Some v) e = by_length is are v e (first_bytes 0x51 is v good e) (cases_eq (length v) 4)

    by_items : ((is : List Item) × AreItems is body × AllByRecursion (λ (i : Item). IsBytes i.body) is) ⊎ ((is : List Item) → AreItems is body → ⊥) → Found (IsGreatestLength (Some body))
    by_items (inl (is, are, good)) = by_first is are good (first_body 0x51 is) refl
    by_items (inr none) = inr (λ n h. none h.0 h.1)

-- ---- associations

front_found : (body : List ℕ) → IsBytes body → ((f : Front) × (rest : List ℕ) × IsFront body f rest × IsBytes rest) ⊎ ((f : Front) (rest : List ℕ) → IsFront body f rest → ⊥)
front_found body b = by_length (cases_lt (length body) 68)
  where
    by_length : (length body < 68) ⊎ (68 ≤ length body) → ((f : Front) × (rest : List ℕ) × IsFront body f rest × IsBytes rest) ⊎ ((f : Front) (rest : List ℕ) → IsFront body f rest → ⊥)
    by_length (inl short) = inr (λ f rest h. omega (arith, front_is_long body f rest h, short))
    by_length (inr long) =
        let text = take (length body - 4) (drop 4 body) in
        let f : Front = record { version = get_or body 0 0 * 256 + get_or body 1 0; called = trimmed (take 16 text); calling = trimmed (take 16 (drop 16 text)); reserved = take 32 (drop 16 (drop 16 text)) } in
        let size : length text ≡ length body - 4 = length-take-le (length body - 4) (drop 4 body) (omega (arith, length-drop 4 body)) in
        inl (
          f,
          drop 32 (drop 16 (drop 16 text)),
          front_read body text f refl (omega (arith, long)) (omega (arith, long, size)) b refl refl refl refl,
          bytes_drop 32 (drop 16 (drop 16 text)) (bytes_drop 16 (drop 16 text) (bytes_drop 16 text (bytes_take (length body - 4) (drop 4 body) (bytes_drop 4 body b)))),
        )

pub association_found : {C : Type 0} (kind : ℕ) (IsContext : List ℕ → C → Type 0) → ((b : List ℕ) → IsBytes b → Found (IsContext b)) → (body : List ℕ) → IsBytes body → Found (IsAssociation kind IsContext body)
association_found {C} kind IsContext one body b = by_front (front_found body b)
  where
    by_length : (f : Front) (rest : List ℕ) (is : List Item) → IsFront body f rest → AreItems is rest → (k : List ℕ) → first_body 0x10 is ≡ Some k → (cs : List C) → Each IsContext (bodies kind is) cs → Found (IsGreatestLength (first_body 0x50 is)) → Found (IsAssociation kind IsContext body)
    by_length f rest is front are k e cs each (inl (n, greatest)) =
        let a : Association C = record { front = f; application = unpadded k; contexts = cs; max_pdu = n } in
        inl (a, (is, rest, front, are, ap (option_map unpadded) e, each, greatest))
    by_length f rest is front are k e cs each (inr none) = inr (λ a h. none a.max_pdu (association_says kind IsContext body rest f is a front are h).greatest)

    by_contexts : (f : Front) (rest : List ℕ) (is : List Item) → IsFront body f rest → AreItems is rest → AllByRecursion (λ (i : Item). IsBytes i.body) is → (k : List ℕ) → first_body 0x10 is ≡ Some k → Found (Each IsContext (bodies kind is)) → Found (IsAssociation kind IsContext body)
    by_contexts f rest is front are good k e (inl (cs, each)) = by_length f rest is front are k e cs each (length_found (first_body 0x50 is) (λ v e'. first_bytes 0x50 is v good e'))
    by_contexts f rest is front are good k e (inr none) = inr (λ a h. none a.contexts (association_says kind IsContext body rest f is a front are h).contexts)

    by_name : (f : Front) (rest : List ℕ) (is : List Item) → IsFront body f rest → AreItems is rest → AllByRecursion (λ (i : Item). IsBytes i.body) is → (o : Option (List ℕ)) → first_body 0x10 is ≡ o → Found (IsAssociation kind IsContext body)
    by_name f rest is front are good None e = inr (λ a h. let says = association_says kind IsContext body rest f is a front are h in let x : None ≡ Some a.application = sym (ap (option_map unpadded) e) ∙ says.application in absurd (cc))
    by_name f rest is front are good (Some k) e = by_contexts f rest is front are good k e (each_found IsContext one (bodies kind is) (bodies_bytes kind is good))

    by_items : (f : Front) (rest : List ℕ) → IsFront body f rest → ((is : List Item) × AreItems is rest × AllByRecursion (λ (i : Item). IsBytes i.body) is) ⊎ ((is : List Item) → AreItems is rest → ⊥) → Found (IsAssociation kind IsContext body)
    by_items f rest front (inl (is, are, good)) = by_name f rest is front are good (first_body 0x10 is) refl
    by_items f rest front (inr none) = inr (λ a h. none h.0 (items_behind kind IsContext body rest f a front h))

    by_front : ((f : Front) × (rest : List ℕ) × IsFront body f rest × IsBytes rest) ⊎ ((f : Front) (rest : List ℕ) → IsFront body f rest → ⊥) → Found (IsAssociation kind IsContext body)
    by_front (inl (f, rest, front, bytes)) = by_items f rest front (items_found rest bytes)
    by_front (inr none) = inr (λ a h. none a.front h.1 h.2)

-- ---- bodies

four_of : (kind : ℕ) (body : List ℕ) (p : Pdu) → kind ≢ 1 → kind ≢ 2 → kind ≢ 4 → IsBody kind body p → length body ≡ 4
four_of kind body (AssociateRq a) n1 n2 n4 h = absurd (n1 h.0)
four_of kind body (AssociateAc a) n1 n2 n4 h = absurd (n2 h.0)
four_of kind body (Transfer ps) n1 n2 n4 h = absurd (n4 h.0)
four_of kind body (AssociateRj rj) n1 n2 n4 h = ap (λ (t : List ℕ). length t) h.2
four_of kind body ReleaseRq n1 n2 n4 h = h.1
four_of kind body ReleaseRp n1 n2 n4 h = h.1
four_of kind body (Abort a) n1 n2 n4 h = ap (λ (t : List ℕ). length t) h.3

no_other : (kind : ℕ) (body : List ℕ) (p : Pdu) → kind ≢ 1 → kind ≢ 2 → kind ≢ 3 → kind ≢ 4 → kind ≢ 5 → kind ≢ 6 → kind ≢ 7 → IsBody kind body p → ⊥
no_other kind body (AssociateRq a) n1 n2 n3 n4 n5 n6 n7 h = n1 h.0
no_other kind body (AssociateAc a) n1 n2 n3 n4 n5 n6 n7 h = n2 h.0
no_other kind body (AssociateRj rj) n1 n2 n3 n4 n5 n6 n7 h = n3 h.0
no_other kind body (Transfer ps) n1 n2 n3 n4 n5 n6 n7 h = n4 h.0
no_other kind body ReleaseRq n1 n2 n3 n4 n5 n6 n7 h = n5 h.0
no_other kind body ReleaseRp n1 n2 n3 n4 n5 n6 n7 h = n6 h.0
no_other kind body (Abort a) n1 n2 n3 n4 n5 n6 n7 h = n7 h.0

data_of : (body : List ℕ) (p : Pdu) → IsBody 4 body p → (ps : List Pdv) × Run StartsPdv ps body []
data_of body (Transfer ps) h = (ps, h.1)
data_of body p h = absurd (omega (arith, h.0))

four_cells : (body : List ℕ) → length body ≡ 4 → body ≡ get_or body 0 0 ∷ get_or body 1 0 ∷ get_or body 2 0 ∷ get_or body 3 0 ∷ []
four_cells body four =
    let none : drop 4 body ≡ [] = nil_from_length (drop 4 body) (omega (arith, length-drop 4 body, four)) in
    front4 body (omega (arith, four)) ∙ ap (λ (t : List ℕ). get_or body 0 0 ∷ get_or body 1 0 ∷ get_or body 2 0 ∷ get_or body 3 0 ∷ t) none

body_found : (kind : ℕ) (body : List ℕ) → IsBytes body → Found (IsBody kind body)
body_found kind body b = by_one (cases_eq kind 1)
  where
    by_seven : kind ≢ 1 → kind ≢ 2 → kind ≢ 3 → kind ≢ 4 → kind ≢ 5 → kind ≢ 6 → length body ≡ 4 → (kind ≡ 7) ⊎ (kind ≡ 7 → ⊥) → Found (IsBody kind body)
    by_seven n1 n2 n3 n4 n5 n6 four (inl e) = inl (Abort (record { source = get_or body 2 0; reason = get_or body 3 0 }), (e, get_or body 0 0, get_or body 1 0, four_cells body four))
    by_seven n1 n2 n3 n4 n5 n6 four (inr n7) = inr (λ p h. no_other kind body p n1 n2 n3 n4 n5 n6 n7 h)

    by_six : kind ≢ 1 → kind ≢ 2 → kind ≢ 3 → kind ≢ 4 → kind ≢ 5 → length body ≡ 4 → (kind ≡ 6) ⊎ (kind ≡ 6 → ⊥) → Found (IsBody kind body)
    by_six n1 n2 n3 n4 n5 four (inl e) = inl (ReleaseRp, (e, four))
    by_six n1 n2 n3 n4 n5 four (inr n6) = by_seven n1 n2 n3 n4 n5 n6 four (cases_eq kind 7)

    by_five : kind ≢ 1 → kind ≢ 2 → kind ≢ 3 → kind ≢ 4 → length body ≡ 4 → (kind ≡ 5) ⊎ (kind ≡ 5 → ⊥) → Found (IsBody kind body)
    by_five n1 n2 n3 n4 four (inl e) = inl (ReleaseRq, (e, four))
    by_five n1 n2 n3 n4 four (inr n5) = by_six n1 n2 n3 n4 n5 four (cases_eq kind 6)

    by_three : kind ≢ 1 → kind ≢ 2 → kind ≢ 4 → length body ≡ 4 → (kind ≡ 3) ⊎ (kind ≡ 3 → ⊥) → Found (IsBody kind body)
    by_three n1 n2 n4 four (inl e) = inl (AssociateRj (record { result = get_or body 1 0; source = get_or body 2 0; reason = get_or body 3 0 }), (e, get_or body 0 0, four_cells body four))
    by_three n1 n2 n4 four (inr n3) = by_five n1 n2 n3 n4 four (cases_eq kind 5)

    by_length : kind ≢ 1 → kind ≢ 2 → kind ≢ 4 → (length body ≡ 4) ⊎ (length body ≡ 4 → ⊥) → Found (IsBody kind body)
    by_length n1 n2 n4 (inl four) = by_three n1 n2 n4 four (cases_eq kind 3)
    by_length n1 n2 n4 (inr other) = inr (λ p h. other (four_of kind body p n1 n2 n4 h))

    of_data : kind ≡ 4 → Found (λ (ps : List Pdv). Run StartsPdv ps body []) → Found (IsBody kind body)
    of_data e (inl (ps, r)) = inl (Transfer ps, (e, r))
    of_data e (inr none) = inr (λ p h. let d = data_of body p (subst (λ (k : ℕ). IsBody k body p) e h) in none d.0 d.1)

    by_four : kind ≢ 1 → kind ≢ 2 → (kind ≡ 4) ⊎ (kind ≡ 4 → ⊥) → Found (IsBody kind body)
    by_four n1 n2 (inl e) = of_data e (pdvs_found body b)
    by_four n1 n2 (inr n4) = by_length n1 n2 n4 (cases_eq (length body) 4)

    of_acceptance : kind ≡ 2 → Found (IsAssociation 0x21 IsAnswer body) → Found (IsBody kind body)
    of_acceptance e (inl (a, h)) = inl (AssociateAc a, (e, h))
    of_acceptance e (inr none) = inr (λ p h. let d = acceptance_of body p (subst (λ (k : ℕ). IsBody k body p) e h) in none d.0 d.1)

    by_two : kind ≢ 1 → (kind ≡ 2) ⊎ (kind ≡ 2 → ⊥) → Found (IsBody kind body)
    by_two n1 (inl e) = of_acceptance e (association_found 0x21 IsAnswer answer_found body b)
    by_two n1 (inr n2) = by_four n1 n2 (cases_eq kind 4)

    of_request : kind ≡ 1 → Found (IsAssociation 0x20 IsProposal body) → Found (IsBody kind body)
    of_request e (inl (a, h)) = inl (AssociateRq a, (e, h))
    of_request e (inr none) = inr (λ p h. let d = request_of body p (subst (λ (k : ℕ). IsBody k body p) e h) in none d.0 d.1)

    by_one : (kind ≡ 1) ⊎ (kind ≡ 1 → ⊥) → Found (IsBody kind body)
    by_one (inl e) = of_request e (association_found 0x20 IsProposal proposal_found body b)
    by_one (inr n1) = by_two n1 (cases_eq kind 2)

-- ---- ids

among : (ids : List ℕ) (x : ℕ) → Contains ids x ⊎ (Contains ids x → ⊥)
among [] x = inr none
  where
    none : Contains [] x → ⊥
    none (k, h, e) = omega (arith, h)
among (y ∷ ys) x = by_head (cases_eq y x) (among ys x)
  where
    none : (y ≡ x → ⊥) → (Contains ys x → ⊥) → Contains (y ∷ ys) x → ⊥
    none other later (zero, h, e) = other e
    none other later (suc k, h, e) = later (k, omega (arith, h), e)

    by_head : (y ≡ x) ⊎ (y ≡ x → ⊥) → Contains ys x ⊎ (Contains ys x → ⊥) → Contains (y ∷ ys) x ⊎ (Contains (y ∷ ys) x → ⊥)
    by_head (inl e) rest = inl (0, omega arith, e)
    by_head (inr other) (inl (k, h, e)) = inl (suc k, omega (arith, h), e)
    by_head (inr other) (inr later) = inr (none other later)

ids_found : (ids : List ℕ) → AreContextIds ids ⊎ (AreContextIds ids → ⊥)
ids_found [] = inl tt
ids_found (x ∷ xs) = by_odd (cases_eq (x % 2) 1) (among xs x) (ids_found xs)
  where
    by_odd : (x % 2 ≡ 1) ⊎ (x % 2 ≡ 1 → ⊥) → Contains xs x ⊎ (Contains xs x → ⊥) → AreContextIds xs ⊎ (AreContextIds xs → ⊥) → AreContextIds (x ∷ xs) ⊎ (AreContextIds (x ∷ xs) → ⊥)
    by_odd (inr even) again later = inr (λ h. even h.0)
    by_odd (inl odd) (inl again) later = inr (λ h. h.1 again)
    by_odd (inl odd) (inr once) (inr bad) = inr (λ h. bad h.2)
    by_odd (inl odd) (inr once) (inl good) = inl (odd, once, good)

context_ids_found : (p : Pdu) → HasContextIds p ⊎ (HasContextIds p → ⊥)
context_ids_found (AssociateRq rq) = ids_found (map (λ (c : ContextProposal). c.id) rq.contexts)
context_ids_found (AssociateAc ac) = ids_found (map (λ (c : ContextAnswer). c.id) ac.contexts)
context_ids_found (AssociateRj rj) = inl tt
context_ids_found (Transfer ps) = inl tt
context_ids_found ReleaseRq = inl tt
context_ids_found ReleaseRp = inl tt
context_ids_found (Abort a) = inl tt

-- ---- texts

bytes_of : (text : List ℕ) → AllByRecursion (λ (b : ℕ). b < 256) text → IsBytes text
bytes_of [] h i = omega arith
bytes_of (t ∷ ts) h zero = h.0
bytes_of (t ∷ ts) h (suc i) = bytes_of ts h.1 i

not_memory : (limit kind len : ℕ) → header_fault limit kind len ≡ Some Memory → ⊥
not_memory limit kind len e = absurd (grind arith)

abbrev Answered : ℕ → List ℕ → Type 0
Answered limit text = (r : Result (Pdu × ℕ) PduFault) × (r ≢ Err Memory) × Decodes limit text r

pub has_answer : (limit : ℕ) (text : List ℕ) → AllByRecursion (λ (b : ℕ). b < 256) text → Answered limit text
has_answer limit text h = by_length (bytes_of text h) (cases_lt (length text) 6)
  where
    by_ids : (kind : ℕ) (body after : List ℕ) → HasWholeBody limit text kind body after → (p : Pdu) → IsBody kind body p → HasContextIds p ⊎ (HasContextIds p → ⊥) → Answered limit text
    by_ids kind body after w p is (inl ids) = let s = spelled limit text kind body after p w is ids in (Ok (p, length body + 6), (λ e. cc), (s.0, s.1, s.2, s.3, s.4))
    by_ids kind body after w p is (inr bad) = (Err BadContextId, (λ e. cc), (kind, body, after, p, w, is, bad))

    by_body : (kind : ℕ) (body after : List ℕ) → HasWholeBody limit text kind body after → Found (IsBody kind body) → Answered limit text
    by_body kind body after w (inl (p, is)) = by_ids kind body after w p is (context_ids_found p)
    by_body kind body after w (inr none) = (Err BadItem, (λ e. cc), inr (kind, body, after, w, none))

    by_rest : (kind len : ℕ) (rest : List ℕ) → StartsFrame text kind len rest → IsBytes rest → header_fault limit kind len ≡ None → (length rest < len) ⊎ (len ≤ length rest) → Answered limit text
    by_rest kind len rest bg b good (inl short) = (Err More, (λ e. cc), inr (kind, len, rest, bg, good, short))
    by_rest kind len rest bg b good (inr fits) = by_body kind (take len rest) (drop len rest) (whole limit text kind len rest bg good fits) (body_found kind (take len rest) (bytes_take len rest b))

    by_fault : (kind len : ℕ) (rest : List ℕ) → StartsFrame text kind len rest → IsBytes rest → (o : Option PduFault) → header_fault limit kind len ≡ o → Answered limit text
    by_fault kind len rest bg b (Some fault) e =
        (Err fault, (λ m. let f : fault ≡ Memory = cc in not_memory limit kind len (e ∙ ap Some f)), header_shows limit text kind len rest bg fault e)
    by_fault kind len rest bg b None e = by_rest kind len rest bg b e (cases_lt (length rest) len)

    by_length : IsBytes text → (length text < 6) ⊎ (6 ≤ length text) → Answered limit text
    by_length b (inl short) = (Err More, (λ e. cc), inl short)
    by_length b (inr long) =
        let len = ((get_or text 2 0 * 256 + get_or text 3 0) * 256 + get_or text 4 0) * 256 + get_or text 5 0 in
        by_fault (get_or text 0 0) len (take (length text - 6) (drop 6 text)) (begins text len long b refl) (bytes_take (length text - 6) (drop 6 text) (bytes_drop 6 text b)) (header_fault limit (get_or text 0 0) len) refl

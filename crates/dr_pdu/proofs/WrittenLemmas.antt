-- What is written is a spelling.
use Rattle.std.proofs.Common.{◌≡◌, ℕ, ◌+◌, ◌<◌, ◌≤◌, ◌^◌, List, [], ◌∷◌, ◌++◌, length, map, Bool, true, false, cond, eqb, ltb, Some, None, slice_get, inl, inr, ◌⊎◌, refl, sym, ap, subst, ◌∙◌, arith, append_assoc}
use Rattle.std.specs.Option.{option_map}
use Rattle.std.specs.Int.{w32, to_be_bytes}
use Rattle.std.specs.List.{flat_map, AllByRecursion}
use Rattle.std.proofs.lemmas.List.{length-append, append-nil}
use Rattle.std.proofs.lemmas.Bool.{eqb-true, eqb-false, eq-eqb, le-ltb, ltb-false}
use Rattle.dr_base.specs.Runs.{Run}
use Rattle.dr_base.proofs.RunLemmas.{run_append}
use Rattle.dr_pdu.specs.declared.fault.PduFault.TheVariants.{TooLong, BadItem}
use Rattle.dr_pdu.specs.declared.pdu.Pdu.{Pdu}
use Rattle.dr_pdu.specs.declared.pdu.Pdu.TheVariants.{AssociateRq, AssociateAc, AssociateRj, Transfer, ReleaseRq, ReleaseRp, Abort}
use Rattle.dr_pdu.specs.declared.pdu.Pdv.{Pdv}
use Rattle.dr_pdu.specs.declared.pdu.Association.{Association}
use Rattle.dr_pdu.specs.declared.pdu.ContextProposal.{ContextProposal}
use Rattle.dr_pdu.specs.declared.pdu.ContextAnswer.{ContextAnswer}
use Rattle.dr_base.specs.Padding.{unpadded}
use Rattle.dr_pdu.specs.Items.{Item, StartsPduItem, AreItems, StartsPdv, pdv_text, bodies, first_body}
use Rattle.dr_pdu.specs.Grammar.{IsProposal, IsAnswer, IsGreatestLength, IsAssociation, IsBody, AreContextIds, HasContextIds, header_fault, Spells}
use Rattle.dr_base.specs.Lists.{Each}
use Rattle.dr_pdu.specs.Written.{item, padded, implicit, implementation, version_name, proposal_body, answer_body, user_text, association_text, unless_long, request_text, acceptance_text, framed, written, body_text, Fits, MeetsLimit}
use Rattle.dr_pdu.specs.Fitting.{IsUnpadded, FrontFits, ProposalFits, AnswerFits, weight, AssociationFits}
use Rattle.dr_pdu.proofs.Trimming.{title_of_padded, length_of_padded}
use Rattle.dr_pdu.proofs.Weights.{length_of_bodies, length_of_items, small_parts}
use Rattle.dr_pdu.proofs.FitLemmas.{AssociationHolds, association_fits, proposal_fits, answer_fits, values_are}

-- ---- items of one type, one after the other

module _ {C : Type 0} (kind : ℕ) (body_of : C → List ℕ) where
  abbrev pub item_of : C → Item
  item_of c = record { kind = kind; body = body_of c }

  run_items : (cs : List C) (rest : List ℕ) → AllByRecursion (λ (b : List ℕ). length b < 2 ^ 16) (map body_of cs) → Run StartsPduItem (map item_of cs) (flat_map (λ (c : C). item kind (body_of c)) cs ++ rest) rest
  run_items [] rest h = refl
  run_items (c ∷ cs) rest h =
      (flat_map (λ (x : C). item kind (body_of x)) cs ++ rest, (0, h.0, append_assoc (item kind (body_of c)) (flat_map (λ (x : C). item kind (body_of x)) cs) rest), run_items cs rest h.1)

  own_bodies : (cs : List C) (more : List Item) → bodies kind (map item_of cs ++ more) ≡ map body_of cs ++ bodies kind more
  own_bodies [] more = refl
  own_bodies (c ∷ cs) more = let same : eqb kind kind ≡ true = eq-eqb kind kind refl in rw same (ap (λ (t : List (List ℕ)). body_of c ∷ t) (own_bodies cs more))

  other_bodies : (other : ℕ) → eqb kind other ≡ false → (cs : List C) (more : List Item) → bodies other (map item_of cs ++ more) ≡ bodies other more
  other_bodies other e [] more = refl
  other_bodies other e (c ∷ cs) more = rw e (other_bodies other e cs more)

  each_body : (IsContext : List ℕ → C → Type 0) (ContextFits : C → Type 0) → ((c : C) → ContextFits c → IsContext (body_of c) c) → (cs : List C) → AllByRecursion ContextFits cs → Each IsContext (map body_of cs) cs
  each_body IsContext ContextFits one [] h = tt
  each_body IsContext ContextFits one (c ∷ cs) h = (one c h.0, each_body IsContext ContextFits one cs h.1)

  all_small : (ContextFits : C → Type 0) → ((c : C) → ContextFits c → length (body_of c) < 2 ^ 16) → (cs : List C) → AllByRecursion ContextFits cs → AllByRecursion (λ (b : List ℕ). length b < 2 ^ 16) (map body_of cs)
  all_small ContextFits one [] h = tt
  all_small ContextFits one (c ∷ cs) h = (one c h.0, all_small ContextFits one cs h.1)

same_map : (bs : List (List ℕ)) → map (λ (b : List ℕ). b) bs ≡ bs
same_map [] = refl
same_map (b ∷ bs) = ap (λ (t : List (List ℕ)). b ∷ t) (same_map bs)

all_unpadded : (bs : List (List ℕ)) → AllByRecursion IsUnpadded bs → map unpadded bs ≡ bs
all_unpadded [] h = refl
all_unpadded (b ∷ bs) h = ap (λ (x : List ℕ). x ∷ map unpadded bs) h.0 ∙ ap (λ (t : List (List ℕ)). b ∷ t) (all_unpadded bs h.1)

-- ---- contexts

pub proposal_written : (c : ContextProposal) → ProposalFits c → IsProposal (proposal_body c) c
proposal_written c (class, syntaxes, some, small) =
    let text = flat_map (item 0x40) c.syntaxes in
    let size : length (proposal_body c) ≡ (8 + length c.class) + weight c.syntaxes = omega (arith, length-append c.class text, length_of_bodies 0x40 c.syntaxes) in
    let light : weight (map (λ (b : List ℕ). b) c.syntaxes) < 2 ^ 16 = rw (same_map c.syntaxes) (omega (arith, size, small)) in
    let run = run_items 0x40 (λ (b : List ℕ). b) c.syntaxes [] (small_parts (2 ^ 16) (map (λ (b : List ℕ). b) c.syntaxes) light) in
    let its = map (item_of 0x40 (λ (b : List ℕ). b)) c.syntaxes in
    let are : Run StartsPduItem its text [] = subst (λ (t : List ℕ). Run StartsPduItem its t []) (append-nil text) run in
    let them : bodies 0x40 its ≡ c.syntaxes = ap (bodies 0x40) (sym (append-nil its)) ∙ own_bodies 0x40 (λ (b : List ℕ). b) c.syntaxes [] ∙ append-nil (map (λ (b : List ℕ). b) c.syntaxes) ∙ same_map c.syntaxes in
    (0, 0, 0, record { kind = 0x30; body = c.class } ∷ its, item 0x30 c.class ++ text, refl, (text, (0, omega (arith, size, small), refl), are), ap Some class, ap (map unpadded) them ∙ all_unpadded c.syntaxes syntaxes, some)

pub answer_written : (full : Bool) (c : ContextAnswer) → AnswerFits c → IsAnswer (answer_body full c) c × (length (answer_body full c) < 2 ^ 16)
answer_written full c (refused, trimmed, small) = by_test (eqb c.result 0) refl full
  where
    by_test : (t : Bool) → eqb c.result 0 ≡ t → (full : Bool) → IsAnswer (answer_body full c) c × (length (answer_body full c) < 2 ^ 16)
    by_test true t full =
        let size : length (answer_body false c) ≡ length (c.id ∷ 0 ∷ c.result ∷ 0 ∷ item 0x40 c.syntax) = rw t refl in
        let size' : length (answer_body full c) ≡ length (c.id ∷ 0 ∷ c.result ∷ 0 ∷ item 0x40 c.syntax) = rw t refl in
        let i : Item = record { kind = 0x40; body = c.syntax } in
        let says : cond (eqb c.result 0) (option_map unpadded (first_body 0x40 (i ∷ []))) (Some []) ≡ Some c.syntax = rw t (ap Some trimmed) in
        ((0, 0, i ∷ [], item 0x40 c.syntax, rw t refl, ([], (0, omega (arith, size, small), sym (append-nil (item 0x40 c.syntax))), refl), says), omega (arith, size, size', small))
    by_test false t true =
        let i : Item = record { kind = 0x40; body = implicit } in
        let none : c.syntax ≡ [] = refused (eqb-false c.result 0 t) in
        let says : cond (eqb c.result 0) (option_map unpadded (first_body 0x40 (i ∷ []))) (Some []) ≡ Some c.syntax = rw t (ap Some (sym none)) in
        let size : length (answer_body true c) ≡ 25 = rw t refl in
        ((0, 0, i ∷ [], item 0x40 implicit, rw t refl, ([], (0, omega arith, refl), refl), says), omega (arith, size))
    by_test false t false =
        let none : c.syntax ≡ [] = refused (eqb-false c.result 0 t) in
        let says : cond (eqb c.result 0) (option_map unpadded None) (Some []) ≡ Some c.syntax = rw t (ap Some (sym none)) in
        ((0, 0, [], [], rw t refl, refl, says), small)

-- ---- user information

users : Bool → ℕ → List Item
users true n = record { kind = 0x50; body = item 0x51 (to_be_bytes w32 n) ++ (item 0x52 implementation ++ item 0x55 version_name) } ∷ []
users false n = cond (eqb n 0) [] (record { kind = 0x50; body = item 0x51 (to_be_bytes w32 n) } ∷ [])

record UsersSay (n : ℕ) (is : List Item) (text : List ℕ) : Type 0 where
  are : AreItems is text
  no_other : (k : ℕ) → eqb 0x50 k ≡ false → bodies k is ≡ []
  greatest : IsGreatestLength (first_body 0x50 is) n

users_say : (full : Bool) (n : ℕ) → n < 2 ^ 32 → UsersSay n (users full n) (user_text full n)
unfolding users
users_say true n small =
    let i : Item = record { kind = 0x51; body = to_be_bytes w32 n } in
    let j : Item = record { kind = 0x52; body = implementation } in
    let k : Item = record { kind = 0x55; body = version_name } in
    record {
      are = ([], (0, omega arith, refl), refl);
      no_other = λ other e. rw e refl;
      greatest = (i ∷ j ∷ k ∷ [], (item 0x52 implementation ++ item 0x55 version_name, (0, omega arith, refl), (item 0x55 version_name, (0, omega arith, refl), ([], (0, omega arith, refl), refl))), (small, refl));
    }
users_say false n small = by_test (eqb n 0) refl
  where
    by_test : (t : Bool) → eqb n 0 ≡ t → UsersSay n (cond t [] (record { kind = 0x50; body = item 0x51 (to_be_bytes w32 n) } ∷ [])) (cond t [] (item 0x50 (item 0x51 (to_be_bytes w32 n))))
    by_test true t = record { are = refl; no_other = λ other e. refl; greatest = eqb-true n 0 t }
    by_test false t =
        let i : Item = record { kind = 0x51; body = to_be_bytes w32 n } in
        record {
          are = ([], (0, omega arith, refl), refl);
          no_other = λ other e. rw e refl;
          greatest = (i ∷ [], ([], (0, omega arith, refl), refl), (small, refl));
        }

-- ---- associations

pub length_of_association : {C : Type 0} (kind : ℕ) (body_of : C → List ℕ) (user : List ℕ) (a : Association C) → FrontFits a.front
    → length (association_text kind body_of user a) ≡ (72 + length a.application) + (weight (map body_of a.contexts) + length user)
length_of_association {C} kind body_of user a (called, calling, reserved) =
    let contexts = flat_map (λ (c : C). item kind (body_of c)) a.contexts in
    let last = item 0x10 a.application ++ (contexts ++ user) in
    omega (
      arith,
      length-append (padded a.front.called) (padded a.front.calling ++ (a.front.reserved ++ last)),
      length-append (padded a.front.calling) (a.front.reserved ++ last),
      length-append a.front.reserved last,
      length_of_padded a.front.called called.0,
      length_of_padded a.front.calling calling.0,
      reserved,
      length-append a.application (contexts ++ user),
      length-append contexts user,
      length_of_items kind body_of a.contexts,
    )

association_written : {C : Type 0} (kind : ℕ) (IsContext : List ℕ → C → Type 0) (ContextFits : C → Type 0) (bare body_of : C → List ℕ) (full : Bool)
    → ((c : C) → ContextFits c → IsContext (body_of c) c) → ((c : C) → ContextFits c → length (body_of c) < 2 ^ 16)
    → eqb 0x10 kind ≡ false → eqb 0x50 kind ≡ false → eqb kind 0x50 ≡ false
    → (a : Association C) → AssociationHolds ContextFits bare a → IsAssociation kind IsContext (association_text kind body_of (user_text full a.max_pdu) a) a
association_written {C} kind IsContext ContextFits bare body_of full one smalls apart apart' apart'' a holds =
    let fits = holds.fits in
    let called = fits.0.0 in
    let calling = fits.0.1 in
    let user = users_say full a.max_pdu holds.greatest in
    let us = users full a.max_pdu in
    let cs = a.contexts in
    let first : Item = record { kind = 0x10; body = a.application } in
    let its = map (item_of kind body_of) cs in
    let contexts = flat_map (λ (c : C). item kind (body_of c)) cs in
    let end = user_text full a.max_pdu in
    let rest = item 0x10 a.application ++ (contexts ++ end) in
    let run = run_append StartsPduItem its us (contexts ++ end) end [] (run_items kind body_of cs end (all_small kind body_of ContextFits smalls cs fits.2)) user.are in
    let own : bodies kind (first ∷ (its ++ us)) ≡ map body_of cs = rw apart (own_bodies kind body_of cs us ∙ ap (λ (t : List (List ℕ)). map body_of cs ++ t) (user.no_other kind apart') ∙ append-nil (map body_of cs)) in
    let last : bodies 0x50 (its ++ us) ≡ bodies 0x50 us = other_bodies kind body_of 0x50 apart'' cs us in (
      first ∷ (its ++ us),
      rest,
      (
        0,
        0,
        padded a.front.called,
        padded a.front.calling,
        holds.version,
        length_of_padded a.front.called called.0,
        length_of_padded a.front.calling calling.0,
        fits.0.2,
        title_of_padded a.front.called ∙ called.1,
        title_of_padded a.front.calling ∙ calling.1,
        refl,
      ),
      (contexts ++ end, (0, fits.4, refl), run),
      ap Some fits.1,
      subst (λ (bs : List (List ℕ)). Each IsContext bs cs) (sym own) (each_body kind body_of IsContext ContextFits one cs fits.2),
      subst (λ (bs : List (List ℕ)). IsGreatestLength (slice_get bs 0) a.max_pdu) (sym last) user.greatest,
    )

-- the full text, or the bare one where the full one is too long
one_of : (P : List ℕ → Type 0) (full bare : List ℕ) → P full → P bare → length bare ≤ 262144 → P (unless_long full bare) × (length (unless_long full bare) ≤ 262144)
one_of P full bare p q short = by_test (ltb 262144 (length full)) refl
  where
    by_test : (t : Bool) → ltb 262144 (length full) ≡ t → P (cond t bare full) × (length (cond t bare full) ≤ 262144)
    by_test true e = (q, short)
    by_test false e = (p, ltb-false 262144 (length full) e)

-- ---- whole texts

within : (kind n : ℕ) → (kind ≡ 1) ⊎ (kind ≡ 2) → header_fault 0 kind n ≡ None → n ≤ 262144
within kind n k h = by_test (ltb 262144 n) refl
  where
    at : (k : ℕ) → (kind ≡ k) → header_fault 0 k n ≡ None
    at k e = subst (λ (x : ℕ). header_fault 0 x n ≡ None) e h

    one : (kind ≡ 1) ⊎ (kind ≡ 2) → cond (ltb 262144 n) (Some TooLong) (cond (ltb n 68) (Some BadItem) None) ≡ None
    one (inl e) = at 1 e
    one (inr e) = at 2 e

    by_test : (t : Bool) → ltb 262144 n ≡ t → n ≤ 262144
    by_test true e = let h' : cond true (Some TooLong) (cond (ltb n 68) (Some BadItem) None) ≡ None = subst (λ (t : Bool). cond t (Some TooLong) (cond (ltb n 68) (Some BadItem) None) ≡ None) e (one k) in absurd (cc)
    by_test false e = ltb-false 262144 n e

no_fault : (n : ℕ) → 68 ≤ n → n ≤ 262144 → cond (ltb 262144 n) (Some TooLong) (cond (ltb n 68) (Some BadItem) None) ≡ None
no_fault n least most = let e = le-ltb 262144 n most in let f = le-ltb n 68 least in rw (e, f) refl

pub data_within : (kind n : ℕ) → kind ≡ 4 → header_fault 0 kind n ≡ None → n ≤ 134217728
data_within kind n e h = by_test (ltb 134217728 n) refl (subst (λ (k : ℕ). header_fault 0 k n ≡ None) e h)
  where
    by_test : (t : Bool) → ltb 134217728 n ≡ t → cond (ltb 134217728 n) (Some TooLong) None ≡ None → n ≤ 134217728
    by_test true e h = let h' : cond true (Some TooLong) None ≡ None = subst (λ (t : Bool). cond t (Some TooLong) None ≡ None) e h in absurd (cc)
    by_test false e h = ltb-false 134217728 n e

pub no_data_fault : (limit n : ℕ) → n ≤ 134217728 → (limit ≡ 0) ⊎ (n ≤ limit) → header_fault limit 4 n ≡ None
no_data_fault limit n most (inl zero') = let e = le-ltb 134217728 n most in rw zero' (rw e refl)
no_data_fault limit n most (inr within') = by_test (eqb limit 0) refl
  where
    by_test : (t : Bool) → eqb limit 0 ≡ t → cond (ltb (cond t 134217728 limit) n) (Some TooLong) None ≡ None
    by_test true t = let e = le-ltb 134217728 n most in rw e refl
    by_test false t = let e = le-ltb limit n within' in rw e refl

framed_spells : (limit kind : ℕ) (body : List ℕ) (p : Pdu) → length body < 2 ^ 32 → header_fault limit kind (length body) ≡ None → IsBody kind body p → HasContextIds p → Spells limit (framed kind body) p
framed_spells limit kind body p small ok is ids =
    (kind, body, ((0, small, ap (λ (t : List ℕ). kind ∷ 0 ∷ (to_be_bytes w32 (length body) ++ t)) (sym (append-nil body))), ok), is, ids)

pub holds_request : (body : List ℕ) (rq : Association ContextProposal) → IsAssociation 0x20 IsProposal body rq → length body ≤ 262144 → AssociationHolds ProposalFits proposal_body rq
holds_request = association_fits 0x20 IsProposal ProposalFits proposal_body (λ x. absurd (omega arith)) (λ x. absurd (omega arith)) proposal_fits

pub holds_acceptance : (body : List ℕ) (ac : Association ContextAnswer) → IsAssociation 0x21 IsAnswer body ac → length body ≤ 262144 → AssociationHolds AnswerFits (answer_body false) ac
holds_acceptance = association_fits 0x21 IsAnswer AnswerFits (answer_body false) (λ x. absurd (omega arith)) (λ x. absurd (omega arith)) answer_fits

abbrev Body : {C : Type 0} → ℕ → (List ℕ → C → Type 0) → Association C → List ℕ → Type 0
Body kind IsContext a t = IsAssociation kind IsContext t a × (68 ≤ length t)

request_body : (rq : Association ContextProposal) → AssociationHolds ProposalFits proposal_body rq → Body 0x20 IsProposal rq (body_text (AssociateRq rq)) × (length (body_text (AssociateRq rq)) ≤ 262144)
request_body rq holds =
    let fits = holds.fits in
    let sizes = λ (full : Bool). length_of_association 0x20 proposal_body (user_text full rq.max_pdu) rq fits.0 in
    let are = λ (full : Bool). association_written 0x20 IsProposal ProposalFits proposal_body proposal_body full proposal_written (λ c h. h.3) refl refl refl rq holds in
    one_of (Body 0x20 IsProposal rq) (request_text true rq) (request_text false rq) (are true, omega (arith, sizes true)) (are false, omega (arith, sizes false)) (omega (arith, sizes false, fits.3))

acceptance_body : (ac : Association ContextAnswer) → AssociationHolds AnswerFits (answer_body false) ac → Body 0x21 IsAnswer ac (body_text (AssociateAc ac)) × (length (body_text (AssociateAc ac)) ≤ 262144)
acceptance_body ac holds =
    let fits = holds.fits in
    let sizes = λ (full : Bool). length_of_association 0x21 (answer_body full) (user_text full ac.max_pdu) ac fits.0 in
    let are = λ (full : Bool). association_written 0x21 IsAnswer AnswerFits (answer_body false) (answer_body full) full (λ c h. (answer_written full c h).0) (λ c h. (answer_written full c h).1) refl refl refl ac holds in
    one_of (Body 0x21 IsAnswer ac) (acceptance_text true ac) (acceptance_text false ac) (are true, omega (arith, sizes true)) (are false, omega (arith, sizes false)) (omega (arith, sizes false, fits.3))

pub request_spells : (limit : ℕ) (rq : Association ContextProposal) → AssociationHolds ProposalFits proposal_body rq → HasContextIds (AssociateRq rq) → Spells limit (written (AssociateRq rq)) (AssociateRq rq)
request_spells limit rq holds ids =
    let it = request_body rq holds in
    framed_spells limit 1 (body_text (AssociateRq rq)) (AssociateRq rq) (omega (arith, it.1)) (no_fault (length (body_text (AssociateRq rq))) it.0.1 it.1) (refl, it.0.0) ids

pub acceptance_spells : (limit : ℕ) (ac : Association ContextAnswer) → AssociationHolds AnswerFits (answer_body false) ac → HasContextIds (AssociateAc ac) → Spells limit (written (AssociateAc ac)) (AssociateAc ac)
acceptance_spells limit ac holds ids =
    let it = acceptance_body ac holds in
    framed_spells limit 2 (body_text (AssociateAc ac)) (AssociateAc ac) (omega (arith, it.1)) (no_fault (length (body_text (AssociateAc ac))) it.0.1 it.1) (refl, it.0.0) ids

-- what a spelling under no limit says
pub fits_request : (rq : Association ContextProposal) → Fits (AssociateRq rq) → AssociationHolds ProposalFits proposal_body rq × AreContextIds (map (λ (c : ContextProposal). c.id) rq.contexts)
fits_request rq (text, (kind, body, whole, is, ids)) = (holds_request body rq is.1 (within kind (length body) (inl is.0) whole.1), ids)

pub fits_acceptance : (ac : Association ContextAnswer) → Fits (AssociateAc ac) → AssociationHolds AnswerFits (answer_body false) ac × AreContextIds (map (λ (c : ContextAnswer). c.id) ac.contexts)
fits_acceptance ac (text, (kind, body, whole, is, ids)) = (holds_acceptance body ac is.1 (within kind (length body) (inr is.0) whole.1), ids)

pub fits_values : (pdvs : List Pdv) → Fits (Transfer pdvs) → length (flat_map pdv_text pdvs) ≤ 134217728
fits_values pdvs (text, (kind, body, whole, is, ids)) =
    let same = ap (λ (t : List ℕ). length t) (values_are pdvs body is.1) in
    omega (arith, same, data_within kind (length body) is.0 whole.1)

pub request_short : (rq : Association ContextProposal) → Fits (AssociateRq rq) → length (body_text (AssociateRq rq)) ≤ 262144
request_short rq f = (request_body rq (fits_request rq f).0).1

pub acceptance_short : (ac : Association ContextAnswer) → Fits (AssociateAc ac) → length (body_text (AssociateAc ac)) ≤ 262144
acceptance_short ac f = (acceptance_body ac (fits_acceptance ac f).0).1

-- ---- which PDUs have a spelling

abbrev Holds : Pdu → Type 0
Holds (AssociateRq rq) = AssociationHolds ProposalFits proposal_body rq × AreContextIds (map (λ (c : ContextProposal). c.id) rq.contexts)
Holds (AssociateAc ac) = AssociationHolds AnswerFits (answer_body false) ac × AreContextIds (map (λ (c : ContextAnswer). c.id) ac.contexts)
Holds (Transfer pdvs) = length (flat_map pdv_text pdvs) ≤ 134217728
Holds p = Unit {0}

holds_of : (p : Pdu) → Fits p → Holds p
holds_of (AssociateRq rq) f = fits_request rq f
holds_of (AssociateAc ac) f = fits_acceptance ac f
holds_of (Transfer pdvs) f = fits_values pdvs f
holds_of (AssociateRj rj) f = tt
holds_of ReleaseRq f = tt
holds_of ReleaseRp f = tt
holds_of (Abort a) f = tt

all_values : (pdvs : List Pdv) → length (flat_map pdv_text pdvs) ≤ 134217728 → Run StartsPdv pdvs (flat_map pdv_text pdvs) []
all_values [] h = refl
all_values (p ∷ ps) h =
    let whole = length-append p.fragment (flat_map pdv_text ps) in
    (flat_map pdv_text ps, (omega (arith, h, whole), refl), all_values ps (omega (arith, h, whole)))

spells_of : (limit : ℕ) (p : Pdu) → Holds p → MeetsLimit limit p → Spells limit (written p) p
spells_of limit (AssociateRq rq) h m = request_spells limit rq h.0 h.1
spells_of limit (AssociateAc ac) h m = acceptance_spells limit ac h.0 h.1
spells_of limit (AssociateRj rj) h m = framed_spells limit 3 (body_text (AssociateRj rj)) (AssociateRj rj) (omega arith) refl (refl, 0, refl) tt
spells_of limit (Transfer pdvs) h m =
    framed_spells limit 4 (flat_map pdv_text pdvs) (Transfer pdvs) (omega (arith, h)) (no_data_fault limit (length (flat_map pdv_text pdvs)) h m) (refl, all_values pdvs h) tt
spells_of limit ReleaseRq h m = framed_spells limit 5 (body_text ReleaseRq) ReleaseRq (omega arith) refl (refl, refl) tt
spells_of limit ReleaseRp h m = framed_spells limit 6 (body_text ReleaseRp) ReleaseRp (omega arith) refl (refl, refl) tt
spells_of limit (Abort a) h m = framed_spells limit 7 (body_text (Abort a)) (Abort a) (omega arith) refl (refl, 0, 0, refl) tt

no_limit : (p : Pdu) → MeetsLimit 0 p
no_limit (Transfer pdvs) = inl refl
no_limit (AssociateRq rq) = tt
no_limit (AssociateAc ac) = tt
no_limit (AssociateRj rj) = tt
no_limit ReleaseRq = tt
no_limit ReleaseRp = tt
no_limit (Abort a) = tt

fits_of : (p : Pdu) → Holds p → Fits p
fits_of p h = (written p, spells_of 0 p h (no_limit p))

pub written_spells : (limit : ℕ) (p : Pdu) → Fits p → MeetsLimit limit p → Spells limit (written p) p
written_spells limit p f m = spells_of limit p (holds_of p f) m

pub request_fits : (rq : Association ContextProposal) → rq.front.version < 2 ^ 16 → rq.max_pdu < 2 ^ 32 → AssociationFits ProposalFits proposal_body rq → AreContextIds (map (λ (c : ContextProposal). c.id) rq.contexts) → Fits (AssociateRq rq)
request_fits rq version greatest fits ids = fits_of (AssociateRq rq) (record { fits = fits; version = version; greatest = greatest }, ids)

pub acceptance_fits : (ac : Association ContextAnswer) → ac.front.version < 2 ^ 16 → ac.max_pdu < 2 ^ 32 → AssociationFits AnswerFits (answer_body false) ac → AreContextIds (map (λ (c : ContextAnswer). c.id) ac.contexts) → Fits (AssociateAc ac)
acceptance_fits ac version greatest fits ids = fits_of (AssociateAc ac) (record { fits = fits; version = version; greatest = greatest }, ids)

pub values_fit : (pdvs : List Pdv) → length (flat_map pdv_text pdvs) ≤ 134217728 → Fits (Transfer pdvs)
values_fit pdvs h = fits_of (Transfer pdvs) h

-- the others always have one
pub others_fit : (p : Pdu) → ((rq : Association ContextProposal) → p ≡ AssociateRq rq → ⊥) → ((ac : Association ContextAnswer) → p ≡ AssociateAc ac → ⊥) → ((pdvs : List Pdv) → p ≡ Transfer pdvs → ⊥) → Fits p
others_fit (AssociateRq rq) a b c = absurd (a rq refl)
others_fit (AssociateAc ac) a b c = absurd (b ac refl)
others_fit (Transfer pdvs) a b c = absurd (c pdvs refl)
others_fit (AssociateRj rj) a b c = fits_of (AssociateRj rj) tt
others_fit ReleaseRq a b c = fits_of ReleaseRq tt
others_fit ReleaseRp a b c = fits_of ReleaseRp tt
others_fit (Abort x) a b c = fits_of (Abort x) tt

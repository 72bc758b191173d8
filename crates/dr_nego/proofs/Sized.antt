-- Proposals and acceptances can be written.
use Rattle.std.proofs.Common.{◌≡◌, ◌≢◌, ℕ, zero, suc, ◌+◌, ◌-◌, ◌*◌, ◌%◌, ◌<◌, ◌≤◌, ◌^◌, false, List, [], ◌∷◌, ◌++◌, length, map, take, get_or, replicate, Contains, refl, sym, ap, subst, ◌∙◌, inl, inr, ◌⊎◌, arith}
use Rattle.std.specs.Prelude.{◌==◌, AllPairs}
use Rattle.std.specs.List.{AllByRecursion}
use Rattle.std.proofs.lemmas.Bool.{cases_Bool, eqb-true, eqb-false}
use Rattle.std.proofs.lemmas.List.{take_more, take_all}
use Rattle.std.proofs.lemmas.List.Elements.{All-contains, Contains-get_or, recursion_from_All}
use Rattle.dr_base.specs.Texts.{Text}
use Rattle.dr_base.specs.Padding.{is_padding, unpadded, without_spaces}
use Rattle.dr_base.specs.Syntaxes.{syntax_uid}
use Rattle.dr_base.specs.declared.syntax.Syntax.{Syntax}
use Rattle.dr_base.specs.declared.syntax.Syntax.TheVariants.{Implicit, Explicit}
use Rattle.dr_base.proofs.PadLemmas.{unpadded_ends}
use Rattle.dr_plan_model.specs.Formed.{IsName, IsClass, IsMaxPdu, IsTrimmed, IsDigit}
use Rattle.dr_plan_model.proofs.Gathered.{nothing_in_nil, Contains-cons_cases, Contains-there, Contains-here}
use Rattle.dr_plan_model.proofs.WalksAlike.{all_from_each}
use Rattle.dr_route.specs.declared.accept.AcceptRow.{AcceptRow}
use Rattle.dr_plan_sound.specs.declared.certificate.Hop.{Hop}
use Rattle.dr_site.specs.Forms.{IsFormedHop}
use Rattle.dr_site.proofs.FormedSites.{sites_are_formed}
use Rattle.dr_pdu.specs.declared.pdu.Front.{Front}
use Rattle.dr_pdu.specs.declared.pdu.ContextProposal.{ContextProposal}
use Rattle.dr_pdu.specs.declared.pdu.ContextAnswer.{ContextAnswer}
use Rattle.dr_pdu.specs.declared.pdu.Pdu.TheVariants as pdu
use Rattle.dr_pdu.specs.Grammar.{AreContextIds}
use Rattle.dr_pdu.specs.Written.{Fits, proposal_body, answer_body, user_text}
use Rattle.dr_pdu.specs.Fitting.{IsTitle, IsUnpadded, FrontFits, ProposalFits, AnswerFits, weight}
use Rattle.dr_pdu.proofs.FitLemmas.{length_of_proposal}
use Rattle.dr_pdu.proofs.WrittenLemmas.{request_fits, acceptance_fits, fits_request}
use Rattle.dr_nego.specs.Agreeing.{AssociateRq}
use Rattle.dr_nego.specs.Answering.{answer_of, acceptance_of}
use Rattle.dr_base.specs.Standard.{verification, application_context}
use Rattle.dr_nego.specs.Proposing.{IsHopTo, echo_proposal}
use Rattle.dr_nego.specs.Laws.{ProposalsFit, EchoesFit, AcceptancesFit}
use Rattle.dr_nego.proofs.OneContext.{IsFair, fair}
use Rattle.dr_nego.proofs.Concluded.{tail_pairs, head_pairs}

-- ---- names and UIDs are read as they are written

no_padding : (b : ℕ) → b ≢ 0 → b ≢ 32 → is_padding b ≡ false
no_padding b some other = rw (is_apart b 0 some, is_apart b 32 other) refl
  where
    is_apart : (b n : ℕ) → b ≢ n → (b == n) ≡ false
    is_apart b n apart = elim (cases_Bool (b == n)) [ inl same ↦ absurd (apart (eqb-true b n same)) | inr differs ↦ differs ]

some_length : (t : Text) → t ≢ [] → 0 < length t
some_length [] some = absurd (some refl)
some_length (b ∷ bs) some = omega arith

-- the last byte of a text, and what stands in front of it
last_of : (t : Text) → 0 < length t → t ≡ take (length t - 1) t ++ get_or t (length t - 1) 0 ∷ []
last_of t some =
    let more = take_more t (length t - 1) 0 (omega arith) in
    let n : (length t - 1) + 1 ≡ length t = omega arith in
    sym (take_all (length t) t (omega arith)) ∙ (ap (λ (k : ℕ). take k t) (sym n) ∙ more)

pub class_unpadded : (t : Text) → IsClass t → IsUnpadded t
class_unpadded t is =
    let some = some_length t is.some in
    unpadded_ends t some (by_byte (get_or t (length t - 1) 0) (is.digits (length t - 1) 0 (omega arith)))
  where
    by_byte : (b : ℕ) → IsDigit b ⊎ (b ≡ 46) → is_padding b ≡ false
    by_byte b (inl digit) = no_padding b (λ e. omega (arith, e, digit.0)) (λ e. omega (arith, e, digit.0))
    by_byte b (inr dot) = no_padding b (λ e. omega (arith, e, dot)) (λ e. omega (arith, e, dot))

pub name_unpadded : (t : Text) → IsName t → unpadded t ≡ t
name_unpadded t is =
    let some = some_length t is.some in
    let printable = is.printable (length t - 1) 0 (omega arith) in
    unpadded_ends t some (no_padding (get_or t (length t - 1) 0) (λ e. omega (arith, e, printable.0)) (λ e.
    let P : ℕ → Type 0 = λ b. t ≡ take (length t - 1) t ++ b ∷ [] in
    (is.trimmed (take (length t - 1) t)).1 (subst P e (last_of t some))))

no_space_in_front : (t : Text) → IsTrimmed t → without_spaces t ≡ t
no_space_in_front [] is = refl
no_space_in_front (b ∷ bs) is = elim (cases_Bool (b == 32)) [
  | inl space ↦ absurd ((is bs).0 (ap (λ (x : ℕ). x ∷ bs) (eqb-true b 32 space)))
  | inr other ↦ rw other refl
]

pub name_is_title : (t : Text) → IsName t → IsTitle t
name_is_title t is = (is.short, ap unpadded (no_space_in_front t is.trimmed) ∙ name_unpadded t is)

uid_unpadded : (s : Syntax) → IsUnpadded (syntax_uid s)
uid_unpadded Implicit = refl
uid_unpadded Explicit = refl

uid_short : (s : Syntax) → length (syntax_uid s) ≤ 19
uid_short Implicit = omega arith
uid_short Explicit = omega arith

-- ---- how long things are

user_short : (n : ℕ) → length (user_text false n) ≤ 12
user_short n = elim (cases_Bool (n == 0)) [ inl none ↦ rw none (omega arith) | inr some ↦ rw some (omega arith) ]

weight_at_most : {X : Type 0} (body_of : X → List ℕ) (n : ℕ) (xs : List X) → ((x : X) → Contains xs x → length (body_of x) ≤ n) → weight (map body_of xs) ≤ (4 + n) * length xs
weight_at_most body_of n [] each = omega arith
weight_at_most body_of n (x ∷ xs) each =
    let here = each x (Contains-here x xs) in
    let later = weight_at_most body_of n xs (λ y m. each y (Contains-there x xs y m)) in
    omega (arith, here, later)

-- ---- ids

IsOdd : ℕ → Type 0
IsOdd n = (k : ℕ) × (k < 128) × (n ≡ 2 * k + 1)

ids_of : (cs : List ContextProposal) → AllPairs (λ (a b : ContextProposal). a.id < b.id) cs → ((c : ContextProposal) → Contains cs c → (k : ℕ) × (k < 128) × (c.id ≡ 2 * k + 1)) → AreContextIds (map (λ (c : ContextProposal). c.id) cs)
ids_of [] rises odd = tt
ids_of (c ∷ cs) rises odd =
    let o = odd c (Contains-here c cs) in (
      odd_one c.id o.0 o.2,
      (λ h. let r = from cs c.id h in let l : c.id < r.0.id = head_pairs (λ (a b : ContextProposal). a.id < b.id) c cs rises r.0 r.1 in omega (arith, l, r.2)),
      ids_of cs (tail_pairs (λ (a b : ContextProposal). a.id < b.id) c cs rises) (λ d m. odd d (Contains-there c cs d m)),
    )
  where
    odd_one : (n k : ℕ) → n ≡ 2 * k + 1 → n % 2 ≡ 1
    odd_one n k e = omega (arith, e)

    from : (ds : List ContextProposal) (id : ℕ) → Contains (map (λ (c : ContextProposal). c.id) ds) id → (d : ContextProposal) × Contains ds d × (d.id ≡ id)
    from [] id h = absurd (nothing_in_nil id h)
    from (d ∷ ds) id h = elim (Contains-cons_cases d.id (map (λ (c : ContextProposal). c.id) ds) id h) [
      | inl same ↦ (d, Contains-here d ds, same)
      | inr later ↦ (let r = from ds id later in (r.0, Contains-there d ds r.0 r.1, r.2))
    ]

low : (cs : List ContextProposal) → AllPairs (λ (a b : ContextProposal). a.id < b.id) cs → ((c : ContextProposal) → Contains cs c → (k : ℕ) × (k < 128) × (c.id ≡ 2 * k + 1)) →
    (i : ℕ) (d : ContextProposal) → i < length cs → 2 * i + 1 ≤ (get_or cs i d).id
low cs rises odd zero d lt = let o = odd (get_or cs 0 d) (Contains-get_or cs 0 d lt) in omega (arith, o.2)
low cs rises odd (suc i) d lt =
    let before = low cs rises odd i d (omega arith) in
    let more = rises i (suc i) d (omega arith) lt in
    let o = odd (get_or cs i d) (Contains-get_or cs i d (omega arith)) in
    let p = odd (get_or cs (suc i) d) (Contains-get_or cs (suc i) d lt) in
    omega (arith, before, more, o.2, p.2)

-- different odd ids up to 255: at most 128 of them
few : (cs : List ContextProposal) → AllPairs (λ (a b : ContextProposal). a.id < b.id) cs → ((c : ContextProposal) → Contains cs c → (k : ℕ) × (k < 128) × (c.id ≡ 2 * k + 1)) → length cs ≤ 128
few [] rises odd = omega arith
few (c ∷ cs) rises odd =
    let last = low (c ∷ cs) rises odd (length cs) c (omega arith) in
    let o = odd (get_or (c ∷ cs) (length cs) c) (Contains-get_or (c ∷ cs) (length cs) c (omega arith)) in
    let long : length (c ∷ cs) ≡ length cs + 1 = omega arith in
    omega (arith, last, o.1, o.2, long)

-- ---- a proposal

-- a context of one class in one syntax
one_context : (id : ℕ) (class : Text) (s : Syntax) → IsUnpadded class → length class ≤ 64 →
    (let c : ContextProposal = record { id = id; class = class; syntaxes = syntax_uid s ∷ [] } in ProposalFits c × (length (proposal_body c) ≤ 95))
one_context id class s unpadded_class short =
    let c : ContextProposal = record { id = id; class = class; syntaxes = syntax_uid s ∷ [] } in
    let long = length_of_proposal c in
    let uid = uid_short s in
    let total : length (proposal_body c) ≤ 95 = omega (arith, long, uid, short) in
    ((unpadded_class, (uid_unpadded s, tt), (λ e. cc e), omega (arith, total)), total)

-- contexts of at most 95 bytes each, of which there are at most 128, fit
proposal_of_few : (rq : AssociateRq) → rq.front.version ≡ 1 → FrontFits rq.front → rq.application ≡ application_context → rq.max_pdu < 2 ^ 32 →
    ((c : ContextProposal) → Contains rq.contexts c → ProposalFits c × (length (proposal_body c) ≤ 95)) → length rq.contexts ≤ 128 →
    AreContextIds (map (λ (c : ContextProposal). c.id) rq.contexts) → Fits (pdu.AssociateRq rq)
proposal_of_few rq version front application greatest each small ids =
    let heavy = weight_at_most proposal_body 95 rq.contexts (λ c m. (each c m).1) in
    let user = user_short rq.max_pdu in
    let name : length rq.application ≡ 21 = ap (λ (t : Text). length t) application in
    let unpadded_name : IsUnpadded rq.application = (let P : Text → Type 0 = λ t. IsUnpadded t in subst P (sym application) refl) in
    request_fits rq (omega (arith, version)) greatest
    (front, unpadded_name, recursion_from_All ProposalFits rq.contexts (all_from_each ProposalFits rq.contexts (λ c m. (each c m).0)), omega (arith, heavy, user, name, small), omega (arith, name)) ids

small_max : (n : ℕ) → IsMaxPdu n → n < 2 ^ 32
small_max n (inl none) = omega (arith, none)
small_max n (inr (big, h)) = omega (arith, h)

front_fits : (f : Front) (calling called : Text) → f ≡ record { version = 1; called = called; calling = calling; reserved = replicate 32 0 } → IsName calling → IsName called → FrontFits f
front_fits f calling called is calling_is called_is =
    let P : Front → Type 0 = λ x. FrontFits x in
    subst P (sym is) (name_is_title called called_is, name_is_title calling calling_is, refl)

pub proposals_fit : ProposalsFit
proposals_fit site dest hop rq is to_dest proposal =
    let formed = sites_are_formed site is in
    let hop_is : (h : Hop) → IsHopTo site dest h → IsFormedHop site h = λ h to. All-contains (IsFormedHop site) site.hops h formed.hops to.0 in
    let N : Text → Type 0 = λ t. IsName t in
    let dest_is : IsName dest = subst N to_dest.1 (hop_is hop to_dest).to in
    let odd : (c : ContextProposal) → Contains rq.contexts c → (k : ℕ) × (k < 128) × (c.id ≡ 2 * k + 1) = λ c m.
    let h = (proposal.each c).0 m in
    let i = (hop_is h.0 h.1).id in
    (i.0, i.1, ap (λ (x : ContextProposal). x.id) h.2 ∙ i.2) in
    let each : (c : ContextProposal) → Contains rq.contexts c → ProposalFits c × (length (proposal_body c) ≤ 95) = λ c m.
    let h = (proposal.each c).0 m in
    let P : ContextProposal → Type 0 = λ x. ProposalFits x × (length (proposal_body x) ≤ 95) in
    subst P (sym h.2) (one_context h.0.id h.0.class h.0.syntax (class_unpadded h.0.class (hop_is h.0 h.1).class) (hop_is h.0 h.1).class.short) in
    proposal_of_few rq (ap (λ (f : Front). f.version) proposal.front) (front_fits rq.front site.name dest proposal.front formed.name dest_is) proposal.application
    (let M : ℕ → Type 0 = λ n. n < 2 ^ 32 in subst M (sym proposal.max_pdu) (small_max site.max_pdu formed.max_pdu)) each (few rq.contexts proposal.rising odd) (ids_of rq.contexts proposal.rising odd)

pub echoes_fit : EchoesFit
echoes_fit calling called calling_is called_is =
    let rq = echo_proposal calling called in
    let only : ContextProposal = record { id = 1; class = verification; syntaxes = syntax_uid Implicit ∷ [] } in
    let P : ContextProposal → Type 0 = λ x. ProposalFits x × (length (proposal_body x) ≤ 95) in
    proposal_of_few rq refl (front_fits rq.front calling called refl calling_is called_is) refl (omega arith)
    (λ c m. elim (Contains-cons_cases only [] c m) [ inl same ↦ subst P same (one_context 1 verification Implicit refl (omega arith)) | inr none ↦ absurd (nothing_in_nil c none) ])
    (omega arith) (refl, (λ h. nothing_in_nil 1 h), tt)

-- ---- an acceptance

-- an answer takes less room than what it answers
answer_small : (rows : List AcceptRow) (caller : Text) (c : ContextProposal) → ProposalFits c →
    AnswerFits (answer_of rows caller c) × (length (answer_body false (answer_of rows caller c)) + 4 ≤ length (proposal_body c)) × (length (answer_body false (answer_of rows caller c)) ≤ 27)
answer_small rows caller c fits = by_result (answer_of rows caller c) (fair rows caller c)
  where
    weight_of : (xs : List Text) (x : Text) → Contains xs x → 4 + length x ≤ weight xs
    weight_of [] x h = absurd (nothing_in_nil x h)
    weight_of (y ∷ ys) x h = elim (Contains-cons_cases y ys x h) [
      | inl same ↦ (let e : length y ≡ length x = ap (λ (t : Text). length t) same in omega (arith, e))
      | inr later ↦ (let w = weight_of ys x later in omega (arith, w))
    ]

    some_weight : (xs : List Text) → xs ≢ [] → 4 ≤ weight xs
    some_weight [] some = absurd (some refl)
    some_weight (x ∷ xs) some = omega arith

    by_result : (a : ContextAnswer) → IsFair c a → AnswerFits a × (length (answer_body false a) + 4 ≤ length (proposal_body c)) × (length (answer_body false a) ≤ 27)
    by_result a is = elim (cases_Bool (a.result == 0)) [
      | inl zero_is ↦
          let p = is.proposed (eqb-true a.result 0 zero_is) in
          let w = weight_of c.syntaxes a.syntax p.2 in
          let same : length a.syntax ≡ length (syntax_uid p.0) = ap (λ (t : Text). length t) p.1 in
          let short = uid_short p.0 in
          let size : length (answer_body false a) ≡ 8 + length a.syntax = rw zero_is (omega arith) in
          let U : Text → Type 0 = λ t. IsUnpadded t in
          (((λ e. absurd (e (eqb-true a.result 0 zero_is))), subst U (sym p.1) (uid_unpadded p.0), omega (arith, size, same, short)), omega (arith, size, w, length_of_proposal c), omega (arith, size, same, short))
      | inr not_zero ↦
          let none : a.syntax ≡ [] = is.refused (eqb-false a.result 0 not_zero) in
          let size : length (answer_body false a) ≡ 4 = rw not_zero (omega arith) in
          let w = some_weight c.syntaxes fits.2 in
          let U : Text → Type 0 = λ t. IsUnpadded t in
          (((λ e. none), subst U (sym none) refl, omega (arith, size)), omega (arith, size, w, length_of_proposal c), omega (arith, size))
    ]

module _ (rows : List AcceptRow) (caller : Text) where
  answers_fit : (cs : List ContextProposal) → AllByRecursion ProposalFits cs → AllByRecursion AnswerFits (map (answer_of rows caller) cs)
      × (weight (map (answer_body false) (map (answer_of rows caller) cs)) + 4 * length cs ≤ weight (map proposal_body cs))
      × (weight (map (answer_body false) (map (answer_of rows caller) cs)) ≤ 31 * length cs)
  answers_fit [] all = (tt, omega arith, omega arith)
  answers_fit (c ∷ cs) all =
      let one = answer_small rows caller c all.0 in
      let more = answers_fit cs all.1 in
      ((one.0, more.0), omega (arith, one.1, more.1), omega (arith, one.2, more.2))

  same_ids : (cs : List ContextProposal) → map (λ (a : ContextAnswer). a.id) (map (answer_of rows caller) cs) ≡ map (λ (c : ContextProposal). c.id) cs
  same_ids [] = refl
  same_ids (c ∷ cs) = ap (λ (n : ℕ). n ∷ map (λ (a : ContextAnswer). a.id) (map (answer_of rows caller) cs)) (fair rows caller c).id ∙ ap (λ (l : List ℕ). c.id ∷ l) (same_ids cs)

pub acceptances_fit : AcceptancesFit
acceptances_fit rq site is fits =
    let formed = sites_are_formed site is in
    let read = fits_request rq fits in
    let holds = read.0.fits in
    let more = answers_fit site.accepts rq.front.calling rq.contexts holds.2 in
    let user = user_short site.max_pdu in
    let I : List ℕ → Type 0 = λ ids. AreContextIds ids in
    acceptance_fits (acceptance_of rq site) (omega arith) (small_max site.max_pdu formed.max_pdu)
    ((holds.0.0, holds.0.1, holds.0.2), refl, more.0, in_all (length rq.contexts) (weight (map (answer_body false) (map (answer_of site.accepts rq.front.calling) rq.contexts))) (weight (map proposal_body rq.contexts)) (length rq.application) (length (user_text false rq.max_pdu)) (length (user_text false site.max_pdu)) more.1 more.2 holds.3 user, omega arith)
    (subst I (sym (same_ids site.accepts rq.front.calling rq.contexts)) read.1)
  where
    in_all : (n w v application user user' : ℕ) → w + 4 * n ≤ v → w ≤ 31 * n → (72 + application) + (v + user) ≤ 262144 → user' ≤ 12 → (72 + 21) + (w + user') ≤ 262144
    in_all n w v application user user' less bounded whole short = omega (arith, less, bounded, whole, short)

-- The faults of an acceptance, by their tests.
use Rattle.std.proofs.Common.{◌≡◌, ℕ, Bool, true, false, List, [], ◌∷◌, Contains, refl, sym, ap, ◌∙◌, inl, inr}
use Rattle.std.specs.Prelude.{not, ◌==◌, ◌&&◌, nat_le}
use Rattle.std.specs.List.{list_any}
use Rattle.std.proofs.lemmas.Bool.{cases_Bool, false≢true, eqb-true, eq-eqb, leb-true, le-leb}
use Rattle.dr_plan_model.proofs.Gathered.{Contains-there, Contains-here}
use Rattle.dr_pdu.specs.declared.pdu.ContextProposal.{ContextProposal}
use Rattle.dr_pdu.specs.declared.pdu.ContextAnswer.{ContextAnswer}
use Rattle.dr_nego.specs.Agreeing.{AssociateRq, AssociateAc, HasStrangeId, HasStrangeSyntax, IsTooSmall}
use Rattle.dr_nego.specs.Answering.{member}
use Rattle.dr_nego.specs.Tests.{is_proposed_id, has_strange_id, is_proposed_with, is_strange_syntax, has_strange_syntax}
use Rattle.dr_nego.proofs.OneContext.{any_passes, is_among, among_texts}

-- ---- tests

any_found : {X : Type 0} (test : X → Bool) (xs : List X) → list_any test xs ≡ true → (x : X) × Contains xs x × (test x ≡ true)
any_found test [] h = absurd (false≢true h)
any_found test (x ∷ xs) h = elim (cases_Bool (test x)) [
  | inl passes ↦ (x, Contains-here x xs, passes)
  | inr fails ↦ (let later : list_any test xs ≡ true = rw fails at h in let r = any_found test xs later in (r.0, Contains-there x xs r.0 r.1, r.2))
]

not_true : (b : Bool) → not b ≡ true → b ≡ false
not_true true h = absurd (false≢true h)
not_true false h = refl

and_first : (a b : Bool) → (a && b) ≡ true → a ≡ true
and_first true b h = refl
and_first false b h = absurd (false≢true h)

and_second : (a b : Bool) → (a && b) ≡ true → b ≡ true
and_second true b h = h
and_second false b h = absurd (false≢true h)

and_both : (a b : Bool) → a ≡ true → b ≡ true → (a && b) ≡ true
and_both true b h e = e
and_both false b h e = absurd (false≢true h)

-- ---- ids

pub strange_id_is : (rq : AssociateRq) (ac : AssociateAc) → has_strange_id rq.contexts ac.contexts ≡ true → HasStrangeId rq ac
strange_id_is rq ac h =
    let f = any_found (λ (a : ContextAnswer). not (is_proposed_id rq.contexts a.id)) ac.contexts h in
    let none = not_true (is_proposed_id rq.contexts f.0.id) f.2 in
    (f.0, f.1, λ c has same. false≢true (sym none ∙ any_passes (λ (d : ContextProposal). d.id == f.0.id) rq.contexts c has (eq-eqb c.id f.0.id same)))

pub strange_id_not : (rq : AssociateRq) (ac : AssociateAc) → has_strange_id rq.contexts ac.contexts ≡ false → HasStrangeId rq ac → ⊥
strange_id_not rq ac h (a, has, none) = elim (cases_Bool (is_proposed_id rq.contexts a.id)) [
  | inl is_so ↦ (let f = any_found (λ (c : ContextProposal). c.id == a.id) rq.contexts is_so in none f.0 f.1 (eqb-true f.0.id a.id f.2))
  | inr is_not ↦ false≢true (sym h ∙ any_passes (λ (b : ContextAnswer). not (is_proposed_id rq.contexts b.id)) ac.contexts a has (ap not is_not))
]

-- ---- syntaxes

pub strange_syntax_is : (rq : AssociateRq) (ac : AssociateAc) → has_strange_syntax rq.contexts ac.contexts ≡ true → HasStrangeSyntax rq ac
strange_syntax_is rq ac h =
    let f = any_found (is_strange_syntax rq.contexts) ac.contexts h in
    let a = f.0 in
    let none = not_true (is_proposed_with rq.contexts a) (and_second (a.result == 0) (not (is_proposed_with rq.contexts a)) f.2) in (
      a,
      f.1,
      eqb-true a.result 0 (and_first (a.result == 0) (not (is_proposed_with rq.contexts a)) f.2),
      λ c has same among. false≢true (sym none ∙ any_passes (λ (d : ContextProposal). (d.id == a.id) && member a.syntax d.syntaxes) rq.contexts c has
          (and_both (c.id == a.id) (member a.syntax c.syntaxes) (eq-eqb c.id a.id same) (is_among a.syntax c.syntaxes among))),
    )

pub strange_syntax_not : (rq : AssociateRq) (ac : AssociateAc) → has_strange_syntax rq.contexts ac.contexts ≡ false → HasStrangeSyntax rq ac → ⊥
strange_syntax_not rq ac h (a, has, zero, none) = elim (cases_Bool (is_proposed_with rq.contexts a)) [
  | inl is_so ↦
      let f = any_found (λ (d : ContextProposal). (d.id == a.id) && member a.syntax d.syntaxes) rq.contexts is_so in
      none f.0 f.1 (eqb-true f.0.id a.id (and_first (f.0.id == a.id) (member a.syntax f.0.syntaxes) f.2)) (among_texts a.syntax f.0.syntaxes (and_second (f.0.id == a.id) (member a.syntax f.0.syntaxes) f.2))
  | inr is_not ↦ false≢true (sym h ∙ any_passes (is_strange_syntax rq.contexts) ac.contexts a has (and_both (a.result == 0) (not (is_proposed_with rq.contexts a)) (eq-eqb a.result 0 zero) (ap not is_not)))
]

-- ---- limits

pub too_small_is : (limit : ℕ) → (nat_le 1 limit && nat_le limit 7) ≡ true → IsTooSmall limit
too_small_is limit h = (leb-true 1 limit (and_first (nat_le 1 limit) (nat_le limit 7) h), leb-true limit 7 (and_second (nat_le 1 limit) (nat_le limit 7) h))

pub too_small_not : (limit : ℕ) → (nat_le 1 limit && nat_le limit 7) ≡ false → IsTooSmall limit → ⊥
too_small_not limit h is = false≢true (sym h ∙ and_both (nat_le 1 limit) (nat_le limit 7) (le-leb 1 limit is.0) (le-leb limit 7 is.1))

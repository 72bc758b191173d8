-- Each key that enters somewhere enters by a line of the certificate.
use Rattle.std.proofs.Common.{◌≡◌, ℕ, ◌+◌, ◌<◌, ◌⊎◌, inl, inr, refl, sym, ap, subst, ◌∙◌, None, Bool, true, false, List, [], ◌∷◌, ◌++◌, length, get_or, take, Contains, IsTrue, arith}
use Rattle.std.proofs.lemmas.List.{take_more}
use Rattle.std.proofs.lemmas.List.Elements.{Contains-push_cases}
use Rattle.dr_base.specs.Texts.{Text}
use Rattle.dr_route.specs.Routes.{local}
use Rattle.dr_route.specs.declared.key.Key.{Key}
use Rattle.dr_plan_model.specs.Networks.{Network}
use Rattle.dr_plan_model.specs.Plans.{LiesIn}
use Rattle.dr_plan_model.specs.Walks.{IsEntry}
use Rattle.dr_plan_model.proofs.Gathered.{nothing_in_nil}
use Rattle.dr_plan_sound.specs.declared.certificate.Line.{Line}
use Rattle.dr_plan_sound.specs.declared.certificate.Certificate.{Certificate}
use Rattle.dr_plan_sound.specs.Soundness.{IsSound}
use Rattle.dr_plan_sound.specs.Certificates.{IsCertificateOf}
use Rattle.dr_plan_sound.specs.Ranked.{line_at}
use Rattle.dr_plan_sound.proofs.Hopping.{reached_entry}
use Rattle.dr_plan_sound.proofs.RankedLines.{some_cell}
use Rattle.dr_plan_sound.proofs.Ranks.{sound_has_rank}
use Rattle.dr_plan_expect.specs.declared.words.Expectation.{Expectation}
use Rattle.dr_cert_expect.specs.Expected.{HasCase, Holds, IsCase, IsMet}
use Rattle.dr_cert_expect.specs.Looking.{EntersBy, LooksAt}

-- a line by which the key enters
pub some_line : (plan : Network) (certificate : Certificate) → IsSound plan → IsCertificateOf plan certificate → (row : Expectation) (site : Text) (key : Key) → IsCase plan row site key →
    (line : Line) × Contains certificate.lines line × EntersBy plan row line key × (line.stop.node ≡ site)
some_line plan certificate sound own row site key case =
    let cell = some_cell plan key in
    let reached = reached_entry plan key site case.1 in
    let ranked = sound_has_rank plan sound key local site reached in
    let line = line_at local site cell.0 ranked.0 in
    (line, (own.lines line).1 (key, cell.1, reached, ranked.1), record { enters = refl; lies = cell.1; case = case }, refl)

-- what is known when these lines were looked at
pub record AreLookedAt (plan : Network) (row : Expectation) (lines : List Line) (found : Bool) : Type 0 where
  pub some : IsTrue found → HasCase plan row
  pub each : (line : Line) → Contains lines line → (key : Key) → EntersBy plan row line key → IsTrue found × IsMet plan row line.stop.node key

pub none_looked_at : (plan : Network) (row : Expectation) → AreLookedAt plan row [] false
none_looked_at plan row = record {
  some = λ found. (let h : false ≡ true = found in absurd (cc));
  each = λ line among. absurd (nothing_in_nil line among);
}

pub one_more : (plan : Network) (row : Expectation) (all : List Line) (i : ℕ) (line : Line) (old new : Bool) → i < length all → line ≡ get_or all i line →
    AreLookedAt plan row (take i all) old → LooksAt plan row line old new None → AreLookedAt plan row (take (i + 1) all) new
one_more plan row all i line old new lt at so_far looks =
    let pushed : take (i + 1) all ≡ take i all ++ line ∷ [] = take_more all i line lt ∙ ap (λ (e : Line). take i all ++ e ∷ []) (sym at) in
    record {
      some = λ found. elim (looks.1 found) [ inl before ↦ so_far.some before | inr case ↦ case ];
      each = λ other among key enters. elim (Contains-push_cases (take i all) line other (subst (λ (xs : List Line). Contains xs other) pushed among)) [
        | inl earlier ↦ (let e = so_far.each other earlier key enters in (looks.0 e.0, e.1))
        | inr same ↦ (let E : Line → Type 0 = λ l. EntersBy plan row l key in
            let e = looks.2 key (subst E (sym same) enters) in
            (e.0, subst (λ (l : Line). IsMet plan row l.stop.node key) same e.1))
      ];
    }

module _ (plan : Network) (certificate : Certificate) (sound : IsSound plan) (own : IsCertificateOf plan certificate) (row : Expectation) (found : Bool)
    (all : AreLookedAt plan row certificate.lines found) where
  -- where a case was found, the row holds
  pub holds : IsTrue found → Holds plan row
  holds is = record {
    some = all.some is;
    each = λ site key case. (
        let at = some_line plan certificate sound own row site key case in
        subst (λ (name : Text). IsMet plan row name key) at.3 (all.each at.0 at.1 key at.2).1);
  }

  -- where none was found, there is none
  pub no_case : found ≡ false → HasCase plan row → ⊥
  no_case none some =
      let at = some_line plan certificate sound own row some.0 some.1 some.2 in
      let is : found ≡ true = (all.each at.0 at.1 some.1 at.2).0 in
      let both : false ≡ true = sym none ∙ is in absurd (cc)

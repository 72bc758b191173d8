-- What parts tell, by their first word.
use Rattle.std.proofs.Common.{◌≡◌, ◌≤◌, ◌<◌, ℕ, Bor, List, [], ◌∷◌, Result, Ok, Err, arith, get_or, length, map, sym, ap, subst, ◌∙◌}
use Rattle.dr_base.specs.Texts.{Text}
use Rattle.dr_world_script.specs.declared.act.Act.{Act}
use Rattle.dr_world_script.specs.declared.act.Act.TheVariants as act
use Rattle.dr_world_script.specs.declared.fault.LineFault.{LineFault}
use Rattle.dr_world_script.specs.declared.fault.LineFault.TheVariants as lines
use Rattle.dr_world_script.specs.declared.foreign.Foreign.{Foreign}
use Rattle.dr_world_script.specs.declared.foreign.ForeignWord.{ForeignWord}
use Rattle.dr_world_script.specs.declared.foreign.ForeignWord.TheVariants as called
use Rattle.dr_world_script.specs.declared.step.Step.{Step}
use Rattle.dr_world_script.specs.declared.step.Word.{Word}
use Rattle.dr_world_script.specs.Scripts.{AreWritten, Follows, FollowsForeign, IsStatus, ReadsAdoption, ReadsFields, ReadsForeign, ReadsForeignFields, ReadsParts, ReadsStatus, ReadsStep, ReadsWritten, TellsBy, TellsForeign, TellsStep, adopt_word, bytes_word, foreign_spelled, spelled}
use Rattle.dr_world_script.proofs.Spelling.{adopt_foreign, bytes_foreign, foreign_apart, foreign_one, spelled_apart, spelled_beside, spelled_one, words_apart}

-- a change of plan, where the word is that of one
pub adoption : (first : Text) (fields : List Text) (answer : Result Act LineFault) → adopt_word ≡ first → ReadsAdoption fields answer → ReadsParts (first ∷ fields) answer
adoption first fields (Ok (act.Step step)) is h = absurd h
adoption first fields (Ok (act.Bytes link side bytes)) is h = absurd h
adoption first fields (Ok (act.Foreign what)) is h = absurd h
adoption first fields (Ok (act.Adopt plan certificate)) is h = (let P : Text → Type 0 = λ t. t ∷ fields ≡ adopt_word ∷ plan ∷ certificate ∷ [] in subst P is (ap (λ fs. adopt_word ∷ fs) h))
adoption first fields (Err lines.NoStep) is h = λ a. none a
  where
    none : (a : Act) → TellsBy (first ∷ fields) a → ⊥
    none (act.Step step) (w, others, e, f) =
        let same : spelled w ≡ adopt_word = (let both : spelled w ∷ others ≡ first ∷ fields = sym e in cc) in
        spelled_apart w same
    none (act.Adopt plan certificate) e = h plan certificate (cc)
    none (act.Bytes link side bytes) (others, e, f) =
        let same : adopt_word ≡ bytes_word = (let both : bytes_word ∷ others ≡ first ∷ fields = sym e in cc) in
        words_apart same
    none (act.Foreign what) (w, others, e, f) =
        let same : adopt_word ≡ foreign_spelled w = (let both : foreign_spelled w ∷ others ≡ first ∷ fields = sym e in cc) in
        adopt_foreign w same
adoption first fields (Err lines.Memory) is h = tt

-- what another product writes, where the word is that of it
pub writing : (first : Text) (fields : List Text) (answer : Result Act LineFault) → bytes_word ≡ first → ReadsWritten fields answer → ReadsParts (first ∷ fields) answer
writing first fields (Ok (act.Step step)) is h = absurd h
writing first fields (Ok (act.Adopt plan certificate)) is h = absurd h
writing first fields (Ok (act.Foreign what)) is h = absurd h
writing first fields (Ok (act.Bytes link side bytes)) is h = (fields, ap (λ (t : Text). t ∷ fields) (sym is), h)
writing first fields (Err lines.NoStep) is h = λ a. none a
  where
    none : (a : Act) → TellsBy (first ∷ fields) a → ⊥
    none (act.Step step) (w, others, e, f) =
        let same : spelled w ≡ bytes_word = (let both : spelled w ∷ others ≡ first ∷ fields = sym e in cc) in
        spelled_beside w same
    none (act.Adopt plan certificate) e =
        let same : adopt_word ≡ bytes_word = (let both : adopt_word ∷ plan ∷ certificate ∷ [] ≡ first ∷ fields = sym e in cc) in
        words_apart same
    none (act.Bytes link side bytes) (others, e, f) =
        let both : bytes_word ∷ others ≡ bytes_word ∷ fields = sym e ∙ ap (λ (t : Text). t ∷ fields) (sym is) in
        let rest : others ≡ fields = cc in
        let P : List Text → Type 0 = λ fs. AreWritten link side bytes fs in
        h link side bytes (subst P rest f)
    none (act.Foreign what) (w, others, e, f) =
        let same : bytes_word ≡ foreign_spelled w = (let both : foreign_spelled w ∷ others ≡ first ∷ fields = sym e in cc) in
        bytes_foreign w same
writing first fields (Err lines.Memory) is h = tt

-- what concerns other products, where the word is one of these
pub concerning : (first : Text) (w : ForeignWord) (fields : List Text) (answer : Result Act LineFault) → foreign_spelled w ≡ first → ReadsForeign w fields answer → ReadsParts (first ∷ fields) answer
concerning first w fields (Ok (act.Step step)) is h = absurd h
concerning first w fields (Ok (act.Adopt plan certificate)) is h = absurd h
concerning first w fields (Ok (act.Bytes link side bytes)) is h = absurd h
concerning first w fields (Ok (act.Foreign what)) is h = (w, fields, ap (λ (t : Text). t ∷ fields) (sym is), h)
concerning first w fields (Err lines.NoStep) is h = λ a. none a
  where
    none : (a : Act) → TellsBy (first ∷ fields) a → ⊥
    none (act.Step step) (v, others, e, f) =
        let same : spelled v ≡ foreign_spelled w = (let both : spelled v ∷ others ≡ first ∷ fields = sym e in cc) in
        foreign_apart v w same
    none (act.Adopt plan certificate) e =
        let same : adopt_word ≡ foreign_spelled w = (let both : adopt_word ∷ plan ∷ certificate ∷ [] ≡ first ∷ fields = sym e in cc) in
        adopt_foreign w same
    none (act.Bytes link side bytes) (others, e, f) =
        let same : bytes_word ≡ foreign_spelled w = (let both : bytes_word ∷ others ≡ first ∷ fields = sym e in cc) in
        bytes_foreign w same
    none (act.Foreign what) (v, others, e, f) =
        let both : foreign_spelled v ∷ others ≡ foreign_spelled w ∷ fields = sym e ∙ ap (λ (t : Text). t ∷ fields) (sym is) in
        let same : v ≡ w = foreign_one v w (cc) in
        let rest : others ≡ fields = cc in
        let P : ForeignWord → Type 0 = λ x. FollowsForeign x fields what in
        let Q : List Text → Type 0 = λ fs. FollowsForeign v fs what in
        h what (subst P same (subst Q rest f))
concerning first w fields (Err lines.Memory) is h = tt

-- no answer follows where the second of two fields is no status
pub no_answer : (fields : List (Bor (List ℕ))) (d : Bor (List ℕ)) (fault : LineFault) → 2 ≤ length fields → length fields < 3 → ReadsStatus (get_or fields 1 d).now (Err fault) → ReadsForeignFields called.Answer (map (λ f. f.now) fields) (Err fault)
no_answer [] d fault least below h = absurd (omega (arith, least))
no_answer (a ∷ []) d fault least below h = absurd (omega (arith, least))
no_answer (a ∷ b ∷ c ∷ more) d fault least below h = absurd (omega (arith, below))
no_answer (a ∷ b ∷ []) d lines.NoStep least below h = λ what follows. none what follows
  where
    none : (what : Foreign) → FollowsForeign called.Answer (a.now ∷ b.now ∷ []) what → ⊥
    none what (link, status, field, digits, e, cut, numbered, is) =
        let same : digits ≡ b.now = (let both : field ∷ digits ∷ [] ≡ a.now ∷ b.now ∷ [] = sym cut in cc) in
        h status (subst (λ (t : Text). IsStatus status t) same is)
no_answer (a ∷ b ∷ []) d lines.Memory least below h = tt

-- what is read of it, as what a line tells
pub concern : (w : ForeignWord) (fields : List Text) (fault : LineFault) → ReadsForeignFields w fields (Err fault) → ReadsForeign w fields (Err fault)
concern w fields lines.NoStep h = h
concern w fields lines.Memory h = tt

-- a step, where it is none of these
pub stepping : (first : Text) (fields : List Text) (step : Step) → ReadsStep (first ∷ fields) (Ok step) → ReadsParts (first ∷ fields) (Ok (act.Step step))
stepping first fields step h = h

pub failing : (first : Text) (fields : List Text) (fault : LineFault) → (adopt_word ≡ first → ⊥) → (bytes_word ≡ first → ⊥) → ((w : ForeignWord) → foreign_spelled w ≡ first → ⊥) → ReadsStep (first ∷ fields) (Err fault) → ReadsParts (first ∷ fields) (Err fault)
failing first fields lines.NoStep isnt nor neither h = λ a. none a
  where
    none : (a : Act) → TellsBy (first ∷ fields) a → ⊥
    none (act.Step step) told = h step told
    none (act.Adopt plan certificate) e = isnt (cc)
    none (act.Bytes link side bytes) (others, e, f) = nor (cc)
    none (act.Foreign what) (w, others, e, f) = neither w (cc)
failing first fields lines.Memory isnt nor neither h = tt

-- what follows a word
pub following : (first : Text) (w : Word) (fields : List Text) (answer : Result Step LineFault) → spelled w ≡ first → ReadsFields w fields answer → ReadsStep (first ∷ fields) answer
following first w fields (Ok step) is h = (w, fields, ap (λ (t : Text). t ∷ fields) (sym is), h)
following first w fields (Err lines.NoStep) is h = λ step told. none step told
  where
    none : (step : Step) → TellsStep (first ∷ fields) step → ⊥
    none step (v, others, e, f) =
        let both : spelled v ∷ others ≡ spelled w ∷ fields = sym e ∙ ap (λ (t : Text). t ∷ fields) (sym is) in
        let same : v ≡ w = spelled_one v w (cc) in
        let rest : others ≡ fields = cc in
        let P : Word → Type 0 = λ x. Follows x fields step in
        let Q : List Text → Type 0 = λ fs. Follows v fs step in
        h step (subst P same (subst Q rest f))
following first w fields (Err lines.Memory) is h = tt

pub nothing_follows : (first : Text) (fields : List Text) → ((w : Word) → spelled w ≡ first → ⊥) → (step : Step) → TellsStep (first ∷ fields) step → ⊥
nothing_follows first fields none step (v, others, e, f) =
    let same : spelled v ≡ first = (let both : spelled v ∷ others ≡ first ∷ fields = sym e in cc) in
    none v same

-- Lines that tell steps, a change of plan and what another product writes and does, and lines that
-- tell nothing.
use Rattle.std.proofs.Common.{◌≡◌, ℕ, Result, Ok, List, [], ◌∷◌, refl, ap, sym, subst, ◌∙◌, arith}
use mathlib.Core.Bool.{true≢false}
use Rattle.std.specs.Prelude.{codes}
use Rattle.std.specs.Str.{bytes_eq}
use Rattle.std.specs.Fmt.{digits}
use Rattle.hex.specs.Hex.{decode_of, decode_pairs}
use Rattle.dr_base.specs.Texts.{Text}
use Rattle.dr_cert_text.specs.Cuts.{cuts, grown}
use Rattle.dr_world_script.specs.declared.act.Act.{Act}
use Rattle.dr_world_script.specs.declared.act.Act.TheVariants as act
use Rattle.dr_world_script.specs.declared.foreign.Foreign.{Foreign}
use Rattle.dr_world_script.specs.declared.foreign.Foreign.TheVariants as foreign
use Rattle.dr_world_script.specs.declared.foreign.ForeignWord.{ForeignWord}
use Rattle.dr_world_script.specs.declared.foreign.ForeignWord.TheVariants as called
use Rattle.dr_world_script.specs.declared.step.Side.{Side}
use Rattle.dr_world_script.specs.declared.step.Side.TheVariants.{Requestor, Acceptor}
use Rattle.dr_world_script.specs.declared.step.Step.{Step}
use Rattle.dr_world_script.specs.declared.step.Step.TheVariants.{Open, Move}
use Rattle.dr_world_script.specs.declared.step.Word.{Word}
use Rattle.dr_world_script.specs.declared.step.Word.TheVariants as word
use Rattle.dr_world_script.specs.Laws.{LinesTellSteps, LinesTellNone, answer_line, bytes_line, foreign_line, move_line, open_line}
use Rattle.dr_world_script.specs.Scripts.{Follows, FollowsForeign, Tells, TellsForeign, TellsStep, adopt_word, bytes_word, foreign_spelled, side_word, spelled}
use Rattle.dr_world_script.proofs.Spelling.{adopt_foreign, bytes_foreign, foreign_apart, foreign_one, spelled_apart, spelled_beside, spelled_one, words_apart}

opens : Tells open_line (act.Step (Open (codes "CT1") (codes "GATE")))
unfolding cuts grown
opens = (word.Open, codes "CT1" ∷ codes "GATE" ∷ [], refl, (codes "CT1", codes "GATE", refl, refl))

moves : Tells move_line (act.Step (Move 1 Acceptor 1000000))
unfolding cuts grown digits
moves = (word.Move, codes "1" ∷ codes "acceptor" ∷ codes "1000000" ∷ [], refl, (1, 1000000, Acceptor, refl, (codes "1", codes "1000000", refl, (refl, omega arith), (refl, omega arith))))

writes : Tells bytes_line (act.Bytes 1 Acceptor (10 ∷ []))
unfolding cuts grown digits decode_pairs
writes = (codes "1" ∷ codes "acceptor" ∷ codes "0a" ∷ [], refl, (codes "1", codes "0a", refl, (refl, omega arith), refl))

others : Tells foreign_line (act.Foreign (foreign.Node (codes "CT1")))
unfolding cuts grown
others = (called.Node, codes "CT1" ∷ [], refl, (codes "CT1", refl, refl))

answers : Tells answer_line (act.Foreign (foreign.Answer 2 0xA700))
unfolding cuts grown digits decode_pairs
answers = (called.Answer, codes "2" ∷ codes "A700" ∷ [], refl, (2, 0xA700, codes "2", codes "A700", refl, refl, (refl, omega arith), (0xA7, 0, refl, refl)))

pub told : LinesTellSteps
unfolding cuts grown
told = (opens, moves, refl, writes, others, answers, (opens, (moves, tt)), refl)

-- the fields behind the word, where the first field is that word
behind : (parts : List Text) (w : Word) (fields : List Text) (step : Step) → parts ≡ spelled w ∷ fields → TellsStep parts step → Follows w fields step
behind parts w fields step cut (v, others, e, f) =
    let h : spelled v ∷ others ≡ spelled w ∷ fields = sym e ∙ cut in
    let same : v ≡ w = spelled_one v w (cc) in
    let rest : others ≡ fields = cc in
    let P : Word → Type 0 = λ x. Follows x fields step in
    let Q : List Text → Type 0 = λ fs. Follows v fs step in
    subst P same (subst Q rest f)

nobody : (side : Side) → codes "nobody" ≡ side_word side → ⊥
nobody Requestor e = true≢false (ap (λ t. bytes_eq t (codes "nobody")) e)
nobody Acceptor e = true≢false (ap (λ t. bytes_eq t (codes "nobody")) e)

-- parts with the word of a step tell no change of plan
no_change : (parts : List Text) (w : Word) (fields : List Text) (plan certificate : Text) → parts ≡ spelled w ∷ fields → parts ≡ adopt_word ∷ plan ∷ certificate ∷ [] → ⊥
no_change parts w fields plan certificate cut e =
    let h : spelled w ∷ fields ≡ adopt_word ∷ plan ∷ certificate ∷ [] = sym cut ∙ e in
    let same : spelled w ≡ adopt_word = cc in
    spelled_apart w same

-- nor what another product writes
no_writing : (parts : List Text) (w : Word) (fields others : List Text) → parts ≡ spelled w ∷ fields → parts ≡ bytes_word ∷ others → ⊥
no_writing parts w fields others cut e =
    let h : spelled w ∷ fields ≡ bytes_word ∷ others = sym cut ∙ e in
    let same : spelled w ≡ bytes_word = cc in
    spelled_beside w same

-- nor what concerns other products
no_concern : (parts : List Text) (w : Word) (fields : List Text) (what : Foreign) → parts ≡ spelled w ∷ fields → TellsForeign parts what → ⊥
no_concern parts w fields what cut (v, others, e, f) =
    let h : spelled w ∷ fields ≡ foreign_spelled v ∷ others = sym cut ∙ e in
    let same : spelled w ≡ foreign_spelled v = cc in
    foreign_apart w v same

no_end : (a : Act) → Tells (codes "move\t1\tnobody\t1") a → ⊥
unfolding cuts grown
no_end (act.Adopt plan certificate) tells = no_change (cuts 9 (codes "move\t1\tnobody\t1")) word.Move (codes "1" ∷ codes "nobody" ∷ codes "1" ∷ []) plan certificate refl tells
no_end (act.Bytes link side bytes) (others, e, f) = no_writing (cuts 9 (codes "move\t1\tnobody\t1")) word.Move (codes "1" ∷ codes "nobody" ∷ codes "1" ∷ []) others refl e
no_end (act.Foreign what) tells = no_concern (cuts 9 (codes "move\t1\tnobody\t1")) word.Move (codes "1" ∷ codes "nobody" ∷ codes "1" ∷ []) what refl tells
no_end (act.Step step) tells =
    let f = behind (cuts 9 (codes "move\t1\tnobody\t1")) word.Move (codes "1" ∷ codes "nobody" ∷ codes "1" ∷ []) step refl tells in
    third f
  where
    third : Follows word.Move (codes "1" ∷ codes "nobody" ∷ codes "1" ∷ []) step → ⊥
    third (link, most, side, e, (field, count, h, a, b)) = nobody side (cc)

word_alone : (a : Act) → Tells (codes "push") a → ⊥
unfolding cuts grown
word_alone (act.Adopt plan certificate) tells = no_change (cuts 9 (codes "push")) word.Push [] plan certificate refl tells
word_alone (act.Bytes link side bytes) (others, e, f) = no_writing (cuts 9 (codes "push")) word.Push [] others refl e
word_alone (act.Foreign what) tells = no_concern (cuts 9 (codes "push")) word.Push [] what refl tells
word_alone (act.Step step) tells = none (behind (cuts 9 (codes "push")) word.Push [] step refl tells)
  where
    none : Follows word.Push [] step → ⊥
    none (link, e, (field, h, rest)) = absurd (cc)

one_too_many : (a : Act) → Tells (codes "open\tCT1\tGATE\t") a → ⊥
unfolding cuts grown
one_too_many (act.Adopt plan certificate) tells = no_change (cuts 9 (codes "open\tCT1\tGATE\t")) word.Open (codes "CT1" ∷ codes "GATE" ∷ [] ∷ []) plan certificate refl tells
one_too_many (act.Bytes link side bytes) (others, e, f) = no_writing (cuts 9 (codes "open\tCT1\tGATE\t")) word.Open (codes "CT1" ∷ codes "GATE" ∷ [] ∷ []) others refl e
one_too_many (act.Foreign what) tells = no_concern (cuts 9 (codes "open\tCT1\tGATE\t")) word.Open (codes "CT1" ∷ codes "GATE" ∷ [] ∷ []) what refl tells
one_too_many (act.Step step) tells = none (behind (cuts 9 (codes "open\tCT1\tGATE\t")) word.Open (codes "CT1" ∷ codes "GATE" ∷ [] ∷ []) step refl tells)
  where
    none : Follows word.Open (codes "CT1" ∷ codes "GATE" ∷ [] ∷ []) step → ⊥
    none (x, y, e, h) = absurd (cc)

no_certificate : (a : Act) → Tells (codes "adopt\tnext.toml") a → ⊥
unfolding cuts grown
no_certificate (act.Adopt plan certificate) tells =
    let h : adopt_word ∷ codes "next.toml" ∷ [] ≡ adopt_word ∷ plan ∷ certificate ∷ [] = tells in
    absurd (cc)
no_certificate (act.Bytes link side bytes) (others, e, f) =
    let h : adopt_word ∷ codes "next.toml" ∷ [] ≡ bytes_word ∷ others = e in
    let same : adopt_word ≡ bytes_word = cc in
    words_apart same
no_certificate (act.Foreign what) (v, others, e, f) =
    let h : adopt_word ∷ codes "next.toml" ∷ [] ≡ foreign_spelled v ∷ others = e in
    let same : adopt_word ≡ foreign_spelled v = cc in
    adopt_foreign v same
no_certificate (act.Step step) (w, fields, e, f) =
    let h : adopt_word ∷ codes "next.toml" ∷ [] ≡ spelled w ∷ fields = e in
    let same : spelled w ≡ adopt_word = cc in
    spelled_apart w same

no_bytes : (a : Act) → Tells (codes "bytes\t1\tacceptor") a → ⊥
unfolding cuts grown
no_bytes (act.Adopt plan certificate) tells =
    let h : adopt_word ∷ plan ∷ certificate ∷ [] ≡ bytes_word ∷ codes "1" ∷ codes "acceptor" ∷ [] = sym tells in
    let same : adopt_word ≡ bytes_word = cc in
    words_apart same
no_bytes (act.Bytes link side bytes) (others, e, (field, hex, f, a, b)) =
    let h : bytes_word ∷ codes "1" ∷ codes "acceptor" ∷ [] ≡ bytes_word ∷ others = e in
    let rest : codes "1" ∷ codes "acceptor" ∷ [] ≡ field ∷ side_word side ∷ hex ∷ [] = (let tail : codes "1" ∷ codes "acceptor" ∷ [] ≡ others = cc in tail ∙ f) in
    absurd (cc)
no_bytes (act.Foreign what) (v, others, e, f) =
    let h : bytes_word ∷ codes "1" ∷ codes "acceptor" ∷ [] ≡ foreign_spelled v ∷ others = e in
    let same : bytes_word ≡ foreign_spelled v = cc in
    bytes_foreign v same
no_bytes (act.Step step) (w, fields, e, f) =
    let h : bytes_word ∷ codes "1" ∷ codes "acceptor" ∷ [] ≡ spelled w ∷ fields = e in
    let same : spelled w ≡ bytes_word = cc in
    spelled_beside w same

one_byte : (a : Act) → Tells (codes "answer\t2\t00") a → ⊥
unfolding cuts grown decode_pairs
one_byte (act.Adopt plan certificate) tells =
    let h : adopt_word ∷ plan ∷ certificate ∷ [] ≡ foreign_spelled called.Answer ∷ codes "2" ∷ codes "00" ∷ [] = sym tells in
    let same : adopt_word ≡ foreign_spelled called.Answer = cc in
    adopt_foreign called.Answer same
one_byte (act.Bytes link side bytes) (others, e, f) =
    let h : bytes_word ∷ others ≡ foreign_spelled called.Answer ∷ codes "2" ∷ codes "00" ∷ [] = sym e in
    let same : bytes_word ≡ foreign_spelled called.Answer = cc in
    bytes_foreign called.Answer same
one_byte (act.Step step) (w, fields, e, f) =
    let h : spelled w ∷ fields ≡ foreign_spelled called.Answer ∷ codes "2" ∷ codes "00" ∷ [] = sym e in
    let same : spelled w ≡ foreign_spelled called.Answer = cc in
    foreign_apart w called.Answer same
one_byte (act.Foreign what) (v, others, e, f) =
    let h : foreign_spelled v ∷ others ≡ foreign_spelled called.Answer ∷ codes "2" ∷ codes "00" ∷ [] = sym e in
    let same : v ≡ called.Answer = foreign_one v called.Answer (cc) in
    let rest : others ≡ codes "2" ∷ codes "00" ∷ [] = cc in
    let P : ForeignWord → Type 0 = λ x. FollowsForeign x (codes "2" ∷ codes "00" ∷ []) what in
    let Q : List Text → Type 0 = λ fs. FollowsForeign v fs what in
    short (subst P same (subst Q rest f))
  where
    short : FollowsForeign called.Answer (codes "2" ∷ codes "00" ∷ []) what → ⊥
    short (link, status, field, hex, e, d, numbered, (high, low, decoded, a)) =
        let h : codes "2" ∷ codes "00" ∷ [] ≡ field ∷ hex ∷ [] = d in
        let same : codes "00" ≡ hex = cc in
        let zero : decode_of (codes "00") ≡ Ok (0 ∷ []) = refl in
        let both : ◌≡◌ {A = Result (List ℕ) _} (Ok (0 ∷ [])) (Ok (high ∷ low ∷ [])) = sym zero ∙ ap decode_of same ∙ decoded in
        absurd (cc)

pub told_none : LinesTellNone
told_none a = (no_end a, word_alone a, one_too_many a, no_certificate a, no_bytes a, one_byte a)

-- A line tells one thing.
use Rattle.std.proofs.Common.{◌≡◌, ℕ, List, [], ◌∷◌, Result, Ok, refl, sym, ap, subst, ◌∙◌}
use mathlib.Core.Bool.{true≢false}
use Rattle.std.specs.Prelude.{codes}
use Rattle.std.specs.Str.{bytes_eq}
use Rattle.std.specs.List.{AllZip}
use Rattle.std.proofs.lemmas.Fmt.{decimal_injective}
use Rattle.hex.specs.Hex.{decode_of}
use Rattle.dr_base.specs.Texts.{Text}
use Rattle.dr_cert_text.specs.Cuts.{cuts}
use Rattle.dr_base.specs.declared.syntax.Syntax.{Syntax}
use Rattle.dr_base.specs.declared.syntax.Syntax.TheVariants.{Implicit, Explicit}
use Rattle.dr_ledger.specs.declared.content.Job.{Job}
use Rattle.dr_ledger.specs.declared.content.ItemFault.{ItemFault}
use Rattle.dr_ledger.specs.Items.{IsItem}
use Rattle.dr_ledger.proofs.Reading.{items_are_one}
use Rattle.dr_world_script.specs.declared.act.Act.{Act}
use Rattle.dr_world_script.specs.declared.act.Act.TheVariants as act
use Rattle.dr_world_script.specs.declared.foreign.Foreign.{Foreign}
use Rattle.dr_world_script.specs.declared.foreign.Foreign.TheVariants as foreign
use Rattle.dr_world_script.specs.declared.foreign.ForeignWord.{ForeignWord}
use Rattle.dr_world_script.specs.declared.foreign.ForeignWord.TheVariants as called
use Rattle.dr_world_script.specs.declared.step.Side.{Side}
use Rattle.dr_world_script.specs.declared.step.Side.TheVariants.{Requestor, Acceptor}
use Rattle.dr_world_script.specs.declared.step.Step.{Step}
use Rattle.dr_world_script.specs.declared.step.Step.TheVariants.{Push, Release, Close, Restart, Tick, RefuseStore}
use Rattle.dr_world_script.specs.declared.step.Word.{Word}
use Rattle.dr_world_script.specs.declared.step.Word.TheVariants as word
use Rattle.dr_world_script.specs.Laws.{OneActForALine, OneScriptForAText}
use Rattle.dr_world_script.specs.Scripts.{AreEnd, AreMove, AreNumber, AreWritten, Follows, FollowsForeign, IsNumber, IsStatus, Tells, TellsBy, TellsForeign, TellsStep, adopt_word, bytes_word, foreign_spelled, side_word, spelled, syntax_letter, told_lines}
use Rattle.dr_world_script.proofs.Spelling.{adopt_foreign, bytes_foreign, foreign_apart, foreign_one, spelled_apart, spelled_beside, spelled_one, words_apart}

number_one : (n m : ℕ) (field other : Text) → IsNumber n field → IsNumber m other → field ≡ other → n ≡ m
number_one n m field other a b e = decimal_injective n m a.1 b.1 (a.0 ∙ e ∙ sym b.0)

only_number : (n m : ℕ) (fields : List Text) → AreNumber n fields → AreNumber m fields → n ≡ m
only_number n m fields (f, e, a) (g, d, b) = number_one n m f g a b (let h : f ∷ [] ≡ g ∷ [] = sym e ∙ d in cc)

side_one : (a b : Side) → side_word a ≡ side_word b → a ≡ b
side_one Requestor Requestor e = refl
side_one Requestor Acceptor e = absurd (cc)
side_one Acceptor Requestor e = absurd (cc)
side_one Acceptor Acceptor e = refl

letter_one : (a b : Syntax) → syntax_letter a ≡ syntax_letter b → a ≡ b
letter_one Implicit Implicit e = refl
letter_one Implicit Explicit e = absurd (true≢false (ap (λ t. bytes_eq t (codes "I")) e))
letter_one Explicit Implicit e = absurd (true≢false (ap (λ t. bytes_eq t (codes "E")) e))
letter_one Explicit Explicit e = refl

end_one : (n m : ℕ) (s t : Side) (fields : List Text) → AreEnd n s fields → AreEnd m t fields → (n ≡ m) × (s ≡ t)
end_one n m s t fields (f, e, a) (g, d, b) =
    let h : f ∷ side_word s ∷ [] ≡ g ∷ side_word t ∷ [] = sym e ∙ d in
    (number_one n m f g a b (cc), side_one s t (cc))

move_one : (n m k l : ℕ) (s t : Side) (fields : List Text) → AreMove n s k fields → AreMove m t l fields → (n ≡ m) × (s ≡ t) × (k ≡ l)
move_one n m k l s t fields (f, c, e, a, p) (g, d, h, b, q) =
    let i : f ∷ side_word s ∷ c ∷ [] ≡ g ∷ side_word t ∷ d ∷ [] = sym e ∙ h in
    (number_one n m f g a b (cc), side_one s t (cc), number_one k l c d p q (cc))

written_one : (n m : ℕ) (s t : Side) (xs ys : List ℕ) (fields : List Text) → AreWritten n s xs fields → AreWritten m t ys fields → (n ≡ m) × (s ≡ t) × (xs ≡ ys)
written_one n m s t xs ys fields (f, c, e, a, p) (g, d, h, b, q) =
    let i : f ∷ side_word s ∷ c ∷ [] ≡ g ∷ side_word t ∷ d ∷ [] = sym e ∙ h in
    let same : c ≡ d = cc in
    let both : ◌≡◌ {A = Result (List ℕ) _} (Ok xs) (Ok ys) = sym p ∙ ap decode_of same ∙ q in
    (number_one n m f g a b (cc), side_one s t (cc), cc)

-- an item is what its data set has in its transfer syntax
item_one : (a b : Job) → IsItem a → IsItem b → a.key.syntax ≡ b.key.syntax → a.body ≡ b.body → a ≡ b
item_one a b is also of_syntax of_body =
    let both : ◌≡◌ {A = Result Job ItemFault} (Ok a) (Ok b) = items_are_one a.key.syntax a.body (Ok a) (Ok b) (λ e. cc) (λ e. cc) (is, refl, refl) (also, sym of_syntax, sym of_body) in
    cc

submit_one : (node mode digits figures : Text) (a b : Job) (fields : List Text) → fields ≡ node ∷ syntax_letter a.key.syntax ∷ digits ∷ [] → fields ≡ mode ∷ syntax_letter b.key.syntax ∷ figures ∷ [] →
    decode_of digits ≡ Ok a.body → decode_of figures ≡ Ok b.body → IsItem a → IsItem b → (node ≡ mode) × (a ≡ b)
submit_one node mode digits figures a b fields e d p q is also =
    let h : node ∷ syntax_letter a.key.syntax ∷ digits ∷ [] ≡ mode ∷ syntax_letter b.key.syntax ∷ figures ∷ [] = sym e ∙ d in
    let same : digits ≡ figures = cc in
    let bodies : ◌≡◌ {A = Result (List ℕ) _} (Ok a.body) (Ok b.body) = sym p ∙ ap decode_of same ∙ q in
    (cc, item_one a b is also (letter_one a.key.syntax b.key.syntax (cc)) (cc))

follow_one : (w : Word) (fields : List Text) (a b : Step) → Follows w fields a → Follows w fields b → a ≡ b
follow_one word.Submit fields a b (node, digits, item, e, d, p, is) (mode, figures, job, f, g, q, also) =
    let h = submit_one node mode digits figures item job fields d g p q is also in e ∙ (rw (h.0, h.1) refl) ∙ sym f
follow_one word.Open fields a b (x, y, e, d) (u, v, f, g) =
    let h : x ∷ y ∷ [] ≡ u ∷ v ∷ [] = sym d ∙ g in let p : x ≡ u = cc in let q : y ≡ v = cc in e ∙ (rw (p, q) refl) ∙ sym f
follow_one word.Away fields a b (x, y, e, d) (u, v, f, g) =
    let h : x ∷ y ∷ [] ≡ u ∷ v ∷ [] = sym d ∙ g in let p : x ≡ u = cc in let q : y ≡ v = cc in e ∙ (rw (p, q) refl) ∙ sym f
follow_one word.Push fields a b (n, e, is) (m, f, also) = e ∙ ap Push (only_number n m fields is also) ∙ sym f
follow_one word.Move fields a b (n, k, s, e, is) (m, l, t, f, also) =
    let h = move_one n m k l s t fields is also in e ∙ (rw (h.0, h.1, h.2) refl) ∙ sym f
follow_one word.Abort fields a b (n, s, e, is) (m, t, f, also) = let h = end_one n m s t fields is also in e ∙ (rw (h.0, h.1) refl) ∙ sym f
follow_one word.Release fields a b (n, e, is) (m, f, also) = e ∙ ap Release (only_number n m fields is also) ∙ sym f
follow_one word.Close fields a b (n, e, is) (m, f, also) = e ∙ ap Close (only_number n m fields is also) ∙ sym f
follow_one word.Late fields a b (n, s, e, is) (m, t, f, also) = let h = end_one n m s t fields is also in e ∙ (rw (h.0, h.1) refl) ∙ sym f
follow_one word.Restart fields a b (x, e, d) (u, f, g) = let h : x ∷ [] ≡ u ∷ [] = sym d ∙ g in let p : x ≡ u = cc in e ∙ ap Restart p ∙ sym f
follow_one word.Requeue fields a b (x, y, z, e, d) (u, v, w, f, g) =
    let h : x ∷ y ∷ z ∷ [] ≡ u ∷ v ∷ w ∷ [] = sym d ∙ g in
    let p : x ≡ u = cc in let q : y ≡ v = cc in let r : z ≡ w = cc in e ∙ (rw (p, q, r) refl) ∙ sym f
follow_one word.Drop fields a b (x, y, z, e, d) (u, v, w, f, g) =
    let h : x ∷ y ∷ z ∷ [] ≡ u ∷ v ∷ w ∷ [] = sym d ∙ g in
    let p : x ≡ u = cc in let q : y ≡ v = cc in let r : z ≡ w = cc in e ∙ (rw (p, q, r) refl) ∙ sym f
follow_one word.Forget fields a b (x, y, e, d) (u, v, f, g) =
    let h : x ∷ y ∷ [] ≡ u ∷ v ∷ [] = sym d ∙ g in
    let p : x ≡ u = cc in let q : y ≡ v = cc in e ∙ (rw (p, q) refl) ∙ sym f
follow_one word.Tick fields a b (n, e, is) (m, f, also) = e ∙ ap Tick (only_number n m fields is also) ∙ sym f
follow_one word.Refuse fields a b (x, e, d) (u, f, g) = let h : x ∷ [] ≡ u ∷ [] = sym d ∙ g in let p : x ≡ u = cc in e ∙ ap RefuseStore p ∙ sym f

step_one : (parts : List Text) (a b : Step) → TellsStep parts a → TellsStep parts b → a ≡ b
step_one parts a b (v, fields, e, s) (w, others, d, t) =
    let h : spelled v ∷ fields ≡ spelled w ∷ others = sym e ∙ d in
    let same : v ≡ w = spelled_one v w (cc) in
    let rest : fields ≡ others = cc in
    let P : Word → Type 0 = λ x. Follows x others b in
    let Q : List Text → Type 0 = λ fs. Follows v fs b in
    follow_one v fields a b s (subst Q (sym rest) (subst P (sym same) t))

-- ---- what concerns other makers' products

status_one : (n m : ℕ) (field other : Text) → IsStatus n field → IsStatus m other → field ≡ other → n ≡ m
status_one n m field other (h, l, p, a) (k, j, q, b) e =
    let both : ◌≡◌ {A = Result (List ℕ) _} (Ok (h ∷ l ∷ [])) (Ok (k ∷ j ∷ [])) = sym p ∙ ap decode_of e ∙ q in
    let high : h ≡ k = cc in
    let low : l ≡ j = cc in
    a ∙ (rw (high, low) refl) ∙ sym b

follow_foreign : (w : ForeignWord) (fields : List Text) (a b : Foreign) → FollowsForeign w fields a → FollowsForeign w fields b → a ≡ b
follow_foreign called.Node fields a b (x, e, d) (u, f, g) = let h : x ∷ [] ≡ u ∷ [] = sym d ∙ g in let p : x ≡ u = cc in e ∙ ap foreign.Node p ∙ sym f
follow_foreign called.Store fields a b (n, x, digits, item, e, d, numbered, p, is) (m, u, figures, job, f, g, also_numbered, q, also) =
    let h : x ∷ syntax_letter item.key.syntax ∷ digits ∷ [] ≡ u ∷ syntax_letter job.key.syntax ∷ figures ∷ [] = sym d ∙ g in
    let same : x ≡ u = cc in
    let link : n ≡ m = number_one n m x u numbered also_numbered same in
    let these : (x ≡ u) × (item ≡ job) = submit_one x u digits figures item job fields d g p q is also in
    e ∙ (rw (link, these.1) refl) ∙ sym f
follow_foreign called.Answer fields a b (n, s, x, digits, e, d, numbered, is) (m, t, u, figures, f, g, also_numbered, also) =
    let h : x ∷ digits ∷ [] ≡ u ∷ figures ∷ [] = sym d ∙ g in
    let same : x ≡ u = cc in
    let written : digits ≡ figures = cc in
    let link : n ≡ m = number_one n m x u numbered also_numbered same in
    let status : s ≡ t = status_one s t digits figures is also written in
    e ∙ (rw (link, status) refl) ∙ sym f

told_foreign : (parts : List Text) (a b : Foreign) → TellsForeign parts a → TellsForeign parts b → a ≡ b
told_foreign parts a b (v, fields, e, s) (w, others, d, t) =
    let h : foreign_spelled v ∷ fields ≡ foreign_spelled w ∷ others = sym e ∙ d in
    let same : v ≡ w = foreign_one v w (cc) in
    let rest : fields ≡ others = cc in
    let P : ForeignWord → Type 0 = λ x. FollowsForeign x others b in
    let Q : List Text → Type 0 = λ fs. FollowsForeign v fs b in
    follow_foreign v fields a b s (subst Q (sym rest) (subst P (sym same) t))

-- none of it is a step, a change of plan or what is written
step_foreign : (parts : List Text) (step : Step) (what : Foreign) → TellsStep parts step → TellsForeign parts what → ⊥
step_foreign parts step what (w, fields, e, f) (v, others, d, g) =
    let h : spelled w ∷ fields ≡ foreign_spelled v ∷ others = sym e ∙ d in
    let same : spelled w ≡ foreign_spelled v = cc in
    foreign_apart w v same

change_foreign : (parts : List Text) (plan certificate : Text) (what : Foreign) → parts ≡ adopt_word ∷ plan ∷ certificate ∷ [] → TellsForeign parts what → ⊥
change_foreign parts plan certificate what e (v, others, d, g) =
    let h : adopt_word ∷ plan ∷ certificate ∷ [] ≡ foreign_spelled v ∷ others = sym e ∙ d in
    let same : adopt_word ≡ foreign_spelled v = cc in
    adopt_foreign v same

write_foreign : (parts fields : List Text) (what : Foreign) → parts ≡ bytes_word ∷ fields → TellsForeign parts what → ⊥
write_foreign parts fields what e (v, others, d, g) =
    let h : bytes_word ∷ fields ≡ foreign_spelled v ∷ others = sym e ∙ d in
    let same : bytes_word ≡ foreign_spelled v = cc in
    bytes_foreign v same

-- ---- lines

-- a step is no change of plan
pub apart : (parts : List Text) (step : Step) (plan certificate : Text) → TellsStep parts step → parts ≡ adopt_word ∷ plan ∷ certificate ∷ [] → ⊥
apart parts step plan certificate (w, fields, e, f) d =
    let h : spelled w ∷ fields ≡ adopt_word ∷ plan ∷ certificate ∷ [] = sym e ∙ d in
    let same : spelled w ≡ adopt_word = cc in
    spelled_apart w same

-- nor what another product writes
written_apart : (parts fields : List Text) (step : Step) → TellsStep parts step → parts ≡ bytes_word ∷ fields → ⊥
written_apart parts fields step (w, others, e, f) d =
    let h : spelled w ∷ others ≡ bytes_word ∷ fields = sym e ∙ d in
    let same : spelled w ≡ bytes_word = cc in
    spelled_beside w same

-- and neither is the other
two_apart : (parts fields : List Text) (plan certificate : Text) → parts ≡ adopt_word ∷ plan ∷ certificate ∷ [] → parts ≡ bytes_word ∷ fields → ⊥
two_apart parts fields plan certificate e d =
    let h : adopt_word ∷ plan ∷ certificate ∷ [] ≡ bytes_word ∷ fields = sym e ∙ d in
    let same : adopt_word ≡ bytes_word = cc in
    words_apart same

parts_one : (parts : List Text) (a b : Act) → TellsBy parts a → TellsBy parts b → a ≡ b
parts_one parts (act.Step one) (act.Step other) s t = ap act.Step (step_one parts one other s t)
parts_one parts (act.Step one) (act.Adopt plan certificate) s t = absurd (apart parts one plan certificate s t)
parts_one parts (act.Adopt plan certificate) (act.Step other) s t = absurd (apart parts other plan certificate t s)
parts_one parts (act.Adopt plan certificate) (act.Adopt next own) s t =
    let h : adopt_word ∷ plan ∷ certificate ∷ [] ≡ adopt_word ∷ next ∷ own ∷ [] = sym s ∙ t in
    let p : plan ≡ next = cc in
    let q : certificate ≡ own = cc in
    rw (p, q) refl
parts_one parts (act.Step one) (act.Bytes link side bytes) s (fields, e, is) = absurd (written_apart parts fields one s e)
parts_one parts (act.Bytes link side bytes) (act.Step other) (fields, e, is) t = absurd (written_apart parts fields other t e)
parts_one parts (act.Adopt plan certificate) (act.Bytes link side bytes) s (fields, e, is) = absurd (two_apart parts fields plan certificate s e)
parts_one parts (act.Bytes link side bytes) (act.Adopt plan certificate) (fields, e, is) t = absurd (two_apart parts fields plan certificate t e)
parts_one parts (act.Bytes link side bytes) (act.Bytes number end written) (fields, e, is) (others, f, also) =
    let h : bytes_word ∷ fields ≡ bytes_word ∷ others = sym e ∙ f in
    let rest : others ≡ fields = cc in
    let P : List Text → Type 0 = λ fs. AreWritten number end written fs in
    let one = written_one link number side end bytes written fields is (subst P rest also) in
    rw (one.0, one.1, one.2) refl
parts_one parts (act.Foreign what) (act.Foreign other) s t = ap act.Foreign (told_foreign parts what other s t)
parts_one parts (act.Step one) (act.Foreign what) s t = absurd (step_foreign parts one what s t)
parts_one parts (act.Foreign what) (act.Step one) s t = absurd (step_foreign parts one what t s)
parts_one parts (act.Adopt plan certificate) (act.Foreign what) s t = absurd (change_foreign parts plan certificate what s t)
parts_one parts (act.Foreign what) (act.Adopt plan certificate) s t = absurd (change_foreign parts plan certificate what t s)
parts_one parts (act.Bytes link side bytes) (act.Foreign what) (fields, e, is) t = absurd (write_foreign parts fields what e t)
parts_one parts (act.Foreign what) (act.Bytes link side bytes) s (fields, e, is) = absurd (write_foreign parts fields what e s)

pub line_one : OneActForALine
line_one line a b s t = parts_one (cuts 9 line) a b s t

acts_one : (lines : List Text) (some others : List Act) → AllZip Tells lines some → AllZip Tells lines others → some ≡ others
acts_one [] [] [] a b = refl
acts_one [] [] (y ∷ ys) a b = absurd b
acts_one [] (x ∷ xs) ys a b = absurd a
acts_one (l ∷ ls) [] ys a b = absurd a
acts_one (l ∷ ls) (x ∷ xs) [] a b = absurd b
acts_one (l ∷ ls) (x ∷ xs) (y ∷ ys) a b = let p = line_one l x y a.0 b.0 in let q = acts_one ls xs ys a.1 b.1 in rw (p, q) refl

pub script_one : OneScriptForAText
script_one text some others a b = acts_one (told_lines text) some others a b

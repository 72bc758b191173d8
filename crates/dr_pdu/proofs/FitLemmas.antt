-- What a spelling says of its parts: each is read as it was written, and the shortest text fits.
use Rattle.std.proofs.Common.{◌≡◌, ◌≢◌, ℕ, ◌+◌, ◌<◌, ◌≤◌, ◌^◌, List, [], ◌∷◌, ◌++◌, length, map, Bool, true, false, cond, eqb, Option, Some, None, refl, sym, ap, subst, ◌∙◌, arith}
use Rattle.std.specs.Option.{option_map, MatchOption}
use Rattle.std.specs.Int.{w32, to_be_bytes}
use Rattle.std.specs.List.{flat_map, AllByRecursion}
use Rattle.std.proofs.lemmas.List.{length-append}
use Rattle.std.proofs.lemmas.Bool.{eqb-true, eqb-false}
use Rattle.dr_base.specs.Runs.{Run}
use Rattle.dr_pdu.specs.declared.pdu.Pdv.{Pdv}
use Rattle.dr_pdu.specs.declared.pdu.Association.{Association}
use Rattle.dr_pdu.specs.declared.pdu.Front.{Front}
use Rattle.dr_pdu.specs.declared.pdu.ContextProposal.{ContextProposal}
use Rattle.dr_pdu.specs.declared.pdu.ContextAnswer.{ContextAnswer}
use Rattle.dr_base.specs.Padding.{unpadded, trimmed}
use Rattle.dr_pdu.specs.Items.{Item, AreItems, StartsPdv, pdv_text, bodies, first_body}
use Rattle.dr_pdu.specs.Grammar.{IsProposal, IsAnswer, IsFront, IsGreatestLength, IsAssociation}
use Rattle.dr_base.specs.Lists.{Each}
use Rattle.dr_pdu.specs.Written.{item, proposal_body, answer_body, user_text}
use Rattle.dr_pdu.specs.Fitting.{IsTitle, IsUnpadded, FrontFits, ProposalFits, AnswerFits, weight, AssociationFits}
use Rattle.dr_pdu.proofs.Trimming.{unpadded_short, unpadded_twice, title_short, title_twice}
use Rattle.dr_pdu.proofs.Weights.{text_total, bodies_small, three_kinds, first_weight, first_small, length_of_bodies}

-- a name that an item gave
pub record Named (kind : ℕ) (is : List Item) (name : List ℕ) : Type 0 where
  pub body : List ℕ
  pub first : first_body kind is ≡ Some body
  pub named : unpadded body ≡ name

pub named : (kind : ℕ) (is : List Item) (name : List ℕ) → option_map unpadded (first_body kind is) ≡ Some name → Named kind is name
named kind is name h = by_option (first_body kind is) refl h
  where
    by_option : (o : Option (List ℕ)) → first_body kind is ≡ o → option_map unpadded o ≡ Some name → Named kind is name
    by_option None e h = absurd (cc)
    by_option (Some b) e h = record { body = b; first = e; named = cc }

-- a name is unpadded, and no longer than its item
named_fits : (body name : List ℕ) → unpadded body ≡ name → IsUnpadded name
named_fits body name e = ap unpadded (sym e) ∙ unpadded_twice body ∙ e

named_short : (body name : List ℕ) → unpadded body ≡ name → length name ≤ length body
named_short body name e = let n = ap (λ (t : List ℕ). length t) e in omega (arith, n, unpadded_short body)

names_fit : (bs names : List (List ℕ)) → map unpadded bs ≡ names → AllByRecursion IsUnpadded names × (weight names ≤ weight bs)
names_fit bs names e = subst (λ (ns : List (List ℕ)). AllByRecursion IsUnpadded ns × (weight ns ≤ weight bs)) e (all bs)
  where
    all : (bs : List (List ℕ)) → AllByRecursion IsUnpadded (map unpadded bs) × (weight (map unpadded bs) ≤ weight bs)
    all [] = (tt, omega arith)
    all (b ∷ bs) = let rest = all bs in ((unpadded_twice b, rest.0), omega (arith, unpadded_short b, rest.1))

pub length_of_proposal : (c : ContextProposal) → length (proposal_body c) ≡ (8 + length c.class) + weight c.syntaxes
length_of_proposal c = omega (arith, length-append c.class (flat_map (item 0x40) c.syntaxes), length_of_bodies 0x40 c.syntaxes)

-- a proposal that stands in an item, and how long it is at least
pub proposal_fits : (body : List ℕ) (c : ContextProposal) → IsProposal body c → length body < 2 ^ 16 → ProposalFits c × (length (proposal_body c) ≤ length body)
proposal_fits body c (r, s, t, items, rest, e, are, class, syntaxes, some) small =
    let n = named 0x30 items c.class class in
    let m = names_fit (bodies 0x40 items) c.syntaxes syntaxes in
    let whole = ap (λ (x : List ℕ). length x) e in
    let apart = three_kinds 0x30 0x40 0 (λ x. absurd (omega arith)) (λ x. absurd (omega arith)) (λ x. absurd (omega arith)) items in
    let first = first_weight 0x30 items n.body n.first in
    let fits : length (proposal_body c) ≤ length body = omega (arith, length_of_proposal c, whole, text_total items rest are, apart, first, named_short n.body c.class n.named, m.1) in
    ((named_fits n.body c.class n.named, m.0, some, omega (arith, fits, small)), fits)

-- an answer that stands in an item, and how long it is at least
pub answer_fits : (body : List ℕ) (c : ContextAnswer) → IsAnswer body c → length body < 2 ^ 16 → AnswerFits c × (length (answer_body false c) ≤ length body)
answer_fits body c (r, s, items, rest, e, are, syntax) small = by_test (eqb c.result 0) refl syntax
  where
    by_test : (t : Bool) → eqb c.result 0 ≡ t → cond t (option_map unpadded (first_body 0x40 items)) (Some []) ≡ Some c.syntax → AnswerFits c × (length (answer_body false c) ≤ length body)
    by_test true t h =
        let n = named 0x40 items c.syntax h in
        let whole = ap (λ (x : List ℕ). length x) e in
        let apart = three_kinds 0x40 1 0 (λ x. absurd (omega arith)) (λ x. absurd (omega arith)) (λ x. absurd (omega arith)) items in
        let first = first_weight 0x40 items n.body n.first in
        let size : length (answer_body false c) ≡ length (c.id ∷ 0 ∷ c.result ∷ 0 ∷ item 0x40 c.syntax) = rw t refl in
        let fits : length (answer_body false c) ≤ length body = omega (arith, size, whole, text_total items rest are, apart, first, named_short n.body c.syntax n.named) in
        ((λ no. absurd (no (eqb-true c.result 0 t)), named_fits n.body c.syntax n.named, omega (arith, fits, small)), fits)
    by_test false t h =
        let none : c.syntax ≡ [] = cc in
        let whole = ap (λ (x : List ℕ). length x) e in
        let size : length (answer_body false c) ≡ 4 = rw t refl in
        let fits : length (answer_body false c) ≤ length body = omega (arith, size, whole) in
        ((λ no. none, rw none refl, omega (arith, fits, small)), fits)

-- ---- associations

title_fits : (body name : List ℕ) → length body ≡ 16 → trimmed body ≡ name → IsTitle name
title_fits body name n e =
    let short = ap (λ (t : List ℕ). length t) e in
    (omega (arith, n, short, title_short body), ap trimmed (sym e) ∙ title_twice body ∙ e)

pub record FrontSays (body : List ℕ) (f : Front) (rest : List ℕ) : Type 0 where
  pub fits : FrontFits f
  pub small : f.version < 2 ^ 16
  pub size : length body ≡ 68 + length rest

pub front_says : (body : List ℕ) (f : Front) (rest : List ℕ) → IsFront body f rest → FrontSays body f rest
front_says body f rest (r, s, called, calling, small, ca, cl, re, tca, tcl, e) =
    let whole = ap (λ (t : List ℕ). length t) e in
    record {
      fits = (title_fits called f.called ca tca, title_fits calling f.calling cl tcl, re);
      small = small;
      size = omega (arith, whole, length-append called (calling ++ (f.reserved ++ rest)), length-append calling (f.reserved ++ rest), length-append f.reserved rest, ca, cl, re);
    }

each_fits : {C : Type 0} (IsContext : List ℕ → C → Type 0) (ContextFits : C → Type 0) (bare : C → List ℕ) → ((b : List ℕ) (c : C) → IsContext b c → length b < 2 ^ 16 → ContextFits c × (length (bare c) ≤ length b))
    → (bs : List (List ℕ)) (cs : List C) → AllByRecursion (λ (b : List ℕ). length b < 2 ^ 16) bs → Each IsContext bs cs → AllByRecursion ContextFits cs × (weight (map bare cs) ≤ weight bs)
each_fits IsContext ContextFits bare one [] [] small h = (tt, omega arith)
each_fits IsContext ContextFits bare one [] (c ∷ cs) small h = absurd h
each_fits IsContext ContextFits bare one (b ∷ bs) [] small h = absurd h
each_fits IsContext ContextFits bare one (b ∷ bs) (c ∷ cs) small h =
    let head = one b c h.0 small.0 in
    let tail = each_fits IsContext ContextFits bare one bs cs small.1 h.1 in
    ((head.0, tail.0), omega (arith, head.1, tail.1))

-- the greatest length takes its place, where there is one
length_fits : (items : List Item) (n : ℕ) → IsGreatestLength (first_body 0x50 items) n → (n < 2 ^ 32) × (length (user_text false n) ≤ weight (bodies 0x50 items))
length_fits items n h = by_test (eqb n 0) refl
  where
    inside : (b : List ℕ) (is : List Item) → AreItems is b → first_body 0x50 items ≡ Some b → eqb n 0 ≡ false → (o : Option (List ℕ)) → first_body 0x51 is ≡ o → MatchOption o (n ≡ 0) (λ v. (n < 2 ^ 32) × (v ≡ to_be_bytes w32 n))
        → (n < 2 ^ 32) × (length (user_text false n) ≤ weight (bodies 0x50 items))
    inside b is are e t None i m = absurd (eqb-false n 0 t m)
    inside b is are e t (Some v) i m =
        let four : length v ≡ 4 = ap (λ (x : List ℕ). length x) m.1 in
        let apart = three_kinds 0x51 1 0 (λ x. absurd (omega arith)) (λ x. absurd (omega arith)) (λ x. absurd (omega arith)) is in
        let size : length (user_text false n) ≡ 12 = rw t refl in
        (m.0, omega (arith, four, apart, size, text_total is b are, first_weight 0x51 is v i, first_weight 0x50 items b e))

    by_option : (o : Option (List ℕ)) → first_body 0x50 items ≡ o → IsGreatestLength o n → eqb n 0 ≡ false → (n < 2 ^ 32) × (length (user_text false n) ≤ weight (bodies 0x50 items))
    by_option None e h t = absurd (eqb-false n 0 t h)
    by_option (Some b) e h t = inside b h.0 h.1 e t (first_body 0x51 h.0) refl h.2

    by_test : (t : Bool) → eqb n 0 ≡ t → (n < 2 ^ 32) × (length (user_text false n) ≤ weight (bodies 0x50 items))
    by_test true t = let none = eqb-true n 0 t in let size : length (user_text false n) ≡ 0 = rw t refl in (omega (arith, none), omega (arith, size))
    by_test false t = by_option (first_body 0x50 items) refl h t

pub record AssociationHolds {C : Type 0} (ContextFits : C → Type 0) (bare : C → List ℕ) (a : Association C) : Type 0 where
  pub fits : AssociationFits ContextFits bare a
  pub version : a.front.version < 2 ^ 16
  pub greatest : a.max_pdu < 2 ^ 32

pub association_fits : {C : Type 0} (kind : ℕ) (IsContext : List ℕ → C → Type 0) (ContextFits : C → Type 0) (bare : C → List ℕ) → 0x10 ≢ kind → kind ≢ 0x50
    → ((b : List ℕ) (c : C) → IsContext b c → length b < 2 ^ 16 → ContextFits c × (length (bare c) ≤ length b))
    → (body : List ℕ) (a : Association C) → IsAssociation kind IsContext body a → length body ≤ 262144 → AssociationHolds ContextFits bare a
association_fits kind IsContext ContextFits bare apart apart' one body a (items, rest, front, are, application, contexts, greatest) small =
    let f = front_says body a.front rest front in
    let n = named 0x10 items a.application application in
    let app : length n.body < 2 ^ 16 = first_small 0x10 items n.body n.first (bodies_small 0x10 items rest are) in
    let each = each_fits IsContext ContextFits bare one (bodies kind items) a.contexts (bodies_small kind items rest are) contexts in
    let user = length_fits items a.max_pdu greatest in
    let kinds = three_kinds 0x10 kind 0x50 apart (λ x. absurd (omega arith)) apart' items in
    record {
      fits = (
        f.fits,
        named_fits n.body a.application n.named,
        each.0,
        omega (arith, f.size, small, text_total items rest are, kinds, first_weight 0x10 items n.body n.first, named_short n.body a.application n.named, each.1, user.1),
        omega (arith, app, named_short n.body a.application n.named),
      );
      version = f.small;
      greatest = user.0;
    }

-- ---- presentation data values

-- the text of the values is theirs alone
pub values_are : (pdvs : List Pdv) (body : List ℕ) → Run StartsPdv pdvs body [] → body ≡ flat_map pdv_text pdvs
values_are [] body h = h
values_are (p ∷ ps) body h = h.1.1 ∙ ap (λ (t : List ℕ). pdv_text p ++ t) (values_are ps h.0 h.2)

-- The front of a text has one answer.
use Rattle.std.proofs.Common.{◌≡◌, ◌≢◌, ◌⊎◌, ℕ, ◌<◌, List, ◌++◌, length, take, Some, None, refl, sym, ap, subst, ◌∙◌, arith, inl, inr, Result, Ok, Err}
use Rattle.std.proofs.lemmas.List.{length-append, take_at}
use Rattle.dr_pdu.specs.declared.pdu.Pdu.{Pdu}
use Rattle.dr_pdu.specs.declared.fault.PduFault.{PduFault}
use Rattle.dr_pdu.specs.declared.fault.PduFault.TheVariants.{More, UnknownType, TooLong, BadItem, BadContextId, Memory, Failed}
use Rattle.dr_pdu.specs.Grammar.{StartsFrame, header_fault, IsBody, Shows, Decodes}
use Rattle.dr_pdu.proofs.FrontLemmas.{same_front, one_spelling}
use Rattle.dr_pdu.proofs.FeedLemmas.{excludes}

-- what a whole body shows
abbrev InBody : ℕ → List ℕ → PduFault → Type 0
InBody kind body f = (f ≡ BadItem) × ((p : Pdu) → IsBody kind body p → ⊥) ⊎ (f ≡ BadContextId) × ((p : Pdu) × IsBody kind body p)

-- what stands behind a good header
abbrev Behind : ℕ → ℕ → List ℕ → PduFault → Type 0
Behind kind len rest f = (f ≡ More) × (length rest < len) ⊎ ((body after : List ℕ) × (len ≡ length body) × (rest ≡ body ++ after) × InBody kind body f)

-- what a header shows, or what stands behind it
abbrev AtHeader : ℕ → ℕ → ℕ → List ℕ → PduFault → Type 0
AtHeader limit kind len rest f = (header_fault limit kind len ≡ Some f) ⊎ (header_fault limit kind len ≡ None) × Behind kind len rest f

abbrev Why : ℕ → List ℕ → PduFault → Type 0
Why limit text f = (length text < 6) × (f ≡ More) ⊎ ((kind len : ℕ) × (rest : List ℕ) × StartsFrame text kind len rest × AtHeader limit kind len rest f)

why : (limit : ℕ) (text : List ℕ) (f : PduFault) → f ≢ Memory → Shows limit text f → Why limit text f
why limit text More other (inl short) = inl (short, refl)
why limit text More other (inr (kind, len, rest, b, good, short)) = inr (kind, len, rest, b, inr (good, inl (refl, short)))
why limit text UnknownType other (kind, len, rest, b, e) = inr (kind, len, rest, b, inl e)
why limit text TooLong other (kind, len, rest, b, e) = inr (kind, len, rest, b, inl e)
why limit text BadItem other (inl (kind, len, rest, b, e)) = inr (kind, len, rest, b, inl e)
why limit text BadItem other (inr (kind, body, rest, w, none)) = inr (kind, length body, body ++ rest, w.0, inr (w.1, inr (body, rest, refl, refl, inl (refl, none))))
why limit text BadContextId other (kind, body, rest, p, w, is, none) = inr (kind, length body, body ++ rest, w.0, inr (w.1, inr (body, rest, refl, refl, inr (refl, (p, is)))))
why limit text Memory other h = absurd (other refl)
why limit text Failed other h = absurd h

in_body : (kind : ℕ) (body : List ℕ) (f g : PduFault) → InBody kind body f → InBody kind body g → f ≡ g
in_body kind body f g (inl (e, none)) (inl (e', none')) = e ∙ sym e'
in_body kind body f g (inl (e, none)) (inr (e', p)) = absurd (none p.0 p.1)
in_body kind body f g (inr (e, p)) (inl (e', none)) = absurd (none p.0 p.1)
in_body kind body f g (inr (e, p)) (inr (e', q)) = e ∙ sym e'

body_is : (len : ℕ) (rest body after : List ℕ) → len ≡ length body → rest ≡ body ++ after → take len rest ≡ body
body_is len rest body after n e = ap (take len) e ∙ take_at body after len (sym n)

long_enough : (len : ℕ) (rest body after : List ℕ) → len ≡ length body → rest ≡ body ++ after → length rest < len → ⊥
long_enough len rest body after n e short = let whole = ap (λ (t : List ℕ). length t) e in omega (arith, whole, n, short, length-append body after)

behind : (kind len : ℕ) (rest : List ℕ) (f g : PduFault) → Behind kind len rest f → Behind kind len rest g → f ≡ g
behind kind len rest f g (inl (e, short)) (inl (e', short')) = e ∙ sym e'
behind kind len rest f g (inl (e, short)) (inr (body, after, n, e', h)) = absurd (long_enough len rest body after n e' short)
behind kind len rest f g (inr (body, after, n, e, h)) (inl (e', short)) = absurd (long_enough len rest body after n e short)
behind kind len rest f g (inr (body, after, n, e, h)) (inr (body', after', n', e', h')) =
    let same : body' ≡ body = sym (body_is len rest body' after' n' e') ∙ body_is len rest body after n e in
    in_body kind body f g h (subst (λ (b : List ℕ). InBody kind b g) same h')

at_header : (limit kind len : ℕ) (rest : List ℕ) (f g : PduFault) → AtHeader limit kind len rest f → AtHeader limit kind len rest g → f ≡ g
at_header limit kind len rest f g (inl e) (inl e') = let both : Some f ≡ Some g = sym e ∙ e' in cc
at_header limit kind len rest f g (inl e) (inr (good, h)) = let both : Some f ≡ None = sym e ∙ good in absurd (cc)
at_header limit kind len rest f g (inr (good, h)) (inl e) = let both : Some g ≡ None = sym e ∙ good in absurd (cc)
at_header limit kind len rest f g (inr (good, h)) (inr (good', h')) = behind kind len rest f g h h'

header_long : (text : List ℕ) (kind len : ℕ) (rest : List ℕ) → StartsFrame text kind len rest → length text < 6 → ⊥
header_long text kind len rest b short = let whole = ap (λ (t : List ℕ). length t) b.2 in omega (arith, whole, short)

one_why : (limit : ℕ) (text : List ℕ) (f g : PduFault) → Why limit text f → Why limit text g → f ≡ g
one_why limit text f g (inl (short, e)) (inl (short', e')) = e ∙ sym e'
one_why limit text f g (inl (short, e)) (inr (kind, len, rest, b, h)) = absurd (header_long text kind len rest b short)
one_why limit text f g (inr (kind, len, rest, b, h)) (inl (short, e)) = absurd (header_long text kind len rest b short)
one_why limit text f g (inr (kind, len, rest, b, h)) (inr (kind', len', rest', b', h')) =
    let same = same_front text kind' len' rest' kind len rest b' b in
    let h1 = subst (λ (k : ℕ). AtHeader limit k len' rest' g) same.same_kind h' in
    let h2 = subst (λ (n : ℕ). AtHeader limit kind n rest' g) same.same_len h1 in
    at_header limit kind len rest f g h (subst (λ (r : List ℕ). AtHeader limit kind len r g) same.same_rest h2)

-- a text shows one fault at most, but for want of memory
pub one_fault : (limit : ℕ) (text : List ℕ) (f g : PduFault) → f ≢ Memory → g ≢ Memory → Shows limit text f → Shows limit text g → f ≡ g
one_fault limit text f g other other' h h' = one_why limit text f g (why limit text f other h) (why limit text g other' h')

not_memory : (f : PduFault) → ◌≢◌ {A = Result (Pdu × ℕ) PduFault} (Err f) (Err Memory) → f ≢ Memory
not_memory f other e = other (ap (λ (x : PduFault). let r : Result (Pdu × ℕ) PduFault = Err x in r) e)

-- the front of a text has one answer, but for want of memory
pub one_answer : (limit : ℕ) (text : List ℕ) (r s : Result (Pdu × ℕ) PduFault) → r ≢ Err Memory → s ≢ Err Memory → Decodes limit text r → Decodes limit text s → r ≡ s
one_answer limit text (Ok x) (Ok y) other other' (a, b, e, n, s) (a', b', e', n', s') =
    let same = one_spelling limit limit a a' b b' x.0 y.0 s s' (sym e ∙ e') in
    let lengths : x.1 ≡ y.1 = sym n ∙ ap (λ (t : List ℕ). length t) same.0 ∙ n' in
    ap (λ (p : Pdu). let z : Result (Pdu × ℕ) PduFault = Ok (p, x.1) in z) same.1 ∙ ap (λ (k : ℕ). let z : Result (Pdu × ℕ) PduFault = Ok (y.0, k) in z) lengths
one_answer limit text (Ok x) (Err g) other other' (a, b, e, n, s) h = absurd (excludes limit text g h (not_memory g other') x.0 b (a, e, s))
one_answer limit text (Err f) (Ok y) other other' h (a, b, e, n, s) = absurd (excludes limit text f h (not_memory f other) y.0 b (a, e, s))
one_answer limit text (Err f) (Err g) other other' h h' = ap (λ (x : PduFault). let r : Result (Pdu × ℕ) PduFault = Err x in r) (one_fault limit text f g (not_memory f other) (not_memory g other') h h')

-- Effects that are put together from their parts.
use Rattle.std.proofs.Common.{◌≡◌, ℕ, List, [], ◌∷◌, Option, Some, None, Result, Ok, Err, sym, ap, subst, ◌∙◌}
use Rattle.std.specs.Prelude.{IfOk}
use Rattle.std.specs.declared.alloc.AllocError.{AllocError}
use Rattle.std.proofs.lemmas.Option.{same_Some}
use Rattle.dr_base.specs.Standard.{verification}
use Rattle.dr_base.specs.Syntaxes.{syntax_uid}
use Rattle.dr_base.specs.Texts.{Text}
use Rattle.dr_base.specs.declared.syntax.Syntax.TheVariants.{Implicit}
use Rattle.dr_ledger.specs.declared.content.Job.{Job}
use Rattle.dr_nego.specs.Agreeing.{context_for}
use Rattle.dr_nego.specs.declared.agreed.Agreed.{Agreed}
use Rattle.dr_session.specs.Breaks.{HasActs}
use Rattle.dr_session.specs.Ends.{echoes_by, echoes_in}
use Rattle.dr_session.specs.declared.ends.Core.{Core}
use Rattle.dr_session.specs.declared.ends.Effect.{Effect}
use Rattle.dr_session.specs.declared.ends.LinkAction.{LinkAction}
use Rattle.dr_session.specs.declared.ends.Moment.{Moment}
use Rattle.dr_session.specs.Reactions.{Reaction, awaiting, effect, gives_in, id_after, store_pdus, storing, write}
use Rattle.dr_session.specs.Turns.{Ends}

same_effect : (said act : LinkAction) (x y : Core) → said ≡ act → x ≡ y → effect (said ∷ []) x ≡ effect (act ∷ []) y
same_effect said act x y is core = ap (λ (a : LinkAction). effect (a ∷ []) x) is ∙ ap (λ (c : Core). effect (act ∷ []) c) core

-- it ends so, with no call
abbrev ended : Effect → Reaction
ended e = Ends e

-- the one thing that was done is the one that was wanted
pub acted : (r : Result Effect AllocError) (said act : LinkAction) (x y : Core) → IfOk r (λ (e : Effect). e ≡ effect (said ∷ []) x) → said ≡ act → x ≡ y → IfOk r (λ (e : Effect). e ≡ effect (act ∷ []) y)
acted (Ok e) said act x y h is core = h ∙ same_effect said act x y is core
acted (Err f) said act x y h is core = tt

pub acted_so : (r : Result Effect AllocError) (said act : LinkAction) (x y : Core) → IfOk r (λ (e : Effect). e ≡ effect (said ∷ []) x) → said ≡ act → x ≡ y
    → IfOk r (λ (e : Effect). ended (effect (act ∷ []) y) ≡ ended e)
acted_so (Ok e) said act x y h is core = sym (ap (λ (d : Effect). ended d) (h ∙ same_effect said act x y is core))
acted_so (Err f) said act x y h is core = tt

-- what was made before is done, by an end that goes on so
pub acted_ready : (acts want : List LinkAction) (x y : Core) → acts ≡ want → x ≡ y → effect acts x ≡ effect want y
acted_ready acts want x y is core = ap (λ (l : List LinkAction). effect l x) is ∙ ap (λ (c : Core). effect want c) core

-- ---- an echo

-- an echo for which there is a context writes something
pub wants_some : (o : Option Agreed) (agreed : Agreed) (context now : ℕ) (c : Core) → o ≡ Some agreed → context_for agreed verification (syntax_uid Implicit) ≡ Some context
    → HasActs (echoes_by o now c).acts
wants_some o agreed context now c is some =
    let P : Option Agreed → Type 0 = λ g. HasActs (echoes_by g now c).acts in
    let Q : Option ℕ → Type 0 = λ x. HasActs (echoes_in x agreed now c).acts in
    subst P (sym is) (subst Q (sym some) tt)

-- ---- an instance that goes over

-- it is what was agreed on by which it is written
pub stored_by : (o : Option Agreed) (agreed : Agreed) (r : Result LinkAction AllocError) (context id : ℕ) (job : Job) → o ≡ Some agreed
    → IfOk r (λ (a : LinkAction). a ≡ write (store_pdus agreed context id job)) → IfOk r (λ (a : LinkAction). (b : Agreed) → o ≡ Some b → a ≡ write (store_pdus b context id job))
stored_by o agreed (Ok a) context id job some h = λ b is. h ∙ ap (λ (g : Agreed). write (store_pdus g context id job)) (same_Some agreed b (sym some ∙ is))
stored_by o agreed (Err f) context id job some h = tt

pub gave : (r : Result Effect AllocError) (core x : Core) (context id : ℕ) (at : Moment) (job : Job) (uid : Text) (said : LinkAction)
    → IfOk r (λ (e : Effect). e ≡ effect (said ∷ []) x) → ((agreed : Agreed) → core.agreed ≡ Some agreed → said ≡ write (store_pdus agreed context id job))
    → id ≡ id_after core.last → x ≡ awaiting (storing id context uid) at.now core → uid ≡ job.uid
    → IfOk r (λ (e : Effect). (agreed : Agreed) → core.agreed ≡ Some agreed → gives_in (Some context) agreed at job core ≡ Ends e)
gave (Ok e) core x context id at job uid said h says id_is x_is uid_is = λ agreed some.
    let act : said ≡ write (store_pdus agreed context (id_after core.last) job) = says agreed some ∙ ap (λ (i : ℕ). write (store_pdus agreed context i job)) id_is in
    let after : x ≡ awaiting (storing (id_after core.last) context job.uid) at.now core =
    x_is ∙ (ap (λ (i : ℕ). awaiting (storing i context uid) at.now core) id_is
    ∙ ap (λ (u : Text). awaiting (storing (id_after core.last) context u) at.now core) uid_is) in
    sym (ap (λ (d : Effect). ended d) (h ∙ same_effect said (write (store_pdus agreed context (id_after core.last) job)) x
    (awaiting (storing (id_after core.last) context job.uid) at.now core) act after))
gave (Err f) core x context id at job uid said h says id_is x_is uid_is = tt

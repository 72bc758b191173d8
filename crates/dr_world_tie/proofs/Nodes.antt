-- What is done at a node alone.
use Rattle.std.proofs.Common.{Bool, refl, sym, ap, subst, ◌∙◌}
use Rattle.std.specs.Prelude.{◌||◌}
use Rattle.std.specs.FinSet as set
use Rattle.dr_route.specs.Routes.{local}
use Rattle.dr_ledger.specs.Books.{Book}
use Rattle.dr_ledger.specs.Items.{instance_of}
use Rattle.dr_ledger.specs.PlanRoutes.{plan_routing}
use Rattle.dr_ledger.specs.declared.item.Outcome.TheVariants.{Broken}
use Rattle.dr_ledger.specs.Replies.{Arrives, Drops, Forgets, Requeues, Settles, IsAdmitted, IsHeld, IsOver, IsWaiting}
use Rattle.dr_ledger.proofs.Maps.{texts, contains_new}
use Rattle.dr_world_model.specs.Worlds.{with_book, with_armed}
use Rattle.dr_world_model.specs.Calls.{store_outcome_of}
use Rattle.dr_world_model.specs.Steps.{passed}
use Rattle.dr_world_model.proofs.Safety.{book_here, book_there}
use Rattle.dr_world_tie.specs.Desks.{ArmedBy}
use Rattle.dr_world_tie.specs.Nodes.{SubmittingTakes, RequeueingIsRequeue, GivingUpIsDrop, ForgettingIsForget}
use Rattle.dr_world_tie.specs.Nodes.{RefusingIsRefuse, StayingAwayIsStayAway, TimePasses}
use Rattle.dr_world_tie.proofs.CallerLeaving.{armed_after}
use Rattle.dr_world_tie.proofs.Sites.{armed_by}

pub submitting_takes : SubmittingTakes
submitting_takes plan w name job s t reply node at h =
    let Would : Book → Type 0 = λ b. IsAdmitted (plan_routing plan name) local (instance_of job) b in
    let would : ArmedBy (Would (w.books name)) s.armed (store_outcome_of reply) t.armed = subst (λ (b : Book). ArmedBy (Would b) s.armed (store_outcome_of reply) t.armed) at.0 h.1 in
    let a = armed_after (Would (w.books name)) w.armed name (store_outcome_of reply) s.armed t.armed at.1 would in
    record {
      after = with_armed (with_book w name t.book) a.0;
      step = (
        node,
        record {
          book = t.book;
          call = subst (λ (b : Book). Arrives (plan_routing plan name) local (instance_of job) b reply t.book) at.0 h.0;
          called = record { armed = a.0; store = a.1; is = refl };
        },
      );
      desk_is = (sym (book_here w.books name t.book), a.2);
      only = record {
        books = λ other apart. book_there w.books name t.book other apart;
        armed = a.3;
        links = refl;
        rest = (refl, refl, refl);
      };
    }

pub staying_away_is_stay_away : StayingAwayIsStayAway
staying_away_is_stay_away plan w name uid dest s t answer node at h =
    let waits : Book → Type 0 = λ b. IsWaiting b uid dest in
    let came = store_outcome_of answer in
    let would : ArmedBy (waits (w.books name)) s.armed came t.armed =
    subst (λ (b : Book). ArmedBy (waits b) s.armed came t.armed) at.0 h.1 in
    let a = armed_after (waits (w.books name)) w.armed name came s.armed t.armed at.1 would in
    record {
      after = with_armed (with_book w name t.book) a.0;
      step = (
        node,
        record {
          book = t.book;
          call = subst (λ (b : Book). Settles uid dest Broken w.time b answer t.book) at.0 h.0;
          called = record { armed = a.0; store = a.1; is = refl };
        },
      );
      desk_is = (sym (book_here w.books name t.book), a.2);
      only = record {
        books = λ other apart. book_there w.books name t.book other apart;
        armed = a.3;
        links = refl;
        rest = (refl, refl, refl);
      };
    }

pub requeueing_is_requeue : RequeueingIsRequeue
requeueing_is_requeue plan w name uid dest s t answer node at h =
    let by : ArmedBy (IsHeld s.book uid dest) s.armed (store_outcome_of answer) t.armed = armed_by (IsHeld s.book uid dest) (IsHeld s.book uid dest) s.armed t.armed answer (λ y. y) h.1 in
    let would : ArmedBy (IsHeld (w.books name) uid dest) s.armed (store_outcome_of answer) t.armed = subst (λ (b : Book). ArmedBy (IsHeld b uid dest) s.armed (store_outcome_of answer) t.armed) at.0 by in
    let a = armed_after (IsHeld (w.books name) uid dest) w.armed name (store_outcome_of answer) s.armed t.armed at.1 would in
    record {
      after = with_armed (with_book w name t.book) a.0;
      step = (
        node,
        record {
          book = t.book;
          call = subst (λ (b : Book). Requeues uid dest b answer t.book) at.0 h.0;
          called = record { armed = a.0; store = a.1; is = refl };
        },
      );
      desk_is = (sym (book_here w.books name t.book), a.2);
      only = record {
        books = λ other apart. book_there w.books name t.book other apart;
        armed = a.3;
        links = refl;
        rest = (refl, refl, refl);
      };
    }

pub giving_up_is_drop : GivingUpIsDrop
giving_up_is_drop plan w name uid dest s t answer node at h =
    let by : ArmedBy (IsHeld s.book uid dest) s.armed (store_outcome_of answer) t.armed = armed_by (IsHeld s.book uid dest) (IsHeld s.book uid dest) s.armed t.armed answer (λ y. y) h.1 in
    let would : ArmedBy (IsHeld (w.books name) uid dest) s.armed (store_outcome_of answer) t.armed = subst (λ (b : Book). ArmedBy (IsHeld b uid dest) s.armed (store_outcome_of answer) t.armed) at.0 by in
    let a = armed_after (IsHeld (w.books name) uid dest) w.armed name (store_outcome_of answer) s.armed t.armed at.1 would in
    record {
      after = with_armed (with_book w name t.book) a.0;
      step = (
        node,
        record {
          book = t.book;
          call = subst (λ (b : Book). Drops uid dest w.time b answer t.book) at.0 h.0;
          called = record { armed = a.0; store = a.1; is = refl };
        },
      );
      desk_is = (sym (book_here w.books name t.book), a.2);
      only = record {
        books = λ other apart. book_there w.books name t.book other apart;
        armed = a.3;
        links = refl;
        rest = (refl, refl, refl);
      };
    }

pub forgetting_is_forget : ForgettingIsForget
forgetting_is_forget plan w name uid s t answer node none at h =
    let over : Book → Type 0 = λ b. IsOver b uid in
    let came = store_outcome_of answer in
    let by : ArmedBy (over s.book) s.armed came t.armed =
    armed_by (over s.book) (over s.book) s.armed t.armed answer (λ y. y) h.1 in
    let would : ArmedBy (over (w.books name)) s.armed came t.armed =
    subst (λ (b : Book). ArmedBy (over b) s.armed came t.armed) at.0 by in
    let a = armed_after (over (w.books name)) w.armed name came s.armed t.armed at.1 would in
    record {
      after = with_armed (with_book w name t.book) a.0;
      step = (
        node,
        none,
        record {
          book = t.book;
          call = subst (λ (b : Book). Forgets uid b answer t.book) at.0 h.0;
          called = record { armed = a.0; store = a.1; is = refl };
        },
      );
      desk_is = (sym (book_here w.books name t.book), a.2);
      only = record {
        books = λ other apart. book_there w.books name t.book other apart;
        armed = a.3;
        links = refl;
        rest = (refl, refl, refl);
      };
    }

pub refusing_is_refuse : RefusingIsRefuse
refusing_is_refuse plan w name s node at = record {
  after = with_armed w (set.insert w.armed name);
  step = (node, refl);
  desk_is = (at.0, sym (contains_new texts w.armed name));
  only = record {
    books = λ other apart. refl;
    armed = λ other apart. set.contains-insert texts.total w.armed name other ∙ ap (λ (b : Bool). b || set.contains w.armed other) apart;
    links = refl;
    rest = (refl, refl, refl);
  };
}

pub time_passes : TimePasses
time_passes plan w ms = (passed w ms, refl, refl, λ name s at. at, refl, refl, refl)

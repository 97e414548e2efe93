-- How a session ended, and what comes back from the places of seats: for `run` and `serve`.
use Rattle.std.specs.Prelude.{true, ◌<◌, ◌≡◌, ◌+◌, ◌++◌, ◌⊎◌, ℕ, List, drop, length, map, [], ◌∷◌, Result, Ok, Err, IfOk, IfErr, OnErr, refl}
use Rattle.std.specs.List.{AllZip}
use Rattle.std.proofs.Common.{arith, ap, suc, zero, subst, sym, ◌∙◌, inl, inr}
use Rattle.std.proofs.lemmas.Bool.{cases_lt}
use Rattle.std.proofs.lemmas.List.{drop-append-le, drop_all, length_push, map-append}
use Rattle.mgn_session.specs.Conversation.{ConversationView}
use Rattle.mgn_session.specs.Session.{HasAnswered, HasStopped, HasTooMuch, Step}
use Rattle.mgn_session.specs.declared.fault.SessionFault.{SessionFault}
use Rattle.mgn_session.specs.declared.fault.SessionFault.TheVariants as session
use Rattle.mgn_server.specs.declared.report.ConnectionFault.{ConnectionFault}
use Rattle.mgn_server.specs.declared.report.ConnectionFault.TheVariants as connection
use Rattle.mgn_server.specs.Served.{Closes, Ends, HasServed, Serves}
use Rattle.mgn_server.specs.Places.{Accepts, AreLeft, GivesBack, IsPlaceOf, Refuses, TurnsAway}
use Rattle.mgn_server.specs.declared.server.Door.{Door}
use Rattle.mgn_server.specs.declared.place.Place.{Place}
use Rattle.mgn_server.specs.declared.place.Place.TheVariants.{Taken, Free}

-- no line was answered
pub unserved : {X : Type 0} (step : Step X) (x : X) → HasServed step x x
unserved step x = record {
  input = [];
  text = [];
  count = 0;
  session = record {
    lines = [];
    rest = [];
    replies = [];
    splits = record { whole = refl; each = refl; partial = refl };
    count_is = refl;
    answered = refl;
    text_is = refl;
  };
}

stopped : {X : Type 0} (step : Step X) (before after : ConversationView) (old new : X)
    → HasStopped step before after old new → HasServed step old new
stopped step before after old new h = record { input = h.input; text = h.text; count = h.count; session = h.session }

pub ends : {X : Type 0} (step : Step X) (before after : ConversationView) (old new : X) (result : Result ℕ SessionFault)
    → IfOk result (λ n. HasAnswered step before after old new n)
    → OnErr result (HasStopped step before after old new)
    → IfErr result (λ fault. fault ≡ session.Lines → HasTooMuch step before after old new)
    → Ends step old new result
ends step before after old new (Ok n) ok err many =
    (record { input = ok.all.input; text = ok.all.text; count = n; session = ok.all.session }, refl, ok.lines)
ends step before after old new (Err session.Lines) ok err many =
    let h = many refl in (record { input = h.input; text = h.text; count = h.count; session = h.session }, h.bound)
ends step before after old new (Err session.Read) ok err many = stopped step before after old new err
ends step before after old new (Err session.Write) ok err many = stopped step before after old new err
ends step before after old new (Err session.Memory) ok err many = stopped step before after old new err

-- however it ended
served : {X : Type 0} (step : Step X) (old new : X) (result : Result ℕ SessionFault) → Ends step old new result → HasServed step old new
served step old new (Ok n) h = h.0
served step old new (Err session.Lines) h = h.0
served step old new (Err session.Read) h = h
served step old new (Err session.Write) h = h
served step old new (Err session.Memory) h = h

-- however its connection was closed
pub closed : {X : Type 0} (step : Step X) (old new : X) (result : Result ℕ ConnectionFault) → Closes step old new result → HasServed step old new
closed step old new (Ok lines) h = served step old new (Ok lines) h
closed step old new (Err (connection.Session fault)) h = served step old new (Err fault) h
closed step old new (Err connection.NoThread) h = rw h (unserved step old)
closed step old new (Err connection.NoSeat) h = rw h (unserved step old)

-- what comes back from the place of a seat
comes_back : {E S : Type 0} (step : Step (E × S)) (seat : E × S) (place : Place E S) (exec : E)
    → IsPlaceOf step seat place → GivesBack step place exec → Serves step seat exec
comes_back step seat (Taken handle) exec is gives =
    let P : _ → Type 0 = λ x. Serves step x exec in subst P is gives
comes_back step seat (Free left) exec is gives =
    let P : _ → Type 0 = λ e. HasServed step seat (e, left.1) in (left.1, subst P (sym gives) is)

pub all_come_back : {E S : Type 0} (step : Step (E × S)) (seats : List (E × S)) (places : List (Place E S)) (execs : List E)
    → AllZip (IsPlaceOf step) seats places → AllZip (GivesBack step) places execs → AllZip (Serves step) seats execs
all_come_back step [] [] [] are give = give
all_come_back step (seat ∷ seats) (place ∷ places) (exec ∷ execs) are give =
    (comes_back step seat place exec are.0 give.0, all_come_back step seats places execs are.1 give.1)
all_come_back step [] [] (exec ∷ execs) are give = absurd give
all_come_back step [] (place ∷ places) execs are give = absurd are
all_come_back step (seat ∷ seats) [] execs are give = absurd are
all_come_back step (seat ∷ seats) (place ∷ places) [] are give = absurd give

none_left : {E S : Type 0} (seats : List (E × S)) (places : List (Place E S)) (accepted : ℕ)
    → length places ≡ length seats → accepted ≡ length seats → AreLeft seats places accepted
none_left seats places accepted long is = record {
  within = omega (arith, is);
  free = drop_all accepted places (omega (arith, long, is))
      ∙ sym (ap (λ xs. map (λ seat. Free seat) xs) (drop_all accepted seats (omega (arith, is))));
}

one_left : {E S : Type 0} (seats : List (E × S)) (places : List (Place E S)) (accepted : ℕ) (seat : E × S)
    → length places ≡ length seats → AreLeft seats places accepted → AreLeft (seats ++ seat ∷ []) (places ++ Free seat ∷ []) accepted
one_left seats places accepted seat long left =
    let before = drop-append-le accepted places (Free seat ∷ []) (omega (arith, long, left.within)) in
    let after = drop-append-le accepted seats (seat ∷ []) left.within in record {
      within = omega (arith, left.within, length_push seats seat);
      free = before ∙ ap (λ xs. xs ++ Free seat ∷ []) left.free
          ∙ sym (ap (λ xs. map (λ seat. Free seat) xs) after ∙ map-append (λ seat. Free seat) (drop accepted seats) (seat ∷ []));
    }

-- one seat more has its place
pub goes_on : {E S : Type 0} (old new : Door) (seats : List (E × S)) (places : List (Place E S)) (seat : E × S) (place : Place E S)
    (number : ℕ) → length places ≡ length seats → number ≡ length seats + 1
    → Accepts old new number ⊎ (Refuses old new × (place ≡ Free seat))
    → AreLeft seats places old.accepted → AreLeft (seats ++ seat ∷ []) (places ++ place ∷ []) new.accepted
goes_on old new seats places seat place number long is (inl came) left =
    none_left (seats ++ seat ∷ []) (places ++ place ∷ []) new.accepted
    (omega (arith, long, length_push seats seat, length_push places place))
    (omega (arith, came.accepted, is, length_push seats seat))
goes_on old new seats places seat place number long is (inr none) left =
    rw (none.0.accepted, none.1) (one_left seats places old.accepted seat long left)

-- where fewer connections were accepted than there are seats with a place, no more will be
pub shut_since : {E S : Type 0} (old new : Door) (seats : List (E × S)) (seat : E × S) (place : Place E S) (number : ℕ)
    → number ≡ length seats + 1 → Accepts old new number ⊎ (Refuses old new × (place ≡ Free seat))
    → new.accepted < length (seats ++ seat ∷ []) → new.has_failed ≡ true
shut_since old new seats seat place number is (inl came) few =
    absurd (omega (arith, few, came.accepted, is, length_push seats seat))
shut_since old new seats seat place number is (inr none) few = none.0.is_shut

given_back : {E S : Type 0} (step : Step (E × S)) (seats : List (E × S)) (execs : List E)
    → AllZip (GivesBack step) (map (λ seat. Free seat) seats) execs → execs ≡ map (λ seat. seat.0) seats
given_back step [] [] give = refl
given_back step (seat ∷ seats) (exec ∷ execs) give =
    ap (λ e. e ∷ execs) give.0 ∙ ap (λ es. seat.0 ∷ es) (given_back step seats execs give.1)
given_back step [] (exec ∷ execs) give = absurd give
given_back step (seat ∷ seats) [] give = absurd give

drop_zip : {A B : Type 0} (R : A → B → Type 0) (n : ℕ) (xs : List A) (ys : List B) → AllZip R xs ys → AllZip R (drop n xs) (drop n ys)
drop_zip R zero xs ys all = all
drop_zip R (suc n) [] [] all = all
drop_zip R (suc n) (x ∷ xs) (y ∷ ys) all = drop_zip R n xs ys all.1
drop_zip R (suc n) [] (y ∷ ys) all = absurd all
drop_zip R (suc n) (x ∷ xs) [] all = absurd all

-- the executors of the seats that are left are as they were
pub left_as_they_were : {E S : Type 0} (step : Step (E × S)) (seats : List (E × S)) (places : List (Place E S)) (execs : List E) (accepted : ℕ)
    → AreLeft seats places accepted → AllZip (GivesBack step) places execs
    → drop accepted execs ≡ map (λ seat. seat.0) (drop accepted seats)
left_as_they_were step seats places execs accepted left give =
    let P : _ → Type 0 = λ ps. AllZip (GivesBack step) ps (drop accepted execs) in
    given_back step (drop accepted seats) (drop accepted execs) (subst P left.free (drop_zip (GivesBack step) accepted places execs give))

-- where further connections were turned away they came after those of all seats
pub left_after : {E S : Type 0} (seats : List (E × S)) (execs : List E) (old new : Door) (more : ℕ)
    → length execs ≡ length seats → (old.accepted < length seats → old.has_failed ≡ true) → TurnsAway old new more
    → drop old.accepted execs ≡ map (λ seat. seat.0) (drop old.accepted seats)
    → drop new.accepted execs ≡ map (λ seat. seat.0) (drop new.accepted seats)
left_after seats execs old new more long shut turned left = elim (cases_lt old.accepted (length seats)) [
  | inl few ↦ rw (turned.shut (shut few)) left
  | inr all ↦ drop_all new.accepted execs (omega (arith, long, all, turned.kept))
      ∙ sym (ap (λ xs. map (λ seat. seat.0) xs) (drop_all new.accepted seats (omega (arith, all, turned.kept))))
]

-- A book with one more entry, as its commits leave it.
use Rattle.std.proofs.Common.{eqb, get_or, ◌≡◌, ◌+◌, ◌<◌, ℕ, Bool, true, false, cond, suc, List, length, length-append, arith, [], ◌∷◌, ◌++◌, sym, ap, ◌∙◌, subst, ◌≤◌, ◌-◌, ◌⊎◌, ◌≢◌, inl, inr}
use Rattle.std.specs.Prelude.{◌==◌, slice_set as set'}
use Rattle.std.proofs.lemmas.List.{get_or-set_same, get_or-set_other, length-set}
use Rattle.std.proofs.lemmas.Bool.Decides.{eqb_tells}
use Rattle.mgn_params.specs.Shelves.{set_at}
use Rattle.mgn_params.specs.Tables.{Tables}
use Rattle.mgn_machine.specs.declared.entry.Entry.{Entry}
use Rattle.mgn_machine.specs.declared.reply.Reply.{Reply}
use Rattle.mgn_machine.specs.declared.request.Request.TheVariants.{Switch}
use Rattle.mgn_machine.specs.declared.request.Request.{Request}
use Rattle.mgn_machine.specs.State.{State, start}
use Rattle.mgn_machine.specs.Step.{step}
use Rattle.mgn_machine.specs.History.{Legal, replay, calls, entry, next, recorded, request_of}
use Rattle.mgn_machine.proofs.Histories.{calls-push, replay-push, legal_from-push, legal-more, replay-more}
use Rattle.mgn_register.specs.BookStates.{BookState, IsKept}
use Rattle.mgn_book.specs.BookViews.{AreCounts, BookView, IsBook, Stands, sets_after}
use Rattle.mgn_book.specs.Switches.{IsSwitched}
use Rattle.mgn_book.proofs.Begun.{begins_after}

-- where no set comes into force
pub stands-next : (sets : List Tables) (old : BookView) (f : BookState) (session number : ℕ) (request : Request) (reply : Reply) (items : List Entry)
    → Stands sets old → (f.state, reply) ≡ step sets old.book.state request → request_of sets (recorded request reply) ≡ request → f.state.version ≡ old.book.state.version → number ≡ calls session old.history + 1
    → IsKept (set_at sets old.book.state.version) f → length old.history < 1000000 → items ≡ old.history ++ entry session number (recorded request reply) reply ∷ [] → Stands sets record { book = f; history = items }
stands-next sets old f session number request reply items stands stepped asked same count kept few pushed =
    subst (λ (h : List Entry). Stands sets record { book = f; history = h }) (sym pushed) record {
      legal = legal_from-push sets [] old.history e stands.legal record {
        shown = subst (λ (s : State). s.version < length sets) stands.state (omega (arith, stands.shown));
        after = subst (λ (x : State × Reply). x.0.version < length sets) (said ∙ again) (omega (arith, stands.shown, same));
        request = ap (λ (r : Request). recorded r reply) (sym asked);
        reply = ap (λ x. x.1) (said ∙ again);
        number = count;
      };
      state = ap (λ x. x.0) (said ∙ again) ∙ sym (replay-push sets start old.history e);
      shown = omega (arith, stands.shown, same);
      kept = subst (λ (v : ℕ). IsKept (set_at sets v) f) (sym same) kept;
      few = omega (arith, length-append old.history (e ∷ []));
    }
  where
    e : Entry
    e = entry session number (recorded request reply) reply

    said : (f.state, reply) ≡ step sets (replay sets old.history) request
    said = stepped ∙ ap (λ (s : State). step sets s request) stands.state

    again : step sets (replay sets old.history) request ≡ next sets (replay sets old.history) e
    again = ap (λ (r : Request). step sets (replay sets old.history) r) (sym asked)

-- the day so far under the sets as they are then
stands-before : (sets now : List Tables) (old : BookView) (t : Tables) (reply : Reply) → Stands sets old → now ≡ sets_after sets (Switch t) reply → Legal now old.history × (replay now old.history ≡ old.book.state) × (length sets ≤ length now)
stands-before sets now old t reply stands put =
    let more = begins_after sets (Switch t) reply in
    rw (put ∙ more.1) (legal-more sets more.0 old.history stands.legal, replay-more sets more.0 old.history stands.legal ∙ sym stands.state, omega (arith, length-append sets more.0))

-- where a set comes into force or is refused
pub stands-switched : (sets now : List Tables) (old : BookView) (f : BookState) (session number : ℕ) (t : Tables) (reply : Reply) (items : List Entry)
    → Stands sets old → IsSwitched sets now old.book f t reply → number ≡ calls session old.history + 1 → length old.history < 1000000
    → items ≡ old.history ++ entry session number (recorded (Switch t) reply) reply ∷ [] → Stands now record { book = f; history = items }
stands-switched sets now old f session number t reply items stands switched count few pushed =
    subst (λ (h : List Entry). Stands now record { book = f; history = h }) (sym pushed) record {
      legal = legal_from-push now [] old.history e before.0 record {
        shown = subst (λ (s : State). s.version < length now) (sym before.1) (omega (arith, stands.shown, before.2));
        after = subst (λ (x : State × Reply). x.0.version < length now) (said ∙ again) (omega (arith, switched.shown));
        request = ap (λ (r : Request). recorded r reply) (sym switched.asked);
        reply = ap (λ x. x.1) (said ∙ again);
        number = count;
      };
      state = ap (λ x. x.0) (said ∙ again) ∙ sym (replay-push now start old.history e);
      shown = switched.shown;
      kept = switched.kept;
      few = omega (arith, few, length-append old.history (e ∷ []));
    }
  where
    e : Entry
    e = entry session number (recorded (Switch t) reply) reply

    before : Legal now old.history × (replay now old.history ≡ old.book.state) × (length sets ≤ length now)
    before = stands-before sets now old t reply stands switched.put

    said : (f.state, reply) ≡ step now (replay now old.history) (Switch t)
    said = switched.stepped ∙ ap (λ (s : State). step now s (Switch t)) (sym before.1)

    again : step now (replay now old.history) (Switch t) ≡ next now (replay now old.history) e
    again = ap (λ (r : Request). step now (replay now old.history) r) (sym switched.asked)

-- The counts with one more entry.
pub counts-next : (counts : List ℕ) (history items : List Entry) (e : Entry) → AreCounts counts history → length counts ≡ 16 → 1 ≤ e.session → e.session ≤ 16 → e.number ≡ calls e.session history + 1 → items ≡ history ++ e ∷ [] → AreCounts (set' counts (e.session - 1) e.number) items
counts-next counts history items e are long low high number pushed s few =
    subst (λ (h : List Entry). get_or (set' counts (e.session - 1) e.number) s 0 ≡ calls (s + 1) h) (sym pushed) (told (eqb_tells e.session (s + 1)) ∙ sym (calls-push (s + 1) history e))
  where
    told : ((eqb e.session (s + 1) ≡ true) × (e.session ≡ s + 1)) ⊎ ((eqb e.session (s + 1) ≡ false) × (e.session ≢ s + 1))
        → get_or (set' counts (e.session - 1) e.number) s 0 ≡ cond (e.session == s + 1) (suc (calls (s + 1) history)) (calls (s + 1) history)
    told (inl own) =
        let at : s ≡ e.session - 1 = omega (arith, own.1) in
        let here : e.session - 1 < length counts = omega (arith, own.1, long, few) in
        let more : e.number ≡ suc (calls (s + 1) history) = omega (arith, number, ap (λ (n : ℕ). calls n history) own.1) in
        ap (λ (k : ℕ). get_or (set' counts (e.session - 1) e.number) k 0) at ∙ get_or-set_same counts (e.session - 1) e.number 0 here ∙ more ∙ sym (ap (λ (b : Bool). cond b (suc (calls (s + 1) history)) (calls (s + 1) history)) own.0)
    told (inr other) =
        let apart : s ≢ e.session - 1 = λ same. other.1 (omega (arith, same, low)) in
        get_or-set_other counts (e.session - 1) s e.number 0 apart ∙ are s few ∙ sym (ap (λ (b : Bool). cond b (suc (calls (s + 1) history)) (calls (s + 1) history)) other.0)

pub is_book-next : (counts : List ℕ) (sets : List Tables) (old : BookView) (f : BookState) (e : Entry) (items : List Entry) → AreCounts counts old.history → length counts ≡ 16 → 1 ≤ e.session → e.session ≤ 16 → e.number ≡ calls e.session old.history + 1 → items ≡ old.history ++ e ∷ [] → Stands sets record { book = f; history = items } → IsBook record { book = f; history = items } (set' counts (e.session - 1) e.number)
is_book-next counts sets old f e items are long low high number pushed stands = record {
  sets = sets;
  stands = stands;
  long = length-set counts (e.session - 1) e.number ∙ long;
  counts_are = counts-next counts old.history items e are long low high number pushed;
}

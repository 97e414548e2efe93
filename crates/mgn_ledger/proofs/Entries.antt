-- The ledger with one entry more, as `enter` and `enter_switch` leave it.
use Rattle.std.specs.Prelude.{slice_index_or}
use Rattle.std.proofs.Common.{Result, Ok, Err, ◌≡◌, ℕ, ◌+◌, ◌<◌, ◌≤◌, ◌∙◌, Bool, List, [], ◌∷◌, ◌++◌, length, take, sym, ap, subst, arith, ⊎_elim, length-append}
use Rattle.std.proofs.lemmas.List.{take-append-le, take_all, get_or_append_left, get_or_push}
use Rattle.std.proofs.lemmas.Bool.{cases_lt}
use Rattle.mgn_params.specs.Shelves.{set_at}
use Rattle.mgn_params.specs.Tables.{Tables}
use Rattle.mgn_machine.specs.declared.command.Command.{Command}
use Rattle.mgn_machine.specs.declared.entry.Entry.{Entry}
use Rattle.mgn_machine.specs.declared.reply.Reply.{Reply}
use Rattle.mgn_machine.specs.declared.request.Request.{Request}
use Rattle.mgn_machine.specs.declared.request.Request.TheVariants.{Do, Switch}
use Rattle.mgn_machine.specs.declared.reply.Refusal.{Refusal}
use Rattle.mgn_machine.specs.NewSet.{on_call, set_fits}
use Rattle.mgn_machine.specs.History.{entry, recorded}
use Rattle.mgn_machine.specs.State.{State}
use Rattle.mgn_machine.specs.Step.{step, switched}
use Rattle.mgn_machine.proofs.Versions.{keeps_version}
use Rattle.mgn_unit.specs.Rows.{nets_in}
use Rattle.mgn_plan.specs.declared.plans.Plan.{Plan}
use Rattle.mgn_plan.specs.Plans.{LeavesNets, row_at}
use Rattle.mgn_book.specs.BookViews.{Begins, BookView, Committed, KeepsRows, Stands, sets_after}
use Rattle.mgn_book.specs.declared.book.Outcome.TheVariants.{Done}
use Rattle.mgn_book.proofs.Begun.{begins_after, begins_itself, kept_so}
use Rattle.mgn_day.specs.Changes.{AreRenewed, AreSwitched, AreUnchangedSince, Leads, settled}
use Rattle.mgn_day.specs.Days.{Day, set_of, version_of}
use Rattle.mgn_ledger.specs.Ledgers.{AreStamped, GoesOn, IsBefore, IsLedger}
use Rattle.mgn_day.proofs.PlaceFacts.{unchanged-at-last, unchanged-push, unchanged-still}
use Rattle.mgn_ledger.proofs.Seen.{begins-further, begins-itself}

-- a commit that is done
pub goes_on : (sets now : List Tables) (old new : BookView) (session number : ℕ) (request : Request) (place : ℕ) (reply : Reply)
    → Stands sets old → Committed now old session number request (Done place reply) new → now ≡ sets_after sets request reply → Stands now new
    → GoesOn record { sets = sets; book = old } session number request place reply record { sets = now; book = new }
goes_on sets now old new session number request place reply before done put stands = record {
  sets = subst (λ (l : List Tables). Begins sets l) (sym put) (begins_after sets request reply);
  history = done.2;
  ends = done.0;
  stands = stands;
  asked = (kept_so sets now now old.book.state new.book.state request reply before.shown done.1).kept (subst (λ (l : List Tables). Begins l now) put (begins_itself now));
}

-- its stamp among the others
stamped-push : {T : Type 0} (shown : T → Day) (stamps : List T) (t : T) (old new : Day) (session number : ℕ) (request : Request) (place : ℕ) (reply : Reply) → AreStamped shown stamps old → GoesOn old session number request place reply new
    → shown t ≡ new → AreStamped shown (stamps ++ t ∷ []) new
stamped-push shown stamps t old new session number request place reply stamped on same =
    let e : Entry = entry session number (recorded request reply) reply in
    let h = old.book.history in
    let size = length-append h (e ∷ []) in
    record {
      long = omega (arith, length-append stamps (t ∷ []), ap length on.history, size, stamped.long);
      at = λ k d small. ⊎_elim
          (λ (earlier : k < length stamps).
          let here = get_or_append_left stamps (t ∷ []) d k earlier in
          let before = stamped.at k d earlier in
          let within : k + 1 ≤ length h = omega (arith, stamped.long, earlier) in
          subst (λ (u : _). IsBefore (k + 1) (shown u) new) (sym here) record {
            sets = begins-further _ old.sets new.sets before.sets on.sets;
            history = before.history ∙ sym (ap (take (k + 1)) on.history ∙ take-append-le (k + 1) h (e ∷ []) within);
            stands = before.stands;
          })
          (λ (last : length stamps ≤ k).
          let is : length stamps ≡ k = omega (arith, length-append stamps (t ∷ []), small, last) in
          let here = get_or_push stamps t d k is in
          let whole : length new.book.history ≤ k + 1 = omega (arith, ap length on.history, size, stamped.long, is) in
          subst (λ (u : _). IsBefore (k + 1) (shown u) new) (sym here) (subst (λ (x : Day). IsBefore (k + 1) x new) (sym same) record {
            sets = begins-itself new.sets;
            history = sym (take_all (k + 1) new.book.history whole);
            stands = on.stands;
          }))
          (cases_lt k (length stamps));
    }

-- the ledger after a command
pub ledger-push : {T : Type 0} (shown : T → Day) (stamps now : List T) (t : T) (places renewed : List ℕ) (room space : ℕ) (broken : Bool) (old new : Day) (session number : ℕ) (command : Command) (place : ℕ) (plan : Plan) (reply : Reply) → IsLedger shown stamps places room broken old → GoesOn old session number (Do command) place reply new
    → now ≡ stamps ++ t ∷ [] → shown t ≡ new → space ≡ room → AreRenewed (settled plan reply) (length new.book.book.rows) (length stamps + 1) places renewed → Leads shown old plan reply t → IsLedger shown now renewed space broken new
ledger-push shown stamps now t places renewed room space broken old new session number command place plan reply ledger on pushed same roomy renew leads = record {
  stands = on.stands;
  roomy = omega (arith, ledger.roomy, roomy);
  stamped = λ sound. subst (λ l. AreStamped shown l new) (sym pushed) (stamped-push shown stamps t old new session number (Do command) place reply (ledger.stamped sound) on same);
  places_are = λ sound. unchanged-push shown stamps now places renewed t old new plan reply (ledger.places_are sound) renew pushed same leads;
}

-- a command keeps the version
kept-version : (sets : List Tables) (s now : State) (command : Command) (reply : Reply) → (now, reply) ≡ step sets s (Do command) → now.version ≡ s.version
kept-version sets s now command reply made = ap (λ (p : State × Reply). p.0.version) made ∙ keeps_version (set_at sets s.version) s command

-- what a command leads to
pub leads : {T : Type 0} (shown : T → Day) (t : T) (sets now : List Tables) (old new : BookView) (session number : ℕ) (command : Command) (place : ℕ) (plan : Plan) (reply : Reply) → now ≡ sets → Committed now old session number (Do command) (Done place reply) new
    → LeavesNets (set_at now old.book.state.version) plan reply old.book.rows new.book.rows → shown t ≡ record { sets = now; book = new } → Leads shown record { sets = sets; book = old } plan reply t
leads shown t sets now old new session number command place plan reply is done rows same =
    let version : new.book.state.version ≡ old.book.state.version = kept-version now old.book.state new.book.state command reply done.1 in
    record {
      version = ap version_of same ∙ version;
      set_is = ap set_of same ∙ ap (λ (v : ℕ). set_at now v) version ∙ ap (λ (l : List Tables). set_at l old.book.state.version) is;
      nets = subst (λ (l : List Tables). LeavesNets (set_at l old.book.state.version) plan reply old.book.rows (shown t).book.book.rows) is
          (subst (λ (d : Day). LeavesNets (set_at now old.book.state.version) plan reply old.book.rows d.book.book.rows) (sym same) rows);
    }

-- The ledger after a switch.

-- the units after a switch: under a set that came into force all have their nets since its entry
switched-units : {T : Type 0} (shown : T → Day) (stamps now : List T) (places filled : List ℕ) (t : T) (old new : Day) (set' : Tables) (calls : ℕ) (r : Result (Unit {0}) Refusal) (reply : Reply) → AreUnchangedSince shown stamps places old
    → (new.book.book.state, reply) ≡ switched old.book.book.state calls r → KeepsRows old.book.book.rows reply new.book.book.rows → new.sets ≡ sets_after old.sets (Switch set') reply
    → AreSwitched reply (length stamps + 1) places filled → now ≡ stamps ++ t ∷ [] → shown t ≡ new → AreUnchangedSince shown now filled new
switched-units shown stamps now places filled t old new set' calls (Ok done) reply are made rows put fill pushed same =
    let said = ap (λ (p : State × Reply). p.1) made in
    let long : length new.book.book.rows ≡ length old.book.book.rows = rw said at rows in
    let all = rw said at fill in
    record {
      long = omega (arith, are.long, long, all.0);
      each = λ u small. unchanged-at-last shown stamps now t new u (slice_index_or filled u 0) (all.1 u (omega (arith, small, all.0))) pushed same;
    }
switched-units shown stamps now places filled t old new set' calls (Err why) reply are made rows put fill pushed same =
    let said = ap (λ (p : State × Reply). p.1) made in
    let version : version_of new ≡ version_of old = ap (λ (p : State × Reply). p.0.version) made in
    let rows_same : new.book.book.rows ≡ old.book.book.rows = rw said at rows in
    let sets_same : new.sets ≡ old.sets = rw said at put in
    let places_same : filled ≡ places = rw said at fill in
    let set_same : set_of new ≡ set_of old = λ j. set_at (sets_same j) (version j) in
    subst (λ (l : List ℕ). AreUnchangedSince shown now l new) (sym places_same) record {
      long = omega (arith, are.long, ap length rows_same);
      each = λ u small. unchanged-still shown stamps now (slice_index_or places u 0) t u old new (are.each u small) pushed version set_same (λ j. nets_in (row_at (set_same j) (rows_same j) u));
    }

pub ledger-switched : {T : Type 0} (shown : T → Day) (stamps now : List T) (t : T) (places filled : List ℕ) (room space : ℕ) (broken : Bool) (old new : Day) (session number : ℕ) (set' : Tables) (place : ℕ) (reply : Reply) → IsLedger shown stamps places room broken old
    → GoesOn old session number (Switch set') place reply new → now ≡ stamps ++ t ∷ [] → shown t ≡ new → space ≡ room → AreSwitched reply (length stamps + 1) places filled
    → Committed new.sets old.book session number (Switch set') (Done place reply) new.book → KeepsRows old.book.book.rows reply new.book.book.rows → new.sets ≡ sets_after old.sets (Switch set') reply → IsLedger shown now filled space broken new
ledger-switched shown stamps now t places filled room space broken old new session number set' place reply ledger on pushed same roomy fill done rows put = record {
  stands = on.stands;
  roomy = omega (arith, ledger.roomy, roomy);
  stamped = λ sound. subst (λ l. AreStamped shown l new) (sym pushed) (stamped-push shown stamps t old new session number (Switch set') place reply (ledger.stamped sound) on same);
  places_are = λ sound. switched-units shown stamps now places filled t old new set' (on_call set' old.book.book.state.accounts old.book.book.state.units) (set_fits set' old.book.book.state) reply (ledger.places_are sound) done.1 rows put fill pushed same;
}

-- A commit in a book of one session, as `Plain` makes it.
use Rattle.std.proofs.Common.{◌≡◌, ◌+◌, ◌∙◌, ℕ, suc, List, [], ◌∷◌, ◌++◌, length, refl, sym, ap, arith, length-append, inl, inr}
use Rattle.mgn_params.specs.Tables.{Tables}
use Rattle.mgn_machine.specs.History.{calls, entry, item, items_of, recorded}
use Rattle.mgn_machine.proofs.Histories.{calls-push}
use Rattle.mgn_machine.proofs.Items.{items_of-push}
use Rattle.mgn_machine.specs.declared.command.Command.{Command}
use Rattle.mgn_machine.specs.declared.entry.Entry.{Entry}
use Rattle.mgn_machine.specs.declared.reply.Refusal.{Refusal}
use Rattle.mgn_machine.specs.declared.reply.Refusal.TheVariants.{Full as NoRoomLeft, Memory as NoMemory}
use Rattle.mgn_machine.specs.declared.reply.Reply.{Reply}
use Rattle.mgn_machine.specs.declared.reply.Reply.TheVariants.{Refused}
use Rattle.mgn_machine.specs.declared.request.Recorded.{Recorded}
use Rattle.mgn_machine.specs.declared.request.Request.{Request}
use Rattle.mgn_machine.specs.declared.request.Request.TheVariants.{Do, Switch}
use Rattle.mgn_book.specs.BookViews.{Committed, BookView, Shelves, Stands, sets_after}
use Rattle.mgn_book.specs.declared.book.Outcome.{Outcome}
use Rattle.mgn_book.specs.declared.book.Outcome.TheVariants.{Done, Full, Memory}
use Rattle.mgn_session.specs.Session.{AddsAt, Calls}
use Rattle.mgn_script.specs.Plain.{Commits, CommitsAt, IsScriptView, ScriptView, answer_of}

calls_more : (history : List Entry) (number : ℕ) (request : Recorded) (reply : Reply)
    → calls 1 (history ++ entry 1 number request reply ∷ []) ≡ calls 1 history + 1
calls_more history number request reply =
    let more : suc (calls 1 history) ≡ calls 1 history + 1 = omega arith in
    calls-push 1 history (entry 1 number request reply) ∙ more

-- what a commit adds to the items
adds : (sets : List Tables) (old new : BookView) (number : ℕ) (request : Request) (outcome : Outcome)
    → Committed sets old 1 number request outcome new
    → AddsAt (length new.history ≡ 1000000) ⊥ (answer_of outcome).place request (answer_of outcome).reply (items_of 1 old.history) (items_of 1 new.history)
adds sets old new number request (Done place reply) done =
    let e : Entry = entry 1 number (recorded request reply) reply in
    let size : length new.history ≡ length old.history + 1 = ap length done.2 ∙ omega (arith, length-append old.history (e ∷ [])) in
    ap (items_of 1) done.2
    ∙ items_of-push 1 old.history e refl
    ∙ ap (λ (n : ℕ). items_of 1 old.history ++ item n (recorded request reply) reply ∷ []) (sym (done.0 ∙ size))
adds sets old new number request Full none =
    (ap (λ (day : BookView). items_of 1 day.history) none.0, inr (inl (refl, ap (λ (day : BookView). length day.history) none.0 ∙ none.1)))
adds sets old new number request Memory none =
    (ap (λ (day : BookView). items_of 1 day.history) none.0, inl refl)

-- the numbers of the only session are the places
commits : (sets : List Tables) (old new : BookView) (number : ℕ) (request : Request) (outcome : Outcome)
    → number ≡ length old.history + 1 → Committed sets old 1 number request outcome new
    → CommitsAt sets old request (answer_of outcome).place (answer_of outcome).reply new
commits sets old new number request (Done place reply) next done =
    let size : length new.history ≡ length old.history + 1 = ap length done.2 ∙ omega (arith, length-append old.history (entry 1 number (recorded request reply) reply ∷ [])) in
    let same : number ≡ place = next ∙ sym (done.0 ∙ size) in
    (done.0 ∙ size, done.1, rw same at done.2)
commits sets old new number request Full next none = (none.0, inr (inl (refl, none.1)))
commits sets old new number request Memory next none = (none.0, inl refl)

-- a refusal puts no set
pub refused_sets : (sets : List Tables) (request : Request) (why : Refusal) → sets_after sets request (Refused why) ≡ sets
refused_sets sets (Do command) why = refl
refused_sets sets (Switch t) why = refl

sets_put : (sets now : List Tables) (request : Request) (outcome : Outcome) → Shelves sets request outcome now → now ≡ sets_after sets request (answer_of outcome).reply
sets_put sets now request (Done place reply) put = put
sets_put sets now request Full put = put ∙ sym (refused_sets sets request NoRoomLeft)
sets_put sets now request Memory put = put ∙ sym (refused_sets sets request NoMemory)

pub called : (sets now : List Tables) (old new : BookView) (number : ℕ) (request : Request) (outcome : Outcome)
    → number ≡ length old.history + 1 → Committed now old 1 number request outcome new → Shelves sets request outcome now
    → Calls (λ (plain : ScriptView). items_of 1 plain.day.history) (λ (plain : ScriptView). length plain.day.history ≡ 1000000) (λ plain. ⊥) Commits
    record { sets = sets; day = old } request (answer_of outcome) record { sets = now; day = new }
called sets now old new number request outcome place committed put =
    (adds now old new number request outcome committed, (sets_put sets now request outcome put, commits now old new number request outcome place committed))

-- a command puts no set
pub no_set_put : (sets now : List Tables) (command : Command) (outcome : Outcome) → now ≡ sets → Shelves sets (Do command) outcome now
no_set_put sets now command (Done place reply) same = same
no_set_put sets now command Full same = same
no_set_put sets now command Memory same = same

all_ours : (sets : List Tables) (old new : BookView) (number : ℕ) (request : Request) (outcome : Outcome)
    → calls 1 old.history ≡ length old.history → Committed sets old 1 number request outcome new → calls 1 new.history ≡ length new.history
all_ours sets old new number request (Done place reply) all done =
    let counted = ap (calls 1) done.2 ∙ calls_more old.history number (recorded request reply) reply in
    omega (arith, counted, all, ap length done.2, length-append old.history (entry 1 number (recorded request reply) reply ∷ []))
all_ours sets old new number request Full all none = rw none.0 all
all_ours sets old new number request Memory all none = rw none.0 all

-- the session's numbers go on
pub still : (sets now : List Tables) (old new : BookView) (number : ℕ) (request : Request) (outcome : Outcome)
    → IsScriptView sets old → Committed now old 1 number request outcome new → Stands now new → IsScriptView now new
still sets now old new number request outcome view committed stands =
    record { stands = stands; all = all_ours now old new number request outcome view.all committed }

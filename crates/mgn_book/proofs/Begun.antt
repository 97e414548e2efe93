-- Sets that begin others: what a commit puts on the shelf, and how its request is found again.
use Rattle.std.proofs.Common.{◌≡◌, ◌+◌, ◌-◌, ◌∙◌, ◌<◌, ℕ, List, [], ◌∷◌, ◌++◌, length, Result, Ok, Err, refl, sym, ap, arith, append_assoc, length-append}
use Rattle.std.proofs.lemmas.List.{append-nil, get_or_append_left, get_or-append_right}
use Rattle.mgn_params.specs.Shelves.{set_at}
use Rattle.mgn_params.specs.Tables.{Tables, no_tables}
use Rattle.mgn_machine.specs.History.{recorded, request_of}
use Rattle.mgn_machine.specs.NewSet.{on_call, set_fits}
use Rattle.mgn_machine.specs.State.{State}
use Rattle.mgn_machine.specs.Step.{step, step_under, switched}
use Rattle.mgn_machine.specs.declared.reply.Refusal.{Refusal}
use Rattle.mgn_machine.specs.declared.reply.Reply.{Reply}
use Rattle.mgn_machine.specs.declared.reply.Reply.TheVariants.{Done, Figures, NewSet, Statement, Totals, Refused}
use Rattle.mgn_machine.specs.declared.request.Request.{Request}
use Rattle.mgn_machine.specs.declared.request.Request.TheVariants.{Do, Switch}
use Rattle.mgn_machine.proofs.Versions.{keeps_version}
use Rattle.mgn_book.specs.BookViews.{Begins, sets_after}

pub begins_itself : (sets : List Tables) → Begins sets sets
begins_itself sets = ([], sym (append-nil sets))

pub begins_before : (old now sets : List Tables) → Begins old now → Begins now sets → Begins old sets
begins_before old now sets first second =
    (first.0 ++ second.0, second.1 ∙ ap (λ (xs : List Tables). xs ++ second.0) first.1 ∙ append_assoc old first.0 second.0)

pub begins_after : (sets : List Tables) (request : Request) (reply : Reply) → Begins sets (sets_after sets request reply)
begins_after sets (Do command) reply = begins_itself sets
begins_after sets (Switch t) (NewSet told) = (t ∷ [], refl)
begins_after sets (Switch t) (Refused why) = begins_itself sets
begins_after sets (Switch t) Done = begins_itself sets
begins_after sets (Switch t) (Figures f) = begins_itself sets
begins_after sets (Switch t) (Totals totals) = begins_itself sets
begins_after sets (Switch t) (Statement told) = begins_itself sets

pub set_begun : (now sets : List Tables) (version : ℕ) → Begins now sets → version < length now → set_at sets version ≡ set_at now version
set_begun now sets version begins within = ap (λ (xs : List Tables). set_at xs version) begins.1 ∙ get_or_append_left now begins.0 (no_tables []) version within

pub step_begun : (now sets : List Tables) (s : State) (request : Request) → Begins now sets → s.version < length now → step now s request ≡ step sets s request
step_begun now sets s (Do command) begins within = ap (λ (t : Tables). step_under t s command) (sym (set_begun now sets s.version begins within))
step_begun now sets s (Switch t) begins within = refl

-- A step keeps one set more than the version, and its request is found again by how it is kept.

pub record IsKeptSo (old sets : List Tables) (now : State) (request : Request) (reply : Reply) : Type 0 where
  pub shown : length (sets_after old request reply) ≡ now.version + 1
  pub kept : Begins (sets_after old request reply) sets → request_of sets (recorded request reply) ≡ request

pub last_set : (old sets : List Tables) (t : Tables) (version : ℕ) → length old ≡ version → Begins (old ++ t ∷ []) sets → set_at sets version ≡ t
last_set old sets t version long begins =
    set_begun (old ++ t ∷ []) sets version begins (omega (arith, length-append old (t ∷ [])))
    ∙ get_or-append_right old (t ∷ []) version version (no_tables []) long (omega arith)
    ∙ ap (λ (k : ℕ). set_at (t ∷ []) k) (none version)
  where
    none : (n : ℕ) → n - n ≡ 0
    none n = omega arith

kept_switch : (old sets : List Tables) (s now : State) (t : Tables) (calls : ℕ) (r : Result (Unit {0}) Refusal) (reply : Reply)
    → length old ≡ s.version + 1 → (now, reply) ≡ switched s calls r → IsKeptSo old sets now (Switch t) reply
kept_switch old sets s now t calls (Ok done) reply shown made =
    let is = ap (λ (p : State × Reply). p.1) made in
    let version = ap (λ (p : State × Reply). p.0.version) made in
    record {
      shown = rw is (omega (arith, version, shown, length-append old (t ∷ [])));
      kept = rw is (λ begins. ap (λ (x : Tables). Switch x) (last_set old sets t (s.version + 1) shown begins));
    }
kept_switch old sets s now t calls (Err why) reply shown made =
    let is = ap (λ (p : State × Reply). p.1) made in
    let version = ap (λ (p : State × Reply). p.0.version) made in
    record {
      shown = rw is (shown ∙ ap (λ (n : ℕ). n + 1) (sym version));
      kept = rw is (λ begins. refl);
    }

pub kept_so : (old sets now_sets : List Tables) (s now : State) (request : Request) (reply : Reply)
    → length old ≡ s.version + 1 → (now, reply) ≡ step now_sets s request → IsKeptSo old sets now request reply
kept_so old sets now_sets s now (Do command) reply shown made =
    let version = ap (λ (p : State × Reply). p.0.version) made ∙ keeps_version (set_at now_sets s.version) s command in
    record { shown = shown ∙ ap (λ (n : ℕ). n + 1) (sym version); kept = λ begins. refl }
kept_so old sets now_sets s now (Switch t) reply shown made =
    kept_switch old sets s now t (on_call t s.accounts s.units) (set_fits t s) reply shown made

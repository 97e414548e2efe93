-- A pass beside the day: what it has seen begins the history, as the audit needs it.
use Rattle.std.proofs.Common.{◌≡◌, ℕ, ◌+◌, ◌-◌, ◌<◌, ◌≤◌, ◌∙◌, List, [], ◌∷◌, ◌++◌, length, drop, suc, cond, Bool, Option, Some, None, refl, sym, ap, subst, arith, append_assoc, length-append}
use Rattle.std.specs.Prelude.{slice_index_or}
use Rattle.std.proofs.lemmas.List.{append-nil, take-append-drop}
use Rattle.std.proofs.lemmas.Bool.{eq-eqb}
use Rattle.mgn_params.specs.Tables.{Tables}
use Rattle.mgn_machine.specs.declared.entry.Entry.{Entry}
use Rattle.mgn_machine.specs.declared.entry.Item.{Item}
use Rattle.mgn_machine.specs.declared.reply.Reply.{Reply}
use Rattle.mgn_machine.specs.declared.request.Request.{Request}
use Rattle.mgn_machine.specs.History.{Legal, calls, entry, item, items_of, recorded, request_of}
use Rattle.mgn_machine.proofs.Histories.{calls-push}
use Rattle.mgn_machine.proofs.Items.{items_of-begun, items_of-push}
use Rattle.mgn_book.specs.BookViews.{Begins, Stands}
use Rattle.mgn_day.specs.Days.{Day}
use Rattle.mgn_ledger.specs.Ledgers.{AreStamped, GoesOn, IsBefore}
use Rattle.mgn_ledger.specs.Passes.{IsBeside, IsCalled, IsPass, PassView, history_seen, pass_view, sets_seen, transcript}

-- Lists that begin others.

pub begins-itself : {X : Type 0} (xs : List X) → Begins xs xs
begins-itself xs = ([], sym (append-nil xs))

begins-longer : {X : Type 0} (xs ys more : List X) → Begins xs ys → Begins xs (ys ++ more)
begins-longer xs ys more begins = (begins.0 ++ more, ap (λ (l : List _). l ++ more) begins.1 ∙ append_assoc xs begins.0 more)

pub begins-further : {X : Type 0} (xs ys zs : List X) → Begins xs ys → Begins ys zs → Begins xs zs
begins-further xs ys zs first second = (first.0 ++ second.0, second.1 ∙ ap (λ (l : List _). l ++ second.0) first.1 ∙ append_assoc xs first.0 second.0)

-- What a pass has seen.

abbrev is_none : {X : Type 0} → Option X → Type 0
is_none None = Unit {0}
is_none (Some x) = ⊥

beside : (p : PassView) (day : Day) → Begins p.sets day.sets → Begins p.history day.book.history → calls p.session day.book.history ≡ calls p.session p.history → IsBeside p day
beside p day sets rest same = record {
  sets = sets;
  history = rest;
  count = same;
  same = ap (items_of p.session) rest.1 ∙ items_of-begun p.session p.history rest.0 (ap (calls p.session) (sym rest.1) ∙ same);
}

-- a pass without calls
pub beside-fresh : {T : Type 0} (shown : T → Day) (session count : ℕ) (last : Option (ℕ × T)) (day : Day) → IsPass shown session count last → last ≡ None → calls session day.book.history ≡ count → IsBeside (pass_view shown session last) day
beside-fresh shown session count None day pass none same = beside _ day (day.sets, refl) (day.book.history, refl) (same ∙ pass.counted)
beside-fresh shown session count (Some at) day pass none same = absurd (subst is_none (sym none) tt)

-- a pass whose stamp is that of its place
pub beside-seen : {T : Type 0} (shown : T → Day) (session count place : ℕ) (t : T) (last : Option (ℕ × T)) (stamps : List T) (day : Day) → IsPass shown session count last → last ≡ Some (place, t) → AreStamped shown stamps day
    → 0 < place → place ≤ length stamps → t ≡ slice_index_or stamps (place - 1) t → calls session day.book.history ≡ count → IsBeside (pass_view shown session last) day
beside-seen shown session count place t last stamps day pass is stamped some inside shows same =
    let within : place - 1 < length stamps = omega (arith, some, inside) in
    let again : place - 1 + 1 ≡ place = omega (arith, some) in
    let last_shown : IsBefore (place - 1 + 1) (shown t) day = subst (λ u. IsBefore (place - 1 + 1) (shown u) day) (sym shows) (stamped.at (place - 1) t within) in
    let seen : IsBefore place (shown t) day = subst (λ (n : ℕ). IsBefore n (shown t) day) again last_shown in
    let sets : sets_seen shown last ≡ (shown t).sets = ap (sets_seen shown) is in
    let history : history_seen shown last ≡ (shown t).book.history = ap (history_seen shown) is in
    beside (pass_view shown session last) day
    (subst (λ (l : List Tables). Begins l day.sets) (sym sets) seen.sets)
    (drop place day.book.history, sym (ap (λ (l : List Entry). l ++ drop place day.book.history) (history ∙ seen.history) ∙ take-append-drop place day.book.history))
    (same ∙ pass.counted)

-- A call of a pass, at the end of the history.

pub called : (p : PassView) (old new shown : Day) (session number : ℕ) (request : Request) (place : ℕ) (reply : Reply) → IsBeside p old → session ≡ p.session → GoesOn old session number request place reply new → shown ≡ new
    → IsCalled p request place reply record { session = session; sets = shown.sets; history = shown.book.history }
called p old new shown session number request place reply is_beside own on is =
    let e : Entry = entry session number (recorded request reply) reply in
    let h = old.book.history in
    let pushed : shown.book.history ≡ h ++ e ∷ [] = ap (λ (d : Day). d.book.history) is ∙ on.history in
    let same : items_of session h ≡ transcript p = ap (λ (s : ℕ). items_of s h) own ∙ is_beside.same in
    let size : length h + 1 ≡ place = omega (arith, on.ends, ap length on.history, length-append h (e ∷ [])) in
    record {
      session = own;
      calls = ap (items_of session) pushed ∙ items_of-push session h e refl
          ∙ ap (λ (l : List Item). l ++ item (length h + 1) (recorded request reply) reply ∷ []) same
          ∙ ap (λ (k : ℕ). transcript p ++ item k (recorded request reply) reply ∷ []) size;
      sets = subst (λ (d : Day). Begins p.sets d.sets) (sym is) (begins-further p.sets old.sets new.sets is_beside.sets on.sets);
      begins = subst (λ (l : List Entry). Begins p.history l) (sym pushed) (begins-longer p.history h (e ∷ []) is_beside.history);
      ends = on.ends ∙ ap (λ (d : Day). length d.book.history) (sym is);
      legal = subst (λ (d : Day). Legal d.sets d.book.history) (sym is) on.stands.legal;
      asked = subst (λ (d : Day). request_of d.sets (recorded request reply) ≡ request) (sym is) on.asked;
    }

one_more : (h : List Entry) (session number : ℕ) (request : Request) (reply : Reply) → calls session (h ++ entry session number (recorded request reply) reply ∷ []) ≡ calls session h + 1
one_more h session number request reply =
    calls-push session h (entry session number (recorded request reply) reply)
    ∙ ap (λ (b : Bool). cond b (suc (calls session h)) (calls session h)) (eq-eqb session session refl)
    ∙ omega arith

-- the pass after its call
pub is_pass : {T : Type 0} (shown : T → Day) (last : ℕ × T) (old new : Day) (session number : ℕ) (request : Request) (place : ℕ) (reply : Reply) → GoesOn old session number request place reply new
    → shown last.1 ≡ new → number ≡ calls session old.book.history + 1 → IsPass shown session number (Some last)
is_pass shown last old new session number request place reply on is next = record {
  stands = subst (λ (d : Day). Stands d.sets d.book) (sym is) on.stands;
  counted = next ∙ sym (one_more old.book.history session number request reply) ∙ ap (calls session) (sym on.history) ∙ ap (λ (d : Day). calls session d.book.history) (sym is);
}

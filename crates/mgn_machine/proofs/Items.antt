-- The items of a session in a history, and with one entry more: for passes and one-session books.
use Rattle.std.proofs.Common.{◌≡◌, ◌+◌, ◌∙◌, ℕ, suc, Bool, true, false, cond, List, [], ◌∷◌, ◌++◌, length, ap, refl, arith, length-append}
use Rattle.std.specs.Prelude.{◌==◌}
use Rattle.std.proofs.lemmas.Bool.{eq-eqb}
use Rattle.std.proofs.lemmas.List.{append-nil}
use Rattle.mgn_machine.specs.declared.entry.Entry.{Entry}
use Rattle.mgn_machine.specs.declared.entry.Item.{Item}
use Rattle.mgn_machine.specs.History.{calls, item, items_from, items_of}

front_by : (b : Bool) (x : Item) (xs ys zs : List Item) → xs ≡ ys ++ zs → cond b (x ∷ xs) xs ≡ cond b (x ∷ ys) ys ++ zs
front_by true x xs ys zs e = rw e refl
front_by false x xs ys zs e = e

-- of one history and then another
pub items_from-append : (session place : ℕ) (xs ys : List Entry) → items_from session place (xs ++ ys) ≡ items_from session place xs ++ items_from session (place + length xs) ys
items_from-append session place [] ys =
    let same : place ≡ place + 0 = omega arith in
    ap (λ (p : ℕ). items_from session p ys) same
items_from-append session place (x ∷ xs) ys =
    let further : place + 1 + length xs ≡ place + suc (length xs) = omega arith in
    front_by (x.session == session) (item place x.request x.reply) _ _ _ (
    items_from-append session (place + 1) xs ys ∙ ap (λ (p : ℕ). items_from session (place + 1) xs ++ items_from session p ys) further
    )

counted_by : (b : Bool) (x : Item) (xs : List Item) (n : ℕ) → length xs ≡ n → length (cond b (x ∷ xs) xs) ≡ cond b (suc n) n
counted_by true x xs n same = ap suc same
counted_by false x xs n same = same

-- there are as many as the session has entries
pub length-items_from : (session place : ℕ) (history : List Entry) → length (items_from session place history) ≡ calls session history
length-items_from session place [] = refl
length-items_from session place (x ∷ xs) =
    counted_by (x.session == session) (item place x.request x.reply) _ _ (length-items_from session (place + 1) xs)

no_items : (xs : List Item) → length xs ≡ 0 → xs ≡ []
no_items [] e = refl
no_items (x ∷ xs) e = absurd (omega arith)

-- where a history has no more entries of the session than its beginning, the items are those of the beginning
pub items_of-begun : (session : ℕ) (history more : List Entry) → calls session (history ++ more) ≡ calls session history → items_of session (history ++ more) ≡ items_of session history
items_of-begun session history more same =
    let split = items_from-append session 1 history more in
    let whole = length-items_from session 1 (history ++ more) in
    let begun = length-items_from session 1 history in
    let parts = length-append (items_of session history) (items_from session (1 + length history) more) in
    let none : items_from session (1 + length history) more ≡ [] = no_items _ (omega (arith, whole, begun, ap length split, parts, same)) in
    split ∙ ap (λ (xs : List Item). items_of session history ++ xs) none ∙ append-nil (items_of session history)

-- an entry of the session is its last item
pub items_of-push : (session : ℕ) (history : List Entry) (e : Entry) → e.session ≡ session
    → items_of session (history ++ e ∷ []) ≡ items_of session history ++ item (length history + 1) e.request e.reply ∷ []
items_of-push session history e own =
    let next : 1 + length history ≡ length history + 1 = omega arith in
    items_from-append session 1 history (e ∷ [])
    ∙ ap (λ (b : Bool). items_of session history ++ cond b (item (1 + length history) e.request e.reply ∷ []) []) (eq-eqb e.session session own)
    ∙ ap (λ (p : ℕ). items_of session history ++ item p e.request e.reply ∷ []) next

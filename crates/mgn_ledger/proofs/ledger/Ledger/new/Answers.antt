use Rattle.std.proofs.Common.{rules, ℕ, ◌≡◌, ◌≤◌, List, [], false, length, arith, refl}
use Rattle.mgn_book.specs.BookViews.{Stands, opening}
use Rattle.mgn_day.specs.Days.{Day}
use Rattle.mgn_ledger.specs.Ledgers.{IsLedger}
use Rattle.mgn_ledger.proofs.ledger.Ledger.new.Goals as goal

-- before the first command there is no entry, no stamp and no unit
begun : {T : Type 0} (shown : T → Day) (stamps : List T) (places : List ℕ) (room : ℕ) (day : Day) → stamps ≡ [] → places ≡ [] → 1024 ≤ room → day.book ≡ opening → Stands day.sets day.book → IsLedger shown stamps places room false day
begun shown stamps places room day none nowhere roomy first stands =
    let short : length stamps ≡ 0 = rw none refl in
    let few : length places ≡ 0 = rw nowhere refl in
    let entries : length day.book.history ≡ 0 = rw first refl in
    let rows : length day.book.book.rows ≡ 0 = rw first refl in
    record {
      stands = stands;
      roomy = roomy;
      stamped = λ whole. record { long = omega (arith, short, entries); at = λ k t low. absurd (omega (arith, low, short)) };
      places_are = λ whole. record { long = omega (arith, few, rows); each = λ u low. absurd (omega (arith, low, few)) };
    }

pub invariant_of-result : goal.invariant_of-result
invariant_of-result g c =
    (search rules, omega arith, begun g.T.Shows.shown _ _ _ _ c.in_ok-stamps.ensures c.in_ok-places.ensures.items (search rules) c.open-book.ensures.opening (search rules))

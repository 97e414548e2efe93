-- A table with one token more, as `put` leaves it.
use Rattle.std.proofs.Common.{◌<◌, ◌≤◌, ◌++◌, ◌∷◌, [], List, length, subst, sym, arith, length-append, ⊎_elim}
use Rattle.std.proofs.lemmas.Bool.{cases_lt}
use Rattle.std.proofs.lemmas.List.{get_or_append_left, get_or_push}
use Rattle.boxcar.specs.Table.{Shelves, Shows, Where}
use Rattle.mgn_params.specs.Tables.{Tables}
use Rattle.mgn_table.specs.Tokens.{AreTokens}

-- at most 64 tokens of a table, and one more of that table
pub tokens-push : (table : Shelves) (tokens : List (Where Tables)) (t : Where Tables) → AreTokens table tokens → length tokens ≤ 64 → Shows table t → AreTokens table (tokens ++ t ∷ [])
tokens-push table tokens t are few shows = record {
  first = omega (arith, are.first, length-append tokens (t ∷ []));
  few = omega (arith, few, length-append tokens (t ∷ []));
  shown = λ k d small. ⊎_elim
      (λ (old : k < length tokens). subst (λ (w : Where Tables). Shows table w) (sym (get_or_append_left tokens (t ∷ []) d k old)) (are.shown k d old))
      (λ (past : length tokens ≤ k). subst (λ (w : Where Tables). Shows table w) (sym (get_or_push tokens t d k (omega (arith, small, past, length-append tokens (t ∷ []))))) shows)
      (cases_lt k (length tokens));
}

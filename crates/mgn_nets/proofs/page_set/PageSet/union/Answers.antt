use Rattle.std.proofs.Common.{◌∙◌, ◌/◌, ◌%◌, ◌<◌, ◌≤◌, ℕ, ap, rules, sym, ⊎_elim}
use Rattle.std.specs.Int.{bit_at}
use Rattle.std.proofs.lemmas.Bool.{cases_lt}
use Rattle.std.proofs.lemmas.List.{get_or_past}
use Rattle.std.proofs.lemmas.Nat.Bits.{bit_at-zero}
use Rattle.mgn_nets.proofs.PageSetBits.{neither}
use Rattle.mgn_nets.proofs.page_set.PageSet.union.Goals as goal

pub returns-clause-own : goal.returns-clause-own
returns-clause-own c = λ page none.
    let k = page / 64 in
    ⊎_elim
    (λ (inside : k < c.loop-i.i).
    (neither _ _ (page % 64) (sym (ap (λ (n : ℕ). bit_at n (page % 64)) (c.loop-i.invariant.joined k inside)) ∙ none)).0)
    (λ (past : c.loop-i.i ≤ k).
    sym (ap (λ (n : ℕ). bit_at n (page % 64)) (c.loop-i.invariant.rest k past)) ∙ none)
    (cases_lt k c.loop-i.i)

pub returns-clause-other : goal.returns-clause-other
returns-clause-other c = λ page none.
    let k = page / 64 in
    ⊎_elim
    (λ (inside : k < c.loop-i.i).
    (neither _ _ (page % 64) (sym (ap (λ (n : ℕ). bit_at n (page % 64)) (c.loop-i.invariant.joined k inside)) ∙ none)).1)
    (λ (past : c.loop-i.i ≤ k).
    ap (λ (n : ℕ). bit_at n (page % 64)) (get_or_past c.args.other.now.words k 0 (search rules)) ∙ bit_at-zero (page % 64))
    (cases_lt k c.loop-i.i)

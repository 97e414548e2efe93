use Rattle.std.proofs.Common.{◌≡◌, ◌≢◌, ◌∙◌, ◌/◌, ◌%◌, ◌*◌, ◌^◌, ◌<◌, ℕ, ap, get_or, length, get_or-set_other, get_or-set_same, rules, set, sym, ⊎_elim}
use Rattle.std.specs.Int.{bit_at, w64}
use Rattle.std.specs.Int.Bits.{bit_or}
use Rattle.std.proofs.lemmas.Bool.{cases_eq}
use Rattle.std.proofs.lemmas.Nat.Bits.{bit_at_set_other, bit_at_set_same}
use Rattle.mgn_nets.proofs.PageSetBits.{bit-small, one-page}
use Rattle.mgn_nets.proofs.page_set.PageSet.insert.Goals as goal

pub returns-clause-own : goal.returns-clause-own
returns-clause-own c =
    let words = c.args.self.now.words in
    let page = c.args.page in
    let word : page / 64 < length words = search rules in
    ap (λ (n : ℕ). bit_at n (page % 64)) (get_or-set_same words (page / 64) _ 0 word)
    ∙ bit_at_set_same w64 (get_or words (page / 64) 0) (page % 64) (bit-small page)

pub returns-clause-others : goal.returns-clause-others
returns-clause-others c = λ other apart.
    let words = c.args.self.now.words in
    let page = c.args.page in
    let word : page / 64 < length words = search rules in
    let more = bit_or (get_or words (page / 64) 0) (1 * 2 ^ (page % 64) % 2 ^ 64) in
    ⊎_elim
    (λ (same : other / 64 ≡ page / 64).
    ap (λ (k : ℕ). bit_at (get_or (set words (page / 64) more) k 0) (other % 64)) same
    ∙ ap (λ (n : ℕ). bit_at n (other % 64)) (get_or-set_same words (page / 64) more 0 word)
    ∙ bit_at_set_other w64 (get_or words (page / 64) 0) (page % 64) (bit-small page) (other % 64) (λ bit. apart (one-page other page same bit))
    ∙ ap (λ (k : ℕ). bit_at (get_or words k 0) (other % 64)) (sym same))
    (λ (else : other / 64 ≢ page / 64).
    ap (λ (n : ℕ). bit_at n (other % 64)) (get_or-set_other words (page / 64) (other / 64) more 0 else))
    (cases_eq (other / 64) (page / 64))

use Rattle.std.proofs.Common.{◌≡◌, ◌++◌, ◌+◌, ◌-◌, ◌≤◌, ◌<◌, ℕ, length, take, drop, get_or, map, true, false}
use Rattle.std.specs.Int.{bit_at}
use Rattle.std.specs.Prelude.{◌==◌}
use Rattle.mgn_wire.specs.Line.{all_filled}
use Rattle.mgn_wire.specs.Word.{words_of}
use Rattle.mgn_wire.proofs.words.split_words.Given as goal

abbrev pub invariant-loop-spaces : goal.invariant-loop-spaces
invariant-loop-spaces l = record {
  room : length l.items ≡ 6;
  few : l.count ≤ 5;
  begun : l.start ≤ length l.line;
  within : l.start ≤ l.at + 64;
  clear : (k : ℕ) → l.start ≤ k → k < l.at → (get_or l.line k 0 == 32) ≡ false;
  marks : (j : ℕ) → j < 64 → bit_at l.spaces j ≡ 1 → (l.start ≤ l.at + j) × (get_or l.line (l.at + j) 0 ≡ 32);
  others : (j : ℕ) → j < 64 → l.start ≤ l.at + j → bit_at l.spaces j ≡ 0 → (get_or l.line (l.at + j) 0 == 32) ≡ false;
  so_far : map (λ s. s.now) (take l.count l.items) ++ words_of (drop l.start l.line) ≡ words_of l.line;
  filled : all_filled (map (λ s. s.now) (take l.count l.items)) ≡ true;
}

abbrev pub decreases-loop-spaces : goal.decreases-loop-spaces
decreases-loop-spaces l = length l.line - l.start

abbrev pub invariant-loop-at : goal.invariant-loop-at
invariant-loop-at l = record {
  room : length l.items ≡ 6;
  few : l.count ≤ 5;
  begun : l.start ≤ length l.line;
  within : l.start ≤ l.at;
  clear : (k : ℕ) → l.start ≤ k → k < l.at → (get_or l.line k 0 == 32) ≡ false;
  so_far : map (λ s. s.now) (take l.count l.items) ++ words_of (drop l.start l.line) ≡ words_of l.line;
  filled : all_filled (map (λ s. s.now) (take l.count l.items)) ≡ true;
}

abbrev pub decreases-loop-at : goal.decreases-loop-at
decreases-loop-at l = length l.line - l.at

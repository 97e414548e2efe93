-- Commodities in which nothing is held, and sets without them.
use Rattle.std.specs.Prelude.{◌≡◌, ◌==◌, ℕ, ℤ, pos, not, List, All, map}
use Rattle.std.specs.List.{filter, list_any}
use Rattle.mgn_span.specs.Positions.{Position, positions}
use Rattle.mgn_params.specs.Tables.{Tables, legs_of}

-- each net in a contract of the commodity is 0
abbrev pub HoldsNone : List Position → ℕ → Type 0
HoldsNone portfolio commodity = All (λ p. p.0.commodity ≡ commodity → p.1 ≡ pos 0) portfolio

-- the set without what is of a commodity: its contracts, spreads and spot month charge, and each intercommodity spread
-- with a leg in it. Its own row and its months stay, bare, so that all others keep their numbers.
abbrev pub without : ℕ → Tables → Tables
without commodity set = record set {
  contracts = filter (λ c. not (c.commodity == commodity)) set.contracts;
  spreads = filter (λ s. not (s.commodity == commodity)) set.spreads;
  credits = filter (λ s. not (list_any (λ leg. leg.commodity == commodity) (legs_of s))) set.credits;
  spots = filter (λ s. not (s.commodity == commodity)) set.spots;
}

-- the nets of the other contracts
abbrev pub other_nets : ℕ → Tables → List ℤ → List ℤ
other_nets commodity set nets = map (λ p. p.1) (filter (λ p. not (p.0.commodity == commodity)) (positions set.contracts nets))

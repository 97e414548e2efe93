-- The spreads and the spot charge of one commodity: their limits, and stage by stage what `form_spreads` forms.
use Rattle.std.proofs.Common.{◌≡◌, ℕ, ◌+◌, ◌<◌, true, false, List, [], ◌∷◌, ◌++◌, length, take, get_or, ap, ◌∙◌, arith, zero, suc, All, Some, rules}
use Rattle.std.specs.Prelude.{◌==◌, if◌then◌else◌, IfSome, Bool}
use Rattle.std.specs.List.{filter, find, flat_map}
use Rattle.std.proofs.lemmas.Grind.{flat_map-append}
use Rattle.std.proofs.lemmas.List.{append-nil, take_more}
use Rattle.std.proofs.lemmas.List.Elements.{All-filter}
use Rattle.std.proofs.lemmas.List.Sums.{length-filter}
use Rattle.mgn_params.specs.declared.tables.SpotCharge.{SpotCharge}
use Rattle.mgn_params.specs.declared.tables.Spread.{Spread}
use Rattle.mgn_params.specs.Limits.{IsSpread, IsWithinLimits}
use Rattle.mgn_params.specs.Tables.{Tables}
use Rattle.mgn_span.specs.declared.stage.Stage.{Stage}
use Rattle.mgn_span.specs.Stages.{stages_of_spread}
use Rattle.mgn_span.specs.Words.{AreSpreads, IsSpot}

-- one spread more
pub stages_more : (spreads : List Spread) (i : ℕ) (d : Spread) → i < length spreads → flat_map stages_of_spread (take (i + 1) spreads) ≡ flat_map stages_of_spread (take i spreads) ++ stages_of_spread (get_or spreads i d)
stages_more spreads i d h =
    ap (flat_map stages_of_spread) (take_more spreads i d h)
    ∙ flat_map-append stages_of_spread (take i spreads) (get_or spreads i d ∷ [])
    ∙ ap (λ (ss : List Stage). flat_map stages_of_spread (take i spreads) ++ ss) (append-nil (stages_of_spread (get_or spreads i d)))

-- the limits of a set, for one of its commodities
pub are_spreads : (t : Tables) (g : ℕ) → IsWithinLimits t → AreSpreads (filter (λ s. s.commodity == g) t.spreads)
are_spreads t g limits = record {
  limits = All-filter (λ (s : Spread). s.commodity == g) (λ (s : Spread). (commodities : ℕ) × IsSpread commodities s) t.spreads (λ i d h. (length t.commodities, limits.spreads i d h));
  few = omega (arith, length-filter (λ (s : Spread). s.commodity == g) t.spreads, limits.few_spreads_in_each g);
}

found : {X : Type 0} (P : X → Type 0) (p : X → Bool) (xs : List X) → All P xs → IfSome (find p xs) P
found P p [] all = search rules
found P p (x ∷ xs) all =
    let rest = found P p xs (λ i d h. all (suc i) d (omega (arith, h))) in
    elim (p x) as (λ b. IfSome (if b then Some x else find p xs) P) [ true ↦ all zero x (omega arith) | false ↦ rest ]

pub is_spot : (t : Tables) (g : ℕ) → IsWithinLimits t → IfSome (find (λ s. s.commodity == g) t.spots) IsSpot
is_spot t g limits =
    found IsSpot (λ (s : SpotCharge). s.commodity == g) t.spots
    (λ i d h. let limit = limits.spots i d h in (limit.tier, limit.spread_rate, limit.outright_rate))

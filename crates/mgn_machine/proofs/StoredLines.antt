-- Stored lines stay what they are where the list of wide lines grows, as a push of one promises.
use Rattle.std.proofs.Common.{◌≡◌, ◌∙◌, ◌++◌, ◌∷◌, [], List, length, map, ap, refl}
use Rattle.std.specs.List.{All}
use Rattle.std.proofs.lemmas.List.{get_or_append_left, map-append}
use Rattle.std.proofs.lemmas.List.Elements.{All-head, All-tail}
use Rattle.std.proofs.Math.Seq.{get_or-append_seam}
use Rattle.mgn_machine.specs.declared.statement.CommodityLine.{CommodityLine}
use Rattle.mgn_machine.specs.declared.commodity_lines.StoredLine.{StoredLine}
use Rattle.mgn_machine.specs.declared.commodity_lines.StoredLine.TheVariants.{Narrow, Wide}
use Rattle.mgn_machine.specs.StoredLines.{IsPlaced, line_of, no_line}

line_kept : (wide more : List CommodityLine) (stored : StoredLine) → IsPlaced wide stored → line_of (wide ++ more) stored ≡ line_of wide stored
line_kept wide more (Narrow commodity active scan intra spot credit minimum risk) placed = refl
line_kept wide more (Wide place) placed = get_or_append_left wide more no_line place placed

lines_kept : (wide more : List CommodityLine) (stored : List StoredLine) → All (IsPlaced wide) stored → map (line_of (wide ++ more)) stored ≡ map (line_of wide) stored
lines_kept wide more [] placed = refl
lines_kept wide more (x ∷ xs) placed =
    ap (λ (g : CommodityLine). g ∷ map (line_of (wide ++ more)) xs) (line_kept wide more x (All-head (IsPlaced wide) x xs placed))
    ∙ ap (λ (gs : List CommodityLine). line_of wide x ∷ gs) (lines_kept wide more xs (All-tail (IsPlaced wide) x xs placed))

-- a wide line comes to the end of both lists
pub wide_pushed : (wide : List CommodityLine) (stored : List StoredLine) (g : CommodityLine) → All (IsPlaced wide) stored
    → map (line_of (wide ++ g ∷ [])) (stored ++ Wide (length wide) ∷ []) ≡ map (line_of wide) stored ++ g ∷ []
wide_pushed wide stored g placed =
    map-append (line_of (wide ++ g ∷ [])) stored (Wide (length wide) ∷ [])
    ∙ ap (λ (gs : List CommodityLine). gs ++ line_of (wide ++ g ∷ []) (Wide (length wide)) ∷ []) (lines_kept wide (g ∷ []) stored placed)
    ∙ ap (λ (x : CommodityLine). map (line_of wide) stored ++ x ∷ []) (get_or-append_seam wide g [] no_line)

use Rattle.std.proofs.Common.{◌≡◌, ◌∙◌, ◌+◌, ◌++◌, ◌∷◌, [], List, ℕ, ap, append_assoc, sym, take}
use Rattle.std.specs.List.{flat_map}
use Rattle.std.proofs.lemmas.Grind.{flat_map-append}
use Rattle.std.proofs.lemmas.List.{append-nil, take_more}
use Rattle.std.proofs.lemmas.Option.{get_or_from_slice_get, slice_get_within}
use Rattle.mgn_machine.specs.declared.statement.CommodityLine.{CommodityLine}
use Rattle.mgn_wire.specs.StatementText.{commodity_text}
use Rattle.mgn_wire.proofs.KeptFront.{kept_before}
use Rattle.mgn_wire.proofs.statement.print_commodities.Goals as goal

pub loop-place-preserved : goal.loop-place-preserved
loop-place-preserved c =
    let lines = c.args.lines.now in
    let line = c.line.result in
    let at = c.loop-place.place in
    let inside = slice_get_within lines at line c.line.ensures in
    let one : take (at + 1) lines ≡ take at lines ++ line ∷ [] =
    take_more lines at line inside ∙ ap (λ (x : CommodityLine). take at lines ++ x ∷ []) (get_or_from_slice_get lines at line line c.line.ensures) in
    let text : flat_map commodity_text (take (at + 1) lines) ≡ flat_map commodity_text (take at lines) ++ commodity_text line =
    ap (λ (gs : List CommodityLine). flat_map commodity_text gs) one ∙ flat_map-append commodity_text (take at lines) (line ∷ [])
    ∙ ap (λ (bs : List ℕ). flat_map commodity_text (take at lines) ++ bs) (append-nil (commodity_text line)) in
    c.in_ok-print_commodity.ensures.ok ∙ ap (λ (bs : List ℕ). bs ++ commodity_text line) c.loop-place.invariant
    ∙ append_assoc c.args.out.now.items (flat_map commodity_text (take at lines)) (commodity_text line)
    ∙ ap (λ (bs : List ℕ). c.args.out.now.items ++ bs) (sym text)

pub returns-in_err-print_commodity-clause-kept : goal.returns-in_err-print_commodity-clause-kept
returns-in_err-print_commodity-clause-kept c = kept_before _ _ _ _ c.loop-place.invariant c.print_commodity.ensures.kept

-- `==` on rows holds exactly where they are the same row.
use Rattle.std.proofs.Common.{◌≡◌, ℕ, true, false, ◌&&◌, ◌==◌, Bool, List, ℤ, refl, sym, ap, ◌∙◌, int_eq, arith}
use Rattle.std.specs.Bool.{Decides}
use Rattle.std.specs.Str.{bytes_eq}
use Rattle.std.specs.Cmp.Lexicographic.{pointwise}
use Rattle.std.proofs.lemmas.Bool.Decides.{Decides-and, Decides-eqb, Decides-int_eq, Decides-like}
use Rattle.std.proofs.lemmas.Slice.Eq.{bytes_eq-Decides, slice_eq-Decides}
use denote.Enum.Bare.{sameb}
use Rattle.mgn_params.specs.contracts.tables.Kind as kind
use Rattle.mgn_params.specs.contracts.tables.Style as style
use Rattle.mgn_params.specs.contracts.tables.LegSide as leg_side
use Rattle.mgn_params.specs.declared.tables.Class.{Class}
use Rattle.mgn_params.specs.declared.tables.Commodity.{Commodity}
use Rattle.mgn_params.specs.declared.tables.Contract.{Contract}
use Rattle.mgn_params.specs.declared.tables.CreditSpread.{CreditSpread}
use Rattle.mgn_params.specs.declared.tables.Kind.{Kind}
use Rattle.mgn_params.specs.declared.tables.Kind.TheVariants.{Future, Call, Put}
use Rattle.mgn_params.specs.declared.tables.Leg.{Leg}
use Rattle.mgn_params.specs.declared.tables.LegSide.{LegSide}
use Rattle.mgn_params.specs.declared.tables.LegSide.TheVariants.{A, B}
use Rattle.mgn_params.specs.declared.tables.Month.{Month}
use Rattle.mgn_params.specs.declared.tables.SpotCharge.{SpotCharge}
use Rattle.mgn_params.specs.declared.tables.Spread.{Spread}
use Rattle.mgn_params.specs.declared.tables.Style.{Style}
use Rattle.mgn_params.specs.declared.tables.Style.TheVariants.{Premium, Other}

differ : {P : Type 0} → false ≡ true → P
differ h = grind arith

kind_is : (k : Kind) → sameb kind.the_type k k ≡ true
kind_is Future = refl
kind_is Call = refl
kind_is Put = refl

kind_from : (k l : Kind) → sameb kind.the_type k l ≡ true → k ≡ l
kind_from Future Future h = refl
kind_from Future Call h = differ h
kind_from Future Put h = differ h
kind_from Call Future h = differ h
kind_from Call Call h = refl
kind_from Call Put h = differ h
kind_from Put Future h = differ h
kind_from Put Call h = differ h
kind_from Put Put h = refl

kind_decides : (k l : Kind) → Decides (sameb kind.the_type k l) (k ≡ l)
kind_decides k l = (kind_from k l, λ e. sym (ap (sameb kind.the_type k) e) ∙ kind_is k)

style_is : (s : Style) → sameb style.the_type s s ≡ true
style_is Premium = refl
style_is Other = refl

style_from : (s r : Style) → sameb style.the_type s r ≡ true → s ≡ r
style_from Premium Premium h = refl
style_from Premium Other h = differ h
style_from Other Premium h = differ h
style_from Other Other h = refl

style_decides : (s r : Style) → Decides (sameb style.the_type s r) (s ≡ r)
style_decides s r = (style_from s r, λ e. sym (ap (sameb style.the_type s) e) ∙ style_is s)

side_is : (s : LegSide) → sameb leg_side.the_type s s ≡ true
side_is A = refl
side_is B = refl

side_from : (s r : LegSide) → sameb leg_side.the_type s r ≡ true → s ≡ r
side_from A A h = refl
side_from A B h = differ h
side_from B A h = differ h
side_from B B h = refl

side_decides : (s r : LegSide) → Decides (sameb leg_side.the_type s r) (s ≡ r)
side_decides s r = (side_from s r, λ e. sym (ap (sameb leg_side.the_type s) e) ∙ side_is s)

array_decides : (xs ys : List ℤ) → Decides (pointwise int_eq xs ys) (xs ≡ ys)
array_decides xs ys = slice_eq-Decides Decides-int_eq xs ys (pointwise int_eq xs ys) refl

abbrev commodity_row : List ℕ → ℕ → Commodity
commodity_row name short_option_charge = record { name = name; short_option_charge = short_option_charge }

pub commodity_decides : (a b : Commodity) → Decides (bytes_eq a.name b.name && (a.short_option_charge == b.short_option_charge)) (a ≡ b)
commodity_decides a b =
    Decides-like _
    (λ same. ap (λ (x : List ℕ). commodity_row x a.short_option_charge) same.0
    ∙ ap (λ (x : ℕ). commodity_row b.name x) same.1)
    (λ e. (ap (λ (x : Commodity). x.name) e, ap (λ (x : Commodity). x.short_option_charge) e))
    (Decides-and _ _ (bytes_eq-Decides a.name b.name) (Decides-eqb a.short_option_charge b.short_option_charge))

abbrev month_row : ℕ → ℕ → ℕ → Month
month_row commodity number tier = record { commodity = commodity; number = number; tier = tier }

pub month_decides : (a b : Month) → Decides ((a.commodity == b.commodity) && ((a.number == b.number) && (a.tier == b.tier))) (a ≡ b)
month_decides a b =
    Decides-like _
    (λ same. ap (λ (x : ℕ). month_row x a.number a.tier) same.0
    ∙ ap (λ (x : ℕ). month_row b.commodity x a.tier) same.1.0
    ∙ ap (λ (x : ℕ). month_row b.commodity b.number x) same.1.1)
    (λ e. (ap (λ (x : Month). x.commodity) e, (ap (λ (x : Month). x.number) e, ap (λ (x : Month). x.tier) e)))
    (Decides-and _ _ (Decides-eqb a.commodity b.commodity) (Decides-and _ _ (Decides-eqb a.number b.number) (Decides-eqb a.tier b.tier)))

abbrev contract_row : List ℕ → ℕ → ℕ → Kind → Style → ℤ → ℕ → List ℤ → Contract
contract_row name commodity month kind style delta option_value array = record { name = name; commodity = commodity; month = month; kind = kind; style = style; delta = delta; option_value = option_value; array = array }

pub contract_decides : (a b : Contract) → Decides (bytes_eq a.name b.name && ((a.commodity == b.commodity) && ((a.month == b.month) && (sameb kind.the_type a.kind b.kind && (sameb style.the_type a.style b.style && (int_eq a.delta b.delta && ((a.option_value == b.option_value) && pointwise int_eq a.array b.array))))))) (a ≡ b)
contract_decides a b =
    Decides-like _
    (λ same. ap (λ (x : List ℕ). contract_row x a.commodity a.month a.kind a.style a.delta a.option_value a.array) same.0
    ∙ ap (λ (x : ℕ). contract_row b.name x a.month a.kind a.style a.delta a.option_value a.array) same.1.0
    ∙ ap (λ (x : ℕ). contract_row b.name b.commodity x a.kind a.style a.delta a.option_value a.array) same.1.1.0
    ∙ ap (λ (x : Kind). contract_row b.name b.commodity b.month x a.style a.delta a.option_value a.array) same.1.1.1.0
    ∙ ap (λ (x : Style). contract_row b.name b.commodity b.month b.kind x a.delta a.option_value a.array) same.1.1.1.1.0
    ∙ ap (λ (x : ℤ). contract_row b.name b.commodity b.month b.kind b.style x a.option_value a.array) same.1.1.1.1.1.0
    ∙ ap (λ (x : ℕ). contract_row b.name b.commodity b.month b.kind b.style b.delta x a.array) same.1.1.1.1.1.1.0
    ∙ ap (λ (x : List ℤ). contract_row b.name b.commodity b.month b.kind b.style b.delta b.option_value x) same.1.1.1.1.1.1.1)
    (λ e. (ap (λ (x : Contract). x.name) e, (ap (λ (x : Contract). x.commodity) e, (ap (λ (x : Contract). x.month) e, (ap (λ (x : Contract). x.kind) e, (ap (λ (x : Contract). x.style) e, (ap (λ (x : Contract). x.delta) e, (ap (λ (x : Contract). x.option_value) e, ap (λ (x : Contract). x.array) e))))))))
    (Decides-and _ _ (bytes_eq-Decides a.name b.name) (Decides-and _ _ (Decides-eqb a.commodity b.commodity) (Decides-and _ _ (Decides-eqb a.month b.month) (Decides-and _ _ (kind_decides a.kind b.kind) (Decides-and _ _ (style_decides a.style b.style) (Decides-and _ _ (Decides-int_eq a.delta b.delta) (Decides-and _ _ (Decides-eqb a.option_value b.option_value) (array_decides a.array b.array))))))))

abbrev spread_row : ℕ → ℕ → ℕ → ℕ → ℕ → ℕ → Spread
spread_row commodity first_tier first_ratio second_tier second_ratio charge = record { commodity = commodity; first_tier = first_tier; first_ratio = first_ratio; second_tier = second_tier; second_ratio = second_ratio; charge = charge }

pub spread_decides : (a b : Spread) → Decides ((a.commodity == b.commodity) && ((a.first_tier == b.first_tier) && ((a.first_ratio == b.first_ratio) && ((a.second_tier == b.second_tier) && ((a.second_ratio == b.second_ratio) && (a.charge == b.charge)))))) (a ≡ b)
spread_decides a b =
    Decides-like _
    (λ same. ap (λ (x : ℕ). spread_row x a.first_tier a.first_ratio a.second_tier a.second_ratio a.charge) same.0
    ∙ ap (λ (x : ℕ). spread_row b.commodity x a.first_ratio a.second_tier a.second_ratio a.charge) same.1.0
    ∙ ap (λ (x : ℕ). spread_row b.commodity b.first_tier x a.second_tier a.second_ratio a.charge) same.1.1.0
    ∙ ap (λ (x : ℕ). spread_row b.commodity b.first_tier b.first_ratio x a.second_ratio a.charge) same.1.1.1.0
    ∙ ap (λ (x : ℕ). spread_row b.commodity b.first_tier b.first_ratio b.second_tier x a.charge) same.1.1.1.1.0
    ∙ ap (λ (x : ℕ). spread_row b.commodity b.first_tier b.first_ratio b.second_tier b.second_ratio x) same.1.1.1.1.1)
    (λ e. (ap (λ (x : Spread). x.commodity) e, (ap (λ (x : Spread). x.first_tier) e, (ap (λ (x : Spread). x.first_ratio) e, (ap (λ (x : Spread). x.second_tier) e, (ap (λ (x : Spread). x.second_ratio) e, ap (λ (x : Spread). x.charge) e))))))
    (Decides-and _ _ (Decides-eqb a.commodity b.commodity) (Decides-and _ _ (Decides-eqb a.first_tier b.first_tier) (Decides-and _ _ (Decides-eqb a.first_ratio b.first_ratio) (Decides-and _ _ (Decides-eqb a.second_tier b.second_tier) (Decides-and _ _ (Decides-eqb a.second_ratio b.second_ratio) (Decides-eqb a.charge b.charge))))))

abbrev leg_row : ℕ → LegSide → ℕ → Leg
leg_row commodity side ratio = record { commodity = commodity; side = side; ratio = ratio }

abbrev are_same_legs : Leg → Leg → Bool
are_same_legs a b = (a.commodity == b.commodity) && (sameb leg_side.the_type a.side b.side && (a.ratio == b.ratio))

pub leg_decides : (a b : Leg) → Decides ((a.commodity == b.commodity) && (sameb leg_side.the_type a.side b.side && (a.ratio == b.ratio))) (a ≡ b)
leg_decides a b =
    Decides-like _
    (λ same. ap (λ (x : ℕ). leg_row x a.side a.ratio) same.0
    ∙ ap (λ (x : LegSide). leg_row b.commodity x a.ratio) same.1.0
    ∙ ap (λ (x : ℕ). leg_row b.commodity b.side x) same.1.1)
    (λ e. (ap (λ (x : Leg). x.commodity) e, (ap (λ (x : Leg). x.side) e, ap (λ (x : Leg). x.ratio) e)))
    (Decides-and _ _ (Decides-eqb a.commodity b.commodity) (Decides-and _ _ (side_decides a.side b.side) (Decides-eqb a.ratio b.ratio)))

abbrev credit_spread_row : ℕ → ℕ → List Leg → CreditSpread
credit_spread_row rate count legs = record { rate = rate; count = count; legs = legs }

pub credit_spread_decides : (a b : CreditSpread) → Decides ((a.rate == b.rate) && ((a.count == b.count) && pointwise are_same_legs a.legs b.legs)) (a ≡ b)
credit_spread_decides a b =
    Decides-like _
    (λ same. ap (λ (x : ℕ). credit_spread_row x a.count a.legs) same.0
    ∙ ap (λ (x : ℕ). credit_spread_row b.rate x a.legs) same.1.0
    ∙ ap (λ (x : List Leg). credit_spread_row b.rate b.count x) same.1.1)
    (λ e. (ap (λ (x : CreditSpread). x.rate) e, (ap (λ (x : CreditSpread). x.count) e, ap (λ (x : CreditSpread). x.legs) e)))
    (Decides-and _ _ (Decides-eqb a.rate b.rate) (Decides-and _ _ (Decides-eqb a.count b.count) (slice_eq-Decides leg_decides a.legs b.legs (pointwise are_same_legs a.legs b.legs) refl)))

abbrev class_row : List ℕ → ℕ → ℕ → Class
class_row name price haircut = record { name = name; price = price; haircut = haircut }

pub class_decides : (a b : Class) → Decides (bytes_eq a.name b.name && ((a.price == b.price) && (a.haircut == b.haircut))) (a ≡ b)
class_decides a b =
    Decides-like _
    (λ same. ap (λ (x : List ℕ). class_row x a.price a.haircut) same.0
    ∙ ap (λ (x : ℕ). class_row b.name x a.haircut) same.1.0
    ∙ ap (λ (x : ℕ). class_row b.name b.price x) same.1.1)
    (λ e. (ap (λ (x : Class). x.name) e, (ap (λ (x : Class). x.price) e, ap (λ (x : Class). x.haircut) e)))
    (Decides-and _ _ (bytes_eq-Decides a.name b.name) (Decides-and _ _ (Decides-eqb a.price b.price) (Decides-eqb a.haircut b.haircut)))

abbrev spot_row : ℕ → ℕ → ℕ → ℕ → SpotCharge
spot_row commodity tier spread_rate outright_rate = record { commodity = commodity; tier = tier; spread_rate = spread_rate; outright_rate = outright_rate }

pub spot_decides : (a b : SpotCharge) → Decides ((a.commodity == b.commodity) && ((a.tier == b.tier) && ((a.spread_rate == b.spread_rate) && (a.outright_rate == b.outright_rate)))) (a ≡ b)
spot_decides a b =
    Decides-like _
    (λ same. ap (λ (x : ℕ). spot_row x a.tier a.spread_rate a.outright_rate) same.0
    ∙ ap (λ (x : ℕ). spot_row b.commodity x a.spread_rate a.outright_rate) same.1.0
    ∙ ap (λ (x : ℕ). spot_row b.commodity b.tier x a.outright_rate) same.1.1.0
    ∙ ap (λ (x : ℕ). spot_row b.commodity b.tier b.spread_rate x) same.1.1.1)
    (λ e. (ap (λ (x : SpotCharge). x.commodity) e, (ap (λ (x : SpotCharge). x.tier) e, (ap (λ (x : SpotCharge). x.spread_rate) e, ap (λ (x : SpotCharge). x.outright_rate) e))))
    (Decides-and _ _ (Decides-eqb a.commodity b.commodity) (Decides-and _ _ (Decides-eqb a.tier b.tier) (Decides-and _ _ (Decides-eqb a.spread_rate b.spread_rate) (Decides-eqb a.outright_rate b.outright_rate))))

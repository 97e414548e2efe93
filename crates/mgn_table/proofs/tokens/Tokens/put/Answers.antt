use Rattle.std.proofs.Common.{◌++◌, ◌∷◌, [], ◌∙◌, List, ap, subst, sym, rules}
use Rattle.boxcar.specs.Table.{Where}
use Rattle.mgn_params.specs.Tables.{Tables}
use Rattle.mgn_table.specs.Tokens.{AreTokens}
use Rattle.mgn_table.proofs.Pushed.{tokens-push}
use Rattle.mgn_table.proofs.tokens.Tokens.put.Goals as goal

pub invariant_of-self-in-Ok : goal.invariant_of-self-in-Ok
invariant_of-self-in-Ok g c =
    subst (λ (l : List (Where Tables)). AreTokens g.J.TableName.table l) (sym (c.push_reserved.ensures.items ∙ ap (λ (l : List (Where Tables)). l ++ c.in-Ok.seen ∷ []) c.reserve.ensures.items))
    (tokens-push g.J.TableName.table c.self.inside.row.items c.in-Ok.seen c.self.invariant (search rules) (search rules))

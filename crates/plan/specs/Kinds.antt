-- Model of the code: the kind of a node by its number, if it is one. The definitions go by the numbers.
use Rattle.std.specs.Prelude.{cond, ℕ, eqb, Result, Ok, Err}
use Rattle.plan.specs.Numbers.{kind_difference, kind_product, kind_limit, kind_comparison}
use Rattle.plan.specs.declared.kinds.Kind.{Kind}
use Rattle.plan.specs.declared.kinds.Kind.TheVariants.{Difference, Product, Limit, Comparison}

unfoldable pub kind_of : ℕ → Result Kind Unit
kind_of number =
    cond (eqb number kind_difference) (Ok Difference)
    (cond (eqb number kind_product) (Ok Product) (cond (eqb number kind_limit) (Ok Limit) (cond (eqb number kind_comparison) (Ok Comparison) (Err tt))))

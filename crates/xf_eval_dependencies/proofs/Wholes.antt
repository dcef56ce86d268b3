-- The whole expression, whose value counts as turned into a text.
use Rattle.std.proofs.Common.{◌≡◌}
use Rattle.xf_def_syntax.specs.declared.expr.Expr.{Expr}
use Rattle.xf_def_forest.specs.Forest.{Forest}
use Rattle.xf_def_forest.specs.Order.{in_order}
use Rattle.xf_def_forest.specs.Visit.{visits}
use Rattle.xf_funcs.specs.Called.{called}
use Rattle.xf_def_xpath.specs.declared.context.Context.{Context}
use Rattle.xf_def_xpath.specs.Asked.{converted}
use Rattle.xf_def_xpath.specs.Given.{Given}
use Rattle.xf_def_xpath.specs.Meaning.{focus_of}
use Rattle.xf_def_xpath.specs.Reads.{looks_of, reads_of, trace}
use Rattle.xf_eval_shape.specs.Over.{shape_at}
use Rattle.xf_eval_shape.proofs.Shapes.{Sound}
use Rattle.xf_eval_dependencies.specs.declared.asked.asked.Asked.{Asked}
use Rattle.xf_eval_dependencies.specs.Asked.Tells.{Stands, Tells}
use Rattle.xf_eval_dependencies.proofs.AskedLemmas.Ends.{told-looks, told-reads}

module _ (forest : Forest) (sound : Sound forest) (given : Given) (x : Expr) (context : Context) (told : Asked)
    (tells : Tells forest.nodes told (converted (shape_at given forest.nodes context) ((trace x).asked (shape_at given forest.nodes context) (focus_of context)))) where
  pub reads-are : Stands forest.nodes told → in_order (visits forest.nodes) told.reads ≡ reads_of called given forest.nodes x context
  reads-are h = told-reads forest sound told _ h tells

  pub looks-are : in_order (visits forest.nodes) told.looks ≡ looks_of called given forest.nodes x context
  looks-are = told-looks forest sound told _ tells

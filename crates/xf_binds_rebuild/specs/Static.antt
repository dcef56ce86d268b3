-- Binds of which it is told over the shape of the data what they select, read and look at (XForms 1.1, section 6.1): each of their
-- expressions is fixed.
use Rattle.std.specs.Prelude.{◌≡◌, Bool, true, ◌&&◌, List, Option, Some, None}
use Rattle.std.specs.List.{list_all}
use Rattle.xf_def_syntax.specs.declared.expr.Expr.{Expr}
use Rattle.xf_def_syntax.specs.declared.form.Bind.{Bind}
use Rattle.xf_def_syntax.specs.declared.form.Properties.{Properties}
use Rattle.xf_def_model.specs.declared.property.Property.{Property}
use Rattle.xf_def_model.specs.declared.property.Property.TheVariants.{Kind, Calculate, Relevant, Readonly, Required, Constraint}
use Rattle.xf_eval_shape.specs.Fixed.{is_fixed}

-- the expression of a property; a type has none
abbrev pub expr_in : Properties → Property → Option Expr
expr_in properties Kind = None
expr_in properties Calculate = properties.calculate
expr_in properties Relevant = properties.relevant
expr_in properties Readonly = properties.readonly
expr_in properties Required = properties.required
expr_in properties Constraint = properties.constraint

abbrev pub fixed_if : Option Expr → Bool
fixed_if None = true
fixed_if (Some expr) = is_fixed expr

abbrev pub is_fixed_bind : Bind → Bool
is_fixed_bind bind =
    is_fixed bind.node_set && fixed_if bind.properties.calculate && fixed_if bind.properties.relevant && fixed_if bind.properties.readonly
    && fixed_if bind.properties.required && fixed_if bind.properties.constraint

abbrev pub AreFixed : List Bind → Type 0
AreFixed binds = list_all is_fixed_bind binds ≡ true

-- What the machine is given beside a form: the functions of expressions, the rule of types, and each budget and limit.
use Rattle.std.specs.Prelude.{ℕ, List}
use Rattle.xf_base.specs.Limits.{answer_limit, turn_limit, dispatch_limit, pass_limit, note_limit, made_limit, copy_limit, edge_limit}
use Rattle.xf_schema.specs.declared.written.Restriction.{Restriction}
use Rattle.xf_def_values.specs.Functions.{Functions}
use Rattle.xf_def_model.specs.Properties.{Meets}
use Rattle.xf_def_model.specs.Settled.{Bounds, bounds}

-- the functions, the rule of types, the budgets and the limits
pub record Profile : Type 0 where
  pub functions : Functions
  -- whether a text meets a type, where these are the types by restriction of the form
  pub meets : List Restriction → Meets
  -- those of strings, and of the forest
  pub bounds : Bounds
  -- the turns of one event, how deep its dispatches nest, and its calls of the store
  pub turns : ℕ
  pub depth : ℕ
  pub sends : ℕ
  -- passes over the indexes at one time
  pub passes : ℕ
  -- bytes of note lines in one event
  pub notes : ℕ
  -- nodes made in one event
  pub made : ℕ
  -- control copies and items
  pub controls : ℕ
  -- what all entries read and look at
  pub edges : ℕ

-- those of every form: budgets and limits, over the functions and the rule of types that a processor has
abbrev pub usual : Functions → (List Restriction → Meets) → Profile
usual functions meets = record {
  functions = functions;
  meets = meets;
  bounds = bounds;
  turns = turn_limit;
  depth = dispatch_limit;
  sends = answer_limit;
  passes = pass_limit;
  notes = note_limit;
  made = made_limit;
  controls = copy_limit;
  edges = edge_limit;
}

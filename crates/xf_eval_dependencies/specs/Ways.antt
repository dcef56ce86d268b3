-- What a call asks, as the walk tells the functions apart by what they ask of their arguments.
use Rattle.std.specs.Prelude.{ℕ, List, [], ◌∷◌, map}
use Rattle.std.specs.List.{flat_map}
use Rattle.xf_def_syntax.specs.declared.expr.Expr.{Expr}
use Rattle.xf_def_xpath.specs.declared.context.Context.{Context}
use Rattle.xf_def_xpath.specs.Asked.{Asked, list_around, plainly, tightly, both, as_truth, as_plain, all_read, converted}
use Rattle.xf_def_xpath.specs.AskedCalls.{all_converted, argument, computed, either, own_argument, with_nodes}
use Rattle.xf_def_xpath.specs.Binding.{as_list}
use Rattle.xf_def_xpath.specs.Given.{Given}
use Rattle.xf_def_xpath.specs.Reads.{trace}
use Rattle.xf_def_xpath.specs.Setting.{Setting, Focus}
use Rattle.xf_eval.specs.declared.kinds.Kind.{Kind}
use Rattle.xf_eval.specs.declared.kinds.Kind.TheVariants as kind
use Rattle.xf_eval_shape.specs.Bound.{document_by, literal_id}
use Rattle.xf_eval_dependencies.specs.declared.ways.Part.{Part}
use Rattle.xf_eval_dependencies.specs.declared.ways.Part.TheVariants as part
use Rattle.xf_eval_dependencies.specs.declared.ways.Way.{Way}
use Rattle.xf_eval_dependencies.specs.declared.ways.Way.TheVariants as way

abbrev pub way_in : Kind → Way
way_in kind.Asking = way.Asking
way_in kind.Plainly = way.All
way_in kind.Owning = way.Own part.First
way_in kind.Boolean = way.One part.Truth
way_in kind.Not = way.One part.Truth
way_in (kind.Truth b) = way.Truth
way_in kind.Choosing = way.Choosing
way_in kind.Branching = way.Branching
way_in kind.Counting = way.One part.Plain
way_in kind.CountingFilled = way.One part.Each
way_in kind.Adding = way.One part.Each
way_in kind.Averaging = way.One part.Each
way_in kind.Greatest = way.One part.Each
way_in kind.Least = way.One part.Each
way_in kind.LocalName = way.Own part.Plain
way_in kind.Name = way.Own part.Plain
way_in kind.Namespace = way.Own part.Plain
way_in kind.Number = way.Own part.First
way_in kind.Text = way.Own part.First
way_in kind.Current = way.Current
way_in kind.Event = way.Nothing
way_in kind.Index = way.All
way_in kind.Instance = way.Instance
way_in kind.Last = way.Nothing
way_in kind.Position = way.Nothing

-- what is made of what one argument asks
abbrev pub part_asked : Part → Setting → Asked → Asked
part_asked part.Truth s a = as_truth a
part_asked part.Plain s a = as_plain a
part_asked part.First s a = converted s a
part_asked part.Each s a = all_read s a

-- a node that is given with the list in which it stands, for which something was asked
abbrev pub with_lists : Setting → List ℕ → Asked → Asked
with_lists s ns a = with_nodes ns (flat_map (list_around s.all) ns) a

-- the arguments of a call in a setting and a focus; the id of an instance is written
abbrev pub asked_by : Way → Given → Context → List Expr → Setting → Focus → Asked
asked_by way.Nothing given context es s c = plainly [] []
asked_by way.Truth given context es s c = as_truth (plainly [] [])
asked_by way.Current given context es s c = tightly (s.current ∷ [])
asked_by way.All given context es s c = all_converted (map trace es) s c
asked_by way.Asking given context es s c = as_truth (all_converted (map trace es) s c)
asked_by way.Instance given context es s c = with_lists s (as_list (document_by given context.model (literal_id es))) (all_converted (map trace es) s c)
asked_by way.Choosing given context es s c = either s (as_plain (argument 0 (map trace es) s c)) (either s (argument 1 (map trace es) s c) (argument 2 (map trace es) s c))
asked_by way.Branching given context es s c = both (argument 0 (map trace es) s c) (computed s (argument 1 (map trace es) s c) (argument 2 (map trace es) s c))
asked_by (way.Own made) given context es s c = part_asked made s (own_argument (map trace es) s c)
asked_by (way.One made) given context es s c = part_asked made s (argument 0 (map trace es) s c)

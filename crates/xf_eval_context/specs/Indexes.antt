-- The indexes of repeats, as code has them and as definitions do (XForms 1.1, section 9.3.1).
use Rattle.std.specs.Prelude.{ℕ, Bool, false, List, [], ◌∷◌, map, Option, Some, None, option_map, bytes_eq}
use Rattle.std.specs.List.{flat_map}
use denote.Ref.{Bor}
use Rattle.xf_def_syntax.specs.declared.form.Form.{Form}
use Rattle.xf_def_ui.specs.Elements.{element_at}
use Rattle.xf_def_ui.specs.Index as ui
use Rattle.xf_def_ui.specs.Interface.{Interface, interface_of}
use Rattle.xf_eval_context.specs.declared.indexes.Index.{Index}

abbrev pub seen_index : Index → ui.Index
seen_index i = record { index = i.index; node = option_map (λ n. n.number) i.node }

-- those of these repeats by their ids
abbrev pub named_among : Interface → List ui.Index → List ℕ → List (List ℕ × ℕ)
named_among f indexes repeats = flat_map (λ r. ui.if_named (element_at f r).id (ui.index_of f indexes r).index) repeats

-- the first is an id of its own, and is the second
abbrev pub has_id : List ℕ → List ℕ → Bool
has_id [] id = false
has_id (c ∷ cs) id = bytes_eq (c ∷ cs) id

-- those that expressions see, by the ids of the repeats: none of a form without rows
abbrev pub indexes_in : Form → Option (Bor (List Index)) → List (List ℕ × ℕ)
indexes_in form None = []
indexes_in form (Some indexes) = ui.named_indexes (interface_of form) (map seen_index indexes.now)

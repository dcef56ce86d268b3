-- The nodes under which nothing is inserted and nothing deleted: those that are readonly (XForms 1.1, sections 10.3 and 10.4).
use Rattle.std.specs.Prelude.{ℕ, Bool, false, not, List, [], ◌∷◌, filter, map, ℤ, Option}
use Rattle.xf_def_forest.specs.declared.content.Node.{Node}
use Rattle.xf_def_forest.specs.Visit.{has, visits}
use Rattle.xf_def_model.specs.declared.asked.DeleteAsked.{DeleteAsked}
use Rattle.xf_def_model.specs.declared.asked.InsertAsked.{InsertAsked}
use Rattle.xf_def_model.specs.Places.{Place}
use Rattle.xf_def_ui.specs.declared.marks.Marks.{Marks}
use Rattle.xf_def_machine.specs.Insert.{is_written}
use Rattle.xf_def_machine.specs.Program.{InsertBy}

-- by the properties that are told of each node
abbrev pub closed_by : (ℕ → Marks) → List Node → List ℕ
closed_by marks nodes = filter (λ n. (marks n).readonly) (map (λ x. x.number) (visits nodes))

-- what an insert is planned by
abbrev pub insert_asked : List ℕ → InsertBy → ℕ → List ℕ → List ℕ → Option ℤ → InsertAsked
insert_asked closed w context set origin at = record {
  set = set;
  context = record { number = context; place = 0 };
  given = is_written w.context;
  origin = origin;
  at = at;
  after = not w.is_before;
  closed = closed;
}

-- what a delete is planned by
abbrev pub delete_asked : List ℕ → List ℕ → Option ℤ → DeleteAsked
delete_asked closed set at = record { set = set; at = at; closed = closed }

-- the first of these places is under such a node
abbrev pub is_first_closed : List ℕ → List Place → Bool
is_first_closed closed [] = false
is_first_closed closed (p ∷ ps) = has p.parent closed

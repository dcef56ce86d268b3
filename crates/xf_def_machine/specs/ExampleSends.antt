-- Forms with a submission s, whose end adds a note, and a form with a select of which texts are set.
use Rattle.std.specs.Prelude.{ℕ, true, false, List, [], ◌∷◌, Some, None, codes}
use Rattle.xf_def_syntax.specs.declared.form.Method.{Method}
use Rattle.xf_def_syntax.specs.declared.form.Replace.{Replace}
use Rattle.xf_def_syntax.specs.declared.form.Selection.TheVariants.{Whole}
use Rattle.xf_def_syntax.specs.declared.form.Submission.{Submission}
use Rattle.xf_def_xpath.specs.Examples.{path, here, child}
use Rattle.xf_def_model.specs.Rules.{Rule}
use Rattle.xf_def_model.specs.Examples as bind
use Rattle.xf_def_ui.specs.Interface as sort
use Rattle.xf_def_machine.specs.Program.{Program}
use Rattle.xf_def_machine.specs.Program as role
use Rattle.xf_def_machine.specs.Examples
use Rattle.xf_def_machine.specs.Examples.{Part, element, bound, named, saying, model, instance, on, to, event_of, element_at, text_at}

-- ---- a submission that sends the whole data

-- by this method, for this replacement, under this name
abbrev pub sending : Method → Replace → List ℕ → Submission
sending method replace resource = record {
  model = 0;
  id = codes "s";
  selection = Whole;
  is_relevant = true;
  is_validated = true;
  resource = resource;
  method = method;
  replace = replace;
  instance = None;
  target = None;
  is_serialized = false;
}

-- a failure is told by its type, a success by `done`
abbrev pub parts : List Part
parts =
    element None (1 ∷ []) sort.host role.other
    ∷ model (2 ∷ 3 ∷ [])
    ∷ instance
    ∷ named (codes "s") (element (Some 1) (4 ∷ 6 ∷ []) sort.other (role.submission 0))
    ∷ on (codes "xforms-submit-error") 3 (5 ∷ []) role.message
    ∷ element (Some 4) [] (sort.inline (Some (event_of (codes "error-type")))) role.other
    ∷ saying (codes "done") (on (codes "xforms-submit-done") 3 [] role.message)
    ∷ []

-- a form whose element 3 is this submission
abbrev pub with_submission : Submission → Program → Program
with_submission s form = record form { submissions = s ∷ []; submission_elements = 3 ∷ [] }

-- ["d","1"]
abbrev pub one : Examples.Tree
one = element_at 0 (codes "d") ∷ text_at 1 (codes "1") ∷ []

-- ["d",["x","1"]]
abbrev pub nest : Examples.Tree
nest = element_at 0 (codes "d") ∷ element_at 1 (codes "x") ∷ text_at 2 (codes "1") ∷ []

-- a form with this submission, these binds and these data
abbrev pub submitting : Submission → List Rule → Examples.Tree → Program
submitting s rules document = with_submission s (Examples.form parts rules [] [] document)

-- binds of the document element
abbrev pub whole : Rule
whole = bind.bind (path (here false ∷ []))

-- what is sent is not relevant
abbrev pub never_relevant : List Rule
never_relevant = bind.relevant bind.no whole ∷ []

-- what is sent is not valid
abbrev pub never_valid : List Rule
never_valid = bind.constraint bind.no whole ∷ []

-- what is sent is readonly
abbrev pub never_open : List Rule
never_open = bind.readonly bind.yes whole ∷ []

-- ---- a select m on a, with one item, whose value is `x`; and a trigger t

-- a form with these binds
abbrev pub choosing : List Rule → Program
choosing rules = Examples.form
    (element None (1 ∷ 3 ∷ 7 ∷ []) sort.host role.other
    ∷ model (2 ∷ [])
    ∷ instance
    ∷ named (codes "m") (bound (to (codes "a")) (element (Some 0) (4 ∷ []) (sort.select false false) role.entry))
    ∷ element (Some 3) (5 ∷ 6 ∷ []) sort.item role.other
    ∷ saying (codes "X") (element (Some 4) [] sort.label role.other)
    ∷ saying (codes "x") (element (Some 4) [] (sort.item_value None) role.other)
    ∷ named (codes "t") (element (Some 0) [] sort.field role.trigger)
    ∷ []) rules [] [] (element_at 0 (codes "d") ∷ element_at 1 (codes "a") ∷ [])

-- a bind of a
abbrev pub of_a : Rule
of_a = bind.bind (path (child (codes "a") ∷ []))

-- Settled texts (XForms 1.1, sections 4.3.2 and 6.1.5): in one round each calculated node at once takes the text of its expression over the
-- data as they are; after as many rounds as there are calculated nodes no text changes any more, where no cycle stands. Texts have no
-- numbers here.
use Rattle.std.specs.Prelude.{ℕ, zero, suc, Bool, not, ◌&&◌, ◌||◌, List, [], ◌∷◌, ◌++◌, map, filter, find, length, count_by, sum_by, Option, Some, None, is_none, option_map, nat_lt, ◌==◌, if◌then◌else◌}
use Rattle.std.specs.List.{list_any}
use Rattle.xf_base.specs.Limits.{string_limit}
use Rattle.xf_def_forest.specs.Forest.{is_root}
use Rattle.xf_def_forest.specs.Limits.{Limits, limits, size_of}
use Rattle.xf_def_forest.specs.Visit.{Visit}
use Rattle.xf_def_forest.specs.Shape.{with_contents}
use Rattle.xf_def_xpath.specs.declared.value.Value.{Value}
use Rattle.xf_def_model.specs.Rules.{Scope}
use Rattle.xf_def_model.specs.Applied.{Entry, is_calculate}
use Rattle.xf_def_model.specs.Entries.{is_computed, value_of, text_of}

pub record Bounds : Type 0 where
  -- the most bytes of a string
  pub string : ℕ
  pub limits : Limits

-- those of every form
abbrev pub bounds : Bounds
bounds = record { string = string_limit; limits = limits }

-- ---- contents of nodes

-- nodes with their contents
abbrev pub Contents : Type 0
Contents = List (ℕ × List ℕ)

abbrev pub content_of : Contents → ℕ → Option (List ℕ)
content_of contents n = option_map (λ p. p.1) (find (λ p. p.0 == n) contents)

-- the data where these nodes have these contents
abbrev pub holding : List Visit → Contents → List Visit
holding all contents = with_contents (content_of contents) all

-- ---- rounds

abbrev pub calculates : List Entry → List Entry
calculates entries = filter is_calculate entries

-- a text that is too long counts as empty
abbrev pub fitting : ℕ → Option (List ℕ) → List ℕ
fitting most None = []
fitting most (Some text) = if nat_lt most (length text) then [] else text

abbrev pub content_by : Bounds → Scope → List Visit → Entry → ℕ × List ℕ
content_by b scope all e = (e.node, fitting b.limits.text (text_of (Some b.string) scope all e))

-- of all calculated nodes, over these visits
abbrev pub computed_over : Bounds → Scope → List Entry → List Visit → Contents
computed_over b scope entries all = map (content_by b scope all) (calculates entries)

abbrev pub round : Bounds → Scope → List Entry → List Visit → Contents → Contents
round b scope entries all contents = computed_over b scope entries (holding all contents)

abbrev pub rounds : Bounds → Scope → List Entry → List Visit → ℕ → Contents → Contents
rounds b scope entries all zero contents = contents
rounds b scope entries all (suc k) contents = rounds b scope entries all k (round b scope entries all contents)

-- as many as there are calculated nodes, from the contents that stand
abbrev pub settled_contents : Bounds → Scope → List Entry → List Visit → Contents
settled_contents b scope entries all = rounds b scope entries all (length (calculates entries)) []

abbrev pub settled : Bounds → Scope → List Entry → List Visit → List Visit
settled b scope entries all = holding all (settled_contents b scope entries all)

-- ---- the values of entries

pub record Valued : Type 0 where
  pub entry : Entry
  -- None where it has none yet
  pub value : Option Value

-- over the settled data
abbrev pub values_over : Bounds → Scope → List Entry → List Visit → List Valued
values_over b scope entries all = map (λ e. record { entry = e; value = value_of (Some b.string) scope all e }) (filter is_computed entries)

abbrev pub settled_values : Bounds → Scope → List Entry → List Visit → List Valued
settled_values b scope entries all = values_over b scope entries (settled b scope entries all)

-- ---- what refuses them, asked of the settled data

pub data Passed : Type 0 where
  -- a string passes its limit in the evaluation of an entry of this node
  long : ℕ → Passed
  -- the text of a calculate does
  text : Passed
  -- the nodes or all texts of the data do
  nodes : Passed
  all_texts : Passed

-- of a calculate a text is made
abbrev pub is_long : Bounds → Scope → List Visit → Entry → Bool
is_long b scope all e = is_none (value_of (Some b.string) scope all e) || (is_calculate e && is_none (text_of (Some b.string) scope all e))

abbrev pub is_over : ℕ → Option (List ℕ) → Bool
is_over most None = Bool.false
is_over most (Some cs) = nat_lt most (length cs)

abbrev pub if_passed : Bool → Passed → List Passed
if_passed b word = if b then word ∷ [] else []

abbrev pub passed_over : Bounds → Scope → List Entry → List Visit → List Passed
passed_over b scope entries all =
    map (λ e. long e.node) (filter (is_long b scope all) (filter is_computed entries))
    ++ if_passed (list_any (λ e. is_over b.limits.text (text_of (Some b.string) scope all e)) (calculates entries)) text
    ++ if_passed (nat_lt b.limits.nodes (count_by (λ x. not (is_root x.content)) all)) nodes
    ++ if_passed (nat_lt b.limits.all (sum_by (λ x. size_of x.content) all)) all_texts

-- each limit that is passed; the texts are settled where it is none
abbrev pub passed : Bounds → Scope → List Entry → List Visit → List Passed
passed b scope entries all = passed_over b scope entries (settled b scope entries all)

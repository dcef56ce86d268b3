-- What a recalculation evaluates, on small data.
use Rattle.std.proofs.Common.{◌≡◌, ℕ, false, List, [], ◌∷◌, map, Some, refl, codes}
use Rattle.xf_name.specs.declared.axis.Axis.TheVariants as axis
use Rattle.xf_def_syntax.specs.declared.expr.Test.TheVariants as test
use Rattle.xf_def_syntax.specs.declared.expr.Operator.TheVariants as operator
use Rattle.xf_def_forest.specs.declared.content.Node.{Node}
use Rattle.xf_def_forest.specs.Shape.{shape_of}
use Rattle.xf_def_xpath.specs.Asked.{Trace}
use Rattle.xf_def_xpath.specs.Examples.{child, step, up, path, number, call, two}
use Rattle.xf_def_model.specs.Rules.{Rule}
use Rattle.xf_def_model.specs.Applied.{Entry, all_entries}
use Rattle.xf_def_model.specs.Pertinent.{Changes, pertinent, pertinent_count}
use Rattle.xf_def_model.specs.Examples

abbrev entries_on : List Node → List Rule → List Entry
entries_on ns rules = all_entries (Examples.scope rules) (shape_of ns)

abbrev evaluated : List Node → List Rule → Changes → List ℕ
evaluated ns rules changes = map (λ e. e.node) (pertinent (Examples.scope rules) (shape_of ns) (entries_on ns rules) changes)

-- all entries stood as they are
abbrev changed : List Node → List Rule → List ℕ → List ℕ → Changes
changed ns rules texts lists = record { texts = texts; lists = lists; stood = entries_on ns rules }

abbrev by : List ℕ → Trace → Rule
by name t = Examples.calculate t (Examples.bind (Examples.to name))

abbrev a : List ℕ
a = codes "a"

abbrev b : List ℕ
b = codes "b"

abbrev c : List ℕ
c = codes "c"

abbrev e : List ℕ
e = codes "e"

-- e by ../c * 2, c by ../b + 1, b by ../a + 1, d relevant true()
abbrev chain : List Rule
chain =
    by e (two (Examples.beside c) operator.Multiply (number 2)) ∷ by c (two (Examples.beside b) operator.Add (number 1))
    ∷ by b (two (Examples.beside a) operator.Add (number 1)) ∷ Examples.relevant Examples.yes (Examples.bind (path [])) ∷ []

-- ---- texts that changed

nothing_changed : evaluated Examples.four chain (changed Examples.four chain [] []) ≡ []
nothing_changed = refl

-- not the direct readers alone
all_that_follow : evaluated Examples.four chain (changed Examples.four chain (2 ∷ []) []) ≡ 6 ∷ 5 ∷ 4 ∷ []
all_that_follow = refl

three_of_four : pertinent_count (Examples.scope chain) (shape_of Examples.four) (entries_on Examples.four chain) (changed Examples.four chain (2 ∷ []) []) ≡ 3
three_of_four = refl

-- c was set by hand: its own calculate, and what reads it, and not b before it
a_calculated_node : evaluated Examples.four chain (changed Examples.four chain (5 ∷ []) []) ≡ 6 ∷ 5 ∷ []
a_calculated_node = refl

-- d relevant .: reads d, of whose text that of a is a part
abbrev of_all : List Rule
of_all = Examples.relevant (path []) (Examples.bind (path [])) ∷ []

an_ancestor_is_read : evaluated Examples.four of_all (changed Examples.four of_all (2 ∷ []) []) ≡ 1 ∷ []
an_ancestor_is_read = refl

-- b relevant ../a: the whole expression counts as turned into a text
abbrev of_a : List Rule
of_a = Examples.relevant (Examples.beside a) (Examples.bind (Examples.to b)) ∷ []

a_truth_reads_too : evaluated Examples.four of_a (changed Examples.four of_a (2 ∷ []) []) ≡ 4 ∷ []
a_truth_reads_too = refl

-- e by count(../*): no text counts
abbrev counted : List Rule
counted = by e (call 8 (path (up false ∷ step axis.Child test.AnyName [] ∷ []) ∷ [])) ∷ []

a_count_reads_nothing : evaluated Examples.four counted (changed Examples.four counted (2 ∷ []) []) ≡ []
a_count_reads_nothing = refl

-- ---- lists in which a node came or went

a_count_looks : evaluated Examples.four counted (changed Examples.four counted [] (1 ∷ [])) ≡ 6 ∷ []
a_count_looks = refl

not_at_other_lists : evaluated Examples.four counted (changed Examples.four counted [] (2 ∷ [])) ≡ []
not_at_other_lists = refl

-- reading a text looks at the lists from its node down
below_what_is_read : evaluated Examples.four of_a (changed Examples.four of_a [] (2 ∷ [])) ≡ 4 ∷ []
below_what_is_read = refl

-- ---- entries that did not stand, or stood at another place

-- two rows; before, there were three
abbrev row_no : Rule
row_no = Examples.bind (path (child (codes "row") ∷ Examples.at (codes "no") ∷ []))

abbrev by_position : List Rule
by_position = record row_no { calculate = Some (Examples.placed (call 29 [])) } ∷ []

abbrev by_one : List Rule
by_one = Examples.calculate (number 1) row_no ∷ []

abbrev moved : Entry → Entry
moved e = record e { size = 3 }

abbrev after_a_delete : List Node → List Rule → Changes
after_a_delete ns rules = record { texts = []; lists = []; stood = map moved (entries_on ns rules) }

a_place_is_asked : evaluated Examples.numbered by_position (after_a_delete Examples.numbered by_position) ≡ 3 ∷ 5 ∷ []
a_place_is_asked = refl

and_has_not_changed : evaluated Examples.numbered by_position (changed Examples.numbered by_position [] []) ≡ []
and_has_not_changed = refl

no_place_is_asked : evaluated Examples.numbered by_one (after_a_delete Examples.numbered by_one) ≡ []
no_place_is_asked = refl

never_stood : evaluated Examples.numbered by_one (record { texts = []; lists = []; stood = [] }) ≡ 3 ∷ 5 ∷ []
never_stood = refl

-- the same expression of another bind is another entry
abbrev of_another_bind : Entry → Entry
of_another_bind e = record e { bind = 1 }

of_the_other_bind :
    evaluated Examples.numbered by_one (record { texts = []; lists = []; stood = map of_another_bind (entries_on Examples.numbered by_one) })
    ≡ 3 ∷ 5 ∷ []
of_the_other_bind = refl

-- what reads a calculate that is evaluated anew follows it
abbrev without_last : List Entry → List Entry
without_last [] = []
without_last (x ∷ []) = []
without_last (x ∷ y ∷ ys) = x ∷ without_last (y ∷ ys)

abbrev two_binds : List Rule
two_binds = by c (Examples.beside b) ∷ by b (Examples.beside a) ∷ []

a_new_calculate : evaluated Examples.four two_binds (record { texts = []; lists = []; stood = without_last (entries_on Examples.four two_binds) }) ≡ 5 ∷ 4 ∷ []
a_new_calculate = refl

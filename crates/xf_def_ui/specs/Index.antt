-- The indexes of repeats, each with the node at it, and how passes over all repeats bring them up to date (XForms 1.1, section 9.3.1).
use Rattle.std.specs.Prelude.{ℕ, zero, suc, Bool, true, false, ◌&&◌, List, [], ◌∷◌, length, min, max, Option, Some, None, option_map, option_and_then, Result, Ok, Err, get_or, slice_set, ◌==◌, if◌then◌else◌}
use Rattle.std.specs.List.{list_any, flat_map, position_or_len}
use Rattle.xf_def_forest.specs.Visit.{has}
use Rattle.xf_def_xpath.specs.Setting.{◌>>=◌, each}
use Rattle.xf_def_ui.specs.Interface.{Interface}
use Rattle.xf_def_ui.specs.Elements.{element_at, ancestors, repeats_around, repeat_number}
use Rattle.xf_def_ui.specs.Around.{Around}
use Rattle.xf_def_ui.specs.Rows.{rows_of, row_at}

-- the index of a repeat, from 1 or 0 without rows, and the node at it
pub record Index : Type 0 where
  pub index : ℕ
  pub node : Option ℕ

-- that of a repeat without rows
abbrev pub unset : Index
unset = record { index = 0; node = None }

-- the number of a repeat among the repeats
abbrev pub number_of : Interface → ℕ → ℕ
number_of f r = repeat_number (element_at f r).sort

-- that of a repeat, among those of all repeats
abbrev pub index_of : Interface → List Index → ℕ → Index
index_of f indexes r = get_or indexes (number_of f r) unset

-- the indexes with this one for a repeat
abbrev pub with_index : Interface → ℕ → Index → List Index → List Index
with_index f r index indexes = slice_set indexes (number_of f r) index

-- the indexed rows of the repeats around an element, the outermost first: None where an index is 0
abbrev pub indexed_rows : Interface → List Index → ℕ → Option (List ℕ)
indexed_rows f indexes n = each (λ r. (index_of f indexes r).node) (repeats_around f n)

-- a repeat has an index by name where it has an id
abbrev pub if_named : List ℕ → ℕ → List (List ℕ × ℕ)
if_named [] index = []
if_named (c ∷ cs) index = (c ∷ cs, index) ∷ []

-- the indexes of the repeats by their ids
abbrev pub named_indexes : Interface → List Index → List (List ℕ × ℕ)
named_indexes f indexes = flat_map (λ r. if_named (element_at f r).id (index_of f indexes r).index) f.repeats

-- the surroundings of expressions that are evaluated with these indexes, outside an event
abbrev pub seeing : Interface → List Index → Around → Around
seeing f indexes a = record a { given = record a.given { indexes = named_indexes f indexes; event = None } }

-- the rows under a chain of outer rows: none where that lacks one
abbrev pub rows_under : Interface → Around → ℕ → Option (List ℕ) → Option (List ℕ)
rows_under f a r None = Some []
rows_under f a r (Some outer) = rows_of f a outer r

-- the rows of a repeat under the indexed rows of the repeats around it
abbrev pub rows_now : Interface → Around → List Index → ℕ → Option (List ℕ)
rows_now f a indexes r = rows_under f (seeing f indexes a) r (indexed_rows f indexes r)

-- by the first case that applies: how many rows, the last one just inserted, the kept node, the old index; and whether those inside start anew
abbrev pub by_lines : ℕ → Option ℕ → Option ℕ → ℕ → ℕ × Bool
by_lines zero added kept old = (0, true)
by_lines (suc k) (Some place) kept old = (place, true)
by_lines (suc k) None (Some place) old = (place, false)
by_lines (suc k) None None old = (min (max old 1) (suc k), true)

-- the place of a node among the rows, from 1
abbrev pub place_in : List ℕ → ℕ → Option ℕ
place_in rows n = if has n rows then Some (suc (position_or_len (λ m. m == n) rows)) else None

-- the later place, where there is one
abbrev pub later_or : Option ℕ → Option ℕ → Option ℕ
later_or None earlier = earlier
later_or (Some later) earlier = Some later

-- the last of the rows from this place on that is among the added nodes
abbrev pub last_from : ℕ → List ℕ → List ℕ → Option ℕ
last_from place added [] = None
last_from place added (n ∷ ns) = later_or (last_from (suc place) added ns) (if has n added then Some place else None)

-- the line that applies to these rows, the kept node, the old index and the nodes that were just inserted
abbrev pub index_rule : List ℕ → Option ℕ → ℕ → List ℕ → ℕ × Bool
index_rule rows kept old added = by_lines (length rows) (last_from 1 added rows) (option_and_then (place_in rows) kept) old

-- this index, with the row at it
abbrev pub index_at : List ℕ → ℕ → Index
index_at rows k = record { index = k; node = row_at rows k }

-- how far a pass has come, and in which repeats those inside start anew
pub record Pass : Type 0 where
  pub indexes : List Index
  pub restarted : List ℕ

-- a repeat that starts anew has its first row; so have those inside it
abbrev pub ruled : Bool → List ℕ → Index → List ℕ → ℕ × Bool
ruled true rows old added = (min 1 (length rows), true)
ruled false rows old added = index_rule rows old.node old.index added

-- the repeat has its new index, and is noted where those inside start anew
abbrev pub passed : Interface → ℕ → List ℕ → Pass → ℕ × Bool → Pass
passed f r rows s new = record {
  indexes = with_index f r (index_at rows new.0) s.indexes;
  restarted = if new.1 then r ∷ s.restarted else s.restarted;
}

-- a repeat around this one was noted in this pass
abbrev pub begins_anew : Interface → Pass → ℕ → Bool
begins_anew f s r = list_any (λ n. has n s.restarted) (ancestors f r)

-- each repeat sees the indexes of those before it as they are by now
abbrev pub pass_over : Interface → Around → List ℕ → Pass → List ℕ → Option Pass
pass_over f a added s [] = Some s
pass_over f a added s (r ∷ rs) = do
  rows ← rows_now f a s.indexes r
  pass_over f a added (passed f r rows s (ruled (begins_anew f s r) rows (index_of f s.indexes r) added)) rs

-- one pass over all repeats, with what was just inserted
abbrev pub pass : Interface → Around → List ℕ → List Index → Option (List Index)
pass f a added indexes = option_map (λ s. s.indexes) (pass_over f a added (record { indexes = indexes; restarted = [] }) f.repeats)

-- why the indexes are not brought up to date: a string is too long, or one pass more than the most would be needed
pub data Stop : Type 0 where
  long : Stop
  passes : Stop

-- both have the same node, or none
abbrev pub same_node : Option ℕ → Option ℕ → Bool
same_node None None = true
same_node (Some m) (Some n) = m == n
same_node m n = false

-- no index and no node at one is another
abbrev pub same_indexes : List Index → List Index → Bool
same_indexes [] [] = true
same_indexes (i ∷ is) (j ∷ js) = (i.index == j.index) && same_node i.node j.node && same_indexes is js
same_indexes is js = false

-- another pass, unless the last one changed nothing
abbrev pub again_unless : Bool → (List Index → Result (List Index) Stop) → List Index → Result (List Index) Stop
again_unless true again next = Ok next
again_unless false again next = again next

-- what follows a pass that gave these indexes
abbrev pub after_pass : (List Index → Result (List Index) Stop) → List Index → Option (List Index) → Result (List Index) Stop
after_pass again indexes None = Err long
after_pass again indexes (Some next) = again_unless (same_indexes indexes next) again next

-- with at most so many passes; the nodes that were just inserted count in each
abbrev pub brought_up : ℕ → Interface → Around → List ℕ → List Index → Result (List Index) Stop
brought_up zero f a added indexes = Err passes
brought_up (suc most) f a added indexes = after_pass (brought_up most f a added) indexes (pass f a added indexes)

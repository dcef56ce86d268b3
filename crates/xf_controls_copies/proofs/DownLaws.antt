-- The copies of an element and of those in it, by what is handed down, are those of the places below it.
use Rattle.std.proofs.Common.{◌≡◌, ℕ, zero, suc, ◌+◌, ◌≤◌, Bool, true, false, cond, not, ◌&&◌, ◌||◌, List, [], ◌∷◌, ◌++◌, length, Option, Some, None, refl, sym, ap, ◌∙◌, arith}
use Rattle.xf_def_xpath.specs.Setting.{◌>>=◌}
use Rattle.xf_def_ui.specs.declared.marks.Marks.{Marks}
use Rattle.xf_def_ui.specs.Interface.{Bound, unbound, nodes, by_bind, Sort, Interface, other, repeated}
use Rattle.xf_def_ui.specs.Elements.{element_at, ancestors, children, is_control, is_repeat_sort}
use Rattle.xf_def_ui.specs.Around.{Around}
use Rattle.xf_def_ui.specs.Context.{Inside, enter, enter_by, scope_of}
use Rattle.xf_def_ui.specs.Copies.{Copy}
use Rattle.xf_def_ui.specs.Rows.{rows_of}
use Rattle.xf_controls.specs.Below.{is_bound, is_passed, shows, some_shown, unless}
use Rattle.xf_controls.proofs.BelowLaws.{Parents, copy_at, deeper, each-child}
use Rattle.xf_controls.proofs.PathLaws.{ancestors-child, inside-child}
use Rattle.xf_controls_copies.specs.Handed.{Handed, inside_of, node_in, copy_by, handed_by, handed_in, rows_in, handed_row}
use Rattle.xf_controls_copies.specs.Made.{all_of, of_parts}
use Rattle.xf_controls_copies.specs.Walk.{copies_by, copies_from, in_control, in_other, in_rows, of_control}
use Rattle.xf_controls_copies.proofs.GatherLaws.{all-same, below, below-control, below-other, first, inner, parts-are}
use Rattle.xf_controls_copies.proofs.HandedLaws.{Stands, copy-is, inside-is, rows-are, stands-control, stands-other, stands-row}
use Rattle.xf_controls_copies.proofs.LostLaws.{lost-among, lost-below, none-shown}

-- ---- what is passed over

passed-none : (bound shown : Bool) → (bound && not shown) ≡ true → shown ≡ false
passed-none true true h = cc h
passed-none true false h = refl
passed-none false shown h = cc h

asked-some : (bound control some : Bool) → (bound && not (control || some)) ≡ false → bound ≡ true → control ≡ false → some ≡ true
asked-some true true some h b c = cc c
asked-some true false true h b c = refl
asked-some true false false h b c = cc h
asked-some false control some h b c = cc b

-- what is not bound selects nothing that is too long
unbound-entered : (a : Around) (s : Inside) (model : ℕ) (binding : Bound) (sort : Sort) → is_control sort ≡ false → enter_by a s model binding sort ≡ None → is_bound binding ≡ true
unbound-entered a s model (nodes m) sort c h = refl
unbound-entered a s model (by_bind k) sort c h = refl
unbound-entered a s model unbound (repeated k start) c h = cc c
unbound-entered a s model unbound other c h = cc h
unbound-entered a s model unbound sort c h = cc h

module _ (f : Interface) (a : Around) (marks : ℕ → Marks) (cases : List ℕ) (parents : Parents f) where
  abbrev made : ℕ × List ℕ → Option Copy
  made = copy_at f a marks cases

  abbrev Comes : ℕ → Type 0
  Comes most = (n : ℕ) (h : Handed) → Stands f a marks cases h n → length (ancestors f n) + most ≤ length f.elements → copies_from most f a marks cases h n ≡ below made f a most h.rows n

  module _ (most : ℕ) (further : Comes most) (n : ℕ) (h : Handed) (stands : Stands f a marks cases h n) (deep : length (ancestors f n) + suc most ≤ length f.elements) where
    way : (m : ℕ) → (element_at f m).parent ≡ Some n → ancestors f m ≡ n ∷ ancestors f n
    way m e = ancestors-child f n m e (omega (arith, deep))

    -- those in it, where this is handed down to each
    parts-come : (d : Handed) → ((m : ℕ) → ancestors f m ≡ n ∷ ancestors f n → Stands f a marks cases d m)
        → of_parts (copies_from most f a marks cases d) (element_at f n).parts ≡ all_of (below made f a most d.rows) (children f n)
    parts-come d down =
        parts-are (copies_from most f a marks cases d) (below made f a most d.rows) (element_at f n).parts
        (each-child (λ m. (element_at f m).parent ≡ Some n) (λ m. copies_from most f a marks cases d m ≡ below made f a most d.rows m)
        (λ m e. further m d (down m (way m e)) (deeper f n m most (way m e) deep)) (element_at f n).parts (parents n))

    -- ---- a control or container

    rows-come : is_repeat_sort (element_at f n).sort ≡ true
        → in_rows (copies_from most f a marks cases) f a h n ≡ (rows_of f a h.rows n >>= all_of (λ m. all_of (below made f a most (h.rows ++ m ∷ [])) (children f n)))
    rows-come row = by (rows_in f a h (element_at f n)) refl ∙ sym (ap (λ o. o >>= all_of (λ m. all_of (below made f a most (h.rows ++ m ∷ [])) (children f n))) (rows-are f a marks cases h n stands))
      where
        by : (o : Option (List ℕ)) → rows_in f a h (element_at f n) ≡ o
            → (o >>= λ set. all_of (λ m. of_parts (copies_from most f a marks cases (handed_row f h (element_at f n) set m)) (element_at f n).parts) set)
            ≡ (o >>= all_of (λ m. all_of (below made f a most (h.rows ++ m ∷ [])) (children f n)))
        by None rows = refl
        by (Some set) rows =
            all-same (λ m. of_parts (copies_from most f a marks cases (handed_row f h (element_at f n) set m)) (element_at f n).parts) (λ m. all_of (below made f a most (h.rows ++ m ∷ [])) (children f n))
            (λ r. parts-come (handed_row f h (element_at f n) set r) (λ m way_down. stands-row f a marks cases h n stands m way_down set r row rows)) set

    inner-comes : (selected : Option ℕ) → is_control (element_at f n).sort ≡ true → node_in f a h (element_at f n) ≡ Some selected
        → in_control (copies_from most f a marks cases) f a marks cases h n selected ≡ inner made f a most h.rows n (element_at f n).sort
    inner-comes selected control bound = by (element_at f n).sort rows-come no-row
      where
        no-row : is_repeat_sort (element_at f n).sort ≡ false
            → of_parts (copies_from most f a marks cases (handed_by f marks cases h n (element_at f n) selected)) (element_at f n).parts ≡ all_of (below made f a most h.rows) (children f n)
        no-row row = parts-come (handed_by f marks cases h n (element_at f n) selected) (λ m way_down. stands-control f a marks cases h n stands m way_down selected control row bound)

        by : (sort : Sort)
            → (is_repeat_sort sort ≡ true → in_rows (copies_from most f a marks cases) f a h n ≡ (rows_of f a h.rows n >>= all_of (λ m. all_of (below made f a most (h.rows ++ m ∷ [])) (children f n))))
            → (is_repeat_sort sort ≡ false → of_parts (copies_from most f a marks cases (handed_by f marks cases h n (element_at f n) selected)) (element_at f n).parts ≡ all_of (below made f a most h.rows) (children f n))
            → cond (is_repeat_sort sort) (in_rows (copies_from most f a marks cases) f a h n) (of_parts (copies_from most f a marks cases (handed_by f marks cases h n (element_at f n) selected)) (element_at f n).parts)
            ≡ inner made f a most h.rows n sort
        by (repeated k start) with_rows without = with_rows refl
        by sort with_rows without = without refl

    control-comes : is_control (element_at f n).sort ≡ true → of_control (copies_from most f a marks cases) f a marks cases h n ≡ below made f a (suc most) h.rows n
    control-comes control =
        by (node_in f a h (element_at f n)) refl
        ∙ sym (ap (λ own. first made own (inner made f a most h.rows n (element_at f n).sort)) (copy-is f a marks cases h n stands))
        ∙ sym (below-control made f a most h.rows n control)
      where
        by : (o : Option (Option ℕ)) → node_in f a h (element_at f n) ≡ o
            → (o >>= λ node. copy_by f a marks h n (element_at f n) node >>= λ own. in_control (copies_from most f a marks cases) f a marks cases h n node >>= λ more. Some (own ∷ more))
            ≡ first made (o >>= copy_by f a marks h n (element_at f n)) (inner made f a most h.rows n (element_at f n).sort)
        by None bound = refl
        by (Some node) bound = ap (first made (copy_by f a marks h n (element_at f n) node)) (inner-comes node control bound)

    -- ---- any other element

    lost-child : is_control (element_at f n).sort ≡ false → enter f a (inside_of h) (element_at f n) ≡ None → is_passed most f (element_at f n) ≡ false
        → all_of (below made f a most h.rows) (children f n) ≡ None
    lost-child control lost passed =
        let e = element_at f n in
        lost-among (below made f a most h.rows) (shows most f) e.parts
        (each-child (λ m. (element_at f m).parent ≡ Some n) (λ m. shows most f m ≡ true → below made f a most h.rows m ≡ None)
        (λ m p s. lost-below f a marks cases parents most h.rows m
        (inside-child f a h.rows n m (way m p) ∙ ap (λ t. t >>= λ x. enter f a x e) (inside-is f a marks cases h n stands) ∙ lost) (deeper f n m most (way m p) deep) s) e.parts (parents n))
        (asked-some (is_bound e.binding) (is_control e.sort) (some_shown (shows most f) e.parts) passed (unbound-entered a (inside_of h) (scope_of f h.model e) e.binding e.sort control lost) control)

    other-comes : is_control (element_at f n).sort ≡ false → is_passed most f (element_at f n) ≡ false
        → in_other (copies_from most f a marks cases) f a h n ≡ below made f a (suc most) h.rows n
    other-comes control passed = by (enter f a (inside_of h) (element_at f n)) refl ∙ sym (below-other made f a most h.rows n control)
      where
        by : (o : Option Inside) → enter f a (inside_of h) (element_at f n) ≡ o
            → (o >>= λ s. of_parts (copies_from most f a marks cases (handed_in h s)) (element_at f n).parts) ≡ all_of (below made f a most h.rows) (children f n)
        by None lost = sym (lost-child control lost passed)
        by (Some s) entered = parts-come (handed_in h s) (λ m way_down. stands-other f a marks cases h n stands m way_down s control entered)

    comes-more : copies_from (suc most) f a marks cases h n ≡ below made f a (suc most) h.rows n
    comes-more = passed (is_passed most f (element_at f n)) refl
      where
        sorted : (b : Bool) → is_control (element_at f n).sort ≡ b → is_passed most f (element_at f n) ≡ false
            → cond b (of_control (copies_from most f a marks cases) f a marks cases h n) (in_other (copies_from most f a marks cases) f a h n) ≡ below made f a (suc most) h.rows n
        sorted true control p = control-comes control
        sorted false control p = other-comes control p

        passed : (b : Bool) → is_passed most f (element_at f n) ≡ b
            → unless b (copies_by (copies_from most f a marks cases) f a marks cases h n) ≡ below made f a (suc most) h.rows n
        passed true p =
            let e = element_at f n in
            sym (none-shown f a made h.rows (suc most) n (passed-none (is_bound e.binding) (is_control e.sort || some_shown (shows most f) e.parts) p))
        passed false p = sorted (is_control (element_at f n).sort) refl p

  pub handed-down : (most : ℕ) → Comes most
  handed-down zero n h stands deep = refl
  handed-down (suc most) n h stands deep = comes-more most (handed-down most) n h stands deep

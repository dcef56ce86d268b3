-- One level of the walk: what an element and those in it give, by what was found of it.
use Rattle.std.proofs.Common.{◌≡◌, ℕ, suc, true, false, cond, List, [], ◌∷◌, ◌++◌, map, Option, Some, None, Result, Ok, Err, refl, sym, ap, ◌∙◌, append_assoc}
use Rattle.xf_def_forest.specs.declared.node.NodeId.{NodeId}
use Rattle.xf_def_xpath.specs.declared.fault.EvalFault.{EvalFault}
use Rattle.xf_def_xpath.specs.declared.fault.EvalFault.TheVariants.{Long, Memory}
use Rattle.xf_def_xpath.specs.Setting.{◌>>=◌}
use Rattle.xf_def_ui.specs.declared.marks.Marks.{Marks}
use Rattle.xf_def_ui.specs.Interface.{Bound, Interface}
use Rattle.xf_def_ui.specs.Elements.{element_at, is_control, is_repeat}
use Rattle.xf_def_ui.specs.Around.{Around, all_bound}
use Rattle.xf_def_ui.specs.Context.{Context, Inside, context_in, enter}
use Rattle.xf_def_ui.specs.Copies.{Copy}
use Rattle.xf_controls.specs.Below.{is_passed, unless}
use Rattle.xf_controls_copies.specs.Handed.{Handed, copy_by, handed_by, handed_in, handed_row, in_row, inside_of, node_in, rows_in}
use Rattle.xf_controls_copies.specs.Made.{Puts, all_of, behind, if_control}
use Rattle.xf_controls_copies.specs.Walk.{Further, copies_by, copies_from, in_control, in_other, in_rows, of_children, of_control}
use Rattle.xf_controls_copies.proofs.PutLaws.{all-numbers, behind-lost}

-- what is left is the rest of the whole
pub puts-rest : {X : Type 0} (r : Result X EvalFault) (old mid new : List Copy) (more whole : Option (List Copy)) → behind old whole ≡ behind mid more → Puts r mid new more → Puts r old new whole
puts-rest (Ok x) old mid new more whole e h = e ∙ h
puts-rest (Err Long) old mid new more whole e h = behind-lost old whole (e ∙ ap (behind mid) h)
puts-rest (Err Memory) old mid new more whole e h = tt

pub some-same : {X : Type 0} {x y : X} → Some x ≡ Some y → x ≡ y
some-same e = cc e

module _ (f : Interface) (a : Around) (marks : ℕ → Marks) (cases : List ℕ) (h : Handed) (n : ℕ) where
  -- ---- which way it goes

  pub passed-over : (most k : ℕ) → most ≡ suc k → is_passed k f (element_at f n) ≡ true → copies_from most f a marks cases h n ≡ Some []
  passed-over most k more passed =
      ap (λ j. copies_from j f a marks cases h n) more ∙ ap (λ b. unless b (copies_by (copies_from k f a marks cases) f a marks cases h n)) passed

  level : (most k : ℕ) → most ≡ suc k → is_passed k f (element_at f n) ≡ false → copies_from most f a marks cases h n ≡ copies_by (copies_from k f a marks cases) f a marks cases h n
  level most k more passed =
      ap (λ j. copies_from j f a marks cases h n) more ∙ ap (λ b. unless b (copies_by (copies_from k f a marks cases) f a marks cases h n)) passed

  pub as-control : (most k : ℕ) → most ≡ suc k → is_passed k f (element_at f n) ≡ false → is_control (element_at f n).sort ≡ true
      → of_control (copies_from k f a marks cases) f a marks cases h n ≡ copies_from most f a marks cases h n
  as-control most k more passed control =
      sym (
      level most k more passed
      ∙ ap (λ b. cond b (of_control (copies_from k f a marks cases) f a marks cases h n) (in_other (copies_from k f a marks cases) f a h n)) control)

  pub as-other : (most k : ℕ) → most ≡ suc k → is_passed k f (element_at f n) ≡ false → is_control (element_at f n).sort ≡ false
      → in_other (copies_from k f a marks cases) f a h n ≡ copies_from most f a marks cases h n
  as-other most k more passed control =
      sym (
      level most k more passed
      ∙ ap (λ b. cond b (of_control (copies_from k f a marks cases) f a marks cases h n) (in_other (copies_from k f a marks cases) f a h n)) control)

  pub none-left : (most : ℕ) → most ≡ 0 → copies_from most f a marks cases h n ≡ Some []
  none-left most e = ap (λ j. copies_from j f a marks cases h n) e

  module _ (further : Further) where
    -- ---- a control or container

    pub control-lost : node_in f a h (element_at f n) ≡ None → of_control further f a marks cases h n ≡ None
    control-lost bound =
        ap (λ m. m >>= λ selected. copy_by f a marks h n (element_at f n) selected >>= λ own. in_control further f a marks cases h n selected >>= λ more. Some (own ∷ more)) bound

    by-node : (selected : Option ℕ) → node_in f a h (element_at f n) ≡ Some selected
        → of_control further f a marks cases h n ≡ (copy_by f a marks h n (element_at f n) selected >>= λ own. in_control further f a marks cases h n selected >>= λ more. Some (own ∷ more))
    by-node selected bound =
        ap (λ m. m >>= λ x. copy_by f a marks h n (element_at f n) x >>= λ own. in_control further f a marks cases h n x >>= λ more. Some (own ∷ more)) bound

    no-copy : (o : Option Copy) → if_control true o ≡ None → o ≡ None
    no-copy None e = refl
    no-copy (Some c) e = cc e

    pub copy-lost : (selected : Option ℕ) → node_in f a h (element_at f n) ≡ Some selected → if_control true (copy_by f a marks h n (element_at f n) selected) ≡ None → of_control further f a marks cases h n ≡ None
    copy-lost selected bound none =
        by-node selected bound ∙ ap (λ m. m >>= λ own. in_control further f a marks cases h n selected >>= λ more. Some (own ∷ more)) (no-copy (copy_by f a marks h n (element_at f n) selected) none)

    put-own : (o : Option Copy) (more : Option (List Copy)) (old mid : List Copy) → behind old (if_control true o) ≡ Some mid → behind old (o >>= λ own. more >>= λ cs. Some (own ∷ cs)) ≡ behind mid more
    put-own None more old mid e = cc e
    put-own (Some c) None old mid e = refl
    put-own (Some c) (Some cs) old mid e =
        let is : old ++ c ∷ [] ≡ mid = cc e in ap Some (sym (append_assoc old (c ∷ []) cs) ∙ ap (λ l. l ++ cs) is)

    pub own-put : (selected : Option ℕ) (old mid : List Copy) → node_in f a h (element_at f n) ≡ Some selected → behind old (if_control true (copy_by f a marks h n (element_at f n) selected)) ≡ Some mid
        → behind old (of_control further f a marks cases h n) ≡ behind mid (in_control further f a marks cases h n selected)
    own-put selected old mid bound put =
        ap (behind old) (by-node selected bound) ∙ put-own (copy_by f a marks h n (element_at f n) selected) (in_control further f a marks cases h n selected) old mid put

    pub in-repeat : (selected : Option ℕ) → is_repeat f n ≡ true → in_control further f a marks cases h n selected ≡ in_rows further f a h n
    in-repeat selected row = ap (λ b. cond b (in_rows further f a h n) (of_children further f (handed_by f marks cases h n (element_at f n) selected) n)) row

    pub in-plain : (selected : Option ℕ) → is_repeat f n ≡ false → in_control further f a marks cases h n selected ≡ of_children further f (handed_by f marks cases h n (element_at f n) selected) n
    in-plain selected row = ap (λ b. cond b (in_rows further f a h n) (of_children further f (handed_by f marks cases h n (element_at f n) selected) n)) row

    -- ---- any other element

    pub other-lost : enter f a (inside_of h) (element_at f n) ≡ None → in_other further f a h n ≡ None
    other-lost entered = ap (λ m. m >>= λ s. of_children further f (handed_in h s) n) entered

    pub other-is : (s : Inside) → enter f a (inside_of h) (element_at f n) ≡ Some s → in_other further f a h n ≡ of_children further f (handed_in h s) n
    other-is s entered = ap (λ m. m >>= λ s. of_children further f (handed_in h s) n) entered

    -- ---- the rows of a repeat

    rows-found : (c : Context) (b : Bound) (o : Option (List ℕ)) → c ≡ context_in f a (inside_of h) (element_at f n) → b ≡ (element_at f n).binding → all_bound a c.model b c.focus ≡ o → rows_in f a h (element_at f n) ≡ o
    rows-found c b o where_it_is binds bound =
        sym (ap (λ (d : Context). all_bound a d.model (element_at f n).binding d.focus) where_it_is) ∙ sym (ap (λ x. all_bound a c.model x c.focus) binds) ∙ bound

    pub rows-lost : (c : Context) (b : Bound) → c ≡ context_in f a (inside_of h) (element_at f n) → b ≡ (element_at f n).binding → all_bound a c.model b c.focus ≡ None → in_rows further f a h n ≡ None
    rows-lost c b where_it_is binds none =
        ap (λ m. m >>= λ set. all_of (λ r. of_children further f (handed_row f h (element_at f n) set r) n) set) (rows-found c b None where_it_is binds none)

    pub rows-are : (c : Context) (b : Bound) (set : List ℕ) (found : List NodeId) → c ≡ context_in f a (inside_of h) (element_at f n) → b ≡ (element_at f n).binding → all_bound a c.model b c.focus ≡ Some set → map (λ x. x.number) found ≡ set
        → in_rows further f a h n ≡ all_of (λ (x : NodeId). of_children further f (in_row h c.model set x.number) n) found
    rows-are c b set found where_it_is binds bound numbers =
        ap (λ m. m >>= λ set. all_of (λ r. of_children further f (handed_row f h (element_at f n) set r) n) set) (rows-found c b (Some set) where_it_is binds bound)
        ∙ sym (ap (λ model. all_of (λ r. of_children further f (in_row h model set r) n) set) (ap (λ (d : Context). d.model) where_it_is))
        ∙ sym (ap (all_of (λ r. of_children further f (in_row h c.model set r) n)) numbers)
        ∙ all-numbers (λ r. of_children further f (in_row h c.model set r) n) found

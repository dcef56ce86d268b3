-- What a submission sends goes with a renumbering of the nodes.
use Rattle.std.proofs.Common.{◌≡◌, ℕ, ◌==◌, Bool, true, false, not, ◌&&◌, ◌||◌, List, [], ◌∷◌, map, find, Option, Some, None, option_map, if◌then◌else◌, refl, sym, ap, ◌∙◌}
use Rattle.xf_def_syntax.specs.declared.form.Selection.{Selection}
use Rattle.xf_def_syntax.specs.declared.form.Selection.TheVariants.{Whole, Ref, Bind}
use Rattle.xf_def_syntax.specs.declared.form.Submission.{Submission}
use Rattle.xf_def_forest.specs.Forest.{is_element}
use Rattle.xf_def_forest.specs.Visit.{Visit, has, visits}
use Rattle.xf_def_forest.specs.declared.content.Node.{Node}
use Rattle.xf_def_forest.specs.Same.{IsRenumbering, renumbered, renumbered_visit}
use Rattle.xf_def_forest.proofs.RenumberLaws.{map-map, filter-through, find-through, has-renumbered, visits-renumbered}
use Rattle.xf_def_xpath.specs.Setting.{each, joined}
use Rattle.xf_def_xpath.specs.Reads.{trace}
use Rattle.xf_def_xpath.proofs.Options.{map-through, each-through}
use Rattle.xf_def_xpath.proofs.RenumberLaws.{found-renumbered, joined-renumbered}
use Rattle.xf_def_model.specs.Rules.{Scope, in_model, for_binds, chains}
use Rattle.xf_def_model.specs.Nested.{begun, nested}
use Rattle.xf_def_model.specs.Submitted.{Submitted, no_data, first_in, first_from, selected_by, element_in, element_of, kept_below, unless_invalid, validated, sent_from, left_by, submitted_from, submitted}
use Rattle.xf_def_model.specs.Same.{renumbered_scope, renumbered_submitted}
use Rattle.xf_def_model.proofs.RenumberBinds as binds
use Rattle.xf_def_model.proofs.RenumberApplied.{got, all-chains_go}
use Rattle.xf_def_model.proofs.RenumberEntries.{ScopeGoes, sets-go}

module _ (f : ℕ → ℕ) (same : IsRenumbering f) where
  first-renumbered : (ns : List ℕ) → first_in (map f ns) ≡ option_map f (first_in ns)
  first-renumbered [] = refl
  first-renumbered (n ∷ ns) = refl

  -- ---- what is selected

  selected-renumbered : (most : Option ℕ) (scope : Scope) (all : List Visit) → ScopeGoes f scope → (selection : Selection)
      → selected_by most (renumbered_scope f scope) (map (renumbered_visit f) all) selection ≡ option_map (option_map f) (selected_by most scope all selection)
  selected-renumbered most scope all goes Whole = ap (λ ns. Some (first_in ns)) (binds.begun-renumbered f same most scope all) ∙ ap Some (first-renumbered (begun scope))
  selected-renumbered most scope all goes (Ref expr) =
      ap (λ ns. option_map (λ sets. first_in (joined sets)) (each (first_from most (renumbered_scope f scope) (map (renumbered_visit f) all) (trace expr)) ns)) (binds.begun-renumbered f same most scope all)
      ∙ ap (option_map (λ sets. first_in (joined sets)))
      (each-through f (map f) (first_from most scope all (trace expr)) (first_from most (renumbered_scope f scope) (map (renumbered_visit f) all) (trace expr)) (binds.first-renumbered f same most scope all (trace expr) (binds.trace-goes f same expr)) (begun scope))
      ∙ map-through (map (map f)) (option_map f) (each (first_from most scope all (trace expr)) (begun scope)) (λ sets. first_in (joined sets)) (λ sets. first_in (joined sets))
      (λ sets. ap first_in (joined-renumbered f sets) ∙ first-renumbered (joined sets))
  selected-renumbered most scope all goes (Bind bind) =
      ap (option_map first_in) (binds.nested-renumbered f same most (for_binds scope) all bind (got f (chains scope) bind (all-chains_go f scope (sets-go f scope.rules goes))))
      ∙ map-through (map f) (option_map f) (nested most (for_binds scope) all bind) first_in first_in first-renumbered

  -- ---- what is left

  module _ (all : List Visit) where
    abbrev others : List Visit
    others = map (renumbered_visit f) all

    in-element : (x : Visit) (b : Bool) → (if b then Some (f x.number) else None) ≡ option_map f (if b then Some x.number else None)
    in-element x true = refl
    in-element x false = refl

    element_in-renumbered : (x : Option Visit) → element_in (option_map (renumbered_visit f) x) ≡ option_map f (element_in x)
    element_in-renumbered None = refl
    element_in-renumbered (Some x) = in-element x (is_element x.content)

    element_of-renumbered : (n : Option ℕ) → element_of others (option_map f n) ≡ option_map f (element_of all n)
    element_of-renumbered None = refl
    element_of-renumbered (Some n) = ap element_in (found-renumbered f same n all) ∙ element_in-renumbered (find (λ x. x.number == n) all)

    kept-renumbered : (is_left new_left : ℕ → Bool) → ((n : ℕ) → new_left (f n) ≡ is_left n) → (n : ℕ) → kept_below others new_left (f n) ≡ map f (kept_below all is_left n)
    kept-renumbered is_left new_left h n =
        ap (map (λ (x : Visit). x.number))
        (filter-through (renumbered_visit f) (λ x. ((x.number == f n) || has (f n) x.above) && new_left x.number) (λ x. ((x.number == n) || has n x.above) && is_left x.number)
        (λ x. rw (same x.number n, has-renumbered f same n x.above, h x.number) refl) all)
        ∙ map-map (λ (x : Visit). x.number) (renumbered_visit f) _ ∙ sym (map-map f (λ (x : Visit). x.number) _)

    validated-renumbered : (b : Bool) (is_valid new_valid : ℕ → Bool) → ((n : ℕ) → new_valid (f n) ≡ is_valid n) → (n : ℕ) (ns : List ℕ)
        → validated b new_valid (f n) (map f ns) ≡ renumbered_submitted f (validated b is_valid n ns)
    validated-renumbered false is_valid new_valid h n ns = refl
    validated-renumbered true is_valid new_valid h n ns =
        ap (λ m. unless_invalid m (f n) (map f ns)) (find-through f (λ m. not (new_valid m)) (λ m. not (is_valid m)) (λ m. ap not (h m)) ns)
        ∙ by (find (λ m. not (is_valid m)) ns)
      where
        by : (m : Option ℕ) → unless_invalid (option_map f m) (f n) (map f ns) ≡ renumbered_submitted f (unless_invalid m n ns)
        by None = refl
        by (Some m) = refl

    sent-if : (b : Bool) (x y : Submitted) → x ≡ renumbered_submitted f y → (if b then x else no_data) ≡ renumbered_submitted f (if b then y else no_data)
    sent-if true x y h = h
    sent-if false x y h = refl

    sent-renumbered : (b : Bool) (is_left new_left is_valid new_valid : ℕ → Bool) → ((n : ℕ) → new_left (f n) ≡ is_left n) → ((n : ℕ) → new_valid (f n) ≡ is_valid n) → (n : Option ℕ)
        → sent_from b new_left new_valid others (option_map f n) ≡ renumbered_submitted f (sent_from b is_left is_valid all n)
    sent-renumbered b is_left new_left is_valid new_valid h k None = refl
    sent-renumbered b is_left new_left is_valid new_valid h k (Some n) =
        ap (λ c. if c then validated b new_valid (f n) (kept_below others new_left (f n)) else no_data) (h n)
        ∙ sent-if (is_left n) _ _ (ap (validated b new_valid (f n)) (kept-renumbered is_left new_left h n) ∙ validated-renumbered b is_valid new_valid k n (kept_below all is_left n))

    left-renumbered : (b : Bool) (is_relevant new_relevant : ℕ → Bool) → ((n : ℕ) → new_relevant (f n) ≡ is_relevant n) → (n : ℕ) → left_by b new_relevant (f n) ≡ left_by b is_relevant n
    left-renumbered false is_relevant new_relevant h n = refl
    left-renumbered true is_relevant new_relevant h n = h n

    from-renumbered : (s : Submission) (is_relevant new_relevant is_valid new_valid : ℕ → Bool) → ((n : ℕ) → new_relevant (f n) ≡ is_relevant n) → ((n : ℕ) → new_valid (f n) ≡ is_valid n) → (n : Option ℕ)
        → submitted_from s new_relevant new_valid others (option_map f n) ≡ renumbered_submitted f (submitted_from s is_relevant is_valid all n)
    from-renumbered s is_relevant new_relevant is_valid new_valid h k n =
        ap (sent_from s.is_validated (left_by s.is_relevant new_relevant) new_valid others) (element_of-renumbered n)
        ∙ sent-renumbered s.is_validated (left_by s.is_relevant is_relevant) (left_by s.is_relevant new_relevant) is_valid new_valid (left-renumbered s.is_relevant is_relevant new_relevant h) k (element_of all n)

  pub submitted-renumbered : (most : Option ℕ) (scope : Scope) → ScopeGoes f scope → (is_relevant new_relevant is_valid new_valid : ℕ → Bool) → ((n : ℕ) → new_relevant (f n) ≡ is_relevant n) → ((n : ℕ) → new_valid (f n) ≡ is_valid n)
      → (nodes : List Node) (s : Submission)
      → submitted most (renumbered_scope f scope) new_relevant new_valid (map (renumbered f) nodes) s ≡ option_map (renumbered_submitted f) (submitted most scope is_relevant is_valid nodes s)
  submitted-renumbered most scope goes is_relevant new_relevant is_valid new_valid h k nodes s =
      let own = in_model s.model scope in
      ap (λ all. option_map (submitted_from s new_relevant new_valid all) (selected_by most (renumbered_scope f own) all s.selection)) (visits-renumbered f same nodes)
      ∙ ap (option_map (submitted_from s new_relevant new_valid (map (renumbered_visit f) (visits nodes)))) (selected-renumbered most own (visits nodes) goes s.selection)
      ∙ map-through (option_map f) (renumbered_submitted f) (selected_by most own (visits nodes) s.selection)
      (submitted_from s is_relevant is_valid (visits nodes)) (submitted_from s new_relevant new_valid (map (renumbered_visit f) (visits nodes)))
      (from-renumbered (visits nodes) s is_relevant new_relevant is_valid new_valid h k)

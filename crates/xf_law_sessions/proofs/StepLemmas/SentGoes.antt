-- What a submission sends and where its answer goes, with other numbers.
use Rattle.std.proofs.Common.{◌≡◌, ℕ, Bool, true, false, ◌||◌, List, [], ◌∷◌, map, nat_lt, Option, Some, None, option_map, refl, ap, ◌∙◌, if◌then◌else◌}
use Rattle.xf_def_syntax.specs.declared.expr.Expr.{Expr}
use Rattle.xf_name.specs.Bindings.{Bindings}
use Rattle.xf_name.specs.declared.lit.Lit.{Lit}
use Rattle.xf_def_forest.specs.declared.content.Content.{Content}
use Rattle.xf_def_forest.specs.declared.content.Node.{Node}
use Rattle.xf_def_forest.specs.Forest.{is_text, tree_of, name_in}
use Rattle.xf_def_forest.specs.Literal.{is_kept, printed_from, printed, gathered, first_tree_in, inner, outer}
use Rattle.xf_def_forest.specs.Printed.{Printing, with_prefix_in, prefixes_in, printing, printed_as, lit_of}
use Rattle.xf_def_forest.specs.Same.{IsRenumbering, renumbered, renumbered_visit}
use Rattle.xf_def_forest.specs.Visit.{Visit}
use Rattle.xf_def_forest.proofs.RenumberLaws.{has-renumbered}
use Rattle.xf_def_forest.proofs.RenumberChanges.{tree_of-renumbered}
use Rattle.xf_def_xpath.specs.Reads.{trace}
use Rattle.xf_def_xpath.specs.Setting.{each, joined}
use Rattle.xf_def_xpath.proofs.Options.{map-through, each-through}
use Rattle.xf_def_xpath.proofs.RenumberLaws.{joined-renumbered}
use Rattle.xf_def_model.specs.Nested.{begun}
use Rattle.xf_def_model.specs.Rules.{Scope}
use Rattle.xf_def_model.specs.Same.{renumbered_scope}
use Rattle.xf_def_model.specs.Submitted.{first_in, first_from, by_expression}
use Rattle.xf_def_model.proofs.RenumberBinds.{trace-goes, first-renumbered, begun-renumbered}

module _ (f : ℕ → ℕ) (same : IsRenumbering f) where
  kept-goes : (kept : List ℕ) (x : Node) → is_kept (map f kept) (renumbered f x) ≡ is_kept kept x
  kept-goes kept x = ap (λ b. is_text x.content || b) (has-renumbered f same x.number kept)

  from-goes : (kept : List ℕ) (o : Option ℕ) (xs : List Node) → printed_from (map f kept) o (map (renumbered f) xs) ≡ map (renumbered f) (printed_from kept o xs)
  from-goes kept None [] = refl
  from-goes kept (Some d) [] = refl
  from-goes kept None (x ∷ xs) = ap (λ b. if b then renumbered f x ∷ printed_from (map f kept) None (map (renumbered f) xs) else printed_from (map f kept) (Some x.depth) (map (renumbered f) xs)) (kept-goes kept x)
      ∙ by (is_kept kept x) (from-goes kept None xs) (from-goes kept (Some x.depth) xs)
    where
      by : (b : Bool) → printed_from (map f kept) None (map (renumbered f) xs) ≡ map (renumbered f) (printed_from kept None xs)
          → printed_from (map f kept) (Some x.depth) (map (renumbered f) xs) ≡ map (renumbered f) (printed_from kept (Some x.depth) xs)
          → ◌≡◌ {A = List Node} (if b then renumbered f x ∷ printed_from (map f kept) None (map (renumbered f) xs) else printed_from (map f kept) (Some x.depth) (map (renumbered f) xs))
          (map (renumbered f) (if b then x ∷ printed_from kept None xs else printed_from kept (Some x.depth) xs))
      by true h k = ap (λ l. renumbered f x ∷ l) h
      by false h k = k
  from-goes kept (Some d) (x ∷ xs) =
      ap (λ b. if nat_lt d x.depth then printed_from (map f kept) (Some d) (map (renumbered f) xs) else if b then renumbered f x ∷ printed_from (map f kept) None (map (renumbered f) xs) else printed_from (map f kept) (Some x.depth) (map (renumbered f) xs)) (kept-goes kept x)
      ∙ by (nat_lt d x.depth) (is_kept kept x) (from-goes kept (Some d) xs) (from-goes kept None xs) (from-goes kept (Some x.depth) xs)
    where
      by : (b c : Bool) → printed_from (map f kept) (Some d) (map (renumbered f) xs) ≡ map (renumbered f) (printed_from kept (Some d) xs)
          → printed_from (map f kept) None (map (renumbered f) xs) ≡ map (renumbered f) (printed_from kept None xs)
          → printed_from (map f kept) (Some x.depth) (map (renumbered f) xs) ≡ map (renumbered f) (printed_from kept (Some x.depth) xs)
          → ◌≡◌ {A = List Node} (if b then printed_from (map f kept) (Some d) (map (renumbered f) xs) else if c then renumbered f x ∷ printed_from (map f kept) None (map (renumbered f) xs) else printed_from (map f kept) (Some x.depth) (map (renumbered f) xs))
          (map (renumbered f) (if b then printed_from kept (Some d) xs else if c then x ∷ printed_from kept None xs else printed_from kept (Some x.depth) xs))
      by true c g h k = g
      by false true g h k = ap (λ l. renumbered f x ∷ l) h
      by false false g h k = k

  printed-goes : (kept : List ℕ) (xs : List Node) → printed (map f kept) (map (renumbered f) xs) ≡ map (renumbered f) (printed kept xs)
  printed-goes kept [] = refl
  printed-goes kept (x ∷ xs) = ap (λ l. renumbered f x ∷ l) (from-goes kept None xs)

  gathered-goes : {P : Type 0} (part : Content → List P → P) (xs : List Node) → gathered part (map (renumbered f) xs) ≡ gathered part xs
  gathered-goes part [] = refl
  gathered-goes part (x ∷ xs) = ap (λ after. (x.depth, part x.content (inner x.depth after)) ∷ outer x.depth after) (gathered-goes part xs)

  prefixes-go : (b : Bindings) (xs : List Node) → prefixes_in b (map (renumbered f) xs) ≡ prefixes_in b xs
  prefixes-go b [] = refl
  prefixes-go b (x ∷ xs) = ap (with_prefix_in b (name_in x.content)) (prefixes-go b xs)

  as-goes : (b : Bindings) (xs : List Node) → printed_as b (map (renumbered f) xs) (first_tree_in (gathered (printing b) (map (renumbered f) xs))) ≡ printed_as b xs (first_tree_in (gathered (printing b) xs))
  as-goes b xs =
      ap (λ g. printed_as b (map (renumbered f) xs) (first_tree_in g)) (gathered-goes (printing b) xs) ∙ by (first_tree_in (gathered (printing b) xs))
    where
      by : (o : Option Printing) → printed_as b (map (renumbered f) xs) o ≡ printed_as b xs o
      by None = refl
      by (Some tree) = ap (λ ps. Some (tree 0 ps)) (prefixes-go b xs)

  pub lit-goes : (b : Bindings) (kept : List ℕ) (n : ℕ) (xs : List Node) → lit_of b (map f kept) (f n) (map (renumbered f) xs) ≡ lit_of b kept n xs
  lit-goes b kept n xs =
      let whole : List Node → Option Lit = λ ys. printed_as b ys (first_tree_in (gathered (printing b) ys)) in
      ap (λ t. whole (printed (map f kept) t)) (tree_of-renumbered f same n xs) ∙ ap whole (printed-goes kept (tree_of n xs)) ∙ as-goes b (printed kept (tree_of n xs))

  first-goes : (ns : List ℕ) → first_in (map f ns) ≡ option_map f (first_in ns)
  first-goes [] = refl
  first-goes (n ∷ ns) = refl

  pub expression-goes : (most : Option ℕ) (scope : Scope) (all : List Visit) (expr : Expr)
      → by_expression most (renumbered_scope f scope) (map (renumbered_visit f) all) (trace expr) ≡ option_map (option_map f) (by_expression most scope all (trace expr))
  expression-goes most scope all expr =
      let made = first_from most scope all (trace expr) in
      let made_too = first_from most (renumbered_scope f scope) (map (renumbered_visit f) all) (trace expr) in
      ap (λ ns. option_map (λ sets. first_in (joined sets)) (each made_too ns)) (begun-renumbered f same most scope all)
      ∙ ap (option_map (λ sets. first_in (joined sets))) (each-through f (map f) made made_too (first-renumbered f same most scope all (trace expr) (trace-goes f same expr)) (begun scope))
      ∙ map-through (map (map f)) (option_map f) (each made (begun scope)) (λ sets. first_in (joined sets)) (λ sets. first_in (joined sets))
      (λ sets. ap first_in (joined-renumbered f sets) ∙ first-goes (joined sets))

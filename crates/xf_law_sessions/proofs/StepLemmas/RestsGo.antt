-- A renumbering of states at rest goes on through an event: what stands has numbers that were given, and the rest that is kept is fixed by it.
use Rattle.std.proofs.Common.{◌≡◌, ℕ, ◌<◌, ◌&&◌, Bool, true, false, List, [], ◌∷◌, map, nat_lt, Option, Some, None, option_map, refl, ap, ◌∙◌, subst, arith}
use Rattle.std.proofs.lemmas.Bool.Decides.{nat_tests}
use Rattle.xf_def_forest.specs.declared.content.Node.{Node}
use Rattle.xf_def_forest.specs.Same.{renumbered}
use Rattle.xf_def_forest.specs.WellFormed.{are_below}
use Rattle.xf_def_model.specs.Pertinent.{AllOf}
use Rattle.xf_def_ui.specs.Index.{Index}
use Rattle.xf_def_machine.specs.Same.{renumbered_index}
use Rattle.xf_law_sessions.specs.Same.Going.{Runs}
use Rattle.xf_law_sessions.proofs.SameLemmas.GoingLaws.{changes_go}
use Rattle.xf_law_sessions.specs.Step.Fixed.{HaveSameData, IndexBelow, RestsGo}
use Rattle.xf_law_sessions.proofs.StepLemmas.StepsGo.{steps_go}
use Rattle.xf_law_sessions.proofs.StepLemmas.RestFixed.{rest_is_fixed, fixed-by}

and-true : (a b : Bool) → (a && b) ≡ true → (a ≡ true) × (b ≡ true)
and-true true b h = (refl, h)
and-true false b h = cc

module _ (f g : ℕ → ℕ) (next : ℕ) (agrees : (n : ℕ) → n < next → g n ≡ f n) where
  all-nodes : (xs : List Node) → are_below next xs ≡ true → map (renumbered g) xs ≡ map (renumbered f) xs
  all-nodes [] h = refl
  all-nodes (x ∷ xs) h =
      let parts = and-true (nat_lt x.number next) (are_below next xs) h in
      ap {A = ℕ} {B = List Node} (λ n. record x { number = n } ∷ map (renumbered g) xs) (agrees x.number (less x.number parts.0)) ∙ ap (λ l. renumbered f x ∷ l) (all-nodes xs parts.1)
    where
      less : (n : ℕ) → nat_lt n next ≡ true → n < next
      less n h = grind (arith, nat_tests, h)

  option : (o : Option ℕ) → ((n : ℕ) → o ≡ Some n → n < next) → option_map g o ≡ option_map f o
  option None h = refl
  option (Some n) h = ap Some (agrees n (h n refl))

  all-indexes : (is : List Index) → AllOf (IndexBelow next) is → map (renumbered_index g) is ≡ map (renumbered_index f) is
  all-indexes [] h = refl
  all-indexes (i ∷ is) h =
      ap {A = Option ℕ} {B = List Index} (λ o. record i { node = o } ∷ map (renumbered_index g) is) (option i.node h.0) ∙ ap (λ l. renumbered_index f i ∷ l) (all-indexes is h.1)

pub rests_go : RestsGo
rests_go p event answers f s t form d low may h q =
    let x = changes_go.extends p f s.forest.next t.forest.next may in
    let fixed : HaveSameData x.by s t = record {
      renumbers = x.runs.renumbers;
      keeps_texts = x.runs.keeps_texts;
      form = d.form;
      nodes = all-nodes f x.by s.forest.next x.agrees s.forest.nodes h.trees.below ∙ d.nodes;
      indexes = all-indexes f x.by s.forest.next x.agrees s.indexes low ∙ d.indexes;
      cases = d.cases;
      accepted = d.accepted;
    } in
    steps_go p event answers s t (rest_is_fixed p x.by s t form fixed h q) form (subst (λ k. Runs p k s.forest.next t.forest.next) (fixed-by p x.by s t form fixed h q) x.runs)

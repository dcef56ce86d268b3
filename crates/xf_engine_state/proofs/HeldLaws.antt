-- What is known of the nodes of controls over the data that were planted is known over all data of their shape.
use Rattle.std.proofs.Common.{◌≡◌, ℕ, true, false, ◌&&◌, List, [], ◌∷◌, map, Option, Some, None, option_map, is_some, refl, sym, ap, ◌∙◌}
use Rattle.xf_base.specs.Limits.{string_limit}
use Rattle.xf_def_forest.specs.declared.node.NodeId.{NodeId}
use Rattle.xf_def_forest.specs.Changes.{root_of}
use Rattle.xf_def_forest.specs.Forest.{Forest, has_number}
use Rattle.xf_def_forest.specs.Shape.{erased, shape_of}
use Rattle.xf_def_forest.specs.Visit.{Visit, has, visits}
use Rattle.xf_def_forest.specs.WellFormed.{HasTrees}
use Rattle.xf_def_forest.proofs.OrderLaws.{seen-has}
use Rattle.xf_funcs.specs.Called.{called}
use Rattle.xf_def_xpath.specs.Agree.{numbers_of}
use Rattle.xf_def_xpath.specs.Given.{Given}
use Rattle.xf_def_xpath.proofs.ForestVisits.{forest-visits}
use Rattle.xf_def_xpath.proofs.UntextedLaws.{solid-found}
use Rattle.xf_def_xpath.proofs.VisitFacts.{none-some, present}
use Rattle.xf_def_model.specs.Nested.{nested}
use Rattle.xf_def_model.specs.Rules.{scope_of}
use Rattle.xf_law_recalculation.specs.Agree.Hung.{are_hung}
use Rattle.xf_law_recalculation.specs.Agree.Settles.{IsSolid}
use Rattle.xf_law_recalculation.proofs.AgreeLemmas.HungLaws.{hung_forest}
use Rattle.xf_def_ui.specs.Copies.{node_of}
use Rattle.xf_def_ui.specs.Interface.{interface_of}
use Rattle.xf_law_bindings.specs.OneShape.{HaveOneShape}
use Rattle.xf_law_bindings.proofs.Chains.{node_stands, node_stays}
use Rattle.xf_controls.specs.declared.known.Known.{Known}
use Rattle.xf_controls.specs.Known.{AreHeld, AreKnown, known_at}
use Rattle.xf_controls.specs.Seen.{IsThere, number}
use Rattle.xf_controls.specs.Surrounded.{around_in}
use Rattle.xf_controls.proofs.KnownLaws.{nothing-known}
use Rattle.xf_form.specs.declared.loaded.Loaded.{Loaded}
use Rattle.xf_engine_state.specs.Around.{given_by, given_in}
use Rattle.xf_engine_state.specs.Held.{AreSolid, IsHeld, around_over, last_place, planted_shape}
use Rattle.xf_engine_state.proofs.Documents.{documents-same, roots-same}
use Rattle.xf_engine_state.proofs.SolidLaws.{document-solid}
use Rattle.xf_engine_state.proofs.SurroundLaws.{truthful}

-- ---- where no root stands

pub none-there : (o : Option NodeId) (r : Option ℕ) → option_map (λ (n : NodeId). n.number) o ≡ r → is_some o ≡ false → r ≡ None
none-there None r e h = sym e
none-there (Some n) r e h = cc h

-- ---- a node that is no text stands in the data

numbers-erased : (xs : List Visit) → numbers_of (map erased xs) ≡ numbers_of xs
numbers-erased [] = refl
numbers-erased (x ∷ xs) = ap (λ l. x.number ∷ l) (numbers-erased xs)

solid-live : (forest : Forest) (n : ℕ) → HasTrees forest → IsSolid (visits forest.nodes) n → has_number n forest.nodes ≡ true
solid-live forest n trees s =
    let all : List Visit = map erased (visits forest.nodes) in
    sym (seen-has n [] forest.nodes) ∙ ap (has n) (sym (numbers-erased (visits forest.nodes))) ∙ present n all s.0 (solid-found all (forest-visits forest trees) n s.0 s.1).0

-- ---- over data of one shape

module _ (l : Loaded) (before after : Forest) (b : HasTrees before) (a : HasTrees after) (hung : are_hung before.nodes ≡ true) (hung_too : are_hung after.nodes ≡ true)
    (same : shape_of after.nodes ≡ shape_of before.nodes) where
  abbrev given : Given
  given = given_in l.form.tables.instances l.prefixes l.form.decimals before

  abbrev first : ℕ → Option (List ℕ)
  first k = nested (Some string_limit) (scope_of called given l.form.tables 0) (visits before.nodes) k

  abbrev second : ℕ → Option (List ℕ)
  second k = nested (Some string_limit) (scope_of called given l.form.tables 0) (visits after.nodes) k

  one : HaveOneShape called (Some string_limit) given before after
  one = record {
    trees = b;
    trees_too = a;
    hung = hung_forest before b hung;
    hung_too = hung_forest after a hung_too;
    shape = sym same;
    documents = λ model id n e. document-solid before b (hung_forest before b hung) l.form.tables.instances model id n e;
    truths = λ code ps p e f. truthful l.form.decimals code e ps p f;
  }

  around-same : around_over l after ≡ around_in (given_in l.form.tables.instances l.prefixes l.form.decimals before) l.form.tables after.nodes
  around-same =
      ap (λ ds. around_in (given_by l.form.tables.instances l.prefixes l.form.decimals ds) l.form.tables after.nodes) (documents-same l.form.tables.instances before after b a hung hung_too same)

  solid-after : (known : List Known) → AreHeld (interface_of l.form) (around_over l before) known → AreSolid (visits after.nodes) known
  solid-after known h n k e = node_stands called (Some string_limit) given before after first (interface_of l.form) n k.number one (h.fixed n (Some k) e) (h.node n (Some k) e)

  known-after : (known : List Known) → AreHeld (interface_of l.form) (around_over l before) known → AreKnown (interface_of l.form) (around_over l after) after.nodes known
  known-after known h = record {
    node = λ n k e.
        ap (λ x. node_of (interface_of l.form) x [] n) around-same
        ∙ sym (node_stays called (Some string_limit) given before after first second (interface_of l.form) n one (h.fixed n k e)) ∙ h.node n k e;
    live = λ n k e. stands n k e;
  }
    where
      stands : (n : ℕ) (k : Option NodeId) → known_at known n ≡ Some k → IsThere k after.nodes
      stands n None e = refl
      stands n (Some k) e = ap (λ c. c && true) (solid-live after k.number a (solid-after known h n k e))

pub held-over : (l : Loaded) (before : Forest) (known : List Known) → HasTrees before → are_hung before.nodes ≡ true → shape_of before.nodes ≡ planted_shape l → root_of last_place before.nodes ≡ None
    → AreHeld (interface_of l.form) (around_over l before) known → IsHeld l known
held-over l before known trees hung planted few h = record {
  few = λ nodes shaped. roots-same last_place before.nodes nodes (shaped ∙ sym planted) ∙ few;
  over = λ after a hung_too shaped. known-after l before after trees a hung hung_too (shaped ∙ sym planted) known h;
  solid = λ after a hung_too shaped. solid-after l before after trees a hung hung_too (shaped ∙ sym planted) known h;
}

-- nothing is known
pub held-nothing : (l : Loaded) (before : Forest) (known : List Known) → shape_of before.nodes ≡ planted_shape l → root_of last_place before.nodes ≡ None → known ≡ [] → IsHeld l known
held-nothing l before known planted few e = record {
  few = λ nodes shaped. roots-same last_place before.nodes nodes (shaped ∙ sym planted) ∙ few;
  over = λ forest trees hung shaped. nothing-known (interface_of l.form) (around_over l forest) forest.nodes known e;
  solid = λ forest trees hung shaped n k at. none-some (ap (λ ks. known_at ks n) (sym e) ∙ at);
}

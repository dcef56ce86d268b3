-- The trees of the document elements, kept when construction has ended, are those that a reset puts back.
use Rattle.std.proofs.Common.{◌≡◌, ℕ, zero, suc, ◌==◌, Bool, true, false, cond, List, [], ◌∷◌, ◌++◌, map, find, length, Option, Some, None, option_map, Result, Ok, Err, refl, sym, ap, ◌∙◌, subst, ◌⊎◌, inl, inr}
use Rattle.std.specs.Prelude.{slice_get}
use Rattle.xf_def_syntax.specs.declared.form.Instance.{Instance}
use Rattle.xf_name.specs.Bindings.{Bindings}
use Rattle.xf_name.specs.declared.lit.Lit.{Lit}
use Rattle.xf_def_forest.specs.declared.bare.Bare.{Bare}
use Rattle.xf_def_forest.specs.declared.bare.Bare.TheVariants as bare
use Rattle.xf_def_forest.specs.declared.bare.BareAttribute.{BareAttribute}
use Rattle.xf_def_forest.specs.declared.bare.BareElement.{BareElement, roll-BareElement}
use Rattle.xf_def_forest.specs.declared.content.Content.{Content}
use Rattle.xf_def_forest.specs.declared.content.Content.TheVariants.{Root, Element, Attribute, Text}
use Rattle.xf_def_forest.specs.declared.content.Kind.TheVariants as kind
use Rattle.xf_def_forest.specs.declared.content.Node.{Node}
use Rattle.xf_def_forest.specs.Changes.{root_of}
use Rattle.xf_def_forest.specs.Forest.{below, first_tree, from_node, kind_at, kind_of}
use Rattle.xf_def_forest.specs.Literal.{Part, attribute_part, attributes_in, bare_of, bare_part, first_tree_in, gathered, inner, outer, tree_part, trees_in}
use Rattle.xf_def_forest.specs.Shape.{shape_of}
use Rattle.xf_def_forest.specs.WellFormed.{HasTrees}
use Rattle.xf_law_machine.specs.First.First.{AreElements}
use Rattle.xf_law_machine.proofs.FirstLemmas.FirstLaws.{first_gives}
use Rattle.xf_def_machine.specs.Construct.{build_model, construct, first_shown, start_indexes}
use Rattle.xf_def_machine.specs.Cycles.{counted_from}
use Rattle.xf_def_machine.specs.Flow.{◌>>=◌, in_turn}
use Rattle.xf_def_machine.specs.Refusal.{Refused}
use Rattle.xf_def_machine.specs.State.{State}
use Rattle.xf_def_machine.specs.Surround.{document_under, interface}
use Rattle.xf_def_xpath.proofs.VisitFacts.{none-some, some-same}
use Rattle.xf_form.specs.declared.loaded.Loaded.{Loaded}
use Rattle.xf_def_form.specs.Formed.{contents_in, document_of, profile, program_in}
use Rattle.xf_def_ui.specs.Cases.{first_cases}
use Rattle.xf_engine_state.specs.Around.{document_below}
use Rattle.xf_engine_state.specs.FirstData.{AreContents, AreDocuments, AreOfElements, IsDocument}
use Rattle.xf_engine_state.specs.Held.{planted_shape, shape_by}
use Rattle.xf_engine_state.specs.Planting.{planted_by}

more-at : (trees : List Bare) (tree : Bare) (place : ℕ) (other : Bare) → slice_get (trees ++ tree ∷ []) place ≡ Some other → (slice_get trees place ≡ Some other) ⊎ ((place ≡ length trees) × (other ≡ tree))
more-at [] tree zero other e = inr (refl, sym (some-same e))
more-at [] tree (suc place) other e = none-some e
more-at (t ∷ ts) tree zero other e = inl e
more-at (t ∷ ts) tree (suc place) other e = elim (more-at ts tree place other e) [ inl i ↦ inl i | inr i ↦ inr (ap suc i.0, i.1) ]

-- one tree more
pub documents-more : (nodes : List Node) (trees : List Bare) (tree : Bare) → AreDocuments nodes trees → IsDocument (length trees) nodes tree → AreDocuments nodes (trees ++ tree ∷ [])
documents-more nodes trees tree h one place other at = elim (more-at trees tree place other at) [
  | inl i ↦ h place other i
  | inr i ↦ subst (λ k. IsDocument k nodes other) (sym i.0) (subst (IsDocument (length trees) nodes) (sym i.1) one)
]

elements-are : (b : Bindings) (tree : Lit) (is : List Instance) → AreOfElements tree is → AreElements b (map (document_of b tree) is)
elements-are b tree [] h = tt
elements-are b tree (i ∷ is) h = ((h.0.0, i.space, ap (contents_in b i.space) h.0.1), elements-are b tree is h.1)

-- the tree of an element is an element
abbrev AnElement : Bare → Type 0
AnElement tree = (e : BareElement) × (tree ≡ bare.Element e)

part-element : (x : Content) (parts : List (Part BareAttribute Bare)) (tree : Bare) → kind_of x ≡ kind.Element → first_tree_in ((0, bare_part x parts) ∷ []) ≡ Some tree → AnElement tree
part-element Root parts tree k e = cc k
part-element (Text text) parts tree k e = cc k
part-element (Attribute name text) parts tree k e = cc k
part-element (Element name) parts tree k e = (roll-BareElement (record { name = name.meaning; attributes = attributes_in parts; children = trees_in parts }), sym (some-same e))

first-part : (depth : ℕ) (p : Part BareAttribute Bare) (ps : List (ℕ × Part BareAttribute Bare)) → first_tree_in ((depth, p) ∷ ps) ≡ first_tree_in ((0, p) ∷ [])
first-part depth (attribute_part a) ps = refl
first-part depth (tree_part t) ps = refl

bare-element : (n : ℕ) (nodes : List Node) (tree : Bare) → kind_at n nodes ≡ Some kind.Element → bare_of n nodes ≡ Some tree → AnElement tree
bare-element n [] tree k e = none-some k
bare-element n (x ∷ xs) tree k e = by (x.number == n) k e (bare-element n xs tree)
  where
    by : (b : Bool) → option_map kind_of (option_map (λ (z : Node). z.content) (cond b (Some x) (find (λ z. z.number == n) xs))) ≡ Some kind.Element → first_tree_in (gathered bare_part (first_tree (cond b (x ∷ xs) (from_node n xs)))) ≡ Some tree
        → (kind_at n xs ≡ Some kind.Element → bare_of n xs ≡ Some tree → AnElement tree) → AnElement tree
    by true i j later =
        let after = gathered bare_part (below x.depth xs) in
        part-element x.content (inner x.depth after) tree (some-same i) (sym (first-part x.depth (bare_part x.content (inner x.depth after)) (outer x.depth after)) ∙ j)
    by false i j later = later i j

below-under : (s : State) (o : Option ℕ) → document_below s.forest.nodes o ≡ document_under s o
below-under s None = refl
below-under s (Some r) = refl

abbrev Begun : Loaded → Type 0
Begun l = (planted : State) × (planted_by l ≡ Ok planted)

abbrev then_built : State → Result State Refused
then_built s =
    in_turn (build_model profile) (counted_from 0 (length s.models)) s >>= λ t. start_indexes profile (record t { cases = first_cases (interface t) }) >>= first_shown profile

begun : (l : Loaded) (first : State) → construct profile (program_in l) ≡ Ok first → Begun l
begun l first e = by (planted_by l) refl e
  where
    by : (r : Result State Refused) → planted_by l ≡ r → (r >>= then_built) ≡ Ok first → Begun l
    by (Err x) i j = cc j
    by (Ok s) i j = (s, i)

pub first-data : (l : Loaded) (first : State) (trees : List Bare) → AreOfElements l.lit l.form.tables.instances → construct profile (program_in l) ≡ Ok first → HasTrees first.forest
    → shape_of first.forest.nodes ≡ planted_shape l → AreDocuments first.forest.nodes trees → AreContents l trees
unfolding planted_shape
first-data l first trees are built sound same documents place tree at =
    let b = begun l first built in
    let d = documents place tree at in
    let e = bare-element d.number first.forest.nodes tree d.is_element d.is_bare in
    record {
      element = e.0;
      is_element = e.1;
      contents = first_gives profile (program_in l) l.prefixes b.0 first (elements-are l.prefixes l.lit l.form.tables.instances are) b.1 built sound (same ∙ ap shape_by b.1) place d.number tree
          (sym (below-under first (root_of place first.forest.nodes)) ∙ d.document) d.is_bare;
    }

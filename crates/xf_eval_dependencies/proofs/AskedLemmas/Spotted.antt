-- What the calls go through from a node of the shape, by what it is there, is what is asked of it.
use Rattle.std.proofs.Common.{◌≡◌, ℕ, Bool, true, false, not, ◌&&◌, List, [], ◌∷◌, ◌++◌, Option, Some, None, refl, sym, ap, ◌∙◌}
use Rattle.std.specs.Prelude.{filter}
use Rattle.std.specs.List.{flat_map, list_all}
use Rattle.xf_name.specs.declared.axis.Axis.{Axis}
use Rattle.xf_name.specs.declared.axis.Axis.TheVariants.{Child, Attribute, Self_, Parent, Ancestor, AncestorOrSelf, Descendant, DescendantOrSelf, FollowingSibling, PrecedingSibling}
use Rattle.xf_def_forest.specs.declared.node.NodeId.{NodeId}
use Rattle.xf_def_forest.specs.declared.content.Node.{Node}
use Rattle.xf_def_forest.specs.Forest.{Forest, has_number}
use Rattle.xf_def_forest.specs.Visit.{parent_of, visits}
use Rattle.xf_def_forest.specs.Axis.{axis_of}
use Rattle.xf_def_forest.proofs.BackLaws.{and-true, not-true}
use Rattle.xf_def_xpath.specs.Asked.{as_list, list_around, lists_below, read_for}
use Rattle.xf_def_xpath.specs.AskedSteps.{if_text, kind_read, read_if}
use Rattle.xf_def_xpath.proofs.VisitFacts.{absent}
use Rattle.xf_eval_shape.specs.declared.spot.Spot.{Spot}
use Rattle.xf_eval_shape.specs.declared.spot.Spot.TheVariants.{Node as Own, TextOf, Outside}
use Rattle.xf_eval_shape.specs.Spots.{AreSpots, is_leaf, is_spot, number_at, numbers_at, shaped, stands}
use Rattle.xf_eval_shape.specs.Steps.{if_so}
use Rattle.xf_eval_shape.specs.Woven.{is_shown}
use Rattle.xf_eval_shape.proofs.Bounds.{parent-shown}
use Rattle.xf_eval_shape.proofs.Reached.{leaf-stands}
use Rattle.xf_eval_shape.proofs.Shapes.{Sound}
use Rattle.xf_eval_dependencies.specs.Asked.Beside.{is_text_spot, text_of}
use Rattle.xf_eval_dependencies.specs.Asked.Lists.{has_list_of, reader_at}
use Rattle.xf_eval_dependencies.specs.Asked.Tells.{is_list}
use Rattle.xf_eval_dependencies.proofs.AskedLemmas.Listings.{outside-around, outside-below, outside-own, outside-read, own-around, own-below, own-own, own-read, own-text, reader-shown, text-around, text-below, text-itself, text-own, text-read}

both-hold : (a b : Bool) → a ≡ true → b ≡ true → (a && b) ≡ true
both-hold true b h i = i
both-hold false b h i = h

-- ---- what the calls go through

abbrev pub around_of : List Node → Spot → List ℕ
around_of nodes (Own node) = as_list (parent_of node.number (visits nodes))
around_of nodes (TextOf owner) = owner.number ∷ []
around_of nodes (Outside node) = []

abbrev pub read_of : List Node → Spot → List ℕ
read_of nodes (Own node) = reader_at nodes node.number ∷ []
read_of nodes (TextOf owner) = owner.number ∷ []
read_of nodes (Outside node) = []

abbrev pub below_of : List Node → Spot → List ℕ
below_of nodes (Own node) = filter (has_list_of nodes) (node.number ∷ axis_of Descendant node.number (visits nodes))
below_of nodes other = []

abbrev pub own_of : List Node → Spot → List ℕ
own_of nodes (Own node) = filter (has_list_of nodes) (node.number ∷ [])
own_of nodes other = []

pub no-below : (nodes : List Node) (spot : Spot) → ((node : NodeId) → spot ≡ Own node → ⊥) → below_of nodes spot ≡ []
no-below nodes (Own node) h = absurd (h node refl)
no-below nodes (TextOf owner) h = refl
no-below nodes (Outside node) h = refl

pub no-own : (nodes : List Node) (spot : Spot) → ((node : NodeId) → spot ≡ Own node → ⊥) → own_of nodes spot ≡ []
no-own nodes (Own node) h = absurd (h node refl)
no-own nodes (TextOf owner) h = refl
no-own nodes (Outside node) h = refl

module _ (forest : Forest) (sound : Sound forest) where
  owned : (node : NodeId) → is_spot forest.nodes (Own node) ≡ true → (has_number node.number forest.nodes ≡ true) × (stands forest.nodes node.number ≡ true)
  owned node h = and-true (has_number node.number forest.nodes) (stands forest.nodes node.number) h

  leaf : (owner : NodeId) → is_spot forest.nodes (TextOf owner) ≡ true → (has_number owner.number forest.nodes ≡ true) × (is_leaf forest.nodes owner.number ≡ true)
  leaf owner h = and-true (has_number owner.number forest.nodes) (is_leaf forest.nodes owner.number) h

  gone : (node : NodeId) → is_spot forest.nodes (Outside node) ≡ true → stands forest.nodes node.number ≡ false
  gone node h = not-true (stands forest.nodes node.number) (and-true (has_number node.number forest.nodes) (not (stands forest.nodes node.number)) h).1

  pub around-is : (spot : Spot) → is_spot forest.nodes spot ≡ true → around_of forest.nodes spot ≡ list_around (shaped forest.nodes) (number_at spot)
  around-is (Own node) h = own-around forest sound node.number (owned node h).0 (owned node h).1
  around-is (TextOf owner) h = text-around forest sound owner.number (leaf owner h).0 (leaf owner h).1
  around-is (Outside node) h = sym (outside-around forest sound node.number (gone node h))

  pub read-is : (spot : Spot) → is_spot forest.nodes spot ≡ true → read_of forest.nodes spot ≡ read_for (shaped forest.nodes) (number_at spot)
  read-is (Own node) h = own-read forest sound node.number (owned node h).0 (owned node h).1
  read-is (TextOf owner) h = text-read forest sound owner.number (leaf owner h).0 (leaf owner h).1
  read-is (Outside node) h = sym (outside-read forest sound node.number (gone node h))

  pub below-is : (spot : Spot) → is_spot forest.nodes spot ≡ true → below_of forest.nodes spot ≡ filter (is_list forest.nodes) (lists_below (shaped forest.nodes) (number_at spot))
  below-is (Own node) h = own-below forest sound node.number (owned node h).0 (owned node h).1
  below-is (TextOf owner) h = sym (text-below forest sound owner.number (leaf owner h).0 (leaf owner h).1)
  below-is (Outside node) h = sym (outside-below forest sound node.number (gone node h))

  pub own-is : (spot : Spot) → is_spot forest.nodes spot ≡ true → own_of forest.nodes spot ≡ filter (is_list forest.nodes) (number_at spot ∷ [])
  own-is (Own node) h = own-own forest sound node.number (owned node h).0 (owned node h).1
  own-is (TextOf owner) h = sym (text-own forest sound owner.number (leaf owner h).0 (leaf owner h).1)
  own-is (Outside node) h = sym (outside-own forest sound node.number (gone node h))

  pub text-is : (spot : Spot) → is_spot forest.nodes spot ≡ true → if_so (is_text_spot forest.nodes spot) (number_at spot) ≡ text_of (shaped forest.nodes) (number_at spot)
  text-is (Own node) h = own-text forest sound node.number (owned node h).0 (owned node h).1
  text-is (TextOf owner) h = text-itself forest sound owner.number (leaf owner h).0 (leaf owner h).1
  text-is (Outside node) h = sym (ap if_text (absent node.number (shaped forest.nodes) (gone node h)))

  owner-shown : (owner : NodeId) → is_spot forest.nodes (TextOf owner) ≡ true → list_all (is_shown forest.nodes) (owner.number ∷ []) ≡ true
  owner-shown owner h =
      let p = leaf owner h in
      both-hold (is_shown forest.nodes owner.number) true (both-hold (has_number owner.number forest.nodes) (stands forest.nodes owner.number) p.0 (leaf-stands forest sound owner.number p.0 p.1)) refl

  -- the parent of a node of the shape, and what is read for it, stand there and in the forest
  pub around-shown : (spot : Spot) → is_spot forest.nodes spot ≡ true → list_all (is_shown forest.nodes) (around_of forest.nodes spot) ≡ true
  around-shown (Own node) h = by (parent_of node.number (visits forest.nodes)) refl
    where
      by : (m : Option ℕ) → parent_of node.number (visits forest.nodes) ≡ m → list_all (is_shown forest.nodes) (as_list m) ≡ true
      by None i = refl
      by (Some p) i = both-hold (is_shown forest.nodes p) true (parent-shown forest sound node.number (owned node h).0 p i) refl
  around-shown (TextOf owner) h = owner-shown owner h
  around-shown (Outside node) h = refl

  pub read-shown : (spot : Spot) → is_spot forest.nodes spot ≡ true → list_all (is_shown forest.nodes) (read_of forest.nodes spot) ≡ true
  read-shown (Own node) h = both-hold (is_shown forest.nodes (reader_at forest.nodes node.number)) true (reader-shown forest sound node.number (owned node h).0 (owned node h).1) refl
  read-shown (TextOf owner) h = owner-shown owner h
  read-shown (Outside node) h = refl

pub all-append : (p : ℕ → Bool) (ns ms : List ℕ) → list_all p ns ≡ true → list_all p ms ≡ true → list_all p (ns ++ ms) ≡ true
all-append p [] ms h i = i
all-append p (n ∷ ns) ms h i = both-hold (p n) (list_all p (ns ++ ms)) (and-true _ _ h).0 (all-append p ns ms (and-true _ _ h).1 i)

module _ (forest : Forest) (sound : Sound forest) where
  all-shown : (f : ℕ → List ℕ) → ((spot : Spot) → is_spot forest.nodes spot ≡ true → list_all (is_shown forest.nodes) (f (number_at spot)) ≡ true) → (spots : List Spot) → AreSpots forest.nodes spots →
      list_all (is_shown forest.nodes) (flat_map f (numbers_at spots)) ≡ true
  all-shown f h [] i = refl
  all-shown f h (spot ∷ spots) i =
      let p = and-true (is_spot forest.nodes spot) (list_all (is_spot forest.nodes) spots) i in
      all-append (is_shown forest.nodes) (f (number_at spot)) (flat_map f (numbers_at spots)) (h spot p.0) (all-shown f h spots p.1)

  read-there : (spot : Spot) → is_spot forest.nodes spot ≡ true → list_all (is_shown forest.nodes) (read_for (shaped forest.nodes) (number_at spot)) ≡ true
  read-there spot h = ap (list_all (is_shown forest.nodes)) (sym (read-is forest sound spot h)) ∙ read-shown forest sound spot h

  around-there : (spot : Spot) → is_spot forest.nodes spot ≡ true → list_all (is_shown forest.nodes) (list_around (shaped forest.nodes) (number_at spot)) ≡ true
  around-there spot h = ap (list_all (is_shown forest.nodes)) (sym (around-is forest sound spot h)) ∙ around-shown forest sound spot h

  pub reads-shown : (spots : List Spot) → AreSpots forest.nodes spots → list_all (is_shown forest.nodes) (flat_map (read_for (shaped forest.nodes)) (numbers_at spots)) ≡ true
  reads-shown = all-shown (read_for (shaped forest.nodes)) read-there

  pub kinds-shown : (axis : Axis) (spots : List Spot) → AreSpots forest.nodes spots → list_all (is_shown forest.nodes) (flat_map (kind_read axis (shaped forest.nodes)) (numbers_at spots)) ≡ true
  kinds-shown axis = all-shown (kind_read axis (shaped forest.nodes)) (by axis)
    where
      by : (axis : Axis) (spot : Spot) → is_spot forest.nodes spot ≡ true → list_all (is_shown forest.nodes) (kind_read axis (shaped forest.nodes) (number_at spot)) ≡ true
      by Child spot h = read-there spot h
      by Descendant spot h = read-there spot h
      by DescendantOrSelf spot h = read-there spot h
      by FollowingSibling spot h = around-there spot h
      by PrecedingSibling spot h = around-there spot h
      by Attribute spot h = refl
      by Self_ spot h = refl
      by Parent spot h = refl
      by Ancestor spot h = refl
      by AncestorOrSelf spot h = refl

pub if-shown : (nodes : List Node) (b : Bool) (ns : List ℕ) → list_all (is_shown nodes) ns ≡ true → list_all (is_shown nodes) (read_if b ns) ≡ true
if-shown nodes true ns h = h
if-shown nodes false ns h = refl

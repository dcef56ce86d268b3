-- Attributes stand first below their element: each right behind it or behind another of its attributes (XPath 1.0, section 5.3). A
-- detached attribute is a top.
use Rattle.std.specs.Prelude.{ℕ, suc, ◌≡◌, ◌<◌, true, List, [], ◌∷◌, ◌≤◌}
use Rattle.xf_def_forest.specs.declared.content.Content.{Content}
use Rattle.xf_def_forest.specs.declared.content.Content.TheVariants.{Element, Attribute}
use Rattle.xf_def_forest.specs.Forest.{is_attribute}

-- how deep an attribute stands right behind a node of this depth; only a top does behind one that is neither element nor attribute
abbrev pub attribute_depth : ℕ → Content → ℕ
attribute_depth depth (Element name) = suc depth
attribute_depth depth (Attribute name text) = depth
attribute_depth depth content = 0

-- each attribute but a top stands as deep as the node before it lets one, the first of these at this depth
abbrev pub AreFirst : ℕ → List (ℕ × Content) → Type 0
AreFirst depth [] = Unit {0}
AreFirst depth (p ∷ ps) = (is_attribute p.1 ≡ true → 0 < p.0 → p.0 ≡ depth) × AreFirst (attribute_depth p.0 p.1) ps

abbrev pub AllFrom : ℕ → List ℕ → Type 0
AllFrom d [] = Unit {0}
AllFrom d (x ∷ xs) = (d ≤ x) × AllFrom d xs

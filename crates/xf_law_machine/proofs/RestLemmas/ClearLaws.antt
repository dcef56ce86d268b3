-- A test of contents that no node of a forest passes, and no text that comes in: after each change none passes it.
use Rattle.std.proofs.Common.{◌≡◌, ℕ, zero, suc, ◌==◌, Bool, true, false, ◌&&◌, ◌||◌, List, [], ◌∷◌, ◌++◌, map, filter, nat_lt, refl, if◌then◌else◌}
use Rattle.std.specs.List.{list_any}
use Rattle.xf_def_forest.specs.declared.content.Node.{Node}
use Rattle.xf_def_forest.specs.declared.content.Name.{Name}
use Rattle.xf_def_forest.specs.declared.content.Content.{Content}
use Rattle.xf_def_forest.specs.declared.content.Content.TheVariants.{Root, Element, Attribute, Text}
use Rattle.xf_def_forest.specs.Forest.{Forest, is_attribute, below, past, from_node, first_tree, tree_of}
use Rattle.xf_def_forest.specs.Plant.{numbered_from}
use Rattle.xf_def_forest.specs.Changes.{shifted, moved_to, without_tree, is_detached_top, in_instances, in_detached, with_root, contents_in, detached, at_place, with_child, with_attribute, with_part, with_below, placed}
use Rattle.xf_def_forest.specs.Texts.{one_text, at_depth, with_content, with_texts, with_value, valued, with_attribute_text, is_attribute_at, new_texts, with_text}
use Rattle.xf_def_forest.specs.Settle.{has_text, with_numbered_text, with_settled_text}
use Rattle.xf_def_model.specs.Settled.{Contents}
use Rattle.xf_def_model.specs.Pertinent.{AllOf}
use Rattle.xf_def_machine.specs.Behave.{with_contents}
use Rattle.xf_law_machine.proofs.RestLemmas.FilledLaws.{neither, or-parts}

abbrev pub Clear : (Content → Bool) → List Node → Type 0
Clear bad nodes = list_any (λ x. bad x.content) nodes ≡ false

-- a text that may come in, at an attribute or in an element
pub record MayCome (bad : Content → Bool) (text : List ℕ) : Type 0 where
  pub attribute : (name : Name) → bad (Attribute name text) ≡ false
  pub element : (number : ℕ) → Clear bad (one_text number text)

module _ (bad : Content → Bool) where
  -- ---- parts of the list

  clear-parts : (x : Node) (xs : List Node) → Clear bad (x ∷ xs) → (bad x.content ≡ false) × Clear bad xs
  clear-parts x xs h = or-parts (bad x.content) (list_any (λ (y : Node). bad y.content) xs) h

  clear-both : (x : Node) (xs : List Node) → bad x.content ≡ false → Clear bad xs → Clear bad (x ∷ xs)
  clear-both x xs h k = neither (bad x.content) (list_any (λ (y : Node). bad y.content) xs) h k

  pub clear-append : (xs ys : List Node) → Clear bad xs → Clear bad ys → Clear bad (xs ++ ys)
  clear-append [] ys h k = k
  clear-append (x ∷ xs) ys h k = let parts = clear-parts x xs h in clear-both x (xs ++ ys) parts.0 (clear-append xs ys parts.1 k)

  clear-if : (b : Bool) (xs ys : List Node) → Clear bad xs → Clear bad ys → Clear bad (if b then xs else ys)
  clear-if true xs ys h k = h
  clear-if false xs ys h k = k

  clear-below : (depth : ℕ) (xs : List Node) → Clear bad xs → Clear bad (below depth xs)
  clear-below depth [] h = refl
  clear-below depth (x ∷ xs) h =
      let parts = clear-parts x xs h in
      clear-if (nat_lt depth x.depth) (x ∷ below depth xs) [] (clear-both x (below depth xs) parts.0 (clear-below depth xs parts.1)) refl

  clear-past : (depth : ℕ) (xs : List Node) → Clear bad xs → Clear bad (past depth xs)
  clear-past depth [] h = refl
  clear-past depth (x ∷ xs) h = clear-if (nat_lt depth x.depth) (past depth xs) (x ∷ xs) (clear-past depth xs (clear-parts x xs h).1) h

  clear-from : (n : ℕ) (xs : List Node) → Clear bad xs → Clear bad (from_node n xs)
  clear-from n [] h = refl
  clear-from n (x ∷ xs) h = clear-if (x.number == n) (x ∷ xs) (from_node n xs) h (clear-from n xs (clear-parts x xs h).1)

  clear-first : (xs : List Node) → Clear bad xs → Clear bad (first_tree xs)
  clear-first [] h = refl
  clear-first (x ∷ xs) h = let parts = clear-parts x xs h in clear-both x (below x.depth xs) parts.0 (clear-below x.depth xs parts.1)

  pub clear-tree : (n : ℕ) (xs : List Node) → Clear bad xs → Clear bad (tree_of n xs)
  clear-tree n xs h = clear-first (from_node n xs) (clear-from n xs h)

  clear-shifted : (from to : ℕ) (xs : List Node) → Clear bad xs → Clear bad (map (shifted from to) xs)
  clear-shifted from to [] h = refl
  clear-shifted from to (x ∷ xs) h = let parts = clear-parts x xs h in clear-both (shifted from to x) (map (shifted from to) xs) parts.0 (clear-shifted from to xs parts.1)

  clear-moved : (depth : ℕ) (xs : List Node) → Clear bad xs → Clear bad (moved_to depth xs)
  clear-moved depth [] h = refl
  clear-moved depth (x ∷ xs) h = clear-shifted x.depth depth (x ∷ xs) h

  clear-without : (n : ℕ) (xs : List Node) → Clear bad xs → Clear bad (without_tree n xs)
  clear-without n [] h = refl
  clear-without n (x ∷ xs) h =
      let parts = clear-parts x xs h in
      clear-if (x.number == n) (past x.depth xs) (x ∷ without_tree n xs) (clear-past x.depth xs parts.1) (clear-both x (without_tree n xs) parts.0 (clear-without n xs parts.1))

  pub clear-instances : (xs : List Node) → Clear bad xs → Clear bad (in_instances xs)
  clear-instances [] h = refl
  clear-instances (x ∷ xs) h =
      let parts = clear-parts x xs h in
      clear-if (is_detached_top x) [] (x ∷ in_instances xs) refl (clear-both x (in_instances xs) parts.0 (clear-instances xs parts.1))

  clear-detached : (xs : List Node) → Clear bad xs → Clear bad (in_detached xs)
  clear-detached [] h = refl
  clear-detached (x ∷ xs) h = clear-if (is_detached_top x) (x ∷ xs) (in_detached xs) h (clear-detached xs (clear-parts x xs h).1)

  -- ---- new nodes

  pub clear-numbered : (next : ℕ) (contents : List (ℕ × Content)) → list_any (λ c. bad c.1) contents ≡ false → Clear bad (numbered_from next contents)
  clear-numbered next [] h = refl
  clear-numbered next (c ∷ cs) h =
      let parts = or-parts (bad c.1) (list_any (λ (d : ℕ × Content). bad d.1) cs) h in
      clear-both (record { number = next; depth = c.0; content = c.1 }) (numbered_from (suc next) cs) parts.0 (clear-numbered (suc next) cs parts.1)

  pairs-clear : (xs : List Node) → Clear bad xs → list_any (λ (c : ℕ × Content). bad c.1) (map (λ (x : Node). (x.depth, x.content)) xs) ≡ false
  pairs-clear [] h = refl
  pairs-clear (x ∷ xs) h = let parts = clear-parts x xs h in neither (bad x.content) (list_any (λ (c : ℕ × Content). bad c.1) (map (λ (y : Node). (y.depth, y.content)) xs)) parts.0 (pairs-clear xs parts.1)

  pub contents-clear : (tree : List Node) → Clear bad tree → list_any (λ (c : ℕ × Content). bad c.1) (contents_in tree) ≡ false
  contents-clear tree h = pairs-clear (moved_to 0 tree) (clear-moved 0 tree h)

  pub clear-root : (top : ℕ) (forest : Forest) → bad Root ≡ false → Clear bad forest.nodes → Clear bad (with_root top forest).1.nodes
  clear-root top forest r h =
      let rest = without_tree top forest.nodes in
      let g = clear-without top forest.nodes h in
      let moved = moved_to 1 (tree_of top forest.nodes) in
      let root : Node = record { number = forest.next; depth = 0; content = Root } in
      clear-append (in_instances rest ++ root ∷ moved) (in_detached rest)
      (clear-append (in_instances rest) (root ∷ moved) (clear-instances rest g)
      (clear-both root moved r (clear-moved 1 (tree_of top forest.nodes) (clear-tree top forest.nodes h)))) (clear-detached rest g)

  -- ---- trees that move

  pub clear-cut : (n : ℕ) (forest : Forest) → Clear bad forest.nodes → Clear bad (detached n forest).nodes
  clear-cut n forest h =
      clear-append (without_tree n forest.nodes) (moved_to 0 (tree_of n forest.nodes)) (clear-without n forest.nodes h) (clear-moved 0 (tree_of n forest.nodes) (clear-tree n forest.nodes h))

  clear-place : (place : ℕ) (here : List Node) (later : ℕ → List Node) → Clear bad here → ((left : ℕ) → Clear bad (later left)) → Clear bad (at_place place here later)
  clear-place zero here later h k = h
  clear-place (suc place) here later h k = k place

  clear-child : (depth place : ℕ) (tree xs : List Node) → Clear bad tree → Clear bad xs → Clear bad (with_child depth place tree xs)
  clear-child depth place tree [] t h = t
  clear-child depth place tree (y ∷ ys) t h =
      let parts = clear-parts y ys h in
      let before = clear-append tree (y ∷ ys) t h in
      let put = at_place place (tree ++ y ∷ ys) (λ left. y ∷ with_child depth left tree ys) in
      let deeper = nat_lt depth y.depth || is_attribute y.content in
      clear-if (nat_lt y.depth depth) (tree ++ y ∷ ys) (if deeper then y ∷ with_child depth place tree ys else put) before
      (clear-if deeper (y ∷ with_child depth place tree ys) put (clear-both y (with_child depth place tree ys) parts.0 (clear-child depth place tree ys t parts.1))
      (clear-place place (tree ++ y ∷ ys) (λ left. y ∷ with_child depth left tree ys) before
      (λ left. clear-both y (with_child depth left tree ys) parts.0 (clear-child depth left tree ys t parts.1))))

  clear-attribute : (depth place : ℕ) (tree xs : List Node) → Clear bad tree → Clear bad xs → Clear bad (with_attribute depth place tree xs)
  clear-attribute depth place tree [] t h = t
  clear-attribute depth place tree (y ∷ ys) t h =
      let parts = clear-parts y ys h in
      let before = clear-append tree (y ∷ ys) t h in
      clear-if ((y.depth == depth) && is_attribute y.content) (at_place place (tree ++ y ∷ ys) (λ left. y ∷ with_attribute depth left tree ys)) (tree ++ y ∷ ys)
      (clear-place place (tree ++ y ∷ ys) (λ left. y ∷ with_attribute depth left tree ys) before
      (λ left. clear-both y (with_attribute depth left tree ys) parts.0 (clear-attribute depth left tree ys t parts.1)))
      before

  clear-part : (depth place : ℕ) (tree xs : List Node) → Clear bad tree → Clear bad xs → Clear bad (with_part depth place tree xs)
  clear-part depth place [] xs t h = h
  clear-part depth place (x ∷ rest) xs t h =
      let moved = moved_to depth (x ∷ rest) in
      clear-if (is_attribute x.content) (with_attribute depth place moved xs) (with_child depth place moved xs)
      (clear-attribute depth place moved xs (clear-moved depth (x ∷ rest) t) h) (clear-child depth place moved xs (clear-moved depth (x ∷ rest) t) h)

  clear-under : (parent place : ℕ) (tree xs : List Node) → Clear bad tree → Clear bad xs → Clear bad (with_below parent place tree xs)
  clear-under parent place tree [] t h = refl
  clear-under parent place tree (x ∷ xs) t h =
      let parts = clear-parts x xs h in
      let here_ = with_part (suc x.depth) place tree xs in
      let later = with_below parent place tree xs in
      clear-if (x.number == parent) (x ∷ here_) (x ∷ later) (clear-both x here_ parts.0 (clear-part (suc x.depth) place tree xs t parts.1))
      (clear-both x later parts.0 (clear-under parent place tree xs t parts.1))

  pub clear-placed : (n parent place : ℕ) (forest : Forest) → Clear bad forest.nodes → Clear bad (placed n parent place forest).nodes
  clear-placed n parent place forest h =
      clear-under parent place (tree_of n forest.nodes) (without_tree n forest.nodes) (clear-tree n forest.nodes h) (clear-without n forest.nodes h)

  -- ---- texts

  clear-filter : (keeps : Node → Bool) (xs : List Node) → Clear bad xs → Clear bad (filter keeps xs)
  clear-filter keeps [] h = refl
  clear-filter keeps (x ∷ xs) h =
      let parts = clear-parts x xs h in
      clear-if (keeps x) (x ∷ filter keeps xs) (filter keeps xs) (clear-both x (filter keeps xs) parts.0 (clear-filter keeps xs parts.1)) (clear-filter keeps xs parts.1)

  clear-deep : (depth : ℕ) (xs : List Node) → Clear bad xs → Clear bad (map (at_depth depth) xs)
  clear-deep depth [] h = refl
  clear-deep depth (x ∷ xs) h = let parts = clear-parts x xs h in clear-both (at_depth depth x) (map (at_depth depth) xs) parts.0 (clear-deep depth xs parts.1)

  clear-content : (depth : ℕ) (texts xs : List Node) → Clear bad texts → Clear bad xs → Clear bad (with_content depth texts xs)
  clear-content depth texts xs t h =
      let put = map (at_depth (suc depth)) texts in
      let borne = filter (λ y. is_attribute y.content) (below depth xs) in
      clear-append (borne ++ put) (past depth xs)
      (clear-append borne put (clear-filter (λ y. is_attribute y.content) (below depth xs) (clear-below depth xs h)) (clear-deep (suc depth) texts t))
      (clear-past depth xs h)

  clear-texts : (n : ℕ) (texts xs : List Node) → Clear bad texts → Clear bad xs → Clear bad (with_texts n texts xs)
  clear-texts n texts [] t h = refl
  clear-texts n texts (x ∷ xs) t h =
      let parts = clear-parts x xs h in
      let here_ = with_content x.depth texts xs in
      let later = with_texts n texts xs in
      clear-if (x.number == n) (x ∷ here_) (x ∷ later) (clear-both x here_ parts.0 (clear-content x.depth texts xs t parts.1))
      (clear-both x later parts.0 (clear-texts n texts xs t parts.1))

  clear-value : (text : List ℕ) (content : Content) → MayCome bad text → bad content ≡ false → bad (with_value text content) ≡ false
  clear-value text (Attribute name old) m h = m.attribute name
  clear-value text Root m h = h
  clear-value text (Element name) m h = h
  clear-value text (Text old) m h = h

  clear-valued : (n : ℕ) (text : List ℕ) (xs : List Node) → MayCome bad text → Clear bad xs → Clear bad (with_attribute_text n text xs)
  clear-valued n text [] m h = refl
  clear-valued n text (x ∷ xs) m h =
      let parts = clear-parts x xs h in
      clear-both (valued n text x) (with_attribute_text n text xs) (by (x.number == n) parts.0) (clear-valued n text xs m parts.1)
    where
      by : (b : Bool) → bad x.content ≡ false → bad (if b then record x { content = with_value text x.content } else x).content ≡ false
      by true e = clear-value text x.content m e
      by false e = e

  pub clear-numbered-text : (number n : ℕ) (text : List ℕ) (xs : List Node) → MayCome bad text → Clear bad xs → Clear bad (with_numbered_text number n text xs)
  clear-numbered-text number n text xs m h =
      clear-if (is_attribute_at n xs) (with_attribute_text n text xs) (with_texts n (one_text number text) xs) (clear-valued n text xs m h) (clear-texts n (one_text number text) xs (m.element number) h)

  pub clear-text : (n : ℕ) (text : List ℕ) (forest : Forest) → MayCome bad text → Clear bad forest.nodes → Clear bad (with_text n text forest).nodes
  clear-text n text forest m h =
      clear-if (is_attribute_at n forest.nodes) (with_attribute_text n text forest.nodes) (with_texts n (new_texts n text forest) forest.nodes) (clear-valued n text forest.nodes m h)
      (clear-texts n (new_texts n text forest) forest.nodes (clear-if (is_attribute_at n forest.nodes) [] (one_text forest.next text) refl (m.element forest.next)) h)

  pub clear-contents : (number : ℕ) (contents : Contents) (xs : List Node) → AllOf (λ c. MayCome bad c.1) contents → Clear bad xs → Clear bad (with_contents number contents xs)
  clear-contents number [] xs m h = h
  clear-contents number ((n, text) ∷ rest) xs m h =
      clear-contents (suc number) rest (with_settled_text number n text xs) m.1
      (clear-if (has_text n text xs) xs (with_numbered_text number n text xs) h (clear-numbered-text number n text xs m.0 h))

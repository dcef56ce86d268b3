-- Each change of the data where it is made: in an instance it flags a refresh of the model, and a detached tree changes nothing that is shown.
use Rattle.std.proofs.Common.{◌≡◌, ℕ, zero, suc, ◌+◌, ◌<◌, ◌==◌, Bool, true, false, not, cond, ◌&&◌, ◌||◌, List, [], ◌∷◌, ◌++◌, map, length, Option, Some, None, option_map, Result, Ok, Err, refl, sym, ap, ◌∙◌, subst, append-nil, inl, inr, arith, if◌then◌else◌}
use Rattle.std.specs.Prelude.{◌-◌, ◌⊎◌}
use Rattle.std.specs.List.{list_any}
use Rattle.xf_def_forest.specs.declared.content.Content.{Content}
use Rattle.xf_def_forest.specs.declared.content.Content.TheVariants.{Root, Element, Attribute, Text}
use Rattle.xf_def_forest.specs.declared.content.Kind.TheVariants as kind
use Rattle.xf_def_forest.specs.declared.content.Node.{Node}
use Rattle.xf_def_forest.specs.declared.fault.TreeFault.{TreeFault}
use Rattle.xf_def_forest.specs.Changes.{in_instances, is_detached_top, shifted, contents_in, copied, attached, placed, place_of}
use Rattle.xf_def_forest.specs.Forest.{Forest, kind_of, is_root, has_number, node_at, content_at, kind_at, below, tree_of}
use Rattle.xf_def_forest.specs.Limits.{passed_by_all, passed_by_text, passed_by_tree, unless}
use Rattle.xf_def_forest.specs.Plant.{numbered_from}
use Rattle.xf_def_forest.specs.Planted.{with_tree}
use Rattle.xf_def_forest.specs.Texts.{is_attribute_at, one_text, with_attribute_text, with_texts, with_text, new_texts}
use Rattle.xf_def_forest.specs.Visit.{visits}
use Rattle.xf_def_forest.proofs.RunLemmas.{tree-here, tree-other}
use Rattle.xf_law_recalculation.proofs.EditLemmas.ElsewhereLaws.{text_elsewhere, tree_behind, attached_elsewhere}
use Rattle.xf_law_forests.specs.Rollback.Made.{begins_at_top, IsGrowth}
use Rattle.xf_law_forests.proofs.RollbackLemmas.Outcomes.{attached-placed}
use Rattle.xf_law_forests.specs.Root.Roots.{AreAhead, IsNoRoot}
use Rattle.xf_def_machine.specs.declared.limit.LimitWord.{LimitWord}
use Rattle.xf_def_machine.specs.Primitives.{changed_at, in_model, in_some_model, all_due, texts_due, refresh_due, with_text_mark, with_list_mark, list_changed, over_made, grown, grown_to, grown_by, is_other_text, if_other, set_text, copy, plant, attach}
use Rattle.xf_def_machine.specs.Profile.{Profile}
use Rattle.xf_def_machine.specs.Refusal.{unless_passed}
use Rattle.xf_def_machine.specs.State.{Model, State}
use Rattle.xf_def_machine.specs.Surround.{model_holding}
use Rattle.xf_def_machine.specs.Update.{is_refresh_due}
use Rattle.xf_law_sessions.specs.Control.Leaves.{Leaves, IsHeldOrOut, DataLeave, RefreshDueLeaves}

-- ---- flags

abbrev refreshes : Model → Bool
refreshes m = m.flags.refresh

pub due-there : (change : Model → Model) → ((m : Model) → refreshes (change m) ≡ true) → (k : ℕ) (ms : List Model) → k < length ms → list_any refreshes (changed_at k change ms) ≡ true
due-there change e k [] less = let no : ⊥ = omega (arith, less) in absurd no
due-there change e zero (m ∷ ms) less = ap (λ b. b || list_any refreshes ms) (e m)
due-there change e (suc k) (m ∷ ms) less = later (refreshes m) (list_any refreshes (changed_at k change ms)) (due-there change e k ms (omega (arith, less)))
  where
    later : (a b : Bool) → b ≡ true → (a || b) ≡ true
    later true b q = refl
    later false b q = q

-- a refresh is due after it
due-leaves : (s t : State) → is_refresh_due t ≡ true → Leaves s t
due-leaves s t e = record { due = λ q. no (sym e ∙ q); same = λ q. no (sym e ∙ q) }
  where
    no : {X : Type 0} → true ≡ false → X
    no q = cc q

pub refresh_due_leaves : RefreshDueLeaves
refresh_due_leaves model s t less = due-leaves s (in_model refresh_due model t) (due-there refresh_due (λ m. refl) model t.models less)

-- ---- what a change makes

record Grown (made : ℕ) (s t : State) (r : Result Forest TreeFault) : Type 0 where
  pub forest : Forest
  pub is : r ≡ Ok forest
  pub state : record s { made = s.made + made; forest = forest } ≡ t

grown-is : (p : Profile) (made : ℕ) (r : Result Forest TreeFault) (s t : State) → grown_to (grown p made r s) ≡ Ok t → Grown made s t r
grown-is p made (Err fault) s t e = cc e
grown-is p made (Ok forest) s t e = by (over_made p (s.made + made)) e
  where
    by : (words : List LimitWord) → grown_to (unless_passed s words (forest, record s { made = s.made + made })) ≡ Ok t → Grown made s t (Ok forest)
    by [] q = record { forest = forest; is = refl; state = cc q }
    by (word ∷ words) q = cc q

record GrownTop (made top : ℕ) (s t : State) (r : Result (ℕ × Forest) TreeFault) : Type 0 where
  pub forest : Forest
  pub is : r ≡ Ok (top, forest)
  pub state : record s { made = s.made + made; forest = forest } ≡ t

top-is : (p : Profile) (made top : ℕ) (r : Result (ℕ × Forest) TreeFault) (s t : State) → grown_by (grown p made r s) ≡ Ok (top, t) → GrownTop made top s t r
top-is p made top (Err fault) s t e = cc e
top-is p made top (Ok (other, forest)) s t e = by (over_made p (s.made + made)) e
  where
    by : (words : List LimitWord) → grown_by (unless_passed s words ((other, forest), record s { made = s.made + made })) ≡ Ok (top, t) → GrownTop made top s t (Ok (other, forest))
    by [] q =
        let pair : ◌≡◌ {A = ℕ × State} (other, record s { made = s.made + made; forest = forest }) (top, t) = cc q in
        let one : other ≡ top = ap (λ (x : ℕ × State). x.0) pair in
        record { forest = forest; is = ap (λ n. Ok (n, forest)) one; state = ap (λ (x : ℕ × State). x.1) pair }
    by (word ∷ words) q = cc q

unless-is : {X : Type 0} (o : Option TreeFault) (x y : X) → unless o x ≡ Ok y → x ≡ y
unless-is None x y e = cc e
unless-is (Some fault) x y e = cc e

-- another forest with the same instances
same-instances : (s : State) (made : ℕ) (forest : Forest) → in_instances forest.nodes ≡ in_instances s.forest.nodes → Leaves s (record s { made = s.made + made; forest = forest })
same-instances s made forest e = record {
  due = λ q. q;
  same = λ q. record { form = refl; nodes = sym e; indexes = refl; cases = refl; controls = refl; values = refl; valid = λ n. refl };
}

-- a node of an instance flags the model of it, another one changes no instance
held-leaves : (change : Model → Model) → ((m : Model) → refreshes (change m) ≡ true) → (n : ℕ) (s t : State) (o : Option ℕ) → IsHeldOrOut n s o → (made : ℕ) (forest : Forest)
    → (has_number n (in_instances s.forest.nodes) ≡ false → in_instances forest.nodes ≡ in_instances s.forest.nodes)
    → record (in_some_model change o s) { made = (in_some_model change o s).made + made; forest = forest } ≡ t → Leaves s t
held-leaves change e n s t (Some model) less made forest k is =
    subst (λ u. Leaves s u) is (due-leaves s (record (in_model change model s) { made = s.made + made; forest = forest }) (due-there change e model s.models less))
held-leaves change e n s t None out made forest k is = subst (λ u. Leaves s u) is (same-instances s made forest (k out))

-- ---- texts

text-change : (b : Bool) (n : ℕ) (m : Model) → refreshes (texts_due (if_other b (with_text_mark n) m)) ≡ true
text-change b n m = refl

text-stays : (n : ℕ) (text : List ℕ) (forest : Forest) → has_number n (in_instances forest.nodes) ≡ false → in_instances (with_text n text forest).nodes ≡ in_instances forest.nodes
text-stays n text forest out = ap in_instances (by (is_attribute_at n forest.nodes)) ∙ text_elsewhere forest.next n text forest.nodes out
  where
    by : (b : Bool) → (if b then with_attribute_text n text forest.nodes else with_texts n (if b then [] else one_text forest.next text) forest.nodes)
        ≡ (if b then with_attribute_text n text forest.nodes else with_texts n (one_text forest.next text) forest.nodes)
    by true = refl
    by false = refl

text-leaves : (p : Profile) (n : ℕ) (text : List ℕ) (s t : State) → IsHeldOrOut n s (model_holding s n) → set_text p n text s ≡ Ok t → Leaves s t
text-leaves p n text s t held e =
    let after = with_text n text s.forest in
    let change : Model → Model = λ m. texts_due (if_other (is_other_text s n text) (with_text_mark n) m) in
    let g = grown-is p (length (new_texts n text s.forest)) (unless (passed_by_text p.bounds.limits (length text) after.nodes) after) (in_some_model change (model_holding s n) s) t e in
    let is : after ≡ g.forest = unless-is (passed_by_text p.bounds.limits (length text) after.nodes) after g.forest g.is in
    held-leaves change (text-change (is_other_text s n text) n) n s t (model_holding s n) held (length (new_texts n text s.forest)) g.forest
    (λ out. ap (λ (f : Forest). in_instances f.nodes) (sym is) ∙ text-stays n text s.forest out) g.state

-- ---- new trees

contents-behind : (contents : List (ℕ × Content)) (next : ℕ) (nodes : List Node) → begins_at_top contents ≡ true → list_any (λ c. is_root c.1) contents ≡ false
    → in_instances (nodes ++ numbered_from next contents) ≡ in_instances nodes
contents-behind [] next nodes h r = ap in_instances (append-nil nodes)
contents-behind (c ∷ cs) next nodes h r =
    tree_behind (record { number = next; depth = c.0; content = c.1 }) (numbered_from (suc next) cs) nodes (both (c.0 == 0) (not (is_root c.1)) h (not-root (is_root c.1) (list_any (λ (d : ℕ × Content). is_root d.1) cs) r))
  where
    both : (a b : Bool) → a ≡ true → b ≡ true → (a && b) ≡ true
    both a b i j = rw (i, j) refl

    not-root : (a b : Bool) → (a || b) ≡ false → not a ≡ true
    not-root true b q = cc q
    not-root false b q = refl

plant-leaves : (p : Profile) (contents : List (ℕ × Content)) (s t : State) (top : ℕ) → IsGrowth contents → plant p contents s ≡ Ok (top, t) → Leaves s t
plant-leaves p contents s t top growth e =
    let tree = numbered_from s.forest.next contents in
    let g = top-is p (length contents) top (with_tree p.bounds.limits contents s.forest) s t e in
    let made : ℕ × Forest = (s.forest.next, record { nodes = s.forest.nodes ++ tree; next = s.forest.next + length contents }) in
    let is : made ≡ (top, g.forest) = unless-is (passed_by_tree p.bounds.limits tree (s.forest.nodes ++ tree)) made (top, g.forest) g.is in
    subst (λ u. Leaves s u) g.state
    (same-instances s (length contents) g.forest (ap (λ (q : ℕ × Forest). in_instances q.1.nodes) (sym is) ∙ contents-behind contents s.forest.next s.forest.nodes growth.top growth.rootless))

-- the tree of an element or attribute begins with it
kind-no-root : (c : Content) → (kind_of c ≡ kind.Element) ⊎ (kind_of c ≡ kind.Attribute) → is_root c ≡ false
kind-no-root Root (inl e) = cc e
kind-no-root Root (inr e) = cc e
kind-no-root (Element name) e = refl
kind-no-root (Attribute name text) e = refl
kind-no-root (Text text) e = refl

record Begins (tree : List Node) : Type 0 where
  pub top : Node
  pub rest : List Node
  pub is : tree ≡ top ∷ rest
  pub rootless : is_root top.content ≡ false

begins : (n : ℕ) (nodes : List Node) → (kind_at n nodes ≡ Some kind.Element) ⊎ (kind_at n nodes ≡ Some kind.Attribute) → Begins (tree_of n nodes)
begins n [] (inl e) = cc e
begins n [] (inr e) = cc e
begins n (x ∷ xs) e = by (x.number == n) refl e (begins n xs)
  where
    Is : Option Node → Type 0
    Is o = (option_map kind_of (option_map (λ (y : Node). y.content) o) ≡ Some kind.Element) ⊎ (option_map kind_of (option_map (λ (y : Node). y.content) o) ≡ Some kind.Attribute)

    one : Is (Some x) → (kind_of x.content ≡ kind.Element) ⊎ (kind_of x.content ≡ kind.Attribute)
    one (inl q) = inl (cc q)
    one (inr q) = inr (cc q)

    by : (b : Bool) → (x.number == n) ≡ b → Is (cond b (Some x) (node_at n xs)) → (Is (node_at n xs) → Begins (tree_of n xs)) → Begins (tree_of n (x ∷ xs))
    by true q i f = record { top = x; rest = below x.depth xs; is = tree-here n x xs q; rootless = kind-no-root x.content (one i) }
    by false q i f = let r = f i in record { top = r.top; rest = r.rest; is = tree-other n x xs q ∙ r.is; rootless = r.rootless }

copy-behind : (next : ℕ) (nodes tree : List Node) → Begins tree → in_instances (nodes ++ numbered_from next (contents_in tree)) ≡ in_instances nodes
copy-behind next nodes tree b =
    ap (λ l. in_instances (nodes ++ numbered_from next (contents_in l))) b.is
    ∙ tree_behind (record { number = next; depth = 0 + (b.top.depth - b.top.depth); content = b.top.content })
    (numbered_from (suc next) (map (λ (x : Node). (x.depth, x.content)) (map (shifted b.top.depth 0) b.rest))) nodes is_top
  where
    is_top : is_detached_top (record { number = next; depth = 0 + (b.top.depth - b.top.depth); content = b.top.content }) ≡ true
    is_top = let e : 0 + (b.top.depth - b.top.depth) ≡ 0 = grind (arith) in ap (λ d. (d == 0) && not (is_root b.top.content)) e ∙ ap not b.rootless

copy-leaves : (p : Profile) (n : ℕ) (s t : State) (top : ℕ) → IsNoRoot n s.forest → copy p n s ≡ Ok (top, t) → Leaves s t
copy-leaves p n s t top kind_is e =
    let tree = tree_of n s.forest.nodes in
    let nodes = s.forest.nodes ++ numbered_from s.forest.next (contents_in tree) in
    let g = top-is p (length tree) top (copied p.bounds.limits n s.forest) s t e in
    let made : ℕ × Forest = (s.forest.next, record { nodes = nodes; next = s.forest.next + length tree }) in
    let is : made ≡ (top, g.forest) = unless-is (passed_by_all p.bounds.limits nodes) made (top, g.forest) g.is in
    subst (λ u. Leaves s u) g.state
    (same-instances s (length tree) g.forest (ap (λ (q : ℕ × Forest). in_instances q.1.nodes) (sym is) ∙ copy-behind s.forest.next s.forest.nodes tree (begins n s.forest.nodes kind_is)))

-- ---- a tree that comes

attach-leaves : (p : Profile) (n parent place : ℕ) (s t : State) → AreAhead s.forest.nodes → has_number n (in_instances s.forest.nodes) ≡ false → IsHeldOrOut parent s (model_holding s parent)
    → attach p n parent place s ≡ Ok t → Leaves s t
attach-leaves p n parent place s t ahead outside held e =
    let change : Model → Model = λ m. all_due (with_list_mark parent m) in
    let g = grown-is p 0 (attached p.bounds.limits n parent place s.forest) (list_changed (Some parent) s) t e in
    let at = place_of parent place (visits s.forest.nodes) (content_at n s.forest.nodes) in
    let is : placed n parent at s.forest ≡ g.forest = attached-placed p.bounds.limits n parent place s.forest g.forest g.is in
    held-leaves change (λ m. refl) parent s t (model_holding s parent) held 0 g.forest
    (λ out. ap (λ (f : Forest). in_instances f.nodes) (sym is) ∙ attached_elsewhere n parent at s.forest outside out ahead) g.state

pub data_leave : DataLeave
data_leave p = record { text = text-leaves p; copy = copy-leaves p; plant = plant-leaves p; attach = attach-leaves p }

-- The lines of an instance of a state, by what they are made of.
use Rattle.std.proofs.Common.{◌≡◌, ℕ, suc, ◌+◌, ◌<◌, ◌==◌, Bool, true, false, cond, ◌&&◌, ◌||◌, List, [], ◌∷◌, ◌++◌, map, Option, Some, None, option_map, length, drop, refl, sym, ap, ◌∙◌, subst, append_assoc, arith}
use Rattle.std.specs.Prelude.{filter, slice_get, codes}
use Rattle.std.specs.List.{flat_map}
use Rattle.std.proofs.lemmas.Bool.{eqb-true}
use Rattle.std.proofs.lemmas.List.{drop_more}
use Rattle.std.proofs.lemmas.Option.{get_or_from_slice_get}
use Rattle.xf_def_syntax.specs.declared.form.Instance.{Instance}
use Rattle.xf_def_forest.specs.declared.content.Node.{Node}
use Rattle.xf_def_forest.specs.declared.content.Content.{Content}
use Rattle.xf_def_forest.specs.declared.content.Content.TheVariants.{Root, Element, Attribute, Text}
use Rattle.xf_def_forest.specs.Forest.{Forest, has_number, node_at, content_at}
use Rattle.xf_def_forest.specs.Visit.{Visit, visits, first_of, above_in, parent_of, top_of}
use Rattle.xf_def_forest.specs.Order.{instance_of}
use Rattle.xf_def_forest.specs.Path.{path_of}
use Rattle.xf_def_forest.specs.WellFormed.{HasTrees}
use Rattle.xf_def_ui.specs.declared.marks.Marks.{Marks}
use Rattle.xf_def_machine.specs.State.{State}
use Rattle.xf_def_machine.specs.Surround.{all_in, instances_in, instance_holding}
use Rattle.xf_def_machine.specs.Properties.{marks_in, pair_at, pair_text, path_in, braced}
use Rattle.xf_def_machine.specs.NoteLines.{quoted}
use Rattle.xf_def_machine.specs.StateText.{spaced, line_of, marks_text, own_value, has_elements_in, node_line_by, is_place, node_lines, instance_lines}
use Rattle.xf_def_xpath.specs.Asked.{found}
use Rattle.xf_def_xpath.specs.Agree.{numbers_of}
use Rattle.xf_def_xpath.proofs.VisitFacts.{no, none-some}
use Rattle.xf_def_xpath.proofs.ForestVisits.{Each, self-found}
use Rattle.xf_tree_paths.specs.Holding.{pair_among}
use Rattle.xf_tree_paths.proofs.PairLaws.{pair-is, path-is}
use Rattle.xf_tree_paths.proofs.VisitLemmas.{Linked, all-linked, apart}
use Rattle.xf_report.specs.Lines.{IsOf, block_text, nodes_at, has_elements_at, value_text, line_by, line_in, line_at}

-- ---- one node

elements-same : (s : State) (o : Option ℕ) → has_elements_in s o ≡ has_elements_at (all_in s) o
elements-same s None = refl
elements-same s (Some n) = refl

line-same : (s : State) (m : ℕ → Marks) (place : ℕ) (x : Visit) (content : Content) → ((n : ℕ) → marks_in s n ≡ m n) → found x.number (all_in s) ≡ Some x → instance_holding s x.number ≡ Some place
    → node_line_by s x content ≡ line_by (braced (pair_at s place)) m (all_in s) x.number content
line-same s m place x Root h e i = refl
line-same s m place x (Text text) h e i =
    ap (λ b. cond b (line_of (path_in s x.number ++ spaced (quoted text))) []) (elements-same s (first_of x.above) ∙ ap (λ o. has_elements_at (all_in s) (first_of (above_in o))) (sym e))
    ∙ ap (λ p. cond (has_elements_at (all_in s) (parent_of x.number (all_in s))) (line_of (p ++ spaced (quoted text))) []) (path-is s x.number place i)
line-same s m place x (Element name) h e i =
    ap (λ p. line_of (p ++ spaced (marks_text (marks_in s x.number)) ++ own_value s x.number)) (path-is s x.number place i)
    ∙ ap (λ k. line_of (braced (pair_at s place) ++ path_of x.number (all_in s) ++ spaced (marks_text k) ++ own_value s x.number)) (h x.number)
line-same s m place x (Attribute name text) h e i =
    ap (λ p. line_of (p ++ spaced (marks_text (marks_in s x.number)) ++ own_value s x.number)) (path-is s x.number place i)
    ∙ ap (λ k. line_of (braced (pair_at s place) ++ path_of x.number (all_in s) ++ spaced (marks_text k) ++ own_value s x.number)) (h x.number)

-- ---- all of them

place-some : (place : ℕ) (o : Option ℕ) → is_place place o ≡ true → o ≡ Some place
place-some place None h = no h
place-some place (Some k) h = ap Some (sym (eqb-true place k h))

lines-same : (s : State) (m : ℕ → Marks) (place : ℕ) (vs : List Visit) → ((n : ℕ) → marks_in s n ≡ m n) → Each (λ v. found v.number (all_in s) ≡ Some v) vs → Each (Linked s.forest.nodes) vs
    → flat_map (λ (x : Visit). node_line_by s x x.content) (filter (λ x. is_place place (instance_holding s x.number)) vs)
    ≡ flat_map (line_at (braced (pair_at s place)) m s.forest.nodes) (numbers_of (filter (λ x. is_place place (instance_holding s x.number)) vs))
lines-same s m place [] h e l = refl
lines-same s m place (v ∷ vs) h e l = by (is_place place (instance_holding s v.number)) refl (lines-same s m place vs h e.1 l.1)
  where
    by : (b : Bool) → is_place place (instance_holding s v.number) ≡ b
        → flat_map (λ (x : Visit). node_line_by s x x.content) (filter (λ x. is_place place (instance_holding s x.number)) vs) ≡ flat_map (line_at (braced (pair_at s place)) m s.forest.nodes) (numbers_of (filter (λ x. is_place place (instance_holding s x.number)) vs))
        → flat_map (λ (x : Visit). node_line_by s x x.content) (cond b (v ∷ filter (λ x. is_place place (instance_holding s x.number)) vs) (filter (λ x. is_place place (instance_holding s x.number)) vs))
        ≡ flat_map (line_at (braced (pair_at s place)) m s.forest.nodes) (numbers_of (cond b (v ∷ filter (λ x. is_place place (instance_holding s x.number)) vs) (filter (λ x. is_place place (instance_holding s x.number)) vs)))
    by true t later =
        ap (λ a. a ++ flat_map (λ (x : Visit). node_line_by s x x.content) (filter (λ x. is_place place (instance_holding s x.number)) vs))
        (line-same s m place v v.content h e.0 (place-some place (instance_holding s v.number) t) ∙ sym (ap (line_in (braced (pair_at s place)) m (all_in s) v.number) l.0))
        ∙ ap (λ b. line_at (braced (pair_at s place)) m s.forest.nodes v.number ++ b) later
    by false t later = later

-- the text of an instance
pub instance-lines : (s : State) (forest : Forest) (instances : List Instance) (m : ℕ → Marks) (place : ℕ) → HasTrees forest → IsOf s forest instances m
    → instance_lines s place
    ≡ block_text m forest.nodes place (pair_among instances place)
instance-lines s forest instances m place sound is =
    let whole : HasTrees s.forest = subst HasTrees (sym is.nodes) sound in
    let pair = pair-is s place ∙ ap (λ l. pair_among l place) is.tables in
    ap (λ l. line_of (codes "instance " ++ pair_text (pair_at s place)) ++ l) (lines-same s m place (all_in s) is.properties (self-found (all_in s) (apart s.forest whole)) (all-linked s.forest whole))
    ∙ ap (λ p. line_of (codes "instance " ++ pair_text p) ++ flat_map (line_at (braced p) m s.forest.nodes) (nodes_at s.forest.nodes place)) pair
    ∙ ap (λ (f : Forest). line_of (codes "instance " ++ pair_text (pair_among instances place)) ++ flat_map (line_at (braced (pair_among instances place)) m f.nodes) (nodes_at f.nodes place)) is.nodes

-- ---- one node of those that are asked for

pub content-live : (n : ℕ) (content : Content) (nodes : List Node) → Some content ≡ content_at n nodes → has_number n nodes ≡ true
content-live n content [] h = none-some (sym h)
content-live n content (x ∷ xs) h = by (x.number == n) (content-live n content xs) h
  where
    by : (b : Bool) → (Some content ≡ content_at n xs → has_number n xs ≡ true) → Some content ≡ option_map (λ (y : Node). y.content) (cond b (Some x) (node_at n xs)) → (b || has_number n xs) ≡ true
    by true later i = refl
    by false later i = later i

-- one line more
pub lines-more : (f : ℕ → List ℕ) (old new total ns : List ℕ) (at n : ℕ) → at < length ns → slice_get ns at ≡ Some n → new ≡ old ++ f n → old ++ flat_map f (drop at ns) ≡ total → new ++ flat_map f (drop (at + 1) ns) ≡ total
lines-more f old new total ns at n h s e t =
    ap (λ l. l ++ flat_map f (drop (at + 1) ns)) e ∙ append_assoc old (f n) (flat_map f (drop (at + 1) ns))
    ∙ ap (λ l. old ++ l) (sym (ap (flat_map f) (drop_more ns at 0 h ∙ ap (λ m. m ∷ drop (at + 1) ns) (get_or_from_slice_get ns at n 0 s))))
    ∙ t

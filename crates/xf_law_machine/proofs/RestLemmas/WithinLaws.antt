-- What is so within an event is kept by each change of a state.
use Rattle.std.proofs.Common.{◌≡◌, ℕ, zero, suc, ◌+◌, ◌==◌, Bool, true, false, not, ◌&&◌, List, [], ◌∷◌, ◌++◌, map, length, get_or, nat_lt, nat_le, Option, Some, None, Result, Ok, Err, refl, ap, ◌∙◌, subst, if◌then◌else◌, arith}
use Rattle.std.specs.Prelude.{fold, sum_by}
use Rattle.std.specs.List.{list_any}
use Rattle.std.proofs.lemmas.Bool.Decides.{nat_tests}
use Rattle.xf_def_forest.specs.declared.content.Node.{Node}
use Rattle.xf_def_forest.specs.declared.content.Content.{Content}
use Rattle.xf_def_forest.specs.declared.fault.TreeFault.{TreeFault}
use Rattle.xf_def_forest.specs.declared.fault.TreeFault.TheVariants.{Nodes, NodeText, AllText, Depth}
use Rattle.xf_def_forest.specs.Forest.{Forest, is_text, own_text, tree_of}
use Rattle.xf_def_forest.specs.Limits.{Limits, has_long_text, node_count, all_size, is_too_deep, passed_by_all, passed_by_text, passed_by_tree, unless}
use Rattle.xf_def_forest.specs.Plant.{numbered_from}
use Rattle.xf_def_forest.specs.Planted.{with_tree}
use Rattle.xf_def_forest.specs.Changes.{contents_in, copied, detached, attached, place_of, placed}
use Rattle.xf_def_forest.specs.Texts.{one_text, with_text, new_texts}
use Rattle.xf_def_forest.specs.Visit.{parent_of}
use Rattle.xf_def_forest.specs.Changes.{elements_above}
use Rattle.xf_def_forest.specs.Forest.{content_at}
use Rattle.xf_def_model.specs.Applied.{Entry}
use Rattle.xf_def_model.specs.Entries.{text_of}
use Rattle.xf_def_model.specs.Pertinent.{AllOf}
use Rattle.xf_def_model.specs.Rules.{Scope}
use Rattle.xf_def_model.specs.Settled.{Bounds, Contents, Valued, calculates, content_by, holding, fitting, round, rounds, settled_contents}
use Rattle.xf_def_forest.specs.Visit.{Visit}
use Rattle.xf_def_machine.specs.declared.limit.LimitWord.{LimitWord}
use Rattle.xf_def_machine.specs.Profile.{Profile}
use Rattle.xf_def_machine.specs.Program.{Program}
use Rattle.xf_def_machine.specs.State.{Model, State}
use Rattle.xf_def_machine.specs.Refusal.{unless_passed}
use Rattle.xf_def_machine.specs.Surround.{bind_scope, all_in, model_holding}
use Rattle.xf_def_machine.specs.Primitives.{changed_at, in_model, in_some_model, all_due, texts_due, refresh_due, with_text_mark, with_list_mark, list_changed, with_forest, grown, grown_to, grown_by, over_made, is_other_text, if_other, set_text, copy, plant, attach, detach}
use Rattle.xf_def_machine.specs.Behave.{no_model, model_at, asked_by_all, rebuilt_with, rebuild, recalculated_with, with_contents, recalculate, revalidated_with, revalidate}
use Rattle.xf_def_machine.specs.Update.{no_refresh, refresh_cleared, all_cleared}
use Rattle.xf_law_machine.specs.Behaviours.Chain.{IsChained, NoRebuild, NoneBefore}
use Rattle.xf_law_machine.specs.Rest.Rests.{IsMarkedDue, is_empty, are_filled}
use Rattle.xf_law_machine.proofs.RestLemmas.Holds.{Held}
use Rattle.xf_law_machine.proofs.RestLemmas.FlagLaws.{IsCalm, CalmAt, settled_values_in, invalid_in, changed-length, rebuild-held, recalculate-held}
use Rattle.xf_law_machine.proofs.RestLemmas.FilledLaws.{neither}
use Rattle.xf_law_machine.proofs.RestLemmas.ClearLaws.{Clear, MayCome, clear-append, clear-tree, clear-numbered, contents-clear, clear-cut, clear-placed, clear-text, clear-contents}

-- ---- models

abbrev pub Chained : Model → Type 0
Chained m = IsChained m.flags

pub record ModelsStand (p : Profile) (form : Program) (ms : List Model) : Type 0 where
  pub chained : AllOf Chained ms
  pub marked : AllOf IsMarkedDue ms
  pub count : length ms ≡ length form.model_elements
  pub edges : nat_le (sum_by (λ (m : Model). m.asked) ms) p.edges ≡ true

-- the model that is changed is known
all-changed : (Q : Model → Type 0) (change : Model → Model) (k : ℕ) (ms : List Model)
    → (Q (get_or ms k no_model) → Q (change (get_or ms k no_model))) → AllOf Q ms → AllOf Q (changed_at k change ms)
all-changed Q change k [] f h = h
all-changed Q change zero (m ∷ ms) f h = (f h.0, h.1)
all-changed Q change (suc k) (m ∷ ms) f h = (h.0, all-changed Q change k ms f h.1)

asked-changed : (change : Model → Model) → ((m : Model) → (change m).asked ≡ m.asked) → (sum k : ℕ) (ms : List Model)
    → fold (λ (a : ℕ) (m : Model). a + m.asked) sum (changed_at k change ms) ≡ fold (λ (a : ℕ) (m : Model). a + m.asked) sum ms
asked-changed change e sum k [] = refl
asked-changed change e sum zero (m ∷ ms) = ap (λ n. fold (λ (a : ℕ) (x : Model). a + x.asked) (sum + n) ms) (e m)
asked-changed change e sum (suc k) (m ∷ ms) = asked-changed change e (sum + m.asked) k ms

pub record IsChange (change : Model → Model) (m : Model) : Type 0 where
  pub chained : Chained m → Chained (change m)
  pub marked : IsMarkedDue m → IsMarkedDue (change m)

pub models-changed : (p : Profile) (form : Program) (change : Model → Model) (k : ℕ) (ms : List Model)
    → IsChange change (get_or ms k no_model) → ((m : Model) → (change m).asked ≡ m.asked) → ModelsStand p form ms → ModelsStand p form (changed_at k change ms)
models-changed p form change k ms c e h = record {
  chained = all-changed Chained change k ms c.chained h.chained;
  marked = all-changed IsMarkedDue change k ms c.marked h.marked;
  count = changed-length change k ms ∙ h.count;
  edges = ap (λ n. nat_le n p.edges) (asked-changed change e 0 k ms) ∙ h.edges;
}

text-change : (b : Bool) (n : ℕ) (m : Model) → IsChange (λ x. texts_due (if_other b (with_text_mark n) x)) m
text-change b n m = record { chained = λ c. record { rebuild = λ h. refl; recalculate = λ h. refl; revalidate = λ h. refl }; marked = λ c h. cc }

text-asked : (b : Bool) (n : ℕ) (m : Model) → (texts_due (if_other b (with_text_mark n) m)).asked ≡ m.asked
text-asked true n m = refl
text-asked false n m = refl

list-change : (n : ℕ) (m : Model) → IsChange (λ x. all_due (with_list_mark n x)) m
list-change n m = record { chained = λ c. record { rebuild = λ h. refl; recalculate = λ h. refl; revalidate = λ h. refl }; marked = λ c h. cc }

refresh-change : (m : Model) → IsChange refresh_due m
refresh-change m = record { chained = λ c. record { rebuild = c.rebuild; recalculate = c.recalculate; revalidate = λ h. refl }; marked = λ c h. let i = c h in record { texts = i.texts; lists = i.lists } }

rebuilt-change : (entries : List Entry) (asked : ℕ) (m : Model) → IsChange (rebuilt_with entries asked) m
rebuilt-change entries asked m = record { chained = λ c. record { rebuild = λ h. cc; recalculate = c.recalculate; revalidate = c.revalidate }; marked = λ c h. let i = c h in record { texts = i.texts; lists = i.lists } }

recalculated-change : (values : List Valued) (m : Model) → m.flags.rebuild ≡ false → IsChange (recalculated_with values) m
recalculated-change values m q = record { chained = λ c. record { rebuild = λ h. cc; recalculate = λ h. cc; revalidate = c.revalidate }; marked = λ c h. record { texts = refl; lists = refl } }

revalidated-change : (ns : List ℕ) (m : Model) → m.flags.recalculate ≡ false → IsChange (revalidated_with ns) m
revalidated-change ns m q = record { chained = λ c. record { rebuild = c.rebuild; recalculate = λ h. cc; revalidate = λ h. cc }; marked = λ c h. let i = c h in record { texts = i.texts; lists = i.lists } }

clear-change : (m : Model) → m.flags.revalidate ≡ false → IsChange no_refresh m
clear-change m q = record { chained = λ c. record { rebuild = c.rebuild; recalculate = c.recalculate; revalidate = λ h. cc }; marked = λ c h. let i = c h in record { texts = i.texts; lists = i.lists } }

all-cleared : (Q : Model → Type 0) (ms : List Model) → ((m : Model) → IsCalm m → Q m → Q (no_refresh m)) → AllOf IsCalm ms → AllOf Q ms → AllOf Q (map no_refresh ms)
all-cleared Q [] f c h = tt
all-cleared Q (m ∷ ms) f c h = (f m c.0 h.0, all-cleared Q ms f c.1 h.1)

cleared-length : (ms : List Model) → length (map no_refresh ms) ≡ length ms
cleared-length [] = refl
cleared-length (m ∷ ms) = ap suc (cleared-length ms)

asked-cleared : (sum : ℕ) (ms : List Model) → fold (λ (a : ℕ) (m : Model). a + m.asked) sum (map no_refresh ms) ≡ fold (λ (a : ℕ) (m : Model). a + m.asked) sum ms
asked-cleared sum [] = refl
asked-cleared sum (m ∷ ms) = asked-cleared (sum + m.asked) ms

models-cleared : (p : Profile) (form : Program) (ms : List Model) → AllOf IsCalm ms → ModelsStand p form ms → ModelsStand p form (map no_refresh ms)
models-cleared p form ms c h = record {
  chained = all-cleared Chained ms (λ m d. (clear-change m d.revalidate).chained) c h.chained;
  marked = all-cleared IsMarkedDue ms (λ m d. (clear-change m d.revalidate).marked) c h.marked;
  count = cleared-length ms ∙ h.count;
  edges = ap (λ n. nat_le n p.edges) (asked-cleared 0 ms) ∙ h.edges;
}

-- ---- nodes

abbrev pub empty_text : Content → Bool
empty_text c = is_text c && (length (own_text c) == 0)

abbrev pub long_text : ℕ → Content → Bool
long_text limit c = nat_lt limit (length (own_text c))

pub record NodesStand (p : Profile) (nodes : List Node) : Type 0 where
  pub filled : Clear empty_text nodes
  pub texts : Clear (long_text p.bounds.limits.text) nodes

one-filled : (number : ℕ) (text : List ℕ) → Clear empty_text (one_text number text)
one-filled number [] = refl
one-filled number (c ∷ cs) = neither (length (c ∷ cs) == 0) false (grind (arith, nat_tests)) refl

one-short : (limit number : ℕ) (text : List ℕ) → nat_lt limit (length text) ≡ false → Clear (long_text limit) (one_text number text)
one-short limit number [] h = refl
one-short limit number (c ∷ cs) h = neither (nat_lt limit (length (c ∷ cs))) false h refl

filled-may : (text : List ℕ) → MayCome empty_text text
filled-may text = record { attribute = λ name. refl; element = λ number. one-filled number text }

short-may : (limit : ℕ) (text : List ℕ) → nat_lt limit (length text) ≡ false → MayCome (long_text limit) text
short-may limit text h = record { attribute = λ name. h; element = λ number. one-short limit number text h }

-- settled texts are none that are too long
fitting-short : (limit : ℕ) (o : Option (List ℕ)) → nat_lt limit (length (fitting limit o)) ≡ false
fitting-short limit None = grind (arith, nat_tests)
fitting-short limit (Some text) = by (nat_lt limit (length text)) refl
  where
    by : (b : Bool) → nat_lt limit (length text) ≡ b → nat_lt limit (length (if b then [] else text)) ≡ false
    by true e = grind (arith, nat_tests)
    by false e = e

abbrev AreShort : ℕ → Contents → Type 0
AreShort limit contents = AllOf (λ c. nat_lt limit (length c.1) ≡ false) contents

computed-short : (b : Bounds) (scope : Scope) (all : List Visit) (es : List Entry) → AreShort b.limits.text (map (content_by b scope all) es)
computed-short b scope all [] = tt
computed-short b scope all (e ∷ es) = (fitting-short b.limits.text (text_of (Some b.string) scope all e), computed-short b scope all es)

rounds-short : (b : Bounds) (scope : Scope) (entries : List Entry) (all : List Visit) (k : ℕ) (contents : Contents)
    → AreShort b.limits.text contents → AreShort b.limits.text (rounds b scope entries all k contents)
rounds-short b scope entries all zero contents h = h
rounds-short b scope entries all (suc k) contents h =
    rounds-short b scope entries all k (round b scope entries all contents) (computed-short b scope (holding all contents) (calculates entries))

all-may : (bad : Content → Bool) (limit : ℕ) (contents : Contents) → ((text : List ℕ) → nat_lt limit (length text) ≡ false → MayCome bad text)
    → AreShort limit contents → AllOf (λ c. MayCome bad c.1) contents
all-may bad limit [] f h = tt
all-may bad limit (c ∷ cs) f h = (f c.1 h.0, all-may bad limit cs f h.1)

settled-stand : (p : Profile) (number : ℕ) (contents : Contents) (nodes : List Node) → AreShort p.bounds.limits.text contents → NodesStand p nodes
    → NodesStand p (with_contents number contents nodes)
settled-stand p number contents nodes m h =
    let limit = p.bounds.limits.text in
    record {
      filled = clear-contents empty_text number contents nodes (all-may empty_text limit contents (λ text i. filled-may text) m) h.filled;
      texts = clear-contents (long_text limit) number contents nodes (all-may (long_text limit) limit contents (short-may limit) m) h.texts;
    }

-- ---- what a limit says where it is not passed

unless-ok : {X : Type 0} (o : Option TreeFault) (x y : X) → unless o x ≡ Ok y → (o ≡ None) × (x ≡ y)
unless-ok None x y e = (refl, cc)
unless-ok (Some fault) x y e = cc

text-passed : (l : Limits) (size : ℕ) (nodes : List Node) → passed_by_text l size nodes ≡ None → nat_lt l.text size ≡ false
text-passed l size nodes h = by (nat_lt l.nodes (node_count nodes)) (nat_lt l.text size) (nat_lt l.all (all_size nodes)) h
  where
    by : (a b c : Bool) → ◌≡◌ {A = Option TreeFault} (if a then Some Nodes else if b then Some NodeText else if c then Some AllText else None) None → b ≡ false
    by true b c e = cc
    by false true c e = cc
    by false false c e = refl

tree-passed : (l : Limits) (tree nodes : List Node) → passed_by_tree l tree nodes ≡ None → has_long_text l.text tree ≡ false
tree-passed l tree nodes h = by (nat_lt l.nodes (node_count nodes)) (has_long_text l.text tree) (nat_lt l.all (all_size nodes)) (is_too_deep l.depth 0 tree) h
  where
    by : (a b c d : Bool) → ◌≡◌ {A = Option TreeFault} (if a then Some Nodes else if b then Some NodeText else if c then Some AllText else if d then Some Depth else None) None → b ≡ false
    by true b c d e = cc
    by false true c d e = cc
    by false false c d e = refl

-- ---- a whole state

pub record Stands (p : Profile) (begun : Program) (count : ℕ) (s : State) : Type 0 where
  pub models : ModelsStand p begun s.models
  pub nodes : NodesStand p s.forest.nodes
  pub form : s.form ≡ begun
  pub accepted : s.accepted ≡ count

pub grown-held : (P : State → Type 0) (p : Profile) (count : ℕ) (r : Result Forest TreeFault) (s : State)
    → ((forest : Forest) → r ≡ Ok forest → P (with_forest forest (record s { made = s.made + count }))) → Held P (grown_to (grown p count r s))
grown-held P p count (Err fault) s k = tt
grown-held P p count (Ok forest) s k = by (over_made p (s.made + count))
  where
    by : (words : List LimitWord) → Held P (grown_to (unless_passed s words (forest, record s { made = s.made + count })))
    by [] = k forest refl
    by (word ∷ words) = tt

pub grown-by-held : (P : State → Type 0) (p : Profile) (count : ℕ) (r : Result (ℕ × Forest) TreeFault) (s : State)
    → ((one : ℕ × Forest) → r ≡ Ok one → P (with_forest one.1 (record s { made = s.made + count }))) → Held (λ q. P q.1) (grown_by (grown p count r s))
grown-by-held P p count (Err fault) s k = tt
grown-by-held P p count (Ok one) s k = by (over_made p (s.made + count))
  where
    by : (words : List LimitWord) → Held (λ q. P q.1) (grown_by (unless_passed s words (one, record s { made = s.made + count })))
    by [] = k one refl
    by (word ∷ words) = tt

module _ (p : Profile) (form : Program) (count : ℕ) where
  abbrev P : State → Type 0
  P s = Stands p form count s

  some-stand : (change : Model → Model) (o : Option ℕ) (s : State) → ((m : Model) → IsChange change m) → ((m : Model) → (change m).asked ≡ m.asked)
      → P s → P (in_some_model change o s)
  some-stand change None s c e h = h
  some-stand change (Some k) s c e h = record { models = models-changed p form change k s.models (c (get_or s.models k no_model)) e h.models; nodes = h.nodes; form = h.form; accepted = h.accepted }

  list-stands : (o : Option ℕ) (s : State) → P s → P (list_changed o s)
  list-stands None s h = h
  list-stands (Some parent) s h = some-stand (λ m. all_due (with_list_mark parent m)) (model_holding s parent) s (list-change parent) (λ m. refl) h

  nodes-of : (s : State) (forest : Forest) → P s → NodesStand p forest.nodes → P (with_forest forest s)
  nodes-of s forest h n = record { models = h.models; nodes = n; form = h.form; accepted = h.accepted }

  pub text-stands : (n : ℕ) (text : List ℕ) (s : State) → P s → Held P (set_text p n text s)
  text-stands n text s h =
      let limit = p.bounds.limits.text in
      let after = with_text n text s.forest in
      let b = is_other_text s n text in
      let marked = in_some_model (λ m. texts_due (if_other b (with_text_mark n) m)) (model_holding s n) s in
      let g : P marked = some-stand (λ m. texts_due (if_other b (with_text_mark n) m)) (model_holding s n) s (text-change b n) (text-asked b n) h in
      grown-held P p (length (new_texts n text s.forest)) (unless (passed_by_text p.bounds.limits (length text) after.nodes) after) marked
      (λ forest e. let ok = unless-ok (passed_by_text p.bounds.limits (length text) after.nodes) after forest e in
      record {
        models = g.models;
        nodes = subst (λ (x : Forest). NodesStand p x.nodes) ok.1 (record {
          filled = clear-text empty_text n text s.forest (filled-may text) h.nodes.filled;
          texts = clear-text (long_text limit) n text s.forest (short-may limit text (text-passed p.bounds.limits (length text) after.nodes ok.0)) h.nodes.texts;
        });
        form = g.form;
        accepted = g.accepted;
      })

  grown-nodes : (contents : List (ℕ × Content)) (next : ℕ) (nodes : List Node) → list_any is_empty contents ≡ false → Clear (long_text p.bounds.limits.text) (numbered_from next contents)
      → NodesStand p nodes → NodesStand p (nodes ++ numbered_from next contents)
  grown-nodes contents next nodes f l h = record {
    filled = clear-append empty_text nodes (numbered_from next contents) h.filled (clear-numbered empty_text next contents f);
    texts = clear-append (long_text p.bounds.limits.text) nodes (numbered_from next contents) h.texts l;
  }

  pub copy-stands : (n : ℕ) (s : State) → P s → Held (λ q. P q.1) (copy p n s)
  copy-stands n s h =
      let limit = p.bounds.limits.text in
      let tree = tree_of n s.forest.nodes in
      grown-by-held P p (length tree) (copied p.bounds.limits n s.forest) s
      (λ one e. let nodes = s.forest.nodes ++ numbered_from s.forest.next (contents_in tree) in
      let ok = unless-ok (passed_by_all p.bounds.limits nodes) (s.forest.next, record { nodes = nodes; next = s.forest.next + length tree }) one e in
      nodes-of (record s { made = s.made + length tree }) one.1 (record { models = h.models; nodes = h.nodes; form = h.form; accepted = h.accepted })
      (subst (λ (x : ℕ × Forest). NodesStand p x.1.nodes) ok.1
      (grown-nodes (contents_in tree) s.forest.next s.forest.nodes (contents-clear empty_text tree (clear-tree empty_text n s.forest.nodes h.nodes.filled))
      (clear-numbered (long_text limit) s.forest.next (contents_in tree) (contents-clear (long_text limit) tree (clear-tree (long_text limit) n s.forest.nodes h.nodes.texts))) h.nodes)))

  not-none : (b : Bool) → not b ≡ true → b ≡ false
  not-none true e = cc
  not-none false e = refl

  -- a tree that comes in, with the forest and its top
  pub tree-stands : (contents : List (ℕ × Content)) (s : State) → are_filled contents ≡ true → P s → (one : ℕ × Forest) → with_tree p.bounds.limits contents s.forest ≡ Ok one → NodesStand p one.1.nodes
  tree-stands contents s f h one e =
      let tree = numbered_from s.forest.next contents in
      let ok = unless-ok (passed_by_tree p.bounds.limits tree (s.forest.nodes ++ tree)) (s.forest.next, record { nodes = s.forest.nodes ++ tree; next = s.forest.next + length contents }) one e in
      subst (λ (x : ℕ × Forest). NodesStand p x.1.nodes) ok.1
      (grown-nodes contents s.forest.next s.forest.nodes (not-none (list_any is_empty contents) f) (tree-passed p.bounds.limits tree (s.forest.nodes ++ tree) ok.0) h.nodes)

  pub plant-stands : (contents : List (ℕ × Content)) (s : State) → are_filled contents ≡ true → P s → Held (λ q. P q.1) (plant p contents s)
  plant-stands contents s f h =
      grown-by-held P p (length contents) (with_tree p.bounds.limits contents s.forest) s
      (λ one e. record { models = h.models; nodes = tree-stands contents s f h one e; form = h.form; accepted = h.accepted })

  pub attach-stands : (n parent place : ℕ) (s : State) → P s → Held P (attach p n parent place s)
  attach-stands n parent place s h =
      let g = list-stands (Some parent) s h in
      let all = all_in s in
      let at = place_of parent place all (content_at n s.forest.nodes) in
      let deep = is_too_deep p.bounds.limits.depth (elements_above parent all) (tree_of n s.forest.nodes) in
      grown-held P p 0 (attached p.bounds.limits n parent place s.forest) (list_changed (Some parent) s)
      (λ forest e. let ok = unless-ok (if deep then Some Depth else None) (placed n parent at s.forest) forest e in
      record {
        models = g.models;
        nodes = subst (λ (x : Forest). NodesStand p x.nodes) ok.1 (record {
          filled = clear-placed empty_text n parent at s.forest h.nodes.filled;
          texts = clear-placed (long_text p.bounds.limits.text) n parent at s.forest h.nodes.texts;
        });
        form = g.form;
        accepted = g.accepted;
      })

  pub detach-stands : (n : ℕ) (s : State) → P s → P (detach n s)
  detach-stands n s h =
      nodes-of (list_changed (parent_of n (all_in s)) s) (detached n s.forest) (list-stands (parent_of n (all_in s)) s h)
      (record { filled = clear-cut empty_text n s.forest h.nodes.filled; texts = clear-cut (long_text p.bounds.limits.text) n s.forest h.nodes.texts })

  -- ---- behaviours

  models-of : (change : Model → Model) (model : ℕ) (s : State) → IsChange change (model_at s model) → ((m : Model) → (change m).asked ≡ m.asked) → P s → P (in_model change model s)
  models-of change model s c e h = record { models = models-changed p form change model s.models c e h.models; nodes = h.nodes; form = h.form; accepted = h.accepted }

  pub refresh-stands : (model : ℕ) (s : State) → P s → P (in_model refresh_due model s)
  refresh-stands model s h = models-of refresh_due model s (refresh-change (model_at s model)) (λ m. refl) h

  at-most : (a b : ℕ) → nat_lt b a ≡ false → nat_le a b ≡ true
  at-most a b h = grind (arith, nat_tests, h)

  pub rebuild-stands : (model : ℕ) (s : State) → P s → Held P (rebuild p model s)
  rebuild-stands model s h = rebuild-held P p model s (λ entries asked q.
      let change = rebuilt_with entries asked in
      let c = rebuilt-change entries asked (model_at s model) in
      record {
        models = record {
          chained = all-changed Chained change model s.models c.chained h.models.chained;
          marked = all-changed IsMarkedDue change model s.models c.marked h.models.marked;
          count = changed-length change model s.models ∙ h.models.count;
          edges = at-most (asked_by_all (in_model change model s)) p.edges q;
        };
        nodes = h.nodes;
        form = h.form;
        accepted = h.accepted;
      })

  pub recalculate-stands : (model : ℕ) (s : State) → NoRebuild model s → P s → Held P (recalculate p model s)
  recalculate-stands model s q h = recalculate-held P p model s (λ made count.
      let entries = (model_at s model).entries in
      let contents = settled_contents p.bounds (bind_scope p s model) entries (all_in s) in
      let values = settled_values_in p model s in
      record {
        models = models-changed p form (recalculated_with values) model s.models (recalculated-change values (model_at s model) q) (λ m. refl) h.models;
        nodes = settled-stand p s.forest.next contents s.forest.nodes (rounds-short p.bounds (bind_scope p s model) entries (all_in s) (length (calculates entries)) [] tt) h.nodes;
        form = h.form;
        accepted = h.accepted;
      })

  pub revalidate-stands : (model : ℕ) (s : State) → NoneBefore model s → P s → P (revalidate p model s)
  revalidate-stands model s q h = models-of (revalidated_with (invalid_in p model s)) model s (revalidated-change (invalid_in p model s) (model_at s model) q.recalculate) (λ m. refl) h

  pub cleared-stands : (model : ℕ) (s : State) → CalmAt model s → P s → P (refresh_cleared model s)
  cleared-stands model s c h = models-of no_refresh model s (clear-change (model_at s model) c.revalidate) (λ m. refl) h

  pub all-cleared-stands : (s : State) → AllOf IsCalm s.models → P s → P (all_cleared s)
  all-cleared-stands s c h = record { models = models-cleared p form s.models c h.models; nodes = h.nodes; form = h.form; accepted = h.accepted }

-- The document elements follow each change.
use Rattle.std.proofs.Common.{◌≡◌, ℕ, zero, suc, ◌==◌, Bool, true, false, not, cond, ◌||◌, List, [], ◌∷◌, ◌++◌, Some, None, refl, sym, ap, ◌∙◌, subst, inl, inr}
use Rattle.std.specs.List.{list_all}
use Rattle.xf_def_syntax.specs.declared.form.Instance.{Instance}
use Rattle.xf_def_forest.specs.declared.content.Node.{Node}
use Rattle.xf_def_forest.specs.Forest.{Forest, is_root}
use Rattle.xf_def_forest.specs.Visit.{visits, has}
use Rattle.xf_def_forest.specs.Changes.{root_of, in_instances, in_detached, detached, placed}
use Rattle.xf_def_forest.specs.Settle.{with_numbered_text}
use Rattle.xf_def_forest.proofs.BackLaws.{and-true}
use Rattle.xf_def_xpath.specs.Agree.{numbers_of}
use Rattle.xf_def_xpath.proofs.VisitFacts.{no, or-cases, or-left}
use Rattle.xf_law_recalculation.specs.Marks.Marks.{SameNodes}
use Rattle.xf_law_recalculation.specs.Edit.Edits.{MarksMore}
use Rattle.xf_law_recalculation.specs.Marks.Instances.{standing}
use Rattle.xf_law_recalculation.proofs.EditLemmas.Attached.{tree_attached}
use Rattle.xf_law_recalculation.proofs.EditLemmas.EditLaws.{same_at_first}
use Rattle.xf_law_recalculation.proofs.EditLemmas.FrontEdits.{text_set_in_instances, tree_detached}
use Rattle.xf_law_recalculation.proofs.MarksLemmas.Standing.{parts}
use Rattle.xf_law_recalculation.proofs.MarksLemmas.TextLists.{not-of}
use Rattle.xf_law_recalculation.proofs.ChangeLemmas.Carry.{standing-apart, front-absent, one-mark}
use Rattle.xf_law_recalculation.proofs.ChangeLemmas.OthersCarry.{visits-kept}
use Rattle.xf_law_recalculation.proofs.ChangeLemmas.RootPlaces.{root_keeps_place_text, root_keeps_place_detached, root_keeps_place_placed}
use Rattle.xf_law_recalculation.proofs.ChangeLemmas.TreesCarry.{outside-tree}
use Rattle.xf_law_recalculation.specs.Document.Documents.{HasDocuments}
use Rattle.xf_law_recalculation.specs.Document.Changes.{FirstFollows, TextFollows, DetachedFollows, PlacedFollows, ReplacedFollows, ElsewhereFollows}
use Rattle.xf_law_recalculation.proofs.DocumentLemmas.Follow.{documents_follow}

-- ---- marks

one-more : (lists more : List ℕ) (p : ℕ) → MarksMore lists p more → (k : ℕ) → has k (p ∷ []) ≡ true → has k more ≡ true
one-more lists more p marks k h = marks k ∙ elim (or-cases (k == p) false h) [ inl i ↦ or-left (k == p) (has k lists) i | inr i ↦ no i ]

-- ---- the laws

pub first_follows : FirstFollows
first_follows instances scope forest h e =
    documents_follow [] [] [] instances scope scope forest forest (record { has_before = h; has_after = h; model = refl; before = e; now = e }) (λ place. refl) (same_at_first (standing forest)) (λ k i. i)

pub text_follows : TextFollows
text_follows lists instances scope later number n next text forest by_roots able stands free =
    documents_follow (n ∷ []) [] lists instances scope later forest after by_roots (λ place. root_keeps_place_text number n place text forest by_roots.has_before.trees)
    (text_set_in_instances [] [] (n ∷ []) number n next text forest (standing forest) (one-mark n) by_roots.has_before.trees by_roots.has_after.trees able stands (standing-apart forest by_roots.has_before.trees)
    (front-absent number forest.nodes free) (same_at_first (standing forest))) (λ k i. no i)
  where
    after : Forest
    after = record { nodes = with_numbered_text number n text forest.nodes; next = next }

pub detached_follows : DetachedFollows
detached_follows lists more instances scope later n p forest by_roots marks in_it kinds =
    documents_follow [] (p ∷ []) more instances scope later forest (detached n forest) by_roots (λ place. root_keeps_place_detached n place forest by_roots.has_before.trees kinds)
    (tree_detached [] [] (p ∷ []) n p forest (standing forest) (one-mark p) by_roots.has_before.trees in_it (standing-apart forest by_roots.has_before.trees) (same_at_first (standing forest)))
    (one-more lists more p marks)

pub placed_follows : PlacedFollows
placed_follows lists more instances scope later n p place forest by_roots marks comes kinds =
    documents_follow [] (p ∷ []) more instances scope later forest (placed n p place forest) by_roots (λ at. root_keeps_place_placed n p place at forest comes.trees kinds)
    (tree_attached [] [] (p ∷ []) n p place comes.top forest (standing forest) (one-mark p) comes.trees comes.trees_after comes.stands comes.solid comes.outside comes.parent comes.ahead
    (standing-apart forest comes.trees) (outside-tree n forest comes.trees comes.outside) (same_at_first (standing forest)))
    (one-more lists more p marks)

pub replaced_follows : ReplacedFollows
replaced_follows lists more instances scope later old n root forest by_roots marks in_it kinds comes kinds_too new =
    documents_follow [] (root ∷ []) more instances scope later forest (placed n root 0 (detached old forest)) by_roots
    (λ place. root_keeps_place_placed n root 0 place (detached old forest) comes.trees kinds_too ∙ root_keeps_place_detached old place forest by_roots.has_before.trees kinds)
    (tree_attached [] (root ∷ []) (root ∷ []) n root 0 comes.top (detached old forest) (standing forest) again comes.trees comes.trees_after comes.stands comes.solid comes.outside comes.parent comes.ahead
    (standing-apart forest by_roots.has_before.trees) (λ k h. ap (λ l. has k (numbers_of l)) (sym (visits-kept (standing forest))) ∙ new k h)
    (tree_detached [] [] (root ∷ []) old root forest (standing forest) (one-mark root) by_roots.has_before.trees in_it (standing-apart forest by_roots.has_before.trees) (same_at_first (standing forest))))
    (one-more lists more root marks)
  where
    twice : (b : Bool) → (b || false) ≡ (b || (b || false))
    twice true = refl
    twice false = refl

    again : MarksMore (root ∷ []) root (root ∷ [])
    again k = twice (k == root)

-- no root stands behind
none-behind : (zs : List Node) → list_all (λ y. not (is_root y.content)) zs ≡ true → (place : ℕ) → root_of place zs ≡ None
none-behind [] h place = refl
none-behind (z ∷ zs) h zero =
    let ps = and-true (not (is_root z.content)) (list_all (λ y. not (is_root y.content)) zs) h in
    ap (λ b. cond b (Some z.number) (root_of zero zs)) (not-of (is_root z.content) ps.0) ∙ none-behind zs ps.1 zero
none-behind (z ∷ zs) h (suc place) =
    let ps = and-true (not (is_root z.content)) (list_all (λ y. not (is_root y.content)) zs) h in
    ap (λ b. cond b (root_of place zs) (root_of (suc place) zs)) (not-of (is_root z.content) ps.0) ∙ none-behind zs ps.1 (suc place)

in-front : (xs zs : List Node) → list_all (λ y. not (is_root y.content)) zs ≡ true → (place : ℕ) → root_of place (xs ++ zs) ≡ root_of place xs
in-front [] zs h place = none-behind zs h place
in-front (x ∷ xs) zs h zero = ap (λ o. cond (is_root x.content) (Some x.number) o) (in-front xs zs h zero)
in-front (x ∷ xs) zs h (suc place) = by (is_root x.content) (in-front xs zs h place) (in-front xs zs h (suc place))
  where
    by : (b : Bool) → root_of place (xs ++ zs) ≡ root_of place xs → root_of (suc place) (xs ++ zs) ≡ root_of (suc place) xs →
        cond b (root_of place (xs ++ zs)) (root_of (suc place) (xs ++ zs)) ≡ cond b (root_of place xs) (root_of (suc place) xs)
    by true f g = f
    by false f g = g

-- the roots are those of the instances
of-instances : (instances : List Instance) (forest : Forest) → HasDocuments instances forest → (place : ℕ) → root_of place forest.nodes ≡ root_of place (in_instances forest.nodes)
of-instances instances forest h place = ap (root_of place) (parts forest.nodes) ∙ in-front (in_instances forest.nodes) (in_detached forest.nodes) h.ahead place

pub elsewhere_follows : ElsewhereFollows
elsewhere_follows lists instances scope later forest after by_roots same =
    documents_follow [] [] lists instances scope later forest after by_roots
    (λ place. of-instances instances after by_roots.has_after place ∙ ap (root_of place) same ∙ sym (of-instances instances forest by_roots.has_before place))
    (subst (λ ns. SameNodes [] [] (visits ns) (standing forest)) (sym same) (same_at_first (standing forest))) (λ k i. no i)

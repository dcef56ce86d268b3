-- What stays where contents are written, whichever of them: trees, texts in elements, the shape, and what is no text.
use Rattle.std.proofs.Common.{◌≡◌, ℕ, suc, ◌+◌, Bool, true, false, cond, List, [], ◌∷◌, length, nat_lt, refl, sym, ap, ◌∙◌, subst, arith}
use Rattle.std.specs.Prelude.{◌≤◌}
use Rattle.std.proofs.lemmas.Bool.Decides.{nat_tests}
use Rattle.xf_def_forest.specs.declared.content.Node.{Node}
use Rattle.xf_def_forest.specs.Changes.{in_instances}
use Rattle.xf_def_forest.specs.Forest.{Forest, has_number}
use Rattle.xf_def_forest.specs.Needs.{IsSettable}
use Rattle.xf_def_forest.specs.Settle.{has_text, with_numbered_text, with_settled_text}
use Rattle.xf_def_forest.specs.Shape.{shape_of}
use Rattle.xf_def_forest.specs.Visit.{visits}
use Rattle.xf_def_forest.specs.WellFormed.{are_below, HasTrees}
use Rattle.xf_def_forest.proofs.SettleLaws.{numbered-is}
use Rattle.xf_def_forest.proofs.TextLaws.{setting-keeps_shape}
use Rattle.xf_law_forests.proofs.RollbackLemmas.Trees.{Trees, onto, times}
use Rattle.xf_law_forests.proofs.RollbackLemmas.KeepingTrees.{Stands, stands}
use Rattle.xf_law_recalculation.specs.Agree.Hung.{are_hung}
use Rattle.xf_law_forests.specs.Settle.Written.{Contents, written, AreSettable}
use Rattle.xf_law_forests.proofs.SettleLemmas.KindLemmas.{and-parts}
use Rattle.xf_law_forests.proofs.SettleLemmas.Put.{put}
use Rattle.xf_law_forests.proofs.SettleLemmas.Spots.{Fits, put-absent}
use Rattle.xf_law_forests.proofs.SettleLemmas.Bridge.{settled-onto}
use Rattle.xf_law_forests.proofs.SettleLemmas.WrittenLaws.{alone, alone-trees, once, settable-fits}
use Rattle.xf_law_forests.proofs.SettleLemmas.StillLaws.{settable-still}
use Rattle.xf_law_recalculation.proofs.SinceLemmas.Passes.{both}
use Rattle.xf_law_recalculation.proofs.SinceLemmas.TreesStay.{put-trees}
use Rattle.xf_law_recalculation.proofs.SinceLemmas.SolidStays.{solid_of, put-solid, front, in-front, front-put, front-fits, front-absent, put-hung}

-- ---- a greater next number

abbrev pub with_next : ℕ → List Node → Forest
with_next next nodes = record { nodes = nodes; next = next }

pub later-trees : (next more : ℕ) (nodes : List Node) → next ≤ more → HasTrees (with_next next nodes) → HasTrees (with_next more nodes)
later-trees next more nodes le h = record { apart = h.apart; below = wider nodes h.below; depths = h.depths; tops = h.tops; first = h.first }
  where
    wider : (xs : List Node) → are_below next xs ≡ true → are_below more xs ≡ true
    wider [] i = refl
    wider (x ∷ xs) i =
        let parts = and-parts (nat_lt x.number next) (are_below next xs) i in
        let first = parts.0 in
        both _ _ (grind (arith, nat_tests, first, le)) (wider xs parts.1)

pub able-later : (m next : ℕ) (forest : Forest) → IsSettable m forest → IsSettable m (with_next next forest.nodes)
able-later m next forest h = record { kind = h.kind; childless = h.childless }

-- ---- one text

-- of the nodes where a text was settled
pub record Stepped (n : ℕ) (forest : Forest) (nodes : List Node) : Type 0 where
  pub trees : HasTrees (with_next (suc forest.next) nodes)
  pub hung : are_hung nodes ≡ true
  pub shaped : shape_of nodes ≡ shape_of forest.nodes
  pub solid : solid_of (visits nodes) ≡ solid_of (visits forest.nodes)
  pub inside : solid_of (visits (in_instances nodes)) ≡ solid_of (visits (in_instances forest.nodes))
  -- at a node outside the instances
  pub away : has_number n (in_instances forest.nodes) ≡ false → in_instances nodes ≡ in_instances forest.nodes
  pub able : (m : ℕ) → IsSettable m forest → IsSettable m (with_next (suc forest.next) nodes)

pub stepped : (forest : Forest) (n : ℕ) (text : List ℕ) → HasTrees forest → are_hung forest.nodes ≡ true → IsSettable n forest → Stepped n forest (with_settled_text forest.next n text forest.nodes)
stepped forest n text trees hung able = record {
  trees = subst (λ l. HasTrees (with_next (suc a) l)) (sym is)
      (put-trees a n text t fits (once forest s) fresh a (suc a) (subst (λ l. HasTrees (with_next a l)) s.nodes trees) (omega arith) (omega arith));
  hung = ap are_hung is ∙ put-hung a n text t fits (sym (ap are_hung s.nodes) ∙ hung);
  shaped = by (has_text n text forest.nodes);
  solid = ap (λ l. solid_of (visits l)) is ∙ put-solid a n text t fits ∙ ap (λ l. solid_of (visits l)) (sym s.nodes);
  inside = ap (λ l. solid_of (visits l)) (inside-is ∙ ap (λ x. onto 0 x []) (front-put a n text t)) ∙ put-solid a n text (front t) (front-fits n t fits)
      ∙ ap (λ l. solid_of (visits l)) (sym (ap in_instances s.nodes ∙ in-front t));
  away = λ h. inside-is ∙ ap (λ x. onto 0 x []) (front-put a n text t ∙ put-absent a n text (front t) (front-absent n t (ap (λ l. has_number n (in_instances l)) (sym s.nodes) ∙ h)))
      ∙ sym (ap in_instances s.nodes ∙ in-front t);
  able = λ m h. settable-still (λ k. true) a ((n, text) ∷ []) forest m (suc a) (record { trees = trees; settable = (able, tt); different = refl; later = omega arith }) h;
}
  where
    a : ℕ
    a = forest.next

    s : Stands (alone forest)
    s = stands (alone forest) (alone-trees forest trees)

    t : Trees
    t = s.trees

    fits : Fits n t
    fits = settable-fits forest s n able

    fresh : times a t ≡ 0
    fresh = s.old a (omega arith)

    is : with_settled_text a n text forest.nodes ≡ onto 0 (put a n text t) []
    is = ap (with_settled_text a n text) s.nodes ∙ settled-onto a n text t fits (once forest s n)

    inside-is : in_instances (with_settled_text a n text forest.nodes) ≡ onto 0 (front (put a n text t)) []
    inside-is = ap in_instances is ∙ in-front (put a n text t)

    by : (b : Bool) → shape_of (cond b forest.nodes (with_numbered_text a n text forest.nodes)) ≡ shape_of forest.nodes
    by true = refl
    by false = ap shape_of (sym (numbered-is a n text forest.nodes)) ∙ setting-keeps_shape n text forest trees able

-- ---- many

pub record StaysWritten (nodes after : List Node) (next : ℕ) : Type 0 where
  pub trees : HasTrees (with_next next after)
  pub hung : are_hung after ≡ true
  pub shaped : shape_of after ≡ shape_of nodes
  pub solid : solid_of (visits after) ≡ solid_of (visits nodes)
  pub inside : solid_of (visits (in_instances after)) ≡ solid_of (visits (in_instances nodes))

pub able-all : (contents : Contents) (forest other : Forest) → ((m : ℕ) → IsSettable m forest → IsSettable m other) → AreSettable contents forest → AreSettable contents other
able-all [] forest other still h = tt
able-all (p ∷ ps) forest other still h = (still p.0 h.0, able-all ps forest other still h.1)

pub written-stays : (done : ℕ → Bool) (contents : Contents) (forest : Forest) (next : ℕ) → HasTrees forest → are_hung forest.nodes ≡ true → AreSettable contents forest → forest.next + length contents ≤ next →
    StaysWritten forest.nodes (written done forest.next contents forest.nodes) next
written-stays done [] forest next trees hung able le = record { trees = later-trees forest.next next forest.nodes (omega (arith, le)) trees; hung = hung; shaped = refl; solid = refl; inside = refl }
written-stays done ((n, text) ∷ rest) forest next trees hung able le =
    let s = stepped forest n text trees hung able.0 in
    let fewer : suc forest.next + length rest ≤ next = omega (arith, le) in
    by (done n)
    (written-stays done rest (with_next (suc forest.next) forest.nodes) next (later-trees forest.next (suc forest.next) forest.nodes (omega arith) trees) hung
    (able-all rest forest (with_next (suc forest.next) forest.nodes) (λ m h. able-later m (suc forest.next) forest h) able.1) fewer)
    (let later = written-stays done rest (with_next (suc forest.next) (with_settled_text forest.next n text forest.nodes)) next s.trees s.hung
    (able-all rest forest (with_next (suc forest.next) (with_settled_text forest.next n text forest.nodes)) s.able able.1) fewer in
    record { trees = later.trees; hung = later.hung; shaped = later.shaped ∙ s.shaped; solid = later.solid ∙ s.solid; inside = later.inside ∙ s.inside })
  where
    by : (b : Bool) → StaysWritten forest.nodes (written done (suc forest.next) rest forest.nodes) next → StaysWritten forest.nodes (written done (suc forest.next) rest (with_settled_text forest.next n text forest.nodes)) next →
        StaysWritten forest.nodes (written done (suc forest.next) rest (cond b (with_settled_text forest.next n text forest.nodes) forest.nodes)) next
    by true i j = j
    by false i j = i

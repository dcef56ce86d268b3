-- What is so of the data stays so through a recalculation whose calculates stand at nodes that may have a text.
use Rattle.std.proofs.Common.{◌≡◌, ℕ, zero, suc, ◌+◌, Bool, true, false, List, [], ◌∷◌, ◌++◌, map, length, nat_lt, Ok, refl, sym, ap, subst, arith}
use Rattle.std.specs.Prelude.{if◌then◌else◌}
use Rattle.std.specs.List.{list_all}
use Rattle.std.proofs.lemmas.Bool.Decides.{nat_tests}
use Rattle.xf_def_forest.specs.declared.content.Node.{Node}
use Rattle.xf_def_forest.specs.Forest.{Forest, has_number}
use Rattle.xf_def_forest.specs.Needs.{IsSettable}
use Rattle.xf_def_forest.specs.Settle.{has_text, with_numbered_text, with_settled_text}
use Rattle.xf_def_forest.specs.Shape.{shape}
use Rattle.xf_def_forest.specs.WellFormed.{HasTrees, are_below}
use Rattle.xf_def_forest.proofs.BackLaws.{and-true}
use Rattle.xf_law_recalculation.specs.Agree.Hung.{are_hung}
use Rattle.xf_law_recalculation.proofs.AgreeLemmas.HungChanges.{hung_text}
use Rattle.xf_law_forests.specs.Root.Roots.{AreAhead}
use Rattle.xf_law_forests.proofs.RootLemmas.Stays.{roots_stay_text}
use Rattle.xf_law_forests.specs.Settle.Written.{MayWrite}
use Rattle.xf_law_forests.proofs.SettleLemmas.StillLaws.{settable-still}
use Rattle.xf_law_invariants.proofs.TreeLemmas.TextTrees.{text_laws}
use Rattle.xf_def_model.specs.Applied.{Entry}
use Rattle.xf_def_model.specs.Pertinent.{AllOf, pertinent_count}
use Rattle.xf_def_model.specs.Rules.{Scope}
use Rattle.xf_def_model.specs.Settled.{Bounds, Contents, calculates, content_by, holding, passed, round, rounds, settled_contents}
use Rattle.xf_def_forest.specs.Visit.{Visit}
use Rattle.xf_law_invariants.proofs.PlannedLemmas.NewTrees.{new-number}
use Rattle.xf_law_invariants.proofs.PlannedLemmas.RootForests.{single_text}
use Rattle.xf_def_machine.specs.declared.limit.LimitWord.{LimitWord}
use Rattle.xf_def_machine.specs.Behave.{changes_of, evaluated_more, model_at, recalculate, settled_in, with_contents}
use Rattle.xf_def_machine.specs.Flow.{◌>>=◌}
use Rattle.xf_def_machine.specs.Primitives.{over_made}
use Rattle.xf_def_machine.specs.Profile.{Profile}
use Rattle.xf_def_machine.specs.Refusal.{unless_passed, word_of}
use Rattle.xf_def_machine.specs.State.{Model, State}
use Rattle.xf_def_machine.specs.Surround.{all_in, bind_scope}
use Rattle.xf_law_machine.proofs.RestLemmas.Holds.{Held}
use Rattle.xf_law_invariants.specs.Frame.Base.{IsBase}
use Rattle.xf_law_invariants.specs.Frame.Moves.{DataLaws}
use Rattle.xf_law_invariants.proofs.FrameLemmas.BaseKept.{base-text, made-most}
use Rattle.xf_law_invariants.specs.Planned.Roots.{AreSingle}

-- ---- texts that come in one after the other

-- with the number that comes next
record Texts (next : ℕ) (nodes : List Node) : Type 0 where
  trees : HasTrees (record { nodes = nodes; next = next })
  hung : are_hung nodes ≡ true
  ahead : AreAhead nodes
  single : AreSingle nodes

below-more : (next : ℕ) (xs : List Node) → are_below next xs ≡ true → are_below (suc next) xs ≡ true
below-more next [] h = refl
below-more next (x ∷ xs) h =
    let parts = and-true (nat_lt x.number next) (list_all (λ (y : Node). nat_lt y.number next) xs) h in
    let less = parts.0 in
    let more : nat_lt x.number (suc next) ≡ true = grind (arith, nat_tests, less) in
    rw more (below-more next xs parts.1)

pub later-trees : (next : ℕ) (nodes : List Node) → HasTrees (record { nodes = nodes; next = next }) → HasTrees (record { nodes = nodes; next = suc next })
later-trees next nodes h = record { apart = h.apart; below = below-more next nodes h.below; depths = h.depths; tops = h.tops; first = h.first }

text-step : (next n : ℕ) (text : List ℕ) (nodes : List Node) → IsSettable n (record { nodes = nodes; next = next }) → Texts next nodes → Texts (suc next) (with_settled_text next n text nodes)
text-step next n text nodes able t =
    let wide : HasTrees (record { nodes = nodes; next = suc next }) = later-trees next nodes t.trees in
    let able_too : IsSettable n (record { nodes = nodes; next = suc next }) = record { kind = able.kind; childless = able.childless } in
    let free : has_number next nodes ≡ false = new-number next nodes t.trees.below in
    record {
      trees = text_laws.settled next n text (record { nodes = nodes; next = suc next }) wide able_too free (omega arith);
      hung = hung (has_text n text nodes);
      ahead = ahead (has_text n text nodes);
      single = single (has_text n text nodes);
    }
  where
    forest : Forest
    forest = record { nodes = nodes; next = next }

    hung : (b : Bool) → are_hung (if b then nodes else with_numbered_text next n text nodes) ≡ true
    hung true = t.hung
    hung false = hung_text forest next n text t.trees able t.hung

    ahead : (b : Bool) → AreAhead (if b then nodes else with_numbered_text next n text nodes)
    ahead true = t.ahead
    ahead false = (roots_stay_text next n text forest t.trees).ahead t.ahead

    single : (b : Bool) → AreSingle (if b then nodes else with_numbered_text next n text nodes)
    single true = t.single
    single false = single_text forest t.trees next 0 n text able t.single

abbrev AreAble : Contents → ℕ → List Node → Type 0
AreAble contents next nodes = AllOf (λ p. IsSettable p.0 (record { nodes = nodes; next = next })) contents

able-still : (next n : ℕ) (text : List ℕ) (nodes : List Node) → HasTrees (record { nodes = nodes; next = next }) → IsSettable n (record { nodes = nodes; next = next })
    → (contents : Contents) → AreAble contents next nodes → AreAble contents (suc next) (with_settled_text next n text nodes)
able-still next n text nodes trees able [] a = tt
able-still next n text nodes trees able (p ∷ ps) a =
    let may : MayWrite next ((n, text) ∷ []) (record { nodes = nodes; next = next }) = record { trees = trees; settable = (able, tt); different = refl; later = omega arith } in
    (settable-still (λ m. true) next ((n, text) ∷ []) (record { nodes = nodes; next = next }) p.0 (suc next) may a.0, able-still next n text nodes trees able ps a.1)

texts-come : (contents : Contents) (next : ℕ) (nodes : List Node) → AreAble contents next nodes → Texts next nodes → Texts (next + length contents) (with_contents next contents nodes)
texts-come [] next nodes a t = let same : next ≡ next + 0 = omega arith in subst (λ k. Texts k nodes) same t
texts-come ((n, text) ∷ contents) next nodes a t =
    let same : suc next + length contents ≡ next + suc (length contents) = omega arith in
    subst (λ k. Texts k (with_contents (suc next) contents (with_settled_text next n text nodes))) same
    (texts-come contents (suc next) (with_settled_text next n text nodes) (able-still next n text nodes t.trees a.0 contents a.1) (text-step next n text nodes a.0 t))

-- ---- the contents of a model

-- each is that of a calculate
abbrev OfCalculates : List Entry → Contents → Type 0
OfCalculates [] [] = Unit {0}
OfCalculates [] (p ∷ ps) = ⊥
OfCalculates (e ∷ es) [] = ⊥
OfCalculates (e ∷ es) (p ∷ ps) = (p.0 ≡ e.node) × OfCalculates es ps

computed-of : (b : Bounds) (scope : Scope) (all : List Visit) (es : List Entry) → OfCalculates es (map (content_by b scope all) es)
computed-of b scope all [] = tt
computed-of b scope all (e ∷ es) = (refl, computed-of b scope all es)

rounds-of : (b : Bounds) (scope : Scope) (entries : List Entry) (all : List Visit) (k : ℕ) (contents : Contents) → OfCalculates (calculates entries) contents → OfCalculates (calculates entries) (rounds b scope entries all k contents)
rounds-of b scope entries all zero contents h = h
rounds-of b scope entries all (suc k) contents h =
    rounds-of b scope entries all k (round b scope entries all contents) (computed-of b scope (holding all contents) (calculates entries))

settled-of : (b : Bounds) (scope : Scope) (entries : List Entry) (all : List Visit) → OfCalculates (calculates entries) (settled_contents b scope entries all)
settled-of b scope entries all = by (calculates entries) refl
  where
    by : (es : List Entry) → calculates entries ≡ es → OfCalculates (calculates entries) (rounds b scope entries all (length (calculates entries)) [])
    by [] e = subst (λ es. OfCalculates es (rounds b scope entries all (length es) [])) (sym e) tt
    by (x ∷ xs) e =
        let first = computed-of b scope (holding all []) (calculates entries) in
        subst (λ k. OfCalculates (calculates entries) (rounds b scope entries all k [])) (ap length (sym e)) (rounds-of b scope entries all (length xs) (round b scope entries all []) first)

of-able : (forest : Forest) (es : List Entry) (contents : Contents) → OfCalculates es contents → AllOf (λ e. IsSettable e.node forest) es → AllOf (λ p. IsSettable p.0 forest) contents
of-able forest [] [] o a = tt
of-able forest [] (p ∷ ps) o a = absurd o
of-able forest (e ∷ es) [] o a = absurd o
of-able forest (e ∷ es) (p ∷ ps) o a = (subst (λ n. IsSettable n forest) (sym o.0) a.0, of-able forest es ps o.1 a.1)

of-count : (es : List Entry) (contents : Contents) → OfCalculates es contents → length contents ≡ length es
of-count [] [] o = refl
of-count [] (p ∷ ps) o = absurd o
of-count (e ∷ es) [] o = absurd o
of-count (e ∷ es) (p ∷ ps) o = ap suc (of-count es ps o.1)

-- ---- a recalculation

last-empty : (xs ys : List LimitWord) → xs ++ ys ≡ [] → ys ≡ []
last-empty [] ys e = e
last-empty (x ∷ xs) ys e = cc e

pub base-recalculate : (p : Profile) (first model : ℕ) (s : State) → AllOf (λ e. IsSettable e.node s.forest) (calculates (model_at s model).entries) → IsBase p first s → Held (IsBase p first) (recalculate p model s)
base-recalculate p first model s able b = by (map word_of (passed p.bounds (bind_scope p s model) m.entries (all_in s)) ++ over_made p (s.made + made)) refl
  where
    m : Model
    m = model_at s model

    made : ℕ
    made = length (calculates m.entries)

    count : ℕ
    count = pertinent_count (bind_scope p s model) (shape (all_in s)) m.entries (changes_of m)

    contents : Contents
    contents = settled_contents p.bounds (bind_scope p s model) m.entries (all_in s)

    by : (words : List LimitWord) → map word_of (passed p.bounds (bind_scope p s model) m.entries (all_in s)) ++ over_made p (s.made + made) ≡ words
        → Held (IsBase p first) (unless_passed s words s >>= λ t. Ok (evaluated_more made count (settled_in p model m.entries contents t)))
    by (word ∷ words) e = tt
    by [] e =
        let most = made-most p.made (s.made + made) (last-empty (map word_of (passed p.bounds (bind_scope p s model) m.entries (all_in s))) (over_made p (s.made + made)) e) in
        let of = settled-of p.bounds (bind_scope p s model) m.entries (all_in s) in
        let t = texts-come contents s.forest.next s.forest.nodes (of-able s.forest (calculates m.entries) contents of able) (record { trees = b.trees; hung = b.hung; ahead = b.ahead; single = b.single }) in
        let many = of-count (calculates m.entries) contents of in
        let few = b.few in
        record { trees = t.trees; hung = t.hung; ahead = t.ahead; single = t.single; few = omega (arith, few, many); made = most }

pub data_laws : DataLaws
data_laws = record { text = λ p first n text s able b. base-text p first n text s able b; recalculate = base-recalculate }

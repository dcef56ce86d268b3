-- What the last recalculation of a model gave is what one gives now where the model's part of the data stays.
use Rattle.std.proofs.Common.{◌≡◌, ℕ, Bool, true, false, cond, List, [], ◌∷◌, map, Ok, refl, sym, ap, ◌∙◌, subst}
use Rattle.std.specs.Prelude.{filter}
use Rattle.xf_def_syntax.specs.declared.form.Tables.{Tables}
use Rattle.xf_def_forest.specs.Forest.{Forest}
use Rattle.xf_def_forest.specs.Shape.{as_texts}
use Rattle.xf_def_forest.specs.Visit.{visits}
use Rattle.xf_def_values.specs.Functions.{Functions}
use Rattle.xf_def_xpath.specs.Given.{Document}
use Rattle.xf_def_model.specs.Applied.{Entry, applied, is_calculate}
use Rattle.xf_def_model.specs.Pertinent.{AllOf}
use Rattle.xf_def_model.specs.Rules.{Scope, scope_of}
use Rattle.xf_def_model.specs.Settled.{Bounds, calculates, content_by}
use Rattle.xf_law_recalculation.specs.Agree.Settles.{IsSolid}
use Rattle.xf_law_recalculation.specs.Document.Documents.{documents_at}
use Rattle.xf_law_recalculation.specs.Elsewhere.Parts.{IsPart, part_of}
use Rattle.xf_law_recalculation.specs.Part.Whole.{StandsFor, with_documents}
use Rattle.xf_law_recalculation.proofs.PartLemmas.OfPart.{applied_of_part, applied_stands_in_part, computed_of_part, long_of_part, long_text_of_part, values_of_part}
use Rattle.xf_def_machine.specs.AtRest.{texts_at}
use Rattle.xf_def_machine.specs.Behave.{truly}
use Rattle.xf_def_machine.specs.Program.{Program}
use Rattle.xf_def_machine.specs.State.{Model, State}
use Rattle.xf_law_sessions.specs.Kept.Kept.{HasNodes, given_over}
use Rattle.xf_law_sessions.specs.Kept.Settled.{IsSettledBy, RecalculatedElsewhere}
use Rattle.xf_law_sessions.proofs.KeptLemmas.Entered.{for-after, for-before, later-scope}
use Rattle.xf_law_sessions.proofs.KeptLemmas.PartTexts.{content-of-part, solid-own, texts-of-part, texts-same}
use Rattle.xf_law_sessions.proofs.KeptLemmas.Surroundings.{low, scope-is}

-- ---- lists

heads : {X : Type 0} {x y : X} {xs ys : List X} → x ∷ xs ≡ y ∷ ys → x ≡ y
heads h = cc h

tails : {X : Type 0} {x y : X} {xs ys : List X} → x ∷ xs ≡ y ∷ ys → xs ≡ ys
tails h = cc h

pub one-by-one : {X Y : Type 0} (f g : X → Y) (xs : List X) → map f xs ≡ map g xs → AllOf (λ x. f x ≡ g x) xs
one-by-one f g [] h = tt
one-by-one f g (x ∷ xs) h = (heads h, one-by-one f g xs (tails h))

pub all-filtered : {X : Type 0} (P : X → Type 0) (q : X → Bool) (xs : List X) → AllOf P xs → AllOf P (filter q xs)
all-filtered P q [] h = tt
all-filtered P q (x ∷ xs) h = by (q x) (all-filtered P q xs h.1)
  where
    by : (b : Bool) → AllOf P (filter q xs) → AllOf P (cond b (x ∷ filter q xs) (filter q xs))
    by true k = (h.0, k)
    by false k = k

all-three : {X : Type 0} (P Q R S : X → Type 0) (xs : List X) → ((x : X) → P x → Q x → R x → S x) → AllOf P xs → AllOf Q xs → AllOf R xs → AllOf S xs
all-three P Q R S [] f h i j = tt
all-three P Q R S (x ∷ xs) f h i j = (f x h.0 i.0 j.0, all-three P Q R S xs f h.1 i.1 j.1)

-- ---- two states with one part

module _ (b : Bounds) (functions : Functions) (tables : Tables) (form : Program) (model : ℕ) (s t : State) (h : HasNodes s.forest) (k : HasNodes t.forest) (part : Forest)
    (first : IsPart form.instances model part s.forest) (second : IsPart form.instances model part t.forest) (m : Model) where
  abbrev ds : List Document
  ds = documents_at form.instances s.forest.nodes

  abbrev one : StandsFor form.instances model (given_over form s.forest.nodes) ds part s.forest
  one = for-before form model part s.forest t.forest h k first second

  abbrev two : StandsFor form.instances model (given_over form t.forest.nodes) ds part t.forest
  two = for-after form model part s.forest t.forest h k first second

  abbrev before : Scope
  before = scope_of functions (given_over form s.forest.nodes) tables model

  abbrev after : Scope
  after = scope_of functions (given_over form t.forest.nodes) tables model

  abbrev over_part : Scope
  over_part = scope_of functions (with_documents ds (given_over form s.forest.nodes)) tables model

  module _ (applies : applied over_part part.nodes ≡ Ok m.entries) where
    abbrev Solid : Entry → Type 0
    Solid e = IsSolid (visits part.nodes) e.node

    texts-stay : (e : Entry) → Solid e → texts_at t e.node ≡ texts_at s e.node
    texts-stay e i =
        let here_ = solid-own form.instances model part s.forest first h.trees (low s.forest h) e.node i in
        let there = solid-own form.instances model part t.forest second k.trees (low t.forest k) e.node i in
        texts-same t s e.node
        (sym (texts-of-part form.instances model part t.forest second k.trees (low t.forest k) e.node there) ∙ texts-of-part form.instances model part s.forest first h.trees (low s.forest h) e.node here_)
        (sym (content-of-part form.instances model part t.forest second k.trees (low t.forest k) e.node there) ∙ content-of-part form.instances model part s.forest first h.trees (low s.forest h) e.node here_)

    pub settled-stays : IsSettledBy b before s m → IsSettledBy b after t m
    settled-stays r = record {
      contents = all-three Solid (λ e. content_by b before (visits s.forest.nodes) e ≡ content_by b after (visits t.forest.nodes) e)
          (λ e. texts_at s e.node ≡ as_texts (content_by b before (visits s.forest.nodes) e).1) (λ e. texts_at t e.node ≡ as_texts (content_by b after (visits t.forest.nodes) e).1)
          (calculates m.entries) (λ e i j l. texts-stay e i ∙ l ∙ ap (λ (c : ℕ × List ℕ). as_texts c.1) j)
          (all-filtered Solid is_calculate m.entries (applied_stands_in_part functions (given_over form s.forest.nodes) ds tables form.instances model part s.forest m.entries one applies))
          (one-by-one (content_by b before (visits s.forest.nodes)) (content_by b after (visits t.forest.nodes)) (calculates m.entries)
          (computed_of_part b functions (given_over form s.forest.nodes) ds tables form.instances model part s.forest m.entries one applies
          ∙ sym (computed_of_part b functions (given_over form t.forest.nodes) ds tables form.instances model part t.forest m.entries two applies)))
          r.contents;
      strings =
          long_of_part b functions (given_over form t.forest.nodes) ds tables form.instances model part t.forest m.entries two applies
          ∙ sym (long_of_part b functions (given_over form s.forest.nodes) ds tables form.instances model part s.forest m.entries one applies) ∙ r.strings;
      texts =
          long_text_of_part b functions (given_over form t.forest.nodes) ds tables form.instances model part t.forest m.entries two applies
          ∙ sym (long_text_of_part b functions (given_over form s.forest.nodes) ds tables form.instances model part s.forest m.entries one applies) ∙ r.texts;
      values = r.values ∙ ap (map truly)
          (values_of_part b functions (given_over form s.forest.nodes) ds tables form.instances model part s.forest m.entries one applies
          ∙ sym (values_of_part b functions (given_over form t.forest.nodes) ds tables form.instances model part t.forest m.entries two applies));
    }

  pub part-applies : applied before s.forest.nodes ≡ Ok m.entries → applied over_part part.nodes ≡ Ok m.entries
  part-applies e = sym (applied_of_part functions (given_over form s.forest.nodes) ds tables form.instances model part s.forest one) ∙ e

pub recalculated_elsewhere : RecalculatedElsewhere
recalculated_elsewhere p tables s t model m h stays entered r =
    let part : Forest = record { nodes = part_of s.form.instances model s.forest.nodes; next = s.forest.next } in
    let is : IsPart s.form.instances model part s.forest = record { nodes = refl } in
    let was = scope-is p tables s model h.binds in
    subst (λ (scope : Scope). IsSettledBy p.bounds scope t m) (sym (later-scope p tables s t model h))
    (settled-stays p.bounds p.functions tables s.form model s t h.before h.after part is (stays part is) m
    (part-applies p.bounds p.functions tables s.form model s t h.before h.after part is (stays part is) m (ap (λ (scope : Scope). applied scope s.forest.nodes) (sym was) ∙ entered.entries))
    (subst (λ (scope : Scope). IsSettledBy p.bounds scope s m) was r))

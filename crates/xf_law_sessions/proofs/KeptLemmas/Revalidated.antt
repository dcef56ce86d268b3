-- What the last revalidation of a model found is what one finds now where the model's part of the data stays.
use Rattle.std.proofs.Common.{◌≡◌, ℕ, ◌==◌, Bool, true, false, not, cond, ◌&&◌, ◌||◌, List, [], ◌∷◌, map, Option, Some, None, refl, sym, ap, ◌∙◌, subst}
use Rattle.std.specs.Prelude.{filter, find, option_and_then, slice_get}
use Rattle.xf_def_forest.specs.declared.content.Node.{Node}
use Rattle.xf_def_forest.specs.Forest.{Forest, has_number}
use Rattle.xf_def_forest.specs.StringValue.{string_value}
use Rattle.xf_def_forest.specs.Visit.{Visit, has, still_above, visits, visits_from}
use Rattle.xf_num.specs.Written.{is_empty}
use Rattle.xf_def_xpath.specs.Agree.{numbers_of}
use Rattle.xf_def_xpath.proofs.ForestVisits.{Each, each-map}
use Rattle.xf_def_xpath.proofs.VisitFacts.{no, or-left, or-right, self-same, turned}
use Rattle.xf_def_model.specs.declared.property.Property.TheVariants.{Constraint, Kind}
use Rattle.xf_def_model.specs.Properties.{is_required, meets_kind, own, sets_on}
use Rattle.xf_law_recalculation.specs.Elsewhere.Parts.{IsPart, part_of}
use Rattle.xf_law_recalculation.specs.Within.Within.{kept}
use Rattle.xf_law_recalculation.specs.Held.Held.{is_held}
use Rattle.xf_law_recalculation.proofs.HeldLemmas.Held.{held_in_part}
use Rattle.xf_law_recalculation.proofs.HeldLemmas.Named.{kept-is, tops_of, whole-trees}
use Rattle.xf_law_recalculation.proofs.HeldLemmas.Seats.{in-own, own_numbers}
use Rattle.xf_law_recalculation.proofs.HeldLemmas.Shapes.{string-kept}
use Rattle.xf_def_machine.specs.Behave.{is_model}
use Rattle.xf_def_machine.specs.Profile.{Profile}
use Rattle.xf_def_machine.specs.Program.{Program}
use Rattle.xf_def_machine.specs.Properties.{values_of}
use Rattle.xf_def_machine.specs.State.{Model, State}
use Rattle.xf_def_machine.specs.Surround.{model_holding}
use Rattle.xf_law_sessions.specs.Kept.Kept.{HasNodes}
use Rattle.xf_law_sessions.specs.Kept.Valid.{RevalidatedElsewhere, is_bad}
use Rattle.xf_law_sessions.proofs.KeptLemmas.PartTexts as texts
use Rattle.xf_law_sessions.proofs.KeptLemmas.Surroundings.{low}

-- ---- numbers of nodes and of visits

number-visited : (n : ℕ) (above nodes : List Node) → has n (numbers_of (visits_from above nodes)) ≡ has_number n nodes
number-visited n above [] = refl
number-visited n above (x ∷ xs) =
    ap (λ b. b || has n (numbers_of (visits_from (x ∷ still_above x.depth above) xs))) (turned n x.number)
    ∙ ap (λ b. (x.number == n) || b) (number-visited n (x ∷ still_above x.depth above) xs)

model-held : (model : ℕ) (o : Option ℕ) → is_model model o ≡ is_held model o
model-held model None = refl
model-held model (Some other) = refl

-- each visit of a list has a number of it
self-numbers : (all ys : List Visit) → ((n : ℕ) → has n (numbers_of ys) ≡ true → has n (numbers_of all) ≡ true) → Each (λ y. has y.number (numbers_of all) ≡ true) ys
self-numbers all [] h = tt
self-numbers all (y ∷ ys) h = (
  h y.number (or-left (y.number == y.number) (has y.number (numbers_of ys)) (self-same y.number)),
  self-numbers all ys (λ n i. h n (or-right (n == y.number) (has n (numbers_of ys)) i)),
)

-- ---- filters

-- a test that only nodes of the part meet, and these where they meet another one
filter-part : (p : ℕ → Bool) (q : Visit → Bool) (g : Visit → Bool) (ys : List Visit) → Each (λ y. q y ≡ p y.number) ys → filter (λ y. q y && g y) ys ≡ filter g (kept p ys)
filter-part p q g [] e = refl
filter-part p q g (y ∷ ys) e = by (q y) (p y.number) refl refl e.0 (filter-part p q g ys e.1)
  where
    by : (a c : Bool) → q y ≡ a → p y.number ≡ c → q y ≡ p y.number → filter (λ y. q y && g y) ys ≡ filter g (kept p ys)
        → cond (a && g y) (y ∷ filter (λ y. q y && g y) ys) (filter (λ y. q y && g y) ys) ≡ filter g (cond c (y ∷ kept p ys) (kept p ys))
    by true true i j l h = ap (λ r. cond (g y) (y ∷ r) r) h
    by false false i j l h = h
    by true false i j l h = no (sym j ∙ sym l ∙ i)
    by false true i j l h = no (sym i ∙ l ∙ j)

filter-on : (p : ℕ → Bool) (f g : Visit → Bool) (ys : List Visit) → ((y : Visit) → p y.number ≡ true → f y ≡ g y) → filter f (kept p ys) ≡ filter g (kept p ys)
filter-on p f g [] h = refl
filter-on p f g (y ∷ ys) h = by (p y.number) refl (filter-on p f g ys h)
  where
    by : (b : Bool) → p y.number ≡ b → filter f (kept p ys) ≡ filter g (kept p ys) → filter f (cond b (y ∷ kept p ys) (kept p ys)) ≡ filter g (cond b (y ∷ kept p ys) (kept p ys))
    by true i k = ap (λ b. cond b (y ∷ filter f (kept p ys)) (filter f (kept p ys))) (h y i) ∙ ap (λ l. cond (g y) (y ∷ l) l) k
    by false i k = k

-- ---- of the part

-- whether a node with this text is valid, by what the model keeps
abbrev is_fine : Profile → Program → Model → ℕ → List ℕ → Bool
is_fine p form m n text =
    own (values_of m) Constraint true n && not (is_required (values_of m) n && is_empty text)
    && meets_kind (p.meets form.types) (option_and_then (λ e. option_and_then (λ r. r.kind) (slice_get form.rules e.bind)) (find (sets_on n Kind) m.entries)) text

abbrev is_poor : Profile → Program → Model → List Visit → Visit → Bool
is_poor p form m all y = not (is_fine p form m y.number (string_value y.number all))

module _ (p : Profile) (s : State) (model : ℕ) (m : Model) (part : Forest) (h : HasNodes s.forest) (is : IsPart s.form.instances model part s.forest) where
  abbrev V : List Visit
  V = visits s.forest.nodes

  abbrev in_it : ℕ → Bool
  in_it k = texts.own s.form.instances model part s.forest is h.trees (low s.forest h) k

  held-own : (y : Visit) → has y.number (numbers_of V) ≡ true → is_model model (model_holding s y.number) ≡ in_it y.number
  held-own y i =
      model-held model (model_holding s y.number)
      ∙ sym (held_in_part s.form.instances model y.number part s.forest is h.trees)
      ∙ sym (number-visited y.number [] part.nodes)
      ∙ ap (λ nodes. has y.number (numbers_of (visits nodes))) is.nodes
      ∙ sym (in-own y.number (own_numbers s.forest h.trees (tops_of s.form.instances model s.forest.nodes)) (low s.forest h y.number i))

  pub bad-in-part : filter (is_bad p model s m) V ≡ filter (is_poor p s.form m (visits part.nodes)) (visits part.nodes)
  bad-in-part =
      filter-part in_it (λ y. is_model model (model_holding s y.number)) (is_poor p s.form m V) V
      (each-map (λ y. has y.number (numbers_of V) ≡ true) (λ y. is_model model (model_holding s y.number) ≡ in_it y.number) V held-own (self-numbers V V (λ n i. i)))
      ∙ filter-on in_it (is_poor p s.form m V) (is_poor p s.form m (kept in_it V)) V
      (λ y i. ap (λ text. not (is_fine p s.form m y.number text)) (sym (string-kept in_it V (whole-trees s.form.instances model part s.forest is h.trees (low s.forest h)) y.number i)))
      ∙ ap (λ all. filter (is_poor p s.form m all) all) (kept-is s.form.instances model part s.forest is h.trees (low s.forest h))

pub revalidated_elsewhere : RevalidatedElsewhere
revalidated_elsewhere p tables s t model m h stays r =
    let part : Forest = record { nodes = part_of s.form.instances model s.forest.nodes; next = s.forest.next } in
    let is : IsPart s.form.instances model part s.forest = record { nodes = refl } in
    let there : IsPart t.form.instances model part t.forest = subst (λ (form : Program). IsPart form.instances model part t.forest) (sym h.same) (stays part is) in
    record {
      invalid = r.invalid ∙ ap (map (λ (y : Visit). y.number))
          (bad-in-part p s model m part h.before is
          ∙ ap (λ (form : Program). filter (is_poor p form m (visits part.nodes)) (visits part.nodes)) (sym h.same)
          ∙ sym (bad-in-part p t model m part h.after there));
    }

-- What one binding takes from a node is the same over two forests of one shape, and is no text.
use Rattle.std.proofs.Common.{◌≡◌, ◌==◌, ℕ, true, List, [], ◌∷◌, map, Option, Some, None, option_map, refl, sym, ap, ◌∙◌, subst}
use Rattle.std.specs.Prelude.{filter}
use Rattle.xf_def_syntax.specs.declared.expr.Expr.{Expr}
use Rattle.xf_def_forest.specs.Forest.{Forest}
use Rattle.xf_def_forest.specs.Shape.{erased}
use Rattle.xf_def_forest.specs.StringValue.{string_value}
use Rattle.xf_def_forest.specs.Visit.{Visit, first_of, has, is_first, visits}
use Rattle.xf_def_values.specs.Functions.{Functions}
use Rattle.xf_def_xpath.specs.declared.value.Value.{Value}
use Rattle.xf_def_xpath.specs.Agree.{AreVisits, untexted}
use Rattle.xf_def_xpath.specs.Asked.{Asked, found}
use Rattle.xf_def_xpath.specs.Binding.{stand_in}
use Rattle.xf_def_xpath.specs.Conversions.{nodes_of}
use Rattle.xf_def_xpath.specs.Given.{Given}
use Rattle.xf_def_xpath.specs.Meaning.{meaning}
use Rattle.xf_def_xpath.specs.Reads.{trace}
use Rattle.xf_def_xpath.specs.Setting.{Focus, Setting, setting_over}
use Rattle.xf_def_xpath.proofs.AgreeCalls.{Standing}
use Rattle.xf_def_xpath.proofs.AgreeLaw.{agreement}
use Rattle.xf_def_xpath.proofs.Agreement.{value-agrees}
use Rattle.xf_def_xpath.proofs.AxisAgree.{Frame}
use Rattle.xf_def_xpath.proofs.Comparison.{Comparison, Solid, over_shape}
use Rattle.xf_def_xpath.proofs.ForestVisits.{forest-visits}
use Rattle.xf_def_xpath.proofs.Gives.{Gives, both, nothing}
use Rattle.xf_def_xpath.proofs.QuietLaws.{reads-none}
use Rattle.xf_def_xpath.proofs.ShapeVisits.{shape-untexted}
use Rattle.xf_def_xpath.proofs.TraceKeeps.{meaning-of_trace}
use Rattle.xf_def_xpath.proofs.UntextedLaws.{itself}
use Rattle.xf_def_xpath.proofs.ValueAgree.{Premise}
use Rattle.xf_def_xpath.proofs.VisitFacts.{no, none-some, or-left, self-same, some-same}
use Rattle.xf_def_ui.specs.Around.{Around, first_bound, first_stand}
use Rattle.xf_def_ui.specs.Interface.{Bound, unbound, nodes, by_bind}
use Rattle.xf_law_bindings.specs.Fixed.{IsFixed, IsPlace}
use Rattle.xf_law_bindings.specs.OneShape.{HaveOneShape, over}
use Rattle.xf_law_bindings.proofs.Standing.{IsIn, stand-in, stand-told}

of-given : {A : Type 0} {P : A → Type 0} {m m' : Option A} (x : A) → Gives P m m' → m ≡ Some x → P x
of-given x nothing e = none-some e
of-given {P = P} x (both p) e = subst P (some-same e) p

module _ (functions : Functions) (most : Option ℕ) (given : Given) (first second : Forest) (h : HaveOneShape functions most given first second) where
  abbrev V : List Visit
  V = visits first.nodes

  abbrev W : List Visit
  W = visits second.nodes

  abbrev A : List Visit
  A = map erased V

  abbrev B : List Visit
  B = map erased W

  pub same : untexted A ≡ untexted B
  same = sym (shape-untexted V) ∙ ap (λ s. untexted (map erased s)) h.shape ∙ shape-untexted W

  va : AreVisits A
  va = forest-visits first h.trees

  vb : AreVisits B
  vb = forest-visits second h.trees_too

  pub in-second : (k : ℕ) → IsIn V k → IsIn W k
  in-second k x = (x.0, ap (found k) (sym same) ∙ x.1)

  -- ---- one expression

  abbrev here : ℕ → ℕ → Setting
  here model current = setting_over functions most given V model current

  abbrev there : ℕ → ℕ → Setting
  there model current = setting_over functions most given W model current

  module _ (model current : ℕ) (stands : IsIn V current) where
    abbrev comparison : Comparison
    comparison = record {
      setting = here model current;
      others = B;
      strings = λ n. string_value n W;
      documents = given.documents;
      indexes = given.indexes;
      event = given.event;
      shape = A;
      shape_strings = λ n. string_value n V;
      shape_documents = given.documents;
      shape_indexes = given.indexes;
      shape_event = given.event;
      functions = functions most given.decimals;
      extend = λ code ps p e. e;
      visits = va;
      other_visits = vb;
      shape_visits = va;
      frame = itself A va;
      other_frame = subst (λ part. Frame (untexted A) part) same (itself A va);
    }

    abbrev AllIn : List ℕ → Type 0
    AllIn ns = (k : ℕ) → has k ns ≡ true → IsIn V k

    as-solid : (k : ℕ) → IsIn V k → Solid comparison k
    as-solid k x = record { visit = x.0; in_shape = x.1; in_first = x.1; in_second = ap (found k) (sym same) ∙ x.1 }

    standing : Standing comparison
    standing = record { current = as-solid current stands; absent = λ id e. (e, e); truths = h.truths }

    module _ (e : Expr) (place : IsPlace e) (c : Focus) (node : IsIn V c.node) where
      abbrev asked : Asked
      asked = (trace e).asked (over_shape comparison) c

      premise : Premise comparison asked
      premise = record {
        lists = record {
          first = λ n i. refl;
          second = λ n i. ap (filter (λ (y : Visit). is_first n y.above)) same;
          same = λ id n i k. record { first = i; second = i; solid = as-solid n (h.documents model id n i) };
        };
        strings = λ n i j. no (ap (has n) (sym (reads-none e place.quiet (over_shape comparison) c)) ∙ j);
      }

      -- it has one value
      pub one-value : meaning e (here model current) c ≡ meaning e (there model current) c
      one-value = value-agrees comparison standing e place.exact c (as-solid c.node node) premise

      -- and gives no texts
      pub value-in : (v : Value) → meaning e (here model current) c ≡ Some v → AllIn (nodes_of v)
      value-in v i k j =
          let fits = of-given v (agreement comparison standing e place.exact c (as-solid c.node node) premise).given (ap (λ m. m (here model current) c) (meaning-of_trace e) ∙ i) in
          let x = fits.2 k (ap (has k) (sym fits.0) ∙ j) in
          (x.visit, x.in_first)

  -- ---- one binding

  module _ (bound others : ℕ → Option (List ℕ)) where
    abbrev a : Around
    a = over functions most given bound first.nodes

    abbrev b : Around
    b = over functions most given others second.nodes

    stand-same : (ns : List ℕ) → ((k : ℕ) → has k ns ≡ true → IsIn V k) → first_stand a ns ≡ first_stand b ns
    stand-same [] i = refl
    stand-same (n ∷ ns) i =
        let x = i n (or-left (n == n) (has n ns) (self-same n)) in
        ap first_of (stand-told first h.trees h.hung n x.0 x.1)
        ∙ ap (λ all. first_of (stand_in all x.0 x.0.content)) same
        ∙ sym (ap first_of (stand-told second h.trees_too h.hung_too n x.0 (ap (found n) (sym same) ∙ x.1)))

    stand-is_in : (ns : List ℕ) (k : ℕ) → ((j : ℕ) → has j ns ≡ true → IsIn V j) → first_stand a ns ≡ Some k → IsIn V k
    stand-is_in [] k i e = none-some e
    stand-is_in (n ∷ ns) k i e =
        let x = i n (or-left (n == n) (has n ns) (self-same n)) in
        stand-in first h.trees h.hung n x.0 k x.1 (ap first_of (sym (stand-told first h.trees h.hung n x.0 x.1)) ∙ e)

    -- what holds of the value holds of what is made of it
    mapped : (f g : Value → Option ℕ) (m n : Option Value) → m ≡ n → ((v : Value) → m ≡ Some v → f v ≡ g v) → option_map f m ≡ option_map g n
    mapped f g None n e i = ap (option_map g) e
    mapped f g (Some v) n e i = ap Some (i v refl) ∙ ap (option_map g) e

    twice : (f : List ℕ → Option ℕ) (m : Option Value) → option_map f (option_map nodes_of m) ≡ option_map (λ v. f (nodes_of v)) m
    twice f None = refl
    twice f (Some v) = refl

    module _ (model : ℕ) (e : Expr) (place : IsPlace e) (c : Focus) (node : IsIn V c.node) where
      selects-same : first_bound a model (nodes (meaning e)) (Some c) ≡ first_bound b model (nodes (meaning e)) (Some c)
      selects-same =
          twice (first_stand a) (meaning e (here model c.node) c)
          ∙ mapped (λ v. first_stand a (nodes_of v)) (λ v. first_stand b (nodes_of v)) (meaning e (here model c.node) c) (meaning e (there model c.node) c)
          (one-value model c.node node e place c node) (λ v i. stand-same (nodes_of v) (value-in model c.node node e place c node v i))
          ∙ sym (twice (first_stand b) (meaning e (there model c.node) c))

      selects-in : (k : ℕ) → first_bound a model (nodes (meaning e)) (Some c) ≡ Some (Some k) → IsIn V k
      selects-in k i = by (meaning e (here model c.node) c) refl i
        where
          by : (m : Option Value) → meaning e (here model c.node) c ≡ m → option_map (first_stand a) (option_map nodes_of m) ≡ Some (Some k) → IsIn V k
          by None j l = none-some l
          by (Some v) j l = stand-is_in (nodes_of v) k (value-in model c.node node e place c node v j) (some-same l)

    -- where a context is, it is no text
    abbrev pub InFocus : Option Focus → Type 0
    InFocus None = Unit {0}
    InFocus (Some c) = IsIn V c.node

    pub bound-same : (model : ℕ) (binding : Bound) (c : Option Focus) → IsFixed binding → InFocus c → first_bound a model binding c ≡ first_bound b model binding c
    bound-same model unbound None f i = refl
    bound-same model unbound (Some c) f i = refl
    bound-same model (nodes m) None f i = refl
    bound-same model (nodes m) (Some c) f i =
        ap (λ x. first_bound a model (nodes x) (Some c)) f.1 ∙ selects-same model f.0 f.2 c i ∙ ap (λ x. first_bound b model (nodes x) (Some c)) (sym f.1)
    bound-same model (by_bind k) c f i = absurd f

    pub bound-in : (model : ℕ) (binding : Bound) (c : Option Focus) (k : ℕ) → IsFixed binding → InFocus c → first_bound a model binding c ≡ Some (Some k) → IsIn V k
    bound-in model binding None k f i e = none-some (some-same e)
    bound-in model unbound (Some c) k f i e = none-some (some-same e)
    bound-in model (nodes m) (Some c) k f i e = selects-in model f.0 f.2 c i k (sym (ap (λ x. first_bound a model (nodes x) (Some c)) f.1) ∙ e)
    bound-in model (by_bind n) (Some c) k f i e = absurd f

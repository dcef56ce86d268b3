-- The meaning beside what is asked is the meaning: what each level of meanings keeps, it keeps there too.
use Rattle.std.proofs.Common.{◌≡◌, List, [], ◌∷◌, map, refl, sym, ap, ◌∙◌, subst}
use Rattle.xf_def_syntax.specs.declared.expr.Expr.{Expr}
use Rattle.xf_def_syntax.specs.declared.expr.Link.{Link}
use Rattle.xf_def_syntax.specs.declared.expr.Step.{Step}
use Rattle.xf_def_syntax.specs.declared.expr.Expr.TheOpen.{Expr-F, Link-F, Step-F}
use Rattle.xf_def_syntax.specs.declared.expr.Expr.TheFolds.{fold-roll-Expr, fold-roll-Link, fold-roll-Step, map-Expr, map-Link, map-Step, ind-Expr}
use Rattle.xf_def_syntax.specs.declared.expr.Expr.TheViews.{roll-Expr, roll-Link, roll-Step}
use Rattle.xf_def_xpath.specs.Setting.{Meaning, LinkMeaning, Walk}
use Rattle.xf_def_xpath.specs.Steps.{step_walk}
use Rattle.xf_def_xpath.specs.Meaning.{expr_meaning, link_meaning, meaning, meaning_of_link, walk_of}
use Rattle.xf_def_xpath.specs.Asked.{Trace, LinkTrace, WalkTrace}
use Rattle.xf_def_xpath.specs.Reads.{meaning_in, link_meaning_in, walk_in, expr_trace, link_trace, step_trace, trace, trace_of_link, trace_of_step}
use Rattle.xf_def_xpath.proofs.Keeps.{fuse-Expr, fuse-Step, map-twice}

module _ (P : Meaning → Type 0) (P' : LinkMeaning → Type 0) (P'' : Walk → Type 0)
    (X X' X'' : Type 0) (t : X → Trace) (t' : X' → LinkTrace) (t'' : X'' → WalkTrace)
    (p : (x : X) → P (t x).meaning) (p' : (x : X') → P' (link_meaning_in (t' x))) (p'' : (x : X'') → P'' (t'' x).walk) where
  abbrev known : X → (m : Meaning) × P m
  known x = ((t x).meaning, p x)

  abbrev known_link : X' → (l : LinkMeaning) × P' l
  known_link x = (link_meaning_in (t' x), p' x)

  abbrev known_walk : X'' → (w : Walk) × P'' w
  known_walk x = ((t'' x).walk, p'' x)

  pub meaning-kept : ((y : Expr-F ((m : Meaning) × P m) ((l : LinkMeaning) × P' l) ((w : Walk) × P'' w)) → P (expr_meaning (map-Expr _ _ _ Meaning LinkMeaning Walk (λ e. e.0) (λ e. e.0) (λ e. e.0) y))) →
      (y : Expr-F X X' X'') → P (expr_trace (map-Expr X X' X'' Trace LinkTrace WalkTrace t t' t'' y)).meaning
  meaning-kept keeps y =
      subst (λ level. P (expr_meaning level))
      (fuse-Expr known known_link known_walk (λ e. e.0) (λ e. e.0) (λ e. e.0) y ∙ sym (fuse-Expr t t' t'' meaning_in link_meaning_in walk_in y))
      (keeps (map-Expr X X' X'' ((m : Meaning) × P m) ((l : LinkMeaning) × P' l) ((w : Walk) × P'' w) known known_link known_walk y))

  pub walk-kept : ((y : Step-F ((m : Meaning) × P m) ((l : LinkMeaning) × P' l) ((w : Walk) × P'' w)) → P'' (step_walk (map-Step _ _ _ Meaning LinkMeaning Walk (λ e. e.0) (λ e. e.0) (λ e. e.0) y))) →
      (y : Step-F X X' X'') → P'' (step_trace (map-Step X X' X'' Trace LinkTrace WalkTrace t t' t'' y)).walk
  walk-kept keeps y =
      subst (λ level. P'' (step_walk level))
      (fuse-Step known known_link known_walk (λ e. e.0) (λ e. e.0) (λ e. e.0) y ∙ sym (fuse-Step t t' t'' meaning_in link_meaning_in walk_in y))
      (keeps (map-Step X X' X'' ((m : Meaning) × P m) ((l : LinkMeaning) × P' l) ((w : Walk) × P'' w) known known_link known_walk y))

-- ---- the meaning in a trace

map-alike : {A B : Type 0} {P : A → Type 0} (g g' : A → B) → ((e : (a : A) × P a) → g e.0 ≡ g' e.0) → (es : List ((a : A) × P a)) → map (λ (e : (a : A) × P a). g e.0) es ≡ map (λ (e : (a : A) × P a). g' e.0) es
map-alike g g' h [] = refl
map-alike g g' h (e ∷ es) = ap (λ b. b ∷ map (λ e. g e.0) es) (h e) ∙ ap (λ bs. g' e.0 ∷ bs) (map-alike g g' h es)

abbrev Same : Expr → Type 0
Same e = (trace e).meaning ≡ meaning e

abbrev SameLink : Link → Type 0
SameLink l = link_meaning_in (trace_of_link l) ≡ meaning_of_link l

abbrev SameStep : Step → Type 0
SameStep s = (trace_of_step s).walk ≡ walk_of s

abbrev SuchExpr : Type 0
SuchExpr = (e : Expr) × Same e

abbrev SuchLink : Type 0
SuchLink = (e : Link) × SameLink e

abbrev SuchStep : Type 0
SuchStep = (e : Step) × SameStep e

abbrev traced : SuchExpr → Meaning
traced e = (trace e.0).meaning

abbrev traced_link : SuchLink → LinkMeaning
traced_link l = link_meaning_in (trace_of_link l.0)

abbrev traced_step : SuchStep → Walk
traced_step s = (trace_of_step s.0).walk

alike : (y : Expr-F SuchExpr SuchLink SuchStep) →
    map-Expr SuchExpr SuchLink SuchStep Meaning LinkMeaning Walk traced traced_link traced_step y
    ≡ map-Expr SuchExpr SuchLink SuchStep Meaning LinkMeaning Walk (λ e. meaning e.0) (λ l. meaning_of_link l.0) (λ s. walk_of s.0) y
alike (Expr-F.Number place k) = refl
alike (Expr-F.Literal place text) = refl
alike (Expr-F.Call place code es) = ap (Expr-F.Call place code) (map-alike (λ e. (trace e).meaning) meaning (λ e. e.1) es)
alike (Expr-F.Negated place signs e) = ap (Expr-F.Negated place signs) e.1
alike (Expr-F.Chain first links) = ap (λ m. Expr-F.Chain m (map traced_link links)) first.1 ∙ ap (Expr-F.Chain (meaning first.0)) (map-alike (λ l. link_meaning_in (trace_of_link l)) meaning_of_link (λ l. l.1) links)
alike (Expr-F.Filter first es) = ap (λ m. Expr-F.Filter m (map traced es)) first.1 ∙ ap (Expr-F.Filter (meaning first.0)) (map-alike (λ e. (trace e).meaning) meaning (λ e. e.1) es)
alike (Expr-F.Path place start ss) = ap (Expr-F.Path place start) (map-alike (λ s. (trace_of_step s).walk) walk_of (λ s. s.1) ss)
alike (Expr-F.From first ss) = ap (λ m. Expr-F.From m (map traced_step ss)) first.1 ∙ ap (Expr-F.From (meaning first.0)) (map-alike (λ s. (trace_of_step s).walk) walk_of (λ s. s.1) ss)

abbrev bare : Expr-F SuchExpr SuchLink SuchStep → Expr-F Expr Link Step
bare y = map-Expr SuchExpr SuchLink SuchStep Expr Link Step (λ e. e.0) (λ e. e.0) (λ e. e.0) y

at_expr : (y : Expr-F SuchExpr SuchLink SuchStep) → Same (roll-Expr (bare y))
at_expr y =
    ap (λ (t : Trace). t.meaning) (fold-roll-Expr Trace LinkTrace WalkTrace expr_trace link_trace step_trace (bare y))
    ∙ ap expr_meaning (ap (map-Expr Trace LinkTrace WalkTrace Meaning LinkMeaning Walk meaning_in link_meaning_in walk_in) (fuse-Expr {X = SuchExpr} {X' = SuchLink} {X'' = SuchStep} (λ e. e.0) (λ e. e.0) (λ e. e.0) trace trace_of_link trace_of_step y)
    ∙ fuse-Expr {X = SuchExpr} {X' = SuchLink} {X'' = SuchStep} (λ e. trace e.0) (λ e. trace_of_link e.0) (λ e. trace_of_step e.0) meaning_in link_meaning_in walk_in y
    ∙ alike y
    ∙ sym (fuse-Expr {X = SuchExpr} {X' = SuchLink} {X'' = SuchStep} (λ e. e.0) (λ e. e.0) (λ e. e.0) meaning meaning_of_link walk_of y))
    ∙ sym (fold-roll-Expr Meaning LinkMeaning Walk expr_meaning link_meaning step_walk (bare y))

at_link : (y : Link-F SuchExpr SuchLink SuchStep) → SameLink (roll-Link (map-Link SuchExpr SuchLink SuchStep Expr Link Step (λ e. e.0) (λ e. e.0) (λ e. e.0) y))
at_link y =
    ap link_meaning_in (fold-roll-Link Trace LinkTrace WalkTrace expr_trace link_trace step_trace (map-Link SuchExpr SuchLink SuchStep Expr Link Step (λ e. e.0) (λ e. e.0) (λ e. e.0) y))
    ∙ ap (λ m. record { operator = y.operator; right = m }) y.right.1
    ∙ sym (fold-roll-Link Meaning LinkMeaning Walk expr_meaning link_meaning step_walk (map-Link SuchExpr SuchLink SuchStep Expr Link Step (λ e. e.0) (λ e. e.0) (λ e. e.0) y))

abbrev steps : Step-F SuchExpr SuchLink SuchStep → List Meaning → Walk
steps y ms = step_walk (record { place = y.place; is_below = y.is_below; is_written = y.is_written; axis = y.axis; test = y.test; predicates = ms })

at_step : (y : Step-F SuchExpr SuchLink SuchStep) → SameStep (roll-Step (map-Step SuchExpr SuchLink SuchStep Expr Link Step (λ e. e.0) (λ e. e.0) (λ e. e.0) y))
at_step y =
    ap (λ (t : WalkTrace). t.walk) (fold-roll-Step Trace LinkTrace WalkTrace expr_trace link_trace step_trace (map-Step SuchExpr SuchLink SuchStep Expr Link Step (λ e. e.0) (λ e. e.0) (λ e. e.0) y))
    ∙ ap (steps y) (ap (map meaning_in) (map-twice (λ (e : SuchExpr). e.0) trace y.predicates) ∙ map-twice (λ (e : SuchExpr). trace e.0) meaning_in y.predicates ∙ map-alike (λ e. (trace e).meaning) meaning (λ e. e.1) y.predicates ∙ sym (map-twice (λ (e : SuchExpr). e.0) meaning y.predicates))
    ∙ sym (fold-roll-Step Meaning LinkMeaning Walk expr_meaning link_meaning step_walk (map-Step SuchExpr SuchLink SuchStep Expr Link Step (λ e. e.0) (λ e. e.0) (λ e. e.0) y))

pub meaning-of_trace : (e : Expr) → (trace e).meaning ≡ meaning e
meaning-of_trace = ind-Expr Same SameLink SameStep
    (λ x y is. subst (λ z. Same (roll-Expr z)) is (at_expr y))
    (λ x y is. subst (λ z. SameLink (roll-Link z)) is (at_link y))
    (λ x y is. subst (λ z. SameStep (roll-Step z)) is (at_step y))

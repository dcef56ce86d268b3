-- The settled contents of one model stand outside the part of another.
use Rattle.std.proofs.Common.{◌≡◌, ℕ, zero, suc, Bool, true, false, not, ◌||◌, List, [], ◌∷◌, map, length, refl, sym, ap, ◌∙◌}
use Rattle.std.specs.List.{list_any}
use Rattle.xf_def_forest.specs.declared.content.Node.{Node}
use Rattle.xf_def_forest.specs.Forest.{is_text, has_number}
use Rattle.xf_def_forest.specs.Visit.{Visit, visits, has}
use Rattle.xf_def_forest.specs.Shape.{erased}
use Rattle.xf_def_forest.proofs.OrderLaws.{filter-sub, map-sub, seen-has}
use Rattle.xf_def_forest.proofs.RenumberLaws.{map-map}
use Rattle.xf_def_xpath.specs.Agree.{untexted}
use Rattle.xf_def_xpath.proofs.VisitFacts.{present}
use Rattle.xf_def_xpath.proofs.AxisAgree.{has-sub}
use Rattle.xf_def_xpath.proofs.ForestVisits.{Each, each-filter}
use Rattle.xf_def_model.specs.Rules.{Scope, scope_of}
use Rattle.xf_def_model.specs.Applied.{Entry, is_calculate}
use Rattle.xf_def_model.specs.Settled.{Bounds, Contents, calculates, content_by, holding, round, rounds, settled_contents}
use Rattle.xf_def_model.specs.Pertinent.{AllOf}
use Rattle.xf_law_recalculation.specs.Agree.Settles.{IsSolid}
use Rattle.xf_law_recalculation.specs.Part.Whole.{SettledElsewhere}
use Rattle.xf_law_recalculation.proofs.HeldLemmas.Apart.{parts_apart}
use Rattle.xf_law_recalculation.proofs.PartLemmas.OfPart.{applied_stands_in_part}

-- a node that is no text is a node
solid-number : (nodes : List Node) (n : ℕ) → IsSolid (visits nodes) n → has_number n nodes ≡ true
solid-number nodes n s =
    sym (seen-has n [] nodes)
    ∙ ap (has n) (sym (map-map (λ (v : Visit). v.number) erased (visits nodes)))
    ∙ has-sub n (map-sub (λ (v : Visit). v.number) (filter-sub (λ (y : Visit). not (is_text y.content)) (map erased (visits nodes)))) (present n (untexted (map erased (visits nodes))) s.0 s.1)

module _ (out : ℕ → Bool) (b : Bounds) (scope : Scope) (entries : List Entry) (outside : Each (λ e. out e.node ≡ false) entries) where
  each-out : (ys : List Visit) (es : List Entry) → Each (λ e. out e.node ≡ false) es → list_any (λ (q : ℕ × List ℕ). out q.0) (map (content_by b scope ys) es) ≡ false
  each-out ys [] i = refl
  each-out ys (e ∷ es) i = ap (λ c. c || list_any (λ (q : ℕ × List ℕ). out q.0) (map (content_by b scope ys) es)) i.0 ∙ each-out ys es i.1

  rounds-out : (all : List Visit) (k : ℕ) (contents : Contents) → list_any (λ (q : ℕ × List ℕ). out q.0) contents ≡ false → list_any (λ (q : ℕ × List ℕ). out q.0) (rounds b scope entries all k contents) ≡ false
  rounds-out all zero contents h = h
  rounds-out all (suc k) contents h = rounds-out all k (round b scope entries all contents) (each-out (holding all contents) (calculates entries) (each-filter (λ e. out e.node ≡ false) is_calculate entries outside))

  pub settled-out : (all : List Visit) → list_any (λ (q : ℕ × List ℕ). out q.0) (settled_contents b scope entries all) ≡ false
  settled-out all = rounds-out all (length (calculates entries)) [] refl

each-of : (P Q : Entry → Type 0) (es : List Entry) → ((e : Entry) → P e → Q e) → AllOf P es → Each Q es
each-of P Q [] h i = tt
each-of P Q (e ∷ es) h i = (h e i.0, each-of P Q es h i.1)

pub settled_elsewhere : SettledElsewhere
settled_elsewhere b functions given documents tables instances model other part another whole entries h s different applies =
    settled-out (λ n. has_number n part.nodes) b (scope_of functions given tables other) entries
    (each-of (λ e. IsSolid (visits another.nodes) e.node) (λ e. has_number e.node part.nodes ≡ false) entries
    (λ e solid. parts_apart instances model other e.node part another whole h s.is_part s.present.trees different (solid-number another.nodes e.node solid))
    (applied_stands_in_part functions given documents tables instances other another whole entries s applies)) (visits whole.nodes)

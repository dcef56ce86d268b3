-- The settled contents of what is due may be written, and each passes no limit where the texts pass none.
use Rattle.std.proofs.Common.{◌≡◌, ℕ, ◌+◌, ◌^◌, ◌==◌, Bool, true, false, not, ◌&&◌, ◌||◌, List, [], ◌∷◌, map, length, refl, sym, ap, ◌∙◌, subst, arith}
use Rattle.std.specs.Prelude.{◌≤◌, nat_le}
use Rattle.std.specs.List.{list_any}
use Rattle.std.proofs.lemmas.Bool.Decides.{nat_tests}
use Rattle.std.proofs.lemmas.List.{length-map}
use Rattle.xf_def_syntax.specs.declared.form.Tables.{Tables}
use Rattle.xf_def_forest.specs.Forest.{Forest}
use Rattle.xf_def_forest.specs.Needs.{IsSettable}
use Rattle.xf_def_forest.specs.Shape.{shape}
use Rattle.xf_def_forest.specs.Visit.{visits, has}
use Rattle.xf_def_values.specs.Functions.{Functions}
use Rattle.xf_def_xpath.specs.Given.{Given}
use Rattle.xf_def_xpath.proofs.VisitFacts.{no, turned}
use Rattle.xf_def_model.specs.Rules.{Scope, scope_of}
use Rattle.xf_def_model.specs.Applied.{Entry, all_entries}
use Rattle.xf_def_model.specs.Settled.{Bounds, calculates, content_by, settled}
use Rattle.xf_def_model.specs.Pertinent.{AllOf}
use Rattle.xf_law_recalculation.specs.Agree.InTurn.{AreSingle}
use Rattle.xf_law_recalculation.specs.Agree.Settles.{IsStatic}
use Rattle.xf_law_recalculation.proofs.AgreeLemmas.FormInTurn.{single}
use Rattle.xf_law_recalculation.proofs.AgreeLemmas.FormSettable.{form_settable}
use Rattle.xf_law_recalculation.proofs.AgreeLemmas.FormSettled.{applied-parts, form_static, form_settles}
use Rattle.xf_law_forests.specs.Settle.Written.{nodes_of, are_different, AreSettable, MayWrite}
use Rattle.xf_law_recalculation.specs.Written.Turn.{contents_of}
use Rattle.xf_law_recalculation.specs.Since.Since.{IsDue}

module _ (made : Entry → ℕ × List ℕ) (of_made : (e : Entry) → (made e).0 ≡ e.node) where
  are-settable : (forest : Forest) (es : List Entry) → AllOf (λ e. IsSettable e.node forest) es → AreSettable (map made es) forest
  are-settable forest [] h = tt
  are-settable forest (e ∷ es) h = (subst (λ n. IsSettable n forest) (sym (of_made e)) h.0, are-settable forest es h.1)

  not-there : (n : ℕ) (es : List Entry) → list_any (λ f. f.node == n) es ≡ false → has n (nodes_of (map made es)) ≡ false
  not-there n [] h = refl
  not-there n (e ∷ es) h = let parts = or-none (e.node == n) (list_any (λ f. f.node == n) es) h in
      ap (λ m. (n == m) || has n (nodes_of (map made es))) (of_made e) ∙ ap (λ c. c || has n (nodes_of (map made es))) (turned n e.node ∙ parts.0) ∙ not-there n es parts.1
    where
      or-none : (a b : Bool) → (a || b) ≡ false → (a ≡ false) × (b ≡ false)
      or-none true b i = no (sym i)
      or-none false b i = (refl, i)

  different : (es : List Entry) → AreSingle es → are_different (nodes_of (map made es)) ≡ true
  different [] h = refl
  different (e ∷ es) h =
      ap (λ n. not (has n (nodes_of (map made es))) && are_different (nodes_of (map made es))) (of_made e)
      ∙ ap (λ c. not c && are_different (nodes_of (map made es))) (not-there e.node es h.0) ∙ different es h.1

module _ (b : Bounds) (functions : Functions) (given : Given) (tables : Tables) (model : ℕ) (now : Forest) (entries : List Entry) (due : IsDue b functions given tables model now entries) where
  abbrev scope : Scope
  scope = scope_of functions given tables model

  pub each-static : AllOf (IsStatic scope now) (calculates entries)
  each-static = form_static b functions given tables model now entries due.covered due.around due.applies

  pub each-settable : AllOf (λ e. IsSettable e.node now) (calculates entries)
  each-settable = form_settable b functions given tables model now entries due.covered due.around due.applies

  pub are-single : AreSingle (calculates entries)
  are-single =
      let parts = applied-parts b functions given tables model now entries due.covered due.around due.applies in
      subst (λ xs. AreSingle (calculates xs)) parts.1 (single (shape (visits now.nodes)) [] (all_entries scope (shape (visits now.nodes))) parts.0)

  abbrev pub made_by : Entry → ℕ × List ℕ
  made_by = content_by b scope (settled b scope entries (visits now.nodes))

  pub are-made : contents_of b functions given tables model now entries ≡ map made_by (calculates entries)
  are-made = form_settles b functions given tables model now entries due.covered due.around due.applies due.acyclic

  pub count-is : length (contents_of b functions given tables model now entries) ≡ length (calculates entries)
  count-is = ap length are-made ∙ length-map (calculates entries) made_by

  pub may-write : MayWrite now.next (contents_of b functions given tables model now entries) now
  may-write = subst (λ c. MayWrite now.next c now) (sym are-made) (record {
    trees = due.around.trees;
    settable = are-settable made_by (λ e. refl) now (calculates entries) each-settable;
    different = different made_by (λ e. refl) (calculates entries) are-single;
    later = omega arith;
  })

  -- the numbers of what may be written are such as may be taken
  pub last-small : nat_le (now.next + length (contents_of b functions given tables model now entries)) (2 ^ 127) ≡ true
  last-small = ap (λ k. nat_le (now.next + k) (2 ^ 127)) count-is ∙ due.room

  pub room-left : now.next + length (contents_of b functions given tables model now entries) ≤ 2 ^ 128
  room-left = let small = last-small in grind (arith, nat_tests, small)
